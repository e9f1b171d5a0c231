use Rattle.std.proofs.Common.{◌≡◌, ◌<◌, ◌++◌, ◌∷◌, [], length, ◌∙◌, sym, ap, subst, nat_eq, Contains}
use Rattle.std.specs.Map.{keys_of, values_of}
use Rattle.std.specs.Cmp.Lexicographic.{pointwise}
use Rattle.indexmap.proofs.CallerLemmas.{insert_entry-new}
use Rattle.cqa_model.specs.Database.{names_of}
use Rattle.table_blocks.proofs.Naming.{AreNamed, name_absent, named_push}
use Rattle.table_blocks.proofs.database.Database.create.Goals as goal

pushed : (c : goal.Joined-branch-3) → AreNamed c.insert.new.self.entries × (values_of c.insert.new.self.entries ≡ values_of c.self.inside.tables.entries ++ (record { schema = c.args.schema; rows = [] }) ∷ [])
pushed c =
    let es = c.self.inside.tables.entries in
    let other : Contains (names_of (values_of es)) c.args.schema.name → ⊥ = subst (λ db. Contains (names_of db) c.args.schema.name → ⊥) (sym c.self.view_is) c.requires.other in
    let absent = name_absent c.in_ok-name.name es (λ h. other (subst (λ ks. Contains ks c.args.schema.name) c.self.invariant.0 (subst (Contains (keys_of es)) c.in_ok-name.ensures h))) in
    named_push es c.insert.new.self.entries c.in_ok-name.name c.args.schema c.new.result c.self.invariant (subst (λ db. length db < 64) (sym c.self.view_is) c.requires.room) other
    c.in_ok-name.ensures c.new.ensures (c.in_ok-insert.ensures.entries ∙ insert_entry-new (pointwise nat_eq) c.self.inside.tables c.in_ok-name.name c.new.result absent)

pub invariant_of-self-2 : goal.invariant_of-self-2
invariant_of-self-2 c = (pushed c).0

pub returns-clause-ok : goal.returns-clause-ok
returns-clause-ok c = (pushed c).1 ∙ ap (λ db. db ++ (record { schema = c.args.schema; rows = [] }) ∷ []) c.self.view_is

pub returns-clause-stored : goal.returns-clause-stored
returns-clause-stored c = (pushed c).0.1
