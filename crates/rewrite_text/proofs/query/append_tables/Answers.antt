use Rattle.std.proofs.Common.{◌≡◌, ◌∷◌, ◌++◌, ◌∙◌, Contains, ap, codes, rules, subst, sym}
use Rattle.std.specs.List.{flat_map, join_by}
use Rattle.std.proofs.lemmas.Result.{on_ok_weaker}
use Rattle.cqa_model.specs.declared.query.Atom.{Atom}
use Rattle.cqa_model.proofs.Classic.{mem-head, mem-tail}
use Rattle.rewrite_text.specs.Texts.{name_at}
use Rattle.rewrite_text.proofs.Drafting.{two_parts}
use Rattle.rewrite_text.proofs.query.append_tables.Goals as goal

pub append_table-requires : goal.append_table-requires
append_table-requires c =
    let e : c.args.atoms.now ≡ c.in-Some.first.now ∷ c.in-Some.rest.now = search rules in
    c.requires c.in-Some.first.now (subst (λ z. Contains z c.in-Some.first.now) (sym e) (mem-head c.in-Some.first.now c.in-Some.rest.now))

pub append_more_tables-requires : goal.append_more_tables-requires
append_more_tables-requires c =
    let e : c.args.atoms.now ≡ c.in-Some.first.now ∷ c.in-Some.rest.now = search rules in
    λ k m. c.requires k (subst (λ z. Contains z k) (sym e) (mem-tail k c.in-Some.first.now c.in-Some.rest.now m))

pub returns : goal.returns
returns c =
    let e : c.args.atoms.now ≡ c.in-Some.first.now ∷ c.in-Some.rest.now = search rules in
    let db = c.args.db.now in
    let old = c.args.out.now.items in
    on_ok_weaker c.append_more_tables.result (λ h. two_parts old (name_at db c.in-Some.first.now.table) (flat_map (λ (atom : Atom). codes ", " ++ name_at db atom.table) c.in-Some.rest.now)
    c.append_table.new.out.items c.append_more_tables.new.out.items c.in_ok-append_table.ensures h ∙ ap (λ z. old ++ join_by (λ (atom : Atom). name_at db atom.table) (codes ", ") z) (sym e)) c.append_more_tables.ensures
