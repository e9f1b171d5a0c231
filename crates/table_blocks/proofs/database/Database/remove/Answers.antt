use Rattle.std.proofs.Common.{◌≡◌, ◌≤◌, ◌∙◌, sym, ap, subst, length, Some, slice_get, slice_set}
use Rattle.cqa_model.specs.declared.schema.Schema.{Schema}
use Rattle.cqa_model.proofs.Places.{rows-at}
use Rattle.table_blocks.specs.Tables.{IsSpared}
use Rattle.table_blocks.proofs.Changing.{set_with_rows}
use Rattle.table_blocks.proofs.Naming.{named_less, at_place, values_set}
use Rattle.table_blocks.proofs.database.Database.remove.Goals as goal

pub invariant_of-self : goal.invariant_of-self
invariant_of-self c =
    named_less c.self.inside.tables.entries c.args.table c.in-Some.found.now c.remove.new.self c.self.invariant (sym c.in-Some.ensures.value) (ap (λ (s : Schema). s.name) c.remove.ensures.schema) c.remove.ensures.table c.remove.ensures.valid c.remove.ensures.fewer

pub returns-clause-spared : goal.returns-clause-spared
returns-clause-spared c =
    let found = subst (λ db. slice_get db c.args.table ≡ Some c.in-Some.found.now) c.self.view_is (sym c.in-Some.ensures.value) in
    let w = c.remove.new.self in (
      w.rows,
      at_place (λ key rows. IsSpared key rows c.args.tests.now w.rows) c.args.self.now c.args.table c.in-Some.found.now found c.remove.ensures.spared,
      values_set c.self.inside.tables.entries c.args.table w ∙ ap (λ db. slice_set db c.args.table w) c.self.view_is ∙ set_with_rows c.in-Some.found.now w c.remove.ensures.schema c.args.self.now c.args.table found,
      subst (λ rows. length w.rows ≤ length rows) (sym (rows-at c.args.self.now c.args.table c.in-Some.found.now found)) c.remove.ensures.fewer,
    )

pub returns-clause-stored : goal.returns-clause-stored
returns-clause-stored c = (invariant_of-self c).1
