use Rattle.std.proofs.Common.{◌∙◌, ap, sym, length, arith, false, slice_set}
use Rattle.cqa_model.specs.Database.{Table}
use Rattle.table_blocks.proofs.Changing.{set_with_mark}
use Rattle.table_blocks.proofs.Naming.{found_in, named_less, values_set}
use Rattle.table_blocks.proofs.database.Database.drop_strict.Goals as goal

pub invariant_of-self : goal.invariant_of-self
invariant_of-self c =
    named_less c.self.inside.tables.entries c.args.table c.in-Some.found.now c.drop_strict.new.self c.self.invariant (sym c.in-Some.ensures.value) (ap (λ (t : Table). t.schema.name) c.drop_strict.ensures.is) c.drop_strict.ensures.table c.drop_strict.ensures.valid (let same = ap (λ (t : Table). length t.rows) c.drop_strict.ensures.is in omega (arith, same))

pub returns-clause-stored : goal.returns-clause-stored
returns-clause-stored c = (invariant_of-self c).1

pub returns-clause-is : goal.returns-clause-is
returns-clause-is c =
    let w = c.drop_strict.new.self in
    values_set c.self.inside.tables.entries c.args.table w ∙ ap (λ db. slice_set db c.args.table w) c.self.view_is
    ∙ ap (λ t. slice_set c.args.self.now c.args.table t) c.drop_strict.ensures.is ∙ set_with_mark c.in-Some.found.now false c.args.self.now c.args.table (found_in _ c.args.self.now c.args.table c.in-Some.found.now c.self.view_is c.in-Some.ensures.value)
