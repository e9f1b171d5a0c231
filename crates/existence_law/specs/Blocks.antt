-- Where a row is certain for a query that has a plan, a block says so.
use Rattle.std.specs.Prelude.{ℕ, List}
use Rattle.cqa_value.specs.declared.value.Value.{Value}
use Rattle.cqa_model.specs.declared.query.Query.{Query}
use Rattle.cqa_model.specs.Database.{Table, IsDatabase}
use Rattle.cqa_model.specs.Query.{FitsDatabase}
use Rattle.cqa_model.specs.Certain.{IsCertain}
use Rattle.cqa_model.specs.Plan.{IsPlanOf}
use Rattle.fo_plan.specs.FirstBlock.{IsFirstBlock}

-- Where a row is certain for a query that has a plan, there is a first block by which the plan holds.
abbrev pub FirstBlocksExist : Type 0
FirstBlocksExist = (db : List Table) (q : Query) (row : List Value) (plan : List ℕ) → IsDatabase db → FitsDatabase q db → IsPlanOf q plan → IsCertain db q row → (block : List (List Value)) × IsFirstBlock db q row plan block
