-- Why a row is certain for a query that has a plan, or why it isn't.
use Rattle.std.specs.Prelude.{◌≡◌, ℕ, ◌<◌, List, [], length, slice_index_or}
use Rattle.cqa_value.specs.declared.value.Value.{Value}
use Rattle.cqa_model.specs.declared.query.Query.{Query}
use Rattle.cqa_model.specs.Database.{Table, key_of}
use Rattle.cqa_model.specs.Query.{atom_at, atom_key}
use Rattle.cqa_model.specs.Certain.{IsCertain}
use Rattle.cqa_model.specs.Plan.{IsPlanOf}
use Rattle.fo_plan.specs.FirstBlock.{IsFirstBlock}
use Rattle.table_blocks.specs.Tables.{AreStored}
use Rattle.repair_back.specs.Rejected.{AreRejectingRows}
use Rattle.repair_back.specs.declared.reason.Reason.{Reason}
use Rattle.repair_back.specs.declared.reason.Reason.TheVariants.{ByBlock, Rejected, Refuted}

-- the first atom of a plan
abbrev pub first_of_plan : List ℕ → ℕ
first_of_plan plan = slice_index_or plan 0 0

-- The row is certain by the first block, in block order, of the plan's first atom all of whose rows fit it, and for each
-- of which the rest of the plan holds (Koutris and Wijsen, ACM TODS 2017): the place of its table, and its key values.
pub record IsByBlock (db : List Table) (q : Query) (row : List Value) (table : ℕ) (key : List Value) : Type 0 where
  pub certain : IsCertain db q row
  pub plan : List ℕ
  pub is_plan : IsPlanOf q plan
  pub block : List (List Value)
  pub first : IsFirstBlock db q row plan block
  pub of_first : table ≡ (atom_at q (first_of_plan plan)).table
  pub keyed : key ≡ key_of (atom_key q (first_of_plan plan)) (slice_index_or block 0 [])

-- what a plan tells of a row: a block, or a repair
abbrev pub IsPlanReason : List Table → Query → List Value → Reason → Type 0
IsPlanReason db q row (ByBlock table key) = IsByBlock db q row table key × (table < length db)
IsPlanReason db q row (Rejected names) = AreRejectingRows db q row names × AreStored db names
IsPlanReason db q row (Refuted cnf log) = ⊥
