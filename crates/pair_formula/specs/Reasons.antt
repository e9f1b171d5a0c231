-- Why a row of a pair is certain, or why it isn't.
use Rattle.std.specs.Prelude.{List}
use Rattle.cqa_value.specs.declared.value.Value.{Value}
use Rattle.cqa_model.specs.declared.query.Query.{Query}
use Rattle.cqa_model.specs.declared.query.RowId.{RowId}
use Rattle.cqa_model.specs.Database.{Table}
use Rattle.join_access.specs.Listing.{HasTooMany}
use Rattle.repair_back.specs.declared.reason.Reason.{Reason}
use Rattle.repair_back.specs.declared.reason.Reason.TheVariants.{ByBlock, Rejected, Refuted}
use Rattle.table_blocks.specs.Tables.{AreStored}
use Rattle.repair_back.specs.Rejected.{AreRejectingRows}
use Rattle.pair_formula.specs.Proving.{IsRefutedInOrder}

-- a repair without a witness, or the row's formula with a refutation, where it is within the limit of witnesses
abbrev pub IsPairReason : List Table → Query → List Value → Reason → Type 0
IsPairReason db q row (ByBlock table key) = ⊥
IsPairReason db q row (Rejected names) = AreRejectingRows db q row names × AreStored db names
IsPairReason db q row (Refuted cnf log) = (HasTooMany q db row → ⊥) × ((rows : List RowId) × IsRefutedInOrder db q row (record { formula = record { cnf = cnf; rows = rows }; log = log }))
