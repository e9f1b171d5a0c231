-- The first block, in block order, by which a plan holds: whether one does is decided.
use Rattle.std.proofs.Common.{ℕ, List, [], ◌∷◌, arith}
use Rattle.cqa_value.specs.declared.value.Value.{Value}
use Rattle.cqa_value.proofs.Words.{dec_both}
use Rattle.cqa_model.specs.declared.query.Query.{Query}
use Rattle.cqa_model.specs.Database.{Table, IsDatabase, stored}
use Rattle.cqa_model.specs.Query.{atom_key, rows_of, FitsDatabase}
use Rattle.cqa_model.specs.Plan.{HoldsOver, IsPlanOf}
use Rattle.cqa_model.proofs.Databases.{possible_is_candidate, rewriting_is_exact}
use Rattle.cqa_model.proofs.Decisions.{dec_fits, dec_plan}
use Rattle.plan_rows.specs.Links.{RowHolds}
use Rattle.fo_plan.specs.FirstBlock.{IsFirstBlock}
use Rattle.existence_law.specs.Blocks.{FirstBlocksExist}
use Rattle.fo_plan.proofs.Certainty.{candidate-length}
use Rattle.fo_plan.proofs.First.{rows-in_order, some-first}

held_by : (db : List Table) (q : Query) (row : List Value) → IsDatabase db → FitsDatabase q db → (plan : List ℕ) → IsPlanOf q plan → HoldsOver db q row plan → (block : List (List Value)) × IsFirstBlock db q row plan block
held_by db q row valid fits [] is h = absurd (is 0 (let some = q.kept.size.0 in omega (arith, some)))
held_by db q row valid fits (F ∷ plan) is h =
    some-first (atom_key q F) (rows_of q (stored db) F) (RowHolds q (stored db) row [] F plan) (λ y. dec_both (dec_fits q row [] F y) (dec_plan q (stored db) row (record { atom = F; row = y } ∷ []) plan))
    (rows-in_order db q valid fits F is.0) h

pub first_blocks_exist : FirstBlocksExist
first_blocks_exist db q row plan valid fits is certain =
    let candidate = possible_is_candidate.certain db q row fits certain in
    held_by db q row valid fits plan is ((rewriting_is_exact db q row plan fits (candidate-length db q row candidate) is).1 certain)
