-- The first block by which a plan holds.
use Rattle.std.proofs.Common.{◌<◌, ℕ, List, [], ◌∷◌, length, Contains}
use Rattle.std.proofs.lemmas.List.Elements.{Contains-append_right}
use Rattle.cqa_value.specs.declared.value.Value.{Value}
use Rattle.cqa_model.specs.declared.query.Query.{Query}
use Rattle.cqa_model.specs.Database.{Table}
use Rattle.cqa_model.proofs.Classic.{mem-head}
use Rattle.fo_plan.specs.FirstBlock.{IsFirstBlock}
use Rattle.plan_reasons.specs.Reasons.{first_of_plan}

-- the block that was found has a row
pub first-some : (db : List Table) (q : Query) (row : List Value) (plan : List ℕ) (block : List (List Value)) → IsFirstBlock db q row plan block → 0 < length block
first-some db q row [] block f = absurd f
first-some db q row (F ∷ plan) block f = f.blocks.some block (Contains-append_right f.before (block ∷ f.behind) block (mem-head block f.behind))

-- and it is of an atom of the query
pub first-atom : (db : List Table) (q : Query) (row : List Value) (plan : List ℕ) (block : List (List Value)) → IsFirstBlock db q row plan block → ((F : ℕ) → Contains plan F → F < length q.atoms) → first_of_plan plan < length q.atoms
first-atom db q row [] block f h = absurd f
first-atom db q row (F ∷ plan) block f h = h F (mem-head F plan)
