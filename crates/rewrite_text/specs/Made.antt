-- The tree of blocks that a plan makes over tables.
use Rattle.std.specs.Prelude.{◌≡◌, ℕ, List, [], ◌∷◌}
use Rattle.std.specs.List.{AllZip}
use Rattle.cqa_value.specs.declared.value.Value.{Value}
use Rattle.cqa_model.specs.declared.query.Query.{Query}
use Rattle.cqa_model.specs.Query.{atom_key, rows_of}
use Rattle.cqa_model.specs.Plan.{Placed}
use Rattle.plan_rows.specs.Links.{RowHolds}
use Rattle.fo_plan.specs.FirstBlock.{IsFirstWith}
use Rattle.block_tree.specs.declared.node.Node.{Node}
use Rattle.block_tree.specs.Trees.{listing}

-- The tree of a plan, where rows of other atoms were taken: of the plan's first atom the first block each of whose rows
-- fits and has the rest of the plan hold, and behind it, for each of its rows, the tree of that rest. For no atoms, nothing.
abbrev pub IsMade : Query → List (List (List Value)) → List Value → List Placed → List ℕ → List Node → Type 0
IsMade q tables row taken [] nodes = nodes ≡ []
IsMade q tables row taken (F ∷ plan) nodes =
    (rows : List (List Value)) × (parts : List (List Node)) × (nodes ≡ (record { atom = F; rows = rows }) ∷ listing parts) ×
    IsFirstWith (atom_key q F) (rows_of q tables F) (RowHolds q tables row taken F plan) rows ×
    AllZip (λ x part. IsMade q tables row (record { atom = F; row = x } ∷ taken) plan part) rows parts
