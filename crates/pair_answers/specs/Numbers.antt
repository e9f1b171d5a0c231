-- The rows of both tables of a pair, numbered atom by atom in block order.
use Rattle.std.specs.Prelude.{◌≡◌, ℕ, List, [], ◌∷◌, ◌++◌, length, map, slice_index_or}
use Rattle.cqa_value.specs.declared.value.Value.{Value}
use Rattle.cqa_model.specs.declared.query.Query.{Query}
use Rattle.cqa_model.specs.Query.{atom_key, rows_of}
use Rattle.cqa_model.specs.Blocks.{AreBlocks}
use Rattle.cqa_model.specs.Plan.{Placed}
use Rattle.weak_pairs.specs.Starts.{ends_from}

abbrev pub placed_in : ℕ → List (List Value) → List Placed
placed_in F rows = map (λ x. record { atom = F; row = x }) rows

-- the rows of both atoms, one after the other
abbrev pub numbered : Query → List (List (List Value)) → List Placed
numbered q tables = placed_in 0 (rows_of q tables 0) ++ placed_in 1 (rows_of q tables 1)

-- the row of a number
abbrev pub place_of : Query → List (List (List Value)) → ℕ → Placed
place_of q tables i = slice_index_or (numbered q tables) i (record { atom = 0; row = [] })

-- where the blocks of both tables begin, of which so many are the first atom's
pub record AreRowStarts (q : Query) (tables : List (List (List Value))) (first : List ℕ) (split : ℕ) : Type 0 where
  pub left : List (List (List Value))
  pub right : List (List (List Value))
  pub left_are : AreBlocks (atom_key q 0) (rows_of q tables 0) left
  pub right_are : AreBlocks (atom_key q 1) (rows_of q tables 1) right
  pub is : first ≡ 0 ∷ (ends_from 0 left ++ ends_from (length (rows_of q tables 0)) right)
  pub split_is : split ≡ length left
