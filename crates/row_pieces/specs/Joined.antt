-- Rows that are held in pieces.
use Rattle.std.specs.Prelude.{◌≡◌, ◌+◌, ◌≤◌, ◌<◌, ◌^◌, ℕ, List, [], ◌∷◌, length, take}
use Rattle.std.specs.List.{flat_map}
use Rattle.cqa_value.specs.declared.value.Value.{Value as Cell}
use Rattle.row_pieces.specs.declared.piece.Piece.{Piece}

-- the rows of pieces, one piece after the other
abbrev pub joined : List Piece → List (List Cell)
joined pieces = flat_map (λ piece. piece.rows) pieces

-- each piece has the place of its first row, where the first piece begins at a place
abbrev pub ArePlaced : ℕ → List Piece → Type 0
ArePlaced place [] = Unit {0}
ArePlaced place (piece ∷ pieces) = (piece.start ≡ place) × ArePlaced (place + length piece.rows) pieces

-- the piece of a number is the one for a place among pieces that begin at another: no piece behind it begins before the place
pub record IsPieceOf (from : ℕ) (pieces : List Piece) (place number : ℕ) : Type 0 where
  pub within : number < length pieces
  pub above : from + length (joined (take number pieces)) ≤ place
  pub below : place ≤ from + length (joined (take (number + 1) pieces))
  pub inside : place < from + length (joined pieces) → place < from + length (joined (take (number + 1) pieces))

-- so many rows, from the front of some rows and the pieces behind them, where the first of them stands at a place
pub record AreRows (front : List (List Cell)) (place : ℕ) (pieces : List Piece) (count : ℕ) : Type 0 where
  pub numbered : ArePlaced (place + length front) pieces
  pub enough : count ≤ length front + length (joined pieces)
  pub fits : place + count < 2 ^ 64

-- the first so many pieces have their places, and a place is among them
pub record HasPlacesTo (pieces : List Piece) (end place : ℕ) : Type 0 where
  pub some : 0 < end
  pub within : end ≤ length pieces
  pub numbered : ArePlaced 0 (take end pieces)
  pub there : place ≤ length (joined (take end pieces))
