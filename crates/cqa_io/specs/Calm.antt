-- Devices that never fail, as their callers see them.
use Rattle.std.specs.Prelude.{◌≡◌, ℕ, ◌+◌, ◌-◌, ◌^◌, min, List, length, Result, Ok}
use Rattle.cqa_io.specs.declared.streams.Failed.{Failed}

-- the bytes left of a source that never fails
pub record CalmView : Type 0 where
  pub left : List ℕ

-- A sink that only counts takes a piece whole and adds its length. The count stands still at 2^64 - 1.
pub record CountsPiece (old : ℕ) (bytes : List ℕ) (result : Result ℕ Failed) (new : ℕ) : Type 0 where
  pub taken : result ≡ Ok (length bytes)
  pub counted : new ≡ min (old + length bytes) (2 ^ 64 - 1)
