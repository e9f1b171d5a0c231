-- Marks of values: numbers that tell the order of most values.
use Rattle.std.specs.Prelude.{◌≡◌, ◌<◌, ◌+◌, ◌-◌, ◌*◌, ℕ, zero, suc, pos, negsuc, Bool, true, false, min, nat_le, if◌then◌else◌, List, [], ◌∷◌, slice_index_or}
use Rattle.std.specs.declared.cmp.Ordering.TheVariants.{Less, Greater}
use Rattle.cqa_value.specs.declared.value.Value.{Value}
use Rattle.cqa_value.specs.declared.value.Value.TheVariants.{Int, Text}
use Rattle.cqa_value.specs.Values.{nothing, value_cmp}
use Rattle.row_pieces.specs.declared.mark.TheConstants.{TOLD, ROOM, HALF, ZERO, TEXTS}

-- the first byte of a text, or 0 where there is none; no text has a byte above 255
abbrev pub first_byte : List ℕ → ℕ
first_byte [] = 0
first_byte (byte ∷ bytes) = min byte 255

-- the bytes behind it; what is no byte stays, so that all that follows is as great as can be
abbrev pub later_bytes : List ℕ → List ℕ
later_bytes [] = []
later_bytes (byte ∷ bytes) = if nat_le byte 255 then bytes else byte ∷ bytes

-- a number in base 256 that goes on with so many first bytes of a text
abbrev pub with_bytes : ℕ → ℕ → List ℕ → ℕ
with_bytes number zero bytes = number
with_bytes number (suc count) bytes = with_bytes (number * 256 + first_byte bytes) count (later_bytes bytes)

-- the part of a mark that a second value tells: an integer between two bounds tells itself
abbrev pub value_part : Value → ℕ
value_part (Int (pos number)) = HALF + min number (HALF - 1)
value_part (Int (negsuc number)) = HALF - suc number
value_part (Text bytes) = ROOM - 1

-- the mark of a value with a part: an integer between two bounds tells itself, a small one that isn't below 0 has room for the part
-- too, and a text tells its first bytes; no text has a lower mark than an integer
abbrev pub value_mark : Value → ℕ → ℕ
value_mark (Int (pos number)) part = (ZERO + min (min number ROOM * ROOM + part) ZERO) + min (number - ROOM) (ZERO - 1)
value_mark (Int (negsuc number)) part = ZERO - suc number
value_mark (Text bytes) part = TEXTS + with_bytes 0 TOLD bytes

-- the first value of a row
abbrev pub first_value : List Value → Value
first_value row = slice_index_or row 0 nothing

-- the second value of a row
abbrev pub second_value : List Value → Value
second_value row = slice_index_or row 1 nothing

-- the mark of a row is that of its first value, with the part of its second one
abbrev pub row_mark : List Value → ℕ
row_mark row = value_mark (first_value row) (value_part (second_value row))

-- a test that holds of each row whose first value is below a value, and fails of each whose first value is above it
pub record FollowsFirst (value : Value) (p : List Value → Bool) : Type 0 where
  pub below : (row : List Value) → value_cmp (first_value row) value ≡ Less → p row ≡ true
  pub above : (row : List Value) → value_cmp (first_value row) value ≡ Greater → p row ≡ false

-- a test that, of rows with a first value, holds of each whose second value is below a value, and fails of each whose second value
-- is above it
pub record FollowsSecond (value second : Value) (p : List Value → Bool) : Type 0 where
  pub below : (row : List Value) → first_value row ≡ value → value_cmp (second_value row) second ≡ Less → p row ≡ true
  pub above : (row : List Value) → first_value row ≡ value → value_cmp (second_value row) second ≡ Greater → p row ≡ false

-- a test that holds of each row whose mark is below a mark
abbrev pub PassesBelow : ℕ → (List Value → Bool) → Type 0
PassesBelow mark p = (row : List Value) → row_mark row < mark → p row ≡ true

-- a test that fails of each row whose mark is above a mark
abbrev pub FailsAbove : ℕ → (List Value → Bool) → Type 0
FailsAbove mark p = (row : List Value) → mark < row_mark row → p row ≡ false
