-- Which values and rows there can be: what the program's types keep.
use Rattle.std.specs.Prelude.{◌≤◌, ℕ, List, length, All, FitsSigned, IsUtf8}
use Rattle.std.specs.Int.{w64}
use Rattle.cqa_value.specs.declared.value.Value.{Value}
use Rattle.cqa_value.specs.declared.value.Value.TheVariants.{Int, Text}
use Rattle.cqa_value.specs.declared.name.TheConstants.{LONGEST_TEXT_VALUE}

-- a text of UTF-8 that is short enough
pub record IsValidText (bytes : List ℕ) : Type 0 where
  pub utf8 : IsUtf8 bytes
  pub short : length bytes ≤ LONGEST_TEXT_VALUE

-- an integer of 64 bits, or such a text
abbrev pub IsValidValue : Value → Type 0
IsValidValue (Int n) = FitsSigned w64 n
IsValidValue (Text bytes) = IsValidText bytes

-- a row of such values
abbrev pub IsValidRow : List Value → Type 0
IsValidRow row = All IsValidValue row
