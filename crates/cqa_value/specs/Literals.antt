-- How values and rows are written, and which integer a text writes.
use Rattle.std.specs.Prelude.{ℕ, ◌^◌, Bool, false, nat_lt, ◌==◌, if◌then◌else◌, ◌&&◌, List, [], ◌∷◌, ◌++◌, drop, slice_index, ℤ, pos, negsuc, neg_ℤ, Option, Some, None, codes}
use Rattle.std.specs.Fmt.{signed_decimal}
use Rattle.std.specs.List.{flat_map, join_by}
use Rattle.std.specs.Str.{all_ascii_digits}
use Rattle.std.specs.Str.Parse.{digits_value}
use Rattle.cqa_value.specs.declared.value.Value.{Value}
use Rattle.cqa_value.specs.declared.value.Value.TheVariants.{Int, Text}

-- one decimal digit or more
abbrev pub are_digits : List ℕ → Bool
are_digits [] = false
are_digits (digit ∷ digits) = all_ascii_digits (digit ∷ digits)

-- a `-` (45) stands first
abbrev pub has_minus : List ℕ → Bool
has_minus text = slice_index text 0 == 45

-- the text after its `-`, or all of it
abbrev pub without_minus : List ℕ → List ℕ
without_minus text = if has_minus text then drop 1 text else text

-- the number that the digits write, below zero after a `-`
abbrev pub integer_of : List ℕ → ℤ
integer_of text = let number = pos (digits_value 10 (without_minus text)) in if has_minus text then neg_ℤ number else number

-- from -2^63 to 2^63 - 1; `negsuc n` is -(n + 1)
abbrev pub is_in_range : ℤ → Bool
is_in_range (pos n) = nat_lt n (2 ^ 63)
is_in_range (negsuc n) = nat_lt n (2 ^ 63)

-- the integer in range that an optional `-` and one or more digits write
abbrev pub int_of : List ℕ → Option ℤ
int_of text = if are_digits (without_minus text) && is_in_range (integer_of text) then Some (integer_of text) else None

-- the bytes of a text with each quote (39) doubled
abbrev pub doubled : List ℕ → List ℕ
doubled bytes = flat_map (λ byte. if byte == 39 then byte ∷ byte ∷ [] else byte ∷ []) bytes

-- an integer is written in decimal, a text between quotes
abbrev pub literal_bytes : Value → List ℕ
literal_bytes (Int n) = signed_decimal n
literal_bytes (Text bytes) = codes "'" ++ doubled bytes ++ codes "'"

-- a row is written in parentheses, with a comma and a space between two literals
abbrev pub row_bytes : List Value → List ℕ
row_bytes row = codes "(" ++ join_by literal_bytes (codes ", ") row ++ codes ")"
