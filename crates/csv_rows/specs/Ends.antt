-- Which rows can't stand in a block, since a line of theirs would end it.
use Rattle.std.specs.Prelude.{ℕ, Bool, false, List, [], ◌∷◌, ◌||◌, nat_eq, codes, not}
use Rattle.std.specs.List.{filter, list_any, starts_with}
use Rattle.cqa_value.specs.declared.value.Value.{Value}
use Rattle.cqa_value.specs.declared.value.Value.TheVariants.{Int, Text}

-- a line feed, a line that ends a block (`\.`, or `\.` and a carriage return), and a line feed
abbrev pub begins_with_end : List ℕ → Bool
begins_with_end bytes = starts_with nat_eq bytes (codes "\n\\.\n") || starts_with nat_eq bytes (codes "\n\\.\r\n")

-- a line of the bytes between two line feeds ends a block
abbrev pub has_end : List ℕ → Bool
has_end [] = false
has_end (byte ∷ bytes) = begins_with_end (byte ∷ bytes) || has_end bytes

abbrev pub value_has_end : Value → Bool
value_has_end (Int number) = false
value_has_end (Text bytes) = has_end bytes

abbrev pub row_has_end : List Value → Bool
row_has_end row = list_any value_has_end row

-- the rows that can stand in a block, and the others
abbrev pub plain_rows : List (List Value) → List (List Value)
plain_rows rows = filter (λ row. not (row_has_end row)) rows

abbrev pub other_rows : List (List Value) → List (List Value)
other_rows rows = filter row_has_end rows
