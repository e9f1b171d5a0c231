-- The weights of lists, as the tokens of a line tell them.
use Rattle.std.specs.Prelude.{ℕ, ◌&&◌, cond, Bool, true, false, List, [], ◌∷◌, map, Option, Some, None, Result, Ok, Err, ℤ, pos}
use Rattle.block_choices.specs.declared.row.BlockRow.{BlockRow}
use Rattle.choice_values.specs.Values.{Weighted}
use Rattle.cqa_value.specs.Literals.{int_of}
use Rattle.group_text.specs.declared.fault.Fault.{Fault}
use Rattle.group_text.specs.declared.fault.Fault.TheVariants.{BadWeight}
use Rattle.group_text.specs.declared.wanted.Wanted.{Wanted}
use Rattle.group_text.specs.declared.wanted.Wanted.TheVariants.{Verdicts, Reasons, Ranges}
use Rattle.group_text.specs.Saying.{is_word}

-- lists may have weights
abbrev pub weighs : Wanted → Bool
weighs Verdicts = false
weighs Reasons = false
weighs Ranges = true

-- where lists may have weights, the tokens before the first `=` (61), and those from it on
abbrev pub before_weight : Bool → List (List ℕ) → List (List ℕ)
before_weight may [] = []
before_weight may (t ∷ ts) = cond (may && is_word 61 t) [] (t ∷ before_weight may ts)

abbrev pub from_weight : Bool → List (List ℕ) → List (List ℕ)
from_weight may [] = []
from_weight may (t ∷ ts) = cond (may && is_word 61 t) (t ∷ ts) (from_weight may ts)

-- the weight that is written, an integer of 64 bits
abbrev pub weight_by : Option ℤ → Result ℤ Fault
weight_by None = Err BadWeight
weight_by (Some w) = Ok w

-- the weight that these tokens tell: `=` and one token more; where there are none it is 1
abbrev pub weight_of : List (List ℕ) → Result ℤ Fault
weight_of [] = Ok (pos 1)
weight_of (t ∷ []) = Err BadWeight
weight_of (t ∷ n ∷ []) = weight_by (int_of n)
weight_of (t ∷ n ∷ m ∷ ts) = Err BadWeight

-- the rows of each list
abbrev pub names_in : List Weighted → List (List BlockRow)
names_in lists = map (λ l. l.names) lists
