-- Names of rows: `B:R`, the number of a block and that of a row in it, both from 1.
use Rattle.std.specs.Prelude.{ℕ, ◌+◌, ◌-◌, ◌≤◌, ◌==◌, ◌&&◌, cond, Bool, nat_lt, List, [], ◌∷◌, ◌++◌, length, Contains, Option, Some, None, Result, Ok, Err, slice_index}
use Rattle.block_choices.specs.declared.row.BlockRow.{BlockRow}
use Rattle.block_choices.specs.Choices.{IsThere}
use Rattle.cnf_form.specs.Formulas.{both}
use Rattle.cnf_form.specs.Numbers.{unsigned_of}
use Rattle.group_text.specs.declared.fault.Fault.{Fault}
use Rattle.group_text.specs.declared.fault.Fault.TheVariants.{BadRow, ManyNames, UnknownRow}
use Rattle.block_lists.specs.declared.limits.TheConstants.{MOST_GROUP_ROWS}
use Rattle.group_text.specs.declared.limits.TheConstants.{MOST_NAMES}
use Rattle.group_text.specs.Sizes.{going_on}

-- the bytes before the first colon (58), and those behind it
abbrev pub before_colon : List ℕ → List ℕ
before_colon [] = []
before_colon (b ∷ bs) = cond (b == 58) [] (b ∷ before_colon bs)

abbrev pub after_colon : List ℕ → Option (List ℕ)
after_colon [] = None
after_colon (b ∷ bs) = cond (b == 58) (Some bs) (after_colon bs)

-- two numbers, the second of which stands behind the colon
abbrev pub numbers_by : List ℕ → Option (List ℕ) → Option (ℕ × ℕ)
numbers_by front None = None
numbers_by front (Some rest) = both (unsigned_of MOST_GROUP_ROWS front) (unsigned_of MOST_GROUP_ROWS rest)

-- the numbers of a block and a row that a token tells, if it tells two
abbrev pub numbers_of : List ℕ → Option (ℕ × ℕ)
numbers_of t = numbers_by (before_colon t) (after_colon t)

-- there is a row with these numbers
abbrev pub is_there : List ℕ → ℕ → ℕ → Bool
is_there sizes b r = nat_lt 0 b && (nat_lt 0 r && nat_lt (r - 1) (slice_index sizes (b - 1)))

-- the row with these numbers
abbrev pub row_at : List ℕ → ℕ → ℕ → Result BlockRow Fault
row_at sizes b r = cond (is_there sizes b r) (Ok (record { block = b - 1; row = r - 1 })) (Err UnknownRow)

-- the row that two numbers name, where so many rows are named before
abbrev pub row_by : List ℕ → ℕ → Option (ℕ × ℕ) → Result BlockRow Fault
row_by sizes named None = Err BadRow
row_by sizes named (Some p) = cond (nat_lt named MOST_NAMES) (row_at sizes p.0 p.1) (Err ManyNames)

-- the row that a token names, or its fault
abbrev pub row_of : List ℕ → ℕ → List ℕ → Result BlockRow Fault
row_of sizes named t = row_by sizes named (numbers_of t)

-- these rows and those that the tokens name, or the first fault; so many rows are named in the lists before
abbrev pub rows_after : List ℕ → ℕ → List BlockRow → List (List ℕ) → Result (List BlockRow) Fault
rows_after sizes named before [] = Ok before
rows_after sizes named before (t ∷ ts) = going_on (row_of sizes (named + length before) t) (λ x. rows_after sizes named (before ++ x ∷ []) ts)

-- rows of blocks of these sizes, and with those that are named before no more than a group may name
pub record AreNamed (sizes : List ℕ) (named : ℕ) (rows : List BlockRow) : Type 0 where
  pub there : (x : BlockRow) → Contains rows x → IsThere sizes x
  pub few : named + length rows ≤ MOST_NAMES
