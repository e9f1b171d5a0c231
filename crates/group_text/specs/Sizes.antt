-- The sizes of blocks, as the tokens of a line tell them.
use Rattle.std.specs.Prelude.{ℕ, ◌+◌, ◌<◌, ◌≤◌, ◌==◌, cond, nat_lt, List, [], ◌∷◌, ◌++◌, Contains, Option, Some, None, Result, Ok, Err}
use Rattle.std.specs.List.{sum}
use Rattle.cnf_form.specs.Numbers.{unsigned_of}
use Rattle.group_text.specs.declared.fault.Fault.{Fault}
use Rattle.group_text.specs.declared.fault.Fault.TheVariants.{BadSize, ManyRows}
use Rattle.block_lists.specs.declared.limits.TheConstants.{MOST_GROUP_ROWS}

-- what comes of a value goes on with it, and a fault stays
abbrev pub going_on : {A B : Type 0} → Result A Fault → (A → Result B Fault) → Result B Fault
going_on (Ok a) next = next a
going_on (Err fault) next = Err fault

-- the size that a number is, where the blocks before have so many rows
abbrev pub size_by : ℕ → Option ℕ → Result ℕ Fault
size_by rows None = Err BadSize
size_by rows (Some s) = cond (s == 0) (Err BadSize) (cond (nat_lt MOST_GROUP_ROWS (rows + s)) (Err ManyRows) (Ok s))

-- the size that a token tells, where the blocks before have so many rows, or its fault
abbrev pub size_of : ℕ → List ℕ → Result ℕ Fault
size_of rows t = size_by rows (unsigned_of MOST_GROUP_ROWS t)

-- these sizes and those that the tokens tell, or the first fault
abbrev pub sizes_after : List ℕ → List (List ℕ) → Result (List ℕ) Fault
sizes_after before [] = Ok before
sizes_after before (t ∷ ts) = going_on (size_of (sum before) t) (λ s. sizes_after (before ++ s ∷ []) ts)

-- the sizes that the tokens tell
abbrev pub sizes_of : List (List ℕ) → Result (List ℕ) Fault
sizes_of ts = sizes_after [] ts

-- each block has a row, and they have no more together than a group may
pub record AreSizes (sizes : List ℕ) : Type 0 where
  pub some : (s : ℕ) → Contains sizes s → 0 < s
  pub few : sum sizes ≤ MOST_GROUP_ROWS
