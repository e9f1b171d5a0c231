-- How a log is written (LRAT).
use Rattle.std.specs.Prelude.{◌≡◌, ℕ, ◌≤◌, ◌+◌, ℤ, pos, negsuc, Result, Ok, Err, List, [], ◌∷◌, ◌++◌, Option, Some, None, codes, max}
use Rattle.std.specs.Fmt.{decimal, signed_decimal}
use Rattle.std.specs.List.{flat_map}
use Rattle.cnf_form.specs.declared.log.Step.{Step}
use Rattle.cnf_form.specs.declared.log.Step.TheVariants.{Add, Delete}
use Rattle.cnf_form.specs.declared.log.Log.{Log}
use Rattle.cqa_value.specs.declared.memory.Fail.{Fail}
use Rattle.cqa_value.specs.declared.memory.Fail.TheVariants.{NoMemory, Refused}
use Rattle.cnf_form.specs.declared.fault.FormatFault.{FormatFault}
use Rattle.cnf_form.specs.Literals.{AreVars}
use Rattle.cnf_form.specs.Writing.{clause_bytes}
use Rattle.lrat_check.specs.declared.reading.TheConstants.{GREATEST_ID}

-- a number and a space (32)
abbrev pub hint_bytes : ℤ → List ℕ
hint_bytes h = signed_decimal h ++ 32 ∷ []

abbrev pub id_bytes : ℕ → List ℕ
id_bytes id = decimal id ++ 32 ∷ []

-- the greater of an id and the greatest so far, if there is one
abbrev pub with_id : Option ℕ → ℕ → Option ℕ
with_id None id = Some id
with_id (Some top) id = Some (max top id)

-- the greatest of the ids so far and these
abbrev pub with_ids : Option ℕ → List ℕ → Option ℕ
with_ids top [] = top
with_ids top (id ∷ ids) = with_ids (with_id top id) ids

-- the greatest of the ids that were added or deleted up to a step
abbrev pub used_after : Option ℕ → Step → Option ℕ
used_after top (Add id clause hints) = with_id top id
used_after top (Delete ids) = with_ids top ids

-- the first number of a deletion: the greatest id used so far, 1 where there is none
abbrev pub first_of : Option ℕ → ℕ
first_of None = 1
first_of (Some top) = top

-- The line of a step: an id, literals, `0` (48), hints, `0`; or the greatest id used so far, `d`, ids, `0`. An LF (10) ends it.
abbrev pub step_line : Option ℕ → Step → List ℕ
step_line top (Add id clause hints) = id_bytes id ++ clause_bytes clause.lits ++ 32 ∷ [] ++ flat_map hint_bytes hints ++ 48 ∷ 10 ∷ []
step_line top (Delete ids) = id_bytes (first_of (with_ids top ids)) ++ codes "d " ++ flat_map id_bytes ids ++ 48 ∷ 10 ∷ []

-- the lines of steps, after some ids were used
abbrev pub log_lines : Option ℕ → List Step → List ℕ
log_lines top [] = []
log_lines top (step ∷ steps) = step_line top step ++ log_lines (used_after top step) steps

abbrev pub log_bytes : List Step → List ℕ
log_bytes steps = log_lines None steps

-- a hint of absolute value from 1 to the greatest id
abbrev pub IsHint : ℤ → Type 0
IsHint (pos n) = (1 ≤ n) × (n ≤ GREATEST_ID)
IsHint (negsuc n) = n + 1 ≤ GREATEST_ID

abbrev pub AreHints : List ℤ → Type 0
AreHints [] = Unit {0}
AreHints (h ∷ hs) = IsHint h × AreHints hs

-- An addition whose id, literals and hints are in range.
abbrev pub IsWritableStep : ℕ → Step → Type 0
IsWritableStep vars (Add id clause hints) = (1 ≤ id) × (id ≤ GREATEST_ID) × AreVars vars clause.lits × AreHints hints
IsWritableStep vars (Delete ids) = ⊥

-- Additions alone, whose ids, literals and hints are in range.
abbrev pub IsWritableLog : ℕ → List Step → Type 0
IsWritableLog vars [] = Unit {0}
IsWritableLog vars (step ∷ steps) = IsWritableStep vars step × IsWritableLog vars steps

-- The answer is the log, unless memory runs out.
abbrev pub ReadsBack : Log → Result Log (Fail FormatFault) → Type 0
ReadsBack log (Ok read) = read ≡ log
ReadsBack log (Err (Refused fault)) = ⊥
ReadsBack log (Err NoMemory) = Unit {0}
