-- `judge`: its words, and how it ends.
use Rattle.std.specs.Prelude.{◌≡◌, ◌⊎◌, ℕ, ◌<◌, ◌≤◌, ◌^◌, false, List, [], ◌∷◌, ◌++◌, length, Some, codes, pos}
use Rattle.cqa_value.specs.Literals.{has_minus, int_of}
use Rattle.group_text.specs.declared.wanted.Wanted.{Wanted}
use Rattle.group_text.specs.declared.wanted.Wanted.TheVariants.{Verdicts, Reasons, Ranges}
use Rattle.group_stream.specs.declared.ending.StreamEnd.{StreamEnd}
use Rattle.group_stream.specs.declared.ending.StreamEnd.TheVariants as ends
use Rattle.command_shell.specs.declared.ending.Ending.{Ending}
use Rattle.command_shell.specs.declared.ending.Ending.TheVariants.{Answered, WithRefusal, ReadFault, WriteFault, OutOfMemory, TooLong}
use Rattle.command_shell.specs.declared.session.TheConstants.{CONFLICTS}
use Rattle.command_shell.specs.declared.judging.TheConstants.{MOST_WORK}

-- a budget is written by at most ten digits, and is a number of 32 bits
pub record IsBudget (digits : List ℕ) (budget : ℕ) : Type 0 where
  pub short : length digits ≤ 10
  pub plain : has_minus digits ≡ false
  pub number : int_of digits ≡ Some (pos budget)
  pub few : budget < 2 ^ 32

-- these words alone, for the usual budget, or these words and a budget
abbrev pub HaveBudget : List (List ℕ) → ℕ → List (List ℕ) → ℕ → Type 0
HaveBudget first usual words budget = ((words ≡ first) × (budget ≡ usual)) ⊎ ((digits : List ℕ) × (words ≡ first ++ digits ∷ []) × IsBudget digits budget)

-- `judge`, `judge reasons`, or `judge ranges`
abbrev pub judge_words : Wanted → List (List ℕ)
judge_words Verdicts = codes "judge" ∷ []
judge_words Reasons = codes "judge" ∷ codes "reasons" ∷ []
judge_words Ranges = codes "judge" ∷ codes "ranges" ∷ []

-- the conflicts of a search for a verdict, or the lists that one for a least or a greatest value looks at, where no budget is told
abbrev pub usual_budget : Wanted → ℕ
usual_budget Verdicts = CONFLICTS
usual_budget Reasons = CONFLICTS
usual_budget Ranges = MOST_WORK

-- how the top call ends where a stream of groups ended so
abbrev pub ending_at : StreamEnd → Ending
ending_at ends.Answered = Answered
ending_at ends.WithRefusal = WithRefusal
ending_at ends.ReadFault = ReadFault
ending_at ends.WriteFault = WriteFault
ending_at ends.OutOfMemory = OutOfMemory
ending_at ends.TooLong = TooLong
