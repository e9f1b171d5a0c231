-- Each ending of a stream.
use Rattle.std.specs.Prelude.{◌≡◌, ℕ, ◌+◌, ◌≤◌, Bool, true, false, List, length, take, Option}
use Rattle.std.specs.Io.KnownBytes.{Appends, Consumes, IsAtEnd}
use Rattle.cqa_io.specs.Causes.{Rose}
use Rattle.group_stream.specs.declared.ending.StreamEnd.{StreamEnd}
use Rattle.group_stream.specs.declared.ending.StreamEnd.TheVariants.{Answered, WithRefusal, ReadFault, WriteFault, OutOfMemory, TooLong}
use Rattle.group_stream.specs.declared.ending.TheConstants.{MOST_JUDGED}
use Rattle.group_text.specs.declared.wanted.Wanted.{Wanted}
use Rattle.group_stream.specs.Judges.{CutShort, Judges}

-- what a source and a sink tell, and their counts of faults
pub record Devices : Type 0 where
  pub left : Option (List ℕ)
  pub held : Option (List ℕ)
  pub reads : ℕ
  pub writes : ℕ

abbrev pub told : (left held : Option (List ℕ)) (reads writes : ℕ) → Devices
told left held reads writes = record { left = left; held = held; reads = reads; writes = writes }

-- the source has nothing left, and no byte past the limit came
abbrev pub IsAllRead : Devices → List ℕ → Type 0
IsAllRead now came = IsAtEnd now.left × (length came ≤ MOST_JUDGED)

-- The row of each ending, with the bytes that came and those that were written.
abbrev pub StreamRow : Wanted → ℕ → StreamEnd → Devices → Devices → List ℕ → List ℕ → Type 0
StreamRow wanted budget Answered before now came written = IsAtEnd now.left × (length came ≤ MOST_JUDGED) × Judges wanted budget came true written false
StreamRow wanted budget WithRefusal before now came written = IsAtEnd now.left × (length came ≤ MOST_JUDGED) × Judges wanted budget came true written true
StreamRow wanted budget ReadFault before now came written = Rose before.reads now.reads × (length came ≤ MOST_JUDGED) × ((refused : Bool) × Judges wanted budget came false written refused)
StreamRow wanted budget WriteFault before now came written = Rose before.writes now.writes × (length came ≤ MOST_JUDGED + 1) × CutShort wanted budget (take MOST_JUDGED came) (IsAllRead now came) written
StreamRow wanted budget OutOfMemory before now came written = (length came ≤ MOST_JUDGED + 1) × CutShort wanted budget (take MOST_JUDGED came) (IsAllRead now came) written
StreamRow wanted budget TooLong before now came written = (length came ≡ MOST_JUDGED + 1) × ((refused : Bool) × Judges wanted budget (take MOST_JUDGED came) false written refused)

-- The stream ended so: with the bytes that came and those that were written, where they are told.
pub record Streamed (wanted : Wanted) (budget : ℕ) (ending : StreamEnd) (before now : Devices) : Type 0 where
  pub came : List ℕ
  pub written : List ℕ
  pub took : Consumes before.left now.left came
  pub put : Appends before.held now.held written
  pub row : StreamRow wanted budget ending before now came written
