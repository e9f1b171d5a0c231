-- What the parts of the loop do.
use Rattle.std.specs.Prelude.{◌≡◌, ⊤, ℕ, suc, Bool, true, List, ◌++◌, ◌+◌, ◌≤◌, ◌||◌, length, take, Option, Result, Ok, Err}
use Rattle.std.specs.Io.KnownBytes.{Appends}
use Rattle.group_text.specs.declared.wanted.Wanted.{Wanted}
use Rattle.group_text.specs.declared.limits.TheConstants.{LONGEST_LINE}
use Rattle.group_text.specs.Groups.{after, events}
use Rattle.group_text.specs.Groups.Underway.{Outside}
use Rattle.group_text.specs.Machines.{Standing, Steps, numbered}
use Rattle.group_text.specs.Saying.{said}
use Rattle.group_text.specs.Replies.{Replies}
use Rattle.group_stream.specs.declared.ending.Stop.{Stop}
use Rattle.group_stream.specs.declared.ending.Stop.TheVariants as stops
use Rattle.group_stream.specs.Cuts.{AreCut, IsLine, last_line}
use Rattle.group_stream.specs.Judges.{CutShort, Judges as IsJudged}

-- The machine, the first bytes of the line that is begun, the text that is gathered, and whether something was refused.
pub record Gathered : Type 0 where
  pub machine : Standing
  pub held : List ℕ
  pub out : List ℕ
  pub refused : Bool

-- what is held of a line has no LF, and no more bytes than tell that it is too long
pub record IsHeld (held : List ℕ) : Type 0 where
  pub line : IsLine held
  pub few : length held ≤ LONGEST_LINE + 1

-- The lines that came were taken: what is replied to them was written and then gathered. Of the rest as many bytes are held as tell what it says.
pub record Stands (wanted : Wanted) (budget : ℕ) (came : List ℕ) (written : List ℕ) (g : Gathered) : Type 0 where
  pub done : List (List ℕ)
  pub rest : List ℕ
  pub cut : AreCut came done rest
  pub held_is : g.held ≡ take (suc LONGEST_LINE) rest
  pub machine_is : g.machine ≡ record { wanted = wanted; budget = budget; number = length done; underway = after wanted Outside done }
  pub replied : Replies wanted budget (events wanted 1 Outside done) (written ++ g.out) g.refused

-- A line was judged: the machine has gone on, and what it replies is gathered.
pub record Judges (line : List ℕ) (old new : Gathered) : Type 0 where
  pub refused : Bool
  pub steps : Steps (said line) (numbered old.machine) new.machine refused old.out new.out
  pub refused_is : new.refused ≡ (old.refused || refused)

-- Bytes came: what is replied to them is gathered.
abbrev pub Gathers : Gathered → Gathered → List ℕ → Type 0
Gathers old new bytes = (wanted : Wanted) (budget : ℕ) (came written : List ℕ) → Stands wanted budget came written old → Stands wanted budget (came ++ bytes) written new

-- All lines of an input were judged, the last too, which no LF ends.
pub record IsAtLast (wanted : Wanted) (budget : ℕ) (came : List ℕ) (written : List ℕ) (g : Gathered) : Type 0 where
  pub done : List (List ℕ)
  pub rest : List ℕ
  pub cut : AreCut came done rest
  pub machine_is : g.machine ≡ record { wanted = wanted; budget = budget; number = length (done ++ last_line rest); underway = after wanted Outside (done ++ last_line rest) }
  pub replied : Replies wanted budget (events wanted 1 Outside (done ++ last_line rest)) (written ++ g.out) g.refused

abbrev pub Closes : Gathered → Gathered → Type 0
Closes old new = (wanted : Wanted) (budget : ℕ) (came written : List ℕ) → Stands wanted budget came written old → IsAtLast wanted budget came written new

-- The input has ended: what is replied to it is gathered.
abbrev pub Ends : Gathered → Gathered → Type 0
Ends old new = (wanted : Wanted) (budget : ℕ) (came written : List ℕ) → Stands wanted budget came written old → IsJudged wanted budget came true (written ++ new.out) new.refused

-- Bytes came, and what the sink took was replied to them or to those before.
abbrev pub GoesOn : Gathered → Gathered → Option (List ℕ) → Option (List ℕ) → List ℕ → Type 0
GoesOn old new held_old held_new bytes =
    (wanted : Wanted) (budget : ℕ) (came written : List ℕ) → Stands wanted budget came written old → (more : List ℕ) × Appends held_old held_new more × Stands wanted budget (came ++ bytes) (written ++ more) new

-- What the sink took begins what is replied to the bytes, whatever comes later. They weren't taken for an input that has ended.
abbrev pub Breaks : Gathered → Option (List ℕ) → Option (List ℕ) → List ℕ → Type 0
Breaks old held_old held_new bytes =
    (wanted : Wanted) (budget : ℕ) (came written later : List ℕ) → Stands wanted budget came written old → (more : List ℕ) × Appends held_old held_new more × CutShort wanted budget (came ++ (bytes ++ later)) ⊥ (written ++ more)

-- What the sink took begins what is replied to an input that has ended.
abbrev pub BreaksAtEnd : Gathered → Option (List ℕ) → Option (List ℕ) → Type 0
BreaksAtEnd old held_old held_new =
    (wanted : Wanted) (budget : ℕ) (came written : List ℕ) → Stands wanted budget came written old → (more : List ℕ) × Appends held_old held_new more × CutShort wanted budget came ⊤ (written ++ more)

-- how bytes were taken
abbrev pub PieceRow : Result (Unit {0}) Stop → (rose : Type 0) → Gathered → Gathered → Option (List ℕ) → Option (List ℕ) → List ℕ → Type 0
PieceRow (Ok done) rose old new held_old held_new bytes = GoesOn old new held_old held_new bytes
PieceRow (Err stops.WriteFault) rose old new held_old held_new bytes = rose × Breaks old held_old held_new bytes
PieceRow (Err stops.OutOfMemory) rose old new held_old held_new bytes = Breaks old held_old held_new bytes

-- how the end of an input was taken, and whether something was refused
abbrev pub EndRow : Result Bool Stop → (rose : Type 0) → Gathered → Option (List ℕ) → Option (List ℕ) → Type 0
EndRow (Ok refused) rose old held_old held_new =
    (wanted : Wanted) (budget : ℕ) (came written : List ℕ) → Stands wanted budget came written old → (more : List ℕ) × Appends held_old held_new more × IsJudged wanted budget came true (written ++ more) refused
EndRow (Err stops.WriteFault) rose old held_old held_new = rose × BreaksAtEnd old held_old held_new
EndRow (Err stops.OutOfMemory) rose old held_old held_new = BreaksAtEnd old held_old held_new
