-- What is written of an input.
use Rattle.std.specs.Prelude.{◌≡◌, ℕ, ◌+◌, Bool, true, false, List, [], ◌++◌, length}
use Rattle.group_text.specs.declared.wanted.Wanted.{Wanted}
use Rattle.group_text.specs.Groups.{Event, after, events, left_open}
use Rattle.group_text.specs.Groups.Underway.{Outside}
use Rattle.group_text.specs.Replies.{Replies}
use Rattle.group_stream.specs.Cuts.{AreCut, last_line}

-- what all lines of an input ask for, and its end
abbrev pub all_events : Wanted → List (List ℕ) → List Event
all_events wanted ls = events wanted 1 Outside ls ++ left_open (length ls + 1) (after wanted Outside ls)

-- What an input asks for: where it has ended, all its lines and its end; else the lines that an LF ends.
abbrev pub events_of : Wanted → Bool → List (List ℕ) → List ℕ → List Event
events_of wanted true done rest = all_events wanted (done ++ last_line rest)
events_of wanted false done rest = events wanted 1 Outside done

-- What was written is the text of replies to what the bytes ask for, one for each in their order; for what is wanted of
-- each group, by a budget for each search.
pub record Judges (wanted : Wanted) (budget : ℕ) (bytes : List ℕ) (ended : Bool) (written : List ℕ) (refused : Bool) : Type 0 where
  pub done : List (List ℕ)
  pub rest : List ℕ
  pub cut : AreCut bytes done rest
  pub replied : Replies wanted budget (events_of wanted ended done rest) written refused

-- What was written begins such a text.
pub record BeginsReplies (wanted : Wanted) (budget : ℕ) (bytes : List ℕ) (ended : Bool) (written : List ℕ) : Type 0 where
  pub all : List ℕ
  pub refused : Bool
  pub judges : Judges wanted budget bytes ended all refused
  pub left : List ℕ
  pub begins : all ≡ written ++ left

-- The answers to the bytes were cut short: what was written begins the replies to the first of them, or, only at the end of the input, to all of
-- them as an input that has ended.
pub record CutShort (wanted : Wanted) (budget : ℕ) (bytes : List ℕ) (at_end : Type 0) (written : List ℕ) : Type 0 where
  pub first : List ℕ
  pub later : List ℕ
  pub bytes_are : bytes ≡ first ++ later
  pub ended : Bool
  pub whole : ended ≡ true → (later ≡ []) × at_end
  pub begins : BeginsReplies wanted budget first ended written
