-- Each input of `judge` has its replies.
use Rattle.std.specs.Prelude.{◌≡◌, ⊤, ℕ, Bool, true, List}
use Rattle.group_text.specs.declared.wanted.Wanted.{Wanted}
use Rattle.group_stream.specs.Judges.{BeginsReplies, CutShort, Judges}

-- There are replies to what bytes ask for, whether they have ended or not.
abbrev pub GroupRepliesExist : Type 0
GroupRepliesExist = (wanted : Wanted) (budget : ℕ) (bytes : List ℕ) (ended : Bool) → (written : List ℕ) × (refused : Bool) × Judges wanted budget bytes ended written refused

-- What was written where answers were cut short begins the replies to all of the bytes: to them as an input that has ended, and, where they weren't
-- taken for one, to them as an input that hasn't.
abbrev pub WrittenBeginsReplies : Type 0
WrittenBeginsReplies = (wanted : Wanted) (budget : ℕ) (bytes written : List ℕ) (cut : CutShort wanted budget bytes ⊤ written) → (ended : Bool) → (cut.ended ≡ true → ended ≡ true) → BeginsReplies wanted budget bytes ended written
