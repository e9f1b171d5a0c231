-- Devices in memory, as their callers see them.
use Rattle.std.specs.Prelude.{◌≡◌, ◌==◌, ◌||◌, min, length, Result, is_err, IfOk, ℕ, zero, suc, ◌+◌, ◌-◌, ◌^◌, Bool, nat_eq, nat_lt, if◌then◌else◌, ◌&&◌, List}
use Rattle.std.specs.List.{list_any}
use Rattle.cqa_io.specs.Causes.{Counts}
use Rattle.cqa_io.specs.declared.streams.Failed.{Failed}

-- the numbers of the calls that fail, from 1, and how many calls have had a number
pub record Numbered : Type 0 where
  pub failing : List ℕ
  pub done : ℕ

-- the bytes left, how many of them a call gives at most, and the calls
pub record SourceView : Type 0 where
  pub left : List ℕ
  pub piece : ℕ
  pub calls : Numbered

-- the bytes held, how many there is room for, the calls, and how many of them have failed
pub record SinkView : Type 0 where
  pub held : List ℕ
  pub room : ℕ
  pub calls : Numbered
  pub faults : ℕ

-- the number is among those of the calls that fail
abbrev pub is_failing : List ℕ → ℕ → Bool
is_failing failing number = list_any (λ each. nat_eq each number) failing

-- The next call has a number. The last number is 2^64 - 1.
abbrev pub has_number : Numbered → Bool
has_number calls = nat_lt calls.done (2 ^ 64 - 1)

-- the next call fails by its number
abbrev pub next_fails : Numbered → Bool
next_fails calls = has_number calls && is_failing calls.failing (calls.done + 1)

-- one more call has been made
abbrev pub after_call : Numbered → Numbered
after_call calls = record calls { done = if has_number calls then calls.done + 1 else calls.done }

-- A call of a sink fails by its number, or where the sink is full, and only then the count of faults rises.
-- Else it takes the whole piece, or as much as there is room for.
pub record WritesToMemory (old : SinkView) (bytes : List ℕ) (result : Result ℕ Failed) (new : SinkView) : Type 0 where
  pub fails : is_err result ≡ (next_fails old.calls || (length old.held == old.room))
  pub counted : Counts old.faults new.faults result
  pub count : IfOk result (λ n. n ≡ min (length bytes) (old.room - length old.held))
  pub called : new.calls ≡ after_call old.calls
  pub same_room : new.room ≡ old.room

-- how many of the numbers from 1 to the given one are those of calls that fail
abbrev pub failures : List ℕ → ℕ → ℕ
failures failing zero = 0
failures failing (suc number) = failures failing number + (if is_failing failing (suc number) then 1 else 0)

-- the calls so far that have failed
abbrev pub faults_of : Numbered → ℕ
faults_of calls = failures calls.failing calls.done
