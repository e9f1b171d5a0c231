-- The count of failed calls never falls.
use Rattle.std.proofs.Common.{ℕ, ◌+◌, ◌≤◌, Bool, true, false, cond, List, arith, add-one}
use Rattle.cqa_io.specs.Memory.{Numbered, after_call, failures, faults_of, has_number}

step : (failing : List ℕ) (number : ℕ) → failures failing number ≤ failures failing (number + 1)
step failing number = rw add-one (omega arith)

next : (failing : List ℕ) (number : ℕ) (more : Bool) → failures failing number ≤ failures failing (cond more (number + 1) number)
next failing number true = step failing number
next failing number false = omega arith

pub later : (calls : Numbered) → faults_of calls ≤ faults_of (after_call calls)
later calls = next calls.failing calls.done (has_number calls)
