-- How a call answers a refusal, and which of two faults comes first.
use Rattle.std.specs.Prelude.{◌≡◌, Option, Some, None, Result, IfOk, OnOk, IfErr}
use Rattle.cqa_value.specs.declared.memory.Fail.{Fail}
use Rattle.cqa_value.specs.declared.memory.Fail.TheVariants.{NoMemory, Refused}
use Rattle.refusals.specs.declared.refusal.Refusal.{Refusal}

-- the first of two faults
abbrev pub first_of : Option Refusal → Option Refusal → Option Refusal
first_of (Some fault) later = Some fault
first_of None later = later

-- the refusal is the fault; want of memory is free
abbrev pub IsRefusedAs : Fail Refusal → Option Refusal → Type 0
IsRefusedAs NoMemory fault = Unit {0}
IsRefusedAs (Refused refusal) fault = fault ≡ Some refusal

-- checked, else the first fault: a call answers a value only where nothing is at fault, and else it refuses with the fault
pub record Checked {T : Type 0} (result : Result T (Fail Refusal)) (fault : Option Refusal) (value : T → Type 0) : Type 0 where
  pub refused : IfErr result (λ e. IsRefusedAs e fault)
  pub valid : OnOk result (fault ≡ None)
  pub is : IfOk result value
