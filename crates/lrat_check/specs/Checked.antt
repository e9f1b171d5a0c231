-- What checks of logs answer.
use Rattle.std.specs.Prelude.{◌≡◌, ℕ, List, [], Contains, Option, Some, None, Result, Ok, Err}
use Rattle.cqa_value.specs.declared.memory.Fail.{Fail}
use Rattle.cqa_value.specs.declared.memory.Fail.TheVariants as fail
use Rattle.cnf_form.specs.declared.fault.FormatFault.{FormatFault}
use Rattle.cnf_form.specs.declared.fault.Part.TheVariants as part
use Rattle.cnf_form.specs.declared.formula.Cnf.{Cnf}
use Rattle.cnf_form.specs.declared.log.Step.{Step}
use Rattle.cnf_form.specs.Logs.{Live, Refutes, StepsPass, added}
use Rattle.lrat_check.specs.declared.fault.LogFault.{LogFault}
use Rattle.lrat_check.specs.Failing.{HasFault, Refused}

-- What steps come to over some live clauses: none where all pass and some adds the empty clause, and else their fault.
abbrev pub RunIs : Live → ℕ → List Step → Option LogFault → Type 0
RunIs live top steps None = StepsPass live top steps × Contains (added steps) []
RunIs live top steps (Some fault) = HasFault live top steps fault

-- Yes for a refutation, and else the fault.
abbrev pub Checked : Cnf → List Step → Result (Unit {0}) (Fail LogFault) → Type 0
Checked cnf steps (Ok done) = Refutes cnf steps
Checked cnf steps (Err (fail.Refused fault)) = Refused cnf steps fault
Checked cnf steps (Err fail.NoMemory) = Unit {0}

-- The same where the log is read first: no fault, that of the log, or the first faulty line.
abbrev pub TextChecked : Cnf → Result (List Step) ℕ → Result (Option LogFault) (Fail FormatFault) → Type 0
TextChecked cnf said (Err fail.NoMemory) = Unit {0}
TextChecked cnf (Ok steps) (Ok None) = Refutes cnf steps
TextChecked cnf (Ok steps) (Ok (Some fault)) = Refused cnf steps fault
TextChecked cnf (Ok steps) (Err (fail.Refused fault)) = ⊥
TextChecked cnf (Err line) (Ok end) = ⊥
TextChecked cnf (Err line) (Err (fail.Refused fault)) = fault ≡ record { line = line; part = part.Log }
