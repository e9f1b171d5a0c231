-- What is found out of a group, and what shows it.
use Rattle.std.specs.Prelude.{◌≡◌, ℕ, ◌+◌, ◌≤◌, List, length}
use Rattle.std.specs.List.{sum}
use Rattle.cnf_form.specs.declared.formula.Cnf.{Cnf}
use Rattle.cnf_form.specs.declared.log.Log.{Log}
use Rattle.cnf_form.specs.Logs.{Refutes, AreConsecutive}
use Rattle.cnf_form.specs.Spent.{IsSpentLog}
use Rattle.cdcl.specs.declared.outcome.Outcome.{Outcome}
use Rattle.cdcl.specs.declared.outcome.Outcome.TheVariants as outcome
use Rattle.block_choices.specs.declared.row.BlockRow.{BlockRow}
use Rattle.block_lists.specs.declared.judging.Judged.{Judged}
use Rattle.block_lists.specs.declared.judging.Judged.TheVariants as judged
use Rattle.block_lists.specs.declared.proving.Proved.{Proved}
use Rattle.block_lists.specs.declared.proving.Proved.TheVariants as proved
use Rattle.block_choices.specs.Choices.{IsAvoidedBy, IsForcedBy}
use Rattle.block_lists.specs.Formulas.{IsGroupFormula}
use Rattle.block_lists.specs.Picks.{first_trues}

-- The group's formula, and a log that refutes it: additions alone, under the ids that follow those of the clauses, and at most one more than
-- the budget has conflicts.
pub record IsRefutedBy (sizes : List ℕ) (lists : List (List BlockRow)) (budget : ℕ) (cnf : Cnf) (log : Log) : Type 0 where
  pub formula : IsGroupFormula sizes lists cnf
  pub refutes : Refutes cnf log.steps
  pub ids : AreConsecutive (length cnf.clauses) log.steps
  pub size : length log.steps ≤ budget + 1

-- the group's formula has a spent log for the budget
pub record IsSpentFor (sizes : List ℕ) (lists : List (List BlockRow)) (budget : ℕ) : Type 0 where
  pub cnf : Cnf
  pub log : Log
  pub formula : IsGroupFormula sizes lists cnf
  pub spent : IsSpentLog cnf budget log.steps

-- what is found out of a group, where a choice is left
abbrev pub IsJudged : List ℕ → List (List BlockRow) → ℕ → List ℕ → Judged → Type 0
IsJudged sizes lists budget choice judged.Certain = IsForcedBy sizes lists
IsJudged sizes lists budget choice judged.Open = IsAvoidedBy sizes lists choice
IsJudged sizes lists budget choice judged.Spent = IsSpentFor sizes lists budget

-- the same, with a refutation
abbrev pub IsProved : List ℕ → List (List BlockRow) → ℕ → List ℕ → Proved → Type 0
IsProved sizes lists budget choice (proved.Refuted cnf log) = IsForcedBy sizes lists × IsRefutedBy sizes lists budget cnf log
IsProved sizes lists budget choice proved.Open = IsAvoidedBy sizes lists choice
IsProved sizes lists budget choice proved.Spent = IsSpentFor sizes lists budget

-- what is found out, without the evidence
abbrev pub Tells : Proved → Judged → Type 0
Tells (proved.Refuted cnf log) found = found ≡ judged.Certain
Tells proved.Open found = found ≡ judged.Open
Tells proved.Spent found = found ≡ judged.Spent

-- a model has a value for each row
abbrev pub HasEachValue : List ℕ → Outcome → Type 0
HasEachValue sizes (outcome.Sat values) = length values ≡ sum sizes
HasEachValue sizes (outcome.Unsat log) = Unit {0}
HasEachValue sizes (outcome.Spent log) = Unit {0}

-- what an outcome shows of the group whose formula it is of, where a choice is left
abbrev pub Shows : List ℕ → Cnf → Outcome → List ℕ → Proved → Type 0
Shows sizes cnf (outcome.Sat values) choice found = (found ≡ proved.Open) × (choice ≡ first_trues sizes values)
Shows sizes cnf (outcome.Unsat log) choice found = found ≡ proved.Refuted cnf log
Shows sizes cnf (outcome.Spent log) choice found = found ≡ proved.Spent
