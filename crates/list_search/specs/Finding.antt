-- What a look at a formula finds out of it, and what that says.
use Rattle.std.specs.Prelude.{◌≡◌}
use Rattle.cdcl.specs.declared.outcome.Outcome.{Outcome}
use Rattle.cdcl.specs.declared.outcome.Outcome.TheVariants as outcome
use Rattle.flat_formula.specs.declared.guess.Found.{Found}
use Rattle.flat_formula.specs.declared.guess.Found.TheVariants.{Satisfiable, Unsatisfiable, Unclear}

-- what an outcome finds out
abbrev pub FoundOf : Outcome → Found → Type 0
FoundOf (outcome.Sat values) found = found ≡ Satisfiable
FoundOf (outcome.Unsat log) found = found ≡ Unsatisfiable
FoundOf (outcome.Spent log) found = found ≡ Unclear

-- what a look finds out of what holds exactly where a formula isn't satisfiable: that it doesn't hold, that it does, or nothing
abbrev pub FoundSays : Type 0 → Found → Type 0
FoundSays Holds Satisfiable = Holds → ⊥
FoundSays Holds Unsatisfiable = Holds
FoundSays Holds Unclear = Unit {0}
