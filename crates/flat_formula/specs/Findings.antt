-- What is found out of a formula without a search.
use Rattle.std.specs.Prelude.{ℕ, Bool, List}
use Rattle.cnf_form.specs.declared.formula.Lit.{Lit}
use Rattle.cnf_form.specs.Literals.{SatisfiesAll}
use Rattle.flat_formula.specs.declared.guess.Found.{Found}
use Rattle.flat_formula.specs.declared.guess.Found.TheVariants.{Satisfiable, Unsatisfiable, Unclear}

-- some assignment satisfies the clauses, or none does, or nothing is said
abbrev pub FoundIs : List (List Lit) → Found → Type 0
FoundIs cs Satisfiable = (v : ℕ → Bool) × SatisfiesAll v cs
FoundIs cs Unsatisfiable = (v : ℕ → Bool) → SatisfiesAll v cs → ⊥
FoundIs cs Unclear = Unit {0}
