-- Conflicts of a solver, as an analysis sees them.
use Rattle.std.proofs.Common.{◌≡◌, ◌<◌, ℕ, List, sym, subst, length}
use Rattle.cnf_form.specs.declared.formula.Clause.{Clause}
use Rattle.cnf_form.specs.Literals.{literals}
use Rattle.search_trail.specs.declared.implications.Implications.{Implications}
use Rattle.search_trail.specs.declared.trail.Entry.{Entry}
use Rattle.search_trail.specs.Trail.{held}
use Rattle.search_trail.specs.Analysis.{IsFalse}
use Rattle.search_trail.specs.Walks.{IsConflictIn}
use Rattle.cdcl.specs.declared.solver.Solver.{Solver}
use Rattle.cdcl.specs.Visits.{IsConflict}

pub conflict_in : (s : Solver) (g : Implications) (k : ℕ) → g.clauses.now ≡ s.clauses.items → g.trail.now ≡ s.trail.items → IsConflict s k → IsConflictIn g k
conflict_in s g k clauses trail is = (
  subst (λ (cs : List Clause). k < length cs) (sym clauses) is.0,
  subst (λ (es : List Entry). IsFalse (held es) (literals g.clauses.now) k) (sym trail)
      (subst (λ (cs : List Clause). IsFalse (held s.trail.items) (literals cs) k) (sym clauses) is.1),
)
