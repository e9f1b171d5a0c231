use Rattle.std.proofs.Common.{◌≤◌, [], ◌∷◌, length, reverse}
use Rattle.cnf_form.specs.declared.formula.Lit.{Lit}
use Rattle.cnf_form.specs.Literals.{literals}
use Rattle.search_trail.specs.Trail.{held}
use Rattle.search_trail.specs.Analysis.{AreKeptLiterals, AreMarks, Works}
use Rattle.search_trail.proofs.implications.Implications.shorten.Given as goal

abbrev pub invariant-loop-at : goal.invariant-loop-at
invariant-loop-at l = record {
  marks : AreMarks (length l.self.places.now) l.marks;
  before : l.at ≤ l.self.start;
  kept : AreKeptLiterals (held l.self.trail.now) l.self.start l.at l.lits.items;
  works : (u : Lit) → Works (literals l.self.clauses.now) (held l.self.trail.now) l.initial.marks.seen.items (u ∷ []) l.self.start (reverse l.initial.hints.items)
      → Works (literals l.self.clauses.now) (held l.self.trail.now) l.marks.seen.items (u ∷ l.lits.items) l.at (reverse l.hints.items);
}

abbrev pub decreases-loop-at : goal.decreases-loop-at
decreases-loop-at l = l.at
