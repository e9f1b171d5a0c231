use Rattle.std.proofs.Common.{◌-◌, ◌+◌, ◌≡◌, ℕ, ◌∷◌, arith, subst, reverse}
use Rattle.cnf_form.specs.Literals.{literals}
use Rattle.search_trail.specs.Trail.{held}
use Rattle.search_trail.specs.Analysis.{AreKeptLiterals, Works}
use Rattle.search_trail.proofs.implications.Implications.shorten.Goals as goal

pub loop-at-preserved : goal.loop-at-preserved
loop-at-preserved c =
    let g = c.args.self.now in
    let e : c.loop-at.at ≡ c.loop-at.at - 1 + 1 = omega (arith, c.loop-at-test.true) in
    let i = c.loop-at.invariant in
    record {
      marks = c.in_ok-shorten_at.ensures.marks;
      before = omega (arith, i.before);
      kept = c.in_ok-shorten_at.ensures.kept (subst (λ (n : ℕ). AreKeptLiterals (held g.trail.now) g.start n c.loop-at.lits.items) e i.kept);
      works = λ u w. c.in_ok-shorten_at.ensures.works u
          (subst (λ (n : ℕ). Works (literals g.clauses.now) (held g.trail.now) c.loop-at.marks.seen.items (u ∷ c.loop-at.lits.items) n (reverse c.loop-at.hints.items)) e (i.works u w));
    }
