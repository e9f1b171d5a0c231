use Rattle.std.proofs.Common.{◌≡◌, true, arith, below_more, refl}
use Rattle.std.proofs.lemmas.Bool.{false≢true}
use Rattle.query_class.proofs.Rounds.{strong-first, first-strong}
use Rattle.query_class.proofs.classes.has_strong_cycle.Goals as goal

pub loop-atom-preserved : goal.loop-atom-preserved
loop-atom-preserved c = below_more _ _ c.loop-atom.invariant (λ F s r. let e : c.is_on_strong_cycle.result ≡ true = c.is_on_strong_cycle.ensures.1 (F, s, r) in cc)

pub returns : goal.returns
returns c = (
  (λ e. absurd (false≢true e)),
  (λ h. let m = strong-first c.args.graph.now h in absurd (c.loop-atom.invariant m.0 (omega (arith, (c.args.graph.now.small m.1 m.0 m.2.0).1)) m.1 m.2 m.3)),
)

pub returns-then-is_on_strong_cycle : goal.returns-then-is_on_strong_cycle
returns-then-is_on_strong_cycle c = ((λ t. let h = c.is_on_strong_cycle.ensures.0 c.if-is_on_strong_cycle.true in first-strong c.args.graph.now c.loop-atom.atom h.0 h.1 h.2), (λ t. refl))
