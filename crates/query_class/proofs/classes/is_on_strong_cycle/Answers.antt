use Rattle.std.proofs.Common.{arith}
use Rattle.std.proofs.lemmas.Bool.{false≢true}
use Rattle.query_class.proofs.classes.is_on_strong_cycle.Goals as goal

pub returns : goal.returns
returns c = (
  (λ e. absurd (false≢true e)),
  (λ h. absurd (c.loop-atom.invariant h.0 (omega (arith, (c.args.graph.now.small h.0 c.args.to h.1.0).0)) h.1 h.2)),
)
