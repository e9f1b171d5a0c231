use Rattle.std.proofs.Common.{below_more, true, ◌≡◌}
use Rattle.key_closure.proofs.named.Named.first_ready.Goals as goal
use Rattle.key_closure.proofs.named.Named.first_ready.Goals.{else-has-via-then-has+else-is_ready, else-has-via-else-has}

pub loop-atom-preserved : goal.loop-atom-preserved
loop-atom-preserved c = below_more _ _ c.loop-atom.invariant (λ u r. elim c.else-has.branch [
  | else-has-via-then-has+else-is_ready w ↦ let e : w.is_ready.result ≡ true = w.is_ready.ensures.1 r in cc
  | else-has-via-else-has w ↦ let e : c.has.result ≡ true = c.has.ensures.1 u.1 in cc
])
