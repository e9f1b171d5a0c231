use Rattle.std.proofs.Common.{below_more, true, ◌≡◌}
use Rattle.attack_graph.proofs.spreading.first_touched.Goals as goal
use Rattle.attack_graph.proofs.spreading.first_touched.Goals.{else-has-via-then-has+else-is_touched, else-has-via-else-has}

pub loop-atom-preserved : goal.loop-atom-preserved
loop-atom-preserved c = below_more _ _ c.loop-atom.invariant (λ u r. elim c.else-has.branch [
  | else-has-via-then-has+else-is_touched w ↦ let e : w.is_touched.result ≡ true = w.is_touched.ensures.1 r in cc
  | else-has-via-else-has w ↦ let e : c.has.result ≡ true = c.has.ensures.1 u.1 in cc
])
