use Rattle.std.proofs.Common.{◌≡◌, true, arith, below_more}
use Rattle.std.proofs.lemmas.Bool.{false≢true}
use Rattle.query_class.proofs.WalkSteps.{reach-small}
use Rattle.query_class.proofs.classes.has_cycle.Goals as goal

pub loop-atom-preserved : goal.loop-atom-preserved
loop-atom-preserved c = below_more _ _ c.loop-atom.invariant (λ r. let e : c.has.result ≡ true = c.has.ensures.1 ((c.reach.ensures c.loop-atom.atom).1 r) in cc)

pub returns : goal.returns
returns c = ((λ e. absurd (false≢true e)), (λ (F, Hs, w). absurd (c.loop-atom.invariant F (omega (arith, reach-small c.args.graph.now F F (Hs, w))) (Hs, w))))
