use Rattle.std.proofs.Common.{◌+◌, take, sym, subst}
use Rattle.std.proofs.lemmas.List.{take_all}
use Rattle.cqa_value.proofs.Words.{mem-nil}
use Rattle.range_join.specs.Peaks.{held_value, IsPeak}
use Rattle.range_groups.specs.Touched.{IsCarried}
use Rattle.range_groups.proofs.Touching.{carried-more}
use Rattle.range_groups.proofs.touched.furthest_of.Goals as goal

pub loop-carrier-init : goal.loop-carrier-init
loop-carrier-init c = λ v s. mem-nil s.0 s.1

pub loop-carrier-preserved : goal.loop-carrier-preserved
loop-carrier-preserved c =
    let col = c.args.col in
    let i = c.loop-carrier.carrier-index in
    subst (IsPeak c.args.way (IsCarried col (take (i + 1) c.args.carriers.now))) (sym c.further-best.ensures)
    (carried-more c.args.way col c.args.carriers.now i c.carrier-item.result c.loop-carrier-test.true c.carrier-item.is (held_value col c.loop-carrier.best) c.loop-carrier.invariant)

pub returns : goal.returns
returns c =
    subst (λ carriers. IsPeak c.args.way (IsCarried c.args.col carriers) (held_value c.args.col c.loop-carrier.best)) (take_all c.loop-carrier.carrier-index c.args.carriers.now c.loop-carrier-test.false) c.loop-carrier.invariant
