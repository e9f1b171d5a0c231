use Rattle.std.proofs.Common.{[], ◌+◌, List, take, sym, subst}
use Rattle.std.specs.List.{AllZip}
use Rattle.std.proofs.lemmas.List.{take_all}
use Rattle.table_blocks.specs.declared.bound.Bound.{Bound}
use Rattle.union_ask.specs.Known.{IsKnownFor}
use Rattle.union_ask.proofs.Looking.{known-more}
use Rattle.union_ask.proofs.known.add_known.Goals as goal

pub loop-bound-init : goal.loop-bound-init
loop-bound-init c = subst (AllZip IsKnownFor []) (sym c.requires.none) tt

pub loop-bound-preserved : goal.loop-bound-preserved
loop-bound-preserved c =
    subst (AllZip IsKnownFor (take (c.loop-bound.bound-index + 1) c.args.bounds.now)) (sym c.in_ok-push.ensures.items)
    (known-more c.args.bounds.now c.loop-bound.bound-index c.bound-item.result c.in_ok-known_alone.field-0 c.loop-bound.known.items c.loop-bound-test.true c.bound-item.is c.in_ok-known_alone.ensures c.loop-bound.invariant)

pub returns : goal.returns
returns c = subst (λ (bs : List Bound). AllZip IsKnownFor bs c.loop-bound.known.items) (take_all c.loop-bound.bound-index c.args.bounds.now c.loop-bound-test.false) c.loop-bound.invariant
