use Rattle.std.proofs.Common.{◌<◌, arith, length, refl, sym}
use Rattle.cqa_value.proofs.Words.{clash}
use Rattle.union_ask.proofs.Loose.{later-more}
use Rattle.union_ask.proofs.sharing.shares_later.Goals as goal

pub returns-then-share_loose : goal.returns-then-share_loose
returns-then-share_loose c =
    let parts = c.args.parts.now in
    let at = c.args.at in
    let later = c.loop-later.later in
    let before : at < later = omega (arith, c.loop-later.auto.later) in
    let l : later < length parts = omega (arith, c.loop-later-test.true) in
    let first = c.index-parts-at in
    let other = c.index-parts-later in
    (λ t. (later, before, (first.result, other.result, (c.requires.there, sym first.is), ((l, sym other.is), c.if-not-given-later.false), c.share_loose.ensures.0 c.if-share_loose.true)), λ s. refl)

pub loop-later-preserved : goal.loop-later-preserved
loop-later-preserved c =
    later-more c.args.parts.now c.args.given.now c.args.at c.loop-later.later c.index-parts-at.result c.index-parts-later.result c.index-parts-at.is c.index-parts-later.is
    (λ s. clash c.share_loose.result (c.share_loose.ensures.1 s) c.if-share_loose.false) c.loop-later.invariant
