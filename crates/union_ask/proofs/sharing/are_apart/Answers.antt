use Rattle.cqa_value.proofs.Words.{clash}
use Rattle.union_ask.proofs.Loose.{before-more}
use Rattle.union_ask.proofs.sharing.are_apart.Goals as goal

pub loop-at-preserved : goal.loop-at-preserved
loop-at-preserved c =
    before-more c.args.parts.now c.args.given.now c.loop-at.at (λ s. clash c.shares_later.result (c.shares_later.ensures.1 s) c.if-shares_later.false) c.loop-at.invariant
