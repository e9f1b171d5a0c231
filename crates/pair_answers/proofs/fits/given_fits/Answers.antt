use Rattle.std.proofs.Common.{sym, subst, Contains}
use Rattle.pair_answers.proofs.fits.given_fits.Goals as goal

pub given_by-requires : goal.given_by-requires
given_by-requires c = λ d m.
    let cond = c.cond-item.result in
    c.args.side.now.bound.now.query.now.kept.conds_in_range cond
    (subst (λ z. Contains z cond) c.as_slice-cond-items.ensures (c.loop-cond.cond-index, c.loop-cond-test.true, sym c.cond-item.is)) d m
