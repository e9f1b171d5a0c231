use Rattle.std.proofs.Common.{ℕ, ◌<◌, slice_index_or}
use Rattle.cqa_model.specs.declared.query.Cond.{Cond}
use Rattle.pair_answers.specs.Fitting.{GivenBy}
use Rattle.pair_answers.proofs.fits.given_fits.Given as goal

abbrev pub invariant-loop-cond : goal.invariant-loop-cond
invariant-loop-cond l = (k : ℕ) (d : Cond) → k < l.cond-index → GivenBy l.side.bound.now.query.now l.side.atom l.x (slice_index_or l.side.bound.now.query.now.conds k d)
