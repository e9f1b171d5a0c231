use Rattle.std.proofs.Common.{ℕ, ◌<◌, slice_index_or}
use Rattle.cqa_model.specs.Database.{nothing}
use Rattle.cqa_model.specs.Plan.{answer_at}
use Rattle.pair_answers.specs.Fitting.{HaveValueOf}
use Rattle.pair_answers.proofs.fits.answer_fits.Given as goal

abbrev pub invariant-loop-k : goal.invariant-loop-k
invariant-loop-k l = (k : ℕ) → k < l.k → HaveValueOf l.side.bound.now.query.now l.side.atom l.x (answer_at l.side.bound.now.query.now k) (slice_index_or l.side.row.now k nothing)
