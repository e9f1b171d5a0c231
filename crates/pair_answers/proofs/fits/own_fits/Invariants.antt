use Rattle.std.proofs.Common.{ℕ, ◌<◌, slice_index_or}
use Rattle.cqa_model.specs.Database.{nothing}
use Rattle.pair_answers.specs.Fitting.{HaveValueOf}
use Rattle.pair_answers.proofs.fits.own_fits.Given as goal

abbrev pub invariant-loop-j : goal.invariant-loop-j
invariant-loop-j l = (j : ℕ) → j < l.j → HaveValueOf l.side.bound.now.query.now l.side.atom l.x (record { atom = l.side.atom; col = j }) (slice_index_or l.x j nothing)
