use Rattle.std.proofs.Common.{ℕ, ◌<◌}
use Rattle.pair_answers.specs.Fitting.{HasValueOf}
use Rattle.pair_answers.proofs.fits.have_value.Given as goal

abbrev pub invariant-loop-i : goal.invariant-loop-i
invariant-loop-i l = (i : ℕ) → i < l.i → HasValueOf l.side.bound.now.query.now l.side.atom l.x i l.other l.value
