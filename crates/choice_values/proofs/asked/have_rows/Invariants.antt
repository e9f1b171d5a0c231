use Rattle.std.proofs.Common.{ℕ, ◌<◌, take, Contains}
use Rattle.choice_values.proofs.asked.have_rows.Given as goal

abbrev pub invariant-loop-size : goal.invariant-loop-size
invariant-loop-size l = (s : ℕ) → Contains (take l.size-index l.sizes) s → 0 < s
