use Rattle.std.proofs.Common.{◌+◌, ◌*◌, ◌≤◌, length}
use Rattle.pair_answers.specs.Shared.{AreSharedSoFar}
use Rattle.pair_answers.proofs.shared.shared_columns.Given as goal

abbrev pub invariant-loop-i : goal.invariant-loop-i
invariant-loop-i l = record { shared : AreSharedSoFar l.pair.bound.now.query.now l.cols.items l.i 0; few : length l.cols.items ≤ 16 * l.i }

abbrev pub invariant-loop-j : goal.invariant-loop-j
invariant-loop-j l = record { shared : AreSharedSoFar l.pair.bound.now.query.now l.cols.items l.i l.j; few : length l.cols.items ≤ 16 * l.i + l.j }
