use Rattle.std.proofs.Common.{length, ◌≤◌}
use Rattle.command_shell.proofs.Progress.{SoFar}
use Rattle.command_shell.proofs.answers.answer_held.Given as goal

-- the statements before those held were answered
abbrev pub invariant-loop-text : goal.invariant-loop-text
invariant-loop-text g l = record {
  fewer : length l.held ≤ length l.fn.held;
  so_far : SoFar g.T.Taker.took l.fn.taker l.taker l.fn.session l.fn.held l.ended l.held l.session l.refused (g.T.Taker.written l.fn.taker) (g.T.Taker.written l.taker);
  later : g.T.Taker.faults l.fn.taker ≤ g.T.Taker.faults l.taker;
}

abbrev pub decreases-loop-text : goal.decreases-loop-text
decreases-loop-text g l = length l.held
