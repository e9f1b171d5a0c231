use Rattle.std.proofs.Common.{length, ◌-◌, ◌<◌, ◌≤◌}
use Rattle.command_shell.specs.Top.{told}
use Rattle.command_shell.proofs.Underway.{Underway}
use Rattle.command_shell.proofs.pieces.answer_pieces.Given as goal

-- what came within the limit is answered, apart from what is held
abbrev pub invariant-loop-came : goal.invariant-loop-came
invariant-loop-came g l = record {
  within : l.came ≤ 268_435_457;
  few : length l.held ≤ l.came;
  piece : 0 < length l.piece;
  underway : Underway g.T.Taker.took l.fn.taker l.taker (told (g.S.Source.left l.fn.source) (g.T.Taker.written l.fn.taker) (g.S.Source.faults l.fn.source) (g.T.Taker.faults l.fn.taker)) (told (g.S.Source.left l.source) (g.T.Taker.written l.taker) (g.S.Source.faults l.source) (g.T.Taker.faults l.taker)) l.fn.session l.session l.came l.held l.refused;
}

abbrev pub decreases-loop-came : goal.decreases-loop-came
decreases-loop-came g l = 268_435_457 - l.came
