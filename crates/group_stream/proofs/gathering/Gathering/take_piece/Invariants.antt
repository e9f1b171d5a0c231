use Rattle.std.proofs.Common.{◌≡◌, ◌+◌, ◌≤◌, ◌++◌, List, ℕ, length}
use Rattle.group_stream.specs.Steps.{GoesOn}
use Rattle.group_stream.proofs.gathering.Gathering.take_piece.Given as goal

-- the first bytes were taken
abbrev pub invariant-loop-line : goal.invariant-loop-line
invariant-loop-line g l = record {
  taken : (before : List ℕ) × (l.fn.piece ≡ before ++ l.rest) × (l.self.machine.number ≤ l.fn.self.machine.number + length before) × GoesOn l.fn.self l.self (g.K.Sink.held l.fn.sink) (g.K.Sink.held l.sink) before;
  later : g.K.Sink.faults l.fn.sink ≤ g.K.Sink.faults l.sink;
}

abbrev pub decreases-loop-line : goal.decreases-loop-line
decreases-loop-line g l = length l.rest
