use Rattle.std.proofs.Common.{◌≡◌, ◌<◌, ◌≤◌, ◌-◌, ℕ, Bool, [], length}
use Rattle.group_stream.specs.Steps.{Stands}
use Rattle.group_stream.proofs.Onward.{Under}
use Rattle.group_text.specs.declared.wanted.Wanted.{Wanted}
use Rattle.group_stream.proofs.stream.judge_pieces.Given as goal

-- what came within the limit is taken
abbrev pub invariant-loop-came : goal.invariant-loop-came
invariant-loop-came g l = record {
  within : l.came ≤ 9_223_372_036_854_775_808;
  count : l.gathering.machine.number ≤ l.came;
  none : l.gathering.out ≡ [];
  piece : 0 < length l.piece;
  reads : g.S.Source.faults l.fn.source ≤ g.S.Source.faults l.source;
  writes : g.K.Sink.faults l.fn.sink ≤ g.K.Sink.faults l.sink;
  under : (wanted : Wanted) (budget : ℕ) → Stands wanted budget [] [] l.fn.gathering → Under 9223372036854775807 wanted budget l.gathering (g.S.Source.left l.fn.source) (g.S.Source.left l.source) (g.K.Sink.held l.fn.sink) (g.K.Sink.held l.sink) l.came;
}

abbrev pub decreases-loop-came : goal.decreases-loop-came
decreases-loop-came g l = 9_223_372_036_854_775_808 - l.came
