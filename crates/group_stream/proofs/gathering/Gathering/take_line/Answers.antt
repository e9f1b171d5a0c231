use Rattle.std.proofs.Common.{[], List, ℕ, append-nil, subst}
use Rattle.cqa_io.specs.Causes.{Rose}
use Rattle.group_stream.specs.Cuts.{ended_line}
use Rattle.group_stream.specs.Steps.{PieceRow}
use Rattle.group_stream.proofs.Going.{gathers_goes, refused_row, then_row}
use Rattle.group_stream.proofs.gathering.Gathering.take_line.Goals as goal

pub returns-in_err-end_line-clause-row : goal.returns-in_err-end_line-clause-row
returns-in_err-end_line-clause-row g c = refused_row c.from_residual.result c.from_residual.ensures.1 (Rose (g.K.Sink.faults c.args.sink.now) (g.K.Sink.faults c.args.sink.now)) c.args.self.now c.end_line.new.self (g.K.Sink.held c.args.sink.now) (ended_line c.args.line.now)

pub returns-then-len-lt-PIECE-clause-row : goal.returns-then-len-lt-PIECE-clause-row
returns-then-len-lt-PIECE-clause-row g c = gathers_goes c.args.self.now c.end_line.new.self (g.K.Sink.held c.args.sink.now) (ended_line c.args.line.now) c.in_ok-end_line.ensures.gathers

pub returns-clause-row : goal.returns-clause-row
returns-clause-row g c =
    let rose = (Rose (g.K.Sink.faults c.args.sink.now) (g.K.Sink.faults c.hand_on.new.sink)) in
    subst (λ (xs : List ℕ). PieceRow c.hand_on.result rose c.args.self.now c.hand_on.new.self (g.K.Sink.held c.args.sink.now) (g.K.Sink.held c.hand_on.new.sink) xs) (append-nil (ended_line c.args.line.now))
    (then_row c.hand_on.result rose rose c.args.self.now c.end_line.new.self c.hand_on.new.self (g.K.Sink.held c.args.sink.now) (g.K.Sink.held c.args.sink.now) (g.K.Sink.held c.hand_on.new.sink) (ended_line c.args.line.now) [] (λ r. r)
    (gathers_goes c.args.self.now c.end_line.new.self (g.K.Sink.held c.args.sink.now) (ended_line c.args.line.now) c.in_ok-end_line.ensures.gathers) c.hand_on.ensures.row)
