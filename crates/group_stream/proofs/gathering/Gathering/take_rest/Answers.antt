use Rattle.std.proofs.Common.{[], List, ℕ, append-nil, subst, sym}
use Rattle.cqa_io.specs.Causes.{Rose}
use Rattle.group_stream.specs.Steps.{Gathered, Gathers, PieceRow}
use Rattle.group_stream.proofs.Between.{holds}
use Rattle.group_stream.proofs.Going.{gathers_goes, refused_row, then_row}
use Rattle.group_stream.proofs.gathering.Gathering.take_rest.Goals as goal

pub returns-in_err-hold-clause-row : goal.returns-in_err-hold-clause-row
returns-in_err-hold-clause-row g c = refused_row c.from_residual.result c.from_residual.ensures.1 (Rose (g.K.Sink.faults c.args.sink.now) (g.K.Sink.faults c.args.sink.now)) c.args.self.now c.hold.new.self (g.K.Sink.held c.args.sink.now) c.args.rest.now

pub returns-clause-row : goal.returns-clause-row
returns-clause-row g c =
    let rose = (Rose (g.K.Sink.faults c.args.sink.now) (g.K.Sink.faults c.hand_on.new.sink)) in
    let gathers = subst (λ (m : Gathered). Gathers c.args.self.now m c.args.rest.now) (sym c.in_ok-hold.ensures) (holds c.args.self.now c.args.rest.now c.requires) in
    subst (λ (xs : List ℕ). PieceRow c.hand_on.result rose c.args.self.now c.hand_on.new.self (g.K.Sink.held c.args.sink.now) (g.K.Sink.held c.hand_on.new.sink) xs) (append-nil c.args.rest.now)
    (then_row c.hand_on.result rose rose c.args.self.now c.hold.new.self c.hand_on.new.self (g.K.Sink.held c.args.sink.now) (g.K.Sink.held c.args.sink.now) (g.K.Sink.held c.hand_on.new.sink) c.args.rest.now [] (λ r. r)
    (gathers_goes c.args.self.now c.hold.new.self (g.K.Sink.held c.args.sink.now) c.args.rest.now gathers) c.hand_on.ensures.row)
