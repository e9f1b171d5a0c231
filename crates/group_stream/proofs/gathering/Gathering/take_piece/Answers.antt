use Rattle.std.proofs.Common.{◌≡◌, ◌++◌, ◌∙◌, [], List, ℕ, append_assoc, arith, ap, refl, subst, sym}
use Rattle.cqa_io.specs.Causes.{Rose}
use Rattle.group_stream.specs.Cuts.{ended_line}
use Rattle.group_stream.specs.Steps.{PieceRow}
use Rattle.group_stream.proofs.Going.{count_more, goes_goes, goes_nil, rose_later, stopped_row, then_row}
use Rattle.group_stream.proofs.gathering.Gathering.take_piece.Goals as goal

pub loop-line-init : goal.loop-line-init
loop-line-init g c = record { taken = ([], refl, omega arith, goes_nil c.args.self.now (g.K.Sink.held c.args.sink.now)); later = omega arith }

pub loop-line-preserved : goal.loop-line-preserved
loop-line-preserved g c =
    let t = c.loop-line.invariant.taken in
    let line = c.in-Some.line.now in
    let cut : c.loop-line.rest.now ≡ ended_line line ++ c.in-Some.after.now = c.in-Some.ensures.1 in
    record {
      taken = (
        t.0 ++ ended_line line,
        t.1 ∙ ap (λ (xs : List ℕ). t.0 ++ xs) cut ∙ sym (append_assoc t.0 (ended_line line) c.in-Some.after.now),
        count_more c.args.self.now.machine.number c.loop-line.self.machine.number c.take_line.new.self.machine.number t.0 line t.2 c.in_ok-take_line.ensures.count,
        goes_goes c.args.self.now c.loop-line.self c.take_line.new.self (g.K.Sink.held c.args.sink.now) (g.K.Sink.held c.loop-line.sink) (g.K.Sink.held c.take_line.new.sink) t.0 (ended_line line) t.3 c.in_ok-take_line.ensures.row,
      );
      later = omega (arith, c.take_line.ensures.later, c.loop-line.invariant.later);
    }

pub returns-in_err-take_line-clause-row : goal.returns-in_err-take_line-clause-row
returns-in_err-take_line-clause-row g c =
    let t = c.loop-line.invariant.taken in
    let line = c.in-Some.line.now in
    let cut : c.loop-line.rest.now ≡ ended_line line ++ c.in-Some.after.now = c.in-Some.ensures.1 in
    subst (λ (xs : List ℕ). PieceRow c.from_residual.result (Rose (g.K.Sink.faults c.args.sink.now) (g.K.Sink.faults c.take_line.new.sink)) c.args.self.now c.take_line.new.self (g.K.Sink.held c.args.sink.now) (g.K.Sink.held c.take_line.new.sink) xs)
    (sym (t.1 ∙ ap (λ (xs : List ℕ). t.0 ++ xs) cut))
    (stopped_row c.from_residual.result c.in_err-take_line.field-0.0 c.from_residual.ensures.1 (Rose (g.K.Sink.faults c.loop-line.sink) (g.K.Sink.faults c.take_line.new.sink)) (Rose (g.K.Sink.faults c.args.sink.now) (g.K.Sink.faults c.take_line.new.sink))
    c.args.self.now c.loop-line.self c.take_line.new.self c.take_line.new.self (g.K.Sink.held c.args.sink.now) (g.K.Sink.held c.loop-line.sink) (g.K.Sink.held c.take_line.new.sink) t.0 (ended_line line) c.in-Some.after.now
    (rose_later (g.K.Sink.faults c.args.sink.now) (g.K.Sink.faults c.loop-line.sink) (g.K.Sink.faults c.take_line.new.sink) c.loop-line.invariant.later) t.3 c.in_err-take_line.ensures.row)

pub returns-clause-row : goal.returns-clause-row
returns-clause-row g c =
    let t = c.loop-line.invariant.taken in
    subst (λ (xs : List ℕ). PieceRow c.take_rest.result (Rose (g.K.Sink.faults c.args.sink.now) (g.K.Sink.faults c.take_rest.new.sink)) c.args.self.now c.take_rest.new.self (g.K.Sink.held c.args.sink.now) (g.K.Sink.held c.take_rest.new.sink) xs) (sym t.1)
    (then_row c.take_rest.result (Rose (g.K.Sink.faults c.loop-line.sink) (g.K.Sink.faults c.take_rest.new.sink)) (Rose (g.K.Sink.faults c.args.sink.now) (g.K.Sink.faults c.take_rest.new.sink)) c.args.self.now c.loop-line.self c.take_rest.new.self (g.K.Sink.held c.args.sink.now) (g.K.Sink.held c.loop-line.sink)
    (g.K.Sink.held c.take_rest.new.sink) t.0 c.loop-line.rest.now (rose_later (g.K.Sink.faults c.args.sink.now) (g.K.Sink.faults c.loop-line.sink) (g.K.Sink.faults c.take_rest.new.sink) c.loop-line.invariant.later) t.3 c.take_rest.ensures.row)
