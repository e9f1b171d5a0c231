use Rattle.std.proofs.Common.{◌≡◌, ◌<◌, ℕ, List, [], ap, arith, length, subst, sym, take}
use Rattle.std.proofs.lemmas.List.{length-take}
use Rattle.cqa_io.specs.Causes.{Rose}
use Rattle.group_stream.specs.declared.ending.StreamEnd.{StreamEnd}
use Rattle.group_stream.specs.Streams.{Streamed, told}
use Rattle.group_stream.proofs.Going.{rose_later}
use Rattle.group_stream.proofs.Onward.{finished, read_failed, stopped, too_long, under_more}
use Rattle.group_stream.proofs.stream.judge_pieces.Goals as goal

none_read : (piece : List ℕ) (count : ℕ) → count ≡ 0 → take count piece ≡ []
none_read piece count none = ap (λ n. take n piece) none

as_long : (piece now : List ℕ) → length now ≡ length piece → 0 < length piece → 0 < length now
as_long piece now same some = omega (arith, same, some)

pub returns-in-Err-clause-row : goal.returns-in-Err-clause-row
returns-in-Err-clause-row g c = λ wanted budget s.
    read_failed wanted budget c.loop-came.gathering (g.S.Source.left c.args.source.now) (g.S.Source.left c.loop-came.source) (g.S.Source.left c.read_piece.new.source) (g.K.Sink.held c.args.sink.now) (g.K.Sink.held c.loop-came.sink) (g.S.Source.faults c.args.source.now) (g.S.Source.faults c.read_piece.new.source) (g.K.Sink.faults c.args.sink.now) (g.K.Sink.faults c.loop-came.sink) c.loop-came.came (c.loop-came.invariant.under wanted budget s) (omega (arith, c.loop-came-test.true)) c.loop-came.invariant.none
    c.in-Err.ensures.came (rose_later (g.S.Source.faults c.args.source.now) (g.S.Source.faults c.loop-came.source) (g.S.Source.faults c.read_piece.new.source) c.loop-came.invariant.reads c.in-Err.ensures.cause.failed)

pub returns-in-Ok-eq0-clause-row : goal.returns-in-Ok-eq0-clause-row
returns-in-Ok-eq0-clause-row g c = λ wanted budget s.
    let came = c.in-Ok-eq0.ensures.came in
    let some = as_long c.loop-came.piece c.read_piece.new.piece c.in-Ok-eq0.ensures.size c.loop-came.invariant.piece in
    subst (λ (e : StreamEnd). Streamed wanted budget e (told (g.S.Source.left c.args.source.now) (g.K.Sink.held c.args.sink.now) (g.S.Source.faults c.args.source.now) (g.K.Sink.faults c.args.sink.now)) (told (g.S.Source.left c.read_piece.new.source) (g.K.Sink.held c.finish.new.sink) (g.S.Source.faults c.read_piece.new.source) (g.K.Sink.faults c.finish.new.sink))) (sym c.end_with.ensures)
    (finished wanted budget c.finish.result (Rose (g.K.Sink.faults c.loop-came.sink) (g.K.Sink.faults c.finish.new.sink)) c.loop-came.gathering (g.S.Source.left c.args.source.now) (g.S.Source.left c.loop-came.source) (g.S.Source.left c.read_piece.new.source) (g.K.Sink.held c.args.sink.now) (g.K.Sink.held c.loop-came.sink) (g.K.Sink.held c.finish.new.sink) (g.S.Source.faults c.args.source.now) (g.S.Source.faults c.read_piece.new.source) (g.K.Sink.faults c.args.sink.now) (g.K.Sink.faults c.finish.new.sink) c.loop-came.came
    (take c.in-Ok-eq0.field-0 c.read_piece.new.piece) (c.loop-came.invariant.under wanted budget s) (omega (arith, c.loop-came-test.true)) (none_read c.read_piece.new.piece c.in-Ok-eq0.field-0 c.in-Ok-eq0.field-0-test) came.0 (came.1 c.in-Ok-eq0.field-0-test some)
    (rose_later (g.K.Sink.faults c.args.sink.now) (g.K.Sink.faults c.loop-came.sink) (g.K.Sink.faults c.finish.new.sink) c.loop-came.invariant.writes) c.finish.ensures.row)

pub returns-in-Err-take_piece-clause-row : goal.returns-in-Err-take_piece-clause-row
returns-in-Err-take_piece-clause-row g c = λ wanted budget s.
    subst (λ (e : StreamEnd). Streamed wanted budget e (told (g.S.Source.left c.args.source.now) (g.K.Sink.held c.args.sink.now) (g.S.Source.faults c.args.source.now) (g.K.Sink.faults c.args.sink.now)) (told (g.S.Source.left c.read_piece.new.source) (g.K.Sink.held c.take_piece.new.sink) (g.S.Source.faults c.read_piece.new.source) (g.K.Sink.faults c.take_piece.new.sink))) (sym c.end_of.ensures)
    (stopped wanted budget c.in-Err-take_piece.stop (Rose (g.K.Sink.faults c.loop-came.sink) (g.K.Sink.faults c.take_piece.new.sink)) c.loop-came.gathering c.take_piece.new.self (g.S.Source.left c.args.source.now) (g.S.Source.left c.loop-came.source) (g.S.Source.left c.read_piece.new.source) (g.K.Sink.held c.args.sink.now) (g.K.Sink.held c.loop-came.sink) (g.K.Sink.held c.take_piece.new.sink) (g.S.Source.faults c.args.source.now) (g.S.Source.faults c.read_piece.new.source) (g.K.Sink.faults c.args.sink.now) (g.K.Sink.faults c.take_piece.new.sink) c.loop-came.came c.in-Ok.count
    c.min-kept.result c.read_piece.new.piece (c.loop-came.invariant.under wanted budget s) (omega (arith, c.loop-came-test.true)) c.in-Ok.ensures.within.0 c.in-Ok.ensures.within.1 c.min-kept.ensures c.in-Ok.ensures.came.0 (rose_later (g.K.Sink.faults c.args.sink.now) (g.K.Sink.faults c.loop-came.sink) (g.K.Sink.faults c.take_piece.new.sink) c.loop-came.invariant.writes) c.in-Err-take_piece.ensures.row)

pub loop-came-preserved : goal.loop-came-preserved
loop-came-preserved g c = record {
  within = omega (arith, c.in-Ok.ensures.within.0, c.loop-came-test.true);
  count = omega (arith, length-take c.min-kept.result c.read_piece.new.piece, c.in-Ok-take_piece.ensures.count, c.loop-came.invariant.count, c.min-kept.ensures);
  none = c.in-Ok-take_piece.ensures.handed;
  piece = as_long c.loop-came.piece c.read_piece.new.piece c.in-Ok.ensures.size c.loop-came.invariant.piece;
  reads = omega (arith, c.loop-came.invariant.reads, c.in-Ok.ensures.cause.later);
  writes = omega (arith, c.loop-came.invariant.writes, c.in-Ok-take_piece.ensures.later);
  under = λ wanted budget s. under_more 9223372036854775807 wanted budget c.loop-came.gathering c.take_piece.new.self (g.S.Source.left c.args.source.now) (g.S.Source.left c.loop-came.source) (g.S.Source.left c.read_piece.new.source) (g.K.Sink.held c.args.sink.now) (g.K.Sink.held c.loop-came.sink) (g.K.Sink.held c.take_piece.new.sink) c.loop-came.came c.in-Ok.count c.min-kept.result c.read_piece.new.piece
      (c.loop-came.invariant.under wanted budget s) (omega (arith, c.loop-came-test.true)) c.in-Ok.ensures.within.1 c.min-kept.ensures c.in-Ok.ensures.came.0 c.in-Ok-take_piece.ensures.row;
}

pub returns-clause-row : goal.returns-clause-row
returns-clause-row g c = λ wanted budget s.
    too_long wanted budget c.loop-came.gathering (g.S.Source.left c.args.source.now) (g.S.Source.left c.loop-came.source) (g.K.Sink.held c.args.sink.now) (g.K.Sink.held c.loop-came.sink) (g.S.Source.faults c.args.source.now) (g.S.Source.faults c.loop-came.source) (g.K.Sink.faults c.args.sink.now) (g.K.Sink.faults c.loop-came.sink) c.loop-came.came (c.loop-came.invariant.under wanted budget s) (omega (arith, c.loop-came-test.false, c.loop-came.invariant.within)) c.loop-came.invariant.none
