use Rattle.std.proofs.Common.{◌≡◌, arith, ◌+◌, ◌-◌, ◌<◌, ◌≤◌, ℕ, List, [], ap, length, min, take}
use Rattle.std.proofs.lemmas.List.{length-take}
use Rattle.command_shell.proofs.Underway.{begins, read_failed, turn, stopped, ended}
use Rattle.command_shell.proofs.pieces.answer_pieces.Goals as goal

none_held : (held : List ℕ) → held ≡ [] → length held ≤ 0
none_held held none = omega (arith, ap length none)

none_read : (piece : List ℕ) (count : ℕ) → count ≡ 0 → take count piece ≡ []
none_read piece count none = ap (λ n. take n piece) none

as_long : (piece now : List ℕ) → length now ≡ length piece → 0 < length piece → 0 < length now
as_long piece now same some = omega (arith, same, some)

held_few : (held now came count kept room size slice : ℕ) → now ≤ held + slice → slice ≡ min kept size → kept ≡ min count room → held ≤ came → now ≤ came + count
held_few held now came count kept room size slice fewer part fits few = omega (arith, fewer, part, fits, few)

pub loop-came-init : goal.loop-came-init
loop-came-init g c = record { within = omega arith; few = none_held c.args.held.now c.requires.empty; piece = c.requires.piece; underway = begins c.args.taker.now _ c.args.session.now c.args.held.now c.requires.empty }

pub returns-in-Err-clause-row : goal.returns-in-Err-clause-row
returns-in-Err-clause-row g c = λ goes. read_failed c.loop-came.invariant.underway (search arith) _ _ c.in-Err.ensures.came c.in-Err.ensures.cause.failed

pub returns-in-Ok-eq0-clause-row : goal.returns-in-Ok-eq0-clause-row
returns-in-Ok-eq0-clause-row g c = λ goes.
    let came = c.in-Ok-eq0.ensures.came in
    let some = as_long c.loop-came.piece c.read_piece.new.piece c.in-Ok-eq0.ensures.size c.loop-came.invariant.piece in
    rw c.ending_with.ensures (ended c.loop-came.invariant.underway (search arith) c.answer_held.result (take c.in-Ok-eq0.field-0 c.read_piece.new.piece) _ _ _ _ (none_read c.read_piece.new.piece c.in-Ok-eq0.field-0 c.in-Ok-eq0.field-0-test) came.0 (came.1 c.in-Ok-eq0.field-0-test some) c.answer_held.ensures.row goes)

pub returns-in-Err-answer_piece-clause-row : goal.returns-in-Err-answer_piece-clause-row
returns-in-Err-answer_piece-clause-row g c = λ goes.
    rw (c.from.ensures) (stopped c.loop-came.invariant.underway (search arith) c.in-Err-answer_piece.stop c.in-Ok.count c.read_piece.new.piece _ _ _ _ _ c.in-Ok.ensures.within.1 c.in-Ok.ensures.within.0 c.in-Ok.ensures.came.0 (search arith) c.in-Err-answer_piece.ensures.row goes)

pub loop-came-preserved : goal.loop-came-preserved
loop-came-preserved g c = record {
  within = search arith;
  few = held_few (length c.loop-came.held) _ _ c.in-Ok.count _ (268_435_456 - c.loop-came.came) (length c.read_piece.new.piece) _ c.in-Ok-answer_piece.ensures.fewer (length-take c.min-kept.result c.read_piece.new.piece) c.min-kept.ensures c.loop-came.invariant.few;
  piece = as_long c.loop-came.piece c.read_piece.new.piece c.in-Ok.ensures.size c.loop-came.invariant.piece;
  underway = turn c.loop-came.invariant.underway (search arith) c.in-Ok.count c.read_piece.new.piece _ _ _ _ _ c.in-Ok-answer_piece.more (Unit {0}) c.in-Ok.ensures.within.1 c.in-Ok.ensures.came.0 (ap (λ n. take n c.read_piece.new.piece) c.min-kept.ensures) c.in-Ok-answer_piece.ensures.row c.in-Ok.ensures.cause.later c.in-Ok-answer_piece.ensures.later;
}
