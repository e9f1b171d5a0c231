use Rattle.std.proofs.Common.{◌+◌, length, take, drop, get_or, ap, ◌∙◌, ◌++◌, sym, arith}
use Rattle.std.specs.List.{remove}
use Rattle.row_pieces.specs.declared.piece.Piece.{Piece}
use Rattle.row_pieces.specs.Joined.{joined}
use Rattle.row_pieces.proofs.Putting.{joined_remove}
use Rattle.row_pieces.proofs.put.take_out.Goals as goal

pub returns-then-left-len : goal.returns-then-left-len
returns-then-left-len c there =
    let ps = c.loop-at.pieces in
    let at = c.loop-at.at in
    let p = c.index-pieces-at.result in
    let q : Piece = record { start = (get_or ps at p).start; rows = c.remove.new.self } in
    let test = c.loop-at-test.true in
    let long = c.loop-at.auto.pieces in
    let same = c.loop-at.invariant.same in
    let before = c.if-left-len.true in
    let len = c.len-len.ensures in
    let seen = ap (λ (z : Piece). length z.rows) c.index-pieces-at.is in
    joined_remove ps at c.args.place c.loop-at.left (omega (arith, test, long)) p q c.index-pieces-at.is c.loop-at.invariant.left (omega (arith, before, len, seen)) (c.remove.ensures ∙ ap (λ (z : Piece). remove z.rows c.loop-at.left) (sym c.index-pieces-at.is))
    ∙ ap (λ qs. take c.args.place (joined qs) ++ drop (c.args.place + 1) (joined qs)) same
