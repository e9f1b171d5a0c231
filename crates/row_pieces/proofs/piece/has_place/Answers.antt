use Rattle.std.proofs.Common.{arith, ap}
use Rattle.row_pieces.proofs.Joining.{last_has, inner_has}
use Rattle.row_pieces.proofs.piece.has_place.Goals as goal

pub returns-then-at-pieces-2 : goal.returns-then-at-pieces-2
returns-then-at-pieces-2 c t from n low high =
    let is = ap (λ p. p.start) c.index-pieces-at.is in
    last_has from c.args.pieces.now n c.args.place c.args.at c.index-pieces-at.result (grind arith) (grind arith) high (grind arith)

pub returns-else-at-pieces-2 : goal.returns-else-at-pieces-2
returns-else-at-pieces-2 c t from n low high =
    let is = ap (λ p. p.start) c.index-pieces-at.is in
    inner_has from c.args.pieces.now n c.args.place c.args.at c.index-pieces-at.result c.index-pieces-at-else-at-pieces-2.result (grind arith) (grind arith) (grind arith)
