use Rattle.row_pieces.proofs.Marking.{told_back}
use Rattle.row_pieces.proofs.rows.Rows.told_above.Goals as goal

pub returns-then-mark-found-clause-told : goal.returns-then-mark-found-clause-told
returns-then-mark-found-clause-told c p fails parted = told_back p c.args.self.now c.in_ok-at.at c.in_ok-at.found c.args.mark parted c.in_ok-at.ensures fails c.if-mark-found.true
