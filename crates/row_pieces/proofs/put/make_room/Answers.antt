use Rattle.std.proofs.Common.{take, ap, ◌∙◌}
use Rattle.row_pieces.proofs.Opening.{found_open, numbered_here, open_here}
use Rattle.row_pieces.proofs.put.make_room.Goals as goal

pub returns-then-len-lt-MOST_IN_PIECE-clause-opened : goal.returns-then-len-lt-MOST_IN_PIECE-clause-opened
returns-then-len-lt-MOST_IN_PIECE-clause-opened c =
    let ps = c.args.pieces.now.items in
    let end = c.args.end in
    let at = c.piece_near-at.result in
    let found = found_open ps c.split_at.result.0.now end c.args.place at c.requires.opened (c.split_at.ensures.front ∙ ap (take end) c.as_slice.ensures.value) c.piece_near-at.ensures in
    open_here ps end c.args.place at c.requires.opened found c.index.result.now c.index.ensures

pub cut-requires-clause-numbered : goal.cut-requires-clause-numbered
cut-requires-clause-numbered c =
    let ps = c.args.pieces.now.items in
    let end = c.args.end in
    let at = c.piece_near-at.result in
    let found = found_open ps c.split_at.result.0.now end c.args.place at c.requires.opened (c.split_at.ensures.front ∙ ap (take end) c.as_slice.ensures.value) c.piece_near-at.ensures in
    numbered_here ps end c.args.place at c.requires.opened found c.index.result.now c.index.ensures
