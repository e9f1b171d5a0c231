use Rattle.std.proofs.Common.{refl, take, sym, ap, ◌∙◌}
use Rattle.std.proofs.lemmas.List.{length-set}
use Rattle.std.proofs.lemmas.Result.{err_from_is_err_and}
use Rattle.row_pieces.specs.declared.piece.Piece.{Piece}
use Rattle.row_pieces.proofs.Joining.{joined_same}
use Rattle.row_pieces.proofs.Opening.{found_open, low, high, inside, joined_put, open_put}
use Rattle.row_pieces.proofs.put.put_in.Goals as goal

pub overflow_sub-place : goal.overflow_sub-place
overflow_sub-place c =
    let ps = c.args.pieces.now.items in
    let end = c.args.end in
    let at = c.piece_near-at.result in
    let found = found_open ps c.split_at.result.0.now end c.args.place at c.requires.opened (c.split_at.ensures.front ∙ ap (take end) c.as_slice.ensures.value) c.piece_near-at.ensures in
    low ps end c.args.place at c.requires.opened found c.index_mut-piece.result.now c.index_mut-piece.ensures.value

pub insert-requires : goal.insert-requires
insert-requires c =
    let ps = c.args.pieces.now.items in
    let end = c.args.end in
    let at = c.piece_near-at.result in
    let found = found_open ps c.split_at.result.0.now end c.args.place at c.requires.opened (c.split_at.ensures.front ∙ ap (take end) c.as_slice.ensures.value) c.piece_near-at.ensures in
    let reach = high ps end c.args.place at c.requires.opened found c.index_mut-piece.result.now c.index_mut-piece.ensures.value in
    reach

pub returns-in_err-insert-clause-err : goal.returns-in_err-insert-clause-err
returns-in_err-insert-clause-err c =
    let ps = c.args.pieces.now.items in
    let end = c.args.end in
    let at = c.piece_near-at.result in
    let piece = c.index_mut-piece.result.now in
    let found = found_open ps c.split_at.result.0.now end c.args.place at c.requires.opened (c.split_at.ensures.front ∙ ap (take end) c.as_slice.ensures.value) c.piece_near-at.ensures in
    let there = inside ps end c.args.place at c.requires.opened found piece c.index_mut-piece.ensures.value in
    let q : Piece = record { start = piece.start; rows = c.insert.new.self } in
    let p = err_from_is_err_and c.from_residual.result c.from_residual.ensures.1 in
    rw (p.1) (joined_same ps at piece q there (c.in_err-insert.ensures.err ∙ ap (λ (z : Piece). z.rows) c.index_mut-piece.ensures.value))

pub returns-clause-opened : goal.returns-clause-opened
returns-clause-opened c =
    let ps = c.args.pieces.now.items in
    let end = c.args.end in
    let at = c.piece_near-at.result in
    let found = found_open ps c.split_at.result.0.now end c.args.place at c.requires.opened (c.split_at.ensures.front ∙ ap (take end) c.as_slice.ensures.value) c.piece_near-at.ensures in
    let q : Piece = record { start = c.index_mut-piece.result.now.start; rows = c.insert.new.self } in
    open_put ps end c.args.place at c.requires.opened found c.index_mut-piece.result.now c.index_mut-piece.ensures.value q c.args.row refl c.in_ok-insert.ensures.ok (sym (length-set ps at q))

pub returns-clause-put : goal.returns-clause-put
returns-clause-put c =
    let ps = c.args.pieces.now.items in
    let end = c.args.end in
    let at = c.piece_near-at.result in
    let found = found_open ps c.split_at.result.0.now end c.args.place at c.requires.opened (c.split_at.ensures.front ∙ ap (take end) c.as_slice.ensures.value) c.piece_near-at.ensures in
    let q : Piece = record { start = c.index_mut-piece.result.now.start; rows = c.insert.new.self } in
    joined_put ps end c.args.place at c.requires.opened found c.index_mut-piece.result.now c.index_mut-piece.ensures.value q c.args.row refl c.in_ok-insert.ensures.ok
