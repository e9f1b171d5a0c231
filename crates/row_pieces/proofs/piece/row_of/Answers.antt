use Rattle.std.proofs.Common.{◌≡◌, ◌-◌, Some, slice_get, length, ap, sym, ◌∙◌, arith}
use Rattle.std.proofs.lemmas.Option.{get_or_from_slice_get}
use Rattle.row_pieces.proofs.Joining.{begun, holds, row_there, some_piece}
use Rattle.row_pieces.proofs.piece.row_of.Goals as goal

pub overflow_sub-place : goal.overflow_sub-place
overflow_sub-place c =
    let r = c.requires in
    begun r.0 c.args.pieces.now r.1 c.args.place c.piece_of.result (c.piece_of.ensures r.0 r.1 r.2 (let high = r.3 in omega (arith, high)) (some_piece c.args.pieces.now (let low = r.2 in let high = r.3 in omega (arith, low, high)))) c.index-pieces-piece_of.result c.index-pieces-piece_of.is

pub row_in-requires : goal.row_in-requires
row_in-requires c =
    let r = c.requires in
    let inside = holds r.0 c.args.pieces.now r.1 c.args.place c.piece_of.result (c.piece_of.ensures r.0 r.1 r.2 (let high = r.3 in omega (arith, high)) (some_piece c.args.pieces.now (let low = r.2 in let high = r.3 in omega (arith, low, high)))) c.index-pieces-piece_of.result c.index-pieces-piece_of.is r.3 in
    let long = ap length c.as_slice.ensures in
    omega (arith, inside, long)

pub returns : goal.returns
returns c from n low high =
    let piece = c.index-pieces-piece_of.result in
    let row = c.row_in.result.now in
    let at = c.args.place - piece.start in
    let seen : slice_get piece.rows at ≡ Some row = ap (λ xs. slice_get xs at) (sym c.as_slice.ensures) ∙ c.row_in.ensures in
    row_there from c.args.pieces.now n c.args.place c.piece_of.result (c.piece_of.ensures from n low (omega (arith, high)) (some_piece c.args.pieces.now (omega (arith, low, high)))) piece c.index-pieces-piece_of.is row high (sym (get_or_from_slice_get piece.rows at row row seen))
