use Rattle.std.proofs.Common.{◌≡◌, ◌+◌, ◌-◌, ◌++◌, length, drop, arith, ap, sym, subst, ◌∙◌}
use Rattle.row_pieces.specs.Joined.{joined, ArePlaced}
use Rattle.row_pieces.proofs.Joining.{begun, reached, rest, behind, some_piece}
use Rattle.row_pieces.proofs.piece.part_at.Goals as goal

pub overflow_sub-place : goal.overflow_sub-place
overflow_sub-place c =
    let r = c.requires in
    let low = r.2 in
    let high = r.3 in
    let found = c.piece_of-at.ensures r.0 r.1 (omega (arith, low)) r.3 (some_piece c.args.pieces.now (omega (arith, low, high))) in
    begun r.0 c.args.pieces.now r.1 c.args.place c.piece_of-at.result found c.index-pieces-at.result c.index-pieces-at.is

pub split_at-requires : goal.split_at-requires
split_at-requires c =
    let r = c.requires in
    let low = r.2 in
    let high = r.3 in
    let found = c.piece_of-at.ensures r.0 r.1 (omega (arith, low)) r.3 (some_piece c.args.pieces.now (omega (arith, low, high))) in
    let fits = reached r.0 c.args.pieces.now r.1 c.args.place c.piece_of-at.result found c.index-pieces-at.result c.index-pieces-at.is in
    let same = ap length c.as_slice.ensures in
    omega (arith, fits, same)

pub returns : goal.returns
returns c from n low high =
    let ps = c.args.pieces.now in
    let at = c.piece_of-at.result in
    let place = c.args.place in
    let piece = c.index-pieces-at.result in
    let found = c.piece_of-at.ensures from n (omega (arith, low)) high (some_piece ps (omega (arith, low, high))) in
    let front : c.split_at.result.1.now ≡ drop (place - piece.start) piece.rows = c.split_at.ensures.back ∙ ap (drop (place - piece.start)) c.as_slice.ensures in (
      rest from ps n place at found piece c.index-pieces-at.is
          ∙ ap (λ xs. xs ++ joined (drop (at + 1) ps)) (sym front)
          ∙ ap (λ qs. c.split_at.result.1.now ++ joined qs) (sym c.split_at-2.ensures.back),
      subst (λ qs. ArePlaced (place + length c.split_at.result.1.now) qs) (sym c.split_at-2.ensures.back)
          (subst (λ xs. ArePlaced (place + length xs) (drop (at + 1) ps)) (sym front) (behind from ps n place at found piece c.index-pieces-at.is)),
    )
