use Rattle.std.proofs.Common.{◌≡◌, ◌+◌, ◌-◌, length, arith, refl, sym, ap, ◌∙◌, slice_get}
use Rattle.std.proofs.lemmas.Option.{slice_get_read}
use Rattle.row_pieces.specs.Joined.{joined}
use Rattle.row_pieces.specs.Marks.{row_mark}
use Rattle.row_pieces.proofs.Joining.{row_placed, seen_there}
use Rattle.row_pieces.proofs.Marking.{mapped, unmapped}
use Rattle.row_pieces.proofs.rows.Rows.marked.Goals as goal

pub returns-then-place-self : goal.returns-then-place-self
returns-then-place-self c =
    let r = c.self.inside in
    let piece = c.in_ok-piece.piece.now in
    let at = c.args.at in
    let found = c.in_ok-piece.ensures.lookup in
    let there = slice_get_read r.pieces.now (length r.pieces.now) c.args.number piece refl found.3.0 found.1 in
    let row = unmapped row_mark piece.rows at c.in_ok-mark.mark (sym c.in_ok-mark.ensures) in
    let from = r.place + length r.front.now in
    let placed = row_placed from r.pieces.now c.args.number piece at row.0 c.self.invariant.numbered there row.1 in
    let late = placed.0 in
    let start = c.saturating_sub-start.ensures in
    let sum = c.saturating_add-place.ensures in
    let inside = c.if-place-self.true in
    let fits = c.self.invariant.fits in
    let far : piece.start + at - from ≡ c.saturating_add-place.result - length r.front.now = omega (arith, start, sum, late, inside, fits) in
    mapped row_mark c.args.self.now c.saturating_add-place.result row.0 c.in_ok-mark.mark
    (seen_there r.count c.saturating_add-place.result r.front.now (joined r.pieces.now) c.args.self.now row.0 c.self.view_is inside (omega (arith, start, sum, late, inside, fits)) (ap (slice_get (joined r.pieces.now)) (sym far) ∙ placed.1))
    row.2
