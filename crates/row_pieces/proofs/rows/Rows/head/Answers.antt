use Rattle.std.proofs.Common.{◌≡◌, ◌+◌, ◌-◌, Some, length, arith, refl, sym, ap, ◌∙◌, slice_get}
use Rattle.std.proofs.lemmas.Option.{slice_get_read}
use Rattle.row_pieces.specs.Joined.{joined}
use Rattle.row_pieces.proofs.Joining.{row_placed, seen_there}
use Rattle.row_pieces.proofs.rows.Rows.head.Goals as goal

pub returns-then-at-self : goal.returns-then-at-self
returns-then-at-self c =
    let r = c.self.inside in
    let piece = c.in_ok-piece.piece.now in
    let row = c.in_ok-row.row.now in
    let found = c.in_ok-piece.ensures.lookup in
    let there = slice_get_read r.pieces.now (length r.pieces.now) c.args.number piece refl found.3.0 found.1 in
    let first : slice_get piece.rows 0 ≡ Some row = sym (c.in_ok-row.ensures.value ∙ ap (λ xs. slice_get xs 0) c.as_slice.ensures) in
    let from = r.place + length r.front.now in
    let head = row_placed from r.pieces.now c.args.number piece 0 row c.self.invariant.numbered there first in
    let late = head.0 in
    let at = c.saturating_sub-at.ensures in
    let far : piece.start + 0 - from ≡ c.saturating_sub-at.result - length r.front.now = omega (arith, at, late) in
    seen_there r.count c.saturating_sub-at.result r.front.now (joined r.pieces.now) c.args.self.now row c.self.view_is c.if-at-self.true (omega (arith, at, late)) (ap (slice_get (joined r.pieces.now)) (sym far) ∙ head.1)
