use Rattle.std.proofs.Common.{◌≡◌, ◌+◌, ◌<◌, ◌++◌, length, take, drop, get_or, ap, sym, subst, ◌∙◌, arith}
use Rattle.std.proofs.lemmas.List.{append_assoc, drop-drop, drop-set-lt, get_or-drop, length-set}
use Rattle.row_pieces.specs.declared.piece.Piece.{Piece}
use Rattle.row_pieces.specs.Joined.{joined}
use Rattle.row_pieces.proofs.Joining.{joined_more}
use Rattle.row_pieces.proofs.take.give_each.Goals as goal

pub loop-at-preserved : goal.loop-at-preserved
loop-at-preserved c =
    let old = c.args.pieces.now in
    let pieces = c.loop-at.pieces in
    let at = c.loop-at.at in
    let read = c.index-pieces-at.result in
    let i = c.loop-at.invariant in
    let inside = c.loop-at-test.true in
    let end = c.loop-at.auto.at-end in
    let long = i.1 in
    let there : at < length old = omega (arith, inside, end, long) in
    let same : get_or pieces at read ≡ get_or old at read = subst (λ n. get_or pieces n read ≡ get_or old n read) (omega arith) (sym (get_or-drop at pieces 0 read) ∙ ap (λ l. get_or l 0 read) i.2 ∙ get_or-drop at old 0 read) in
    let given : Piece = record { start = (get_or pieces at read).start; rows = c.give.new.self } in (
      c.in_ok-give.ensures.given
          ∙ ap (λ rows. rows ++ (get_or pieces at read).rows) i.0
          ∙ ap (λ (piece : Piece). (c.args.rows.now.items ++ joined (take at old)) ++ piece.rows) same
          ∙ append_assoc c.args.rows.now.items (joined (take at old)) (get_or old at read).rows
          ∙ ap (λ rows. c.args.rows.now.items ++ rows) (sym (joined_more old at read there)),
      length-set pieces at given ∙ long,
      drop-set-lt (at + 1) pieces at given (omega arith)
          ∙ sym (drop-drop 1 at pieces)
          ∙ ap (drop 1) i.2
          ∙ drop-drop 1 at old,
    )
