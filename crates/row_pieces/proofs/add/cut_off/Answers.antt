use Rattle.std.proofs.Common.{◌-◌, ◌++◌, ◌∷◌, [], List, reverse, take, sym, ap, ◌∙◌}
use Rattle.std.proofs.lemmas.List.{append_assoc, reverse-append, take-append-drop}
use Rattle.row_pieces.specs.declared.piece.Piece.{Piece}
use Rattle.row_pieces.specs.Joined.{joined}
use Rattle.row_pieces.proofs.add.cut_off.Goals as goal

pub loop-rows-preserved : goal.loop-rows-preserved
loop-rows-preserved c =
    let rows = c.loop-rows.rows.items in
    let cut = c.loop-rows.cut.items in
    let front = c.split_off.new.self.items in
    let rest = c.in_ok-rest.rest.items in
    let piece : Piece = record { start = 0; rows = c.in_ok-rows.rows } in
    let behind = joined (reverse cut) in
    ap (λ (qs : List Piece). front ++ joined (reverse qs)) c.in_ok-push.ensures.items
    ∙ ap (λ qs. front ++ joined qs) (reverse-append cut (piece ∷ []))
    ∙ ap (λ xs. front ++ (xs ++ behind)) c.in_ok-rows.ensures
    ∙ sym (append_assoc front rest behind)
    ∙ ap (λ xs. (xs ++ rest) ++ behind) c.in_ok-rest.ensures.items
    ∙ ap (λ xs. (take (c.len-in-loop-rows.result - 256) rows ++ xs) ++ behind) c.in_ok-rest.ensures.tail
    ∙ ap (λ xs. xs ++ behind) (take-append-drop (c.len-in-loop-rows.result - 256) rows)
    ∙ c.loop-rows.invariant
