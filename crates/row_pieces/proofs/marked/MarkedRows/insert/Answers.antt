use Rattle.std.proofs.Common.{cond, map, ap, sym, ◌∙◌, arith}
use Rattle.std.specs.List.{insert}
use Rattle.row_pieces.specs.Marks.{row_mark}
use Rattle.row_pieces.proofs.Marking.{map-insert}
use Rattle.row_pieces.proofs.marked.MarkedRows.insert.Goals as goal

pub invariant_of-self-2 : goal.invariant_of-self-2
invariant_of-self-2 c =
    let at = c.args.at in
    let row = c.args.row in
    let rows = c.make_room.new.items.items in
    let marks = c.make_room-2.new.items.items in
    let rows_room = c.in_ok-make_room.ensures.room in
    let marks_room = c.in_ok-make_room-2.ensures.room in
    c.insert.ensures.items
    ∙ ap (λ b. cond b (insert marks at c.mark_of_row-mark.result) marks) (c.insert.ensures.succeeds (omega (arith, marks_room)))
    ∙ ap (λ m. insert marks at m) c.mark_of_row-mark.ensures
    ∙ ap (λ zs. insert zs at (row_mark row)) (c.in_ok-make_room-2.ensures.same ∙ c.self.invariant ∙ ap (map row_mark) (sym c.in_ok-make_room.ensures.same))
    ∙ map-insert row_mark rows at row
    ∙ ap (map row_mark) (sym (c.insert-2.ensures.items ∙ ap (λ b. cond b (insert rows at row) rows) (c.insert-2.ensures.succeeds (omega (arith, rows_room)))))
