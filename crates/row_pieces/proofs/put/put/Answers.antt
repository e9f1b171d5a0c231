use Rattle.std.proofs.Common.{◌≡◌, ◌<◌, ◌++◌, ◌∷◌, [], Vec, Global, not, length, ap, subst, sym, ◌∙◌, arith}
use Rattle.std.proofs.lemmas.List.{append-nil}
use Rattle.std.proofs.lemmas.Grind.{common_steps}
use Rattle.row_pieces.specs.declared.piece.Piece.{Piece}
use Rattle.row_pieces.specs.Inserted.{with_items, AreRising}
use Rattle.row_pieces.specs.Joined.{joined}
use Rattle.row_pieces.proofs.Joining.{joined-append}
use Rattle.row_pieces.proofs.Putting.{appended, at_some, few_either, length-with_items, rising_end}
use Rattle.row_pieces.proofs.put.put.Goals as goal
use Rattle.row_pieces.proofs.put.put.Goals.{then-is_empty+in_ok-push, else-is_empty}

pub returns-then-places-count-clause-ok : goal.returns-then-places-count-clause-ok
returns-then-places-count-clause-ok c =
    let start = joined c.args.pieces.now.items in
    let rows = c.args.rows.now.items in
    let places = c.args.places.now in
    let each = c.requires.each in
    let empty = c.is_empty.ensures in
    let test = c.if-not-is_empty.true in
    let some : 0 < length places = grind (arith, common_steps) in
    let count = c.requires.count in
    let first = c.if-places-count.true in
    c.in_ok-add_behind.ensures.ok
    ∙ sym (appended start rows places (length start) (sym each) (omega arith) (rising_end (length start) places c.requires.rising some (omega (arith, count, first))))

pub returns-clause-fits : goal.returns-clause-fits
returns-clause-fits c =
    let start = joined c.args.pieces.now.items in
    let rows = c.args.rows.now.items in
    let places = c.args.places.now in
    let fits = at_some c.checked_add.result _ _ c.checked_add.ensures (c.is_none.ensures ∙ ap not c.if-is_none.false) in
    let same : joined c.if-is_empty.pieces.items ≡ start = elim c.if-is_empty.branch [
      | then-is_empty+in_ok-push w ↦
          (let none : Piece = record { start = 0; rows = w.new-rows.result } in
          ap (λ (v : Vec Piece Global). joined v.items) w.pieces-is
          ∙ ap joined w.in_ok-push.ensures.items
          ∙ joined-append c.args.pieces.now.items (none ∷ [])
          ∙ ap (λ xs. start ++ (xs ++ [])) w.new-rows.ensures
          ∙ append-nil start)
      | else-is_empty w ↦ ap (λ (v : Vec Piece Global). joined v.items) w.pieces-is
    ] in
    let now = joined c.if-is_empty.pieces.items in
    let long = ap length same in
    let rising = subst (λ xs. AreRising 0 (length xs) places) (sym same) c.requires.rising in
    let all = length-with_items now rows places 0 (sym c.requires.each) rising in
    let count = c.requires.count in
    let len = c.len.ensures in
    let held = c.args.rows.now.ok.0 in
    few_either c.put_each.result (joined c.put_each.new.pieces.items) (with_items now rows places) now _ c.put_each.ensures.ok c.put_each.ensures.err (omega (arith, all, long, count, len, held, fits)) (omega (arith, long, count, fits))
