use Rattle.std.proofs.Common.{◌≡◌, ◌-◌, ◌++◌, ◌∷◌, [], List, Option, Some, None, length, take, slice_get, sym, ap, ◌∙◌}
use Rattle.std.specs.Prelude.{IfSome}
use Rattle.std.specs.Borrow.{Bor}
use Rattle.std.specs.Option.{option_copied}
use Rattle.std.proofs.lemmas.List.{append-nil, append_assoc}
use Rattle.cqa_value.specs.declared.value.Value.{Value as Cell}
use Rattle.row_pieces.specs.declared.piece.Piece.{Piece}
use Rattle.row_pieces.specs.Joined.{joined}
use Rattle.row_pieces.proofs.Joining.{joined-append, split_last}
use Rattle.row_pieces.proofs.piece.last_of.Goals as goal

-- the last row of the last piece
found : (o : Option (Bor (List Cell))) (ps : List Piece) (piece : Piece) → slice_get ps (length ps - 1) ≡ Some piece → option_copied o ≡ slice_get piece.rows (length piece.rows - 1)
    → IfSome o (λ row. (before : List (List Cell)) × (joined ps ≡ before ++ row.now ∷ []))
found None ps piece last e = tt
found (Some row) ps piece last e =
    let front = joined (take (length ps - 1) ps) in
    let rows = take (length piece.rows - 1) piece.rows in (
      front ++ rows,
      ap joined (split_last ps piece last)
          ∙ joined-append (take (length ps - 1) ps) (piece ∷ [])
          ∙ ap (λ xs. front ++ xs) (append-nil piece.rows)
          ∙ ap (λ xs. front ++ xs) (split_last piece.rows row.now (sym e))
          ∙ sym (append_assoc front rows (row.now ∷ [])),
    )

pub returns : goal.returns
returns c = found c.last-2.result c.args.pieces.now c.in_ok-piece.piece.now (sym c.in_ok-piece.ensures.value) (rw (← c.as_slice.ensures) c.last-2.ensures.value)
