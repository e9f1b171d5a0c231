use Rattle.std.proofs.Common.{◌≡◌, ◌+◌, ◌-◌, ◌<◌, ◌++◌, ◌∷◌, [], List, ℕ, length, take, drop, set, refl, sym, ap, subst, ◌∙◌, arith, get_or}
use Rattle.std.specs.Prelude.{Result, Ok, Err, OnOk, OnErr}
use Rattle.std.proofs.lemmas.List.{append-nil, append_assoc, drop_all, take_all, length-set}
use Rattle.cqa_value.specs.declared.value.Value.{Value as Cell}
use Rattle.cqa_value.specs.declared.memory.NoMemory.{NoMemory}
use Rattle.row_pieces.specs.declared.piece.Piece.{Piece}
use Rattle.row_pieces.specs.Joined.{joined, ArePlaced}
use Rattle.row_pieces.proofs.Joining.{joined_at, joined_set, numbered_reset, numbered_push}
use Rattle.row_pieces.proofs.add.push_behind.Goals as goal

-- a piece that was begun has its place; where none was, those that were there have theirs
begun : (result : Result Unit NoMemory) (ps qs : List Piece) (count : ℕ) (row : List Cell) → ArePlaced 0 ps → count ≡ length (joined ps)
    → OnOk result ((piece : Piece) × (qs ≡ ps ++ piece ∷ []) × (piece.start ≡ count) × (piece.rows ≡ row ∷ []))
    → OnErr result (qs ≡ ps) → ArePlaced 0 qs
begun (Ok _) ps qs count row numbered all ok err = subst (ArePlaced 0) (sym ok.1) (numbered_push 0 ps ok.0 numbered (let begins = ok.2 in omega (arith, begins, all)))
begun (Err _) ps qs count row numbered all ok err = subst (ArePlaced 0) (sym err) numbered

module _ (ps : List Piece) (at : ℕ) (old new : Piece) (last : length ps ≡ at + 1) (is : old ≡ get_or ps at old) where
  -- the last piece has other rows
  more : (rows : List (List Cell)) → new.rows ≡ old.rows ++ rows → joined (set ps at new) ≡ joined ps ++ rows
  more rows e =
      let there : at < length ps = omega (arith, last) in
      let before = joined (take at ps) in
      let none = drop_all (at + 1) ps (omega (arith, last)) in
      let whole : joined ps ≡ before ++ old.rows =
      joined_at ps at old there
      ∙ ap (λ (z : Piece). before ++ (z.rows ++ joined (drop (at + 1) ps))) (sym is)
      ∙ ap (λ qs. before ++ (old.rows ++ joined qs)) none
      ∙ ap (λ xs. before ++ xs) (append-nil old.rows)
      in
      joined_set ps at new there
      ∙ ap (λ qs. before ++ (new.rows ++ joined qs)) none
      ∙ ap (λ xs. before ++ xs) (append-nil new.rows ∙ e)
      ∙ sym (append_assoc before old.rows rows)
      ∙ ap (λ xs. xs ++ rows) (sym whole)

  placed : new.start ≡ old.start → ArePlaced 0 ps → ArePlaced 0 (set ps at new)
  placed e numbered =
      subst (ArePlaced 0) (take_all (length ps) (set ps at new) (let long = length-set ps at new in omega (arith, long))) (numbered_reset 0 ps at old new last is e numbered)

pub returns-then-some-eq0-clause-numbered : goal.returns-then-some-eq0-clause-numbered
returns-then-some-eq0-clause-numbered c =
    begun c.begin_piece.result c.args.pieces.now.items c.begin_piece.new.pieces.items c.args.count c.args.row c.requires.numbered c.requires.count c.begin_piece.ensures.ok c.begin_piece.ensures.err

on_ok : (result : Result Unit NoMemory) (P Q : Type 0) → (P → Q) → OnOk result P → OnOk result Q
on_ok (Ok _) P Q f p = f p
on_ok (Err _) P Q f p = tt

pub returns-clause-ok : goal.returns-clause-ok
returns-clause-ok c =
    let ps = c.args.pieces.now.items in
    let at = c.len-some.result - 1 in
    let old = c.index_mut-last.result.now in
    let new : Piece = record { start = old.start; rows = c.push.new.self } in
    let count = c.len-some.ensures in
    let held = c.args.pieces.now.ok.0 in
    let some = c.if-some-eq0.false in
    on_ok c.push.result (new.rows ≡ old.rows ++ c.args.row ∷ []) (joined (set ps at new) ≡ joined ps ++ c.args.row ∷ []) (more ps at old new (omega (arith, count, held, some)) c.index_mut-last.ensures.value (c.args.row ∷ [])) c.push.ensures.ok

pub returns-clause-numbered : goal.returns-clause-numbered
returns-clause-numbered c =
    let ps = c.args.pieces.now.items in
    let at = c.len-some.result - 1 in
    let old = c.index_mut-last.result.now in
    let new : Piece = record { start = old.start; rows = c.push.new.self } in
    let count = c.len-some.ensures in
    let held = c.args.pieces.now.ok.0 in
    let some = c.if-some-eq0.false in
    placed ps at old new (omega (arith, count, held, some)) c.index_mut-last.ensures.value refl c.requires.numbered
