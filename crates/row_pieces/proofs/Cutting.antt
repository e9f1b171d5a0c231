-- A piece that is cut in two.
use Rattle.std.proofs.Common.{◌≡◌, ℕ, ◌+◌, ◌<◌, ◌≤◌, false, List, [], ◌∷◌, ◌++◌, length, take, drop, get_or, set, sym, ap, subst, ◌∙◌, arith}
use Rattle.std.specs.List.{insert}
use Rattle.std.specs.Result.{OnOk, is_err}
use Rattle.std.specs.declared.result.Result.{Result}
use Rattle.std.specs.declared.result.Result.TheVariants.{Ok, Err}
use Rattle.std.proofs.lemmas.List.{append-nil, append_assoc, length-append, length-take-le, take-append-drop, take-take, get_or-take, take_more_set, drop-set-lt}
use Rattle.row_pieces.specs.declared.piece.Piece.{Piece}
use Rattle.row_pieces.specs.Joined.{joined, ArePlaced}
use Rattle.row_pieces.proofs.Joining.{take_past, joined-append, joined_at, joined_more, numbered_at, numbered_take, numbered_push}

pub at_ok : {T E P : Type 0} (r : Result T E) → is_err r ≡ false → OnOk r P → P
at_ok (Ok x) e p = p
at_ok (Err x) e p = cc

module _ (ps : List Piece) (at middle : ℕ) (there : at < length ps) (p : Piece) (is : p ≡ get_or ps at p) (fits : middle ≤ length p.rows) (numbered : ArePlaced 0 (take (at + 1) ps)) where
  pub begins : p.start ≡ length (joined (take at ps))
  begins =
      let long = length-take-le (at + 1) ps (omega (arith, there)) in
      let seen : get_or (take (at + 1) ps) at p ≡ p = get_or-take (at + 1) ps at p (omega arith) ∙ sym is in
      let e = ap (λ q. q.start) (sym seen) ∙ numbered_at 0 (take (at + 1) ps) at p numbered (omega (arith, long)) in
      let same = ap (λ qs. length (joined qs)) (take-take at (at + 1) ps (omega arith)) in
      omega (arith, e, same)

  pub most : p.start + middle ≤ length (joined ps)
  most =
      let e = ap length (joined_at ps at p there ∙ ap (λ q. joined (take at ps) ++ (q.rows ++ joined (drop (at + 1) ps))) (sym is)) in
      let a = length-append (joined (take at ps)) (p.rows ++ joined (drop (at + 1) ps)) in
      let b = length-append p.rows (joined (drop (at + 1) ps)) in
      omega (arith, e, a, b, begins, fits)

  module _ (q r : Piece) (q_start : q.start ≡ p.start) (q_rows : q.rows ≡ take middle p.rows) (r_start : r.start ≡ p.start + middle) (r_rows : r.rows ≡ drop middle p.rows) (new : List Piece) (is_new : new ≡ insert (set ps at q) (at + 1) r) where
    two : new ≡ (take at ps ++ q ∷ []) ++ r ∷ drop (at + 1) ps
    two =
        is_new
        ∙ ap (λ xs. xs ++ r ∷ drop (at + 1) (set ps at q)) (take_more_set ps at q there)
        ∙ ap (λ xs. (take at ps ++ q ∷ []) ++ r ∷ xs) (drop-set-lt (at + 1) ps at q (omega arith))

    first_two : take (at + 2) new ≡ (take at ps ++ q ∷ []) ++ r ∷ []
    first_two =
        let long = length-take-le at ps (omega (arith, there)) in
        let sum = length-append (take at ps) (q ∷ []) in
        ap (take (at + 2)) two ∙ take_past (take at ps ++ q ∷ []) (r ∷ drop (at + 1) ps) 1 (at + 2) (omega (arith, long, sum))

    rows : q.rows ++ r.rows ≡ p.rows
    rows = ap (λ xs. xs ++ r.rows) q_rows ∙ ap (λ xs. take middle p.rows ++ xs) r_rows ∙ take-append-drop middle p.rows

    before : joined (take at ps ++ q ∷ []) ≡ joined (take at ps) ++ q.rows
    before = joined-append (take at ps) (q ∷ []) ∙ ap (λ xs. joined (take at ps) ++ xs) (append-nil q.rows)

    pub joined_front : joined (take (at + 2) new) ≡ joined (take (at + 1) ps)
    joined_front =
        ap joined first_two
        ∙ joined-append (take at ps ++ q ∷ []) (r ∷ [])
        ∙ ap (λ xs. xs ++ (r.rows ++ [])) before
        ∙ ap (λ xs. (joined (take at ps) ++ q.rows) ++ xs) (append-nil r.rows)
        ∙ append_assoc (joined (take at ps)) q.rows r.rows
        ∙ ap (λ xs. joined (take at ps) ++ xs) rows
        ∙ sym (joined_more ps at p there ∙ ap (λ z. joined (take at ps) ++ z.rows) (sym is))

    pub joined_cut : joined new ≡ joined ps
    joined_cut =
        let behind = joined (drop (at + 1) ps) in
        ap joined two
        ∙ joined-append (take at ps ++ q ∷ []) (r ∷ drop (at + 1) ps)
        ∙ ap (λ xs. xs ++ (r.rows ++ behind)) before
        ∙ append_assoc (joined (take at ps)) q.rows (r.rows ++ behind)
        ∙ ap (λ xs. joined (take at ps) ++ xs) (sym (append_assoc q.rows r.rows behind))
        ∙ ap (λ xs. joined (take at ps) ++ (xs ++ behind)) rows
        ∙ sym (joined_at ps at p there ∙ ap (λ z. joined (take at ps) ++ (z.rows ++ behind)) (sym is))

    pub numbered_cut : ArePlaced 0 (take (at + 2) new)
    numbered_cut =
        let kept = subst (λ qs. ArePlaced 0 qs) (take-take at (at + 1) ps (omega arith)) (numbered_take 0 (take (at + 1) ps) at numbered) in
        let start_is : q.start ≡ 0 + length (joined (take at ps)) = q_start ∙ omega (arith, begins) in
        let e = ap length before in
        let sum = length-append (joined (take at ps)) q.rows in
        let len = ap length q_rows in
        let half = length-take-le middle p.rows fits in
        subst (λ qs. ArePlaced 0 qs) (sym first_two) (numbered_push 0 (take at ps ++ q ∷ []) r (numbered_push 0 (take at ps) q kept start_is) (omega (arith, r_start, e, sum, len, half, begins)))
