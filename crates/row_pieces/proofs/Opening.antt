-- Pieces of which the first ones have their places, and how a row is put into one of these.
use Rattle.std.proofs.Common.{◌≡◌, ℕ, ◌+◌, ◌-◌, ◌<◌, ◌≤◌, List, [], ◌∷◌, ◌++◌, length, take, drop, get_or, set, refl, sym, ap, subst, ◌∙◌, arith}
use Rattle.std.specs.List.{insert}
use Rattle.std.proofs.lemmas.List.{append-nil, length-append, length-take-le, take-take, get_or-take, take_more_set}
use Rattle.std.proofs.lemmas.List.Edits.{length-insert, insert-append_left, insert-append_right}
use Rattle.cqa_value.specs.declared.value.Value.{Value as Cell}
use Rattle.row_pieces.specs.declared.piece.Piece.{Piece}
use Rattle.row_pieces.specs.Inserted.{with_item}
use Rattle.row_pieces.specs.Joined.{joined, ArePlaced, IsPieceOf, HasPlacesTo}
use Rattle.row_pieces.proofs.Joining.{joined-append, joined_at, joined_more, joined_set, numbered_at, numbered_take, numbered_push}

pub found_open : (ps xs : List Piece) (end place i : ℕ) → HasPlacesTo ps end place → xs ≡ take end ps
    → ((from : ℕ) → ArePlaced from xs → from ≤ place → place ≤ from + length (joined xs) → 0 < length xs → IsPieceOf from xs place i) → IsPieceOf 0 (take end ps) place i
found_open ps xs end place i opened e f =
    let g : (from : ℕ) → ArePlaced from (take end ps) → from ≤ place → place ≤ from + length (joined (take end ps)) → 0 < length (take end ps) → IsPieceOf from (take end ps) place i = subst (λ ys. (from : ℕ) → ArePlaced from ys → from ≤ place → place ≤ from + length (joined ys) → 0 < length ys → IsPieceOf from ys place i) e f in
    let long = length-take-le end ps opened.within in
    let some = opened.some in
    let there = opened.there in
    g 0 opened.numbered (omega arith) (omega (arith, there)) (omega (arith, long, some))

module _ (ps : List Piece) (end place i : ℕ) (opened : HasPlacesTo ps end place) (found : IsPieceOf 0 (take end ps) place i) (p : Piece) (is : p ≡ get_or ps i p) where
  early : i < end
  early =
      let long = length-take-le end ps opened.within in
      let within = found.within in
      omega (arith, long, within)

  pub inside : i < length ps
  inside =
      let within = opened.within in
      omega (arith, early, within)

  front : (n : ℕ) → n ≤ end → take n (take end ps) ≡ take n ps
  front n l = take-take n end ps l

  pub begins : p.start ≡ length (joined (take i ps))
  begins =
      let seen : get_or (take end ps) i p ≡ p = get_or-take end ps i p early ∙ sym is in
      let e = ap (λ q. q.start) (sym seen) ∙ numbered_at 0 (take end ps) i p opened.numbered found.within in
      let same = ap (λ qs. length (joined qs)) (front i (omega (arith, early))) in
      omega (arith, e, same)

  pub more : joined (take (i + 1) ps) ≡ joined (take i ps) ++ p.rows
  more = joined_more ps i p inside ∙ ap (λ q. joined (take i ps) ++ q.rows) (sym is)

  pub low : p.start ≤ place
  low =
      let above = found.above in
      let same = ap (λ qs. length (joined qs)) (front i (omega (arith, early))) in
      omega (arith, above, same, begins)

  pub high : place - p.start ≤ length p.rows
  high =
      let below = found.below in
      let same = ap (λ qs. length (joined qs)) (front (i + 1) (omega (arith, early))) in
      let e = ap length more in
      let sum = length-append (joined (take i ps)) p.rows in
      omega (arith, below, same, begins, e, sum)

  pub numbered_here : ArePlaced 0 (take (i + 1) ps)
  numbered_here = subst (λ qs. ArePlaced 0 qs) (front (i + 1) (omega (arith, early))) (numbered_take 0 (take end ps) (i + 1) opened.numbered)

  pub open_here : HasPlacesTo ps (i + 1) place
  open_here =
      let within = inside in
      let e = ap length more in
      let sum = length-append (joined (take i ps)) p.rows in
      record {
        some = omega arith;
        within = omega (arith, within);
        numbered = numbered_here;
        there = omega (arith, e, sum, low, high, begins);
      }

  -- a row is put into the piece
  module _ (q : Piece) (row : List Cell) (start : q.start ≡ p.start) (rows : q.rows ≡ insert p.rows (place - p.start) row) where
    front_set : take (i + 1) (set ps i q) ≡ take i ps ++ q ∷ []
    front_set = take_more_set ps i q inside

    pub joined_put : joined (set ps i q) ≡ with_item place row (joined ps)
    joined_put =
        let behind = joined (drop (i + 1) ps) in
        let before = joined (take i ps) in
        let far : place - length before ≡ place - p.start = omega (arith, begins) in
        joined_set ps i q inside
        ∙ ap (λ xs. before ++ (xs ++ behind)) rows
        ∙ ap (λ xs. before ++ xs) (sym (insert-append_left p.rows behind (place - p.start) row high))
        ∙ ap (λ n. before ++ insert (p.rows ++ behind) n row) (sym far)
        ∙ sym (insert-append_right before (p.rows ++ behind) (length before) place row refl (omega (arith, low, begins)))
        ∙ ap (λ xs. insert xs place row) (sym (joined_at ps i p inside ∙ ap (λ z. before ++ (z.rows ++ behind)) (sym is)))

    pub open_put : length ps ≡ length (set ps i q) → HasPlacesTo (set ps i q) (i + 1) place
    open_put long =
        let front_rows : joined (take (i + 1) (set ps i q)) ≡ joined (take i ps) ++ q.rows =
        ap joined front_set
        ∙ joined-append (take i ps) (q ∷ [])
        ∙ ap (λ xs. joined (take i ps) ++ xs) (append-nil q.rows)
        in
        let e = ap length front_rows in
        let sum = length-append (joined (take i ps)) q.rows in
        let grown = ap length rows in
        let here = inside in
        let start_is : q.start ≡ 0 + length (joined (take i ps)) = start ∙ (omega (arith, begins)) in
        let kept = numbered_take 0 (take (i + 1) ps) i numbered_here in
        let same = take-take i (i + 1) ps (omega arith) in
        let put = length-insert p.rows (place - p.start) row high in
        record {
          some = omega arith;
          within = omega (arith, here, long);
          numbered = subst (λ qs. ArePlaced 0 qs) (sym front_set) (numbered_push 0 (take i ps) q (subst (λ qs. ArePlaced 0 qs) same kept) start_is);
          there = omega (arith, e, sum, grown, put, high, low, begins);
        }
