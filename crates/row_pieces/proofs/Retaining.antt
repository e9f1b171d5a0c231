-- Items of a stretch that stay, where the stretch goes over lists that are appended.
use Rattle.std.proofs.Common.{◌≡◌, ℕ, ◌+◌, ◌-◌, ◌<◌, ◌≤◌, Bool, List, [], ◌∷◌, ◌++◌, length, take, drop, get_or, set, sym, ap, ◌∙◌, arith}
use Prim.Native.Nat.{min}
use Rattle.std.specs.List.{filter}
use Rattle.std.proofs.lemmas.List.{append-nil, append_assoc, length-append, length-drop, length-take-le, take-append-drop, take-append-le, drop-append-le, drop-drop, drop-set-lt, get_or-drop, take_all, take_at, take_more_set, drop_all, drop_at}
use Rattle.std.proofs.lemmas.List.Elements.{filter-append}
use Rattle.cqa_value.specs.declared.value.Value.{Value as Cell}
use Rattle.row_pieces.specs.declared.piece.Piece.{Piece}
use Rattle.row_pieces.specs.Joined.{joined, ArePlaced, IsPieceOf}
use Rattle.row_pieces.specs.Retained.{retained}
use Rattle.row_pieces.proofs.Joining.{take_past, drop_past, joined-append, joined_at, joined_more, joined_parts, joined_rest, joined_set, numbered_at}
use native.Mathlib.Decide.{dec_le}

module _ {A : Type 0} (p : A → Bool) where
  pub retained-nil : (from to : ℕ) → retained p from to [] ≡ []
  retained-nil from to =
      ap (λ xs. (xs ++ filter p (take (to - from) (drop from []))) ++ drop to []) (take_all from [] (omega arith))
      ∙ ap (λ xs. filter p (take (to - from) xs) ++ drop to []) (drop_all from [] (omega arith))
      ∙ ap (λ xs. filter p xs ++ drop to []) (take_all (to - from) [] (omega arith))
      ∙ drop_all to [] (omega arith)

  -- the stretch begins behind the first list
  pub retained_behind : (from to : ℕ) (xs ys : List A) → from ≤ to → length xs ≤ from → retained p from to (xs ++ ys) ≡ xs ++ retained p (from - length xs) (to - length xs) ys
  retained_behind from to xs ys o l =
      let f = from - length xs in
      let t = to - length xs in
      let size : to - from ≡ t - f = omega (arith, o, l) in
      ap (λ zs. (zs ++ filter p (take (to - from) (drop from (xs ++ ys)))) ++ drop to (xs ++ ys)) (take_past xs ys f from (omega (arith, l)))
      ∙ ap (λ zs. ((xs ++ take f ys) ++ filter p (take (to - from) zs)) ++ drop to (xs ++ ys)) (drop_past xs ys f from (omega (arith, l)))
      ∙ ap (λ n. ((xs ++ take f ys) ++ filter p (take n (drop f ys))) ++ drop to (xs ++ ys)) size
      ∙ ap (λ zs. ((xs ++ take f ys) ++ filter p (take (t - f) (drop f ys))) ++ zs) (drop_past xs ys t to (omega (arith, o, l)))
      ∙ ap (λ zs. zs ++ drop t ys) (append_assoc xs (take f ys) (filter p (take (t - f) (drop f ys))))
      ∙ append_assoc xs (take f ys ++ filter p (take (t - f) (drop f ys))) (drop t ys)

  -- nothing of the stretch is left
  pub retained_none : (from to : ℕ) (ys : List A) → from ≡ 0 → to ≡ 0 → retained p from to ys ≡ ys
  retained_none from to ys e f = ap (λ n. retained p n to ys) e ∙ ap (λ n. retained p 0 n ys) f

  -- the stretch ends in the first list
  within : (from to : ℕ) (xs ys : List A) → from ≤ to → to ≤ length xs → retained p from to (xs ++ ys) ≡ retained p from to xs ++ ys
  within from to xs ys o l =
      let long = length-drop from xs in
      ap (λ zs. (zs ++ filter p (take (to - from) (drop from (xs ++ ys)))) ++ drop to (xs ++ ys)) (take-append-le from xs ys (omega (arith, o, l)))
      ∙ ap (λ zs. (take from xs ++ filter p (take (to - from) zs)) ++ drop to (xs ++ ys)) (drop-append-le from xs ys (omega (arith, o, l)))
      ∙ ap (λ zs. (take from xs ++ filter p zs) ++ drop to (xs ++ ys)) (take-append-le (to - from) (drop from xs) ys (omega (arith, long, l)))
      ∙ ap (λ zs. (take from xs ++ filter p (take (to - from) (drop from xs))) ++ zs) (drop-append-le to xs ys l)
      ∙ sym (append_assoc (take from xs ++ filter p (take (to - from) (drop from xs))) (drop to xs) ys)

  -- the stretch goes on in the second list
  past : (from to : ℕ) (xs ys : List A) → from < length xs → length xs ≤ to → retained p from to (xs ++ ys) ≡ retained p from (length xs) xs ++ retained p 0 (to - length xs) ys
  past from to xs ys l h =
      let t = to - length xs in
      let long = length-drop from xs in
      let front = take from xs in
      let here = filter p (drop from xs) in
      let there = filter p (take t ys) in
      let left : retained p from to (xs ++ ys) ≡ (front ++ (here ++ there)) ++ drop t ys =
      ap (λ zs. (zs ++ filter p (take (to - from) (drop from (xs ++ ys)))) ++ drop to (xs ++ ys)) (take-append-le from xs ys (omega (arith, l)))
      ∙ ap (λ zs. (front ++ filter p (take (to - from) zs)) ++ drop to (xs ++ ys)) (drop-append-le from xs ys (omega (arith, l)))
      ∙ ap (λ zs. (front ++ filter p zs) ++ drop to (xs ++ ys)) (take_past (drop from xs) ys t (to - from) (omega (arith, long, l, h)))
      ∙ ap (λ zs. (front ++ zs) ++ drop to (xs ++ ys)) (filter-append p (drop from xs) (take t ys))
      ∙ ap (λ zs. (front ++ (here ++ there)) ++ zs) (drop_past xs ys t to (omega (arith, h)))
      in
      let first : retained p from (length xs) xs ≡ front ++ here =
      ap (λ zs. (front ++ filter p zs) ++ drop (length xs) xs) (take_all (length xs - from) (drop from xs) (omega (arith, long)))
      ∙ ap (λ zs. (front ++ here) ++ zs) (drop_all (length xs) xs (omega arith))
      ∙ append-nil (front ++ here)
      in
      let zero_less : t - 0 ≡ t = omega arith in
      let second : retained p 0 t ys ≡ there ++ drop t ys = ap (λ n. filter p (take n ys) ++ drop t ys) zero_less in
      left
      ∙ ap (λ zs. zs ++ drop t ys) (sym (append_assoc front here there))
      ∙ append_assoc (front ++ here) there (drop t ys)
      ∙ ap (λ zs. zs ++ (there ++ drop t ys)) (sym first)
      ∙ ap (λ zs. retained p from (length xs) xs ++ zs) (sym second)

  -- the stretch begins in the first list
  pub retained_across : (from to : ℕ) (xs ys : List A) → from ≤ to → from < length xs → retained p from to (xs ++ ys) ≡ retained p from (min to (length xs)) xs ++ retained p (from - length xs) (to - length xs) ys
  retained_across from to xs ys o l = go (dec_le to (length xs))
    where
      none : from - length xs ≡ 0
      none = omega (arith, l)

      go : Dec (to ≤ length xs) → retained p from to (xs ++ ys) ≡ retained p from (min to (length xs)) xs ++ retained p (from - length xs) (to - length xs) ys
      go (yes h) =
          let least : min to (length xs) ≡ to = omega (arith, h) in
          within from to xs ys o h
          ∙ ap (λ n. retained p from n xs ++ ys) (sym least)
          ∙ ap (λ zs. retained p from (min to (length xs)) xs ++ zs) (sym (retained_none (from - length xs) (to - length xs) ys none (omega (arith, h))))
      go (no h) =
          let least : min to (length xs) ≡ length xs = omega (arith, h) in
          past from to xs ys l (omega (arith, h))
          ∙ ap (λ n. retained p from n xs ++ retained p 0 (to - length xs) ys) (sym least)
          ∙ ap (λ n. retained p from (min to (length xs)) xs ++ retained p n (to - length xs) ys) (sym none)

module _ (ps : List Piece) (at : ℕ) (old new : Piece) (there : at < length ps) (is : old ≡ get_or ps at old) where
  -- the stretch goes on behind a piece
  pub retained_next : (p : List Cell → Bool) (low high lower higher : ℕ) (all : List (List Cell)) → lower ≡ low - length old.rows → higher ≡ high - length old.rows
      → retained p low high (old.rows ++ joined (drop (at + 1) ps)) ≡ new.rows ++ retained p (low - length old.rows) (high - length old.rows) (joined (drop (at + 1) ps))
      → all ≡ joined (take at ps) ++ retained p low high (joined (drop at ps))
      → all ≡ joined (take (at + 1) (set ps at new)) ++ retained p lower higher (joined (drop (at + 1) (set ps at new)))
  retained_next p low high lower higher all e f step so_far =
      let behind = joined (drop (at + 1) ps) in
      let before = joined (take at ps) in
      let last = retained p lower higher behind in
      let front : joined (take (at + 1) (set ps at new)) ≡ before ++ new.rows =
      ap joined (take_more_set ps at new there)
      ∙ joined-append (take at ps) (new ∷ [])
      ∙ ap (λ xs. before ++ xs) (append-nil new.rows)
      in
      so_far
      ∙ ap (λ xs. before ++ retained p low high xs) (joined_rest ps at old there ∙ ap (λ z. z.rows ++ behind) (sym is))
      ∙ ap (λ xs. before ++ xs) step
      ∙ ap (λ n. before ++ (new.rows ++ retained p n (high - length old.rows) behind)) (sym e)
      ∙ ap (λ n. before ++ (new.rows ++ retained p lower n behind)) (sym f)
      ∙ sym (append_assoc before new.rows last)
      ∙ ap (λ xs. xs ++ last) (sym front)
      ∙ ap (λ qs. joined (take (at + 1) (set ps at new)) ++ retained p lower higher (joined qs)) (sym (drop-set-lt (at + 1) ps at new (omega arith)))

  pub fewer_set : length new.rows ≤ length old.rows → length (joined (set ps at new)) ≤ length (joined ps)
  fewer_set l =
      let behind = joined (drop (at + 1) ps) in
      let before = joined (take at ps) in
      let e = ap length (joined_set ps at new there) in
      let f = ap length (joined_at ps at old there ∙ ap (λ z. before ++ (z.rows ++ behind)) (sym is)) in
      let a = length-append before (new.rows ++ behind) in
      let b = length-append new.rows behind in
      let c = length-append before (old.rows ++ behind) in
      let d = length-append old.rows behind in
      omega (arith, e, f, a, b, c, d, l)

-- ---- rows that are exchanged

pub exchanged_next : (ps new : List Piece) (old : List Piece) (rows given others : List (List Cell)) (at start : ℕ) (p q : Piece) → at < length ps → length ps ≡ length old
    → p ≡ get_or ps at p → start ≡ length (joined (take at old)) → length others ≡ length (joined old) → joined (take at ps) ≡ take start others → rows ≡ joined (take at old) ++ drop start others → drop at ps ≡ drop at old
    → q.rows ≡ take (length p.rows) (drop start rows) → given ≡ take start rows ++ (p.rows ++ drop (length p.rows) (drop start rows)) → new ≡ set ps at q
    → (joined (take (at + 1) old) ≡ joined (take at old) ++ p.rows) × (joined (take (at + 1) new) ≡ take (start + length p.rows) others) × (given ≡ joined (take (at + 1) old) ++ drop (start + length p.rows) others) × (drop (at + 1) new ≡ drop (at + 1) old)
exchanged_next ps new old rows given others at start p q there same is start_is all held so_far rest q_rows given_is new_is =
    let n = length p.rows in
    let first = get_or-drop at ps 0 p in
    let first_old = get_or-drop at old 0 p in
    let zero : at + 0 ≡ at = omega arith in
    let seen : p ≡ get_or old at p = is ∙ ap (λ k. get_or ps k p) (sym zero) ∙ sym first ∙ ap (λ qs. get_or qs 0 p) rest ∙ first_old ∙ ap (λ k. get_or old k p) zero in
    let more : joined (take (at + 1) old) ≡ joined (take at old) ++ p.rows = joined_more old at p (omega (arith, there, same)) ∙ ap (λ z. joined (take at old) ++ z.rows) (sym seen) in
    let front : take start rows ≡ joined (take at old) = ap (take start) so_far ∙ take_at (joined (take at old)) (drop start others) start (sym start_is) in
    let behind : drop start rows ≡ drop start others = ap (drop start) so_far ∙ drop_at (joined (take at old)) (drop start others) start (sym start_is) in
    let fits : start ≤ length others = (let e = ap length (joined_parts old at) in let a = length-append (joined (take at old)) (joined (drop at old)) in omega (arith, e, a, all, start_is)) in
    let parts : take (start + n) others ≡ take start others ++ take n (drop start others) =
    ap (take (start + n)) (sym (take-append-drop start others))
    ∙ take_past (take start others) (drop start others) n (start + n) (let long = length-take-le start others fits in omega (arith, long))
    in (
      more,
      ap (λ qs. joined (take (at + 1) qs)) new_is
          ∙ ap joined (take_more_set ps at q there)
          ∙ joined-append (take at ps) (q ∷ [])
          ∙ ap (λ xs. joined (take at ps) ++ xs) (append-nil q.rows)
          ∙ ap (λ xs. xs ++ q.rows) held
          ∙ ap (λ xs. take start others ++ xs) (q_rows ∙ ap (take n) behind)
          ∙ sym parts,
      given_is
          ∙ ap (λ xs. xs ++ (p.rows ++ drop n (drop start rows))) front
          ∙ ap (λ xs. joined (take at old) ++ (p.rows ++ drop n xs)) behind
          ∙ sym (append_assoc (joined (take at old)) p.rows (drop n (drop start others)))
          ∙ ap (λ xs. xs ++ drop n (drop start others)) (sym more)
          ∙ ap (λ xs. joined (take (at + 1) old) ++ xs) (drop-drop n start others),
      ap (drop (at + 1)) new_is
          ∙ drop-set-lt (at + 1) ps at q (omega arith)
          ∙ sym (drop-drop 1 at ps)
          ∙ ap (drop 1) rest
          ∙ drop-drop 1 at old,
    )

pub exchanged_fits : (ps old : List Piece) (at : ℕ) (p : Piece) → at < length ps → length ps ≡ length old → p ≡ get_or ps at p → drop at ps ≡ drop at old → length (joined (take at old)) + length p.rows ≤ length (joined old)
exchanged_fits ps old at p there same is rest =
    let e = ap length (joined_parts old at) in
    let a = length-append (joined (take at old)) (joined (drop at old)) in
    let f = ap (λ qs. length (joined qs)) rest in
    let g = ap length (joined_rest ps at p there ∙ ap (λ z. z.rows ++ joined (drop (at + 1) ps)) (sym is)) in
    let b = length-append p.rows (joined (drop (at + 1) ps)) in
    omega (arith, e, a, f, g, b)

-- ---- the piece in which a stretch begins

pub first_begins : (ps : List Piece) (from first : ℕ) (d : Piece) → ArePlaced 0 ps → IsPieceOf 0 ps from first → ((get_or ps first d).start ≡ length (joined (take first ps))) × ((get_or ps first d).start ≤ from)
first_begins ps from first d numbered found =
    let start = numbered_at 0 ps first d numbered found.within in
    let above = found.above in
    (omega (arith, start), omega (arith, start, above))

pub retained_first : {from to low high : ℕ} (p : List Cell → Bool) (ps : List Piece) (first : ℕ) → from ≤ to → length (joined (take first ps)) ≤ from → low ≡ from - length (joined (take first ps)) → high ≡ to - length (joined (take first ps))
    → retained p from to (joined ps) ≡ joined (take first ps) ++ retained p low high (joined (drop first ps))
retained_first {from} {to} {low} {high} p ps first order begun e f =
    ap (retained p from to) (joined_parts ps first)
    ∙ retained_behind p from to (joined (take first ps)) (joined (drop first ps)) order begun
    ∙ ap (λ n. joined (take first ps) ++ retained p n (to - length (joined (take first ps))) (joined (drop first ps))) (sym e)
    ∙ ap (λ n. joined (take first ps) ++ retained p low n (joined (drop first ps))) (sym f)
