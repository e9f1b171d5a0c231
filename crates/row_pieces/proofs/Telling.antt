-- Items that are told to stay one by one: what is told of those of a stretch that goes over lists that are appended.
use Rattle.std.proofs.Common.{◌≡◌, ℕ, ◌+◌, ◌-◌, ◌<◌, ◌≤◌, Bool, List, ◌++◌, length, map, take, drop, get_or, set, sym, ap, ◌∙◌, arith}
use Prim.Native.Nat.{min}
use Rattle.std.specs.List.{take-map}
use Rattle.std.proofs.lemmas.List.{length-drop, take-take, take-append-le, drop-append-le, drop-drop, drop-map, drop-take, drop-set-lt, get_or-drop, get_or-map}
use Rattle.std.proofs.lemmas.List.Filters.{FiltersInPlace}
use Rattle.row_pieces.specs.declared.piece.Piece.{Piece}
use Rattle.row_pieces.specs.Joined.{joined}
use Rattle.row_pieces.proofs.Joining.{drop_past, joined_parts, joined_rest}
use Rattle.cqa_value.specs.declared.value.Value.{Value as Cell}
use native.Mathlib.Decide.{dec_le}

-- what is told of the item that a loop reads
pub told_at : {X : Type 0} (p : X → Bool) (told : List Bool) {xs ys : List X} {k i : ℕ} {b : Bool} {x : X} (d : Bool) → told ≡ map p xs → FiltersInPlace p xs ys k i → i < length ys → get_or told i d ≡ b → x ≡ get_or ys i x → p x ≡ b
told_at p told {xs} {ys} {k} {i} {b} {x} d e f l s t =
    let long = f.long in
    let zero : i + 0 ≡ i = omega arith in
    let seen : x ≡ get_or xs i x =
    t
    ∙ ap (λ n. get_or ys n x) (sym zero)
    ∙ sym (get_or-drop i ys 0 x)
    ∙ ap (λ zs. get_or zs 0 x) f.rest
    ∙ get_or-drop i xs 0 x
    ∙ ap (λ n. get_or xs n x) zero
    in
    ap p seen ∙ sym (get_or-map p xs i x d (omega (arith, l, long))) ∙ ap (λ zs. get_or zs i d) (sym e) ∙ s

module _ {A : Type 0} (p : A → Bool) (told : List Bool) (from to : ℕ) (xs ys : List A) (order : from ≤ to) (is : told ≡ map p (take (to - from) (drop from (xs ++ ys)))) where
  -- the stretch begins behind the first list
  pub told_behind : length xs ≤ from → told ≡ map p (take ((to - length xs) - (from - length xs)) (drop (from - length xs) ys))
  told_behind l =
      is
      ∙ ap (λ zs. map p (take (to - from) zs)) (drop_past xs ys (from - length xs) from (omega (arith, l)))
      ∙ ap (λ n. map p (take n (drop (from - length xs) ys))) (omega (arith, order, l))

  -- the stretch begins in the first list: what is told of its items there
  pub told_here : (end : ℕ) → from ≤ end → end ≤ to → end ≤ length xs → take (end - from) told ≡ map p (take (end - from) (drop from xs))
  told_here end o l w =
      let long = length-drop from xs in
      ap (take (end - from)) is
      ∙ take-map p (end - from) (take (to - from) (drop from (xs ++ ys)))
      ∙ ap (map p) (take-take (end - from) (to - from) (drop from (xs ++ ys)) (omega (arith, l)))
      ∙ ap (λ zs. map p (take (end - from) zs)) (drop-append-le from xs ys (omega (arith, o, w)))
      ∙ ap (map p) (take-append-le (end - from) (drop from xs) ys (omega (arith, o, w, long)))

  rest : (end : ℕ) → from ≤ end → end ≤ to → drop (end - from) told ≡ map p (take (to - end) (drop end (xs ++ ys)))
  rest end o l =
      let size : to - from ≡ (end - from) + (to - end) = omega (arith, o, l) in
      let place : from + (end - from) ≡ end = omega (arith, o) in
      ap (drop (end - from)) is
      ∙ drop-map p (end - from) (take (to - from) (drop from (xs ++ ys)))
      ∙ ap (λ n. map p (drop (end - from) (take n (drop from (xs ++ ys))))) size
      ∙ ap (map p) (drop-take (end - from) (to - end) (drop from (xs ++ ys)))
      ∙ ap (λ zs. map p (take (to - end) zs)) (drop-drop (end - from) from (xs ++ ys))
      ∙ ap (λ n. map p (take (to - end) (drop n (xs ++ ys)))) place

  -- the stretch begins in the first list: what is told of its items behind
  pub told_rest : from < length xs → drop (min to (length xs) - from) told ≡ map p (take ((to - length xs) - (from - length xs)) (drop (from - length xs) ys))
  told_rest l = go (dec_le to (length xs))
    where
      go : Dec (to ≤ length xs) → drop (min to (length xs) - from) told ≡ map p (take ((to - length xs) - (from - length xs)) (drop (from - length xs) ys))
      go (yes h) =
          let least : min to (length xs) ≡ to = omega (arith, h) in
          let none : to - to ≡ 0 = omega arith in
          let size : 0 ≡ (to - length xs) - (from - length xs) = omega (arith, h) in
          ap (λ n. drop (n - from) told) least
          ∙ rest to order (omega arith)
          ∙ ap (λ n. map p (take n (drop to (xs ++ ys)))) none
          ∙ ap (λ n. map p (take n (drop (from - length xs) ys))) size
      go (no h) =
          let least : min to (length xs) ≡ length xs = omega (arith, h) in
          let size : to - length xs ≡ (to - length xs) - (from - length xs) = omega (arith, l) in
          ap (λ n. drop (n - from) told) least
          ∙ rest (length xs) (omega (arith, l)) (omega (arith, h))
          ∙ ap (λ zs. map p (take (to - length xs) zs)) (drop_past xs ys (from - length xs) (length xs) (omega (arith, l)))
          ∙ ap (λ n. map p (take n (drop (from - length xs) ys))) size

-- what is told of a stretch of all rows is told of it from the piece on in which it begins
pub told_first : {from to low high : ℕ} (p : List Cell → Bool) (told : List Bool) (ps : List Piece) (first : ℕ) → from ≤ to → length (joined (take first ps)) ≤ from → low ≡ from - length (joined (take first ps)) → high ≡ to - length (joined (take first ps))
    → told ≡ map p (take (to - from) (drop from (joined ps))) → told ≡ map p (take (high - low) (drop low (joined (drop first ps))))
told_first {from} {to} {low} {high} p told ps first order begun e f is =
    let before = length (joined (take first ps)) in
    told_behind p told from to (joined (take first ps)) (joined (drop first ps)) order (is ∙ ap (λ xs. map p (take (to - from) (drop from xs))) (joined_parts ps first)) begun
    ∙ ap (λ n. map p (take (n - (from - before)) (drop (from - before) (joined (drop first ps))))) (sym f)
    ∙ ap (λ n. map p (take (high - n) (drop n (joined (drop first ps))))) (sym e)

module _ (ps : List Piece) (at : ℕ) (old new : Piece) (there : at < length ps) (is : old ≡ get_or ps at old) where
  -- what is told of the rows of a piece and of those behind it
  pub told_of : (p : List Cell → Bool) (told : List Bool) (low high : ℕ) → told ≡ map p (take (high - low) (drop low (joined (drop at ps)))) → told ≡ map p (take (high - low) (drop low (old.rows ++ joined (drop (at + 1) ps))))
  told_of p told low high e = e ∙ ap (λ xs. map p (take (high - low) (drop low xs))) (joined_rest ps at old there ∙ ap (λ z. z.rows ++ joined (drop (at + 1) ps)) (sym is))

  -- what is told of the rows behind a piece, once its own are done
  pub told_next : (p : List Cell → Bool) (told : List Bool) (low high lower higher : ℕ) → lower ≡ low - length old.rows → higher ≡ high - length old.rows
      → told ≡ map p (take ((high - length old.rows) - (low - length old.rows)) (drop (low - length old.rows) (joined (drop (at + 1) ps))))
      → told ≡ map p (take (higher - lower) (drop lower (joined (drop (at + 1) (set ps at new)))))
  told_next p told low high lower higher e f k =
      k
      ∙ ap (λ n. map p (take ((high - length old.rows) - n) (drop n (joined (drop (at + 1) ps))))) (sym e)
      ∙ ap (λ n. map p (take (n - lower) (drop lower (joined (drop (at + 1) ps))))) (sym f)
      ∙ ap (λ qs. map p (take (higher - lower) (drop lower (joined qs)))) (sym (drop-set-lt (at + 1) ps at new (omega arith)))
