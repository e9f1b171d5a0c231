-- Pieces that are written one after the other.
use Rattle.std.proofs.Common.{◌≡◌, ℕ, ◌+◌, ◌<◌, List, [], ◌∷◌, ◌++◌, length, take, slice_index_or, sym, ap, ◌∙◌, arith}
use Rattle.std.specs.List.{flat_map}
use Rattle.std.proofs.lemmas.List.{append-nil, append_assoc, flat_map_more, length-take, take_more}
use Rattle.reply_text.specs.Texts.{numbered_pieces}

-- the pieces of the first items, and then that of the next
pub one_more : {X : Type 0} (piece : X → List ℕ) (start now next : List ℕ) (xs : List X) (i : ℕ) (x : X) → i < length xs → x ≡ slice_index_or xs i x → now ≡ start ++ flat_map piece (take i xs) → next ≡ now ++ piece x → next ≡ start ++ flat_map piece (take (i + 1) xs)
one_more piece start now next xs i x within at before after =
    let step : take (i + 1) xs ≡ take i xs ++ x ∷ [] = take_more xs i x within ∙ ap (λ y. take i xs ++ y ∷ []) (sym at) in
    after ∙ ap (λ l. l ++ piece x) before ∙ flat_map_more piece start (take i xs) x ∙ ap (λ ys. start ++ flat_map piece ys) (sym step)

-- two pieces behind those that are written
pub two_more : (start now next written first second : List ℕ) → now ≡ start ++ written → next ≡ now ++ (first ++ second) → next ≡ start ++ (written ++ first ++ second)
two_more start now next written first second before after =
    after ∙ ap (λ l. l ++ (first ++ second)) before ∙ append_assoc start written (first ++ second) ∙ ap (λ l. start ++ l) (sym (append_assoc written first second))

module _ {X : Type 0} (piece : ℕ → X → List ℕ) where
  -- the pieces of numbered items, and then that of the next
  numbered-more : (before : ℕ) (xs : List X) (x : X) → numbered_pieces piece before (xs ++ x ∷ []) ≡ numbered_pieces piece before xs ++ piece (before + length xs) x
  numbered-more before [] x = let none : before ≡ before + 0 = omega arith in append-nil (piece before x) ∙ ap (λ k. piece k x) none
  numbered-more before (first ∷ xs) x =
      let at : before + 1 + length xs ≡ before + length (first ∷ xs) = omega arith in
      ap (λ l. piece before first ++ l) (numbered-more (before + 1) xs x ∙ ap (λ k. numbered_pieces piece (before + 1) xs ++ piece k x) at)
      ∙ sym (append_assoc (piece before first) (numbered_pieces piece (before + 1) xs) (piece (before + length (first ∷ xs)) x))

  pub one_more_numbered : (start now next : List ℕ) (xs : List X) (i : ℕ) (x : X) → i < length xs → x ≡ slice_index_or xs i x → now ≡ start ++ numbered_pieces piece 0 (take i xs) → next ≡ now ++ piece i x →
      next ≡ start ++ numbered_pieces piece 0 (take (i + 1) xs)
  one_more_numbered start now next xs i x within at before after =
      let step : take (i + 1) xs ≡ take i xs ++ x ∷ [] = take_more xs i x within ∙ ap (λ y. take i xs ++ y ∷ []) (sym at) in
      let count : 0 + length (take i xs) ≡ i = let l = length-take i xs in omega (arith, l, within) in
      let pieces : numbered_pieces piece 0 (take (i + 1) xs) ≡ numbered_pieces piece 0 (take i xs) ++ piece i x =
      ap (numbered_pieces piece 0) step ∙ numbered-more 0 (take i xs) x ∙ ap (λ k. numbered_pieces piece 0 (take i xs) ++ piece k x) count in
      after ∙ ap (λ l. l ++ piece i x) before ∙ append_assoc start (numbered_pieces piece 0 (take i xs)) (piece i x) ∙ ap (λ l. start ++ l) (sym pieces)
