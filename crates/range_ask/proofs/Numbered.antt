-- The numbers of blocks of two or more rows, and what stands at them.
use Rattle.std.proofs.Common.{◌≡◌, inl, inr, ℕ, suc, ◌+◌, ◌<◌, ◌≤◌, List, [], ◌∷◌, ◌++◌, length, map, get_or, Contains, Bool, true, false, if◌then◌else◌, refl, sym, ◌∙◌, ap, subst, arith, append_assoc, length-append}
use Rattle.std.proofs.Math.Seq.{get_or-append_seam}
use Rattle.std.proofs.lemmas.List.{append-nil}
use Rattle.cqa_value.specs.declared.value.Value.{Value}
use Rattle.cqa_model.specs.declared.query.RowId.{RowId}
use Rattle.cqa_model.proofs.Classic.{mem-nil, mem-cases}
use Rattle.range_ask.specs.Walking.{wide_from, wide_of}
use Rattle.range_ask.specs.Choosing.{wide_names}
use Rattle.row_blocks.specs.Conflicts.{is_conflict}

abbrev one_if : Bool → ℕ → List ℕ
one_if t n = if t then n ∷ [] else []

wide-more : (n : ℕ) (front : List (List (List Value))) (block : List (List Value)) → wide_from n (front ++ block ∷ []) ≡ wide_from n front ++ one_if (is_conflict block) (n + length front)
wide-more n [] block = let e : n ≡ n + 0 = omega arith in ap (λ k. one_if (is_conflict block) k) e
wide-more n (b ∷ bs) block = go (is_conflict b) (wide-more (suc n) bs block ∙ ap (λ k. wide_from (suc n) bs ++ one_if (is_conflict block) k) same)
  where
    same : suc n + length bs ≡ n + length (b ∷ bs)
    same = omega arith

    go : (t : Bool) → wide_from (suc n) (bs ++ block ∷ []) ≡ wide_from (suc n) bs ++ one_if (is_conflict block) (n + length (b ∷ bs)) →
        (if t then n ∷ wide_from (suc n) (bs ++ block ∷ []) else wide_from (suc n) (bs ++ block ∷ [])) ≡ (if t then n ∷ wide_from (suc n) bs else wide_from (suc n) bs) ++ one_if (is_conflict block) (n + length (b ∷ bs))
    go true e = ap (λ ns. n ∷ ns) e
    go false e = e

narrow-is : (block : List (List Value)) → length block ≤ 1 → is_conflict block ≡ false
narrow-is [] l = refl
narrow-is (x ∷ []) l = refl
narrow-is (x ∷ y ∷ rows) l = absurd (omega (arith, l))

wide-is : (block : List (List Value)) → 1 < length block → is_conflict block ≡ true
wide-is [] l = absurd (omega (arith, l))
wide-is (x ∷ []) l = absurd (omega (arith, l))
wide-is (x ∷ y ∷ rows) l = refl

module _ (front : List (List (List Value))) (block : List (List Value)) (old : List ℕ) (is : old ≡ wide_of front) where
  zero-plus : 0 + length front ≡ length front
  zero-plus = omega arith

  pub note-narrow : length block ≤ 1 → old ≡ wide_of (front ++ block ∷ [])
  note-narrow l = is ∙ sym (wide-more 0 front block ∙ (ap (λ t. wide_of front ++ one_if t (0 + length front)) (narrow-is block l) ∙ append-nil (wide_of front)))

  pub note-wide : 1 < length block → (n : ℕ) → n ≡ length front → old ++ n ∷ [] ≡ wide_of (front ++ block ∷ [])
  note-wide l n e = ap (λ ns. ns ++ n ∷ []) is ∙ sym (wide-more 0 front block ∙ (ap (λ t. wide_of front ++ one_if t (0 + length front)) (wide-is block l) ∙ ap (λ k. wide_of front ++ k ∷ []) (zero-plus ∙ sym e)))

-- such a number is one of a block
pub wide-below : (n : ℕ) (blocks : List (List (List Value))) (k : ℕ) → Contains (wide_from n blocks) k → k < n + length blocks
wide-below n [] k m = absurd (mem-nil k m)
wide-below n (b ∷ bs) k m = go (λ r. wide-below (suc n) bs k r) (is_conflict b) m
  where
    go : (Contains (wide_from (suc n) bs) k → k < suc n + length bs) → (t : Bool) → Contains (if t then n ∷ wide_from (suc n) bs else wide_from (suc n) bs) k → k < n + length (b ∷ bs)
    go below true r = elim (mem-cases k n (wide_from (suc n) bs) r) [
      | inl e ↦ omega (arith, e)
      | inr s ↦ (let l = below s in omega (arith, l))
    ]
    go below false r = let l = below r in omega (arith, l)

-- the names at these numbers are those of the blocks
pub wide-picks : (f : ℕ → RowId) (blocks : List (List (List Value))) (before places : List ℕ) → length places ≡ length blocks →
    map (λ n. f (get_or (before ++ places) n 0)) (wide_from (length before) blocks) ≡ wide_names blocks (map f places)
wide-picks f [] before [] e = refl
wide-picks f [] before (p ∷ places) e = absurd (omega (arith, e))
wide-picks f (b ∷ bs) before [] e = absurd (omega (arith, e))
wide-picks f (b ∷ bs) before (p ∷ places) e = go (is_conflict b) (rest (wide-picks f bs (before ++ p ∷ []) places (omega (arith, e))))
  where
    all : (before ++ p ∷ []) ++ places ≡ before ++ p ∷ places
    all = append_assoc before (p ∷ []) places

    long : length (before ++ p ∷ []) ≡ suc (length before)
    long = length-append before (p ∷ []) ∙ omega arith

    rest : map (λ n. f (get_or ((before ++ p ∷ []) ++ places) n 0)) (wide_from (length (before ++ p ∷ [])) bs) ≡ wide_names bs (map f places) →
        map (λ n. f (get_or (before ++ p ∷ places) n 0)) (wide_from (suc (length before)) bs) ≡ wide_names bs (map f places)
    rest next = subst (λ xs. map (λ n. f (get_or xs n 0)) (wide_from (suc (length before)) bs) ≡ wide_names bs (map f places)) all
        (subst (λ k. map (λ n. f (get_or ((before ++ p ∷ []) ++ places) n 0)) (wide_from k bs) ≡ wide_names bs (map f places)) long next)

    here : f (get_or (before ++ p ∷ places) (length before) 0) ≡ f p
    here = ap f (get_or-append_seam before p places 0)

    go : (t : Bool) → map (λ n. f (get_or (before ++ p ∷ places) n 0)) (wide_from (suc (length before)) bs) ≡ wide_names bs (map f places) →
        map (λ n. f (get_or (before ++ p ∷ places) n 0)) (if t then length before ∷ wide_from (suc (length before)) bs else wide_from (suc (length before)) bs) ≡ (if t then f p ∷ wide_names bs (map f places) else wide_names bs (map f places))
    go true r = ap (λ x. x ∷ map (λ n. f (get_or (before ++ p ∷ places) n 0)) (wide_from (suc (length before)) bs)) here ∙ ap (λ xs. f p ∷ xs) r
    go false r = r
