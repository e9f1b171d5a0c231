-- Rows outside of the span of the key values that are known don't fit.
use Rattle.std.proofs.Common.{◌≡◌, ℕ, zero, suc, ◌+◌, ◌-◌, ◌<◌, ◌≤◌, ◌⊎◌, inl, inr, List, [], ◌∷◌, ◌++◌, length, get_or, refl, ap, ◌∙◌, subst, arith, length-append}
use Rattle.std.proofs.lemmas.List.Elements.{All-contains, Contains-get_or}
use Rattle.cqa_value.specs.declared.value.Value.{Value}
use Rattle.row_order.specs.Spans.{first_key, IsSpan}

at-front : (xs ys : List (List Value)) (i : ℕ) → i < length xs → get_or (xs ++ ys) i [] ≡ get_or xs i []
at-front [] ys i l = absurd (omega (arith, l))
at-front (x ∷ xs) ys zero l = refl
at-front (x ∷ xs) ys (suc i) l = at-front xs ys i (omega (arith, l))

at-back : (xs ys : List (List Value)) (i : ℕ) → get_or (xs ++ ys) (length xs + i) [] ≡ get_or ys i []
at-back [] ys i = ap (λ k. get_or ys k []) (let e : 0 + i ≡ i = omega arith in e)
at-back (x ∷ xs) ys i = ap (λ k. get_or (x ∷ xs ++ ys) k []) (let e : length (x ∷ xs) + i ≡ suc (length xs + i) = omega arith in e) ∙ at-back xs ys i

-- where rows stand that have some first key values
module _ (key : List ℕ) (rows : List (List Value)) (values : List Value) (start : ℕ) (span : List (List Value)) (s : IsSpan key rows values start span) where
  pub outside : (i : ℕ) → i < length rows → (i < start) ⊎ (start + length span ≤ i) → first_key key values (get_or rows i []) ≡ values → ⊥
  outside i l (inl b) e =
      let place = s.place in
      let lb : i < length s.before = omega (arith, b, place) in
      All-contains (λ r. first_key key values r ≡ values → ⊥) s.before (get_or s.before i []) s.none_before (Contains-get_or s.before i [] lb)
      (subst (λ r. first_key key values r ≡ values) (ap (λ rs. get_or rs i []) s.parts ∙ at-front s.before (span ++ s.behind) i lb) e)
  outside i l (inr b) e = go (rest i b)
    where
      rest : (i : ℕ) → start + length span ≤ i → (k : ℕ) × (i ≡ length s.before + (length span + k))
      rest i b = let place = s.place in (i - (start + length span), (let z : i ≡ length s.before + (length span + (i - (start + length span))) = omega (arith, b, place) in z))

      go : ((k : ℕ) × (i ≡ length s.before + (length span + k))) → ⊥
      go (k, ek) =
          let here : get_or rows i [] ≡ get_or s.behind k [] = ap (λ rs. get_or rs i []) s.parts ∙ ap (λ n. get_or (s.before ++ (span ++ s.behind)) n []) ek ∙ at-back s.before (span ++ s.behind) (length span + k) ∙ at-back span s.behind k in
          let lr = ap length s.parts in
          let la = length-append s.before (span ++ s.behind) in
          let lb = length-append span s.behind in
          let lk : k < length s.behind = omega (arith, l, ek, lr, la, lb) in
          All-contains (λ r. first_key key values r ≡ values → ⊥) s.behind (get_or s.behind k []) s.none_behind (Contains-get_or s.behind k [] lk)
          (subst (λ r. first_key key values r ≡ values) here e)

  pub span-within : start + length span ≤ length rows
  span-within = let place = s.place in let lr = ap length s.parts in let la = length-append s.before (span ++ s.behind) in let lb = length-append span s.behind in omega (arith, place, lr, la, lb)
