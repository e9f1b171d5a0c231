-- The pairs of each variable, one after the other.
use Rattle.std.proofs.Common.{◌≡◌, ◌⊎◌, inl, inr, ℕ, zero, suc, ◌+◌, ◌<◌, ◌≤◌, pos, ℤ, List, [], ◌∷◌, ◌++◌, length, get_or, replicate, set, refl, ap, sym, ◌∙◌, subst, arith, Option, Some, None, Contains, length-append}
use native.Mathlib.Decide.{ℕ_discrete}
use Rattle.std.proofs.lemmas.List.{get_or-set_same, get_or-set_other, get_or_append_left, get_or-append-add, length-set}
use Rattle.std.proofs.lemmas.Bool.{cases_lt}
use Rattle.std.proofs.lemmas.List.Elements.{Contains-append_cases, Contains-append_left, Contains-push}
use Rattle.cqa_model.proofs.Classic.{mem-nil, mem-cases}
use Rattle.pair_refutation.specs.declared.graph.Pair.{Pair}
use Rattle.pair_refutation.specs.Edges.{pair_at}
use Rattle.pair_refutation.specs.Refuting.{IsOf, IsLastOf, option_at, AreChained, ArePairHints}

at-push : (xs : List (Option ℕ)) (o : Option ℕ) (n : ℕ) → length xs ≡ n → option_at (xs ++ o ∷ []) n ≡ o
at-push xs o n e = let l : n ≡ length xs + 0 = omega (arith, e) in ap (λ z. option_at (xs ++ o ∷ []) z) l ∙ get_or-append-add xs (o ∷ []) 0 None

last-skip : (pairs : List Pair) (x n : ℕ) (o : Option ℕ) → IsLastOf pairs x n o → (IsOf (pair_at pairs n) x → ⊥) → IsLastOf pairs x (n + 1) o
last-skip pairs x n None h out = λ t l m. step t m (ℕ_discrete t n) l
  where
    step : (t : ℕ) → IsOf (pair_at pairs t) x → Dec (t ≡ n) → t < n + 1 → ⊥
    step t m (yes e) l = out (subst (λ z. IsOf (pair_at pairs z) x) e m)
    step t m (no d) l = h t (omega (arith, l, d)) m
last-skip pairs x n (Some k) h out = ((let l = h.0 in omega (arith, l)), h.1, λ t kt l m. step t kt m (ℕ_discrete t n) l)
  where
    step : (t : ℕ) → k < t → IsOf (pair_at pairs t) x → Dec (t ≡ n) → t < n + 1 → ⊥
    step t kt m (yes e) l = out (subst (λ z. IsOf (pair_at pairs z) x) e m)
    step t kt m (no d) l = h.2 t kt (omega (arith, l, d)) m

last-here : (pairs : List Pair) (x n : ℕ) → IsOf (pair_at pairs n) x → IsLastOf pairs x (n + 1) (Some n)
last-here pairs x n m = (omega arith, m, λ t l g. absurd (omega (arith, l, g)))

-- where nothing was put in yet
pub blank : {A : Type 0} (n i : ℕ) (a : A) → get_or (replicate n a) i a ≡ a
blank zero i a = refl
blank (suc n) zero a = refl
blank (suc n) (suc i) a = blank n i a

pub chained-none : (pairs : List Pair) (n : ℕ) (last left right : List (Option ℕ)) → last ≡ replicate n None → left ≡ [] → right ≡ [] → AreChained pairs 0 last left right
chained-none pairs n last left right e el er = record {
  lefts = ap (λ (z : List (Option ℕ)). length z) el;
  rights = ap (λ (z : List (Option ℕ)). length z) er;
  of_last = λ x l. subst (λ o. IsLastOf pairs x 0 o) (sym (ap (λ z. option_at z x) e ∙ blank n x None)) (λ t k. absurd (omega (arith, k)));
  of_left = λ t l. absurd (omega (arith, l));
  of_right = λ t l. absurd (omega (arith, l));
}

module _ (pairs : List Pair) (n : ℕ) (last left right : List (Option ℕ)) (h : AreChained pairs n last left right) (p : Pair) (is : p ≡ pair_at pairs n) (ll : p.left < length last) (lr : p.right < length last) where
  abbrev next : List (Option ℕ)
  next = set (set last p.left (Some n)) p.right (Some n)

  size : length (set last p.left (Some n)) ≡ length last
  size = length-set last p.left (Some n)

  pub next-size : length next ≡ length last
  next-size = length-set (set last p.left (Some n)) p.right (Some n) ∙ size

  last-next : (x : ℕ) → x < length last → Dec (x ≡ p.right) → Dec (x ≡ p.left) → IsLastOf pairs x (n + 1) (option_at next x)
  last-next x l (yes e) d =
      subst (λ o. IsLastOf pairs x (n + 1) o) (sym (ap (λ z. option_at next z) e ∙ get_or-set_same (set last p.left (Some n)) p.right (Some n) None (omega (arith, lr, size))))
      (last-here pairs x n (inr (sym (e ∙ ap (λ (z : Pair). z.right) is))))
  last-next x l (no r) (yes e) =
      subst (λ o. IsLastOf pairs x (n + 1) o) (sym (get_or-set_other (set last p.left (Some n)) p.right x (Some n) None r ∙ (ap (λ z. option_at (set last p.left (Some n)) z) e ∙ get_or-set_same last p.left (Some n) None ll)))
      (last-here pairs x n (inl (sym (e ∙ ap (λ (z : Pair). z.left) is))))
  last-next x l (no r) (no d) =
      subst (λ o. IsLastOf pairs x (n + 1) o) (sym (get_or-set_other (set last p.left (Some n)) p.right x (Some n) None r ∙ get_or-set_other last p.left x (Some n) None d))
      (last-skip pairs x n (option_at last x) (h.of_last x l) (λ m. elim m [ inl e ↦ d (sym (ap (λ (z : Pair). z.left) is ∙ e)) | inr e ↦ r (sym (ap (λ (z : Pair). z.right) is ∙ e)) ]))

  left-next : (t : ℕ) → t < n + 1 → Dec (t ≡ n) → IsLastOf pairs (pair_at pairs t).left t (option_at (left ++ option_at last p.left ∷ []) t)
  left-next t l (yes e) = subst (λ z. IsLastOf pairs (pair_at pairs z).left z (option_at (left ++ option_at last p.left ∷ []) z)) (sym e)
      (subst (λ o. IsLastOf pairs (pair_at pairs n).left n o) (sym (at-push left (option_at last p.left) n h.lefts)) (subst (λ (z : Pair). IsLastOf pairs z.left n (option_at last p.left)) is (h.of_last p.left ll)))
  left-next t l (no d) = subst (λ o. IsLastOf pairs (pair_at pairs t).left t o) (sym (get_or_append_left left (option_at last p.left ∷ []) None t (let k = h.lefts in omega (arith, l, d, k)))) (h.of_left t (omega (arith, l, d)))

  right-next : (t : ℕ) → t < n + 1 → Dec (t ≡ n) → IsLastOf pairs (pair_at pairs t).right t (option_at (right ++ option_at last p.right ∷ []) t)
  right-next t l (yes e) = subst (λ z. IsLastOf pairs (pair_at pairs z).right z (option_at (right ++ option_at last p.right ∷ []) z)) (sym e)
      (subst (λ o. IsLastOf pairs (pair_at pairs n).right n o) (sym (at-push right (option_at last p.right) n h.rights)) (subst (λ (z : Pair). IsLastOf pairs z.right n (option_at last p.right)) is (h.of_last p.right lr)))
  right-next t l (no d) = subst (λ o. IsLastOf pairs (pair_at pairs t).right t o) (sym (get_or_append_left right (option_at last p.right ∷ []) None t (let k = h.rights in omega (arith, l, d, k)))) (h.of_right t (omega (arith, l, d)))

  pub chained-more : AreChained pairs (n + 1) next (left ++ option_at last p.left ∷ []) (right ++ option_at last p.right ∷ [])
  chained-more = record {
    lefts = (let a = length-append left (option_at last p.left ∷ []) in let b = h.lefts in omega (arith, a, b));
    rights = (let a = length-append right (option_at last p.right ∷ []) in let b = h.rights in omega (arith, a, b));
    of_last = λ x l. last-next x (let e = next-size in omega (arith, l, e)) (ℕ_discrete x p.right) (ℕ_discrete x p.left);
    of_left = λ t l. left-next t l (ℕ_discrete t n);
    of_right = λ t l. right-next t l (ℕ_discrete t n);
  }

  pub chained-as : (last_new left_new right_new : List (Option ℕ)) → last_new ≡ next → left_new ≡ left ++ option_at last p.left ∷ [] → right_new ≡ right ++ option_at last p.right ∷ [] → AreChained pairs (n + 1) last_new left_new right_new
  chained-as last_new left_new right_new el eq er =
      subst (λ z. AreChained pairs (n + 1) z left_new right_new) (sym el)
      (subst (λ z. AreChained pairs (n + 1) next z right_new) (sym eq) (subst (λ z. AreChained pairs (n + 1) next (left ++ option_at last p.left ∷ []) z) (sym er) chained-more))

-- ---- a chain that is followed

-- how far it still goes
abbrev pub chain-size : Option ℕ → ℕ
chain-size None = 0
chain-size (Some k) = k + 1

-- a chain that is followed: the pairs behind its place were met
pub record IsFollowed (pairs : List Pair) (x n : ℕ) (at : Option ℕ) : Type 0 where
  pub within : n ≤ length pairs
  pub last : IsLastOf pairs x n at

pub hints-none : (pairs : List Pair) (blocks x : ℕ) → ArePairHints pairs blocks x (length pairs) []
hints-none pairs blocks x = record {
  each = λ h m. absurd (mem-nil h m);
  all = λ t l k m. absurd (omega (arith, l, k));
}

pub hints-more : (pairs : List Pair) (blocks x n k : ℕ) (hints : List ℤ) → n ≤ length pairs → IsLastOf pairs x n (Some k) → ArePairHints pairs blocks x n hints → ArePairHints pairs blocks x k (hints ++ pos (blocks + k + 1) ∷ [])
hints-more pairs blocks x n k hints w h a = record {
  each = λ g m. elim (Contains-append_cases hints (pos (blocks + k + 1) ∷ []) g m) [
    | inl b ↦ a.each g b
    | inr b ↦ elim (mem-cases g (pos (blocks + k + 1)) [] b) [ inl e ↦ (k, (let l = h.0 in omega (arith, l, w)), h.1, sym e) | inr j ↦ absurd (mem-nil g j) ]
  ];
  all = λ t l s m. step t l s m (ℕ_discrete t k);
}
  where
    step : (t : ℕ) → k ≤ t → t < length pairs → IsOf (pair_at pairs t) x → Dec (t ≡ k) → Contains (hints ++ pos (blocks + k + 1) ∷ []) (pos (blocks + t + 1))
    step t l s m (yes e) = subst (λ z. Contains (hints ++ pos (blocks + k + 1) ∷ []) (pos (blocks + z + 1))) (sym e) (Contains-push hints (pos (blocks + k + 1)))
    step t l s m (no d) = behind (cases_lt t n)
      where
        behind : (t < n) ⊎ (n ≤ t) → Contains (hints ++ pos (blocks + k + 1) ∷ []) (pos (blocks + t + 1))
        behind (inl b) = absurd (h.2 t (omega (arith, l, d)) b m)
        behind (inr b) = Contains-append_left hints (pos (blocks + k + 1) ∷ []) (pos (blocks + t + 1)) (a.all t b s m)

pub hints-all : (pairs : List Pair) (blocks x n : ℕ) (hints : List ℤ) → IsLastOf pairs x n None → ArePairHints pairs blocks x n hints → ArePairHints pairs blocks x 0 hints
hints-all pairs blocks x n hints h a = record { each = a.each; all = λ t l s m. go t s m (cases_lt t n) }
  where
    go : (t : ℕ) → t < length pairs → IsOf (pair_at pairs t) x → (t < n) ⊎ (n ≤ t) → Contains hints (pos (blocks + t + 1))
    go t s m (inl b) = absurd (h t b m)
    go t s m (inr b) = a.all t b s m
