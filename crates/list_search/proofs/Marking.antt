-- Rows get the class of a row that is alike.
use Rattle.std.proofs.Common.{◌≡◌, ℕ, ◌<◌, ◌+◌, ◌⊎◌, inl, inr, List, [], ◌∷◌, ◌++◌, length, get_or, set, Option, Some, None, refl, sym, ◌∙◌, ap, subst, arith, Contains, slice_get, slice_index_or}
use Rattle.std.proofs.lemmas.Option.{get_or_from_slice_get, slice_get_within, slice_get-get_or, same_Some, none-some}
use Rattle.std.proofs.lemmas.List.{get_or-set_same, get_or-set_other, length-set}
use Rattle.std.proofs.lemmas.List.Elements.{Contains-push, Contains-push_cases}
use native.Mathlib.Decide.{ℕ_discrete}
use Rattle.cqa_value.specs.declared.value.Value.{Value}
use Rattle.cqa_value.proofs.Words.{cases_next}
use Rattle.cqa_model.specs.Repairs.{SharesKey}
use Rattle.row_lists.specs.Clauses.{Variable, HasNumber}
use Rattle.row_lists.specs.Spans.{at}
use Rattle.list_search.specs.Classing.{HasClass, AreClassed, Marks}

get-set_same : {A : Type 0} (xs : List A) (k : ℕ) (x : A) → k < length xs → slice_get (set xs k x) k ≡ Some x
get-set_same xs k x l = slice_get-get_or (set xs k x) k x (let e = length-set xs k x in omega (arith, e, l)) ∙ ap Some (get_or-set_same xs k x x l)

get-set_other : {A : Type 0} (xs : List A) (k j : ℕ) (x y : A) → (j ≡ k → ⊥) → slice_get xs j ≡ Some y → slice_get (set xs k x) j ≡ Some y
get-set_other xs k j x y n e =
    let l = slice_get_within xs j y e in
    slice_get-get_or (set xs k x) j y (let s = length-set xs k x in omega (arith, s, l)) ∙ ap Some (get_or-set_other xs k j x y n ∙ get_or_from_slice_get xs j y y e)

get-unset : {A : Type 0} (xs : List A) (k j : ℕ) (x y : A) → (j ≡ k → ⊥) → slice_get (set xs k x) j ≡ Some y → slice_get xs j ≡ Some y
get-unset xs k j x y n e =
    let l = slice_get_within (set xs k x) j y e in
    slice_get-get_or xs j y (let s = length-set xs k x in omega (arith, s, l)) ∙ ap Some (sym (get_or-set_other xs k j x y n) ∙ get_or_from_slice_get (set xs k x) j y y e)

module _ (variables : List Variable) (columns : List ℕ) (rows : List (List Value)) (slot : ℕ) (old : List (Option ℕ)) where
  pub marks-none : Marks variables columns rows slot [] old old
  marks-none = record {
    size = refl;
    each = λ F p n h. inl h;
    kept = λ F p n h. (n, h);
    added = λ p m. absurd (Rattle.cqa_model.proofs.Classic.mem-nil p m);
  }

  -- one row more
  pub marks-more : (places : List ℕ) (mid : List (Option ℕ)) (p r k n : ℕ) → Marks variables columns rows slot places old mid → slice_get variables k ≡ Some (at slot p) → k < length mid →
      HasNumber variables n (at slot r) → SharesKey columns (slice_index_or rows r []) (slice_index_or rows p []) → Marks variables columns rows slot (places ++ p ∷ []) old (set mid k (Some n))
  marks-more places mid p r k n h ek lk hn sh = record {
    size = length-set mid k (Some n) ∙ h.size;
    each = λ F s i c. each F s i c (ℕ_discrete c.0 k);
    kept = λ F s i c. let b = h.kept F s i c in still F s b.0 b.1 (ℕ_discrete b.1.0 k);
    added = λ s ms. elim (Contains-push_cases places p s ms) [
      | inl i ↦ let b = h.added s i in still slot s b.0 b.1 (ℕ_discrete b.1.0 k)
      | inr e ↦ (n, (k, ek ∙ ap (λ z. Some (at slot z)) e, get-set_same mid k (Some n) lk))
    ];
  }
    where
      each : (F s i : ℕ) (c : HasClass variables (set mid k (Some n)) F s i) → Dec (c.0 ≡ k) → HasClass variables old F s i ⊎ ((F ≡ slot) × Contains (places ++ p ∷ []) s ×
          ((z : ℕ) × HasNumber variables i (at slot z) × SharesKey columns (slice_index_or rows z []) (slice_index_or rows s [])))
      each F s i (j, ej, ei) (yes e) =
          let is : at F s ≡ at slot p = same_Some (at F s) (at slot p) (sym ej ∙ (ap (slice_get variables) e ∙ ek)) in
          let ni : n ≡ i = same_Some n i (same_Some (Some n) (Some i) (sym (get-set_same mid k (Some n) lk) ∙ (ap (slice_get (set mid k (Some n))) (sym e) ∙ ei))) in
          let sp : p ≡ s = ap (λ (z : Variable). z.place) (sym is) in
          inr (
            ap (λ (z : Variable). z.slot) is,
            subst (Contains (places ++ p ∷ [])) sp (Contains-push places p),
            (r, subst (λ z. HasNumber variables z (at slot r)) ni hn, subst (λ z. SharesKey columns (slice_index_or rows r []) (slice_index_or rows z [])) sp sh),
          )
      each F s i (j, ej, ei) (no f) = elim (h.each F s i (j, ej, get-unset mid k j (Some n) (Some i) f ei)) [
        | inl o ↦ inl o
        | inr o ↦ inr (o.0, Rattle.std.proofs.lemmas.List.Elements.Contains-append_left places (p ∷ []) s o.1, o.2)
      ]

      still : (F s i : ℕ) (c : HasClass variables mid F s i) → Dec (c.0 ≡ k) → (m : ℕ) × HasClass variables (set mid k (Some n)) F s m
      still F s i (j, ej, ei) (yes e) = (n, (k, subst (λ z. slice_get variables z ≡ Some (at F s)) e ej, get-set_same mid k (Some n) lk))
      still F s i (j, ej, ei) (no f) = (i, (j, ej, get-set_other mid k j (Some n) (Some i) f ei))

module _ (variables : List Variable) (Named : ℕ → ℕ → Type 0) (AreAlike : ℕ → ℕ → ℕ → Type 0) where
  -- exactly the named rows of the slots before n have classes
  abbrev AreClassedTo : ℕ → List (Option ℕ) → Type 0
  AreClassedTo n classes = AreClassed variables (λ s p. (s < n) × Named s p) AreAlike classes

  pub classed-none : (classes : List (Option ℕ)) → length classes ≡ length variables → ((k : ℕ) → k < length classes → get_or classes k None ≡ None) → AreClassedTo 0 classes
  classed-none classes size none = record {
    size = size;
    alike = λ s p n c. absurd (clash s p n c);
    from = λ s p n c. absurd (clash s p n c);
    to = λ s p b. let l = b.0 in absurd (omega (arith, l));
  }
    where
      clash : (s p n : ℕ) → HasClass variables classes s p n → ⊥
      clash s p n (k, ek, en) = none-some n (sym (none k (slice_get_within classes k (Some n) en)) ∙ get_or_from_slice_get classes k (Some n) None en)

  -- the rows of one slot more have classes
  pub classed-more : (n : ℕ) (columns places : List ℕ) (rows : List (List Value)) (old new : List (Option ℕ)) → AreClassedTo n old →
      ((p r : ℕ) → SharesKey columns (slice_index_or rows r []) (slice_index_or rows p []) → AreAlike n r p) → ((p : ℕ) → Contains places p → Named n p) → ((p : ℕ) → Named n p → Contains places p) →
      Marks variables columns rows n places old new → AreClassedTo (n + 1) new
  classed-more n columns places rows old new h alike from to m = record {
    size = m.size ∙ h.size;
    alike = λ s p i c. elim (m.each s p i c) [
      | inl o ↦ h.alike s p i o
      | inr o ↦ let r = o.2 in (r.0, subst (λ u. HasNumber variables i (at u r.0)) (sym o.0) r.1, subst (λ u. AreAlike u r.0 p) (sym o.0) (alike p r.0 r.2))
    ];
    from = λ s p i c. elim (m.each s p i c) [
      | inl o ↦ let b = h.from s p i o in let l = b.0 in (omega (arith, l), b.1)
      | inr o ↦ let e = o.0 in (omega (arith, e), subst (λ u. Named u p) (sym o.0) (from p o.1))
    ];
    to = λ s p b. go s p b.1 (cases_next s n b.0);
  }
    where
      go : (s p : ℕ) → Named s p → (s < n) ⊎ (s ≡ n) → (i : ℕ) × HasClass variables new s p i
      go s p b (inl l) = let o = h.to s p (l, b) in m.kept s p o.0 o.1
      go s p b (inr e) = subst (λ u. (i : ℕ) × HasClass variables new u p i) (sym e) (m.added p (to p (subst (λ u. Named u p) e b)))
