-- Flags that a model sets.
use Rattle.std.proofs.Common.{◌≡◌, ℕ, ◌+◌, ◌<◌, ◌≤◌, ◌≢◌, ◌⊎◌, ◌↔◌, inl, inr, Bool, true, false, List, [], length, get_or, set, slice_get, Some, refl, ap, sym, ◌∙◌, subst, arith, length-set, get_or-set_same, get_or-set_other}
use Rattle.std.proofs.lemmas.Bool.{false≢true}
use native.Mathlib.Decide.{ℕ_discrete}
use Rattle.std.proofs.lemmas.Option.{slice_get_within, get_or_from_slice_get, slice_get-get_or}
use Rattle.cqa_value.proofs.Words.{cases_next}
use Rattle.cqa_model.specs.declared.query.RowId.{RowId}
use Rattle.repair_back.specs.Flags.{IsFlagged}
use Rattle.repair_back.specs.Results.{IsTrueName}

-- one of the first names
abbrev IsListedTo : ℕ → List RowId → List Bool → RowId → Type 0
IsListedTo at names model name = (k : ℕ) × (k < at) × (slice_get names k ≡ Some name) × (slice_get model k ≡ Some true)

pub record MarkedTo (old flags : List (List Bool)) (listed : List RowId) (model : List Bool) (at : ℕ) : Type 0 where
  pub size : length flags ≡ length old
  pub long : (t : ℕ) → length (get_or flags t []) ≡ length (get_or old t [])
  pub is : (t p : ℕ) → p < length (get_or old t []) → IsFlagged (get_or flags t []) p ↔ (IsFlagged (get_or old t []) p ⊎ IsListedTo at listed model (record { table = t; place = p }))

pub marked-none : (old : List (List Bool)) (listed : List RowId) (model : List Bool) → MarkedTo old old listed model 0
marked-none old listed model = record {
  size = refl;
  long = λ t. refl;
  is = λ t p l. ((λ f. inl f), (λ f. elim f [ inl g ↦ g | inr (k, lk, e, g) ↦ absurd (omega (arith, lk)) ]));
}

module _ (old flags : List (List Bool)) (listed : List RowId) (model : List Bool) (at : ℕ) (h : MarkedTo old flags listed model at) where
  pub marked-same : (d : Bool) → at < length model → get_or model at d ≡ false → MarkedTo old flags listed model (at + 1)
  marked-same d l e = record {
    size = h.size;
    long = h.long;
    is = λ t p lp. (
      (λ f. elim ((h.is t p lp).0 f) [ inl g ↦ inl g | inr (k, lk, n, m) ↦ inr (k, (let z : k < at + 1 = omega (arith, lk) in z), n, m) ]),
      (λ f. elim f [ inl g ↦ (h.is t p lp).1 (inl g) | inr (k, lk, n, m) ↦ (h.is t p lp).1 (inr (k, before k (cases_next k at lk) m, n, m)) ]),
    );
  }
    where
      before : (k : ℕ) → (k < at) ⊎ (k ≡ at) → slice_get model k ≡ Some true → k < at
      before k (inl b) m = b
      before k (inr b) m = absurd (false≢true (sym e ∙ (get_or_from_slice_get model at true d (subst (λ j. slice_get model j ≡ Some true) b m))))

  pub marked-more : (name : RowId) (d : RowId) (b : Bool) → at < length listed → at < length model → name ≡ get_or listed at d → get_or model at b ≡ true → (g f : List Bool) → name.table < length flags → g ≡ get_or flags name.table [] →
      length f ≡ length g → ((p : ℕ) → IsFlagged f p ↔ (IsFlagged g p ⊎ ((p ≡ name.place) × (p < length g)))) → MarkedTo old (set flags name.table f) listed model (at + 1)
  marked-more name d b ll lm is_name e g f lt eg size is_f = record {
    size = length-set flags name.table f ∙ h.size;
    long = λ t. long t (ℕ_discrete t name.table);
    is = λ t p lp. marks t p lp (ℕ_discrete t name.table);
  }
    where
      here : get_or (set flags name.table f) name.table [] ≡ f
      here = let l : name.table < length flags = lt in rw get_or-set_same

      old_here : g ≡ get_or flags name.table []
      old_here = eg

      other : (t : ℕ) → t ≢ name.table → get_or (set flags name.table f) t [] ≡ get_or flags t []
      other t ne = rw get_or-set_other

      long : (t : ℕ) → Dec (t ≡ name.table) → length (get_or (set flags name.table f) t []) ≡ length (get_or old t [])
      long t (no ne) = ap length (other t ne) ∙ h.long t
      long t (yes q) = subst (λ u. length (get_or (set flags name.table f) u []) ≡ length (get_or old u [])) (sym q) (ap length here ∙ size ∙ ap length old_here ∙ h.long name.table)

      mine : slice_get listed at ≡ Some name
      mine = slice_get-get_or listed at d ll ∙ ap Some (sym is_name)

      marked : slice_get model at ≡ Some true
      marked = slice_get-get_or model at b lm ∙ ap Some e

      the_name : (x y : RowId) → slice_get listed at ≡ Some x → slice_get listed at ≡ Some y → x ≡ y
      the_name x y ex ey = sym (get_or_from_slice_get listed at x x ex) ∙ get_or_from_slice_get listed at y x ey

      wider : (name' : RowId) → IsListedTo at listed model name' → IsListedTo (at + 1) listed model name'
      wider name' (k, lk, n, m) = (k, (let z : k < at + 1 = omega (arith, lk) in z), n, m)

      in_table : (p : ℕ) → p < length (get_or old name.table []) → IsFlagged (get_or (set flags name.table f) name.table []) p ↔ (IsFlagged (get_or old name.table []) p ⊎ IsListedTo (at + 1) listed model (record { table = name.table; place = p }))
      in_table p lp = (
        (λ m. elim ((is_f p).0 (subst (λ fs. IsFlagged fs p) here m)) [
          | inl o ↦ elim ((h.is name.table p lp).0 (subst (λ fs. IsFlagged fs p) old_here o)) [ inl k ↦ inl k | inr k ↦ inr (wider (record { table = name.table; place = p }) k) ]
          | inr o ↦ inr (at, (let z : at < at + 1 = omega arith in z), mine ∙ ap Some (ap (λ r. record { table = name.table; place = r }) (sym o.0)), marked)
        ]),
        (λ m. subst (λ fs. IsFlagged fs p) (sym here) (elim m [
          | inl o ↦ (is_f p).1 (inl (subst (λ fs. IsFlagged fs p) (sym old_here) ((h.is name.table p lp).1 (inl o))))
          | inr (k, lk, n, j) ↦ from k n j (cases_next k at lk)
        ])),
      )
        where
          from : (k : ℕ) → slice_get listed k ≡ Some (record { table = name.table; place = p }) → slice_get model k ≡ Some true → (k < at) ⊎ (k ≡ at) → IsFlagged f p
          from k n j (inl c) = (is_f p).1 (inl (subst (λ fs. IsFlagged fs p) (sym old_here) ((h.is name.table p lp).1 (inr (k, c, n, j)))))
          from k n j (inr c) = (is_f p).1 (inr (
            ap (λ (z : RowId). z.place) (the_name (record { table = name.table; place = p }) name (subst (λ i. slice_get listed i ≡ Some (record { table = name.table; place = p })) c n) mine),
            subst (λ fs. p < length fs) (sym old_here) (subst (λ n. p < n) (sym (h.long name.table)) lp),
          ))

      marks : (t p : ℕ) → p < length (get_or old t []) → Dec (t ≡ name.table) → IsFlagged (get_or (set flags name.table f) t []) p ↔ (IsFlagged (get_or old t []) p ⊎ IsListedTo (at + 1) listed model (record { table = t; place = p }))
      marks t p lp (no ne) = (
        (λ m. elim ((h.is t p lp).0 (subst (λ fs. IsFlagged fs p) (other t ne) m)) [ inl o ↦ inl o | inr o ↦ inr (wider (record { table = t; place = p }) o) ]),
        (λ m. subst (λ fs. IsFlagged fs p) (sym (other t ne)) (elim m [ inl o ↦ (h.is t p lp).1 (inl o) | inr (k, lk, n, j) ↦ (h.is t p lp).1 (inr (k, before k (cases_next k at lk) n, n, j)) ])),
      )
        where
          before : (k : ℕ) → (k < at) ⊎ (k ≡ at) → slice_get listed k ≡ Some (record { table = t; place = p }) → k < at
          before k (inl c) n = c
          before k (inr c) n = absurd (ne (ap (λ (z : RowId). z.table) (the_name (record { table = t; place = p }) name (subst (λ j. slice_get listed j ≡ Some (record { table = t; place = p })) c n) mine)))
      marks t p lp (yes q) = subst (λ u. IsFlagged (get_or (set flags name.table f) u []) p ↔ (IsFlagged (get_or old u []) p ⊎ IsListedTo (at + 1) listed model (record { table = u; place = p }))) (sym q)
          (in_table p (subst (λ u. p < length (get_or old u [])) q lp))

  pub marked-all : length listed ≤ at → (t p : ℕ) → p < length (get_or old t []) → IsFlagged (get_or flags t []) p ↔ (IsFlagged (get_or old t []) p ⊎ IsTrueName listed model (record { table = t; place = p }))
  marked-all l t p lp = (
    (λ f. elim ((h.is t p lp).0 f) [ inl o ↦ inl o | inr (k, lk, n, m) ↦ inr (k, n, m) ]),
    (λ f. elim f [ inl o ↦ (h.is t p lp).1 (inl o) | inr (k, n, m) ↦ (h.is t p lp).1 (inr (k, (let w = slice_get_within listed k (record { table = t; place = p }) n in let z : k < at = omega (arith, w, l) in z), n, m)) ]),
  )
