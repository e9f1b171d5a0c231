-- Rows that are decided one after the other, ascending, as long as none of them is over a limit.
use Rattle.std.proofs.Common.{◌≡◌, ◌↔◌, inl, inr, ◌∙◌, List, [], ◌∷◌, ◌++◌, refl, sym, ap, subst, Contains, Ordering, Less, append_assoc}
use Rattle.std.specs.List.Sorted.{IsStrictlySortedBy}
use Rattle.std.proofs.lemmas.List.{append-nil}
use Rattle.std.proofs.lemmas.List.Elements.{Contains-append_cases, Contains-push_cases}
use Rattle.cqa_value.specs.declared.value.Value.{Value}
use Rattle.cqa_value.specs.Values.{row_cmp, row_cmp_total}
use Rattle.cqa_value.proofs.Words.{member_by_recursion}
use Rattle.cqa_model.proofs.Classic.{mem-nil, mem-cases}
use Rattle.row_answers.specs.Sifting.{Sifts, AreSifted}
use Rattle.row_answers.proofs.Sieving.{AreDone, sifted-more, done-all, next-in, later-sorted}
use Rattle.join_access.proofs.Sorted.{not_less, not_both}

module _ (Kept Over : List Value → Type 0) where
  -- the rows so far are decided, and these are left
  pub record AreDecided (rows answers left : List (List Value)) : Type 0 where
    pub sifted : AreDone Kept rows answers left
    pub within : (row : List Value) → Contains sifted.done row → Over row → ⊥

  pub decided-none : (rows answers : List (List Value)) → answers ≡ [] → AreDecided rows answers rows
  decided-none rows answers e = record {
    sifted = record { done = []; cut = refl; sifted = e };
    within = λ row m. absurd (mem-nil row m);
  }

  module _ (Candidate : List Value → Type 0) (rows : List (List Value)) (ascending : IsStrictlySortedBy row_cmp rows) (exactly : (row : List Value) → Contains rows row ↔ Candidate row)
      (old : List (List Value)) (row : List Value) (later : List (List Value)) (h : AreDecided rows old (row ∷ later)) where
    head-less : {A : Type 0} (cmp : A → A → Ordering) (x : A) (xs : List A) → IsStrictlySortedBy cmp (x ∷ xs) → (y : A) → Contains xs y → cmp x y ≡ Less
    unfolding IsStrictlySortedBy
    head-less cmp x xs s y m = member_by_recursion (λ z. cmp x z ≡ Less) xs s.0 y m

    pub next-candidate : Candidate row
    next-candidate = (exactly row).0 (next-in Kept rows old row later h.sifted)

    -- the candidates before it are decided
    pub none-over : (other : List Value) → Candidate other → row_cmp other row ≡ Less → Over other → ⊥
    none-over other k less = elim (Contains-append_cases h.sifted.done (row ∷ later) other (subst (λ xs. Contains xs other) h.sifted.cut ((exactly other).1 k))) [
      | inl m ↦ h.within other m
      | inr m ↦ elim (mem-cases other row later m) [
        | inl e ↦ absurd (not_less row_cmp row_cmp_total row (subst (λ x. row_cmp x row ≡ Less) (sym e) less))
        | inr n ↦ absurd (not_both row_cmp row_cmp_total other row less (head-less row_cmp row later (later-sorted Kept rows old (row ∷ later) ascending h.sifted) other n))
      ]
    ]

    pub decided-more : (new : List (List Value)) → Sifts Kept row old new → (Over row → ⊥) → AreDecided rows new later
    decided-more new s few = record {
      sifted = record {
        done = h.sifted.done ++ row ∷ [];
        cut = h.sifted.cut ∙ sym (append_assoc h.sifted.done (row ∷ []) later);
        sifted = sifted-more Kept h.sifted.done old new row h.sifted.sifted s;
      };
      within = λ other m. elim (Contains-push_cases h.sifted.done row other m) [
        | inl d ↦ h.within other d
        | inr e ↦ λ t. few (subst Over (sym e) t)
      ];
    }

  module _ (rows answers left : List (List Value)) (h : AreDecided rows answers left) (e : left ≡ []) where
    pub all-sifted : AreSifted Kept rows answers
    all-sifted = done-all Kept rows answers left h.sifted e

    pub all-within : (row : List Value) → Contains rows row → Over row → ⊥
    all-within row m = h.within row (subst (λ xs. Contains xs row) (h.sifted.cut ∙ (ap (λ l. h.sifted.done ++ l) e ∙ append-nil h.sifted.done)) m)
