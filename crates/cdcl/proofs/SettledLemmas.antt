-- Lemmas on settled lists and on propagation.
use Rattle.std.proofs.Common.{◌≢◌, ℕ, true, List, [], ◌∷◌, inl, inr, refl, sym, ◌∙◌, subst, arith}
use Rattle.std.specs.Prelude.{Contains}
use Rattle.cqa_value.proofs.Words.{mem-cases}
use Rattle.cnf_form.specs.declared.formula.Lit.{Lit}
use Rattle.cnf_form.specs.Literals.{opposite, Denied, OthersDenied}
use Rattle.cnf_form.specs.Propagation.{IsPropagation, ReachesEmpty, StaysOpen}
use Rattle.cnf_form.proofs.Lits.{equal_or_not}
use Rattle.search_trail.specs.Trail.{IsConsistent, IsUnassigned}
use Rattle.cdcl.specs.Settled.{IsSettledClause, AllSettled}

pub settled_by_true : (t c : List Lit) (l : Lit) → IsConsistent t → Contains c l → Contains t l → IsSettledClause t c
settled_by_true t c l k inside held m others = elim (equal_or_not l m) [
  | inl e ↦ subst (λ (x : Lit). Contains t x) e held
  | inr n ↦ absurd (k l held (others l inside n))
]

pub settled_by_two : (t c : List Lit) (a b : Lit) → Contains c a → Contains c b → a ≢ b
    → (Denied t a → ⊥) → (Denied t b → ⊥) → IsSettledClause t c
settled_by_two t c a b ia ib apart oa ob m others = elim (equal_or_not a m) [
  | inl e ↦ absurd (ob (others b ib (λ f. apart (e ∙ sym f))))
  | inr n ↦ absurd (oa (others a ia n))
]

-- a clause that a settled list leaves room for is no subset of one that the list forces otherwise
pub new_by_settled : (t d c : List Lit) (u : Lit) → IsSettledClause t d → ((m : Lit) → Contains d m → Contains c m)
    → OthersDenied t c u → (Contains t u → ⊥) → ⊥
new_by_settled t d c u s sub others absent = absent (s u (λ m i n. others m (sub m i) n))

-- what is propagated stays within a settled list
pub propagation_within : (f : List (List Lit)) (t p : List Lit) → AllSettled t f → IsPropagation f p → (l : Lit) → Contains p l → Contains t l
propagation_within f t [] s p l i = absurd (no_member l i)
  where
    no_member : (l : Lit) → Contains [] l → ⊥
    no_member l i = absurd (omega (arith, i.1))
propagation_within f t (m ∷ before) s p l i = elim (mem-cases l m before i) [
  | inl e ↦ subst (λ (x : Lit). Contains t x) e
      (s p.0.0 p.0.1 m (λ x ix nx. propagation_within f t before s p.1 (opposite x) (p.0.3 x ix nx)))
  | inr r ↦ propagation_within f t before s p.1 l r
]

pub not_reached : (f : List (List Lit)) (t : List Lit) (n : ℕ) → AllSettled t f → IsUnassigned t n → ReachesEmpty f → ⊥
not_reached f t n s o r =
    let l : Lit = record { var = n; positive = true } in
    o (l, s r.2.0 r.2.1 l (λ m i _. propagation_within f t r.0 s r.1 (opposite m) (r.2.2 m i)), refl)

pub stays_open : (f : List (List Lit)) (t : List Lit) (n : ℕ) → AllSettled t f → IsUnassigned t n → StaysOpen f n
stays_open f t n s o p ip h = o (h.0, propagation_within f t p s ip h.0 h.1, h.2)
