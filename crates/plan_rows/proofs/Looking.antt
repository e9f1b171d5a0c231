-- Walks over the places of rows that are looked for.
use Rattle.std.proofs.Common.{◌≡◌, ℕ, Some, slice_get, ◌<◌, ◌≤◌, inl, inr, Option, List, [], length, get_or, ap, sym, ◌∙◌, subst, arith}
use Rattle.std.proofs.lemmas.Bool.{cases_lt}
use Rattle.std.proofs.lemmas.Option.{get_or_from_slice_get}
use Rattle.cqa_value.specs.declared.value.Value.{Value}
use Rattle.cqa_model.specs.declared.query.Query.{Query}
use Rattle.cqa_model.specs.Plan.{Placed}
use Rattle.plan_rows.specs.Links.{LeadsTo}
use Rattle.plan_rows.specs.Places.{AreEnoughPlaces, IsRowPassed}
use Rattle.plan_rows.specs.declared.places.Places.{Places}
use Rattle.plan_rows.proofs.Reaching.{leads-may}

-- where all rows are that may fit, all are to which rows of links lead
pub there-led : (q : Query) (tables : List (List (List Value))) (row : Option (List Value)) (taken : List Placed) (links : List ℕ) (F : ℕ) (rows : List (List Value)) (s : Places) → AreEnoughPlaces q tables row taken [] F rows s → AreEnoughPlaces q tables row taken links F rows s
there-led q tables row taken links F rows s h = record {
  within = h.within;
  others = λ i l o f. h.others i l o (leads-may q tables row taken links F (get_or rows i []) f);
  known = λ i l f. h.known i l (leads-may q tables row taken links F (get_or rows i []) f);
}

-- so it is at each place before one whose row has a property
abbrev pub IsUpTo : List (List Value) → (List Value → Type 0) → (ℕ → Type 0) → ℕ → Type 0
IsUpTo rows L P at = (i : ℕ) → i < length rows → i < at → L (get_or rows i []) → P i

-- what is shown place by place is so of each row to which the links lead
module _ (q : Query) (tables : List (List (List Value))) (row : Option (List Value)) (taken : List Placed) (links : List ℕ) (F : ℕ) (rows : List (List Value)) (s : Places) (h : AreEnoughPlaces q tables row taken links F rows s) (P : ℕ → Type 0) where
  pub up-first : IsUpTo rows (LeadsTo q tables row taken links F) P s.start
  up-first i l low f = absurd (h.others i l (inl low) f)

  pub up-next : (at to : ℕ) → IsRowPassed s at to → IsUpTo rows (LeadsTo q tables row taken links F) P at → (LeadsTo q tables row taken links F (get_or rows at []) → P at) → IsUpTo rows (LeadsTo q tables row taken links F) P to
  up-next at to passed before here i l low f = elim (cases_lt i at) [
    | inl less ↦ before i l less f
    | inr high ↦ elim (cases_lt at i) [
      | inl more ↦ absurd (passed i (omega (arith, more)) low (h.known i l f))
      | inr less ↦ (let e : i ≡ at = omega (arith, high, less) in subst P (sym e) (here (subst (λ k. LeadsTo q tables row taken links F (get_or rows k [])) e f)))
    ]
  ]

  pub up-all : (at : ℕ) → s.end ≤ at → IsUpTo rows (LeadsTo q tables row taken links F) P at → (i : ℕ) → i < length rows → LeadsTo q tables row taken links F (get_or rows i []) → P i
  up-all at ended before i l f = elim (cases_lt i at) [
    | inl less ↦ before i l less f
    | inr high ↦ absurd (h.others i l (inr (omega (arith, ended, high))) f)
  ]

-- what was shown is so still where what is said follows
pub up-grown : (rows : List (List Value)) (L : List Value → Type 0) (P Q : ℕ → Type 0) (at : ℕ) → ((i : ℕ) → P i → Q i) → IsUpTo rows L P at → IsUpTo rows L Q at
up-grown rows L P Q at h before i l low f = h i (before i l low f)

-- the row that is read at a place of an atom's rows
pub read-row : (all rows : List (List Value)) (at : ℕ) (x : List Value) → rows ≡ all → slice_get rows at ≡ Some x → get_or all at [] ≡ x
read-row all rows at x is there = ap (λ (rs : List (List Value)). get_or rs at []) (sym is) ∙ get_or_from_slice_get rows at x [] there
