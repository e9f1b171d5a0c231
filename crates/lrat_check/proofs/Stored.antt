-- The live clauses after one is added.
use Rattle.std.proofs.Common.{◌≡◌, ℕ, ◌≤◌, ◌+◌, List, ◌++◌, inl, inr, sym, ◌∙◌, ap, subst, arith, length, Option, Some, None, Result, Ok, Err, OnOk, refl}
use Rattle.std.specs.Prelude.{option_map, slice_range}
use Rattle.std.proofs.lemmas.Bool.{cases_eq}
use Rattle.std.proofs.lemmas.Map.{update_here, update_apart}
use Rattle.std.proofs.lemmas.Grind.{common_steps}
use Rattle.cqa_value.proofs.Words.{slice_range-append_left}
use Rattle.cnf_form.specs.declared.formula.Lit.{Lit}
use Rattle.cnf_form.specs.Logs.{with_clause}
use Rattle.lrat_check.specs.declared.places.Place.{Place}
use Rattle.lrat_check.specs.declared.places.Places.{Places}
use Rattle.lrat_check.specs.Places.{AreWithin, place_of, with_place}
use Rattle.lrat_check.specs.Store.{live_in}

range_end : (pool c : List Lit) (from to : ℕ) → from ≡ length pool → to ≡ length pool + length c → slice_range (pool ++ c) from to ≡ c
range_end pool c from to a b = grind (arith, common_steps)

all_kept : (pool c : List Lit) (o : Option Place) → ((p : Place) → o ≡ Some p → (p.from ≤ p.to) × (p.to ≤ length pool)) → option_map (λ p. slice_range (pool ++ c) p.from p.to) o ≡ option_map (λ p. slice_range pool p.from p.to) o
all_kept pool c None w = refl
all_kept pool c (Some p) w = ap Some (slice_range-append_left pool c p.from p.to (w p refl).0 (w p refl).1)

pub added_live : (pool c : List Lit) (places new : Places) (id : ℕ) (p : Place) → AreWithin pool places → p.from ≡ length pool → p.to ≡ length pool + length c
    → ((q : ℕ) → place_of new q ≡ with_place (place_of places) id p q) → (k : ℕ) → live_in (pool ++ c) new k ≡ with_clause (live_in pool places) id c k
added_live pool c places new id p s from to after k = elim (cases_eq k id) [
  | inl e ↦ subst (λ (q : ℕ). live_in (pool ++ c) new q ≡ with_clause (live_in pool places) id c q) (sym e) here
  | inr apart ↦ ap (option_map (λ (p : Place). slice_range (pool ++ c) p.from p.to)) (after k ∙ update_apart (place_of places) id (Some p) k apart)
      ∙ all_kept pool c (place_of places k) (s k) ∙ sym (update_apart (live_in pool places) id (Some c) k apart)
]
  where
    here : live_in (pool ++ c) new id ≡ with_clause (live_in pool places) id c id
    here = ap (option_map (λ (p : Place). slice_range (pool ++ c) p.from p.to)) (after id ∙ update_here (place_of places) id (Some p))
        ∙ ap Some (range_end pool c p.from p.to from to) ∙ sym (update_here (live_in pool places) id (Some c))

pub added_if : {E : Type 0} (pool c longer : List Lit) (places new : Places) (id : ℕ) (p : Place) (result : Result (Unit {0}) E) → longer ≡ pool ++ c → AreWithin pool places
    → p.from ≡ length pool → p.to ≡ length pool + length c → OnOk result ((q : ℕ) → place_of new q ≡ with_place (place_of places) id p q)
    → OnOk result ((k : ℕ) → live_in longer new k ≡ with_clause (live_in pool places) id c k)
added_if pool c longer places new id p (Ok done) e w from to after = λ k.
    subst (λ (xs : List Lit). live_in xs new k ≡ with_clause (live_in pool places) id c k) (sym e) (added_live pool c places new id p w from to after k)
added_if pool c longer places new id p (Err none) e w from to after = tt
