-- The values of variables, read off a trail.
use Rattle.std.proofs.Common.{◌≡◌, ℕ, zero, suc, ◌<◌, ◌+◌, ◌-◌, Bool, false, List, [], ◌∷◌, ◌++◌, inl, inr, refl, ◌∙◌, subst, arith, length, get_or, replicate, Option, Some, None}
use Rattle.std.specs.Prelude.{Contains}
use Rattle.std.proofs.lemmas.Bool.{cases_eq}
use Rattle.std.proofs.lemmas.List.{length_push}
use Rattle.cnf_form.specs.declared.formula.Lit.{Lit}
use Rattle.search_trail.specs.Trail.{held, ValueIs, AllLow, AreAllInRange}
use Rattle.cdcl.specs.Watching.{IsWatching, AreLists}
use Rattle.cnf_form.specs.Literals.{SatisfiesAll}
use Rattle.cdcl.specs.declared.solver.Solver.{Solver}
use Rattle.cdcl.specs.State.{IsSearchState, IsSound}
use Rattle.cdcl.specs.Visits.{AgreesBelow, AgreesWith, IsModelled, OpenVarIs}
use Rattle.cdcl.specs.Outcomes.{assignment}
use Rattle.search_trail.specs.Open.{NextIs}
use Rattle.search_trail.proofs.Places.{has_var, some_none}

get_push_old : (xs : List Bool) (x : Bool) (k : ℕ) → k < length xs → get_or (xs ++ x ∷ []) k false ≡ get_or xs k false
get_push_old [] x k h = absurd (omega arith)
get_push_old (y ∷ ys) x zero h = refl
get_push_old (y ∷ ys) x (suc k) h = get_push_old ys x k (omega arith)

get_push_new : (xs : List Bool) (x : Bool) → get_or (xs ++ x ∷ []) (length xs) false ≡ x
get_push_new [] x = refl
get_push_new (y ∷ ys) x = get_push_new ys x

pub agrees_push : (n : ℕ) (values : List Bool) (x : Bool) (t : List Lit) → length values + 1 ≡ n → ValueIs t n x → AgreesBelow n values t → AgreesBelow (n + 1) (values ++ x ∷ []) t
agrees_push n values x t len is agrees l i low h = elim (cases_eq l.var n) [
  | inl e ↦ subst (λ (k : ℕ). get_or (values ++ x ∷ []) k false ≡ l.positive) (place e) (get_push_new values x ∙ is l i e)
  | inr ne ↦ get_push_old values x (l.var - 1) (omega (arith, len, low, h, ne)) ∙ agrees l i low (omega (arith, h, ne))
]
  where
    place : l.var ≡ n → length values ≡ l.var - 1
    place e = omega (arith, len, e)

none_replicate : (n v p : ℕ) → get_or (replicate n (let o : Option ℕ = None in o)) v None ≡ Some p → ⊥
none_replicate zero v p e = clash p e
  where
    clash : (q : ℕ) → (let o : Option ℕ = None in o) ≡ Some q → ⊥
    clash q e = cc
none_replicate (suc n) zero p e = clash p e
  where
    clash : (q : ℕ) → (let o : Option ℕ = None in o) ≡ Some q → ⊥
    clash q e = cc
none_replicate (suc n) (suc v) p e = none_replicate n v p e

-- no literal is true yet
pub state_first : (db : List (List Lit)) (n : ℕ) → AreAllInRange db n → ((c : List Lit) → Contains db c → AllLow c) → IsSearchState db [] (replicate n None) []
state_first db n range low =
    let len : length (replicate n (let o : Option ℕ = None in o)) ≡ n = count n in
    record {
      places_are = record {
        right = λ v p e. absurd (none_replicate n v p e);
        every = λ p l a. absurd (omega (arith, a.0));
      };
      held_in = λ l i. absurd (omega (arith, i.1));
      held_low = λ l i. absurd (omega (arith, i.1));
      db_in = λ c i l j. let r = range c i l j in omega (arith, r, len);
      db_low = low;
      rising = λ i j a b h x y. absurd (omega (arith, x.0));
      under = λ s i. absurd (omega (arith, i.1));
      forced = λ p f e a. absurd (omega (arith, a.0));
      reasons = λ p e r a is. absurd (omega (arith, a.0));
    }
  where
    count : (k : ℕ) → length (replicate k (let o : Option ℕ = None in o)) ≡ k
    count zero = refl
    count (suc k) = let r = count k in omega (arith, r)

-- the values of a trail that models the clauses
pub model : (db : List (List Lit)) (s : Solver) (values : List Bool) → IsSound s → IsModelled db s → AgreesWith values (held s.trail.items) → SatisfiesAll (assignment values) db
model db s values sound m agrees c i =
    let h = m.holds c i in (h.0, h.1, agrees h.0 h.2 (sound.held_low h.0 h.2))

pub watching_first : {permanent : ℕ} (R : Lit → ℕ → Type 0) (db : List (List Lit)) → IsWatching R permanent db [] [] 0 []
watching_first {permanent} R db = record {
  head_in = omega arith;
  levels = λ s i. absurd (omega (arith, i.1));
  some = omega arith;
  inside = λ k c pair a b. absurd (omega (arith, b.0));
  ended = λ s i. absurd (omega (arith, i.1));
  each = λ k c pair f a b. absurd (omega (arith, b.0));
}

empty_push : (xs : List (List ℕ)) → ((i k : ℕ) → Contains (get_or xs i []) k → ⊥) → (i k : ℕ) → Contains (get_or (xs ++ [] ∷ []) i []) k → ⊥
empty_push [] none zero k c = omega (arith, c.1)
empty_push [] none (suc i) k c = omega (arith, c.1)
empty_push (x ∷ xs) none zero k c = none zero k c
empty_push (x ∷ xs) none (suc i) k c = empty_push xs (λ j m d. none (suc j) m d) i k c

pub lists_push : (xs : List (List ℕ)) (n : ℕ) → AreLists xs n 0 → AreLists ((xs ++ [] ∷ []) ++ [] ∷ []) (n + 1) 0
lists_push xs n a = record {
  room = let l = length_push xs [] in let m = length_push (xs ++ [] ∷ []) [] in omega (arith, l, m, a.room);
  below = λ i k c. absurd (empty_push (xs ++ [] ∷ []) (empty_push xs (λ j m d. let r = a.below j m d in omega (arith, r))) i k c);
}

-- where the places say that a variable is open, it is
pub open_var_is : (s : Solver) → IsSound s → (r : Option ℕ) → NextIs s.places.items r → OpenVarIs s r
open_var_is s sound None m = λ v low k. let q = m v low k in has_var (held s.trail.items) s.places.items v q.0 sound.places_are q.1
open_var_is s sound (Some v) m = (
  m.0,
  m.1,
  λ h. some_none h.1.0 _ m.2
      (subst (λ (n : ℕ). get_or s.places.items n None ≡ Some h.1.0) h.2 (sound.places_are.every h.1.0 h.0 (h.1.1, h.1.2))),
)
