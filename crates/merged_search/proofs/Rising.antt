-- Clauses whose variables rise, looked through from their first literal on.
use Rattle.std.proofs.Common.{◌≡◌, ◌≤◌, ◌<◌, ℕ, zero, suc, List, [], ◌∷◌, ◌++◌, inl, inr, subst, arith, refl, length, take, get_or, Contains, le_of_suc-le-suc}
use Rattle.cnf_form.specs.declared.formula.Lit.{Lit}
use Rattle.cnf_form.specs.Literals.{AreVars}
use Rattle.cnf_form.specs.Spent.{NoVarTwice}
use Rattle.cqa_value.proofs.Words.{mem-cases, mem-nil}
use Rattle.merged_search.specs.Clauses.{RisesFrom}

-- the variable of the last literal, or a number where there is none
abbrev pub last_var : ℕ → List Lit → ℕ
last_var a [] = a
last_var a (l ∷ c) = last_var l.var c

pub last_push : (a : ℕ) (c : List Lit) (x : Lit) → last_var a (c ++ x ∷ []) ≡ x.var
last_push a [] x = refl
last_push a (l ∷ c) x = last_push l.var c x

-- one literal more
pub rises_push : (a n : ℕ) (c : List Lit) (x : Lit) → RisesFrom a n c → last_var a c < x.var → x.var ≤ n → RisesFrom a n (c ++ x ∷ [])
rises_push a n [] x rises above within = (above, within, tt)
rises_push a n (l ∷ c) x rises above within = (rises.0, rises.1, rises_push l.var n c x rises.2 above within)

-- the literal at a place
pub rises_at : (a n : ℕ) (c : List Lit) (i : ℕ) (d : Lit) → RisesFrom a n c → i < length c → (last_var a (take i c) < (get_or c i d).var) × ((get_or c i d).var ≤ n)
rises_at a n [] i d rises there = absurd (omega (arith, there))
rises_at a n (l ∷ c) zero d rises there = (rises.0, rises.1)
rises_at a n (l ∷ c) (suc i) d rises there = rises_at l.var n c i d rises.2 (le_of_suc-le-suc there)

rises_above : (a n : ℕ) (c : List Lit) → RisesFrom a n c → (l : Lit) → Contains c l → (a < l.var) × (l.var ≤ n)
rises_above a n [] rises l m = absurd (mem-nil l m)
rises_above a n (x ∷ c) rises l m = elim (mem-cases l x c m) [
  | inl e ↦ subst (λ (y : Lit). (a < y.var) × (y.var ≤ n)) e (rises.0, rises.1)
  | inr k ↦ let h = rises_above x.var n c rises.2 l k in let first = rises.0 in let more = h.0 in (omega (arith, first, more), h.1)
]

pub rising_range : (n : ℕ) (c : List Lit) → RisesFrom 0 n c → AreVars n c
rising_range n c rises l m = let h = rises_above 0 n c rises l m in let low = h.0 in (omega (arith, low), h.1)

pub rising_once : (a n : ℕ) (c : List Lit) → RisesFrom a n c → NoVarTwice c
rising_once a n [] rises = tt
rising_once a n (x ∷ c) rises = (
  λ h. let above = (rises_above x.var n c rises.2 h.0 h.1).0 in let same = h.2 in omega (arith, above, same),
  rising_once x.var n c rises.2,
)
