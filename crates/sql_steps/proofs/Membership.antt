-- Lists of variables: what is in them, and the values of their variables.
use Rattle.std.proofs.Common.{◌≡◌, ℕ, ◌<◌, ◌+◌, ◌||◌, inl, inr, Bool, true, false, not, List, [], ◌∷◌, refl, ap, sym, ◌∙◌, subst, arith, Contains}
use native.Mathlib.Decide.{ℕ_discrete}
use Rattle.std.proofs.lemmas.Bool.Decides.{nat_tests}
use Rattle.std.proofs.lemmas.Bool.{false≢true, or_cases}
use Rattle.cqa_value.proofs.Words.{Contains-range, in_range, Contains-filter}
use Rattle.cqa_model.proofs.Classic.{mem-head, mem-tail, mem-nil, mem-cases}
use Rattle.sql_steps.specs.Variables.{has, meets, within, without, all_below, ascending}

pub has-into : (vs : List ℕ) (v : ℕ) → Contains vs v → has vs v ≡ true
has-into [] v m = absurd (mem-nil v m)
has-into (u ∷ us) v m = elim (mem-cases v u us m) [
  | inl e ↦ grind (arith, nat_tests)
  | inr n ↦ let h : has us v ≡ true = has-into us v n in grind (arith, nat_tests)
]

pub has-from : (vs : List ℕ) (v : ℕ) → has vs v ≡ true → Contains vs v
has-from [] v h = absurd (false≢true h)
has-from (u ∷ us) v h = go (ℕ_discrete u v) (λ r. has-from us v r)
  where
    go : Dec (u ≡ v) → (has us v ≡ true → Contains us v) → Contains (u ∷ us) v
    go (yes e) next = subst (λ z. Contains (u ∷ us) z) e (mem-head u us)
    go (no f) next = let r : has us v ≡ true = grind (arith, nat_tests) in mem-tail v u us (next r)

pub dec_has : (vs : List ℕ) (v : ℕ) → Dec (Contains vs v)
dec_has vs v = go (has vs v) refl
  where
    go : (b : Bool) → has vs v ≡ b → Dec (Contains vs v)
    go true e = yes (has-from vs v e)
    go false e = no (λ m. false≢true (sym e ∙ has-into vs v m))

pub within-into : (us vs : List ℕ) (v : ℕ) → Contains us v → Contains vs v → Contains (within us vs) v
within-into us vs v m n = (Contains-filter (λ u. has vs u) us v).1 (m, has-into vs v n)

pub within-from : (us vs : List ℕ) (v : ℕ) → Contains (within us vs) v → Contains us v × Contains vs v
within-from us vs v m = let r = (Contains-filter (λ u. has vs u) us v).0 m in (r.0, has-from vs v r.1)

pub without-into : (us vs : List ℕ) (v : ℕ) → Contains us v → (Contains vs v → ⊥) → Contains (without us vs) v
without-into us vs v m f = (Contains-filter (λ u. not (has vs u)) us v).1 (m, go (has vs v) refl)
  where
    go : (b : Bool) → has vs v ≡ b → not b ≡ true
    go true e = absurd (f (has-from vs v e))
    go false e = refl

pub without-from : (us vs : List ℕ) (v : ℕ) → Contains (without us vs) v → Contains us v × (Contains vs v → ⊥)
without-from us vs v m = let r = (Contains-filter (λ u. not (has vs u)) us v).0 m in (r.0, λ n. go (has vs v) (has-into vs v n) r.1)
  where
    go : (b : Bool) → b ≡ true → not b ≡ true → ⊥
    go true e f = false≢true f
    go false e f = false≢true e

-- lists with something in common
pub meets-into : (us vs : List ℕ) (u : ℕ) → Contains us u → Contains vs u → meets us vs ≡ true
meets-into [] vs u m n = absurd (mem-nil u m)
meets-into (v ∷ us) vs u m n = elim (mem-cases u v us m) [
  | inl e ↦ ap (λ z. z || meets us vs) (has-into vs v (subst (λ z. Contains vs z) (sym e) n))
  | inr k ↦ let r : meets us vs ≡ true = meets-into us vs u k n in go (has vs v) r
]
  where
    go : (b : Bool) → meets us vs ≡ true → (b || meets us vs) ≡ true
    go true r = refl
    go false r = r

pub meets-from : (us vs : List ℕ) → meets us vs ≡ true → (u : ℕ) × Contains us u × Contains vs u
meets-from [] vs h = absurd (false≢true h)
meets-from (u ∷ us) vs h = elim (or_cases (has vs u) (meets us vs) h) [
  | inl a ↦ (u, mem-head u us, has-from vs u a)
  | inr b ↦ (let r = meets-from us vs b in (r.0, mem-tail r.0 u us r.1, r.2))
]

pub columns-into : (n i : ℕ) → i < n → Contains (all_below n) i
unfolding all_below
columns-into n i l = Contains-range 0 n i (omega arith) (omega arith)

pub columns-from : (n i : ℕ) → Contains (all_below n) i → i < n
unfolding all_below
columns-from n i m = let r : i < 0 + n = (in_range 0 n i m).1 in omega arith

pub ascending-into : (vs : List ℕ) (v : ℕ) → v < 192 → Contains vs v → Contains (ascending vs) v
ascending-into vs v l m = within-into (all_below 192) vs v (columns-into 192 v l) m

pub ascending-from : (vs : List ℕ) (v : ℕ) → Contains (ascending vs) v → Contains vs v
ascending-from vs v m = (within-from (all_below 192) vs v m).1

pub ascending-small : (vs : List ℕ) (v : ℕ) → Contains (ascending vs) v → v < 192
ascending-small vs v m = columns-from 192 v (within-from (all_below 192) vs v m).0
