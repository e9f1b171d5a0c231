-- Watched literals: what each clause keeps, and why it is settled once all of the trail is looked at.
use Rattle.search_trail.specs.Trail.{At, IsConsistent}
use Rattle.std.proofs.Common.{take, ◌≡◌, ◌≢◌, ℕ, ◌<◌, ◌≤◌, ◌+◌, min, List, [], ◌∷◌, ◌++◌, ◌⊎◌, inl, inr, subst, arith, length}
use Rattle.std.specs.Prelude.{Contains}
use Rattle.std.proofs.lemmas.List.Elements.{Contains-push_cases, Contains-append_left, Contains-push}
use Rattle.cnf_form.specs.declared.formula.Lit.{Lit}
use Rattle.cnf_form.specs.Literals.{opposite, Denied}
use Rattle.cdcl.specs.Settled.{IsSettledClause}
use Rattle.cdcl.proofs.SettledLemmas.{settled_by_two, settled_by_true}
use Rattle.cdcl.specs.Watching.{WatchIs}
use Rattle.search_trail.proofs.Works.{At-take, At-contains, At-in_take, At-same}
use Rattle.search_trail.proofs.Places.{At-push_cases, At-push_old}
use Rattle.search_trail.proofs.Reasons.{contains_or_not}

pub watches_settle : (t : List Lit) (level_starts : List ℕ) (head : ℕ) (c : List Lit) (a b : Lit) → IsConsistent t → length t ≤ head → Contains c a → Contains c b → a ≢ b
    → WatchIs t level_starts head c a → WatchIs t level_starts head c b → IsSettledClause t c
watches_settle t level_starts head c a b k h ia ib apart wa wb = elim (contains_or_not t (opposite a)) [
  | inl d ↦ let e = wa d.0 (omega (arith, d.1)) (d.1, d.2) in settled_by_true t c e.1 k e.2 (At-contains t e.0 e.1 e.3)
  | inr na ↦ elim (contains_or_not t (opposite b)) [
    | inl d ↦ let e = wb d.0 (omega (arith, d.1)) (d.1, d.2) in settled_by_true t c e.1 k e.2 (At-contains t e.0 e.1 e.3)
    | inr nb ↦ settled_by_two t c a b ia ib apart na nb
  ]
]

pub watch_back : (t : List Lit) (level_starts : List ℕ) (s head : ℕ) (c : List Lit) (w : Lit) → WatchIs t (level_starts ++ s ∷ []) head c w → WatchIs (take s t) level_starts (min head s) c w
watch_back t level_starts s head c w watch p h a =
    let b = At-take s t p (opposite w) a in
    let e = watch p (omega arith) b.1 in
    (e.0, e.1, e.2, At-in_take s t e.0 e.1 (e.4 s (Contains-push level_starts s) b.0) e.3, λ x i l. e.4 x (Contains-append_left level_starts (s ∷ []) x i) l)

pub watch_put : (t : List Lit) (level_starts : List ℕ) (head : ℕ) (c : List Lit) (w x : Lit) → head ≤ length t → WatchIs t level_starts head c w → WatchIs (t ++ x ∷ []) level_starts head c w
watch_put t level_starts head c w x h watch p l a = elim (At-push_cases t x p (opposite w) a) [
  | inl b ↦ let e = watch p l b in (e.0, e.1, e.2, At-push_old t (x ∷ []) e.0 e.1 e.3, e.4)
  | inr b ↦ absurd (omega (arith, b.0))
]

-- a level starts where the whole trail was looked at
pub watch_level : (t : List Lit) (level_starts : List ℕ) (head : ℕ) (c : List Lit) (w : Lit) → WatchIs t level_starts head c w → WatchIs t (level_starts ++ length t ∷ []) head c w
watch_level t level_starts head c w watch p l a =
    let e = watch p l a in
    (e.0, e.1, e.2, e.3, λ s i h. elim (Contains-push_cases level_starts (length t) s i) [ inl j ↦ e.4 s j h | inr q ↦ omega (arith, q, e.3.0) ])

-- a literal is looked at: it is not the opposite of the watched one, or some literal of the clause is held
pub watch_look : (t : List Lit) (level_starts : List ℕ) (head : ℕ) (c : List Lit) (w x : Lit) → At t head x → ((s : ℕ) → Contains level_starts s → s ≤ head)
    → (x ≢ opposite w) ⊎ ((m : Lit) × Contains c m × Contains t m) → WatchIs t level_starts head c w → WatchIs t level_starts (head + 1) c w
watch_look t level_starts head c w x at level d watch p l a = elim (cases p head l) [
  | inl lt ↦ watch p lt a
  | inr e ↦ elim d [
    | inl n ↦ absurd (n (At-same t head x (opposite w) at (subst (λ (k : ℕ). At t k (opposite w)) e a)))
    | inr m ↦ (m.2.0, m.0, m.1, (m.2.1, m.2.2), λ s i h. let z = level s i in absurd (omega (arith, z, h, e)))
  ]
]
  where
    cases : (i j : ℕ) → i < j + 1 → (i < j) ⊎ (i ≡ j)
    cases i j h = grind arith

-- a literal that is not denied may be watched
pub watch_new : (t : List Lit) (level_starts : List ℕ) (head : ℕ) (c : List Lit) (w : Lit) → (Denied t w → ⊥) → WatchIs t level_starts head c w
watch_new t level_starts head c w n p l a = absurd (n (At-contains t p (opposite w) a))

-- the second watch of a learnt clause, its deepest literal
pub watch_learnt : (t : List Lit) (level_starts : List ℕ) (head k : ℕ) (c : List Lit) (w m : Lit) → Contains c m → Contains t m
    → ((p : ℕ) → At t p (opposite w) → p ≡ k) → ((s : ℕ) → Contains level_starts s → s ≤ k) → WatchIs t level_starts head c w
watch_learnt t level_starts head k c w m i j one level p l a =
    (j.0, m, i, (j.1, j.2), λ s x h. let z = level s x in let e = one p a in absurd (omega (arith, z, h, e)))
