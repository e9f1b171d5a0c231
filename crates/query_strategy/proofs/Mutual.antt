-- Two atoms whose attacks have a cycle attack each other.
use Rattle.std.proofs.Common.{◌≡◌, ◌≢◌, ℕ, zero, suc, ◌<◌, List, [], ◌∷◌, length, refl, sym, subst, arith}
use native.Mathlib.Decide.{ℕ_discrete}
use Rattle.cqa_model.specs.declared.query.Query.{Query}
use Rattle.cqa_model.specs.Variables.{whole}
use Rattle.cqa_model.specs.Graph.{Attacks, IsWalk, IsWeak, IsPair}
use Rattle.query_strategy.specs.Strategies.{HasNoPlan}

module _ (R : ℕ → ℕ → Type 0) where
  first-step : (F : ℕ) (Hs : List ℕ) (G : ℕ) → IsWalk R F Hs G → (H : ℕ) × R F H
  first-step F [] G w = (G, w)
  first-step F (H ∷ Hs) G w = (H, w.0)

  last-step : (F : ℕ) (Hs : List ℕ) (G : ℕ) → IsWalk R F Hs G → (H : ℕ) × R H G
  last-step F [] G w = (F, w)
  last-step F (H ∷ Hs) G w = last-step H Hs G w.1

module _ (q : Query) (two : length q.atoms ≡ 2) where
  -- an atom on the cycle is attacked by the other one, and attacks it
  attacks-back : HasNoPlan q → (F G : ℕ) → F < 2 → G < 2 → F ≢ G → Attacks q (whole q) F G
  attacks-back (C, Hs, walk) F G lF lG n = go (ℕ_discrete F C)
    where
      out : (H : ℕ) × Attacks q (whole q) C H
      out = first-step (Attacks q (whole q)) C Hs C walk

      into : (H : ℕ) × Attacks q (whole q) H C
      into = last-step (Attacks q (whole q)) C Hs C walk

      on : C < 2
      on = let l = out.1.0 in omega (arith, l, two)

      go : Dec (F ≡ C) → Attacks q (whole q) F G
      go (yes e) =
          let far : out.0 < 2 = (let l = out.1.1 in omega (arith, l, two)) in
          let other : out.0 ≡ G = (let d = out.1.2 in omega (arith, far, lG, on, e, n, d)) in
          subst (λ z. Attacks q (whole q) z G) (sym e) (subst (λ z. Attacks q (whole q) C z) other out.1)
      go (no f) =
          let near : into.0 < 2 = (let l = into.1.0 in omega (arith, l, two)) in
          let here : C ≡ G = omega (arith, lF, lG, on, f, n) in
          let other : into.0 ≡ F = (let d = into.1.2 in omega (arith, near, lF, on, f, d)) in
          subst (λ z. Attacks q (whole q) F z) here (subst (λ z. Attacks q (whole q) z C) other into.1)

  pub pair-of : HasNoPlan q → IsWeak q (whole q) 0 1 → IsWeak q (whole q) 1 0 → IsPair q
  pair-of cycle there back = record { two = two; weakly = λ F G lF lG n. (attacks-back cycle F G lF lG n, weak F G lF lG n) }
    where
      weak : (F G : ℕ) → F < 2 → G < 2 → F ≢ G → IsWeak q (whole q) F G
      weak zero zero lF lG n = absurd (n refl)
      weak zero (suc zero) lF lG n = there
      weak (suc zero) zero lF lG n = back
      weak (suc zero) (suc zero) lF lG n = absurd (n refl)
      weak (suc (suc F)) G lF lG n = absurd (omega (arith, lF))
      weak F (suc (suc G)) lF lG n = absurd (omega (arith, lG))
