-- A group is forced, or some choice avoids it.
use Rattle.std.proofs.Common.{◌≡◌, ℕ, zero, suc, ◌<◌, ◌⊎◌, inl, inr, List, [], ◌∷◌, slice_get, subst, arith}
use Rattle.block_choices.specs.Choices.{IsChoice, Chooses, HoldsWhole, HoldsSome, IsForcedBy, IsAvoidedBy}
use Rattle.block_lists.specs.Laws.{EachGroupDecides}
use Rattle.block_lists.proofs.Decisions.{Option-dec, dec_each, dec_some}

-- each number below n has P, or one has not
below : (P Q : ℕ → Type 0) → ((r : ℕ) → P r ⊎ Q r) → (n : ℕ) → ((r : ℕ) → r < n → P r) ⊎ ((r : ℕ) × (r < n) × Q r)
below P Q d zero = inl (λ r l. absurd (omega (arith, l)))
below P Q d (suc n) = go (d n) (below P Q d n)
  where
    cases : (r : ℕ) → r < suc n → (r < n) ⊎ (r ≡ n)
    cases r l = grind (arith, l)

    go : P n ⊎ Q n → ((r : ℕ) → r < n → P r) ⊎ ((r : ℕ) × (r < n) × Q r) → ((r : ℕ) → r < suc n → P r) ⊎ ((r : ℕ) × (r < suc n) × Q r)
    go (inr q) s = inr (n, omega arith, q)
    go (inl p) (inr (r, l, q)) = inr (r, omega (arith, l), q)
    go (inl p) (inl all) = inl (λ r l. elim (cases r l) [
      | inl k ↦ all r k
      | inr e ↦ subst P (sym-eq e) p
    ])
      where
        sym-eq : {a b : ℕ} → a ≡ b → b ≡ a
        sym-eq e = cc

-- each choice has P, or one has not
each-choice : (sizes : List ℕ) (P : List ℕ → Type 0) → ((c : List ℕ) → Dec (P c)) → ((c : List ℕ) → IsChoice sizes c → P c) ⊎ ((c : List ℕ) × IsChoice sizes c × (P c → ⊥))
each-choice [] P d = go (d [])
  where
    all : P [] → (c : List ℕ) → IsChoice [] c → P c
    all p [] k = p
    all p (r ∷ c) k = absurd k

    go : Dec (P []) → ((c : List ℕ) → IsChoice [] c → P c) ⊎ ((c : List ℕ) × IsChoice [] c × (P c → ⊥))
    go (yes p) = inl (all p)
    go (no f) = inr ([], tt, f)
each-choice (s ∷ sizes) P d = go (below (λ r. (c : List ℕ) → IsChoice sizes c → P (r ∷ c)) (λ r. (c : List ℕ) × IsChoice sizes c × (P (r ∷ c) → ⊥)) (λ r. each-choice sizes (λ c. P (r ∷ c)) (λ c. d (r ∷ c))) s)
  where
    all : ((r : ℕ) → r < s → (c : List ℕ) → IsChoice sizes c → P (r ∷ c)) → (c : List ℕ) → IsChoice (s ∷ sizes) c → P c
    all h [] k = absurd k
    all h (r ∷ c) k = h r k.0 c k.1

    go : ((r : ℕ) → r < s → (c : List ℕ) → IsChoice sizes c → P (r ∷ c)) ⊎ ((r : ℕ) × (r < s) × ((c : List ℕ) × IsChoice sizes c × (P (r ∷ c) → ⊥))) → ((c : List ℕ) → IsChoice (s ∷ sizes) c → P c) ⊎ ((c : List ℕ) × IsChoice (s ∷ sizes) c × (P c → ⊥))
    go (inl h) = inl (all h)
    go (inr (r, l, (c, k, f))) = inr (r ∷ c, (l, k), f)

pub each_group_decides : EachGroupDecides
each_group_decides sizes lists = go (each-choice sizes (λ c. HoldsSome c lists) (λ c. dec_some (HoldsWhole c) (λ names. dec_each (Chooses c) (λ x. Option-dec (slice_get c x.block) x.row) names) lists))
  where
    go : IsForcedBy sizes lists ⊎ ((c : List ℕ) × IsChoice sizes c × (HoldsSome c lists → ⊥)) → IsForcedBy sizes lists ⊎ ((c : List ℕ) × IsAvoidedBy sizes lists c)
    go (inl f) = inl f
    go (inr (c, k, f)) = inr (c, record { choice = k; avoids = f })
