-- One more pair of columns.
use Rattle.std.proofs.Common.{◌≡◌, ℕ, ◌+◌, ◌<◌, ◌≤◌, ◌⊎◌, inl, inr, List, [], ◌∷◌, ◌++◌, sym, subst, arith, Contains}
use native.Mathlib.Decide.{ℕ_discrete}
use Rattle.std.proofs.lemmas.List.Elements.{Contains-append_left, Contains-append_right, Contains-push_cases}
use Rattle.cqa_model.specs.declared.query.Query.{Query}
use Rattle.cqa_model.specs.Query.{atom_at}
use Rattle.cqa_model.specs.Variables.{AreLinked}
use Rattle.cqa_model.proofs.Classic.{mem-head, mem-tail, mem-nil, mem-cases}
use Rattle.weak_pairs.specs.Numbering.{AreShared}
use Rattle.pair_answers.specs.declared.shared.Shared.{Shared}
use Rattle.pair_answers.specs.Shared.{AreSharedSoFar, pairs_of}

module _ (q : Query) (cols : List Shared) (i j : ℕ) (so : AreSharedSoFar q cols i j) (li : i < (atom_at q 0).width) (lj : j < (atom_at q 1).width) where
  before : (a b : ℕ) → (a < i) ⊎ ((a ≡ i) × (b < j + 1)) → Dec (b ≡ j) → ((a < i) ⊎ ((a ≡ i) × (b < j))) ⊎ ((a ≡ i) × (b ≡ j))
  before a b (inl l) d = inl (inl l)
  before a b (inr h) (yes e) = inr (h.0, e)
  before a b (inr h) (no n) = let l = h.1 in inl (inr (h.0, omega arith))

  abbrev its : ℕ → ℕ → Shared
  its a b = record { left = a; right = b }

  pub shared-more : AreLinked q (record { atom = 0; col = i }) (record { atom = 1; col = j }) → AreSharedSoFar q (cols ++ its i j ∷ []) i (j + 1)
  shared-more l = record {
    linked = λ s m. elim (Contains-push_cases cols (its i j) s m) [
      | inl n ↦ so.linked s n
      | inr e ↦ subst (λ z. (z.left < (atom_at q 0).width) × (z.right < (atom_at q 1).width) × AreLinked q (record { atom = 0; col = z.left }) (record { atom = 1; col = z.right })) e (li, lj, l)
    ];
    all = λ a b la lb k w. elim (before a b w (ℕ_discrete b j)) [
      | inl v ↦ Contains-append_left cols (its i j ∷ []) (its a b) (so.all a b la lb k v)
      | inr v ↦ Contains-append_right cols (its i j ∷ []) (its a b)
          (subst (λ z. Contains (its i j ∷ []) (its z b)) (sym v.0)
          (subst (λ z. Contains (its i j ∷ []) (its i z)) (sym v.1) (mem-head (its i j) [])))
    ];
  }

  pub shared-less : (AreLinked q (record { atom = 0; col = i }) (record { atom = 1; col = j }) → ⊥) → AreSharedSoFar q cols i (j + 1)
  shared-less n = record {
    linked = so.linked;
    all = λ a b la lb k w. elim (before a b w (ℕ_discrete b j)) [
      | inl v ↦ so.all a b la lb k v
      | inr v ↦ absurd (n (subst (λ z. AreLinked q (record { atom = 0; col = z }) (record { atom = 1; col = j })) v.0 (subst (λ z. AreLinked q (record { atom = 0; col = a }) (record { atom = 1; col = z })) v.1 k)))
    ];
  }

pub shared-row : (q : Query) (cols : List Shared) (i j : ℕ) → (atom_at q 1).width ≤ j → AreSharedSoFar q cols i j → AreSharedSoFar q cols (i + 1) 0
shared-row q cols i j l so = record {
  linked = so.linked;
  all = λ a b la lb k w. so.all a b la lb k (go a b lb w (ℕ_discrete a i));
}
  where
    go : (a b : ℕ) → b < (atom_at q 1).width → (a < i + 1) ⊎ ((a ≡ i + 1) × (b < 0)) → Dec (a ≡ i) → (a < i) ⊎ ((a ≡ i) × (b < j))
    go a b lb w (yes e) = inr (e, omega arith)
    go a b lb (inl h) (no n) = inl (omega arith)
    go a b lb (inr h) (no n) = let z : b < 0 = h.1 in absurd (omega arith)

mem-map : (cols : List Shared) (c : ℕ × ℕ) → Contains (pairs_of cols) c → (s : Shared) × Contains cols s × ((s.left, s.right) ≡ c)
mem-map [] c m = absurd (mem-nil c m)
mem-map (s ∷ ss) c m = elim (mem-cases c (s.left, s.right) (pairs_of ss) m) [
  | inl e ↦ (s, mem-head s ss, e)
  | inr n ↦ let h = mem-map ss c n in (h.0, mem-tail h.0 s ss h.1, h.2)
]

map-mem : (cols : List Shared) (s : Shared) → Contains cols s → Contains (pairs_of cols) (s.left, s.right)
map-mem [] s m = absurd (mem-nil s m)
map-mem (t ∷ ts) s m = elim (mem-cases s t ts m) [
  | inl e ↦ subst (λ z. Contains (pairs_of (t ∷ ts)) (z.left, z.right)) e (mem-head (t.left, t.right) (pairs_of ts))
  | inr n ↦ mem-tail (s.left, s.right) (t.left, t.right) (pairs_of ts) (map-mem ts s n)
]

pub shared-end : (q : Query) (cols : List Shared) (i : ℕ) → (atom_at q 0).width ≤ i → AreSharedSoFar q cols i 0 → AreShared q (pairs_of cols)
shared-end q cols i l so = record {
  linked = λ c m. let h = mem-map cols c m in subst (λ z. (z.0 < (atom_at q 0).width) × (z.1 < (atom_at q 1).width) × AreLinked q (record { atom = 0; col = z.0 }) (record { atom = 1; col = z.1 })) h.2 (so.linked h.0 h.1);
  all = λ a b s. map-mem cols (record { left = a; right = b }) (so.all a b s.0 s.1 s.2 (inl (let la = s.0 in omega arith)));
}
