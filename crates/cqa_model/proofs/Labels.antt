-- Relabelling by one join after another names each variable by its least column.
use Rattle.std.proofs.Common.{◌≡◌, ℕ, ◌<◌, ◌≤◌, ◌≢◌, ◌⊎◌, inl, inr, min, max, List, [], ◌∷◌, refl, ap, sym, ◌∙◌, subst, arith, Contains, le_trans, le_of_eq}
use native.Mathlib.Decide.{ℕ_discrete, dec_le}
use Rattle.cqa_model.specs.declared.query.Cond.{Cond}
use Rattle.cqa_model.specs.declared.query.Cond.TheVariants.{Join, Test}
use Rattle.cqa_model.specs.declared.query.ColRef.{ColRef}
use Rattle.cqa_model.specs.Shape.{columns_of}
use Rattle.cqa_model.specs.Variables.{number}
use Rattle.cqa_model.specs.Labels.{pick, relabel, label}
use Rattle.cqa_model.specs.Variables.{IsChain, IsLinked}
use Rattle.cqa_model.proofs.Classic.{mem-head, mem-tail, mem-nil, mem-cases}
use Rattle.cqa_model.proofs.Links
use Rattle.cqa_model.proofs.Decisions.{IsThrough, through-linked, linked-more, column_eq}

relabel-cases : (x y z : ℕ) → ((z ≡ max x y) × (relabel x y z ≡ min x y)) ⊎ ((z ≢ max x y) × (relabel x y z ≡ z))
unfolding relabel
relabel-cases x y z = go (ℕ_discrete z (max x y))
  where
    go : (d : Dec (z ≡ max x y)) → ((z ≡ max x y) × (pick d (min x y) z ≡ min x y)) ⊎ ((z ≢ max x y) × (pick d (min x y) z ≡ z))
    go (yes e) = inl (e, refl)
    go (no f) = inr (f, refl)

pub relabel-hit : (x y z : ℕ) → z ≡ max x y → relabel x y z ≡ min x y
relabel-hit x y z e = elim (relabel-cases x y z) [ inl p ↦ p.1 | inr p ↦ absurd (p.0 e) ]

pub relabel-miss : (x y z : ℕ) → z ≢ max x y → relabel x y z ≡ z
relabel-miss x y z f = elim (relabel-cases x y z) [ inl p ↦ absurd (f p.0) | inr p ↦ p.1 ]

relabel-sides : (x y : ℕ) → relabel x y x ≡ relabel x y y
relabel-sides x y = elim (relabel-cases x y x) [
  | inl p ↦ elim (relabel-cases x y y) [ inl o ↦ p.1 ∙ sym o.1 | inr o ↦ omega (arith, p.0, p.1, o.0, o.1) ]
  | inr p ↦ elim (relabel-cases x y y) [ inl o ↦ omega (arith, p.0, p.1, o.0, o.1) | inr o ↦ omega (arith, p.0, p.1, o.0, o.1) ]
]

relabel-le : (x y z : ℕ) → relabel x y z ≤ z
relabel-le x y z = elim (relabel-cases x y z) [ inl p ↦ omega (arith, p.0, p.1) | inr p ↦ omega (arith, p.1) ]

-- linked columns have one label
label-joined : (ks : List Cond) (c d : ColRef) → Contains ks (Join c d) → label ks c ≡ label ks d
label-joined [] c d m = absurd (mem-nil (Join c d) m)
label-joined (Test a op x ∷ ks) c d m = elim (mem-cases (Join c d) (Test a op x) ks m) [ inl e ↦ absurd (cc e) | inr n ↦ label-joined ks c d n ]
label-joined (Join a b ∷ ks) c d m = elim (mem-cases (Join c d) (Join a b) ks m) [
  | inl e ↦
      let ea : a ≡ c = cc e in
      let eb : b ≡ d = cc e in
      subst (λ z. relabel (label ks a) (label ks b) (label ks z) ≡ relabel (label ks a) (label ks b) (label ks d)) ea
      (subst (λ z. relabel (label ks a) (label ks b) (label ks a) ≡ relabel (label ks a) (label ks b) (label ks z)) eb (relabel-sides (label ks a) (label ks b)))
  | inr n ↦ ap (λ z. relabel (label ks a) (label ks b) z) (label-joined ks c d n)
]

label-chain : (ks : List Cond) (c d : ColRef) (es : List ColRef) → IsChain ks c es d → label ks c ≡ label ks d
label-chain ks c d [] p = ap (label ks) p
label-chain ks c d (e ∷ es) p = elim p.0 [ inl m ↦ label-joined ks c e m | inr m ↦ sym (label-joined ks e c m) ] ∙ label-chain ks e d es p.1

pub label-linked : (ks : List Cond) (c d : ColRef) → IsLinked ks c d → label ks c ≡ label ks d
label-linked ks c d l = label-chain ks c d l.0 l.1

abbrev pub AreNarrow : List Cond → Type 0
AreNarrow ks = (k : Cond) → Contains ks k → (c : ColRef) → Contains (columns_of k) c → c.col < 16

-- columns with one label are linked
pub linked-label : (ks : List Cond) → AreNarrow ks → (c d : ColRef) → c.col < 16 → d.col < 16 → label ks c ≡ label ks d → IsLinked ks c d
linked-label [] narrow c d lc ld e = ([], column_eq c d (omega (arith, e)) (omega (arith, e)))
linked-label (Test a op x ∷ ks) narrow c d lc ld e = linked-more (Test a op x) ks c d (linked-label ks (λ k m. narrow k (mem-tail k (Test a op x) ks m)) c d lc ld e)
linked-label (Join a b ∷ ks) narrow c d lc ld e =
    through-linked a b ks c d (go (λ f g lf lg h. linked-label ks (λ k m. narrow k (mem-tail k (Join a b) ks m)) f g lf lg h) (dec_le (label ks a) (label ks b)) (relabel-cases (label ks a) (label ks b) (label ks c)) (relabel-cases (label ks a) (label ks b) (label ks d)))
  where
    la : a.col < 16
    la = narrow (Join a b) (mem-head (Join a b) ks) a (mem-head a (b ∷ []))

    lb : b.col < 16
    lb = narrow (Join a b) (mem-head (Join a b) ks) b (mem-tail b a (b ∷ []) (mem-head b []))

    Outcome : ColRef → Type 0
    Outcome f = ((label ks f ≡ max (label ks a) (label ks b)) × (relabel (label ks a) (label ks b) (label ks f) ≡ min (label ks a) (label ks b))) ⊎ ((label ks f ≢ max (label ks a) (label ks b)) × (relabel (label ks a) (label ks b) (label ks f) ≡ label ks f))

    go : ((f g : ColRef) → f.col < 16 → g.col < 16 → label ks f ≡ label ks g → IsLinked ks f g) → Dec (label ks a ≤ label ks b) → Outcome c → Outcome d → IsThrough ks a b c d
    go next t (inl p) (inl o) = inl (next c d lc ld (p.0 ∙ sym o.0))
    go next t (inr p) (inr o) = inl (next c d lc ld (sym p.1 ∙ e ∙ o.1))
    go next (yes t) (inl p) (inr o) = inr (inr (next c b lc lb (omega (arith, p.0, t)), next a d la ld (omega (arith, p.1, o.1, e, t))))
    go next (no t) (inl p) (inr o) = inr (inl (next c a lc la (omega (arith, p.0, t)), next b d lb ld (omega (arith, p.1, o.1, e, t))))
    go next (yes t) (inr p) (inl o) = inr (inl (next c a lc la (omega (arith, p.1, o.1, e, t)), next b d lb ld (omega (arith, o.0, t))))
    go next (no t) (inr p) (inl o) = inr (inr (next c b lc lb (omega (arith, p.1, o.1, e, t)), next a d la ld (omega (arith, o.0, t))))

pub label-le : (ks : List Cond) (c : ColRef) → label ks c ≤ number c
label-le [] c = omega arith
label-le (Test a op x ∷ ks) c = label-le ks c
label-le (Join a b ∷ ks) c = le_trans (relabel-le (label ks a) (label ks b) (label ks c)) (label-le ks c)

-- the label is the number of a linked column
label-is : (ks : List Cond) → AreNarrow ks → (c : ColRef) → c.col < 16 → (d : ColRef) × IsLinked ks c d × (d.col < 16) × (number d ≡ label ks c)
label-is [] narrow c lc = (c, Links.self [] c, lc, refl)
label-is (Test a op x ∷ ks) narrow c lc = let r = label-is ks (λ k m. narrow k (mem-tail k (Test a op x) ks m)) c lc in (r.0, linked-more (Test a op x) ks c r.0 r.1, r.2, r.3)
label-is (Join a b ∷ ks) narrow c lc = go (λ f lf. label-is ks (λ k m. narrow k (mem-tail k (Join a b) ks m)) f lf) (dec_le (label ks a) (label ks b)) (relabel-cases (label ks a) (label ks b) (label ks c))
  where
    narrow' : AreNarrow ks
    narrow' k m = narrow k (mem-tail k (Join a b) ks m)

    la : a.col < 16
    la = narrow (Join a b) (mem-head (Join a b) ks) a (mem-head a (b ∷ []))

    lb : b.col < 16
    lb = narrow (Join a b) (mem-head (Join a b) ks) b (mem-tail b a (b ∷ []) (mem-head b []))

    Found : Type 0
    Found = (d : ColRef) × IsLinked (Join a b ∷ ks) c d × (d.col < 16) × (number d ≡ relabel (label ks a) (label ks b) (label ks c))

    far : (f g : ColRef) → f.col < 16 → IsThrough ks a b c g → (number g ≡ relabel (label ks a) (label ks b) (label ks c)) → g.col < 16 → Found
    far f g lf t h lg = (g, through-linked a b ks c g t, lg, h)

    go : ((f : ColRef) → f.col < 16 → (d : ColRef) × IsLinked ks f d × (d.col < 16) × (number d ≡ label ks f)) → Dec (label ks a ≤ label ks b) →
        ((label ks c ≡ max (label ks a) (label ks b)) × (relabel (label ks a) (label ks b) (label ks c) ≡ min (label ks a) (label ks b))) ⊎ ((label ks c ≢ max (label ks a) (label ks b)) × (relabel (label ks a) (label ks b) (label ks c) ≡ label ks c)) → Found
    go next t (inr p) = let r = next c lc in far c r.0 lc (inl r.1) (r.3 ∙ sym p.1) r.2
    go next (yes t) (inl p) = let r = next a la in far a r.0 la (inr (inr (linked-label ks narrow' c b lc lb (omega (arith, p.0, t)), r.1))) (let h : number r.0 ≡ label ks a = r.3 in omega (arith, p.1, t, h)) r.2
    go next (no t) (inl p) = let r = next b lb in far b r.0 lb (inr (inl (linked-label ks narrow' c a lc la (omega (arith, p.0, t)), r.1))) (let h : number r.0 ≡ label ks b = r.3 in omega (arith, p.1, t, h)) r.2

-- and the least such number
pub label-least : (ks : List Cond) → AreNarrow ks → (c : ColRef) → c.col < 16 →
    ((d : ColRef) × IsLinked ks c d × (d.col < 16) × (number d ≡ label ks c)) × ((d : ColRef) → IsLinked ks c d → label ks c ≤ number d)
label-least ks narrow c lc = (label-is ks narrow c lc, λ d l. le_trans (le_of_eq (label-linked ks c d l)) (label-le ks d))
