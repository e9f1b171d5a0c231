-- Lemmas on literals, closed lists and propagation.
use Rattle.std.proofs.Common.{◌≡◌, ◌≢◌, ℕ, Bool, true, false, ◌⊎◌, inl, inr, List, [], ◌∷◌, map, refl, sym, ◌∙◌, ap}
use Rattle.std.proofs.lemmas.Bool.{cases_eq}
use Rattle.cnf_form.specs.declared.formula.Lit.{Lit}
use Rattle.cnf_form.specs.Literals.{negated, opposite}

pub negated-negated : (b : Bool) → negated (negated b) ≡ b
negated-negated true = refl
negated-negated false = refl

pub opposite-opposite : (l : Lit) → opposite (opposite l) ≡ l
opposite-opposite l = let e : negated (negated l.positive) ≡ l.positive = negated-negated l.positive in
    ap (λ (b : Bool). let r : Lit = record { var = l.var; positive = b } in r) e

pub opposites-twice : (ls : List Lit) → map opposite (map opposite ls) ≡ ls
opposites-twice [] = refl
opposites-twice (l ∷ ls) = let e = opposite-opposite l in let es = opposites-twice ls in cc

pub bool_cases : (a b : Bool) → (a ≡ b) ⊎ (a ≡ negated b)
bool_cases true true = inl refl
bool_cases true false = inr refl
bool_cases false true = inr refl
bool_cases false false = inl refl

-- a literal is either another one, its opposite, or of another variable
pub lit_cases : (a b : Lit) → (a ≡ b) ⊎ ((a ≡ opposite b) ⊎ (a.var ≢ b.var))
lit_cases a b =
    elim (cases_eq a.var b.var) [
      | inl e ↦ elim (bool_cases a.positive b.positive) [
        | inl p ↦ inl (same a b e p)
        | inr p ↦ inr (inl (same a (opposite b) e p))
      ]
      | inr n ↦ inr (inr n)
    ]
  where
    same : (x y : Lit) → x.var ≡ y.var → x.positive ≡ y.positive → x ≡ y
    same x y e p =
        ap (λ (n : ℕ). let r : Lit = record { var = n; positive = x.positive } in r) e
        ∙ ap (λ (b : Bool). let r : Lit = record { var = y.var; positive = b } in r) p

pub equal_or_not : (a b : Lit) → (a ≡ b) ⊎ (a ≢ b)
equal_or_not a b = elim (lit_cases a b) [
  | inl e ↦ inl e
  | inr r ↦ inr (λ e. elim r [ inl o ↦ apart b (sym e ∙ o) | inr n ↦ n (ap (λ (x : Lit). x.var) e) ])
]
  where
    apart_bool : (p : Bool) → p ≡ negated p → ⊥
    apart_bool true e = cc
    apart_bool false e = cc

    apart : (x : Lit) → x ≡ opposite x → ⊥
    apart x e = apart_bool x.positive (ap (λ (y : Lit). y.positive) e)
