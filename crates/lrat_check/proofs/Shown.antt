-- Marks that show a list of literals.
use Rattle.std.proofs.Common.{◌≡◌, ◌≢◌, ℕ, ◌<◌, ◌≤◌, ◌+◌, Bool, true, false, List, [], ◌∷◌, ◌++◌, map, inl, inr, refl, sym, ◌∙◌, ap, subst, arith, length, get_or, take}
use Rattle.std.specs.Prelude.{Contains}
use Rattle.std.proofs.lemmas.Bool.{cases_eq}
use Rattle.std.proofs.lemmas.List.{take_all}
use Rattle.cqa_value.proofs.Words.{mem-tail, mem-cases, mem-head, Contains-from_take}
use Rattle.cnf_form.specs.declared.formula.Lit.{Lit}
use Rattle.cnf_form.specs.Literals.{negated, opposite}
use Rattle.cnf_form.specs.declared.formula.Truth.{Truth}
use Rattle.cnf_form.specs.declared.formula.Truth.TheVariants as truth
use Rattle.lrat_check.specs.Marks.{truth_at, sign, IsMarkedTrue, IsFalse, Shows, HoldIs, Assumed}
use Rattle.cnf_form.proofs.Lits.{negated-negated, opposite-opposite}
use Rattle.lrat_check.proofs.Takes.{more_cases, more_left, more_here}
use Rattle.cnf_form.specs.Literals.{HasBothSigns}

pub sign_same : (a b : Bool) → sign a ≡ sign b → a ≡ b
sign_same true true e = refl
sign_same false false e = refl
sign_same true false e = cc
sign_same false true e = cc

pub sign_open : (a : Bool) → sign a ≡ truth.Open → ⊥
sign_open true e = cc
sign_open false e = cc

pub sign_apart : (a : Bool) → sign a ≡ sign (negated a) → ⊥
sign_apart true e = cc
sign_apart false e = cc

pub same_literal : (x y : Lit) → x.var ≡ y.var → x.positive ≡ y.positive → x ≡ y
same_literal x y e p =
    ap (λ (n : ℕ). let r : Lit = record { var = n; positive = x.positive } in r) e
    ∙ ap (λ (b : Bool). let r : Lit = record { var = y.var; positive = b } in r) p

pub shown_new : (ts us : List Truth) (l : Lit) → truth_at ts l.var ≡ truth.Open → truth_at us l.var ≡ sign l.positive
    → ((v : ℕ) → v ≢ l.var → truth_at us v ≡ truth_at ts v) → (held : List Lit) → Shows ts held → Shows us (l ∷ held)
shown_new ts us l unset here others held s = record {
  marked = λ m k. elim (mem-cases m l held k) [
    | inl e ↦ subst (λ (x : Lit). IsMarkedTrue us x) e here
    | inr r ↦ others m.var (λ e. sign_open m.positive (sym (s.marked m r) ∙ ap (λ (v : ℕ). truth_at ts v) e ∙ unset)) ∙ s.marked m r
  ];
  present = λ m t. elim (cases_eq m.var l.var) [
    | inl e ↦ subst (λ (x : Lit). Contains (l ∷ held) x)
        (same_literal l m (sym e) (sign_same l.positive m.positive (sym here ∙ ap (λ (v : ℕ). truth_at us v) (sym e) ∙ t)))
        (mem-head l held)
    | inr apart ↦ mem-tail m l held (s.present m (sym (others m.var apart) ∙ t))
  ];
}

pub shown_again : (ts : List Truth) (l : Lit) → IsMarkedTrue ts l → (held : List Lit) → Shows ts held → Shows ts (l ∷ held)
shown_again ts l t held s = record {
  marked = λ m k. elim (mem-cases m l held k) [ inl e ↦ subst (λ (x : Lit). IsMarkedTrue ts x) e t | inr r ↦ s.marked m r ];
  present = λ m u. mem-tail m l held (s.present m u);
}

-- a literal that is not open and not true is false
pub settled : (ts : List Truth) (l : Lit) (t : Truth) → truth_at ts l.var ≡ t → t ≢ truth.Open → t ≢ sign l.positive → IsFalse ts l
settled ts l t e o n = e ∙ other t l.positive o n
  where
    other : (t : Truth) (b : Bool) → t ≢ truth.Open → t ≢ sign b → t ≡ sign (negated b)
    other truth.Open b o n = absurd (o refl)
    other truth.True true o n = absurd (n refl)
    other truth.True false o n = refl
    other truth.False true o n = refl
    other truth.False false o n = absurd (n refl)

map_push : (c : List Lit) (x : Lit) → map opposite (c ++ x ∷ []) ≡ map opposite c ++ opposite x ∷ []
map_push [] x = refl
map_push (y ∷ c) x = ap (λ (r : List Lit). opposite y ∷ r) (map_push c x)

pub map_cases : (c : List Lit) (m : Lit) → Contains (map opposite c) m → Contains c (opposite m)
map_cases [] m k = absurd (omega (arith, k.1))
map_cases (y ∷ c) m k = elim (mem-cases m (opposite y) (map opposite c) k) [
  | inl e ↦ subst (λ (x : Lit). Contains (y ∷ c) x) (sym (opposite-opposite y) ∙ ap (λ (x : Lit). opposite x) e) (mem-head y c)
  | inr r ↦ mem-tail (opposite m) y c (map_cases c m r)
]

pub map_inside : (c : List Lit) (m : Lit) → Contains c m → Contains (map opposite c) (opposite m)
map_inside [] m k = absurd (omega (arith, k.1))
map_inside (y ∷ c) m k = elim (mem-cases m y c k) [
  | inl e ↦ subst (λ (x : Lit). Contains (map opposite (y ∷ c)) (opposite x)) e (mem-head (opposite y) (map opposite c))
  | inr r ↦ mem-tail (opposite m) (opposite y) (map opposite c) (map_inside c m r)
]

-- the same members, the same marks
pub shown_as : (ts : List Truth) (a b : List Lit) → ((m : Lit) → Contains a m → Contains b m) → ((m : Lit) → Contains b m → Contains a m) → Shows ts a → Shows ts b
shown_as ts a b to from s = record { marked = λ m k. s.marked m (from m k); present = λ m t. to m (s.present m t) }

pub shown_more : (ts : List Truth) (c : List Lit) (i : ℕ) (d : Lit) → i < length c → Shows ts (opposite (get_or c i d) ∷ map opposite (take i c)) → Shows ts (map opposite (take (i + 1) c))
shown_more ts c i d h s = shown_as ts (opposite (get_or c i d) ∷ map opposite (take i c)) (map opposite (take (i + 1) c))
    (λ m k. elim (mem-cases m (opposite (get_or c i d)) (map opposite (take i c)) k) [
      | inl e ↦ subst (λ (x : Lit). Contains (map opposite (take (i + 1) c)) x) e (map_inside (take (i + 1) c) (get_or c i d) (more_here c i d h))
      | inr r ↦ subst (λ (x : Lit). Contains (map opposite (take (i + 1) c)) x) (opposite-opposite m)
          (map_inside (take (i + 1) c) (opposite m) (more_left c i d h (opposite m) (map_cases (take i c) m r)))
    ])
    (λ m k. elim (more_cases c i d h (opposite m) (map_cases (take (i + 1) c) m k)) [
      | inl r ↦ mem-tail m (opposite (get_or c i d)) (map opposite (take i c))
          (subst (λ (x : Lit). Contains (map opposite (take i c)) x) (opposite-opposite m) (map_inside (take i c) (opposite m) r))
      | inr e ↦ subst (λ (x : Lit). Contains (opposite (get_or c i d) ∷ map opposite (take i c)) x) (ap (λ (x : Lit). opposite x) e ∙ opposite-opposite m)
          (mem-head (opposite (get_or c i d)) (map opposite (take i c)))
    ])
    s

-- no variable has both signs where the marks show the opposites
pub one_sign : (ts : List Truth) (c : List Lit) → Shows ts (map opposite c) → HasBothSigns c → ⊥
one_sign ts c s b = let l : Lit = b.0 in
    let a : IsMarkedTrue ts (opposite l) = s.marked (opposite l) (map_inside c l b.1) in
    let o : IsMarkedTrue ts (opposite (opposite l)) = s.marked (opposite (opposite l)) (map_inside c (opposite l) b.2) in
    sign_apart l.positive (ap sign (sym (negated-negated l.positive)) ∙ sym o ∙ a)

-- a literal whose opposite is false is there with both signs
pub both_signs : (ts : List Truth) (c : List Lit) (i : ℕ) (d : Lit) → i < length c → Shows ts (map opposite (take i c)) → IsFalse ts (opposite (get_or c i d)) → HasBothSigns c
both_signs ts c i d h s f = let l : Lit = get_or c i d in
    let k : Contains (map opposite (take i c)) l = s.present l (f ∙ ap sign (negated-negated l.positive)) in
    (l, Contains-from_take (i + 1) c l (more_here c i d h), Contains-from_take i c (opposite l) (map_cases (take i c) l k))

pub hold_default : (ts : List Truth) (l : Lit) (t : Truth) (b : Bool) → truth_at ts l.var ≡ t → (t ≡ truth.Open → ⊥) → (b ≡ true → t ≡ sign l.positive) → (b ≡ false → t ≡ sign l.positive → ⊥) → HoldIs ts ts l b
hold_default ts l t true = λ e o yes no. shown_again ts l (e ∙ yes refl)
hold_default ts l t false = λ e o yes no. settled ts l t e o (no refl)

pub assume_more : (ts us : List Truth) (c : List Lit) (i : ℕ) (d : Lit) → i < length c → Shows ts (map opposite (take i c)) → HoldIs ts us (opposite (get_or c i d)) true → Shows us (map opposite (take (i + 1) c))
assume_more ts us c i d h s k = shown_more us c i d h (k (map opposite (take i c)) s)

pub assume_end : (ts : List Truth) (c : List Lit) (i : ℕ) → length c ≤ i → Shows ts (map opposite (take i c)) → Assumed ts c false
assume_end ts c i h s = let t : Shows ts (map opposite c) = subst (λ (d : List Lit). Shows ts (map opposite d)) (take_all i c h) s in (one_sign ts c t, t)
