-- Looks at a clause, literal by literal, and what they say of an assignment.
use Rattle.std.proofs.Common.{◌≡◌, ℕ, ◌<◌, ◌+◌, ◌⊎◌, inl, inr, Bool, true, false, List, [], ◌∷◌, ◌++◌, length, take, get_or, refl, sym, ◌∙◌, ap, subst}
use Rattle.std.proofs.lemmas.List.{take_more}
use Rattle.std.proofs.lemmas.List.Elements.{Contains-push, Contains-push_cases, Contains-append_left}
use Rattle.cnf_form.specs.declared.formula.Lit.{Lit}
use Rattle.cnf_form.specs.declared.formula.Truth.{Truth}
use Rattle.cnf_form.specs.declared.formula.Truth.TheVariants.{True, False, Open}
use Rattle.cnf_form.specs.Literals.{Satisfies, SatisfiesAll, MakesTrue}
use Rattle.flat_formula.specs.declared.look.Look.{Look}
use Rattle.flat_formula.specs.declared.look.Look.TheVariants.{Holds, Loose, Forces, Fails}
use Rattle.flat_formula.specs.Looks.{truth_at, signed, lit_truth, IsOf, Agrees, HaveTrue, IsLook}

abbrev pub none : Lit
none = record { var = 0; positive = false }

-- a further literal that is false changes nothing
pub look-false : (values : List Truth) (xs : List Lit) (x : Lit) (look : Look) → IsLook values xs look → lit_truth values x ≡ False → IsLook values (xs ++ x ∷ []) look
look-false values xs x Holds h e = (h.0, Contains-append_left xs (x ∷ []) h.0 h.1, h.2)
look-false values xs x Loose h e = tt
look-false values xs x (Forces l) h e = (
  Contains-append_left xs (x ∷ []) l h.0,
  λ m i. elim (Contains-push_cases xs x m i) [
    | inl j ↦ h.1 m j
    | inr s ↦ inr (subst (λ z. lit_truth values z ≡ False) s e)
  ],
)
look-false values xs x Fails h e = λ m i. elim (Contains-push_cases xs x m i) [
  | inl j ↦ h m j
  | inr s ↦ subst (λ z. lit_truth values z ≡ False) s e
]

-- an open one is forced where all before it are false
pub look-open : (values : List Truth) (xs : List Lit) (x : Lit) (look next : Look) → IsLook values xs look → (next ≡ Loose) ⊎ ((look ≡ Fails) × (next ≡ Forces x)) → IsLook values (xs ++ x ∷ []) next
look-open values xs x look next h (inl e) = subst (IsLook values (xs ++ x ∷ [])) (sym e) tt
look-open values xs x look next h (inr (f, e)) =
    let fails : IsLook values xs Fails = subst (IsLook values xs) f h in
    subst (IsLook values (xs ++ x ∷ [])) (sym e) (
      Contains-push xs x,
      λ m i. elim (Contains-push_cases xs x m i) [
        | inl j ↦ inr (fails m j)
        | inr s ↦ inl (sym s)
      ],
    )

-- of so many literals, one more
pub next_lit : (clause : List Lit) (i : ℕ) (x : Lit) → i < length clause → x ≡ get_or clause i x → take (i + 1) clause ≡ take i clause ++ x ∷ []
next_lit clause i x l e = take_more clause i x l ∙ ap (λ y. take i clause ++ y ∷ []) (sym e)

-- ---- assignments

-- a literal that is false is so under an assignment that agrees
pub not_false : (values : List Truth) (v : ℕ → Bool) → Agrees v values → (l : Lit) → MakesTrue v l → lit_truth values l ≡ False → ⊥
not_false values v a l m e = go (truth_at values l.var) (v l.var) l.positive (a l.var) m e
  where
    go : (t : Truth) (b p : Bool) → IsOf t b → b ≡ p → signed p t ≡ False → ⊥
    go True b true i s e = cc
    go True b false i s e = cc
    go False b true i s e = cc
    go False b false i s e = cc
    go Open b true i s e = cc
    go Open b false i s e = cc

pub fails : (values : List Truth) (v : ℕ → Bool) (clause : List Lit) → IsLook values clause Fails → Satisfies v clause → Agrees v values → ⊥
fails values v clause h s a = not_false values v a s.0 s.2 (h s.0 s.1)

pub forces : (values : List Truth) (v : ℕ → Bool) (clause : List Lit) (l : Lit) → IsLook values clause (Forces l) → Satisfies v clause → Agrees v values → MakesTrue v l
forces values v clause l h s a = elim (h.1 s.0 s.1) [
  | inl e ↦ subst (MakesTrue v) e s.2
  | inr f ↦ absurd (not_false values v a s.0 s.2 f)
]

-- ---- values as an assignment

abbrev pub is_true : Truth → Bool
is_true True = true
is_true False = false
is_true Open = false

abbrev pub assigned : List Truth → ℕ → Bool
assigned values n = is_true (truth_at values n)

true_lit : (values : List Truth) (l : Lit) → lit_truth values l ≡ True → MakesTrue (assigned values) l
true_lit values l e = go (truth_at values l.var) l.positive e
  where
    go : (t : Truth) (p : Bool) → signed p t ≡ True → is_true t ≡ p
    go True true s = refl
    go True false s = cc
    go False true s = cc
    go False false s = refl
    go Open true s = cc
    go Open false s = cc

pub satisfied : (values : List Truth) (f : List (List Lit)) → HaveTrue values f → SatisfiesAll (assigned values) f
satisfied values f h c m = let t = h c m in (t.0, t.1, true_lit values t.0 t.2)
