-- The links of atoms, one list after the other.
use Rattle.std.proofs.Common.{◌≡◌, ◌∙◌, ◌⊎◌, ℕ, zero, suc, ◌<◌, List, [], ◌∷◌, ◌++◌, length, get_or, Contains, IfSome, inl, inr, refl, sym, ap, subst, append_assoc}
use Rattle.std.proofs.lemmas.List.Elements.{Contains-append_cases}
use Rattle.cqa_value.proofs.Words.{mem-nil, mem-cases}
use Rattle.cqa_model.specs.declared.query.Query.{Query}
use Rattle.cqa_model.specs.Query.{rows_of}
use Rattle.cqa_model.specs.Database.{Table, stored}
use Rattle.plan_rows.specs.declared.links.Link.{Link}
use Rattle.plan_rows.specs.Links.{AreLinks, AreWays, atoms_on}

-- a list's element behind its end, at it, or in it
at-push : {A : Type 0} (xs : List A) (x d : A) (i : ℕ) → (get_or (xs ++ x ∷ []) i d ≡ get_or xs i d) ⊎ ((i ≡ length xs) × (get_or (xs ++ x ∷ []) i d ≡ x))
at-push [] x d zero = inr (refl, refl)
at-push [] x d (suc i) = inl refl
at-push (y ∷ ys) x d zero = inl refl
at-push (y ∷ ys) x d (suc i) = elim (at-push ys x d i) [ inl e ↦ inl e | inr e ↦ inr (ap suc e.0, e.1) ]

atoms-push : (links : List Link) (l : Link) → atoms_on (links ++ l ∷ []) ≡ atoms_on links ++ l.atom ∷ []
atoms-push [] l = refl
atoms-push (k ∷ links) l = ap (λ z. k.atom ∷ z) (atoms-push links l)

-- a link more
pub links-push : (q : Query) (db : List Table) (links : List Link) (l : Link) → AreLinks q db links → l.atom < length q.atoms → IfSome l.path (λ x. x.rows ≡ rows_of q (stored db) l.atom) → AreLinks q db (links ++ l ∷ [])
links-push q db links l are there rows k m = elim (Contains-append_cases links (l ∷ []) k m) [
  | inl n ↦ are k n
  | inr n ↦ elim (mem-cases k l [] n) [
    | inl e ↦ subst (λ (z : Link). (z.atom < length q.atoms) × IfSome z.path (λ x. x.rows ≡ rows_of q (stored db) z.atom)) e (there, rows)
    | inr none ↦ absurd (mem-nil k none)
  ]
]

-- the atoms of the links so far and those that are left
pub links-further : (links : List Link) (l : Link) (rest all : List ℕ) → atoms_on links ++ (l.atom ∷ rest) ≡ all → atoms_on (links ++ l ∷ []) ++ rest ≡ all
links-further links l rest all e = ap (λ z. z ++ rest) (atoms-push links l) ∙ append_assoc (atoms_on links) (l.atom ∷ []) rest ∙ e

-- one list more
pub ways-push : (q : Query) (db : List Table) (order : List ℕ) (ways : List (List Link)) (links : List Link) → AreWays q db order ways → AreLinks q db links →
    ((front rest : List ℕ) → order ≡ front ++ length ways ∷ rest → (G : ℕ) → Contains (atoms_on links) G → Contains rest G) → AreWays q db order (ways ++ links ∷ [])
ways-push q db order ways links are some behind = record {
  links = λ F. elim (at-push ways links [] F) [
    | inl e ↦ subst (AreLinks q db) (sym e) (are.links F)
    | inr e ↦ subst (AreLinks q db) (sym e.1) some
  ];
  behind = λ front rest F whole G m. elim (at-push ways links [] F) [
    | inl e ↦ are.behind front rest F whole G (subst (λ z. Contains (atoms_on z) G) e m)
    | inr e ↦ behind front rest (subst (λ z. order ≡ front ++ z ∷ rest) e.0 whole) G (subst (λ z. Contains (atoms_on z) G) e.1 m)
  ];
}
