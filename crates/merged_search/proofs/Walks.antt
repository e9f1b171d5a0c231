-- A fact of each clause, looked through from the first on.
use Rattle.std.proofs.Common.{◌≡◌, ◌<◌, ◌≤◌, ◌+◌, ℕ, List, [], ◌∷◌, ◌++◌, inl, inr, sym, ◌∙◌, ap, subst, length, take, get_or}
use Rattle.std.specs.Prelude.{Contains}
use Rattle.std.proofs.lemmas.List.{map-append, take_all, take_more}
use Rattle.std.proofs.lemmas.List.Elements.{Contains-push_cases}
use Rattle.cnf_form.specs.declared.formula.Lit.{Lit}
use Rattle.cnf_form.specs.declared.formula.Clause.{Clause}
use Rattle.cnf_form.specs.Literals.{literals}

abbrev pub Each : (List Lit → Type 0) → List Clause → Type 0
Each P cs = (c : List Lit) → Contains (literals cs) c → P c

-- one clause more
pub each_more : (P : List Lit → Type 0) (cs : List Clause) (i : ℕ) (x : Clause) → i < length cs → x ≡ get_or cs i x → P x.lits → Each P (take i cs) → Each P (take (i + 1) cs)
each_more P cs i x h at here all c k =
    elim (Contains-push_cases (literals (take i cs)) x.lits c (subst (λ (xs : List (List Lit)). Contains xs c) shape k)) [
      | inl j ↦ all c j
      | inr e ↦ subst P e here
    ]
  where
    shape : literals (take (i + 1) cs) ≡ literals (take i cs) ++ x.lits ∷ []
    shape = ap literals (take_more cs i x h) ∙ ap (λ (y : Clause). literals (take i cs ++ y ∷ [])) (sym at) ∙ map-append (λ (y : Clause). y.lits) (take i cs) (x ∷ [])

-- all clauses
pub each_all : (P : List Lit → Type 0) (cs all : List Clause) (i : ℕ) → cs ≡ all → length cs ≤ i → Each P (take i cs) → Each P all
each_all P cs all i e h each = subst (λ (xs : List Clause). Each P xs) (take_all i cs h ∙ e) each
