-- Rows that fit, part by part.
use Rattle.std.proofs.Common.{◌≡◌, ℕ, ◌<◌, ◌↔◌, inl, inr, Bool, true, false, List, ◌∷◌, get_or, sym, ◌∙◌, subst, Contains}
use Rattle.std.proofs.lemmas.Bool.{false≢true}
use Rattle.std.specs.List.{All}
use Rattle.std.proofs.lemmas.List.Elements.{All-contains}
use Rattle.cqa_value.specs.declared.value.Value.{Value}
use Rattle.cqa_model.specs.declared.query.Query.{Query}
use Rattle.cqa_model.specs.Query.{atom_at}
use Rattle.cqa_model.specs.Variables.{AreLinked}
use Rattle.cqa_model.specs.Plan.{Placed, Fits, TestHolds}
use Rattle.cqa_model.proofs.Classic.{mem-head, mem-tail, mem-cases}
use Rattle.cqa_model.proofs.Views.{linked-self}
use Rattle.cqa_value.specs.Values.{nothing}
use Rattle.join_access.specs.Deciding.{of_all}
use Rattle.plan_rows.specs.Taking.{AreAgreed}
use Rattle.plan_rows.specs.Fitting.{AgreesInFirst, AgreesAll, Suits, GivesCandidate}

module _ (q : Query) (F : ℕ) (x : List Value) (taken : List Placed) (t : Placed) (ts : List Placed) (e : taken ≡ t ∷ ts) where
  pub agrees-more : (a : Bool) → (a ≡ true) ↔ AgreesAll q F x ts → AgreesInFirst q F x t.atom t.row (atom_at q F).width → (a ≡ true) ↔ AgreesAll q F x taken
  agrees-more a h g = (
    (λ p s m. elim (mem-cases s t ts (subst (λ z. Contains z s) e m)) [ inl f ↦ subst (λ z. AgreesInFirst q F x z.atom z.row (atom_at q F).width) f g | inr n ↦ h.0 p s n ]),
    (λ all. h.1 (λ s m. all s (subst (λ z. Contains z s) (sym e) (mem-tail s t ts m)))),
  )

  pub agrees-not : (a : Bool) → a ≡ false → (a ≡ true) ↔ AgreesInFirst q F x t.atom t.row (atom_at q F).width → (a ≡ true) ↔ AgreesAll q F x taken
  agrees-not a f h = ((λ p. absurd (false≢true (sym f ∙ p))), (λ all. h.1 (all t (subst (λ z. Contains z t) (sym e) (mem-head t ts)))))

module _ (q : Query) (taken : List Placed) (F : ℕ) (x : List Value) where
  pub suits-of : AgreesAll q F x (record { atom = F; row = x } ∷ taken) → All (TestHolds F x) q.conds → Suits q taken F x
  suits-of a t = record { agrees = a; tests = λ k m. All-contains (TestHolds F x) q.conds k t m }

  pub tests-of : Suits q taken F x → All (TestHolds F x) q.conds
  tests-of s = of_all (TestHolds F x) q.conds s.tests

  pub fits-of : (row : List Value) → Suits q taken F x → GivesCandidate q F x row → Fits q row taken F x
  fits-of row s g = record { agrees = s.agrees; tests = s.tests; answers = g }

  pub suits-from : (row : List Value) → Fits q row taken F x → Suits q taken F x
  suits-from row f = record { agrees = f.agrees; tests = f.tests }

  pub gives-from : (row : List Value) → Fits q row taken F x → GivesCandidate q F x row
  gives-from row f = f.answers

  -- rows of one atom still agree once a row that fits is taken
  pub agreed-more : AreAgreed q taken → Suits q taken F x → AreAgreed q (record { atom = F; row = x } ∷ taken)
  agreed-more h s t u mt mu e i l = elim (mem-cases t (record { atom = F; row = x }) taken mt) [
    | inl et ↦ here t u mu e i l et
    | inr nt ↦ elim (mem-cases u (record { atom = F; row = x }) taken mu) [
      | inl eu ↦ sym (here u t mt (sym e) i (subst (λ z. i < (atom_at q z).width) e l) eu)
      | inr nu ↦ h t u nt nu e i l
    ]
  ]
    where
      here : (t u : Placed) → Contains (record { atom = F; row = x } ∷ taken) u → t.atom ≡ u.atom → (i : ℕ) → i < (atom_at q t.atom).width → ◌≡◌ {A = Placed} (record { atom = F; row = x }) t → get_or t.row i nothing ≡ get_or u.row i nothing
      here t u mu e i l et =
          let F≡ : F ≡ t.atom = (λ k. (et k).atom) in
          let lF : i < (atom_at q F).width = subst (λ z. i < (atom_at q z).width) (sym F≡) l in
          let lu : i < (atom_at q u.atom).width = subst (λ z. i < (atom_at q z).width) e l in
          subst (λ (z : Placed). get_or z.row i nothing ≡ get_or u.row i nothing) et
          (s.agrees u mu i lF i lu (subst (λ z. AreLinked q (record { atom = F; col = i }) (record { atom = z; col = i })) (F≡ ∙ e) (linked-self q (record { atom = F; col = i }))))
