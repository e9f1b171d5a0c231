-- When a plan holds for an assignment of values to variables: what the rows taken before say is said by their variables.
use Rattle.std.proofs.Common.{◌≡◌, ℕ, ◌<◌, inl, inr, List, [], ◌∷◌, ◌++◌, length, ap, sym, ◌∙◌, subst, Contains}
use Rattle.std.proofs.lemmas.List.Elements.{Contains-append_left, Contains-append_right, Contains-append_cases}
use Rattle.cqa_value.specs.declared.value.Value.{Value}
use Rattle.cqa_model.specs.declared.query.Query.{Query}
use Rattle.cqa_model.specs.Repairs.{SharesKey}
use Rattle.cqa_model.specs.Query.{atom_at, atom_key, rows_of}
use Rattle.cqa_model.specs.Partial.{view_of, AllFit}
use Rattle.cqa_model.specs.Plan.{Placed, Fits, PlanHolds, IsPlan}
use Rattle.cqa_model.proofs.Classic.{mem-head, mem-tail, mem-cases}
use Rattle.cqa_model.proofs.Fitting.{FitsTables}
use Rattle.cqa_model.proofs.Reification.{placed}
use Rattle.sql_steps.specs.Variables.{variables_of}
use Rattle.sql_steps.proofs.Suiting.{variable, Suits}
use Rattle.sql_steps.proofs.Atoms.{variables-from, variables-into}
use Rattle.plan_sql.proofs.Witnessing.{Agrees, IsFixed, agrees-more, agrees-kept, agrees-less, agrees-suits, fixed-same, fits-from, Witnessed, witness}

-- an assignment keeps the values of these variables
abbrev pub Keeps : List ℕ → (ℕ → Value) → (ℕ → Value) → Type 0
Keeps vs e d = (v : ℕ) → Contains vs v → d v ≡ e v

-- an order of atoms holds for the values of these variables: the first atom has a block each row of which suits an
-- assignment that keeps them, for which the rest holds with that row's variables
abbrev pub Holding : Query → (ℕ → List (List Value)) → List ℕ → (ℕ → Value) → List ℕ → Type 0
Holding q T vs e [] = Unit {0}
Holding q T vs e (F ∷ plan) =
    (x : List Value) × Contains (T F) x ×
    ((y : List Value) → Contains (T F) y → SharesKey (atom_key q F) x y →
    (d : ℕ → Value) × Keeps vs e d × Suits q d F y × Holding q T (vs ++ variables_of q F) d plan)

module _ (q : Query) (row : List Value) (keys : List (List ℕ)) (tables : List (List (List Value))) (fits : FitsTables q keys tables) (long : length row ≡ length q.answer) where
  abbrev T : ℕ → List (List Value)
  T F = rows_of q tables F

  fixed-more : (taken : List Placed) (t : Placed) (v : ℕ) → IsFixed q row taken v → IsFixed q row (t ∷ taken) v
  fixed-more taken t v (inl a) = inl a
  fixed-more taken t v (inr b) = inr (b.0, mem-tail b.0 t taken b.1, b.2)

  abbrev Into : List ℕ → Type 0
  Into plan =
      (taken : List Placed) (vs : List ℕ) (e : ℕ → Value) → AllFit q row taken → IsPlan q (view_of q taken) plan → Agrees q row e taken →
      ((v : ℕ) → Contains vs v → IsFixed q row taken v) → PlanHolds q tables row taken plan → Holding q T vs e plan

  pub holding-into : (plan : List ℕ) → Into plan
  holding-into [] taken vs e all is_plan a fixed h = tt
  holding-into (F ∷ plan) taken vs e all is_plan a fixed h = (h.0, h.1, each (holding-into plan))
    where
      each : Into plan → (y : List Value) → Contains (T F) y → SharesKey (atom_key q F) h.0 y → (d : ℕ → Value) × Keeps vs e d × Suits q d F y × Holding q T (vs ++ variables_of q F) d plan
      each next y my s = (
        d.0,
        (λ v m. fixed-same q row e d.0 taken a (agrees-less q row d.0 (placed F y) taken d.1.agrees) v (fixed v m)),
        agrees-suits q row d.0 F y taken d.1.agrees (h.2 y my s).0,
        next (placed F y ∷ taken) (vs ++ variables_of q F) d.0 more is_plan.3 d.1.agrees fixed' (h.2 y my s).1,
      )
        where
          more : AllFit q row (placed F y ∷ taken)
          more = (is_plan.0, (h.2 y my s).0, all)

          d : (e : ℕ → Value) × Witnessed q row keys tables fits long (placed F y ∷ taken) e
          d = witness q row keys tables fits long (placed F y ∷ taken) more plan is_plan.3 (h.2 y my s).1

          fixed' : (v : ℕ) → Contains (vs ++ variables_of q F) v → IsFixed q row (placed F y ∷ taken) v
          fixed' v m = elim (Contains-append_cases vs (variables_of q F) v m) [
            | inl n ↦ fixed-more taken (placed F y) v (fixed v n)
            | inr n ↦ let i = variables-from q F v n in inr (placed F y, mem-head (placed F y) taken, (i.0, i.1, sym i.2))
          ]

  abbrev From : List ℕ → Type 0
  From plan =
      (taken : List Placed) (vs : List ℕ) (e : ℕ → Value) → Agrees q row e taken → ((v : ℕ) → IsFixed q row taken v → Contains vs v) →
      Holding q T vs e plan → PlanHolds q tables row taken plan

  pub holding-from : (plan : List ℕ) → From plan
  holding-from [] taken vs e a fixed h = tt
  holding-from (F ∷ plan) taken vs e a fixed h = (h.0, h.1, each (holding-from plan))
    where
      each : From plan → (y : List Value) → Contains (T F) y → SharesKey (atom_key q F) h.0 y → Fits q row taken F y × PlanHolds q tables row (placed F y ∷ taken) plan
      each next y my s = (
        fits-from q row d.0 taken F y agrees d.2,
        next (placed F y ∷ taken) (vs ++ variables_of q F) d.0 (agrees-more q row d.0 taken F y agrees d.2) fixed' d.3,
      )
        where
          d : (d : ℕ → Value) × Keeps vs e d × Suits q d F y × Holding q T (vs ++ variables_of q F) d plan
          d = h.2 y my s

          agrees : Agrees q row d.0 taken
          agrees = agrees-kept q row e d.0 taken (λ v f. d.1 v (fixed v f)) a

          fixed' : (v : ℕ) → IsFixed q row (placed F y ∷ taken) v → Contains (vs ++ variables_of q F) v
          fixed' v (inl b) = Contains-append_left vs (variables_of q F) v (fixed v (inl b))
          fixed' v (inr (t, m, (j, l, g))) = elim (mem-cases t (placed F y) taken m) [
            | inl k ↦ Contains-append_right vs (variables_of q F) v
                (subst (λ z. Contains (variables_of q F) z) (ap (λ (z : Placed). variable q z.atom j) k ∙ sym g) (variables-into q F j (subst (λ (z : Placed). j < (atom_at q z.atom).width) (sym k) l)))
            | inr n ↦ Contains-append_left vs (variables_of q F) v (fixed v (inr (t, n, (j, l, g))))
          ]
