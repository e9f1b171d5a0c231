-- Where an elimination order doesn't hold, a repair without a witness is found.
use Rattle.std.proofs.Common.{◌≡◌, ℕ, ◌⊎◌, ◌↔◌, inl, inr, List, [], ◌∷◌, length, Contains}
use Rattle.cqa_model.specs.declared.query.Query.{Query}
use Rattle.cqa_value.specs.declared.value.Value.{Value}
use Rattle.cqa_model.specs.Query.{atom_key, rows_of, row_at}
use Rattle.cqa_model.specs.Repairs.{SharesKey, IsRepairBy}
use Rattle.cqa_model.proofs.Fitting.{IsCertainBy, FitsTables}
use Rattle.cqa_model.specs.Plan.{Placed, Fits, PlanHolds, IsElimination, IsEliminationOf, IsUnattacked}
use Rattle.cqa_model.specs.Partial.{view_of, AllFit, IsPartial}
use Rattle.cqa_model.proofs.Classic.{mem-nil, dec_both, dec_if, find_in}
use Rattle.cqa_model.proofs.Repairs.{shares-self, dec_shares}
use Rattle.cqa_model.proofs.Views.{view-in_range}
use Rattle.cqa_model.proofs.Reification.{placed, kept-stored, LacksKey}
use Rattle.cqa_model.proofs.Existence.{some_repair}
use Rattle.cqa_model.proofs.Decisions.{dec_fits, dec_plan}
use Rattle.cqa_model.proofs.Exactness.{fits_of, sound}
use Rattle.cqa_model.proofs.Keys.{without_all, with_row}

module _ (q : Query) (keys : List (List ℕ)) (tables : List (List (List Value))) (fits : FitsTables q keys tables) (row : List Value) (long : length row ≡ length q.answer) where
  abbrev Lacks : (taken : List Placed) (all : AllFit q row taken) (F : ℕ) → (view_of q taken).has F → IsUnattacked q (view_of q taken) F → List (List (List Value)) → List Value → Type 0
  Lacks taken all F hF free r x = LacksKey q keys tables fits row taken all F hF free r x

  -- where an elimination order doesn't hold, a repair has no witness
  mended : (plan : List ℕ) (taken : List Placed) → AllFit q row taken → IsElimination q (view_of q taken) plan → (PlanHolds q tables row taken plan → ⊥) →
      (r : List (List (List Value))) × IsRepairBy keys tables r × ((w : List (List Value)) → IsPartial q row taken r w → ⊥)
  mended [] taken all none fails = absurd (fails tt)
  mended (F ∷ plan) taken all (has, free, rest) fails =
      finish (without_all q keys tables fits row taken all F has free (some_repair keys tables).0 (some_repair keys tables).1 (rows_of q tables F) (λ x mx.
      lacking x mx (find_in (Good x) (dec_good x) (rows_of q tables F)) (λ y fy f. mended plan (placed F y ∷ taken) (has, fy, all) rest f)))
    where
      Good : List Value → List Value → Type 0
      Good x y = SharesKey (atom_key q F) x y → Fits q row taken F y × PlanHolds q tables row (placed F y ∷ taken) plan

      dec_good : (x y : List Value) → Dec (Good x y)
      dec_good x y = dec_if (dec_shares (atom_key q F) x y) (dec_both (dec_fits q row taken F y) (dec_plan q tables row (placed F y ∷ taken) plan))

      NoWitness : List Placed → Type 0
      NoWitness ts = (r : List (List (List Value))) × IsRepairBy keys tables r × ((w : List (List Value)) → IsPartial q row ts r w → ⊥)

      lacking : (x : List Value) → Contains (rows_of q tables F) x → ((y : List Value) → Contains (rows_of q tables F) y → Good x y) ⊎ ((y : List Value) × Contains (rows_of q tables F) y × (Good x y → ⊥)) →
          ((y : List Value) → Fits q row taken F y → (PlanHolds q tables row (placed F y ∷ taken) plan → ⊥) → NoWitness (placed F y ∷ taken)) →
          (s : List (List (List Value))) × IsRepairBy keys tables s × Lacks taken all F has free s x
      lacking x mx (inl h) next = absurd (fails (x, mx, h))
      lacking x mx (inr (y, my, bad)) next = shared (dec_shares (atom_key q F) x y) (dec_fits q row taken F y)
        where
          shared : Dec (SharesKey (atom_key q F) x y) → Dec (Fits q row taken F y) → (s : List (List (List Value))) × IsRepairBy keys tables s × Lacks taken all F has free s x
          shared (no f) d = absurd (bad (λ s. absurd (f s)))
          shared (yes xy) (no nf) =
              let s = with_row q keys tables fits row taken all F has (some_repair keys tables).0 (some_repair keys tables).1 x y my xy in
              (s.0, s.1, λ w hw xw. nf (fits_of q keys tables fits row long taken (some_repair keys tables).0 F y w (s.2 w hw xw)))
          shared (yes xy) (yes fy) =
              let r = next y fy (λ h. bad (λ s. (fy, h))) in
              let s = with_row q keys tables fits row taken all F has r.0 r.1 x y my xy in
              (s.0, s.1, λ w hw xw. r.2 w (s.2 w hw xw))

      finish : (z : List (List (List Value))) × IsRepairBy keys tables z × ((x : List Value) → Contains (rows_of q tables F) x → Lacks taken all F has free z x) → NoWitness taken
      finish (z, hz, h) = (z, hz, λ w hw. h (row_at w F) (kept-stored q keys tables fits row taken all z hz F (view-in_range q taken F has) (row_at w F) (hw.keeps F has)) w hw (shares-self (atom_key q F) (row_at w F)))

-- an elimination order holds exactly where the row is certain
pub elimination_is_exact : (q : Query) (keys : List (List ℕ)) (tables : List (List (List Value))) (row : List Value) (plan : List ℕ) →
    FitsTables q keys tables → length row ≡ length q.answer → IsEliminationOf q plan →
    PlanHolds q tables row [] plan ↔ IsCertainBy keys q tables row
elimination_is_exact q keys tables row plan fits long eliminates = (to, from (dec_plan q tables row [] plan))
  where
    to : PlanHolds q tables row [] plan → IsCertainBy keys q tables row
    to h r hr =
        let w = sound q keys tables fits row long plan [] tt eliminates h r hr in
        (w.0, record { size = w.1.size; kept = w.1.keeps; holds = w.1.holds; answers = w.1.answers })

    from : Dec (PlanHolds q tables row [] plan) → IsCertainBy keys q tables row → PlanHolds q tables row [] plan
    from (yes h) certain = h
    from (no f) certain =
        let m = mended q keys tables fits row long plan [] tt eliminates f in
        let w = certain m.0 m.1 in
        absurd (m.2 w.0 (record { size = w.1.size; keeps = w.1.kept; holds = w.1.holds; answers = w.1.answers; extends = λ t n. absurd (mem-nil t n) }))
