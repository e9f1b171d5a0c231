-- Why a row is certain for a union, or why it isn't: a refutation within the budget, or a spent log; or a repair.
use Rattle.std.proofs.Common.{◌⊎◌, inl, inr, ℕ, List}
use Rattle.cqa_value.specs.declared.value.Value.{Value}
use Rattle.cqa_model.specs.declared.query.Query.{Query}
use Rattle.cqa_model.specs.Database.{Table, IsDatabase}
use Rattle.cqa_model.specs.Unions.{IsCertainIn}
use Rattle.existence_law.proofs.Spending.{budgets_decide}
use Rattle.part_search.specs.Parts.{AllFit, HasTooManyIn}
use Rattle.repair_back.specs.declared.reason.Reason.{Reason}
use Rattle.repair_back.specs.declared.reason.Reason.TheVariants.{Rejected, Refuted}
use Rattle.repair_back.specs.declared.reason.Untold.{Untold}
use Rattle.repair_back.specs.declared.reason.Untold.TheVariants.{Over, Spent}
use Rattle.union_ask.specs.Laws.{PossibleIsCandidateIn, UnionsDecide}
use Rattle.union_ask.specs.Reasons.{IsReasonIn, IsUntoldIn}
use Rattle.existence_law.specs.UnionReasons.{UnionReasonsExist}
use Rattle.existence_law.proofs.UnionAnswering.{certain_given, dec_certain_in, dec_too_many_in}
use Rattle.existence_law.proofs.UnionEncoding.{union_formulas_exist}
use Rattle.existence_law.proofs.UnionRejecting.{union_rejections_exist}

module _ (same : PossibleIsCandidateIn) (decide : UnionsDecide) (db : List Table) (parts : List Query) (row : List Value) (budget : ℕ) (valid : IsDatabase db) (fits : AllFit parts db) where
  abbrev Told : Type 0
  Told = ((reason : Reason) × IsReasonIn db parts row budget reason) ⊎ ((why : Untold) × IsUntoldIn db parts row budget why)

  by_formula : (HasTooManyIn parts db row → ⊥) → IsCertainIn db parts row → Told
  by_formula few certain =
      let f = union_formulas_exist db parts row in
      let e = f.0 in
      elim (budgets_decide e.cnf budget f.1.1 ((decide db parts row e valid fits f.1.0).0 certain)) [
        | inl r ↦ inl (Refuted e.cnf (record { steps = r.0 }), (few, record { rows = e.rows; formula = f.1.0; refuted = r.1; certain = certain }))
        | inr s ↦ inr (Spent e.cnf (record { steps = s.0 }), (few, record { candidate = certain_given db parts fits same row certain; rows = e.rows; formula = f.1.0; spent = s.1 }))
      ]

  told : Dec (HasTooManyIn parts db row) → Dec (IsCertainIn db parts row) → Told
  told (yes over) d = inr (Over, over)
  told (no few) (yes certain) = by_formula few certain
  told (no few) (no uncertain) = let n = union_rejections_exist db parts row fits uncertain in inl (Rejected n.0, (n.1.0, few, n.1.1))

pub union_reasons_exist : PossibleIsCandidateIn → UnionsDecide → UnionReasonsExist
union_reasons_exist same decide db parts row budget valid fits = told same decide db parts row budget valid fits (dec_too_many_in db parts row) (dec_certain_in db parts row)
