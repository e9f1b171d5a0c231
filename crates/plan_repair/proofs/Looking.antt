-- Rows of later atoms lead to each row that is in a witness.
use Rattle.std.proofs.Common.{ℕ, ◌<◌, ◌≤◌, ◌⊎◌, Some, List, [], length, get_or, subst, arith}
use Rattle.cqa_model.specs.declared.query.Query.{Query}
use Rattle.cqa_model.specs.Database.{Table, stored}
use Rattle.cqa_model.specs.Plan.{Placed}
use Rattle.cqa_model.specs.Variables.{after}
use Rattle.cqa_model.specs.Partial.{view_of}
use Rattle.plan_rows.specs.Links.{LeadsTo}
use Rattle.plan_rows.specs.Places.{IsRowPassed}
use Rattle.plan_rows.specs.declared.places.Places.{Places}
use Rattle.plan_rows.proofs.Reaching.{witnesses_are_reached}
use Rattle.plan_repair.specs.declared.way.Way.{Way}
use Rattle.plan_repair.specs.Mending.{IsNextAtom}
use Rattle.plan_repair.specs.Along.{rows_on, AreLed}
use Rattle.plan_repair.proofs.Apart.{plan-has}
use Rattle.plan_repair.proofs.Mended.{IsInWitness}

module _ (way : Way) (taken : List Placed) (F : ℕ) (rest : List ℕ) (next : IsNextAtom way taken F rest) (s : Places) (h : AreLed way taken F rest s) where
  abbrev q : Query
  q = way.course.now.setting.bound.now.query.now

  abbrev db : List Table
  db = way.course.now.setting.bound.now.db.now

  abbrev pub IsHeld : ℕ → Type 0
  IsHeld i = IsInWitness q db way.row.now taken F (get_or (rows_on way F) i [])

  led : (i : ℕ) → IsHeld i → LeadsTo q (stored db) (Some way.row.now) taken h.0 F (get_or (rows_on way F) i [])
  led i (w, p, e) = subst (λ y. LeadsTo q (stored db) (Some way.row.now) taken h.0 F y) e
      (witnesses_are_reached db q (stored db) way.row.now taken F h.0 w way.course.now.setting.bound.now.fits way.long (λ G x has m. m)
      (λ G m. (plan-has q (after q (view_of q taken) F) rest next.plan G (h.1 G m)).0) p)

  -- no row outside of the places is in a witness
  pub outside-led : (i : ℕ) → i < length (rows_on way F) → (i < s.start) ⊎ (s.end ≤ i) → IsHeld i → ⊥
  outside-led i l o k = h.2.others i l o (led i k)

  -- and no row that is passed
  pub passed-led : (from to : ℕ) → IsRowPassed s from to → (i : ℕ) → from < i → i < to → i < length (rows_on way F) → IsHeld i → ⊥
  passed-led from to none i low high l k = none i (omega (arith, low)) high (h.2.known i l (led i k))
