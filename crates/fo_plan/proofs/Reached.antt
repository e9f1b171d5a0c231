-- Blocks that are looked for: all that hold are among them, since rows with which a plan holds lead to each other.
use Rattle.std.proofs.Common.{◌≡◌, ◌↔◌, ◌<◌, ◌∙◌, ℕ, Option, None, Some, List, [], length, take, ap, sym, subst, Contains}
use Rattle.std.specs.Borrow.{Bor}
use Rattle.std.proofs.Math.Seq.{take-length}
use Rattle.std.proofs.lemmas.List.Elements.{Contains-get_or}
use Rattle.cqa_value.specs.declared.value.Value.{Value}
use Rattle.cqa_model.specs.Database.{key_of}
use Rattle.cqa_model.specs.Query.{atom_key, rows_of}
use Rattle.cqa_model.specs.OneTable.{SomeBlockFits}
use Rattle.cqa_model.proofs.Classic.{mem-nil}
use Rattle.cqa_model.proofs.Repairs.{shares-self}
use Rattle.row_order.specs.Spans.{first_key}
use Rattle.join_access.specs.Chains.{Indexed}
use Rattle.plan_rows.specs.Knowing.{MayFit}
use Rattle.plan_rows.specs.Links.{LeadsTo}
use Rattle.plan_rows.specs.Over.{query_of, stored_rows, rows_before}
use Rattle.plan_rows.specs.Wanted.{IsWanted}
use Rattle.plan_rows.specs.declared.wanted.Wanted.TheVariants.{Indexed as AlongIndex}
use Rattle.plan_rows.specs.declared.steps.Step.{Step}
use Rattle.plan_rows.proofs.Reaching.{held_rows_are_reached}
use Rattle.fo_plan.specs.Enough.{row_at_place, AreSought, AreReached}
use Rattle.fo_plan.specs.Holding.{PlanHoldsWith}
use Rattle.fo_plan.specs.declared.enough.Blocks.{Blocks}
use Rattle.fo_plan.proofs.Passing.{found-in-table}
use Rattle.fo_plan.proofs.Spanned.{whole-enough}

module _ (step : Step) (s : Blocks) where
  -- each block that holds is looked for, and some block that is gone over holds exactly where one of the table does
  reached : (given : Option (List Value)) (h : AreReached step given s) (P : List Value → Type 0) → ((y : List Value) → P y → LeadsTo (query_of step) (stored_rows step) given (rows_before step) h.links step.atom y) →
      AreSought s P × (SomeBlockFits s.key.now s.rows P ↔ SomeBlockFits (atom_key (query_of step) step.atom) (rows_of (query_of step) (stored_rows step) step.atom) P)
  reached given h P leads = (
    (λ at there first all. h.wanted at there (leads (row_at_place s.rows at) (all (row_at_place s.rows at) (Contains-get_or s.rows at [] there) (shares-self s.key.now (row_at_place s.rows at))))),
    found-in-table s (atom_key (query_of step) step.atom) (rows_of (query_of step) (stored_rows step) step.atom) (LeadsTo (query_of step) (stored_rows step) given (rows_before step) h.links step.atom) h.key h.enough P leads,
  )

  -- so it is with a candidate
  pub held-reached : (row : List Value) → AreReached step (Some row) s →
      AreSought s (PlanHoldsWith step row) × (SomeBlockFits s.key.now s.rows (PlanHoldsWith step row) ↔ SomeBlockFits (atom_key (query_of step) step.atom) (rows_of (query_of step) (stored_rows step) step.atom) (PlanHoldsWith step row))
  held-reached row h = reached (Some row) h (PlanHoldsWith step row) (λ y p. (held_rows_are_reached (query_of step) (stored_rows step) row (rows_before step) step.atom step.rest.now h.links y h.behind p).0)

  -- and for any row where none is given
  pub given-reached : (row : List Value) → AreReached step None s →
      AreSought s (PlanHoldsWith step row) × (SomeBlockFits s.key.now s.rows (PlanHoldsWith step row) ↔ SomeBlockFits (atom_key (query_of step) step.atom) (rows_of (query_of step) (stored_rows step) step.atom) (PlanHoldsWith step row))
  given-reached row h = reached None h (PlanHoldsWith step row) (λ y p. (held_rows_are_reached (query_of step) (stored_rows step) row (rows_before step) step.atom step.rest.now h.links y h.behind p).1)

-- where the whole table is gone over
pub whole-reached : (step : Step) (given : Option (List Value)) (s : Blocks) (links : List ℕ) → ((G : ℕ) → Contains links G → Contains step.rest.now G) → s.key.now ≡ atom_key (query_of step) step.atom → s.rows ≡ rows_of (query_of step) (stored_rows step) step.atom →
    ((at : ℕ) → at < length (rows_of (query_of step) (stored_rows step) step.atom) → LeadsTo (query_of step) (stored_rows step) given (rows_before step) links step.atom (row_at_place (rows_of (query_of step) (stored_rows step) step.atom) at) → IsWanted s.wanted at) → AreReached step given s
whole-reached step given s links behind key rows wanted = record {
  key = key;
  links = links;
  behind = behind;
  enough = whole-enough (atom_key (query_of step) step.atom) (rows_of (query_of step) (stored_rows step) step.atom) s.rows (LeadsTo (query_of step) (stored_rows step) given (rows_before step) links step.atom) rows;
  wanted = subst (λ xs. (at : ℕ) → at < length xs → LeadsTo (query_of step) (stored_rows step) given (rows_before step) links step.atom (row_at_place xs at) → IsWanted s.wanted at) (sym rows) wanted;
}

-- so it is by an index of whose columns all values are known
pub index-reached : (step : Step) (given : Option (List Value)) (s : Blocks) (index : Bor Indexed) (values : List Value) → s.key.now ≡ atom_key (query_of step) step.atom → s.rows ≡ rows_of (query_of step) (stored_rows step) step.atom → s.wanted ≡ AlongIndex index values →
    index.now.rows ≡ rows_of (query_of step) (stored_rows step) step.atom → length values ≡ length index.now.columns → ((y : List Value) → MayFit (query_of step) given (rows_before step) step.atom y → first_key index.now.columns values y ≡ values) → AreReached step given s
index-reached step given s index values key rows same of size known =
    whole-reached step given s [] (λ G m. absurd (mem-nil G m)) key rows
    (λ at there may. subst (λ w. IsWanted w at) (sym same)
    (subst (λ xs. key_of index.now.columns (row_at_place xs at) ≡ values) (sym of)
    (ap (λ columns. key_of columns (row_at_place (rows_of (query_of step) (stored_rows step) step.atom) at)) (sym (take-length index.now.columns) ∙ ap (λ n. take n index.now.columns) (sym size)) ∙
    known (row_at_place (rows_of (query_of step) (stored_rows step) step.atom) at) may)))
