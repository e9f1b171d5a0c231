-- What the blocks so far give has come.
use Rattle.std.proofs.Common.{◌≡◌, ◌<◌, ◌≤◌, ◌+◌, ◌⊎◌, ℕ, inl, inr, None, List, length, sym, subst, arith, Contains}
use native.Mathlib.Decide.{dec_lt}
use Rattle.cqa_value.specs.declared.value.Value.{Value}
use Rattle.cqa_model.specs.Repairs.{SharesKey}
use Rattle.cqa_model.specs.OneTable.{SomeBlockFits}
use Rattle.plan_rows.specs.Over.{query_of, rows_before}
use Rattle.plan_rows.specs.declared.steps.Step.{Step}
use Rattle.fo_plan.specs.Enough.{row_at_place, IsFirstOfBlock, WholeHas, IsBlockPassed, AreSought, AreReached, IsNextSought}
use Rattle.fo_plan.specs.Holding.{PlanHoldsWith}
use Rattle.fo_plan.specs.Giving.{IsAnswerRow, StepGives, IsAdded}
use Rattle.fo_plan.specs.declared.enough.Blocks.{Blocks}
use Rattle.fo_plan.proofs.Passing.{some-at, at-some}
use Rattle.fo_plan.proofs.Reached.{given-reached}
use Rattle.fo_plan.proofs.Gathered.{adds-same}

-- a row has a property, and with it each row of the block that begins at a place
abbrev pub GivesFrom : Blocks → (List Value → Type 0) → (List Value → List Value → Type 0) → ℕ → List Value → Type 0
GivesFrom s Q R at row = (at < length s.rows) × IsFirstOfBlock s.key.now s.rows at × Q row × WholeHas s.key.now s.rows (R row) at

-- what the blocks give that begin before a place has come
pub record AddedBefore (s : Blocks) (Q : List Value → Type 0) (R : List Value → List Value → Type 0) (place : ℕ) (old new : List (List Value)) : Type 0 where
  pub kept : (row : List Value) → Contains old row → Contains new row
  pub given : (row : List Value) → Contains new row → Contains old row ⊎ ((at : ℕ) × GivesFrom s Q R at row)
  pub all : (row : List Value) (at : ℕ) → at < place → GivesFrom s Q R at row → Contains new row

module _ (s : Blocks) (Q : List Value → Type 0) (R : List Value → List Value → Type 0) (sought : (row : List Value) → AreSought s (R row)) where
  -- what is passed gives nothing
  passed : (from to at : ℕ) (row : List Value) → IsBlockPassed s from to → from ≤ at → at < to → GivesFrom s Q R at row → ⊥
  passed from to at row h low high g = h at low high g.1 (sought row at g.0 g.1 g.3)

  pub added-starts : (start : ℕ) (old : List (List Value)) → IsBlockPassed s 0 start → AddedBefore s Q R start old old
  added-starts start old h = record {
    kept = λ row m. m;
    given = λ row m. inl m;
    all = λ row at l g. absurd (passed 0 start at row h (omega arith) l g);
  }

  module _ (from on : ℕ) (block old new more : List (List Value)) (h : AddedBefore s Q R from old new) (n : IsNextSought s from block on)
      (add : IsAdded (λ row. Q row × ((y : List Value) → Contains block y → R row y)) new more) where
    -- what begins before the next place begins before this one, or it is the block that was found
    split : (row : List Value) (at : ℕ) → at < on → GivesFrom s Q R at row → (at < from) ⊎ (Q row × ((y : List Value) → Contains block y → R row y))
    split row at l g = go (dec_lt at from) (dec_lt at n.at) (dec_lt n.at at)
      where
        go : Dec (at < from) → Dec (at < n.at) → Dec (n.at < at) → (at < from) ⊎ (Q row × ((y : List Value) → Contains block y → R row y))
        go (yes a) b c = inl a
        go (no a) (yes b) c = absurd (passed from n.at at row n.before (omega (arith, a)) b g)
        go (no a) (no b) (yes c) = absurd (passed (n.at + 1) on at row n.behind (omega (arith, c)) l g)
        go (no a) (no b) (no c) =
            let same : at ≡ n.at = omega (arith, b, c) in
            inr (g.2, λ y m. let e = (n.is.exactly y).0 m in g.3 y e.0 (subst (λ k. SharesKey s.key.now (row_at_place s.rows k) y) (sym same) e.1))

    -- the block that was found gives from its place
    from-block : (row : List Value) → Q row × ((y : List Value) → Contains block y → R row y) → (at : ℕ) × GivesFrom s Q R at row
    from-block row p = (n.at, (n.is.there, n.is.leads, p.0, λ y m t. p.1 y ((n.is.exactly y).1 (m, t))))

    kept-on : (row : List Value) → Contains old row → Contains more row
    kept-on row m = (add row).1 (inl (h.kept row m))

    given-on : (row : List Value) → Contains more row → Contains old row ⊎ ((at : ℕ) × GivesFrom s Q R at row)
    given-on row m = elim ((add row).0 m) [ inl k ↦ h.given row k | inr p ↦ inr (from-block row p) ]

    all-on : (row : List Value) (at : ℕ) → at < on → GivesFrom s Q R at row → Contains more row
    all-on row at l g = elim (split row at l g) [ inl a ↦ (add row).1 (inl (h.all row at a g)) | inr p ↦ (add row).1 (inr p) ]

    pub added-on : AddedBefore s Q R on old more
    added-on = record { kept = kept-on; given = given-on; all = all-on }

  pub added-ends : (from : ℕ) (old new : List (List Value)) → AddedBefore s Q R from old new → IsBlockPassed s from (length s.rows) → IsAdded (λ row. Q row × SomeBlockFits s.key.now s.rows (R row)) old new
  added-ends from old new h n row = (
    (λ m. elim (h.given row m) [ inl k ↦ inl k | inr g ↦ inr (g.1.2, at-some s.key.now s.rows (R row) g.0 g.1.0 g.1.3) ]),
    (λ e. elim e [ inl k ↦ h.kept row k | inr p ↦ (let g = begun p in h.all row g.0 g.1 g.2) ]),
  )
    where
      -- a block that gives something begins before the place that was come to
      begun : Q row × SomeBlockFits s.key.now s.rows (R row) → (at : ℕ) × (at < from) × GivesFrom s Q R at row
      begun p = go (some-at s.key.now s.rows (R row) p.1)
        where
          go : ((at : ℕ) × (at < length s.rows) × IsFirstOfBlock s.key.now s.rows at × WholeHas s.key.now s.rows (R row) at) → (at : ℕ) × (at < from) × GivesFrom s Q R at row
          go b = early (dec_lt b.0 from)
            where
              g : GivesFrom s Q R b.0 row
              g = (b.1, b.2, p.0, b.3)

              early : Dec (b.0 < from) → (at : ℕ) × (at < from) × GivesFrom s Q R at row
              early (yes a) = (b.0, a, g)
              early (no a) = absurd (passed from (length s.rows) b.0 row n (omega (arith, a)) b.1 g)

-- what the blocks give that are gone over is what the rows taken and the plan give
pub gives-table : (step : Step) (s : Blocks) → AreReached step None s → (old new : List (List Value)) → IsAdded (λ row. IsAnswerRow (query_of step) (rows_before step) row × SomeBlockFits s.key.now s.rows (PlanHoldsWith step row)) old new →
    IsAdded (StepGives step) old new
gives-table step s h old new =
    adds-same (λ row. IsAnswerRow (query_of step) (rows_before step) row × SomeBlockFits s.key.now s.rows (PlanHoldsWith step row)) (StepGives step)
    (λ row. let t = (given-reached step s row h).1 in ((λ p. (p.0, t.0 p.1)), (λ p. (p.0, t.1 p.1))))
    old new
