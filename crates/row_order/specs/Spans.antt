-- The rows of a table that have some first key values.
use Rattle.std.specs.Prelude.{◌≡◌, ℕ, Bool, true, false, List, ◌++◌, length, take, All}
use Rattle.std.specs.declared.cmp.Ordering.{Ordering}
use Rattle.std.specs.declared.cmp.Ordering.TheVariants.{Less, Equal, Greater}
use Rattle.cqa_value.specs.declared.value.Value.{Value}
use Rattle.cqa_value.specs.Values.{row_cmp, key_of}

-- the values of a row in the first key columns, as many as a probe has
abbrev pub first_key : List ℕ → List Value → List Value → List Value
first_key key probe row = key_of (take (length probe) key) row

-- how they compare with the probe
abbrev pub probe_cmp : List ℕ → List Value → List Value → Ordering
probe_cmp key probe row = row_cmp (first_key key probe row) probe

-- a row that compares so comes before those that are looked for, or before those behind them
abbrev pub comes_before : Bool → Ordering → Bool
comes_before with_ties Less = true
comes_before with_ties Equal = with_ties
comes_before with_ties Greater = false

-- the span begins at a place among the rows, and holds those whose first key values are the probe's
pub record IsSpan (key : List ℕ) (rows : List (List Value)) (probe : List Value) (start : ℕ) (span : List (List Value)) : Type 0 where
  pub before : List (List Value)
  pub behind : List (List Value)
  pub place : length before ≡ start
  pub parts : rows ≡ before ++ (span ++ behind)
  pub these : All (λ row. first_key key probe row ≡ probe) span
  pub none_before : All (λ row. first_key key probe row ≡ probe → ⊥) before
  pub none_behind : All (λ row. first_key key probe row ≡ probe → ⊥) behind
