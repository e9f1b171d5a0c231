-- Rows in block order, each once.
use Rattle.std.specs.Prelude.{ℕ, List, [], ◌∷◌}
use Rattle.std.specs.declared.cmp.Ordering.{Ordering}
use Rattle.std.specs.declared.cmp.Ordering.TheVariants.{Less, Equal, Greater}
use Rattle.cqa_value.specs.declared.value.Value.{Value}
use Rattle.cqa_value.specs.Values.{block_cmp}

-- the one of three that an ordering says
abbrev pub by_ordering : {A : Type 0} → Ordering → A → A → A → A
by_ordering Less less equal greater = less
by_ordering Equal less equal greater = equal
by_ordering Greater less equal greater = greater

-- a row goes to its place among rows in block order, where it isn't there yet
abbrev pub with_row : List ℕ → List Value → List (List Value) → List (List Value)
with_row key row [] = row ∷ []
with_row key row (other ∷ rows) = by_ordering (block_cmp key row other) (row ∷ (other ∷ rows)) (other ∷ rows) (other ∷ with_row key row rows)

-- rows in block order, each once
abbrev pub block_order : List ℕ → List (List Value) → List (List Value)
block_order key [] = []
block_order key (row ∷ rows) = with_row key row (block_order key rows)
