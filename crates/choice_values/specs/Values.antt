-- Lists of rows with weights: the value of a choice, and the least and the greatest value that one has.
use Rattle.std.specs.Prelude.{◌≡◌, ℕ, ◌<◌, Bool, true, ◌&&◌, if◌then◌else◌, nat_eq, nat_lt, List, [], ◌∷◌, Contains, length, map, slice_index, ℤ, pos, ◌+ℤ◌, ◌≤ℤ◌}
use Rattle.block_choices.specs.declared.row.BlockRow.{BlockRow}
use Rattle.block_choices.specs.Choices.{AreThere, IsChoice}
use Rattle.choice_values.specs.declared.best.Best.{Best}

-- rows, and what they add to the value of a choice that holds them whole
pub record Weighted : Type 0 where
  pub weight : ℤ
  pub names : List BlockRow

-- blocks of one row or more, and lists of rows that are there
pub record AreLists (sizes : List ℕ) (lists : List Weighted) : Type 0 where
  pub some : (s : ℕ) → Contains sizes s → 0 < s
  pub there : AreThere sizes (map (λ l. l.names) lists)

-- whether the row is the chosen one of its block
abbrev pub chooses : List ℕ → BlockRow → Bool
chooses c x = nat_lt x.block (length c) && nat_eq (slice_index c x.block) x.row

-- whether all rows of the list are chosen
abbrev pub holds : List ℕ → List BlockRow → Bool
holds c [] = true
holds c (x ∷ names) = chooses c x && holds c names

-- the weights of the lists that the choice holds whole, added up
abbrev pub value : List ℕ → List Weighted → ℤ
value c [] = pos 0
value c (l ∷ lists) = (if holds c l.names then l.weight else pos 0) +ℤ value c lists

-- a choice with its value, and no choice has less
pub record IsLeast (sizes : List ℕ) (lists : List Weighted) (best : Best) : Type 0 where
  pub choice : IsChoice sizes best.rows.items
  pub has : best.value ≡ value best.rows.items lists
  pub least : (c : List ℕ) → IsChoice sizes c → best.value ≤ℤ value c lists

-- a choice with its value, and no choice has more
pub record IsGreatest (sizes : List ℕ) (lists : List Weighted) (best : Best) : Type 0 where
  pub choice : IsChoice sizes best.rows.items
  pub has : best.value ≡ value best.rows.items lists
  pub greatest : (c : List ℕ) → IsChoice sizes c → value c lists ≤ℤ best.value
