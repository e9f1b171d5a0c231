-- Lists of rows as stretches of one pool.
use Rattle.std.specs.Prelude.{◌≤◌, List, length, map, Contains}
use Rattle.std.specs.List.{slice_range}
use Rattle.block_choices.specs.declared.row.BlockRow.{BlockRow}
use Rattle.block_choices.specs.declared.pool.Stretch.{Stretch}

-- the rows of each stretch
abbrev pub lists_of : List BlockRow → List Stretch → List (List BlockRow)
lists_of pool stretches = map (λ s. slice_range pool s.start s.end) stretches

-- the stretches are within the pool
abbrev pub AreWithin : List BlockRow → List Stretch → Type 0
AreWithin pool stretches = (s : Stretch) → Contains stretches s → (s.start ≤ s.end) × (s.end ≤ length pool)
