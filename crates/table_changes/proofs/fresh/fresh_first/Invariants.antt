use Rattle.std.proofs.Common.{◌≡◌, ◌≤◌, ◌<◌, ℕ, List, length, take, not, get_or}
use Rattle.std.specs.List.{AllByRecursion, filter}
use Rattle.std.specs.declared.cmp.Ordering.TheVariants.{Less}
use Rattle.std.proofs.lemmas.List.Filters.{FiltersInPlace}
use Rattle.cqa_value.specs.declared.value.Value.{Value}
use Rattle.cqa_model.specs.Database.{block_cmp}
use Rattle.table_changes.specs.Changes.{is_among}
use Rattle.table_blocks.specs.Tables.{ArePlaces}
use Rattle.table_changes.proofs.fresh.fresh_first.Given as goal

-- the rows so far that aren't stored stand at the front, and the stored ones before the place are below the others
abbrev pub invariant-loop-at : goal.invariant-loop-at
invariant-loop-at l = record {
  count : l.fresh ≤ l.at;
  there : l.from ≤ length l.stored;
  below : (k : ℕ) (d : List Value) → l.at ≤ k → k < length l.initial.rows → AllByRecursion (λ other. block_cmp l.key other (get_or l.initial.rows k d) ≡ Less) (take l.from l.stored);
  fresh : FiltersInPlace (λ row. not (is_among l.stored row)) l.initial.rows l.rows l.fresh l.at;
  long : length l.places ≡ length l.initial.rows;
  placed : ArePlaces (block_cmp l.key) l.stored (filter (λ row. not (is_among l.stored row)) (take l.at l.initial.rows)) (take l.fresh l.places);
}
