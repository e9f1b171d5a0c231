-- What it gives to put fresh rows at their places.
use Rattle.std.proofs.Common.{ℕ, List, length}
use Rattle.cqa_value.specs.declared.value.Value.{Value}
use Rattle.row_pieces.specs.Inserted.{with_items, AreRising}
use Rattle.row_order.proofs.BlockOrder.{block_total, block_exact, block_alike}
use Rattle.cqa_model.specs.Database.{block_cmp}
use Rattle.table_blocks.specs.Tables.{IsMerged, AreMergeable}
use Rattle.table_blocks.proofs.Placing.{places-long}
use Rattle.table_blocks.proofs.Merging.{merged_sorted, places_rising, with_items-members}

-- fresh rows that are put among the stored ones at their places are merged with them
pub merged_in : (key : List ℕ) (stored fresh : List (List Value)) (places : List ℕ) → AreMergeable key stored fresh places → IsMerged key stored fresh (with_items stored fresh places)
merged_in key stored fresh places m = record {
  in_order = merged_sorted (block_cmp key) (block_total key) (block_exact key) (block_alike key) stored fresh places m.ascending m.rising m.apart m.placed;
  members = with_items-members stored fresh places (places-long (block_cmp key) stored fresh places m.placed);
}

pub rising_in : (key : List ℕ) (stored fresh : List (List Value)) (places : List ℕ) → AreMergeable key stored fresh places → AreRising 0 (length stored) places
rising_in key stored fresh places m = places_rising (block_cmp key) (block_total key) (block_exact key) (block_alike key) stored fresh places m.rising m.placed
