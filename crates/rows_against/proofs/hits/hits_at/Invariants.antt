use Rattle.std.proofs.Common.{◌≡◌, ◌<◌, ℕ, [], None, length, get_or}
use Rattle.join_access.specs.Listing.{names_of}
use Rattle.row_witnesses.specs.Columns.{place_at}
use Rattle.rows_against.specs.Hits.{IsHitBy}
use Rattle.rows_against.specs.Numbers.{row_name}
use Rattle.rows_against.proofs.hits.hits_at.Given as goal

-- those of the witnesses so far
abbrev pub invariant-loop-witness : goal.invariant-loop-witness
invariant-loop-witness l = record {
  size : length l.hits.items ≡ l.witness-index;
  hits : (i : ℕ) → i < l.witness-index →
      IsHitBy l.witnesses.bound.now.db.now l.names (row_name l.witnesses.bound.now.query.now l.at (place_at (get_or (names_of l.witnesses.list) i []) l.at)) (get_or l.hits.items i None);
}
