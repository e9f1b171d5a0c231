use Rattle.std.proofs.Common.{◌≡◌, ◌<◌, ℕ, [], length, get_or}
use Rattle.join_access.specs.Listing.{names_of}
use Rattle.rows_against.specs.Numbers.{AreHitsAt, TableBeginsAt}
use Rattle.rows_against.proofs.hits.all_hits.Given as goal

-- those of the atoms so far
abbrev pub invariant-loop-at : goal.invariant-loop-at
invariant-loop-at l = record {
  size : length l.hits.items ≡ l.at;
  each : (F : ℕ) → F < l.at → (length (get_or l.hits.items F []) ≡ length l.witnesses.list) × AreHitsAt l.witnesses.bound.now.db.now l.witnesses.bound.now.query.now (names_of l.witnesses.list) l.names F (get_or l.hits.items F []);
  begins : TableBeginsAt l.witnesses.bound.now.query.now l.names l.at l.from;
}
