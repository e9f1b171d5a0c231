-- The rows that a repair without a witness had to choose, as rows that hit each witness.
use Rattle.std.specs.Prelude.{◌≡◌, IsTrue, ℕ, ◌<◌, List, length, Contains}
use Rattle.cqa_model.specs.declared.query.Query.{Query}
use Rattle.cqa_model.specs.declared.query.RowId.{RowId}
use Rattle.cqa_model.specs.Database.{Table}
use Rattle.cqa_model.specs.Query.{atom_at}
use Rattle.repair_back.specs.Results.{is_contested_in}
use Rattle.table_blocks.specs.Tables.{AreStored}
use Rattle.rows_against.specs.Against.{AreInOrder, AreOfDifferentBlocks}
use Rattle.rows_against.specs.Hits.{AreHit}

-- stored rows of the query's tables and of blocks of two or more rows, in order and no two of one block, that hit each of
-- these witnesses
pub record AreChosenAgainst (db : List Table) (q : Query) (all : List (List RowId)) (names : List RowId) : Type 0 where
  pub stored : AreStored db names
  pub contested : (name : RowId) → Contains names name → IsTrue (is_contested_in db name)
  pub of_atoms : (name : RowId) → Contains names name → (F : ℕ) × (F < length q.atoms) × ((atom_at q F).table ≡ name.table)
  pub apart : AreOfDifferentBlocks db names
  pub in_order : AreInOrder q names
  pub hit : AreHit db all names
