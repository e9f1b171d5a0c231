-- The formula over classes of rows: rows that may stand for each other in the lists.
use Rattle.std.specs.Prelude.{◌≡◌, ℕ, Bool, true, false, List, Contains}
use Rattle.std.specs.List.{AllZip}
use Rattle.cqa_model.specs.declared.query.RowId.{RowId}
use Rattle.cqa_model.specs.Database.{Table}
use Rattle.cqa_model.specs.Repairs.{SharesKey}
use Rattle.row_lists.specs.Lists.{named, IsIn, IsStored, IsOfBlock}

-- two names of rows of one table that agree in the columns of the table
pub record AreAlikeBy (db : List Table) (columns : ℕ → List ℕ) (m n : RowId) : Type 0 where
  pub one_table : m.table ≡ n.table
  pub there : IsStored db n
  pub agree : SharesKey (columns m.table) (named db m) (named db n)

-- where the rows of a list are exchanged for rows that agree with them, all rows of some list are among those
abbrev pub AreClosed : List Table → (ℕ → List ℕ) → List (List RowId) → Type 0
AreClosed db columns lists =
    (names others : List RowId) → Contains lists names → AllZip (AreAlikeBy db columns) names others →
    (found : List RowId) × Contains lists found × ((id : RowId) → Contains found id → Contains others id)

-- names of lists that are of one class are alike
abbrev pub AreClasses : List Table → (ℕ → List ℕ) → List (List RowId) → (RowId → ℕ) → Type 0
AreClasses db columns lists class = (m n : RowId) → IsIn lists m → IsIn lists n → class m ≡ class n → AreAlikeBy db columns m n

-- all rows of the block of a row are in lists
abbrev pub IsCovered : List Table → List (List RowId) → RowId → Type 0
IsCovered db lists id = (n : RowId) → IsStored db n → IsOfBlock db id n → IsIn lists n

-- an assignment of classes makes a class of each covered block true, and a class of each list false
pub record SatisfiesClasses (db : List Table) (lists : List (List RowId)) (class : RowId → ℕ) (t : ℕ → Bool) : Type 0 where
  pub blocks : (id : RowId) → IsIn lists id → IsCovered db lists id → (n : RowId) × IsStored db n × IsOfBlock db id n × (t (class n) ≡ true)
  pub each : (names : List RowId) → Contains lists names → (id : RowId) × Contains names id × (t (class id) ≡ false)
