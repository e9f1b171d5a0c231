-- The laws of preferred rows.
use Rattle.std.specs.Prelude.{◌<◌, ℕ, List, length}
use Rattle.std.specs.List.Sorted.{IsStrictlySortedBy}
use Rattle.cqa_value.specs.declared.value.Value.{Value}
use Rattle.cqa_model.specs.declared.query.Query.{Query}
use Rattle.cqa_model.specs.Database.{Table, IsDatabase, block_cmp}
use Rattle.cqa_model.specs.Repairs.{IsTableRepair, IsRepair}
use Rattle.cqa_model.specs.Certain.{IsCertain, IsPossible}
use Rattle.table_blocks.specs.declared.test.ColumnTest.{ColumnTest}
use Rattle.table_changes.specs.Preferred.{IsPreferred, Prefers}

-- A repair of the rows of a table that tests prefer is a repair of all its rows: no block loses all of them.
abbrev pub PreferredRepairs : Type 0
PreferredRepairs =
    (key : List ℕ) (rows : List (List Value)) (tests : List ColumnTest) (preferred kept : List (List Value)) →
    IsStrictlySortedBy (block_cmp key) rows → IsPreferred key rows tests preferred → IsTableRepair key preferred kept → IsTableRepair key rows kept

-- Where a table keeps the rows that tests prefer, each repair is one of the database before. So each row of a query that was
-- certain is certain, and each one that is possible was possible.
pub record PreferringKeeps : Type 0 where
  pub repairs : (old : List Table) (table : ℕ) (tests : List ColumnTest) (new : List Table) (count : ℕ) (kept : List (List (List Value))) →
      IsDatabase old → table < length old → Prefers old table tests new count → IsRepair new kept → IsRepair old kept
  pub certain : (old : List Table) (table : ℕ) (tests : List ColumnTest) (new : List Table) (count : ℕ) (q : Query) (row : List Value) →
      IsDatabase old → table < length old → Prefers old table tests new count → IsCertain old q row → IsCertain new q row
  pub possible : (old : List Table) (table : ℕ) (tests : List ColumnTest) (new : List Table) (count : ℕ) (q : Query) (row : List Value) →
      IsDatabase old → table < length old → Prefers old table tests new count → IsPossible new q row → IsPossible old q row
