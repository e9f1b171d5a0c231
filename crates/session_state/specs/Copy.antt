-- `copy`
use Rattle.std.specs.Prelude.{◌≡◌, ◌⊎◌, ℕ, List, [], Option, Some, None}
use Rattle.cqa_value.specs.declared.value.Value.{Value}
use Rattle.refusals.specs.declared.refusal.Refusal.{Refusal}
use Rattle.refusals.specs.declared.refusal.Refusal.TheVariants.{BadCsv}
use Rattle.cqa_model.specs.Database.{Table}
use Rattle.table_blocks.specs.Tables.{table_named, kinds_at}
use Rattle.table_changes.specs.Changes.{insert_fault, Inserts}
use Rattle.csv_rows.specs.Blocks.{HoldsRows, IsFirstBad}
use Rattle.reply_text.specs.declared.reply.Reply.{Reply}
use Rattle.reply_text.specs.declared.reply.Reply.TheVariants.{Copied, Refused}
use Rattle.session_state.specs.State.{State, ChangesOnlyTables}
use Rattle.session_state.specs.Replying.{on_table}

abbrev pub copy_into_fault : List Table → List ℕ → Option Refusal
copy_into_fault db name = on_table db name (λ table. None)

-- the bytes of the block that follows a statement; where none follows there are none
abbrev pub block_bytes : Option (List ℕ) → List ℕ
block_bytes None = []
block_bytes (Some bytes) = bytes

-- a record of the block is no row of the table
pub record HasBadRecord (db : List Table) (table : ℕ) (block : List ℕ) (refusal : Refusal) : Type 0 where
  pub number : ℕ
  pub first : IsFirstBad (kinds_at db table) block number
  pub is : refusal ≡ BadCsv number

-- the records are rows of the table, and a check of an insert of these rows, by their numbers, fails
pub record HasBadRows (db : List Table) (table : ℕ) (block : List ℕ) (refusal : Refusal) : Type 0 where
  pub rows : List (List Value)
  pub held : HoldsRows (kinds_at db table) block rows
  pub first : insert_fault db table rows ≡ Some refusal

-- the records are rows of the table, and these are put into it as by an insert
pub record PutsBlock (old : State) (table : ℕ) (block : List ℕ) (count : ℕ) (new : State) : Type 0 where
  pub rows : List (List Value)
  pub held : HoldsRows (kinds_at old.tables table) block rows
  pub valid : insert_fault old.tables table rows ≡ None
  pub tables : Inserts old.tables table rows new.tables count
  pub others : ChangesOnlyTables old new

-- what is told of a block: how many of its rows are new, or the first check of it that fails
abbrev pub TellsCopied : State → ℕ → List ℕ → Reply → State → Type 0
TellsCopied old table block (Copied count) new = PutsBlock old table block count new
TellsCopied old table block (Refused refusal) new = (HasBadRecord old.tables table block refusal ⊎ HasBadRows old.tables table block refusal) × (new ≡ old)
TellsCopied old table block _ new = ⊥

-- The rows of the block are put into the table, and those that are new are counted; or the block is refused, and nothing has changed.
pub record CopiesInto (old : State) (name : List ℕ) (block : Option (List ℕ)) (reply : Reply) (new : State) : Type 0 where
  pub table : ℕ
  pub found : table_named old.tables name ≡ Some table
  pub told : TellsCopied old table (block_bytes block) reply new
