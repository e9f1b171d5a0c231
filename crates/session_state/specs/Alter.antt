-- `alter`
use Rattle.std.specs.Prelude.{◌≡◌, ℕ, List, Option, Some, None, true, false}
use Rattle.refusals.specs.declared.refusal.Refusal.{Refusal}
use Rattle.cqa_model.specs.Database.{Table}
use Rattle.refusals.specs.Refusal.{first_of}
use Rattle.spj_syntax.specs.declared.tree.Change.{Change}
use Rattle.spj_syntax.specs.declared.tree.Change.TheVariants.{SetStrict, DropStrict, SetKey}
use Rattle.table_blocks.specs.Tables.{table_named, with_mark, Rekeys}
use Rattle.table_changes.specs.Changes.{strict_fault, rekey_fault}
use Rattle.query_resolve.specs.Names.{columns_at, column_places}
use Rattle.query_resolve.specs.Checks.{new_key_fault}
use Rattle.query_resolve.specs.Resolved.{IsKeyOf}
use Rattle.reply_text.specs.declared.reply.Reply.{Reply}
use Rattle.reply_text.specs.declared.reply.Reply.TheVariants.{Altered}
use Rattle.session_state.specs.State.{State, ChangesOnlyTables}
use Rattle.session_state.specs.Replying.{on_table}

-- the first check that fails where the table at a place is changed: rows share a key of a table that would be strict, or a
-- name of the key is no column or stood before
abbrev pub change_fault : List Table → Change → ℕ → Option Refusal
change_fault db SetStrict table = strict_fault db table
change_fault db DropStrict table = None
change_fault db (SetKey names) table = first_of (new_key_fault db table names) (rekey_fault db table (column_places (columns_at db table) names))

abbrev pub alter_fault : List Table → List ℕ → Change → Option Refusal
alter_fault db name change = on_table db name (change_fault db change)

-- what becomes of the tables: the table at the place has the mark or the key, and its rows stand in the block order of its key
abbrev pub Changes : List Table → ℕ → Change → List Table → Type 0
Changes old table SetStrict new = new ≡ with_mark old table true
Changes old table DropStrict new = new ≡ with_mark old table false
Changes old table (SetKey names) new = (key : List ℕ) × IsKeyOf old table names key × Rekeys old table key new

-- The table of the name is changed.
pub record Alters (old : State) (name : List ℕ) (change : Change) (reply : Reply) (new : State) : Type 0 where
  pub table : ℕ
  pub found : table_named old.tables name ≡ Some table
  pub tables : Changes old.tables table change new.tables
  pub others : ChangesOnlyTables old new
  pub replies : reply ≡ Altered name
