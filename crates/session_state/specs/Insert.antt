-- `insert`
use Rattle.std.specs.Prelude.{◌≡◌, ℕ, List, Option, Some}
use Rattle.cqa_value.specs.declared.value.Value.{Value}
use Rattle.refusals.specs.declared.refusal.Refusal.{Refusal}
use Rattle.cqa_model.specs.Database.{Table}
use Rattle.table_blocks.specs.Tables.{table_named}
use Rattle.table_changes.specs.Changes.{insert_fault, Inserts}
use Rattle.reply_text.specs.declared.reply.Reply.{Reply}
use Rattle.reply_text.specs.declared.reply.Reply.TheVariants.{Inserted}
use Rattle.session_state.specs.State.{State, ChangesOnlyTables}
use Rattle.session_state.specs.Replying.{on_table}

abbrev pub insert_into_fault : List Table → List ℕ → List (List Value) → Option Refusal
insert_into_fault db name rows = on_table db name (λ table. insert_fault db table rows)

-- The rows are put into the table, and those that are new are counted.
pub record InsertsInto (old : State) (name : List ℕ) (rows : List (List Value)) (reply : Reply) (new : State) : Type 0 where
  pub table : ℕ
  pub found : table_named old.tables name ≡ Some table
  pub count : ℕ
  pub tables : Inserts old.tables table rows new.tables count
  pub others : ChangesOnlyTables old new
  pub replies : reply ≡ Inserted count
