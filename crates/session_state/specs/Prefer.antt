-- `prefer`
use Rattle.std.specs.Prelude.{◌≡◌, ℕ, List, Option, Some}
use Rattle.refusals.specs.declared.refusal.Refusal.{Refusal}
use Rattle.cqa_model.specs.Database.{Table}
use Rattle.spj_syntax.specs.declared.tree.RawTest.{RawTest}
use Rattle.table_blocks.specs.declared.test.ColumnTest.{ColumnTest}
use Rattle.table_blocks.specs.Tables.{table_named}
use Rattle.table_changes.specs.Preferred.{Prefers}
use Rattle.query_resolve.specs.Checks.{tests_fault}
use Rattle.query_resolve.specs.Resolved.{AreTestsOf}
use Rattle.reply_text.specs.declared.reply.Reply.{Reply}
use Rattle.reply_text.specs.declared.reply.Reply.TheVariants.{Deleted}
use Rattle.session_state.specs.State.{State, ChangesOnlyTables}
use Rattle.session_state.specs.Replying.{on_table}

abbrev pub prefer_fault : List Table → List ℕ → List RawTest → Option Refusal
prefer_fault db name tests = on_table db name (λ table. tests_fault db table tests)

-- Of each block in which a row passes all tests, the rows that don't are taken from the table, and counted.
pub record PrefersIn (old : State) (name : List ℕ) (raw : List RawTest) (reply : Reply) (new : State) : Type 0 where
  pub table : ℕ
  pub found : table_named old.tables name ≡ Some table
  pub tests : List ColumnTest
  pub resolved : AreTestsOf old.tables table raw tests
  pub count : ℕ
  pub tables : Prefers old.tables table tests new.tables count
  pub others : ChangesOnlyTables old new
  pub replies : reply ≡ Deleted count
