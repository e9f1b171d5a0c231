-- `show tables`
use Rattle.std.specs.Prelude.{◌≡◌, List, length}
use Rattle.std.specs.List.{AllZip}
use Rattle.cqa_model.specs.Database.{Table}
use Rattle.cqa_model.specs.Blocks.{HasBlocks}
use Rattle.reply_text.specs.declared.reply.TableLine.{TableLine}
use Rattle.reply_text.specs.declared.reply.Reply.{Reply}
use Rattle.reply_text.specs.declared.reply.Reply.TheVariants.{Tables}
use Rattle.session_state.specs.State.{State}

-- the line of a table: its schema with its numbers of rows and blocks
pub record IsTableLine (table : Table) (line : TableLine) : Type 0 where
  pub schema : line.schema ≡ table.schema
  pub rows : line.rows ≡ length table.rows
  pub blocks : HasBlocks table.schema.key table.rows line.blocks

-- The reply has a line for each table, in order.
pub record ShowsTables (state : State) (reply : Reply) (new : State) : Type 0 where
  pub lines : List TableLine
  pub each : AllZip IsTableLine state.tables lines
  pub replies : reply ≡ Tables lines
  pub keeps : new ≡ state
