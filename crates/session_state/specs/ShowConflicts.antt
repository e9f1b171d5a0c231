-- `show conflicts`
use Rattle.std.specs.Prelude.{◌≡◌, List, length}
use Rattle.std.specs.List.{AllZip}
use Rattle.cqa_model.specs.Database.{Table}
use Rattle.cqa_model.specs.Blocks.{HasBlocks}
use Rattle.row_blocks.specs.Conflicts.{HasConflicts}
use Rattle.reply_text.specs.declared.reply.ConflictLine.{ConflictLine}
use Rattle.reply_text.specs.declared.reply.Reply.{Reply}
use Rattle.reply_text.specs.declared.reply.Reply.TheVariants.{Contested}
use Rattle.session_state.specs.State.{State}

-- the line of a table: its name with its numbers of rows, of blocks, and of blocks of two rows or more
pub record IsConflictLine (table : Table) (line : ConflictLine) : Type 0 where
  pub name : line.name ≡ table.schema.name
  pub rows : line.rows ≡ length table.rows
  pub blocks : HasBlocks table.schema.key table.rows line.blocks
  pub conflicts : HasConflicts table.schema.key table.rows line.conflicts

-- The reply has a line for each table, in order.
pub record ShowsConflicts (state : State) (reply : Reply) (new : State) : Type 0 where
  pub lines : List ConflictLine
  pub each : AllZip IsConflictLine state.tables lines
  pub replies : reply ≡ Contested lines
  pub keeps : new ≡ state
