-- The rows that a repair keeps, as lines of a reply.
use Rattle.std.specs.Prelude.{List, [], slice_index_or}
use Rattle.cqa_model.specs.declared.query.RowId.{RowId}
use Rattle.cqa_model.specs.Database.{Table, stored}
use Rattle.reply_text.specs.declared.reply.KeptRow.{KeptRow}
use Rattle.query_replies.specs.Names.{table_name_at}

-- the line of a row that a repair keeps
abbrev pub kept_line : List Table → RowId → KeptRow
kept_line db name = record { table = table_name_at db name.table; row = slice_index_or (slice_index_or (stored db) name.table []) name.place [] }
