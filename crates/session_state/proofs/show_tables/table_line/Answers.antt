use Rattle.std.proofs.Common.{ap, length, ◌∙◌}
use Rattle.session_state.proofs.TableLines.{line_at}
use Rattle.session_state.proofs.show_tables.table_line.Goals as goal

pub returns : goal.returns
returns c =
    line_at c.args.database.now c.args.table (record { schema = c.in_ok-schema.schema; rows = c.len-rows.result; blocks = c.block_count-blocks.result }) c.schema.result.now c.requires
    c.schema.ensures.is c.in_ok-schema.ensures (c.len-rows.ensures ∙ ap length c.rows.ensures.is) c.block_count-blocks.ensures
