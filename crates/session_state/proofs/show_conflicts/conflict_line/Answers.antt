use Rattle.std.proofs.Common.{ap, length, ◌∙◌}
use Rattle.session_state.proofs.TableLines.{conflicts_at}
use Rattle.session_state.proofs.show_conflicts.conflict_line.Goals as goal

pub returns : goal.returns
returns c =
    let counts = c.block_counts-counts.result in
    conflicts_at c.args.database.now c.args.table (record { name = c.in_ok-name.name; rows = c.len-rows.result; blocks = counts.blocks; conflicts = counts.conflicts }) c.schema.result.now c.requires
    c.schema.ensures.is c.in_ok-name.ensures (c.len-rows.ensures ∙ ap length c.rows.ensures.is) c.block_counts-counts.ensures.blocks c.block_counts-counts.ensures.conflicts
