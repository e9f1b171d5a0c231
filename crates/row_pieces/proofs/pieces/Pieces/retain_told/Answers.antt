use Rattle.std.proofs.Common.{arith, ap, length, ◌∙◌}
use Rattle.row_pieces.proofs.pieces.Pieces.retain_told.Goals as goal

pub overflow_add-to : goal.overflow_add-to
overflow_add-to c =
    let within = c.requires.within in
    let count = c.len-count.ensures ∙ ap length c.rows.ensures in
    let fits = c.len-count.type_inv in
    omega (arith, within, count, fits)
