use Rattle.std.proofs.Common.{suc, map, ap, sym, ◌∙◌}
use Rattle.std.specs.List.{remove}
use Rattle.row_pieces.specs.Marks.{row_mark}
use Rattle.row_pieces.proofs.Marking.{map-part}
use Rattle.row_pieces.proofs.marked.MarkedRows.remove.Goals as goal

pub invariant_of-self : goal.invariant_of-self
invariant_of-self c =
    c.remove.ensures.items
    ∙ ap (λ zs. remove zs c.args.at) c.self.invariant
    ∙ map-part row_mark c.self.inside.rows.items c.args.at (suc c.args.at)
    ∙ ap (map row_mark) (sym c.remove-2.ensures.items)
