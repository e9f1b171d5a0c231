use Rattle.std.proofs.Common.{map, take, drop, ap, sym, ◌∙◌}
use Rattle.std.specs.List.{take-map}
use Rattle.std.proofs.lemmas.List.{drop-map}
use Rattle.row_pieces.specs.Marks.{row_mark}
use Rattle.row_pieces.proofs.marked.MarkedRows.split_off.Goals as goal

pub invariant_of-result : goal.invariant_of-result
invariant_of-result c =
    c.in_ok-marks.ensures
    ∙ c.split_at.ensures.back
    ∙ ap (drop c.args.at) (c.as_slice.ensures.value ∙ c.self.invariant)
    ∙ drop-map row_mark c.args.at c.self.inside.rows.items
    ∙ ap (map row_mark) (sym c.in_ok-rows.ensures.tail)

pub invariant_of-self-2 : goal.invariant_of-self-2
invariant_of-self-2 c =
    c.shrink_to_fit-2.ensures.items
    ∙ c.truncate.ensures.items
    ∙ ap (take c.args.at) c.self.invariant
    ∙ take-map row_mark c.args.at c.self.inside.rows.items
    ∙ ap (map row_mark) (sym (c.shrink_to_fit.ensures.items ∙ c.in_ok-rows.ensures.items))
