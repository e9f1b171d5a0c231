use Rattle.std.proofs.Common.{◌∙◌, ap, map, arith}
use Rattle.std.proofs.lemmas.List.{take_all}
use Rattle.row_witnesses.proofs.Columns.{place_in, column_is}
use Rattle.row_witnesses.proofs.column.column.Goals as goal

pub returns : goal.returns
returns c =
    column_is c.args.witnesses.now c.args.atom c.loop-witness.places.items c.put_in_order.new.numbers.items
    (c.loop-witness.invariant ∙ ap (map (place_in c.args.atom)) (take_all c.loop-witness.witness-index c.args.witnesses.now (omega arith)))
    c.put_in_order.ensures.rises c.put_in_order.ensures.same
