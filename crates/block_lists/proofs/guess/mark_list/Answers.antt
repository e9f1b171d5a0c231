use Rattle.std.proofs.Common.{get_or, arith}
use Rattle.std.proofs.lemmas.List.Elements.{Contains-get_or}
use Rattle.block_lists.proofs.Bases.{no_row}
use Rattle.block_lists.proofs.guess.mark_list.Goals as goal

pub bounds-bases-name : goal.bounds-bases-name
bounds-bases-name c =
    let names = c.args.names.now in
    let i = c.loop-name.name-index in
    (c.requires (get_or names i no_row) (Contains-get_or names i no_row (omega (arith, c.loop-name-test.true)))).0
