use Rattle.std.proofs.Common.{slice_index}
use Rattle.std.proofs.lemmas.List.Elements.{Contains-get_or}
use Rattle.pair_refutation.proofs.edges.edges_of.Goals as goal

pub bounds-of_var-x : goal.bounds-of_var-x
bounds-of_var-x c = c.requires (slice_index c.args.var.now c.loop-x.x-index) (Contains-get_or c.args.var.now c.loop-x.x-index 0 c.loop-x-test.true)
