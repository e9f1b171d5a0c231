use Rattle.std.proofs.Common.{ℕ, List, length}
use Rattle.pair_refutation.specs.Edges.{AreLeast, AreLeft}
use Rattle.pair_refutation.proofs.edges.var_edges.Given as goal

abbrev pub invariant-least : goal.invariant-least
invariant-least l = AreLeast l.pairs l.vars l.pair-index l.edge.items

abbrev pub invariant-left : goal.invariant-left
invariant-left l = (least : List ℕ) × AreLeast l.pairs l.vars (length l.pairs) least × AreLeft l.pairs l.vars l.pair-index least l.edge.items
