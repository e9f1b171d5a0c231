use Rattle.std.proofs.Common.{◌∙◌, ap, List, map}
use Rattle.choice_values.specs.Values.{Weighted}
use Rattle.choice_values.proofs.Pairs.{names-all}
use Rattle.choice_values.proofs.lists.WeightedLists.lists.Goals as goal

pub returns : goal.returns
returns c = names-all c.self.inside.weights.items c.self.inside.lists c.self.invariant ∙ ap (map (λ (l : Weighted). l.names)) c.self.view_is
