use Rattle.std.proofs.Common.{rules, ◌≡◌, List, length, ap, sym, ◌∙◌}
use Rattle.choice_values.specs.Values.{Weighted}
use Rattle.choice_values.proofs.Pairs.{weighted-length}
use Rattle.choice_values.proofs.lists.WeightedLists.len.Goals as goal

pub returns : goal.returns
returns c =
    let n : c.len.result ≡ length c.self.inside.weights.items = search rules in
    n ∙ (sym (weighted-length c.self.inside.weights.items c.self.inside.lists c.self.invariant) ∙ ap (λ (q : List Weighted). length q) c.self.view_is)
