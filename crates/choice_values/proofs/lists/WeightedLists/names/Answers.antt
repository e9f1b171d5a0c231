use Rattle.std.proofs.Common.{◌≡◌, ◌<◌, List, length, ap, ◌∙◌, arith}
use Rattle.choice_values.specs.Values.{Weighted}
use Rattle.choice_values.specs.Pairs.{list_at}
use Rattle.choice_values.proofs.Pairs.{weighted-length, names-at}
use Rattle.choice_values.proofs.lists.WeightedLists.names.Goals as goal

pub list-requires : goal.list-requires
list-requires c =
    let v = ap (λ (q : List Weighted). length q) c.self.view_is in
    let e = weighted-length c.self.inside.weights.items c.self.inside.lists c.self.invariant in
    let i = c.self.invariant in
    let r = c.requires in
    omega (arith, v, e, i, r)

pub returns : goal.returns
returns c =
    names-at c.self.inside.weights.items c.self.inside.lists c.args.at c.list.result.now c.self.invariant c.list.ensures ∙ ap (λ (q : List Weighted). (list_at q c.args.at).names) c.self.view_is
