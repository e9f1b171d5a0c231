use Rattle.std.proofs.Common.{rules, ◌≡◌, ◌<◌, List, length, ap, sym, ◌∙◌, arith}
use Rattle.std.specs.Vec.{vec_len}
use mir.Val.{SFits, to_z, of_z}
use mir.Syntax.{w128}
use Rattle.std.proofs.lemmas.Int.{to_z-of_z}
use Rattle.choice_values.specs.Values.{Weighted}
use Rattle.choice_values.specs.Pairs.{list_at}
use Rattle.choice_values.proofs.Pairs.{weighted-length, weight-at}
use Rattle.choice_values.proofs.lists.WeightedLists.weight.Goals as goal

pub index-requires : goal.index-requires
index-requires c =
    let v = ap (λ (q : List Weighted). length q) c.self.view_is in
    let e = weighted-length c.self.inside.weights.items c.self.inside.lists c.self.invariant in
    let n : vec_len c.self.inside.weights ≡ length c.self.inside.weights.items = search rules in
    let r = c.requires in
    omega (arith, v, e, n, r)

pub returns : goal.returns
returns c =
    let ws = c.self.inside.weights.items in
    let v = ap (λ (q : List Weighted). length q) c.self.view_is in
    let e = weighted-length ws c.self.inside.lists c.self.invariant in
    let r = c.requires in
    let l : c.args.at < length ws = omega (arith, v, e, r) in
    let fits : SFits w128 c.index.result.now = search rules in
    to_z-of_z w128 c.index.result.now fits
    ∙ (c.index.ensures ∙ (sym (weight-at ws c.self.inside.lists c.args.at c.index.result.now c.self.invariant l) ∙ ap (λ (q : List Weighted). (list_at q c.args.at).weight) c.self.view_is))
