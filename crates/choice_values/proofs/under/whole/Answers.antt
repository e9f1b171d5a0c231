use Rattle.std.proofs.Common.{rules, ◌≡◌, ◌+◌, ◌<◌, [], ℕ, List, length, take, ap, sym, ◌∙◌, arith}
use Rattle.std.specs.Prelude.{ℤ, ◌+ℤ◌}
use mir.Val.{SFits, to_z, of_z}
use mir.Syntax.{w128}
use Rattle.std.proofs.lemmas.Int.{to_z-of_z}
use Rattle.std.proofs.lemmas.Bool.{eqb-true}
use Rattle.std.proofs.lemmas.List.{take_more, nil_from_length}
use Rattle.choice_values.specs.Values.{Weighted}
use Rattle.choice_values.specs.Choosing.{worths}
use Rattle.choice_values.specs.Pairs.{list_at, nothing}
use Rattle.choice_values.proofs.Worths.{worths-whole}
use Rattle.choice_values.proofs.under.whole.Goals as goal

pub loop-at-preserved : goal.loop-at-preserved
loop-at-preserved c f =
    let lists = c.args.lists.now in
    let at = c.loop-at.at in
    let k = list_at lists at in
    let l : at < length lists = search rules in
    let fits : SFits w128 c.in_ok-sum.sum = search rules in
    let small : SFits w128 c.weight.result = search rules in
    let none = eqb-true (length c.names.result.now) 0 (sym c.is_empty.ensures ∙ c.if-not-is_empty.false) in
    let empty : k.names ≡ [] = sym c.names.ensures ∙ nil_from_length c.names.result.now (omega (arith, none)) in
    ap (λ (ls : List Weighted). worths f ls) (take_more lists at nothing l)
    ∙ worths-whole f (take at lists) k (to_z w128 c.loop-at.sum-bits) (to_z w128 (of_z w128 c.in_ok-sum.sum)) (c.loop-at.invariant f) empty
    (to_z-of_z w128 c.in_ok-sum.sum fits ∙ (c.in_ok-sum.ensures ∙ ap (λ (x : ℤ). to_z w128 c.loop-at.sum-bits +ℤ x) (to_z-of_z w128 c.weight.result small ∙ c.weight.ensures)))
