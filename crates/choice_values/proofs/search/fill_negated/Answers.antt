use Rattle.std.proofs.Common.{rules, ◌≡◌, ◌+◌, ◌<◌, ◌++◌, ◌∷◌, [], List, length, take, ap, sym, ◌∙◌}
use Rattle.std.specs.Prelude.{neg_ℤ}
use mir.Val.{SFits, to_z, of_z}
use mir.Syntax.{w128}
use Rattle.std.proofs.lemmas.Int.{to_z-of_z}
use Rattle.std.proofs.lemmas.List.{take_more}
use Rattle.choice_values.specs.Values.{Weighted}
use Rattle.choice_values.specs.Pairs.{list_at, nothing}
use Rattle.choice_values.specs.Negation.{negated}
use Rattle.choice_values.proofs.Pairs.{same-list}
use Rattle.choice_values.proofs.Choices.{negated-push}
use Rattle.choice_values.proofs.search.fill_negated.Goals as goal

pub loop-at-preserved : goal.loop-at-preserved
loop-at-preserved c =
    let lists = c.args.lists.now in
    let at = c.loop-at.at in
    let k = list_at lists at in
    let n = c.in_ok-negative.field-0 in
    let l : at < length lists = search rules in
    let fits : SFits w128 n = search rules in
    let small : SFits w128 c.weight.result = search rules in
    let turned : Weighted = record { weight = neg_ℤ k.weight; names = k.names } in
    c.in_ok-add.ensures.ok
    ∙ (ap (λ (q : List Weighted). q ++ record { weight = to_z w128 (of_z w128 n); names = c.names.result.now } ∷ []) c.loop-at.invariant
    ∙ (ap (λ (q : Weighted). negated (take at lists) ++ q ∷ [])
    (same-list turned (to_z w128 (of_z w128 n)) c.names.result.now (to_z-of_z w128 n fits ∙ (c.in_ok-negative.ensures ∙ ap neg_ℤ (to_z-of_z w128 c.weight.result small ∙ c.weight.ensures))) c.names.ensures)
    ∙ (sym (negated-push (take at lists) k) ∙ ap negated (sym (take_more lists at nothing l)))))
