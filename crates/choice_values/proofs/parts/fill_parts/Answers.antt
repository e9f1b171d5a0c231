use Rattle.std.proofs.Common.{rules, ◌≡◌, ◌+◌, ◌<◌, ◌≤◌, List, length, take, sym, ◌∙◌, subst}
use mir.Val.{SFits, to_z, of_z}
use mir.Syntax.{w128}
use Rattle.std.proofs.lemmas.Int.{to_z-of_z}
use Rattle.std.proofs.lemmas.List.{take_more, take_all}
use Rattle.choice_values.specs.Values.{Weighted}
use Rattle.choice_values.specs.Pairs.{list_at, nothing}
use Rattle.choice_values.specs.Parts.{number_at, IsSortedIn}
use Rattle.choice_values.proofs.Pairs.{same-list}
use Rattle.choice_values.proofs.Apart.{ArePartsBy, parts-none, parts-more, parts-whole}
use Rattle.choice_values.proofs.parts.fill_parts.Goals as goal

pub loop-at-init : goal.loop-at-init
loop-at-init c = parts-none (number_at c.args.numbers.now) c.args.parts.now.items c.requires

pub loop-at-preserved : goal.loop-at-preserved
loop-at-preserved c =
    let number = number_at c.args.numbers.now in
    let lists = c.args.lists.now in
    let at = c.loop-at.at in
    let old = c.loop-at.parts.items in
    let new = c.sort_in.new.parts.items in
    let l : at < length lists = search rules in
    let fits : SFits w128 c.weight.result = search rules in
    subst (λ (ls : List Weighted). ArePartsBy number ls new) (sym (take_more lists at nothing l))
    (parts-more number (take at lists) (list_at lists at) old new c.loop-at.invariant
    (subst (λ (k : Weighted). IsSortedIn number k old new) (same-list (list_at lists at) (to_z w128 (of_z w128 c.weight.result)) c.names.result.now (to_z-of_z w128 c.weight.result fits ∙ c.weight.ensures) c.names.ensures) (c.in_ok-sort_in.ensures c.if-not-branch.false)))

pub returns : goal.returns
returns c =
    let lists = c.args.lists.now in
    let le : length lists ≤ c.loop-at.at = search rules in
    λ t. parts-whole (number_at c.args.numbers.now) (take c.loop-at.at lists) lists c.loop-at.parts.items (take_all c.loop-at.at lists le) c.loop-at.invariant
