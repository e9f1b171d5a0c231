use Rattle.std.proofs.Common.{◌≡◌, ℕ, ◌+◌, ◌<◌, ◌≤◌, List, Contains, length, true≢false, map, take, refl, sym, ◌∙◌, subst, arith, rules}
use Rattle.std.proofs.lemmas.List.{take_more, take_all}
use Rattle.block_choices.specs.declared.row.BlockRow.{BlockRow}
use Rattle.block_choices.specs.Choices.{AreThere, IsThere}
use Rattle.choice_values.specs.Values.{Weighted, AreLists}
use Rattle.choice_values.specs.Pairs.{list_at, nothing}
use Rattle.choice_values.proofs.Pairs.{there-more, there-at}
use Rattle.choice_values.proofs.asked.are_lists.Goals as goal

pub returns-then-not-all_there : goal.returns-then-not-all_there
returns-then-not-all_there c =
    let lists = c.args.lists.now in
    let at = c.loop-at.at in
    let l : at < length lists = search rules in (
      (λ t. absurd (true≢false (sym t))),
      (λ h. absurd (true≢false (sym (c.all_there.ensures.1 (subst (λ (ns : List BlockRow). (x : BlockRow) → Contains ns x → IsThere c.args.sizes.now x) (sym c.names.ensures) (there-at c.args.sizes.now lists at l h.there))) ∙ c.if-not-all_there.true))),
    )

pub loop-at-preserved : goal.loop-at-preserved
loop-at-preserved c =
    let sizes = c.args.sizes.now in
    let lists = c.args.lists.now in
    let at = c.loop-at.at in
    let l : at < length lists = search rules in
    subst (λ (ls : List Weighted). AreThere sizes (map (λ k. k.names) ls)) (sym (take_more lists at nothing l))
    (there-more sizes (take at lists) (list_at lists at) c.loop-at.invariant
    (subst (λ (ns : List BlockRow). (x : BlockRow) → Contains ns x → IsThere sizes x) c.names.ensures (c.all_there.ensures.0 c.if-not-all_there.false)))

pub returns : goal.returns
returns c =
    let sizes = c.args.sizes.now in
    let lists = c.args.lists.now in
    let at = c.loop-at.at in
    let le : length lists ≤ at = search rules in (
      (λ t. record { some = c.have_rows.ensures.0 t; there = subst (λ (ls : List Weighted). AreThere sizes (map (λ k. k.names) ls)) (take_all at lists le) c.loop-at.invariant }),
      (λ h. c.have_rows.ensures.1 h.some),
    )
