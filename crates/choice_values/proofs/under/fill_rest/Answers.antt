use Rattle.std.proofs.Common.{rules, ◌≡◌, ◌+◌, ◌<◌, Bool, true, false, List, length, take, sym, ◌∙◌, ap, subst}
use mir.Val.{SFits, to_z, of_z}
use mir.Syntax.{w128}
use Rattle.std.proofs.lemmas.Int.{to_z-of_z}
use Rattle.std.proofs.lemmas.List.{take_more}
use Rattle.block_choices.specs.declared.row.BlockRow.{BlockRow}
use Rattle.choice_values.specs.Values.{Weighted}
use Rattle.choice_values.specs.Pairs.{list_at, nothing}
use Rattle.choice_values.specs.Under.{IsCut, IsUnder}
use Rattle.choice_values.proofs.Cutting.{under-clash}
use Rattle.choice_values.proofs.under.fill_rest.Goals.{then-branch+in_ok-take_in, else-branch}
use Rattle.choice_values.proofs.under.fill_rest.Goals as goal

pub loop-at-preserved : goal.loop-at-preserved
loop-at-preserved c =
    let lists = c.args.lists.now in
    let at = c.loop-at.at in
    let b = c.args.block in
    let r = c.args.row in
    let k = list_at lists at in
    let left = c.cut.new.left.items in
    let l : at < length lists = search rules in
    let more = sym (take_more lists at nothing l) in
    elim c.if-branch.branch [
      | then-branch+in_ok-take_in w ↦ (let small : SFits w128 w.weight.result = search rules in
          let was : IsCut b r k.names w.as_slice.result.now true = subst (λ (ns : List BlockRow). IsCut b r ns w.as_slice.result.now true) c.names.ensures
          (subst (λ (ls : List BlockRow). IsCut b r c.names.result.now ls true) (sym w.as_slice.ensures.value) (subst (λ (t : Bool). IsCut b r c.names.result.now left t) w.if-branch.true c.in_ok-cut.ensures)) in
          subst (λ q. IsUnder b r (take (at + 1) lists) q.base q.lists) (sym w.rest-is)
          (subst (λ (ls : List Weighted). IsUnder b r ls w.take_in.new.rest.base w.take_in.new.rest.lists) more
          (w.in_ok-take_in.ensures b r (take at lists) k c.loop-at.invariant (sym (to_z-of_z w128 w.weight.result small ∙ w.weight.ensures)) was)))
      | else-branch w ↦ (let was : IsCut b r k.names left false = subst (λ (ns : List BlockRow). IsCut b r ns left false) c.names.ensures (subst (λ (t : Bool). IsCut b r c.names.result.now left t) w.if-branch.false c.in_ok-cut.ensures) in
          subst (λ q. IsUnder b r (take (at + 1) lists) q.base q.lists) (sym w.rest-is)
          (subst (λ (ls : List Weighted). IsUnder b r ls c.loop-at.rest.base c.loop-at.rest.lists) more
          (under-clash b r (take at lists) k c.loop-at.rest.base c.loop-at.rest.lists c.loop-at.invariant was)))
    ]
