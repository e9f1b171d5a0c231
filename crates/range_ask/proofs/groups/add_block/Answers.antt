use Rattle.std.proofs.Common.{◌≡◌, ◌+◌, ◌<◌, inl, inr, suc, false, refl, sym, subst, arith, length, []}
use Rattle.std.proofs.lemmas.Option.{get_or_from_slice_get}
use Rattle.cqa_value.proofs.Words.{Contains-slice_get}
use Rattle.range_ask.specs.Ranges.{cell, meets}
use Rattle.range_ask.specs.Finding.{row_in_block}
use Rattle.range_ask.proofs.Membership.{AreTallying, all-begin, all-end, all-miss, all-more}
use Rattle.range_ask.proofs.groups.add_block.Goals as goal

pub loop-at-init : goal.loop-at-init
loop-at-init c =
    let ask = c.args.ask.now in
    let block = c.args.block.now in
    let first = c.get.result.now in
    let sure = c.is_sure-sure.result in
    let is = c.is_sure-sure.ensures in
    λ front e h. all-begin ask.goal.now ask.tests.now ask.col sure front block first (Contains-slice_get block 0 first c.get.ensures) is.yes is.no c.args.groups.now h

pub loop-at-preserved : goal.loop-at-preserved
loop-at-preserved c =
    let ask = c.args.ask.now in
    let block = c.args.block.now in
    let first = c.get.result.now in
    let sure = c.is_sure-sure.result in
    let is = c.is_sure-sure.ensures in
    let here = Contains-slice_get block 0 first c.get.ensures in
    let n = c.loop-at.at in
    let row = c.get-in-loop-at.result.now in
    let there : row_in_block block n ≡ row = get_or_from_slice_get block n row [] c.get-in-loop-at.ensures in
    let within : n < length block = omega (arith, c.loop-at-test.true, c.len-at-end.ensures) in
    let next : suc n ≡ n + 1 = omega arith in
    let new = c.add_met.new.groups in
    λ front e h.
    let old = c.loop-at.invariant front e h in
    subst (λ k. AreTallying ask.goal.now ask.tests.now ask.col sure front block first here is.yes is.no k new) next
    (elim (c.in_ok-add_met.ensures (λ s. (is.yes s row (Contains-slice_get block n row c.get-in-loop-at.ensures)).0)) [
      | inl taken ↦ all-more ask.goal.now ask.tests.now ask.col sure front block first here is.yes is.no n within row there taken.0 (record { number = c.args.number; sure = sure }) e refl (cell row ask.col) refl c.loop-at.groups new taken.1 old
      | inr left ↦ subst (AreTallying ask.goal.now ask.tests.now ask.col sure front block first here is.yes is.no (suc n)) (sym left.1)
          (all-miss ask.goal.now ask.tests.now ask.col sure front block first here is.yes is.no n within (subst (λ x. meets ask.tests.now x ≡ false) (sym there) left.0) c.loop-at.groups old)
    ])

pub returns : goal.returns
returns c =
    let ask = c.args.ask.now in
    let block = c.args.block.now in
    let first = c.get.result.now in
    let sure = c.is_sure-sure.result in
    let is = c.is_sure-sure.ensures in
    let here = Contains-slice_get block 0 first c.get.ensures in
    let all : c.loop-at.at ≡ length block = omega (arith, c.len-at-end.ensures) in
    λ front e h.
    all-end ask.goal.now ask.tests.now ask.col sure front block first here is.yes is.no c.requires c.loop-at.groups
    (subst (λ k. AreTallying ask.goal.now ask.tests.now ask.col sure front block first here is.yes is.no k c.loop-at.groups) all (c.loop-at.invariant front e h))
