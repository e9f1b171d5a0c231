use Rattle.std.proofs.Common.{length, sym, subst, ap, arith}
use Rattle.std.specs.List.Sorted.{IsStrictlySortedBy}
use Rattle.std.proofs.lemmas.List.{length-drop}
use Rattle.cqa_model.specs.Database.{block_cmp}
use Rattle.table_blocks.proofs.Spanning.{sorted-drop}
use Rattle.fo_plan.proofs.Walked.{walked-next, walked-begins, walked-rest, walked-within}
use Rattle.fo_plan.proofs.enough.Blocks.taken_at.Goals as goal

pub block_end-end-requires-clause-order : goal.block_end-end-requires-clause-order
block_end-end-requires-clause-order c =
    let s = c.args.self.now in
    subst (IsStrictlySortedBy (block_cmp s.key.now)) (sym c.requires.rest) (sorted-drop s.key.now s.rows c.args.spot.now.place c.args.self.now.in_order)

pub block_end-end-requires-clause-there : goal.block_end-end-requires-clause-there
block_end-end-requires-clause-there c =
    let e = ap length c.requires.rest in
    let l = length-drop c.args.spot.now.place c.args.self.now.rows in
    let there = c.requires.there in
    omega (arith, e, l, there)

pub returns-clause-next : goal.returns-clause-next
returns-clause-next c =
    let end = c.block_end-end.ensures in
    walked-next c.args.self.now c.args.self.now.in_order c.args.spot.now.place (λ l. c.requires.begins) c.args.spot.now.rest c.requires.rest c.block_end-end.result end.behind end.within end.block
    c.split_at-block.result.0 c.split_at-block.ensures.front

pub returns-clause-within : goal.returns-clause-within
returns-clause-within c =
    let s = c.args.self.now in
    let end = c.block_end-end.ensures in
    walked-within s.key.now s.rows c.args.self.now.in_order c.args.spot.now.place (λ l. c.requires.begins) c.args.spot.now.rest c.requires.rest c.block_end-end.result end.behind end.within end.block

pub returns-clause-rest : goal.returns-clause-rest
returns-clause-rest c =
    let s = c.args.self.now in
    let end = c.block_end-end.ensures in
    walked-rest s.key.now s.rows c.args.self.now.in_order c.args.spot.now.place (λ l. c.requires.begins) c.args.spot.now.rest c.requires.rest c.block_end-end.result end.behind end.within end.block
    c.split_at-block.result.1 c.split_at-block.ensures.rest

pub returns-clause-begins : goal.returns-clause-begins
returns-clause-begins c =
    let s = c.args.self.now in
    let end = c.block_end-end.ensures in
    λ l. walked-begins s.key.now s.rows c.args.self.now.in_order c.args.spot.now.place (λ l. c.requires.begins) c.args.spot.now.rest c.requires.rest c.block_end-end.result end.behind end.within end.block l
