use Rattle.std.proofs.Common.{◌+◌, length, sym, ap, ◌∙◌, arith}
use Rattle.cqa_value.proofs.Words.{clash}
use Rattle.table_changes.proofs.Preferring.{read_first, read_more, read_next, read_all, next_there, ended_before}
use Rattle.table_changes.proofs.preferred.tell_blocks.Goals as goal

pub read_row-block-requires : goal.read_row-block-requires
read_row-block-requires c =
    let more = ap length (sym c.again-left.ensures ∙ c.in-Some.ensures.steps) in
    let begins = c.block_from.ensures.start in
    let unread = c.block_from.ensures.read in
    let long = c.requires.each in
    omega (arith, more, begins, unread, long)

pub loop-row-init : goal.loop-row-init
loop-row-init c =
    let block = c.block_from in
    let read = c.read_row-block in
    read_first c.args.key.now c.args.rows.now c.args.tests.now c.args.stays.now block.result.start block.result.read block.result.passes c.requires.each block.ensures.start block.ensures.read block.ensures.passes
    c.in-Some.first.now c.next.new.self (sym c.again-left.ensures ∙ c.in-Some.ensures.steps) read.new.stays read.result.start read.result.read read.result.passes read.ensures.start read.ensures.read read.ensures.passes read.ensures.told

pub read_row-block-requires-then-same_key : goal.read_row-block-requires-then-same_key
read_row-block-requires-then-same_key c =
    let block = c.loop-row.block in
    let long = c.loop-row.auto.stays ∙ c.read_row-block.auto.stays ∙ c.requires.each in
    let there = next_there c.args.key.now c.args.rows.now c.args.tests.now c.loop-row.stays block.start block.read block.passes long c.loop-row.left c.loop-row.last.now c.loop-row.invariant c.in-Some-next.row.now c.next-in-loop-row.new.self c.in-Some-next.ensures.steps in
    omega (arith, there, long)

pub end_block-next-requires : goal.end_block-next-requires
end_block-next-requires c =
    let long = c.loop-row.auto.stays ∙ c.read_row-block.auto.stays ∙ c.requires.each in
    let within = c.loop-row.invariant.so_far.within in
    omega (arith, within, long)

pub read_row-block-requires-else-same_key : goal.read_row-block-requires-else-same_key
read_row-block-requires-else-same_key c =
    let block = c.loop-row.block in
    let long = c.loop-row.auto.stays ∙ c.read_row-block.auto.stays ∙ c.requires.each in
    let as_long = c.end_block-next.auto.stays in
    let begins = c.end_block-next.ensures.start in
    let unread = c.end_block-next.ensures.read in
    let there = next_there c.args.key.now c.args.rows.now c.args.tests.now c.loop-row.stays block.start block.read block.passes long c.loop-row.left c.loop-row.last.now c.loop-row.invariant c.in-Some-next.row.now c.next-in-loop-row.new.self c.in-Some-next.ensures.steps in
    omega (arith, there, long, as_long, begins, unread)

pub loop-row-preserved-then-same_key : goal.loop-row-preserved-then-same_key
loop-row-preserved-then-same_key c =
    let block = c.loop-row.block in
    let long = c.loop-row.auto.stays ∙ c.read_row-block.auto.stays ∙ c.requires.each in
    let read = c.read_row-block-then-same_key in
    read_more c.args.key.now c.args.rows.now c.args.tests.now c.loop-row.stays block.start block.read block.passes long c.loop-row.left c.loop-row.last.now c.loop-row.invariant c.in-Some-next.row.now c.next-in-loop-row.new.self c.in-Some-next.ensures.steps
    (c.same_key.ensures.0 c.if-same_key.true) read.new.stays read.result.start read.result.read read.result.passes read.ensures.start read.ensures.read read.ensures.passes read.ensures.told

pub loop-row-preserved : goal.loop-row-preserved
loop-row-preserved c =
    let key = c.args.key.now in
    let rows = c.args.rows.now in
    let tests = c.args.tests.now in
    let block = c.loop-row.block in
    let long = c.loop-row.auto.stays ∙ c.read_row-block.auto.stays ∙ c.requires.each in
    let i = c.loop-row.invariant in
    let row = c.in-Some-next.row.now in
    let rest = c.next-in-loop-row.new.self in
    let steps = c.in-Some-next.ensures.steps in
    let next = c.end_block-next in
    let read = c.read_row-block-else-same_key in
    let far =
    ended_before key rows tests c.loop-row.stays block.start block.read block.passes long c.loop-row.left c.loop-row.last.now i row rest steps c.requires.in_order
    (λ s. absurd (clash c.same_key.result (c.same_key.ensures.1 s) c.if-same_key.false)) next.new.stays next.ensures.told next.result.start next.result.read next.result.passes next.ensures.start next.ensures.read next.ensures.passes
    in
    read_next key rows tests next.new.stays next.result.start next.result.read next.result.passes (next.auto.stays ∙ long) (block.start + block.read) next.ensures.start next.ensures.read far row rest (sym i.left_is ∙ steps)
    read.new.stays read.result.start read.result.read read.result.passes read.ensures.start read.ensures.read read.ensures.passes read.ensures.told

pub end_block-requires : goal.end_block-requires
end_block-requires c =
    let long = c.loop-row.auto.stays ∙ c.read_row-block.auto.stays ∙ c.requires.each in
    let within = c.loop-row.invariant.so_far.within in
    omega (arith, within, long)

pub returns : goal.returns
returns c =
    let block = c.loop-row.block in
    let long = c.loop-row.auto.stays ∙ c.read_row-block.auto.stays ∙ c.requires.each in
    read_all c.args.key.now c.args.rows.now c.args.tests.now c.loop-row.stays block.start block.read block.passes long c.loop-row.left c.loop-row.last.now c.loop-row.invariant c.in_default-next.ensures.steps.0 c.end_block.new.stays c.end_block.auto.stays c.end_block.ensures.told
