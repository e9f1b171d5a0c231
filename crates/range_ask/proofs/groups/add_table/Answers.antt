use Rattle.std.proofs.Common.{refl, ◌∙◌, ap, subst, arith, length}
use Rattle.std.specs.List.Sorted.{IsStrictlySortedBy}
use Rattle.cqa_model.specs.Database.{block_cmp}
use Rattle.cqa_model.specs.Blocks.{AreBlocks}
use Rattle.row_cursor.specs.Blocks.{blocks_left}
use Rattle.table_blocks.specs.Tables.{rows_at, key_at}
use Rattle.range_ask.proofs.Filled.{none-filled, filled-next, filled-more, filled-all}
use Rattle.range_ask.proofs.groups.add_table.Goals as goal

pub loop-block-init : goal.loop-block-init
loop-block-init c =
    let ask = c.args.ask.now in
    none-filled ask.goal.now ask.tests.now ask.col (blocks_left c.over-blocks.result) 0 c.args.groups.now refl c.requires.none

pub add_block-requires : goal.add_block-requires
add_block-requires c =
    let ask = c.args.ask.now in
    c.over-blocks.ensures.blocks.some c.in-Some.block
    (filled-next ask.goal.now ask.tests.now ask.col (blocks_left c.over-blocks.result) (blocks_left c.loop-block.blocks) c.loop-block.number c.loop-block.groups c.loop-block.invariant c.in-Some.block (blocks_left c.next.new.self) c.in-Some.ensures.steps)

pub loop-block-preserved : goal.loop-block-preserved
loop-block-preserved c =
    let ask = c.args.ask.now in
    filled-more ask.goal.now ask.tests.now ask.col (blocks_left c.over-blocks.result) (blocks_left c.loop-block.blocks) c.loop-block.number c.loop-block.groups c.loop-block.invariant c.in-Some.block (blocks_left c.next.new.self)
    c.in-Some.ensures.steps c.add_block.new.groups c.in_ok-add_block.ensures

pub returns : goal.returns
returns c =
    let ask = c.args.ask.now in
    let key = key_at c.args.db.now c.args.table in
    let rows = rows_at c.args.db.now c.args.table in
    let all = blocks_left c.over-blocks.result in
    let key-is = c.as_slice.ensures ∙ c.schema.ensures.key in
    let rows-are = c.rows.ensures.is in
    let few = c.over-blocks.ensures.few in
    let most = c.rows.ensures.few in
    let long = ap length rows-are in (
      all,
      record {
        in_order = subst (IsStrictlySortedBy (block_cmp key)) rows-are c.rows.ensures.in_order;
        blocks_are = subst (λ k. AreBlocks k rows all) key-is (subst (λ rs. AreBlocks c.as_slice.result.now rs all) rows-are c.over-blocks.ensures.blocks);
      },
      omega (arith, few, most, long),
      filled-all ask.goal.now ask.tests.now ask.col all (blocks_left c.loop-block.blocks) c.loop-block.number c.loop-block.groups c.loop-block.invariant c.in_default.ensures.steps.0,
    )
