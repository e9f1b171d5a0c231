use Rattle.std.proofs.Common.{◌∙◌, sym}
use Rattle.std.proofs.lemmas.Bool.{false≢true, not-false, not-true}
use Rattle.block_check.proofs.Different.{row_twice, row_more}
use Rattle.block_check.proofs.blocks.are_different.Goals as goal

pub returns-then-not-branch : goal.returns-then-not-branch
returns-then-not-branch c =
    (λ t. absurd (false≢true t), λ differ. absurd (row_twice c.args.rows.now c.loop-row.row-index c.loop-row.seen (record { ref_ptr = (0, 0); now = c.row-item.result }) c.loop-row.invariant c.loop-row-test.true c.row-item.is (not-false _ (sym c.in_ok-insert.ensures.added ∙ c.if-not-branch.true)) differ))

pub loop-row-preserved : goal.loop-row-preserved
loop-row-preserved c = row_more c.args.rows.now c.loop-row.row-index c.loop-row.seen c.insert.new.self (record { ref_ptr = (0, 0); now = c.row-item.result }) c.loop-row.invariant c.loop-row-test.true c.row-item.is (not-true _ (sym c.in_ok-insert.ensures.added ∙ c.if-not-branch.false)) c.in_ok-insert.ensures.updates
