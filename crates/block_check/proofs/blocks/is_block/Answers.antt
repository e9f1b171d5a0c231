use Rattle.std.proofs.Common.{◌↔◌, ◌∙◌, IsTrue, Contains, sym}
use Rattle.std.proofs.lemmas.Bool.{false≢true}
use Rattle.std.proofs.lemmas.Result.{IfOk-weaker}
use Rattle.block_tree.specs.Trees.{IsBlockOf}
use Rattle.block_check.specs.Blocks.{AllDiffer}
use Rattle.block_check.proofs.Different.{block_when}
use Rattle.block_check.proofs.blocks.is_block.Goals as goal

pub returns-then-not-all_share : goal.returns-then-not-all_share
returns-then-not-all_share c =
    let there : Contains c.args.rows.now c.in-Some.first.now = (0, c.in-Some.ensures.item.3.0, sym c.in-Some.ensures.item.1) in
    (λ t. absurd (false≢true t), λ b. absurd (false≢true (sym c.if-not-all_share.true ∙ c.all_share.ensures.1 (λ x mx. b.alike c.in-Some.first.now x there mx))))

pub returns : goal.returns
returns c =
    let rows = c.args.rows.now in
    let there : Contains rows c.in-Some.first.now = (0, c.in-Some.ensures.item.3.0, sym c.in-Some.ensures.item.1) in
    IfOk-weaker c.are_different.result (λ b. IsTrue b ↔ AllDiffer rows) (λ b. IsTrue b ↔ IsBlockOf c.args.key.now rows)
    (λ b is. (λ t. block_when c.args.key.now c.in-Some.first.now rows there (c.all_share.ensures.0 c.if-not-all_share.false) (is.0 t), λ block. is.1 block.differ)) c.are_different.ensures
