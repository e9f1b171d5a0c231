use Rattle.std.proofs.Common.{sym, ◌∙◌, subst, true≢false}
use Rattle.spj_syntax.proofs.Once.{block_once}
use Rattle.rewrite_check.specs.Spelling.{CanList}
use Rattle.rewrite_check.proofs.Steps.{some_block}
use Rattle.rewrite_check.proofs.nodes.node.Goals as goal

pub returns-else-can_list : goal.returns-else-can_list
returns-else-can_list c = λ raw is can.
    let text = c.args.text.now in
    let here = some_block text c.in_ok-raw.field-0 c.in-Some.raw c.in-Some.is c.in_ok-raw.ensures.is in
    let listed = c.can_list.ensures.1 (subst (CanList c.args.certificate.now.tables) (block_once text raw c.in-Some.raw is here) can) in
    true≢false (sym listed ∙ c.if-can_list.false)
