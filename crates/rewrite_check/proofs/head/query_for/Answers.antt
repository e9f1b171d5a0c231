use Rattle.std.proofs.Common.{◌≡◌, None, true≢false, sym, ◌∙◌, subst}
use Rattle.query_resolve.specs.Checks.{answer_fault}
use Rattle.rewrite_check.proofs.Same.{query_once}
use Rattle.rewrite_check.proofs.head.query_for.Goals as goal

pub returns-else-answers : goal.returns-else-answers
returns-else-answers c = λ q can.
    let same = query_once c.args.tables.now c.args.select.now q c.in-Ok.query can.1 c.in-Ok.ensures.is in
    let none = subst (λ z. answer_fault c.args.tables.now z c.args.row.now ≡ None) same can.2 in
    absurd (true≢false (sym (c.answers.ensures.1 none) ∙ c.if-answers.false))
