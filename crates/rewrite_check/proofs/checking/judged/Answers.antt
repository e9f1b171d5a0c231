use Rattle.std.proofs.Common.{◌<◌, length, Contains, sym, subst}
use Rattle.cqa_model.specs.declared.query.Query.{Query}
use Rattle.rewrite_check.proofs.Outcome.{judged_here}
use Rattle.rewrite_check.proofs.checking.judged.Goals as goal

pub judge_blocks-requires-clause-order : goal.judge_blocks-requires-clause-order
judge_blocks-requires-clause-order c = λ F m.
    subst (λ (q : Query). F < length q.atoms) (sym c.new-bound.ensures.query) (c.requires.order.inside F (subst (λ z. Contains z F) c.as_slice.ensures m))

pub returns : goal.returns
returns c =
    let here = c.args.certificate.now in
    judged_here here.query c.new-bound.result.query.now here.row here.order c.as_slice.result.now here.nodes c.as_slice-2.result.now c.judge_blocks.result c.new-bound.ensures.query c.as_slice.ensures c.as_slice-2.ensures c.judge_blocks.ensures
