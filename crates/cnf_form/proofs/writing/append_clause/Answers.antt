use Rattle.cqa_value.proofs.Words.{on_err}
use Rattle.cqa_value.proofs.Written.{begins_shorter}
use Rattle.cnf_form.proofs.writing.append_clause.Goals as goal

pub returns-in_err-append_lit-clause-err : goal.returns-in_err-append_lit-clause-err
returns-in_err-append_lit-clause-err c = on_err c.from_residual.result (begins_shorter c.args.out.now.items _ c.loop-lit.out.items c.append_lit.new.out.items c.loop-lit.invariant c.in_err-append_lit.ensures.err)
