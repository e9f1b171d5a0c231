use Rattle.std.proofs.Common.{List, subst}
use Rattle.cnf_form.specs.declared.formula.Lit.{Lit}
use Rattle.cnf_form.specs.Literals.{literals}
use Rattle.search_trail.specs.Analysis.{AllSeen}
use Rattle.search_trail.proofs.Works.{At-contains, At-same}
use Rattle.search_trail.proofs.implications.Implications.cite.Goals as goal

pub mark_all-requires-clause-range : goal.mark_all-requires-clause-range
mark_all-requires-clause-range c = c.args.self.now.clauses_in _ (At-contains _ _ _ c.literals_at.ensures)

pub returns-clause-seen : goal.returns-clause-seen
returns-clause-seen c xs at =
    subst (λ (ys : List Lit). AllSeen c.mark_all.new.marks.seen.items ys)
    (At-same (literals c.args.self.now.clauses.now) c.args.index _ xs c.literals_at.ensures at) c.in_ok-mark_all.ensures.seen
