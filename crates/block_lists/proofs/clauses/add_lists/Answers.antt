use Rattle.std.proofs.Common.{◌∙◌, ap}
use Rattle.std.proofs.lemmas.List.{map_push}
use Rattle.cnf_form.specs.declared.formula.Clause.{Clause}
use Rattle.cqa_value.proofs.Words.{Contains-slice_get}
use Rattle.cnf_form.specs.Literals.{literals}
use Rattle.block_lists.proofs.Encoding.{lists_next}
use Rattle.block_lists.proofs.clauses.add_lists.Goals as goal

pub loop-at-preserved : goal.loop-at-preserved
loop-at-preserved c =
    lists_next c.args.bases.now c.args.lists.now c.loop-at.at c.list.result.now (literals c.args.clauses.now.items) (literals c.loop-at.clauses.items) (literals c.push.new.self.items) c.in_ok-list_clause.field-0.lits
    c.list.ensures c.loop-at.invariant c.in_ok-list_clause.ensures
    (ap literals c.in_ok-push.ensures.items ∙ map_push (λ (x : Clause). x.lits) c.loop-at.clauses.items c.in_ok-list_clause.field-0)

pub list_clause-requires : goal.list_clause-requires
list_clause-requires c = c.requires c.list.result.now (Contains-slice_get c.args.lists.now c.loop-at.at c.list.result.now c.list.ensures)
