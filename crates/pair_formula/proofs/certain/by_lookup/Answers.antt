use Rattle.std.proofs.Common.{◌≡◌, ◌↔◌, ◌∙◌, IfOk, IsTrue, length, sym, subst}
use Rattle.table_blocks.specs.declared.bound.Bound.{Bound}
use Rattle.cqa_model.specs.Certain.{IsCertain}
use Rattle.cqa_model.specs.Graph.{IsPair}
use Rattle.pair_formula.proofs.Carrying.{carried}
use Rattle.pair_formula.proofs.certain.by_lookup.Goals as goal

pub by_formula-certain-requires : goal.by_formula-certain-requires
by_formula-certain-requires c = subst (λ (b : Bound). IsPair b.query.now) (sym c.in-Ok.ensures.found.0) c.requires.pair

pub returns-in-Ok-clause-certain : goal.returns-in-Ok-clause-certain
returns-in-Ok-clause-certain c =
    carried (λ b row. IfOk c.by_formula-certain.result (λ certain. IsTrue certain ↔ IsCertain b.db.now b.query.now row)) _ _ _ _ c.in-Ok.ensures.found.0 c.in-Ok.ensures.found.1 c.by_formula-certain.ensures

pub new-requires : goal.new-requires
new-requires c = subst (λ (b : Bound). IsPair b.query.now) (sym c.witnesses_by.ensures.bound) c.requires.pair

pub is_certain-requires : goal.is_certain-requires
is_certain-requires c = subst (λ (b : Bound). length c.args.row.now ≡ length b.query.now.answer) (sym (c.new.ensures ∙ c.witnesses_by.ensures.bound)) c.requires.long

pub returns-in-Err-Refused-clause-certain : goal.returns-in-Err-Refused-clause-certain
returns-in-Err-Refused-clause-certain c =
    subst (λ (b : Bound). IfOk c.is_certain.result (λ certain. IsTrue certain ↔ IsCertain b.db.now b.query.now c.args.row.now)) (c.new.ensures ∙ c.witnesses_by.ensures.bound) c.is_certain.ensures
