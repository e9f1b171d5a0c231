use Rattle.std.proofs.Common.{subst, Contains, List}
use Rattle.cqa_model.specs.declared.query.ColRef.{ColRef}
use Rattle.rewrite_text.proofs.Printing.{tables_there}
use Rattle.rewrite_text.proofs.statements.append_claim.Goals as goal

pub append_asked-requires : goal.append_asked-requires
append_asked-requires c = λ k m. c.args.bound.now.query.now.kept.answer_in_range k (subst (λ (z : List ColRef). Contains z k) c.as_slice.ensures m)

pub append_from-requires : goal.append_from-requires
append_from-requires c = tables_there c.args.bound.now.query.now c.args.bound.now.db.now c.args.bound.now.fits c.as_slice-2.result.now c.as_slice-2.ensures
