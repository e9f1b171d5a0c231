use Rattle.std.proofs.Common.{false}
use Rattle.std.proofs.Math.ListN.{replicate}
use Rattle.cqa_model.proofs.ClassSteps.{answers-small, tests-small, unmarked, are-variables}
use Rattle.cqa_model.proofs.naming.variables.Goals as goal

pub mark_answers-requires-clause-columns : goal.mark_answers-requires-clause-columns
mark_answers-requires-clause-columns c = answers-small c.args.query.now _ c.as_slice.ensures

pub mark_tests-requires-clause-columns : goal.mark_tests-requires-clause-columns
mark_tests-requires-clause-columns c = tests-small c.args.query.now _ c.as_slice-2.ensures

pub returns : goal.returns
returns c = are-variables c.args.query.now _ _ _ (replicate 192 false) c.mark_answers.new.marks c.as_slice.ensures c.as_slice-2.ensures c.classes-class.ensures.is (unmarked 192) c.mark_answers.ensures c.mark_tests.ensures
