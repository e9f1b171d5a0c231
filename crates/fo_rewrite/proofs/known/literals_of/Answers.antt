use Rattle.fo_rewrite.proofs.Columns.{test-small}
use Rattle.fo_rewrite.proofs.known.literals_of.Goals as goal

pub class_of-requires-clause-atom : goal.class_of-requires-clause-atom
class_of-requires-clause-atom c = (test-small c.args.query.now _ c.as_slice-cond-items.ensures _ _ c.loop-cond-test.true c.cond-item.is _ _ _ c.in-Test.is).0

pub class_of-requires-clause-col : goal.class_of-requires-clause-col
class_of-requires-clause-col c = (test-small c.args.query.now _ c.as_slice-cond-items.ensures _ _ c.loop-cond-test.true c.cond-item.is _ _ _ c.in-Test.is).1
