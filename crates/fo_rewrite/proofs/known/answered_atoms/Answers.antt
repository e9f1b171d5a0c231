use Rattle.cqa_model.proofs.ClassSteps.{answers-small}
use Rattle.fo_rewrite.proofs.known.answered_atoms.Goals as goal

pub insert_if-requires : goal.insert_if-requires
insert_if-requires c = (answers-small c.args.query.now _ c.as_slice-column-items.ensures c.loop-column.column-index c.loop-column-test.true).0
