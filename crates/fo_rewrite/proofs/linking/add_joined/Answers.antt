use Rattle.fo_rewrite.proofs.Columns.{sides-small}
use Rattle.fo_rewrite.proofs.linking.add_joined.Goals as goal

pub has-requires : goal.has-requires
has-requires c = (sides-small c.args.query.now _ c.as_slice-cond-items.ensures _ _ c.loop-cond-test.true c.cond-item.is _ _ c.in-Join.is).0.0

pub has-wanted-requires : goal.has-wanted-requires
has-wanted-requires c = (sides-small c.args.query.now _ c.as_slice-cond-items.ensures _ _ c.loop-cond-test.true c.cond-item.is _ _ c.in-Join.is).1.0

pub insert_if-requires : goal.insert_if-requires
insert_if-requires c = (sides-small c.args.query.now _ c.as_slice-cond-items.ensures _ _ c.loop-cond-test.true c.cond-item.is _ _ c.in-Join.is).0.0

pub insert_if-requires-in-Join : goal.insert_if-requires-in-Join
insert_if-requires-in-Join c = (sides-small c.args.query.now _ c.as_slice-cond-items.ensures _ _ c.loop-cond-test.true c.cond-item.is _ _ c.in-Join.is).1.0
