use Rattle.lrat_check.proofs.Deleted.{along_more}
use Rattle.lrat_check.proofs.deleting.delete_all.Goals as goal

pub loop-id-preserved : goal.loop-id-preserved
loop-id-preserved c = along_more _ _ _ _ c.loop-id.id-index c.loop-id-test.true c.loop-id.invariant (c.remove.ensures.yes c.if-not-remove.false) c.remove.ensures.live
