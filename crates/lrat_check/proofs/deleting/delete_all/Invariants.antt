use Rattle.std.proofs.Common.{drop}
use Rattle.lrat_check.specs.Store.{live_of}
use Rattle.lrat_check.proofs.Deleted.{Along}
use Rattle.lrat_check.proofs.deleting.delete_all.Given as goal

abbrev pub invariant-loop-id : goal.invariant-loop-id
invariant-loop-id l = Along (live_of l.fn.store) l.ids (live_of l.store) (drop l.id-index l.ids)
