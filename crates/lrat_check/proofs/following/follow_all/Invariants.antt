use Rattle.std.proofs.Common.{drop}
use Rattle.lrat_check.specs.Store.{live_of}
use Rattle.lrat_check.proofs.Followed.{Along}
use Rattle.lrat_check.proofs.following.follow_all.Given as goal

abbrev pub invariant-loop-hint : goal.invariant-loop-hint
invariant-loop-hint l = Along (live_of l.store) l.fn.marks l.hints l.marks (drop l.hint-index l.hints)
