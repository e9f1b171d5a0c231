use Rattle.std.proofs.Common.{arith}
use Rattle.lrat_check.proofs.Stored.{added_if}
use Rattle.lrat_check.proofs.store.Store.add.Goals as goal

pub returns : goal.returns
returns c = let len = c.in_ok-extend_from_slice.ensures.len in
    added_if _ c.args.clause.now _ c.args.self.now.places c.insert.new.self c.args.id _ c.insert.result c.in_ok-extend_from_slice.ensures.items c.args.self.now.within (omega arith) (omega (arith, len)) c.insert.ensures.set
