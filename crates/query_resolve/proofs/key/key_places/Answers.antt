use Rattle.std.proofs.Common.{refl}
use Rattle.query_resolve.proofs.Members.{start, more, stopped, finished}
use Rattle.query_resolve.proofs.key.key_places.Goals as goal

pub loop-at-init : goal.loop-at-init
loop-at-init c = start refl c.in_ok-places.ensures.items

pub loop-at-preserved : goal.loop-at-preserved
loop-at-preserved c = more c.loop-at.invariant c.loop-at-test.true c.index-key-at.is c.in_ok-key_place.ensures c.in_ok-push.ensures.items

pub returns-in_err-key_place : goal.returns-in_err-key_place
returns-in_err-key_place c = stopped c.loop-at.invariant c.loop-at-test.true c.index-key-at.is c.in_err-key_place.ensures c.from_residual-in_err-key_place.ensures.1

pub returns : goal.returns
returns c = finished c.loop-at.invariant c.loop-at-test.false c.from_vec.ensures
