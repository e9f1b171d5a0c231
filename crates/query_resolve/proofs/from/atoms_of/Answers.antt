use Rattle.std.proofs.Common.{refl}
use Rattle.query_resolve.proofs.Members.{start, more, stopped, finished}
use Rattle.query_resolve.proofs.from.atoms_of.Goals as goal

pub loop-at-init : goal.loop-at-init
loop-at-init c = start refl c.in_ok-atoms.ensures.items

pub loop-at-preserved : goal.loop-at-preserved
loop-at-preserved c = more c.loop-at.invariant c.loop-at-test.true c.index-names-at.is c.in_ok-atom_of.ensures c.in_ok-push.ensures.items

pub returns-in_err-atom_of-clause-checked : goal.returns-in_err-atom_of-clause-checked
returns-in_err-atom_of-clause-checked c = stopped c.loop-at.invariant c.loop-at-test.true c.index-names-at.is c.in_err-atom_of.ensures c.from_residual-in_err-atom_of.ensures.1

pub returns-clause-checked : goal.returns-clause-checked
returns-clause-checked c = finished c.loop-at.invariant c.loop-at-test.false c.from_vec.ensures
