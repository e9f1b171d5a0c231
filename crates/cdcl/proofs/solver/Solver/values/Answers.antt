use Rattle.std.proofs.Common.{arith}
use Rattle.std.proofs.lemmas.List.{length_push}
use Rattle.search_trail.specs.Trail.{held}
use Rattle.cdcl.proofs.Values.{agrees_push}
use Rattle.cdcl.proofs.solver.Solver.values.Goals as goal

pub loop-var-preserved : goal.loop-var-preserved
loop-var-preserved c =
    let old = c.loop-var.values.items in
    let x = c.value_of.result in
    rw c.in_ok-push.ensures.items (record {
      count = let r = length_push old x in omega (arith, r, c.loop-var.invariant.count);
      agrees = agrees_push c.loop-var.var old x (held c.args.self.now.trail.items) c.loop-var.invariant.count c.value_of.ensures c.loop-var.invariant.agrees;
    })

pub returns-clause-len : goal.returns-clause-len
returns-clause-len c =
    omega (arith, c.loop-var.invariant.count, c.loop-var-test.false, c.loop-var.auto.var-end, c.len-var-end.ensures, c.args.self.now.places.ok, c.requires.some)

pub returns-clause-values : goal.returns-clause-values
returns-clause-values c l i low =
    let range = c.requires.sound.held_in l i in
    c.loop-var.invariant.agrees l i low (omega (arith, range, c.loop-var-test.false, c.len-var-end.ensures, c.args.self.now.places.ok))
