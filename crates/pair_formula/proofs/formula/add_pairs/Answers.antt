use Rattle.std.proofs.Common.{arith}
use Rattle.cnf_form.specs.Literals.{literals}
use Rattle.pair_formula.proofs.Pairing.{pairs-next}
use Rattle.pair_formula.proofs.formula.add_pairs.Goals as goal

pub loop-witness-preserved : goal.loop-witness-preserved
loop-witness-preserved c = pairs-next c.args.blocks.now.spans c.args.witnesses.now c.loop-witness.witness-index c.witness-item.result (literals c.args.clauses.now.items) (literals c.loop-witness.clauses.items) (literals c.add_pair.new.clauses.items)
    (omega (arith, c.loop-witness-test.true)) c.witness-item.is c.loop-witness.invariant c.in_ok-add_pair.ensures
