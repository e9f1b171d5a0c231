use Rattle.std.proofs.Common.{arith, refl, rules, drop}
use Rattle.cqa_model.proofs.ClassSteps.{sides, joined-classes, classes-small}
use Rattle.cqa_model.proofs.naming.classes.Goals as goal

pub number_of-requires-clause-atom : goal.number_of-requires-clause-atom
number_of-requires-clause-atom c = (sides c.args.query.now _ _ _ _ _ c.as_slice-conds.ensures (omega arith) c.index-conds-k.is c.in-Join.is).0.0

pub number_of-requires-clause-col : goal.number_of-requires-clause-col
number_of-requires-clause-col c = (sides c.args.query.now _ _ _ _ _ c.as_slice-conds.ensures (omega arith) c.index-conds-k.is c.in-Join.is).0.1

pub number_of-requires-in-Join-clause-atom : goal.number_of-requires-in-Join-clause-atom
number_of-requires-in-Join-clause-atom c = (sides c.args.query.now _ _ _ _ _ c.as_slice-conds.ensures (omega arith) c.index-conds-k.is c.in-Join.is).1.0

pub number_of-requires-in-Join-clause-col : goal.number_of-requires-in-Join-clause-col
number_of-requires-in-Join-clause-col c = (sides c.args.query.now _ _ _ _ _ c.as_slice-conds.ensures (omega arith) c.index-conds-k.is c.in-Join.is).1.1

pub loop-k-preserved-in-Join : goal.loop-k-preserved-in-Join
loop-k-preserved-in-Join c = record {
  size = search rules;
  are = joined-classes _ c.loop-k.k _ _ _ _ c.loop-k.class _ refl c.loop-k-test.true c.loop-k.auto.k c.index-conds-k.is c.in-Join.is
      (sides c.args.query.now _ _ _ _ _ c.as_slice-conds.ensures (omega arith) c.index-conds-k.is c.in-Join.is) c.loop-k.invariant.are (λ p lt. rw (← c.number_of.ensures.is, ← c.number_of-in-Join.ensures.is) (c.join.ensures p lt));
}

pub returns-clause-small : goal.returns-clause-small
returns-clause-small c = classes-small (drop c.loop-k.k c.as_slice-conds.result.now) _ c.loop-k.invariant.size c.loop-k.invariant.are
