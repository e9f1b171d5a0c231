use Rattle.fo_plan.proofs.Passing.{first-at_start}
use Rattle.fo_plan.proofs.Walked.{starts-all}
use Rattle.fo_plan.proofs.enough.Blocks.start.Goals as goal

pub returns-clause-passed : goal.returns-clause-passed
returns-clause-passed c = λ at low high first. c.first-place.ensures.none at low high

pub returns-clause-spot : goal.returns-clause-spot
returns-clause-spot c =
    let s = c.args.self.now in
    let place = c.first-place.result in
    record {
      last = tt;
      rest = c.split_at-rest.ensures.rest;
      begins = λ e l. first-at_start s.key.now s.rows place (starts-all s.wanted place e c.first-place.ensures.none);
    }
