use Rattle.range_ask.proofs.Testing
use Rattle.range_ask.proofs.laws.tests_are_met.Goals as goal

pub returns : goal.returns
returns c = Testing.tests_are_met
