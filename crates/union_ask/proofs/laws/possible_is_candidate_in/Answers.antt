use Rattle.union_ask.proofs.Unions
use Rattle.union_ask.proofs.laws.possible_is_candidate_in.Goals as goal

pub returns : goal.returns
returns c = Unions.possible_is_candidate_in
