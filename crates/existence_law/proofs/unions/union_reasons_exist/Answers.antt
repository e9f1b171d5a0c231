use Rattle.existence_law.proofs.Reasoning.{union_reasons_exist}
use Rattle.existence_law.proofs.unions.union_reasons_exist.Goals as goal

pub returns : goal.returns
returns c = union_reasons_exist c.possible_is_candidate_in.ensures c.unions_decide.ensures
