use Rattle.existence_law.proofs.UnionAnswering.{union_answers_exist}
use Rattle.existence_law.proofs.unions.union_answers_exist.Goals as goal

pub returns : goal.returns
returns c = union_answers_exist c.possible_is_candidate_in.ensures
