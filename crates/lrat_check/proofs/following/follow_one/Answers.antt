use Rattle.std.proofs.Common.{refl}
use Rattle.lrat_check.specs.Following.{Negative, Unknown}
use Rattle.lrat_check.proofs.Followed.{known_if}
use Rattle.lrat_check.proofs.following.follow_one.Goals as goal

pub returns-in_default : goal.returns-in_default
returns-in_default c = λ held s. Negative c.in_default.ensures.0 c.in_default.ensures.1 refl

pub returns-in_default-clause : goal.returns-in_default-clause
returns-in_default-clause c = λ held s. Unknown c.in-Some.id c.in-Some.ensures c.in_default-clause.ensures refl

pub returns : goal.returns
returns c = known_if _ _ _ _ c.in-Some.id _ c.follow_clause.result c.in-Some.ensures c.in-Some-clause.ensures c.follow_clause.ensures
