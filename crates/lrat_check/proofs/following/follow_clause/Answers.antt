use Rattle.std.proofs.Common.{refl}
use Rattle.lrat_check.proofs.Followed.{has_two_free, unit_on}
use Rattle.lrat_check.proofs.following.follow_clause.Goals as goal

pub returns-in-Many : goal.returns-in-Many
returns-in-Many c = λ held s. (has_two_free _ held _ s c.in-Many.ensures, refl)

pub returns-in_ok-hold-in-Unit : goal.returns-in_ok-hold-in-Unit
returns-in_ok-hold-in-Unit c = unit_on _ _ _ c.in-Unit.lit c.in_ok-hold-in-Unit.field-0 c.in-Unit.ensures c.in_ok-hold-in-Unit.ensures
