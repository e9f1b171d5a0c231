use Rattle.std.proofs.Common.{sym, subst, Contains}
use Rattle.plan_rows.specs.Wanted.{IsWanted}
use Rattle.plan_rows.proofs.wanted.Wanted.after.Goals as goal

pub returns-in-Listed-clause-none : goal.returns-in-Listed-clause-none
returns-in-Listed-clause-none c = λ i low less m.
    c.place_from.ensures.none i low less (subst (λ places. Contains places i) (sym c.as_slice.ensures.value) (subst (λ w. IsWanted w i) c.in-Listed.is m))
