use Rattle.std.proofs.Common.{arith, List, Option, ℕ, None, subst}
use Rattle.cdcl.specs.Visits.{ConflictIs}
use Rattle.search_trail.specs.Trail.{held}
use Rattle.search_trail.specs.Open.{NextIs}
use Rattle.search_trail.proofs.Places.{trail_fits}
use Rattle.cdcl.proofs.Values.{open_var_is}
use Rattle.cdcl.proofs.States.{length_held}
use Rattle.cdcl.proofs.solver.Solver.search.Goals as goal

pub loop-conflict-smaller : goal.loop-conflict-smaller
loop-conflict-smaller c =
    let s = c.in_ok-decide-in-Some-next.ensures.ready.watchful.sound in
    let f = trail_fits (held c.decide.new.self.trail.items) c.decide.new.self.places.items s.places_are s.held_in in
    let h = length_held c.decide.new.self.trail.items in
    omega (arith, f, h, c.in_ok-decide-in-Some-next.ensures.trail, c.decide.ensures.same.len, c.propagate.ensures.same.len, c.in_ok-conflict.ensures.grows)

pub returns-in-None-clause-found : goal.returns-in-None-clause-found
returns-in-None-clause-found c =
    let s = c.propagate.new.self in
    let done : ConflictIs s None = subst (λ (r : Option ℕ). ConflictIs s r) c.in_default.is c.in_ok-conflict.ensures.conflict in (
      done.0,
      open_var_is s c.in_ok-conflict.ensures.ready.watchful.sound None (subst (λ (ps : List (Option ℕ)). NextIs ps None) c.as_slice.ensures.value c.in-None.ensures),
    )
