use Rattle.std.proofs.Common.{◌≡◌, take, length, vec_len}
use Rattle.search_trail.specs.Trail.{held, AreTrailPlaces, AllInRange}
use Rattle.search_trail.proofs.trail.cut.Given as goal

abbrev pub invariant-loop-trail : goal.invariant-loop-trail
invariant-loop-trail l = record {
  trail : take l.len l.trail.items ≡ take l.len l.initial.trail.items;
  range : AllInRange (held l.trail.items) (length l.places.items);
  places : AreTrailPlaces (held l.trail.items) l.places.items;
  same : length l.places.items ≡ length l.initial.places.items;
}

abbrev pub decreases-loop-trail : goal.decreases-loop-trail
decreases-loop-trail l = vec_len l.trail
