use Rattle.std.proofs.Common.{◌↔◌, ℕ, List, Contains, subst}
use Rattle.plan_rows.proofs.place_set.PlaceSet.listed.Goals as goal

pub returns-clause-same : goal.returns-clause-same
returns-clause-same c = subst (λ (places : List ℕ). (p : ℕ) → Contains c.put_in_order.new.places.items p ↔ Contains places p) c.self.view_is c.put_in_order.ensures.same
