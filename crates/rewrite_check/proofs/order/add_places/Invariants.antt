use Rattle.std.proofs.Common.{◌≡◌, Some, take}
use Rattle.std.specs.List.{AllZip}
use Rattle.cqa_model.specs.Shape.{AreDistinct}
use Rattle.query_resolve.specs.Names.{name_place}
use Rattle.rewrite_check.proofs.order.add_places.Given as goal

-- the places so far are those of the names so far, and none stands twice
abbrev pub invariant-loop-name : goal.invariant-loop-name
invariant-loop-name l = AllZip (λ n F. name_place l.tables n ≡ Some F) (take l.name-index l.names) l.order.items × AreDistinct l.order.items
