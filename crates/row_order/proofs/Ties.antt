-- Two orderings, one after the other: the first decides unless it is a tie.
use Rattle.std.proofs.Common.{◌≡◌, true, false, not, ◌==◌, refl}
use Rattle.std.specs.Ordering.{ordering_then, ordering_index}
use Rattle.std.specs.declared.cmp.Ordering.{Ordering}
use Rattle.std.specs.declared.cmp.Ordering.TheVariants.{Less, Equal, Greater}

pub decides : (o p : Ordering) → true ≡ not (ordering_index o == 1) → ordering_then o p ≡ o
decides Less p e = refl
decides Equal p e = cc
decides Greater p e = refl

pub ties_on : (o p : Ordering) → false ≡ not (ordering_index o == 1) → ordering_then o p ≡ p
ties_on Less p e = cc
ties_on Equal p e = refl
ties_on Greater p e = cc
