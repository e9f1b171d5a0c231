use Rattle.std.proofs.Common.{take}
use Rattle.join_access.specs.Listing.{names_of}
use Rattle.list_search.specs.Avoiding.{HaveLoose}
use Rattle.list_search.proofs.avoiding.have_loose.Given as goal

-- the lists so far have one
abbrev pub invariant-loop-list : goal.invariant-loop-list
invariant-loop-list l = HaveLoose l.lists.db.now (names_of l.lists.lists.now) (names_of (take l.list-index l.lists.lists.now))
