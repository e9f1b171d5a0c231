use Rattle.std.proofs.Common.{◌≡◌, ◌++◌, length, take}
use Rattle.list_search.specs.Classing.{rows_from}
use Rattle.list_search.proofs.singles.add_places.Given as goal

-- the rows so far have numbers
abbrev pub invariant-loop-place : goal.invariant-loop-place
invariant-loop-place l = l.numbered.items ≡ l.fn.numbered.items ++ rows_from l.slot (length l.fn.numbered.items) (take l.place-index l.places)
