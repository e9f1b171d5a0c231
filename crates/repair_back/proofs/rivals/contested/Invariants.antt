use Rattle.std.proofs.Common.{◌≡◌, take}
use Rattle.repair_back.specs.Results.{contested_of}
use Rattle.repair_back.proofs.rivals.contested.Given as goal

-- those of the names so far
abbrev pub invariant-loop-name : goal.invariant-loop-name
invariant-loop-name l = l.names ≡ contested_of l.db (take l.name-index l.repair.kept)
