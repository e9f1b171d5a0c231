use Rattle.std.proofs.Common.{◌≡◌, ◌∷◌}
use Rattle.table_blocks.specs.Keys.{first_clash}
use Rattle.table_blocks.proofs.clash.first_broken.Given as goal

-- the rows so far have different keys
abbrev pub invariant-loop-second : goal.invariant-loop-second
invariant-loop-second l = first_clash l.key l.rows ≡ first_clash l.key (l.first ∷ l.second-iterator)
