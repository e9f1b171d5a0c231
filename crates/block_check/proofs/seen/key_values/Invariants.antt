use Rattle.std.proofs.Common.{◌≡◌, ◌∷◌, take, pos}
use Rattle.cqa_value.specs.declared.value.Value.TheVariants.{Int}
use Rattle.cqa_model.specs.Database.{key_of}
use Rattle.block_check.proofs.seen.key_values.Given as goal

-- the values of the places so far
abbrev pub invariant-loop-place : goal.invariant-loop-place
invariant-loop-place l = l.key ≡ Int (pos l.atom) ∷ key_of (take l.place-index l.columns) l.row
