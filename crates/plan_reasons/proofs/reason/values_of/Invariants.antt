use Rattle.std.proofs.Common.{◌≡◌, take}
use Rattle.cqa_model.specs.Database.{key_of}
use Rattle.plan_reasons.proofs.reason.values_of.Given as goal

-- the values so far
abbrev pub invariant-loop-place : goal.invariant-loop-place
invariant-loop-place l = l.values ≡ key_of (take l.place-index l.key) l.row
