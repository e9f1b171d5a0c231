-- The first atom of a plan and the rest, and the atoms in front.
use Rattle.std.proofs.Common.{◌≡◌, ℕ, suc, ◌≤◌, ◌-◌, List, [], ◌∷◌, length, get_or, take, drop, ap, arith}
use Rattle.std.proofs.lemmas.Grind.{common_steps}

pub plan-split : (plan : List ℕ) → 1 ≤ length plan → plan ≡ get_or plan 0 0 ∷ take (length plan - 1) (drop 1 plan)
plan-split [] l = absurd (omega arith)
plan-split (F ∷ plan) l = grind (arith, common_steps)

pub rest-shorter : (plan : List ℕ) → 1 ≤ length plan → length plan ≡ suc (length (take (length plan - 1) (drop 1 plan)))
rest-shorter plan l = ap length (plan-split plan l)
