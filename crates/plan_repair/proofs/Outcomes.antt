-- What mending leaves, by its result.
use Rattle.std.proofs.Common.{◌≡◌, ◌≤◌, ℕ, Bool, Option, Some, IfSome, List, subst, true≢false}
use Rattle.cqa_value.specs.declared.value.Value.{Value}
use Rattle.cqa_model.specs.Plan.{Placed}
use Rattle.plan_repair.specs.declared.way.Way.{Way}
use Rattle.plan_repair.specs.Along.{KeepsOne, IsExchanged, IsFreeFrom, LacksBlock, MendsBlock}

-- where the rows taken and a row of the block were made free of witnesses
pub block-found : (way : Way) (taken : List Placed) (F : ℕ) (x : List Value) (H : Type 0) (old new : List (List Bool)) (r : Option ℕ) (count : ℕ) → r ≡ Some count → KeepsOne way new → IsExchanged way taken old new →
    IfSome r (λ n. IsFreeFrom way taken new n) → LacksBlock way taken F new x → MendsBlock way taken F x H old new (Some count)
block-found way taken F x H old new r count is chosen reached free lacks = record {
  chosen = chosen;
  reached = reached;
  mended = subst (λ z. IfSome z (λ n. IsFreeFrom way taken new n)) is free;
  lacks = λ e. lacks;
  holds = λ e. absurd (true≢false e);
}

pub few-of : (r : Option ℕ) (count bound : ℕ) → r ≡ Some count → IfSome r (λ n. n ≤ bound) → count ≤ bound
few-of r count bound is few = subst (λ z. IfSome z (λ n. n ≤ bound)) is few
