-- What is told of the row of some witnesses is told of the row and the bound query that they were found for.
use Rattle.std.proofs.Common.{◌≡◌, List, subst}
use Rattle.cqa_value.specs.declared.value.Value.{Value}
use Rattle.table_blocks.specs.declared.bound.Bound.{Bound}

pub carried : (P : Bound → List Value → Type 0) (a b : Bound) (x y : List Value) → a ≡ b → x ≡ y → P a x → P b y
carried P a b x y e f h = subst (λ c. P c y) e (subst (P a) f h)
