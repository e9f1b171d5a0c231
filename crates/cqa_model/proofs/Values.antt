-- Values, operators and rows are decided.
use Rattle.std.proofs.Common.{◌≡◌, List, refl, ap, Ordering, Less, Equal, Greater}
use native.Mathlib.Decide.{ℕ_discrete}
use mathlib.Core.List.{List-discrete}
use lib.IntN.{ℤ_discrete}
use Rattle.cqa_model.specs.declared.query.Op.{Op}
use Rattle.cqa_model.specs.declared.query.Op.TheVariants.{Eq, Ne, Lt, Le, Gt, Ge}
use Rattle.cqa_value.specs.declared.value.Value.{Value}
use Rattle.cqa_value.specs.declared.value.Value.TheVariants.{Int, Text}
use Rattle.cqa_model.specs.Query.{OpHolds}
use Rattle.cqa_value.specs.Values.{value_cmp}

pub dec_by : {A B : Type 0} → (A → B) → (B → A) → Dec A → Dec B
dec_by f g (yes a) = yes (f a)
dec_by f g (no h) = no (λ b. h (g b))

pub dec_not : {A : Type 0} → Dec A → Dec (A → ⊥)
dec_not (yes a) = no (λ f. f a)
dec_not (no f) = yes f

pub value_discrete : (x y : Value) → Dec (x ≡ y)
value_discrete (Int x) (Int y) = dec_by (λ e. ap Int e) (λ e. cc e) (ℤ_discrete x y)
value_discrete (Int x) (Text t) = no (λ e. cc e)
value_discrete (Text s) (Int y) = no (λ e. cc e)
value_discrete (Text s) (Text t) = dec_by (λ e. ap Text e) (λ e. cc e) (List-discrete ℕ_discrete s t)

pub row_discrete : (x y : List Value) → Dec (x ≡ y)
row_discrete = List-discrete value_discrete

dec_less : (o : Ordering) → Dec (o ≡ Less)
dec_less Less = yes refl
dec_less Equal = no (λ e. cc e)
dec_less Greater = no (λ e. cc e)

dec_greater : (o : Ordering) → Dec (o ≡ Greater)
dec_greater Less = no (λ e. cc e)
dec_greater Equal = no (λ e. cc e)
dec_greater Greater = yes refl

pub dec_op : (op : Op) (x y : Value) → Dec (OpHolds op x y)
dec_op Eq x y = value_discrete x y
dec_op Ne x y = dec_not (value_discrete x y)
dec_op Lt x y = dec_less (value_cmp x y)
dec_op Le x y = dec_not (dec_greater (value_cmp x y))
dec_op Gt x y = dec_greater (value_cmp x y)
dec_op Ge x y = dec_not (dec_less (value_cmp x y))
