-- A map of groups with one row more.
use Rattle.std.proofs.Common.{◌≡◌, Bool, true, false, refl, sym, ◌∙◌, subst, Some}
use Rattle.std.specs.Ordering.{is_eq}
use Rattle.std.specs.BTreeMap.{BTreeMap, get, UpdatesBy}
use Rattle.cqa_value.specs.declared.value.Value.{Value}
use Rattle.cqa_value.specs.declared.value.Value.TheVariants.{Int, Text}
use Rattle.cqa_value.specs.contracts.value.ValueOrd.TheImpl.{cmp-value as derived_cmp}
use Rattle.cqa_value.specs.Values.{value_cmp, value_ties, value_decides}
use Rattle.aggregate_range.specs.declared.aggregate.Goal.{Goal}
use Rattle.range_ask.specs.declared.total.Turn.{Turn}
use Rattle.range_ask.specs.declared.tally.Tally.{Tally}
use Rattle.range_ask.specs.Tallying.{IsMore, HasRowMore}
use Rattle.std.proofs.Common.{List}

-- the derived order is that of values
derived-is : (a b : Value) → derived_cmp.it a b ≡ value_cmp a b
derived-is (Int m) (Int n) = refl
derived-is (Int m) (Text b) = refl
derived-is (Text a) (Int n) = refl
derived-is (Text a) (Text b) = refl

pub order-is : derived_cmp.it ≡ value_cmp
order-is = λ i a b. derived-is a b i

module _ (goal : Goal) (turn : Turn) (row : List Value) (value : Value) (old new : BTreeMap Value Tally) (tally : Tally) where
  has-more : IsMore goal turn row (get value_cmp old value) tally → UpdatesBy value_cmp (value_cmp value) old new (Some tally) → HasRowMore goal turn row value old new
  has-more m u = record { tally = tally; more = m; here = u.1; others = λ v n. u.2 v (apart v n (is_eq (value_cmp value v)) refl) }
    where
      apart : (v : Value) → (v ≡ value → ⊥) → (b : Bool) → is_eq (value_cmp value v) ≡ b → is_eq (value_cmp value v) ≡ false
      apart v n true e = absurd (n (sym ((value_decides value v).0 (value_ties value v ∙ e))))
      apart v n false e = e

  pub more-updates : IsMore goal turn row (get derived_cmp.it old value) tally → UpdatesBy derived_cmp.it (derived_cmp.it value) old new (Some tally) → HasRowMore goal turn row value old new
  more-updates = subst (λ cmp. IsMore goal turn row (get cmp old value) tally → UpdatesBy cmp (cmp value) old new (Some tally) → HasRowMore goal turn row value old new) (sym order-is) has-more
