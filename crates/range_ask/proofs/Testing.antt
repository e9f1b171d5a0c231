-- A test as a truth value is the relation.
use Rattle.std.proofs.Common.{◌≡◌, ◌≢◌, ◌↔◌, Bool, true, false, not, ◌&&◌, [], ◌∷◌, refl, Ordering, Less, Equal, Greater}
use Rattle.std.specs.Ordering.{is_lt, is_gt}
use Rattle.cqa_value.specs.declared.value.Value.{Value}
use Rattle.cqa_value.specs.Values.{value_cmp, value_eq, value_decides}
use Rattle.cqa_model.specs.declared.query.Op.{Op}
use Rattle.cqa_model.specs.declared.query.Op.TheVariants.{Eq, Ne, Lt, Le, Gt, Ge}
use Rattle.cqa_model.specs.Query.{OpHolds}
use Rattle.range_ask.specs.Ranges.{cell, op_passes, meets}
use Rattle.range_ask.specs.Laws.{TestsAreMet}

not_true : (b : Bool) → (not b ≡ true) ↔ (b ≢ true)
not_true true = (λ e. (cc), λ f. absurd (f refl))
not_true false = (λ e g. (cc), λ f. refl)

lt_is : (o : Ordering) → (is_lt o ≡ true) ↔ (o ≡ Less)
lt_is Less = (λ e. refl, λ e. refl)
lt_is Equal = (λ e. (cc), λ e. (cc))
lt_is Greater = (λ e. (cc), λ e. (cc))

gt_is : (o : Ordering) → (is_gt o ≡ true) ↔ (o ≡ Greater)
gt_is Less = (λ e. (cc), λ e. (cc))
gt_is Equal = (λ e. (cc), λ e. (cc))
gt_is Greater = (λ e. refl, λ e. refl)

passes_holds : (op : Op) (x y : Value) → (op_passes op x y ≡ true) ↔ OpHolds op x y
passes_holds Eq x y = value_decides x y
passes_holds Ne x y = let n = not_true (value_eq x y) in let d = value_decides x y in (λ e h. n.0 e (d.1 h), λ f. n.1 (λ e. f (d.0 e)))
passes_holds Lt x y = lt_is (value_cmp x y)
passes_holds Le x y = let n = not_true (is_gt (value_cmp x y)) in let d = gt_is (value_cmp x y) in (λ e h. n.0 e (d.1 h), λ f. n.1 (λ e. f (d.0 e)))
passes_holds Gt x y = gt_is (value_cmp x y)
passes_holds Ge x y = let n = not_true (is_lt (value_cmp x y)) in let d = lt_is (value_cmp x y) in (λ e h. n.0 e (d.1 h), λ f. n.1 (λ e. f (d.0 e)))

both_true : (a b : Bool) → (a && b ≡ true) ↔ ((a ≡ true) × (b ≡ true))
both_true true b = (λ e. (refl, e), λ p. p.1)
both_true false b = (λ e. (cc), λ p. (let z = p.0 in cc))

pub tests_are_met : TestsAreMet
tests_are_met [] row = (λ e. tt, λ t. refl)
tests_are_met (test ∷ tests) row =
    let b = both_true (op_passes test.op (cell row test.col) test.value) (meets tests row) in
    let p = passes_holds test.op (cell row test.col) test.value in
    let ih = tests_are_met tests row in
    (λ e. let h = b.0 e in (p.0 h.0, ih.0 h.1), λ h. b.1 (p.1 h.0, ih.1 h.1))
