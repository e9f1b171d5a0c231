-- The order of values, either way.
use Rattle.std.proofs.Common.{◌≡◌, ◌≢◌, true, false, refl, sym, ◌∙◌, Ordering, Less, Equal, Greater}
use Rattle.std.specs.Ordering.{is_lt, is_gt, is_eq, ordering_reverse}
use Rattle.std.proofs.lemmas.Cmp.{upto, tied_itself}
use Rattle.cqa_value.specs.declared.value.Value.{Value}
use Rattle.cqa_value.specs.Values.{value_cmp, value_cmp_total, value_decides, value_ties}
use Rattle.range_ask.specs.declared.way.Way.{Way}
use Rattle.range_ask.specs.declared.way.Way.TheVariants.{Up, Down}
use Rattle.range_ask.specs.Ranges.{AtMost}
use Rattle.range_ask.specs.Picks.{Before, turned}

pub not_gt : (o : Ordering) → o ≢ Greater → is_gt o ≡ false
not_gt Less n = refl
not_gt Equal n = refl
not_gt Greater n = absurd (n refl)

gt_not : (o : Ordering) → is_gt o ≡ false → o ≢ Greater
gt_not Less e = λ g. (cc)
gt_not Equal e = λ g. (cc)
gt_not Greater e = λ g. (cc)

pub at_most-trans : (x y z : Value) → AtMost x y → AtMost y z → AtMost x z
at_most-trans x y z h k = gt_not (value_cmp x z) (upto value_cmp_total x y z (not_gt (value_cmp x y) h) (not_gt (value_cmp y z) k))

at_most-self : (x : Value) → AtMost x x
at_most-self x g = let e : Equal ≡ Greater = sym (tied_itself value_cmp_total x) ∙ g in (cc)

tied : (o p : Ordering) → o ≡ ordering_reverse p → o ≢ Greater → p ≢ Greater → is_eq o ≡ true
tied Less Less e h k = (cc)
tied Less Equal e h k = (cc)
tied Less Greater e h k = absurd (k refl)
tied Equal p e h k = refl
tied Greater p e h k = absurd (h refl)

pub at_most-both : (x y : Value) → AtMost x y → AtMost y x → x ≡ y
at_most-both x y h k = (value_decides x y).0 (value_ties x y ∙ tied (value_cmp x y) (value_cmp y x) (value_cmp_total.antisymm x y) h k)

pub before-trans : (way : Way) (x y z : Value) → Before way x y → Before way y z → Before way x z
before-trans Up x y z h k = at_most-trans x y z h k
before-trans Down x y z h k = at_most-trans z y x k h

pub before-self : (way : Way) (x : Value) → Before way x x
before-self Up x = at_most-self x
before-self Down x = at_most-self x

pub before-turned : (way : Way) (x y : Value) → Before (turned way) x y → Before way y x
before-turned Up x y h = h
before-turned Down x y h = h

-- ---- what a comparison tells

lt-less : (o p : Ordering) → p ≡ ordering_reverse o → is_lt o ≡ true → o ≢ Greater
lt-less Less p e t = λ g. (cc)
lt-less Equal p e t = λ g. (cc)
lt-less Greater p e t = λ g. (cc)

lt-not : (o p : Ordering) → p ≡ ordering_reverse o → is_lt o ≡ false → p ≢ Greater
lt-not Less p e t = λ g. (cc)
lt-not Equal p e t = λ g. let z : Equal ≡ Greater = sym e ∙ g in (cc)
lt-not Greater p e t = λ g. let z : Less ≡ Greater = sym e ∙ g in (cc)

gt-greater : (o p : Ordering) → p ≡ ordering_reverse o → is_gt o ≡ true → p ≢ Greater
gt-greater Less p e t = λ g. (cc)
gt-greater Equal p e t = λ g. (cc)
gt-greater Greater p e t = λ g. let z : Less ≡ Greater = sym e ∙ g in (cc)

pub lt-before : (x y : Value) → is_lt (value_cmp x y) ≡ true → AtMost x y
lt-before x y t = lt-less (value_cmp x y) (value_cmp y x) (value_cmp_total.antisymm y x) t

pub lt-behind : (x y : Value) → is_lt (value_cmp x y) ≡ false → AtMost y x
lt-behind x y t = lt-not (value_cmp x y) (value_cmp y x) (value_cmp_total.antisymm y x) t

pub gt-before : (x y : Value) → is_gt (value_cmp x y) ≡ true → AtMost y x
gt-before x y t = gt-greater (value_cmp x y) (value_cmp y x) (value_cmp_total.antisymm y x) t

pub gt-behind : (x y : Value) → is_gt (value_cmp x y) ≡ false → AtMost x y
gt-behind x y t = gt_not (value_cmp x y) t
