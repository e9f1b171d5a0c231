-- Tests of rows that follow their first values, where the key begins with the first column.
use Rattle.std.proofs.Common.{◌≡◌, zero, suc, ℕ, Bool, List, [], ◌∷◌, length, get_or, slice_get, Some, None, Bor, take, refl, sym, ap, subst, ◌∙◌}
use Rattle.std.specs.Ordering.{is_lt, ordering_then, ordering_reverse}
use Rattle.std.specs.declared.cmp.Ordering.{Ordering}
use Rattle.std.specs.declared.cmp.Ordering.TheVariants.{Less, Equal, Greater}
use Rattle.std.specs.declared.option.Option.{Option}
use Rattle.std.specs.Option.{IfSome}
use Rattle.std.proofs.lemmas.Option.{get_or_from_slice_get}
use Rattle.cqa_value.specs.declared.value.Value.{Value}
use Rattle.cqa_value.specs.Values.{nothing, value_cmp, value_cmp_total, row_cmp}
use Rattle.cqa_model.specs.Database.{key_of, block_cmp}
use Rattle.row_pieces.specs.Marks.{FollowsFirst, FollowsSecond}
use Rattle.row_order.specs.Spans.{probe_cmp, comes_before}

-- to come before a row in block order
pub follows_row : (key : List ℕ) (row : List Value) (value : Value) → slice_get key 0 ≡ Some 0 → value ≡ get_or row 0 nothing → FollowsFirst value (λ other. is_lt (block_cmp key other row))
follows_row [] row value e same = cc
follows_row (suc k ∷ key) row value e same = cc
follows_row (zero ∷ key) row value e same =
    subst (λ v. FollowsFirst v (λ other. is_lt (block_cmp (0 ∷ key) other row))) (sym same) record {
      below = λ other l. ap (λ o. is_lt (ordering_then (ordering_then o (row_cmp (key_of key other) (key_of key row))) (row_cmp other row))) l;
      above = λ other g. ap (λ o. is_lt (ordering_then (ordering_then o (row_cmp (key_of key other) (key_of key row))) (row_cmp other row))) g;
    }

-- to come before the rows of a probe
pub follows_probe : (ties : Bool) (key : List ℕ) (probe : List Value) (value : Value) → slice_get key 0 ≡ Some 0 → slice_get probe 0 ≡ Some value → FollowsFirst value (λ row. comes_before ties (probe_cmp key probe row))
follows_probe ties key [] value e same = cc
follows_probe ties [] (v ∷ probe) value e same = cc
follows_probe ties (suc k ∷ key) (v ∷ probe) value e same = cc
follows_probe ties (zero ∷ key) (v ∷ probe) value e same =
    let is : v ≡ value = cc in
    subst (λ u. FollowsFirst u (λ row. comes_before ties (probe_cmp (0 ∷ key) (v ∷ probe) row))) is record {
      below = λ row l. ap (λ o. comes_before ties (ordering_then o (row_cmp (key_of (take (length probe) key) row) probe))) l;
      above = λ row g. ap (λ o. comes_before ties (ordering_then o (row_cmp (key_of (take (length probe) key) row) probe))) g;
    }

reversed : (o : Ordering) → o ≡ ordering_reverse o → o ≡ Equal
reversed Less e = cc
reversed Equal e = refl
reversed Greater e = cc

pub tied : (x y : Value) → x ≡ y → value_cmp x y ≡ Equal
tied x y e = ap (value_cmp x) (sym e) ∙ reversed (value_cmp x x) (value_cmp_total.antisymm x x)

-- the same of the second values, where the second column of the key is the second one
pub then_follows_row : (key : List ℕ) (row : List Value) (value then : Value) → slice_get key 0 ≡ Some 0 → slice_get key 1 ≡ Some 1 → value ≡ get_or row 0 nothing → then ≡ get_or row 1 nothing → FollowsSecond value then (λ other. is_lt (block_cmp key other row))
then_follows_row [] row value then e f same also = cc
then_follows_row (suc k ∷ key) row value then e f same also = cc
then_follows_row (zero ∷ []) row value then e f same also = cc
then_follows_row (zero ∷ zero ∷ key) row value then e f same also = cc
then_follows_row (zero ∷ suc (suc k) ∷ key) row value then e f same also = cc
then_follows_row (zero ∷ suc zero ∷ key) row value then e f same also =
    let late : List Value → Ordering → Bool = λ other o. is_lt (ordering_then (ordering_then o (ordering_then (value_cmp (get_or other 1 nothing) (get_or row 1 nothing)) (row_cmp (key_of key other) (key_of key row)))) (row_cmp other row)) in
    let later : List Value → Ordering → Bool = λ other o. is_lt (ordering_then (ordering_then o (row_cmp (key_of key other) (key_of key row))) (row_cmp other row)) in
    subst (λ v. FollowsSecond v then (λ other. is_lt (block_cmp (0 ∷ 1 ∷ key) other row))) (sym same)
    (subst (λ v. FollowsSecond (get_or row 0 nothing) v (λ other. is_lt (block_cmp (0 ∷ 1 ∷ key) other row))) (sym also) record {
      below = λ other i l. ap (late other) (tied (get_or other 0 nothing) (get_or row 0 nothing) i) ∙ ap (later other) l;
      above = λ other i g. ap (late other) (tied (get_or other 0 nothing) (get_or row 0 nothing) i) ∙ ap (later other) g;
    })

pub then_follows_probe : (ties : Bool) (key : List ℕ) (probe : List Value) (value then : Value) → slice_get key 0 ≡ Some 0 → slice_get key 1 ≡ Some 1 → slice_get probe 0 ≡ Some value → slice_get probe 1 ≡ Some then → FollowsSecond value then (λ row. comes_before ties (probe_cmp key probe row))
then_follows_probe ties key [] value then e f is also = cc
then_follows_probe ties key (v ∷ []) value then e f is also = cc
then_follows_probe ties [] (v ∷ u ∷ probe) value then e f is also = cc
then_follows_probe ties (suc k ∷ key) (v ∷ u ∷ probe) value then e f is also = cc
then_follows_probe ties (zero ∷ []) (v ∷ u ∷ probe) value then e f is also = cc
then_follows_probe ties (zero ∷ zero ∷ key) (v ∷ u ∷ probe) value then e f is also = cc
then_follows_probe ties (zero ∷ suc (suc k) ∷ key) (v ∷ u ∷ probe) value then e f is also = cc
then_follows_probe ties (zero ∷ suc zero ∷ key) (v ∷ u ∷ probe) value then e f is also =
    let first : v ≡ value = cc in
    let second : u ≡ then = cc in
    let late : List Value → Ordering → Bool = λ row o. comes_before ties (ordering_then o (ordering_then (value_cmp (get_or row 1 nothing) u) (row_cmp (key_of (take (length probe) key) row) probe))) in
    let later : List Value → Ordering → Bool = λ row o. comes_before ties (ordering_then o (row_cmp (key_of (take (length probe) key) row) probe)) in
    subst (λ w. FollowsSecond w then (λ row. comes_before ties (probe_cmp (0 ∷ 1 ∷ key) (v ∷ u ∷ probe) row))) first
    (subst (λ w. FollowsSecond v w (λ row. comes_before ties (probe_cmp (0 ∷ 1 ∷ key) (v ∷ u ∷ probe) row))) second record {
      below = λ row i l. ap (late row) (tied (get_or row 0 nothing) v i) ∙ ap (later row) l;
      above = λ row i g. ap (late row) (tied (get_or row 0 nothing) v i) ∙ ap (later row) g;
    })

-- where there are such values
pub followed : (near second : Option (Bor Value)) (key : List ℕ) (row : List Value) → IfSome near (λ value. (slice_get key 0 ≡ Some 0) × (slice_get row 0 ≡ Some value.now)) → IfSome second (λ value. (slice_get key 1 ≡ Some 1) × (slice_get row 1 ≡ Some value.now)) → IfSome near (λ value. FollowsFirst value.now (λ other. is_lt (block_cmp key other row)) × IfSome second (λ then. FollowsSecond value.now then.now (λ other. is_lt (block_cmp key other row))))
followed None second key row h i = tt
followed (Some value) None key row h i = (follows_row key row value.now h.0 (sym (get_or_from_slice_get row 0 value.now nothing h.1)), tt)
followed (Some value) (Some then) key row h i =
    let same = sym (get_or_from_slice_get row 0 value.now nothing h.1) in
    (follows_row key row value.now h.0 same, then_follows_row key row value.now then.now h.0 i.0 same (sym (get_or_from_slice_get row 1 then.now nothing i.1)))

pub followed_probe : (near second : Option (Bor Value)) (ties : Bool) (key : List ℕ) (probe : List Value) → IfSome near (λ value. (slice_get key 0 ≡ Some 0) × (slice_get probe 0 ≡ Some value.now)) → IfSome second (λ value. (slice_get key 1 ≡ Some 1) × (slice_get probe 1 ≡ Some value.now)) → IfSome near (λ value. FollowsFirst value.now (λ row. comes_before ties (probe_cmp key probe row)) × IfSome second (λ then. FollowsSecond value.now then.now (λ row. comes_before ties (probe_cmp key probe row))))
followed_probe None second ties key probe h i = tt
followed_probe (Some value) None ties key probe h i = (follows_probe ties key probe value.now h.0 h.1, tt)
followed_probe (Some value) (Some then) ties key probe h i = (follows_probe ties key probe value.now h.0 h.1, then_follows_probe ties key probe value.now then.now h.0 i.0 h.1 i.1)
