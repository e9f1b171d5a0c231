-- Tests of rows by their key values that follow their first values, where the key begins with the first column.
use Rattle.std.proofs.Common.{◌≡◌, zero, suc, ℕ, Bool, List, [], ◌∷◌, get_or, slice_get, Some, None, Bor, sym, ap, subst, ◌∙◌}
use Rattle.std.specs.Ordering.{is_lt, ordering_then}
use Rattle.std.specs.declared.cmp.Ordering.{Ordering}
use Rattle.std.specs.declared.option.Option.{Option}
use Rattle.std.specs.Option.{IfSome}
use Rattle.std.proofs.lemmas.Option.{get_or_from_slice_get}
use Rattle.cqa_value.specs.declared.value.Value.{Value}
use Rattle.cqa_value.specs.Values.{nothing, value_cmp, row_cmp}
use Rattle.cqa_model.specs.Database.{key_of}
use Rattle.row_pieces.specs.Marks.{FollowsFirst, FollowsSecond}
use Rattle.table_blocks.proofs.Following.{tied}

-- to come before a row by key values
follows_key : (key : List ℕ) (row : List Value) (value : Value) → slice_get key 0 ≡ Some 0 → value ≡ get_or row 0 nothing → FollowsFirst value (λ other. is_lt (row_cmp (key_of key other) (key_of key row)))
follows_key [] row value e same = cc
follows_key (suc k ∷ key) row value e same = cc
follows_key (zero ∷ key) row value e same =
    subst (λ v. FollowsFirst v (λ other. is_lt (row_cmp (key_of (0 ∷ key) other) (key_of (0 ∷ key) row)))) (sym same) record {
      below = λ other l. ap (λ o. is_lt (ordering_then o (row_cmp (key_of key other) (key_of key row)))) l;
      above = λ other g. ap (λ o. is_lt (ordering_then o (row_cmp (key_of key other) (key_of key row)))) g;
    }

then_follows_key : (key : List ℕ) (row : List Value) (value then : Value) → slice_get key 0 ≡ Some 0 → slice_get key 1 ≡ Some 1 → value ≡ get_or row 0 nothing → then ≡ get_or row 1 nothing → FollowsSecond value then (λ other. is_lt (row_cmp (key_of key other) (key_of key row)))
then_follows_key [] row value then e f same also = cc
then_follows_key (suc k ∷ key) row value then e f same also = cc
then_follows_key (zero ∷ []) row value then e f same also = cc
then_follows_key (zero ∷ zero ∷ key) row value then e f same also = cc
then_follows_key (zero ∷ suc (suc k) ∷ key) row value then e f same also = cc
then_follows_key (zero ∷ suc zero ∷ key) row value then e f same also =
    let late : List Value → Ordering → Bool = λ other o. is_lt (ordering_then o (ordering_then (value_cmp (get_or other 1 nothing) (get_or row 1 nothing)) (row_cmp (key_of key other) (key_of key row)))) in
    let later : List Value → Ordering → Bool = λ other o. is_lt (ordering_then o (row_cmp (key_of key other) (key_of key row))) in
    subst (λ v. FollowsSecond v then (λ other. is_lt (row_cmp (key_of (0 ∷ 1 ∷ key) other) (key_of (0 ∷ 1 ∷ key) row)))) (sym same)
    (subst (λ v. FollowsSecond (get_or row 0 nothing) v (λ other. is_lt (row_cmp (key_of (0 ∷ 1 ∷ key) other) (key_of (0 ∷ 1 ∷ key) row)))) (sym also) record {
      below = λ other i l. ap (late other) (tied (get_or other 0 nothing) (get_or row 0 nothing) i) ∙ ap (later other) l;
      above = λ other i g. ap (late other) (tied (get_or other 0 nothing) (get_or row 0 nothing) i) ∙ ap (later other) g;
    })

-- where there are such values
pub followed_key : (near second : Option (Bor Value)) (key : List ℕ) (row : List Value) → IfSome near (λ value. (slice_get key 0 ≡ Some 0) × (slice_get row 0 ≡ Some value.now)) → IfSome second (λ value. (slice_get key 1 ≡ Some 1) × (slice_get row 1 ≡ Some value.now)) → IfSome near (λ value. FollowsFirst value.now (λ other. is_lt (row_cmp (key_of key other) (key_of key row))) × IfSome second (λ then. FollowsSecond value.now then.now (λ other. is_lt (row_cmp (key_of key other) (key_of key row)))))
followed_key None second key row h i = tt
followed_key (Some value) None key row h i = (follows_key key row value.now h.0 (sym (get_or_from_slice_get row 0 value.now nothing h.1)), tt)
followed_key (Some value) (Some then) key row h i =
    let same = sym (get_or_from_slice_get row 0 value.now nothing h.1) in
    (follows_key key row value.now h.0 same, then_follows_key key row value.now then.now h.0 i.0 same (sym (get_or_from_slice_get row 1 then.now nothing i.1)))
