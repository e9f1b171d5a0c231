-- Rows with the same values in some columns.
use Rattle.std.proofs.Common.{◌≡◌, ℕ, ◌<◌, List, length, get_or, sym, ◌∙◌, ap, subst}
use Rattle.std.proofs.Math.ListN.{get_or-map}
use Rattle.std.proofs.lemmas.List.{length-map, get_or_default, same_lists}
use Rattle.cqa_value.specs.declared.value.Value.{Value}
use Rattle.cqa_value.specs.Values.{nothing}
use Rattle.cqa_model.specs.Database.{key_of}

module _ (left right : List ℕ) (a b : List Value) where
  value-at : (columns : List ℕ) (x : List Value) (k : ℕ) (d : Value) → k < length columns → get_or (key_of columns x) k d ≡ get_or x (get_or columns k 0) nothing
  value-at columns x k d l = get_or_default (key_of columns x) k d (get_or x 0 nothing) (subst (λ n. k < n) (sym (length-map columns (λ p. get_or x p nothing))) l) ∙ get_or-map (λ p. get_or x p nothing) columns k 0

  long : (columns : List ℕ) (x : List Value) → length (key_of columns x) ≡ length columns
  long columns x = length-map columns (λ p. get_or x p nothing)

  pub same-all : length right ≡ length left → ((k : ℕ) → k < length left → get_or a (get_or left k 0) nothing ≡ get_or b (get_or right k 0) nothing) → key_of left a ≡ key_of right b
  same-all size each = same_lists (key_of left a) (key_of right b) (long left a ∙ sym size ∙ sym (long right b)) (λ k d l.
      let k_left : k < length left = subst (λ n. k < n) (long left a) l in
      value-at left a k d k_left ∙ each k k_left ∙ sym (value-at right b k d (subst (λ n. k < n) (sym size) k_left)))

  pub same-at : length right ≡ length left → key_of left a ≡ key_of right b → (k : ℕ) → k < length left → get_or a (get_or left k 0) nothing ≡ get_or b (get_or right k 0) nothing
  same-at size same k l = sym (value-at left a k nothing l) ∙ ap (λ z. get_or z k nothing) same ∙ value-at right b k nothing (subst (λ n. k < n) (sym size) l)
