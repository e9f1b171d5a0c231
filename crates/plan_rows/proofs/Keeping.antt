-- One key more in a map, if there was memory for it.
use Rattle.std.proofs.Common.{◌≡◌, ◌⊎◌, inl, inr, Bool, true, false, Option, Some, Result, Ok, Err, OnOk, OnErr, List, refl, sym, ◌∙◌, subst}
use Rattle.std.specs.BTreeMap.{BTreeMap, get, Updates, IsUnchanged, is_at}
use Rattle.std.specs.Map.{lookup}
use Rattle.std.specs.Ordering.{is_eq}
use Rattle.std.proofs.lemmas.Option.{same_Some}
use Rattle.cqa_value.specs.declared.value.Value.{Value}
use Rattle.cqa_value.specs.Values.{row_cmp, row_eq, row_ties, row_decides}
use Rattle.cqa_model.proofs.Values.{row_discrete}

pub row_apart : (x y : List Value) → (x ≡ y → ⊥) → is_eq (row_cmp x y) ≡ false
row_apart x y n = go (row_eq x y) refl
  where
    go : (b : Bool) → row_eq x y ≡ b → is_eq (row_cmp x y) ≡ false
    go true e = absurd (n ((row_decides x y).0 e))
    go false e = sym (row_ties x y) ∙ e

pub kept-or-key : {E : Type 0} (old new : BTreeMap (List Value) Bool) (key : List Value) (held : Bool) (r : Result (Option Bool) E) → OnOk r (Updates row_cmp old new key (Some held)) → OnErr r (IsUnchanged old new) →
    (k : List Value) (b : Bool) → get row_cmp new k ≡ Some b → (get row_cmp old k ≡ Some b) ⊎ ((k ≡ key) × (b ≡ held))
kept-or-key old new key held (Ok x) u e k b g = go (row_discrete key k)
  where
    go : Dec (key ≡ k) → (get row_cmp old k ≡ Some b) ⊎ ((k ≡ key) × (b ≡ held))
    go (yes s) = inr (sym s, same_Some b held (sym g ∙ (subst (λ z. get row_cmp new z ≡ Some held) s u.1)))
    go (no n) = inl (sym (u.2 k (row_apart key k n)) ∙ g)
kept-or-key old new key held (Err x) u e k b g = inl (subst (λ es. lookup (is_at (row_cmp k)) es ≡ Some b) e g)
