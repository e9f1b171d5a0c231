-- Rows that share a key, and rows of which no two do.
use Rattle.std.proofs.Common.{◌≡◌, ◌<◌, ℕ, zero, suc, Bool, true, false, cond, inl, inr, true≢false, List, [], ◌∷◌, length, get_or, Contains, Some, None, refl, sym, ap, ◌∙◌, arith}
use Rattle.std.specs.Bool.{Decides}
use Rattle.std.specs.List.Sorted.{IsStrictlySortedBy}
use Rattle.std.proofs.lemmas.Bool.{cases_order}
use Rattle.std.proofs.lemmas.List.{get_or_default}
use Rattle.cqa_value.specs.declared.value.Value.{Value}
use Rattle.cqa_value.specs.Values.{row_decides}
use Rattle.cqa_model.specs.Database.{AreConsistent, SharesKey, key_of, block_cmp, nothing}
use Rattle.cqa_model.proofs.BlockOrder.{shares-from_key, key-from_shares, grouped}
use Rattle.table_blocks.specs.declared.clash.Clash.{Clash}
use Rattle.table_blocks.specs.Keys.{same_key, first_clash}

module _ (key : List ℕ) where
  pub same_decides : (x y : List Value) → Decides (same_key key x y) (SharesKey key x y)
  same_decides x y = let d = row_decides (key_of key x) (key_of key y) in (λ e. shares-from_key key x y (d.0 e), λ s. d.1 (key-from_shares key x y s))

  pub same_self : (x : List Value) → same_key key x x ≡ true
  same_self x = (row_decides (key_of key x) (key_of key x)).1 refl

  pub same_trans : (x y z : List Value) → same_key key x y ≡ true → same_key key x z ≡ true → same_key key y z ≡ true
  same_trans x y z a b =
      let d = row_decides (key_of key x) (key_of key y) in
      let f = row_decides (key_of key x) (key_of key z) in
      (row_decides (key_of key y) (key_of key z)).1 (sym (d.0 a) ∙ f.0 b)

-- consistent rows stay so where some of them are left out
pub consistent_within : (key : List ℕ) (all some : List (List Value)) → AreConsistent key all → ((row : List Value) → Contains some row → Contains all row) → AreConsistent key some
consistent_within key all some c within x y mx my s = c x y (within x mx) (within y my) s

-- neighbours have different keys where none clash
neighbours : (key : List ℕ) (rows : List (List Value)) → first_clash key rows ≡ None → (i : ℕ) (d : List Value) → suc i < length rows → same_key key (get_or rows i d) (get_or rows (suc i) d) ≡ false
neighbours key [] e i d l = absurd (omega (arith, l))
neighbours key (x ∷ []) e i d l = absurd (omega (arith, l))
neighbours key (x ∷ y ∷ rows) e i d l = go (same_key key x y) refl (λ none i l. neighbours key (y ∷ rows) none i d l) i l
  where
    some_none : {clash : Clash} → Some clash ≡ None → ⊥
    some_none e = (cc)

    go : (b : Bool) → same_key key x y ≡ b → (first_clash key (y ∷ rows) ≡ None → (i : ℕ) → suc i < length (y ∷ rows) → same_key key (get_or (y ∷ rows) i d) (get_or (y ∷ rows) (suc i) d) ≡ false)
        → (i : ℕ) → suc i < length (x ∷ y ∷ rows) → same_key key (get_or (x ∷ y ∷ rows) i d) (get_or (x ∷ y ∷ rows) (suc i) d) ≡ false
    go true q more i l = absurd (some_none (sym (ap (λ b. cond b (Some (record { first = x; second = y })) (first_clash key (y ∷ rows))) q) ∙ e))
    go false q more zero l = q
    go false q more (suc i) l = more (sym (ap (λ b. cond b (Some (record { first = x; second = y })) (first_clash key (y ∷ rows))) q) ∙ e) i (omega (arith, l))

-- rows in block order of which no neighbours share the key are consistent
pub consistent_unbroken : (key : List ℕ) (rows : List (List Value)) → IsStrictlySortedBy (block_cmp key) rows → first_clash key rows ≡ None → AreConsistent key rows
consistent_unbroken key rows s e x y (i, bi, ei) (j, bj, ej) shares = elim (cases_order i j) [
  | inl q ↦ first ∙ ap (λ n. get_or rows n []) q ∙ sym second
  | inr h ↦ elim h [
    | inl l ↦ absurd (apart i j l bj (λ p m. ap (λ z. get_or z p nothing) (sym first) ∙ shares p m ∙ ap (λ z. get_or z p nothing) second))
    | inr l ↦ absurd (apart j i l bi (λ p m. ap (λ z. get_or z p nothing) (sym second) ∙ sym (shares p m) ∙ ap (λ z. get_or z p nothing) first))
  ]
]
  where
    first : x ≡ get_or rows i []
    first = sym ei ∙ get_or_default rows i x [] bi

    second : y ≡ get_or rows j []
    second = sym ej ∙ get_or_default rows j y [] bj

    apart : (i j : ℕ) → i < j → j < length rows → SharesKey key (get_or rows i []) (get_or rows j []) → ⊥
    apart i j l b shares = true≢false (sym ((same_decides key (get_or rows i []) (get_or rows (suc i) [])).1 (grouped key rows s i (suc i) j (omega arith) (omega (arith, l)) b shares)) ∙ neighbours key rows e i [] (omega (arith, l, b)))
