-- Another row of a block stands beside the row.
use Rattle.std.proofs.Common.{◌≡◌, ℕ, zero, suc, ◌+◌, ◌-◌, ◌<◌, ◌⊎◌, ◌&&◌, inl, inr, Bool, true, false, not, List, [], ◌∷◌, length, get_or, refl, ap, sym, subst, arith, Less}
use Rattle.std.specs.List.{list_any}
use Rattle.std.specs.List.Sorted.{IsStrictlySortedBy}
use Rattle.std.proofs.lemmas.Bool.{false≢true, and_parts, and_from, cases_order, not_from_false, false_from_ne_true}
use Rattle.std.proofs.lemmas.Map.Keys.{Less-from_sorted}
use Rattle.cqa_value.specs.declared.value.Value.{Value}
use Rattle.cqa_value.specs.Values.{row_eq, row_decides}
use Rattle.cqa_value.proofs.Words.{clash_not, not_less}
use Rattle.cqa_model.specs.Database.{key_of, block_cmp}
use Rattle.cqa_model.specs.Repairs.{SharesKey}
use Rattle.cqa_model.proofs.BlockOrder.{grouped, shares-from_key, key-from_shares, block_total}
use Rattle.cqa_model.proofs.Repairs.{shares-sym, shares-trans}
use Rattle.repair_back.specs.Results.{is_of_block, is_contested}

any-at : (p : List Value → Bool) (xs : List (List Value)) → list_any p xs ≡ true → (i : ℕ) × (i < length xs) × (p (get_or xs i []) ≡ true)
any-at p [] e = absurd (false≢true e)
any-at p (x ∷ xs) e = go (p x) refl (λ f. any-at p xs f)
  where
    go : (b : Bool) → p x ≡ b → (list_any p xs ≡ true → (i : ℕ) × (i < length xs) × (p (get_or xs i []) ≡ true)) → (i : ℕ) × (i < length (x ∷ xs)) × (p (get_or (x ∷ xs) i []) ≡ true)
    go true f next = (0, omega arith, f)
    go false f next = let r = next (subst (λ b. Rattle.std.proofs.Common.◌||◌ b (list_any p xs) ≡ true) f e) in let l = r.1 in (suc r.0, omega (arith, l), r.2)

at-any : (p : List Value → Bool) (xs : List (List Value)) (i : ℕ) → i < length xs → p (get_or xs i []) ≡ true → list_any p xs ≡ true
at-any p [] i l e = absurd (omega (arith, l))
at-any p (x ∷ xs) zero l e = subst (λ b. Rattle.std.proofs.Common.◌||◌ b (list_any p xs) ≡ true) (sym e) refl
at-any p (x ∷ xs) (suc i) l e = go (p x) (at-any p xs i (omega (arith, l)) e)
  where
    go : (b : Bool) → list_any p xs ≡ true → Rattle.std.proofs.Common.◌||◌ b (list_any p xs) ≡ true
    go true h = refl
    go false h = h

pub same-bool : (a b : Bool) → (a ≡ true → b ≡ true) → (b ≡ true → a ≡ true) → a ≡ b
same-bool true true f g = refl
same-bool true false f g = sym (f refl)
same-bool false true f g = g refl
same-bool false false f g = refl

module _ (key : List ℕ) (rows : List (List Value)) (order : IsStrictlySortedBy (block_cmp key) rows) (place : ℕ) (there : place < length rows) where
  abbrev x : List Value
  x = get_or rows place []

  -- rows at two places are two rows
  apart : (i j : ℕ) → i < j → j < length rows → get_or rows i [] ≡ get_or rows j [] → ⊥
  apart i j l lj e = not_less (block_cmp key) (block_total key) (get_or rows i [])
      (subst (λ y. block_cmp key (get_or rows i []) y ≡ Less) (sym e) (Less-from_sorted (block_cmp key) rows i j [] order l lj))

  is_rival : (i : ℕ) → i < length rows → SharesKey key x (get_or rows i []) → (x ≡ get_or rows i [] → ⊥) → is_contested key rows x ≡ true
  is_rival i l s ne = at-any (λ y. is_of_block key x y && not (row_eq x y)) rows i l
      (and_from (is_of_block key x (get_or rows i [])) (not (row_eq x (get_or rows i []))) ((row_decides (key_of key x) (key_of key (get_or rows i []))).1 (key-from_shares key x (get_or rows i []) s))
      (not_from_false (row_eq x (get_or rows i [])) (false_from_ne_true (row_eq x (get_or rows i [])) (λ e. ne ((row_decides x (get_or rows i [])).0 e)))))

  pub next-rival : place + 1 < length rows → SharesKey key x (get_or rows (place + 1) []) → is_contested key rows x ≡ true
  next-rival l s = is_rival (place + 1) l s (apart place (place + 1) (omega arith) l)

  pub before-rival : 0 < place → SharesKey key x (get_or rows (place - 1) []) → is_contested key rows x ≡ true
  before-rival l s = is_rival (place - 1) (omega (arith, l, there)) s (λ e. apart (place - 1) place (omega (arith, l)) there (sym e))

  -- a rival stands beside the row
  pub beside : is_contested key rows x ≡ true → ((place + 1 < length rows) × SharesKey key x (get_or rows (place + 1) [])) ⊎ ((0 < place) × SharesKey key x (get_or rows (place - 1) []))
  beside e = go (any-at (λ y. is_of_block key x y && not (row_eq x y)) rows e)
    where
      go : ((i : ℕ) × (i < length rows) × ((is_of_block key x (get_or rows i []) && not (row_eq x (get_or rows i []))) ≡ true)) →
          ((place + 1 < length rows) × SharesKey key x (get_or rows (place + 1) [])) ⊎ ((0 < place) × SharesKey key x (get_or rows (place - 1) []))
      go (i, l, e) = side (cases_order i place)
        where
          b : (is_of_block key x (get_or rows i []) ≡ true) × (not (row_eq x (get_or rows i [])) ≡ true)
          b = and_parts (is_of_block key x (get_or rows i [])) (not (row_eq x (get_or rows i []))) e

          s : SharesKey key x (get_or rows i [])
          s = shares-from_key key x (get_or rows i []) ((row_decides (key_of key x) (key_of key (get_or rows i []))).0 b.0)

          side : (i ≡ place) ⊎ ((i < place) ⊎ (place < i)) → ((place + 1 < length rows) × SharesKey key x (get_or rows (place + 1) [])) ⊎ ((0 < place) × SharesKey key x (get_or rows (place - 1) []))
          side (inr (inl k)) = inr (
            omega (arith, k),
            shares-trans key x (get_or rows i []) (get_or rows (place - 1) []) s
                (grouped key rows order i (place - 1) place (omega (arith, k)) (omega (arith, k)) there (shares-sym key x (get_or rows i []) s)),
          )
          side (inl k) = absurd (clash_not (row_eq x (get_or rows i [])) b.1 ((row_decides x (get_or rows i [])).1 (ap (λ n. get_or rows n []) (sym k))))
          side (inr (inr k)) = inl (omega (arith, k, l), grouped key rows order place (place + 1) i (omega arith) (omega (arith, k)) l s)
