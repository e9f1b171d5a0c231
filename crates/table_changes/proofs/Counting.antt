-- How many rows are new.
use Rattle.std.proofs.Common.{◌≡◌, ◌↔◌, inl, inr, suc, ◌+◌, ℕ, Bool, true, false, not, ◌||◌, cond, List, [], ◌∷◌, length, Contains, refl, sym, ap, ◌∙◌, subst, arith, true≢false}
use Rattle.std.specs.List.{filter, AllByRecursion}
use Rattle.std.specs.List.Sorted.{IsStrictlySortedBy}
use Rattle.std.specs.declared.cmp.Ordering.TheVariants.{Less, Equal}
use Rattle.std.proofs.lemmas.List.Kept.{IsStrictlySortedBy-filter}
use Rattle.std.proofs.lemmas.Bool.{not_from_false}
use Rattle.cqa_value.specs.declared.value.Value.{Value}
use Rattle.cqa_value.specs.Values.{row_eq, row_decides}
use Rattle.cqa_value.proofs.Words.{mem-tail, mem-cases, mem-head, mem-nil, Contains-filter}
use Rattle.cqa_model.specs.Database.{block_cmp}
use Rattle.table_changes.specs.Changes.{is_among, count_new}
use Rattle.row_order.proofs.BlockOrder.{block_alike}
use Rattle.table_changes.proofs.Membership.{differ, among}

-- the rows but this one
others : List Value → List (List Value) → List (List Value)
others row = filter (λ y. not (row_eq row y))

less_differs : (key : List ℕ) (x y : List Value) → block_cmp key x y ≡ Less → row_eq x y ≡ false
less_differs key x y l = go (row_eq x y) refl
  where
    apart : Less ≡ Equal → ⊥
    apart e = (cc)

    go : (b : Bool) → row_eq x y ≡ b → b ≡ false
    go true e = absurd (apart (sym l ∙ ap (block_cmp key x) (sym ((row_decides x y).0 e)) ∙ block_alike key x))
    go false e = refl

-- what isn't there isn't taken away
others_all : (row : List Value) (rows : List (List Value)) → AllByRecursion (λ y. row_eq row y ≡ false) rows → others row rows ≡ rows
unfolding others
others_all row [] h = refl
others_all row (y ∷ rows) h = ap (λ b. cond (not b) (y ∷ others row rows) (others row rows)) h.0 ∙ ap (λ l. y ∷ l) (others_all row rows h.1)

map_all : (P Q : List Value → Type 0) (rows : List (List Value)) → ((row : List Value) → P row → Q row) → AllByRecursion P rows → AllByRecursion Q rows
map_all P Q [] f h = tt
map_all P Q (row ∷ rows) f h = (f row h.0, map_all P Q rows f h.1)

length_others : (key : List ℕ) (row : List Value) (rows : List (List Value)) → IsStrictlySortedBy (block_cmp key) rows → Contains rows row → length rows ≡ suc (length (others row rows))
unfolding others IsStrictlySortedBy
length_others key row [] s h = absurd (mem-nil row h)
length_others key row (y ∷ rows) s h = go (row_eq row y) refl (length_others key row rows s.1)
  where
    go : (b : Bool) → row_eq row y ≡ b → (Contains rows row → length rows ≡ suc (length (others row rows))) → suc (length rows) ≡ suc (length (cond (not b) (y ∷ others row rows) (others row rows)))
    go true e more =
        let same = (row_decides row y).0 e in
        ap (λ l. suc (length l)) (sym (others_all row rows (map_all (λ z. block_cmp key y z ≡ Less) (λ z. row_eq row z ≡ false) rows (λ z l. less_differs key row z (ap (λ x. block_cmp key x z) same ∙ l)) s.0)))
    go false e more = ap suc (more (elim (mem-cases row y rows h) [ inl q ↦ absurd (differ row y e (sym q)) | inr l ↦ l ]))

others_of : (row : List Value) (rows : List (List Value)) (x : List Value) → Contains (others row rows) x ↔ (Contains rows x × (row_eq row x ≡ false))
unfolding others
others_of row rows x = let k = Contains-filter (λ y. not (row_eq row y)) rows x in (
  λ h. let e = k.0 h in (e.0, not_true (row_eq row x) e.1),
  λ h. k.1 (h.0, not_from_false (row_eq row x) h.1),
)
  where
    not_true : (b : Bool) → not b ≡ true → b ≡ false
    not_true true e = absurd (true≢false (sym e))
    not_true false e = refl

-- the fresh rows are the given ones that aren't stored
AreNew : List (List Value) → List (List Value) → List (List Value) → Type 0
AreNew stored given fresh = (row : List Value) → Contains fresh row ↔ (Contains given row × (Contains stored row → ⊥))

-- a row that is stored, or that stands again behind, adds nothing
known_more : (stored : List (List Value)) (row : List Value) (rows fresh : List (List Value)) → AreNew stored (row ∷ rows) fresh → ((Contains stored row → ⊥) → Contains rows row) → AreNew stored rows fresh
unfolding AreNew
known_more stored row rows fresh h known x = (
  λ k. let r = (h x).0 k in (elim (mem-cases x row rows r.0) [ inl q ↦ subst (Contains rows) q (known (λ m. r.1 (subst (Contains stored) q m))) | inr l ↦ l ], r.1),
  λ k. (h x).1 (mem-tail x row rows k.0, k.1),
)

-- a row that is new and doesn't stand again adds itself
new_more : (stored : List (List Value)) (row : List Value) (rows fresh : List (List Value)) → AreNew stored (row ∷ rows) fresh → (Contains rows row → ⊥) → AreNew stored rows (others row fresh)
unfolding AreNew
new_more stored row rows fresh h once x = (
  λ k. let o = (others_of row fresh x).0 k in let r = (h x).0 o.0 in
      (elim (mem-cases x row rows r.0) [ inl p ↦ absurd (differ row x o.1 p) | inr l ↦ l ], r.1),
  λ k. (others_of row fresh x).1 ((h x).1 (mem-tail x row rows k.0, k.1), decide k.0 (row_eq row x) refl),
)
  where
    decide : Contains rows x → (b : Bool) → row_eq row x ≡ b → b ≡ false
    decide m true p = absurd (once (subst (Contains rows) (sym ((row_decides row x).0 p)) m))
    decide m false p = refl

-- as many as the count says
pub counted : (key : List ℕ) (stored given fresh : List (List Value)) → IsStrictlySortedBy (block_cmp key) fresh
    → ((row : List Value) → Contains fresh row ↔ (Contains given row × (Contains stored row → ⊥))) → length fresh ≡ count_new stored given
unfolding AreNew others
counted key stored [] [] s h = refl
counted key stored [] (x ∷ fresh) s h = absurd (mem-nil x ((h x).0 (mem-head x fresh)).0)
counted key stored (row ∷ rows) fresh s h = go (is_among stored row) refl (is_among rows row) refl (counted key stored rows fresh s) (counted key stored rows (others row fresh) (IsStrictlySortedBy-filter (block_cmp key) (λ y. not (row_eq row y)) fresh s))
  where
    go : (b : Bool) → is_among stored row ≡ b → (c : Bool) → is_among rows row ≡ c
        → (AreNew stored rows fresh → length fresh ≡ count_new stored rows) → (AreNew stored rows (others row fresh) → length (others row fresh) ≡ count_new stored rows)
        → length fresh ≡ (cond (b || c) 0 1) + count_new stored rows
    go true e c q same less = same (known_more stored row rows fresh h (λ n. absurd (n ((among stored row).0 e)))) ∙ omega arith
    go false e true q same less = same (known_more stored row rows fresh h (λ n. (among rows row).0 q)) ∙ omega arith
    go false e false q same less =
        length_others key row fresh s ((h row).1 (mem-head row rows, λ m. true≢false (sym ((among stored row).1 m) ∙ e)))
        ∙ ap suc (less (new_more stored row rows fresh h (λ m. true≢false (sym ((among rows row).1 m) ∙ q)))) ∙ omega arith
