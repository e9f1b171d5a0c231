-- The test of being among rows, and how many rows are new.
use Rattle.std.proofs.Common.{◌≡◌, inl, inr, Bool, true, false, not, ◌||◌, List, [], ◌∷◌, Contains, refl, sym, ap, ◌∙◌, subst, true≢false}
use Rattle.std.specs.Bool.{Decides}
use Rattle.std.specs.List.{filter}
use Rattle.cqa_value.specs.declared.value.Value.{Value}
use Rattle.cqa_value.specs.Values.{row_eq, row_decides}
use Rattle.cqa_value.proofs.Words.{mem-tail, mem-cases, mem-head, mem-nil}
use Rattle.table_changes.specs.Changes.{is_among}

-- rows that the test of being equal tells apart are different
pub differ : (x y : List Value) → row_eq x y ≡ false → x ≡ y → ⊥
differ x y e h = true≢false (sym ((row_decides x y).1 h) ∙ e)

pub among : (rows : List (List Value)) (row : List Value) → Decides (is_among rows row) (Contains rows row)
among [] row = (λ e. absurd (true≢false (sym e)), λ h. absurd (mem-nil row h))
among (x ∷ rows) row = go (row_eq row x) refl (among rows row)
  where
    go : (b : Bool) → row_eq row x ≡ b → Decides (is_among rows row) (Contains rows row) → Decides (b || is_among rows row) (Contains (x ∷ rows) row)
    go true e more = (λ t. subst (Contains (x ∷ rows)) (sym ((row_decides row x).0 e)) (mem-head x rows), λ h. refl)
    go false e more = (
      λ t. mem-tail row x rows (more.0 t),
      λ h. elim (mem-cases row x rows h) [ inl same ↦ absurd (differ row x e (sym same)) | inr later ↦ more.1 later ],
    )

pub not_among : (rows : List (List Value)) (row : List Value) → Decides (not (is_among rows row)) (Contains rows row → ⊥)
not_among rows row = go (is_among rows row) refl
  where
    go : (b : Bool) → is_among rows row ≡ b → Decides (not b) (Contains rows row → ⊥)
    go true e = (λ t. absurd (true≢false (sym t)), λ h. absurd (h ((among rows row).0 e)))
    go false e = (λ t h. true≢false (sym ((among rows row).1 h) ∙ e), λ h. refl)

-- where no row is stored, all are new
pub all_new : (rows : List (List Value)) → rows ≡ filter (λ row. not (is_among [] row)) rows
all_new [] = refl
all_new (row ∷ rows) = ap (λ more. row ∷ more) (all_new rows)
