-- One query more is looked at.
use Rattle.std.proofs.Common.{◌≡◌, ◌↔◌, ◌∙◌, ◌<◌, ◌+◌, ℕ, inl, inr, Bool, true, false, IsTrue, Option, Some, None, List, [], ◌∷◌, ◌++◌, length, get_or, take, refl, sym, subst, Contains}
use Rattle.std.specs.List.{AllZip}
use Rattle.std.specs.Option.{is_some}
use Rattle.std.proofs.lemmas.List.{take_more}
use Rattle.std.proofs.lemmas.Option.{same_Some}
use Rattle.cqa_value.specs.declared.value.Value.{Value}
use Rattle.cqa_value.proofs.Words.{all_zip_push, cases_next, clash}
use Rattle.table_blocks.specs.declared.bound.Bound.{Bound}
use Rattle.union_ask.specs.Known.{HoldsRow, IsKnownFor}

-- what holds of each number below one, and of it, holds of each up to it
pub one_more : (P : ℕ → Type 0) (at : ℕ) → P at → ((i : ℕ) → i < at → P i) → (i : ℕ) → i < at + 1 → P i
one_more P at p h i l = elim (cases_next i at l) [ inl below ↦ h i below | inr e ↦ subst P (sym e) p ]

-- a row among known rows
pub holds-some : (known : Option (List (List Value))) (rows : List (List Value)) (row : List Value) (found : Bool) → known ≡ Some rows → (IsTrue found ↔ Contains rows row) → IsTrue found ↔ HoldsRow known row
holds-some known rows row found is h = (
  λ t. (rows, is, h.0 t),
  λ k. h.1 (subst (λ xs. Contains xs row) (same_Some k.0 rows (sym k.1 ∙ is)) k.2),
)

none-some : {A : Type 0} (x : A) → None ≡ Some x → ⊥
none-some x e = cc e

pub holds-none : (known : Option (List (List Value))) (row : List Value) → known ≡ None → HoldsRow known row → ⊥
holds-none known row is k = none-some k.0 (sym is ∙ k.1)

-- rows that are known
pub rows-there : (known : Option (List (List Value))) → is_some known ≡ true → (rows : List (List Value)) × (known ≡ Some rows)
rows-there None t = absurd (clash false t refl)
rows-there (Some rows) t = (rows, refl)

-- the known rows of one query more
pub known-more : (bounds : List Bound) (at : ℕ) (bound : Bound) (rows : Option (List (List Value))) (known : List (Option (List (List Value)))) → at < length bounds → bound ≡ get_or bounds at bound → IsKnownFor bound rows →
    AllZip IsKnownFor (take at bounds) known → AllZip IsKnownFor (take (at + 1) bounds) (known ++ rows ∷ [])
known-more bounds at bound rows known l is h so_far =
    subst (λ (bs : List Bound). AllZip IsKnownFor bs (known ++ rows ∷ [])) (sym (take_more bounds at bound l))
    (all_zip_push IsKnownFor (take at bounds) known (get_or bounds at bound) rows so_far (subst (λ (b : Bound). IsKnownFor b rows) is h))
