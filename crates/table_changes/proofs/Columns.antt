-- The columns of a table, and the values of a row, as they are read one after the other.
use Rattle.std.proofs.Common.{◌≡◌, ◌<◌, ◌+◌, ℕ, zero, suc, List, [], ◌∷◌, length, map, get_or, slice_get, Some, refl, ap, ◌∙◌, subst, arith}
use native.Mathlib.Decide.{dec_lt}
use Rattle.std.proofs.lemmas.List.Elements.{at_read}
use Rattle.std.proofs.lemmas.Option.{slice_get_within, slice_get_read, get_or_from_slice_get}
use Rattle.cqa_model.specs.declared.schema.Column.{Column}

slice_get-map : {A B : Type 0} (f : A → B) (xs : List A) (i : ℕ) (x : A) → slice_get xs i ≡ Some x → slice_get (map f xs) i ≡ Some (f x)
slice_get-map f [] i x e = absurd (omega (arith, slice_get_within [] i x e))
slice_get-map f (y ∷ xs) zero x e = ap (λ z. Some (f z)) (get_or_from_slice_get (y ∷ xs) 0 x x e)
slice_get-map f (y ∷ xs) (suc i) x e = slice_get-map f xs i x e

-- the kind of a column that was read
pub kind_read : (columns seen : List Column) (at : ℕ) (column : Column) → seen ≡ columns → at < length columns → column ≡ get_or seen at column → slice_get (map (λ c. c.kind) columns) at ≡ Some column.kind
kind_read columns seen at column same inside read = slice_get-map (λ c. c.kind) columns at column (slice_get_read columns (length columns) at column refl inside (read ∙ ap (λ l. get_or l at column) same))

-- what holds of each element so far, and of the next
pub read_more : {X : Type 0} (P : X → Type 0) (xs : List X) (at : ℕ) → ((k : ℕ) (d : X) → k < at → P (get_or xs k d)) → at < length xs → (x : X) → x ≡ get_or xs at x → P x → (k : ℕ) (d : X) → k < at + 1 → P (get_or xs k d)
read_more P xs at so_far there x is here k d b = go (dec_lt k at)
  where
    go : Dec (k < at) → P (get_or xs k d)
    go (yes l) = so_far k d l
    go (no n) = let same : at ≡ k = omega (arith, n, b) in subst (λ i. P (get_or xs i d)) same (at_read xs P at x there is here d)
