-- Block order is a total order of rows, and only a row itself stands at its place.
use Rattle.std.proofs.Common.{◌≡◌, ℕ, List, ap, ◌∙◌}
use Rattle.std.specs.Cmp.{IsTotalOrder}
use Rattle.std.specs.Ordering.{ordering_then, is_eq}
use Rattle.std.specs.declared.cmp.Ordering.{Ordering}
use Rattle.std.specs.declared.cmp.Ordering.TheVariants.{Less, Equal, Greater}
use Rattle.std.proofs.lemmas.Cmp.{on_total, then_total}
use Rattle.cqa_value.specs.declared.value.Value.{Value}
use Rattle.cqa_value.specs.Values.{row_cmp, row_cmp_total, row_ties, row_decides, key_of, block_cmp}

pub block_total : (key : List ℕ) → IsTotalOrder (block_cmp key)
block_total key = then_total (on_total (key_of key) row_cmp_total) row_cmp_total

pub row_exact : (x y : List Value) → row_cmp x y ≡ Equal → x ≡ y
row_exact x y e = (row_decides x y).0 (row_ties x y ∙ ap is_eq e)

then_equal : (o p : Ordering) → ordering_then o p ≡ Equal → p ≡ Equal
then_equal Less p e = (cc)
then_equal Equal p e = e
then_equal Greater p e = (cc)

-- only a row itself stands at its place
pub block_exact : (key : List ℕ) (x y : List Value) → block_cmp key x y ≡ Equal → x ≡ y
block_exact key x y e = row_exact x y (then_equal (row_cmp (key_of key x) (key_of key y)) (row_cmp x y) e)
