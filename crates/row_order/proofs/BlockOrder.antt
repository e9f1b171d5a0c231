-- In block order only equal rows tie.
use Rattle.std.proofs.Common.{◌≡◌, ℕ, true, List, refl, sym, ap, ◌∙◌}
use Rattle.std.specs.Ordering.{ordering_then, is_eq, is_lt, eq_by_cmp}
use Rattle.std.specs.declared.cmp.Ordering.{Ordering}
use Rattle.std.specs.declared.cmp.Ordering.TheVariants.{Less, Equal, Greater}
use Rattle.cqa_value.specs.declared.value.Value.{Value}
use Rattle.cqa_value.specs.Values.{row_cmp, row_eq, row_ties, row_equiv, key_of, block_cmp}
use Rattle.cqa_value.proofs.RowOrder.{row_exact}
pub use Rattle.cqa_value.proofs.RowOrder.{block_total, block_exact}

pub is_less : (o : Ordering) → is_lt o ≡ true → o ≡ Less
is_less Less e = refl
is_less Equal e = (cc)
is_less Greater e = (cc)

is_equal : (o : Ordering) → is_eq o ≡ true → o ≡ Equal
is_equal Less e = (cc)
is_equal Equal e = refl
is_equal Greater e = (cc)

pub row_alike : (a : List Value) → row_cmp a a ≡ Equal
row_alike a = is_equal (row_cmp a a) (sym (row_ties a a) ∙ row_equiv.refl a)

pub block_alike : (key : List ℕ) (a : List Value) → block_cmp key a a ≡ Equal
block_alike key a = ap (λ o. ordering_then o (row_cmp a a)) (row_alike (key_of key a)) ∙ row_alike a

-- where the second answers Equal only where the first does, it decides
then_second : (o p : Ordering) → (p ≡ Equal → o ≡ Equal) → is_eq p ≡ is_eq (ordering_then o p)
then_second Equal p h = refl
then_second Less Less h = refl
then_second Less Equal h = absurd (apart (h refl))
  where
    apart : Less ≡ Equal → ⊥
    apart e = (cc)
then_second Less Greater h = refl
then_second Greater Less h = refl
then_second Greater Equal h = absurd (apart (h refl))
  where
    apart : Greater ≡ Equal → ⊥
    apart e = (cc)
then_second Greater Greater h = refl

pub block_ties : (key : List ℕ) (a b : List Value) → row_eq a b ≡ eq_by_cmp (block_cmp key) a b
block_ties key a b =
    row_ties a b
    ∙ then_second (row_cmp (key_of key a) (key_of key b)) (row_cmp a b)
    (λ e. ap (λ row. row_cmp (key_of key a) (key_of key row)) (sym (row_exact a b e)) ∙ row_alike (key_of key a))
