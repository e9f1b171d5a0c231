-- Places that no other goes before, by what they add.
use Rattle.std.proofs.Common.{◌≡◌, ℕ, zero, suc, ◌+◌, ◌≤◌, true, false, List, [], ◌∷◌, length, slice_index_or, refl, ap, arith}
use Rattle.std.specs.List.{AllZip}
use Rattle.std.specs.Prelude.{ℤ, ◌≤ℤ◌}
use Rattle.std.specs.Int.Signed.{lt_z}
use Rattle.std.proofs.lemmas.Int.{ints}
use Rattle.cqa_value.specs.declared.value.Value.{Value}
use Rattle.cqa_model.specs.declared.limits.TheConstants.{MOST_ROWS}
use Rattle.cqa_model.specs.Database.{Table, IsDatabase, row_total, stored}
use Rattle.join_access.proofs.Naming.{zip-length}
use Rattle.range_ask.proofs.Blocked.{parted-few}
use Rattle.range_ask.proofs.Lists.{zip-map}
use Rattle.range_join.specs.declared.spans.Span.{Span}
use Rattle.range_join.specs.Firsts.{IsFirst, IsStrictOrder, AreFirsts, spans_at, spans_from, blocks_at}
use Rattle.range_join.specs.Bounds.{IsLeastOf, IsMostOf, AreLeastPlaces, AreMostPlaces}

not-itself : (a : ℤ) → lt_z a a ≡ false
not-itself a = grind (arith, ints)

through : (a b c : ℤ) → lt_z a b ≡ true → lt_z b c ≡ true → lt_z a c ≡ true
through a b c h k = grind (arith, ints)

not-below : (a b : ℤ) → lt_z a b ≡ false → b ≤ℤ a
not-below a b h = grind (arith, ints)

module _ (w : ℕ → ℤ) where
  pub up : IsStrictOrder (λ i j. lt_z (w i) (w j))
  up = record { not_itself = λ i. not-itself (w i); through = λ i j k. through (w i) (w j) (w k) }

  pub down : IsStrictOrder (λ i j. lt_z (w j) (w i))
  down = record { not_itself = λ i. not-itself (w i); through = λ i j k h l. through (w k) (w j) (w i) l h }

  module _ (db : List Table) (table : ℕ) (places : List ℕ) where
    pub least : AreFirsts (λ i j. lt_z (w i) (w j)) db table places → AreLeastPlaces w db table places
    least h = record {
      parted = h.parted;
      each = zip-map (IsFirst (λ i j. lt_z (w i) (w j))) (IsLeastOf w) (λ span p f. record { there = f.there; least = λ q s. not-below (w q) (w p) (f.first q s) }) (spans_at db table) places h.firsts;
    }

    pub most : AreFirsts (λ i j. lt_z (w j) (w i)) db table places → AreMostPlaces w db table places
    most h = record {
      parted = h.parted;
      each = zip-map (IsFirst (λ i j. lt_z (w j) (w i))) (IsMostOf w) (λ span p f. record { there = f.there; most = λ q s. not-below (w p) (w q) (f.first q s) }) (spans_at db table) places h.firsts;
    }

-- ---- there are few such places

spans-length : (n : ℕ) (blocks : List (List (List Value))) → length (spans_from n blocks) ≡ length blocks
spans-length n [] = refl
spans-length n (b ∷ blocks) = ap suc (spans-length (n + length b) blocks)

pub rows-few : (db : List Table) (t : ℕ) → length (slice_index_or (stored db) t []) ≤ row_total db
rows-few [] t = omega arith
rows-few (table ∷ db) zero = omega arith
rows-few (table ∷ db) (suc t) = let l = rows-few db t in omega (arith, l)

pub places-few : (R : Span → ℕ → Type 0) (db : List Table) → IsDatabase db → (table : ℕ) (places : List ℕ) → AllZip R (spans_at db table) places → length places ≤ MOST_ROWS
places-few R db base table places h =
    let same = zip-length R (spans_at db table) places h in
    let blocks = spans-length 0 (blocks_at db table) in
    let rows = parted-few db table in
    let few = rows-few db table in
    let most = base.few_rows in
    omega (arith, same, blocks, rows, few, most)
