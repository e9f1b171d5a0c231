-- The places of sorted rows among other sorted rows.
use Rattle.std.proofs.Common.{◌≡◌, ◌≤◌, ◌<◌, ℕ, suc, List, [], ◌∷◌, length, take, get_or, refl, ap, subst, arith}
use native.Mathlib.Decide.{dec_lt}
use Rattle.std.specs.Cmp.{IsTotalOrder}
use Rattle.std.specs.declared.cmp.Ordering.{Ordering}
use Rattle.std.specs.declared.cmp.Ordering.TheVariants.{Less, Equal}
use Rattle.std.proofs.lemmas.List.{get_or-take, length-take-le}
use Rattle.std.proofs.lemmas.Option.{slice_get-get_or}
use Rattle.table_blocks.specs.Tables.{IsPlace, ArePlaces}
use Rattle.table_blocks.proofs.Sorting.{each_at}

module _ {A : Type 0} (cmp : A → A → Ordering) (stored : List A) where
  pub places-long : (rows : List A) (places : List ℕ) → ArePlaces cmp stored rows places → length places ≡ length rows
  places-long [] [] h = refl
  places-long [] (p ∷ places) h = absurd h
  places-long (row ∷ rows) [] h = absurd h
  places-long (row ∷ rows) (p ∷ places) h = ap suc (places-long rows places h.1)

module _ {A : Type 0} (cmp : A → A → Ordering) (total : IsTotalOrder cmp) (exact : (a b : A) → cmp a b ≡ Equal → a ≡ b) (alike : (a : A) → cmp a a ≡ Equal) (stored : List A) where
  -- a lesser row has no later place
  pub place_order : (x y : A) (p q : ℕ) → IsPlace cmp stored x p → IsPlace cmp stored y q → cmp x y ≡ Less → p ≤ q
  place_order x y p q px py less = go (dec_lt q p)
    where
      go : Dec (q < p) → p ≤ q
      go (no n) = omega (arith, n)
      go (yes l) =
          let inside = px.within in
          let short = length-take-le p stored px.within in
          let there : q < length stored = omega (arith, l, inside) in
          let other = get_or stored q x in
          let below : cmp other x ≡ Less = subst (λ z. cmp z x ≡ Less) (get_or-take p stored q x l) (each_at cmp total exact alike (λ z. cmp z x ≡ Less) (take p stored) q x px.below (omega (arith, l, short))) in
          absurd (py.stops other (slice_get-get_or stored q x there) (total.trans other x y below less))
