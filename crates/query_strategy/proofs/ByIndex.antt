-- Two atoms over one table, of parts that are apart.
use Rattle.std.proofs.Common.{◌≡◌, ◌<◌, ◌⊎◌, inl, inr, ℕ, List, length, get_or, Contains, Bool, true, false, refl, sym, ◌∙◌, ap, slice_index_or}
use Rattle.std.proofs.Math.Bool.{Bool-discrete}
use Rattle.std.proofs.lemmas.List.{get_or_default}
use Rattle.std.proofs.lemmas.List.Elements.{Contains-get_or}
use Rattle.std.proofs.lemmas.Bool.{cases_order}
use Rattle.cqa_model.specs.declared.query.Query.{Query}
use Rattle.cqa_model.specs.Database.{Table, marks_of}
use Rattle.cqa_model.specs.Query.{atom_at, IsStrict, FitsDatabase}
use Rattle.query_strategy.specs.Apart.{ApartByIndex, AreApart, IsPartAt, IsLooseAt}

module _ (db : List Table) (d : Query) (parts : List Query) (fits : (q : Query) → Contains parts q → FitsDatabase q db) (apart : AreApart parts) where
  abbrev part_at : ℕ → Query
  part_at i = get_or parts i d

  is_at : (i : ℕ) → i < length parts → IsPartAt parts i (part_at i)
  is_at i l = (l, get_or_default parts i (part_at i) d l)

  clash : (i j F G t : ℕ) → i < j → i < length parts → j < length parts → IsLooseAt (part_at i) F t → IsLooseAt (part_at j) G t → ⊥
  clash i j F G t before li lj f g = apart (record { first = i; second = j; atom = F; table = t }) (record { first = (part_at i, is_at i li, f); second = (before, (part_at j, is_at j lj, (G, g))) })

  loose_again : (i j F G : ℕ) → i < length parts → j < length parts → F < length (part_at i).atoms → G < length (part_at j).atoms → (atom_at (part_at i) F).table ≡ (atom_at (part_at j) G).table →
      (atom_at (part_at i) F).strict ≡ false → (atom_at (part_at j) G).strict ≡ false
  loose_again i j F G li lj lF lG e s =
      (fits (part_at j) (Contains-get_or parts j d lj)).marked G lG ∙ ap (λ t. slice_index_or (marks_of db) t false) (sym e) ∙ sym ((fits (part_at i) (Contains-get_or parts i d li)).marked F lF) ∙ s

  by_index : (i j F G : ℕ) → i < length parts → j < length parts → F < length (part_at i).atoms → G < length (part_at j).atoms → (atom_at (part_at i) F).table ≡ (atom_at (part_at j) G).table → (i ≡ j) ⊎ IsStrict (part_at i) F
  by_index i j F G li lj lF lG e = of_mark (Bool-discrete (atom_at (part_at i) F).strict false)
    where
      t : ℕ
      t = (atom_at (part_at i) F).table

      of_order : (atom_at (part_at i) F).strict ≡ false → (i ≡ j) ⊎ ((i < j) ⊎ (j < i)) → (i ≡ j) ⊎ IsStrict (part_at i) F
      of_order s (inl same) = inl same
      of_order s (inr (inl before)) = absurd (clash i j F G t before li lj (lF, refl, s) (lG, sym e, loose_again i j F G li lj lF lG e s))
      of_order s (inr (inr before)) = absurd (clash j i G F t before lj li (lG, sym e, loose_again i j F G li lj lF lG e s) (lF, refl, s))

      marked : (b : Bool) → (b ≡ false → ⊥) → b ≡ true
      marked true n = refl
      marked false n = absurd (n refl)

      of_mark : Dec ((atom_at (part_at i) F).strict ≡ false) → (i ≡ j) ⊎ IsStrict (part_at i) F
      of_mark (yes s) = of_order s (cases_order i j)
      of_mark (no n) = inr (marked (atom_at (part_at i) F).strict n)

pub by_index_lem : ApartByIndex
by_index_lem db d parts fits apart i j F G li lj lF lG e = by_index db d parts fits apart i j F G li lj lF lG e
