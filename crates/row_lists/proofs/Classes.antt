-- The formula over classes of rows has a satisfying assignment exactly where the names have one.
use Rattle.std.proofs.Common.{◌≡◌, ℕ, ◌<◌, ◌⊎◌, inl, inr, List, length, refl, sym, subst, Contains, Bool, true, false}
use Rattle.std.specs.List.{AllZip}
use Rattle.std.proofs.Math.Bool.{Bool-discrete}
use native.Mathlib.Decide.{ℕ_discrete}
use Rattle.cqa_value.proofs.Words.{all_zip_right, clash, dec_both, is_yes, no_of, yes_of}
use Rattle.cqa_model.specs.declared.query.RowId.{RowId}
use Rattle.cqa_model.specs.Database.{Table}
use Rattle.cqa_model.specs.Repairs.{SharesKey}
use Rattle.cqa_model.proofs.Classic.{dec_some, dec_if, find_below, find_in}
use Rattle.cqa_model.proofs.Repairs.{dec_shares}
use Rattle.table_blocks.specs.Tables.{rows_at, key_at}
use Rattle.join_access.proofs.Naming.{same-name}
use Rattle.row_lists.specs.Lists.{name, named, IsStored, IsIn, AreStoredLists, IsOfBlock, SatisfiesNames}
use Rattle.row_lists.specs.Classes.{AreAlikeBy, AreClosed, AreClasses, IsCovered, SatisfiesClasses}
use Rattle.row_lists.specs.Laws.{ClassesOfNames}
use Rattle.row_lists.proofs.Words.{dec_in}
use Rattle.cqa_model.proofs.Zips.{zip-choose, zip-weaker}

module _ (db : List Table) (columns : ℕ → List ℕ) (lists : List (List RowId)) (class : RowId → ℕ) (st : AreStoredLists db lists) (closed : AreClosed db columns lists) (same : AreClasses db columns lists class) where
  -- from classes to names: a row of a list is as its class, and any other is true
  abbrev unless_in : {A : Type 0} → Dec A → Bool → Bool
  unless_in (yes p) b = b
  unless_in (no n) b = true

  unless_true : {A : Type 0} (d : Dec A) (b : Bool) → b ≡ true → unless_in d b ≡ true
  unless_true (yes p) b e = e
  unless_true (no n) b e = refl

  unless_out : {A : Type 0} (d : Dec A) (b : Bool) → (A → ⊥) → unless_in d b ≡ true
  unless_out (yes p) b n = absurd (n p)
  unless_out (no m) b n = refl

  unless_false : {A : Type 0} (d : Dec A) (b : Bool) → A → b ≡ false → unless_in d b ≡ false
  unless_false (yes p) b a e = e
  unless_false (no n) b a e = absurd (n a)

  to_names : ((t : ℕ → Bool) × SatisfiesClasses db lists class t) → (a : RowId → Bool) × SatisfiesNames db lists a
  to_names (t, s) = (a, record { blocks = λ id i. block id i (find_below (IsFine id) (dec_fine id) (length (rows_at db id.table))); each = list })
    where
      a : RowId → Bool
      a id = unless_in (dec_in lists id) (t (class id))

      IsFine : RowId → ℕ → Type 0
      IsFine id p = SharesKey (key_at db id.table) (named db id) (named db (name id.table p)) → IsIn lists (name id.table p)

      dec_fine : (id : RowId) (p : ℕ) → Dec (IsFine id p)
      dec_fine id p = dec_if (dec_shares (key_at db id.table) (named db id) (named db (name id.table p))) (dec_in lists (name id.table p))

      covered : (id : RowId) → ((p : ℕ) → p < length (rows_at db id.table) → IsFine id p) → IsCovered db lists id
      covered id h n sn b =
          let is : n ≡ name id.table n.place = same-name n (name id.table n.place) (sym b.0) refl in
          let l : n.place < length (rows_at db id.table) = subst (λ u. n.place < length (rows_at db u)) (sym b.0) sn.1 in
          subst (IsIn lists) (sym is) (h n.place l (subst (λ z. SharesKey (key_at db id.table) (named db id) (named db z)) is b.1))

      free : (id : RowId) (p : ℕ) → p < length (rows_at db id.table) → id.table < length db → Dec (SharesKey (key_at db id.table) (named db id) (named db (name id.table p))) → (IsFine id p → ⊥) →
          (n : RowId) × IsStored db n × IsOfBlock db id n × (a n ≡ true)
      free id p l lt (yes sh) f = (name id.table p, (lt, l), (refl, sh), unless_out (dec_in lists (name id.table p)) (t (class (name id.table p))) (λ i. f (λ u. i)))
      free id p l lt (no n) f = absurd (f (λ sh. absurd (n sh)))

      block : (id : RowId) → IsIn lists id → ((p : ℕ) → p < length (rows_at db id.table) → IsFine id p) ⊎ ((p : ℕ) × (p < length (rows_at db id.table)) × (IsFine id p → ⊥)) →
          (n : RowId) × IsStored db n × IsOfBlock db id n × (a n ≡ true)
      block id i (inl all) = let p = s.blocks id i (covered id all) in (p.0, p.1, p.2, unless_true (dec_in lists p.0) (t (class p.0)) p.3)
      block id i (inr (p, l, f)) = free id p l (st id i).0 (dec_shares (key_at db id.table) (named db id) (named db (name id.table p))) f

      list : (names : List RowId) → Contains lists names → (id : RowId) × Contains names id × (a id ≡ false)
      list names m = let p = s.each names m in (p.0, p.1, unless_false (dec_in lists p.0) (t (class p.0)) (names, m, p.1) p.2)

  -- from names to classes: a class is true where one of its rows in lists is
  abbrev IsTrueClass : (RowId → Bool) → ℕ → Type 0
  IsTrueClass a n = (names : List RowId) × Contains lists names × ((id : RowId) × Contains names id × ((class id ≡ n) × (a id ≡ true)))

  dec_class : (a : RowId → Bool) (n : ℕ) → Dec (IsTrueClass a n)
  dec_class a n = dec_some (λ names. (id : RowId) × Contains names id × ((class id ≡ n) × (a id ≡ true)))
      (λ names. dec_some (λ id. (class id ≡ n) × (a id ≡ true)) (λ id. dec_both (ℕ_discrete (class id) n) (Bool-discrete (a id) true)) names) lists

  to_classes : ((a : RowId → Bool) × SatisfiesNames db lists a) → (t : ℕ → Bool) × SatisfiesClasses db lists class t
  to_classes (a, s) = ((λ n. is_yes (dec_class a n)), record { blocks = block; each = λ names m. list names m (find_in (λ id. IsTrueClass a (class id)) (λ id. dec_class a (class id)) names) })
    where
      block : (id : RowId) → IsIn lists id → IsCovered db lists id → (n : RowId) × IsStored db n × IsOfBlock db id n × (is_yes (dec_class a (class n)) ≡ true)
      block id i cov =
          let p = s.blocks id i in
          let j = cov p.0 p.1 p.2 in
          (p.0, p.1, p.2, yes_of (dec_class a (class p.0)) (j.0, j.1, (p.0, j.2, (refl, p.3))))

      IsGood : RowId → RowId → Type 0
      IsGood id n = AreAlikeBy db columns id n × (a n ≡ true)

      all_true : (names : List RowId) → Contains lists names → ((id : RowId) → Contains names id → IsTrueClass a (class id)) → ⊥
      all_true names m all = go (zip-choose IsGood names good)
        where
          good : (id : RowId) → Contains names id → (n : RowId) × IsGood id n
          good id mid = let c = all id mid in (c.2.0, (same id c.2.0 (names, m, mid) (c.0, c.1, c.2.1) (sym c.2.2.0), c.2.2.1))

          go : ((others : List RowId) × AllZip IsGood names others) → ⊥
          go (others, z) =
              let u = closed names others m (zip-weaker IsGood (AreAlikeBy db columns) (λ x y p. p.0) names others z) in
              let p = s.each u.0 u.1 in
              let q = all_zip_right IsGood names others p.0 z (u.2 p.0 p.1) in
              clash (a p.0) q.2.1 p.2

      list : (names : List RowId) → Contains lists names → ((id : RowId) → Contains names id → IsTrueClass a (class id)) ⊎ ((id : RowId) × Contains names id × (IsTrueClass a (class id) → ⊥)) →
          (id : RowId) × Contains names id × (is_yes (dec_class a (class id)) ≡ false)
      list names m (inr (id, mid, f)) = (id, mid, no_of (dec_class a (class id)) f)
      list names m (inl all) = absurd (all_true names m all)

pub classes_of_names : ClassesOfNames
classes_of_names db columns lists class st closed same = (to_names db columns lists class st closed same, to_classes db columns lists class st closed same)
