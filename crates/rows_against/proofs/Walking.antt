-- Names in order, gone through by the tables of a query's atoms.
use Rattle.std.proofs.Common.{◌≡◌, ◌<◌, ◌≤◌, ◌+◌, ◌⊎◌, inl, inr, ℕ, List, [], length, get_or, Option, Some, None, refl, sym, ◌∙◌, ap, subst, arith, Contains}
use Rattle.std.proofs.lemmas.List.Elements.{Contains-get_or}
use native.Mathlib.Decide.{ℕ_discrete}
use Rattle.cqa_value.specs.declared.value.Value.{Value}
use Rattle.cqa_value.proofs.Words.{cases_le, member_place}
use Rattle.cqa_model.specs.declared.query.Query.{Query}
use Rattle.cqa_model.specs.declared.query.RowId.{RowId}
use Rattle.cqa_model.specs.Database.{Table, stored, keys_of}
use Rattle.cqa_model.specs.Repairs.{SharesKey}
use Rattle.cqa_model.specs.Query.{atom_at, atom_key, rows_of, FitsDatabase}
use Rattle.join_access.specs.Listing.{no_name}
use Rattle.rows_against.specs.Against.{row_named, ComesBefore}
use Rattle.rows_against.specs.Hits.{IsRival, IsHitBy}
use Rattle.rows_against.specs.Parts.{kept_name_at, IsOfTable, IsBelow, IsTablePart, AreOfOwnBlocks, IsOtherIn}
use Rattle.rows_against.specs.Chosen.{AreChosenAgainst}
use Rattle.rows_against.specs.Numbers.{row_name, IsFrom, TableBeginsAt}

module _ (db : List Table) (q : Query) (fits : FitsDatabase q db) (all : List (List RowId)) (names : List RowId) (chosen : AreChosenAgainst db q all names) where
  its : (k : ℕ) → k < length names → Contains names (kept_name_at names k)
  its k l = Contains-get_or names k no_name l

  pub begins_first : TableBeginsAt q names 0 0
  begins_first = record {
    within = omega arith;
    before = λ k l. absurd (omega (arith, l));
    behind = λ k f l. let a = chosen.of_atoms (kept_name_at names k) (its k l) in (a.0, omega arith, a.1, a.2);
  }

  -- no name stands there twice
  later : (j k : ℕ) → j < k → k < length names → kept_name_at names j ≡ kept_name_at names k → ⊥
  later j k jk l same = go b.before
    where
      b : ComesBefore q (kept_name_at names j) (kept_name_at names k)
      b = chosen.in_order j k jk l

      atoms : b.first ≡ b.second
      atoms = q.kept.apart b.first b.second b.of_first.0 b.of_second.0 (b.of_first.1 ∙ ap (λ (x : RowId). x.table) same ∙ sym b.of_second.1)

      go : (b.first < b.second) ⊎ ((b.first ≡ b.second) × ((kept_name_at names j).place < (kept_name_at names k).place)) → ⊥
      go (inl less) = let e = atoms in omega (arith, less, e)
      go (inr at) = let less = at.1 in let e = ap (λ (x : RowId). x.place) same in omega (arith, less, e)

  pub distinct : (j k : ℕ) → j < length names → k < length names → kept_name_at names j ≡ kept_name_at names k → j ≡ k
  distinct j k lj lk same = go (ℕ_discrete j k) (cases_le j k)
    where
      go : Dec (j ≡ k) → (j ≤ k) ⊎ (k < j) → j ≡ k
      go (yes e) c = e
      go (no ne) (inl up) = absurd (later j k (omega (arith, up, ne)) lk same)
      go (no ne) (inr less) = absurd (later k j less lj (sym same))

  module _ (F from : ℕ) (here : F < length q.atoms) (begins : TableBeginsAt q names F from) where
    abbrev table : ℕ
    table = (atom_at q F).table

    part : IsTablePart names from table
    part = record { within = begins.within; rising = rising }
      where
        rising : (j k : ℕ) → from ≤ j → j < k → IsOfTable names from table k → IsBelow names table (kept_name_at names k).place j
        rising j k fj jk of = go b.before
          where
            b : ComesBefore q (kept_name_at names j) (kept_name_at names k)
            b = chosen.in_order j k jk of.1

            second : b.second ≡ F
            second = q.kept.apart b.second F b.of_second.0 here (b.of_second.1 ∙ of.2)

            low : F ≤ b.first
            low =
                let g = begins.behind j fj (let l = of.1 in omega (arith, jk, l)) in
                let e : g.0 ≡ b.first = q.kept.apart g.0 b.first g.2 b.of_first.0 (g.3 ∙ sym b.of_first.1) in
                let up = g.1 in
                omega (arith, e, up)

            go : (b.first < b.second) ⊎ ((b.first ≡ b.second) × ((kept_name_at names j).place < (kept_name_at names k).place)) → IsBelow names table (kept_name_at names k).place j
            go (inl less) = absurd (let s = second in let up = low in omega (arith, less, s, up))
            go (inr at) = (sym b.of_first.1 ∙ ap (λ G. (atom_at q G).table) (at.0 ∙ second), at.1)

    row_is : (k : ℕ) → (kept_name_at names k).table ≡ table → row_named db (kept_name_at names k) ≡ get_or (rows_of q (stored db) F) (kept_name_at names k).place []
    row_is k e = ap (λ t. get_or (get_or (stored db) t []) (kept_name_at names k).place []) e

    own_is : (p : ℕ) → row_named db (row_name q F p) ≡ get_or (rows_of q (stored db) F) p []
    own_is p = refl

    shares_is : (key : List ℕ) (a b x y : List Value) → key ≡ get_or (keys_of db) table [] → x ≡ a → y ≡ b → SharesKey key a b → SharesKey (get_or (keys_of db) table []) x y
    shares_is key a b x y ek ex ey s = subst (λ k. SharesKey k x y) ek (subst (λ z. SharesKey key x z) (sym ey) (subst (λ z. SharesKey key z b) (sym ex) s))

    apart : AreOfOwnBlocks (atom_key q F) (rows_of q (stored db) F) names from table
    apart = record {
      there = λ k of. subst (λ t. (kept_name_at names k).place < length (get_or (stored db) t [])) of.2 (chosen.stored (kept_name_at names k) (its k of.1)).1;
      apart = λ j k oj ok shares. distinct j k oj.1 ok.1 (chosen.apart (kept_name_at names j) (kept_name_at names k) (its j oj.1) (its k ok.1) (
        oj.2 ∙ sym ok.2,
        subst (λ t. SharesKey (get_or (keys_of db) t []) (row_named db (kept_name_at names j)) (row_named db (kept_name_at names k))) (sym oj.2)
            (shares_is (atom_key q F) (get_or (rows_of q (stored db) F) (kept_name_at names j).place []) (get_or (rows_of q (stored db) F) (kept_name_at names k).place [])
            (row_named db (kept_name_at names j)) (row_named db (kept_name_at names k)) (fits.keyed F here) (row_is j oj.2) (row_is k ok.2) shares),
      ));
    }

    -- a name of the table isn't before the first of the part
    not_before : (k : ℕ) → k < length names → (kept_name_at names k).table ≡ table → from ≤ k
    not_before k l e = go (cases_le from k)
      where
        go : (from ≤ k) ⊎ (k < from) → from ≤ k
        go (inl up) = up
        go (inr less) =
            let b = begins.before k less in
            let below = b.1 in
            let same : b.0 ≡ F = q.kept.apart b.0 F (omega (arith, below, here)) here (b.2 ∙ e) in
            absurd (omega (arith, below, same))

    hit_by : (p : ℕ) (found : Option ℕ) → IsOtherIn (atom_key q F) (rows_of q (stored db) F) names from (row_name q F p) found → IsHitBy db names (row_name q F p) found
    hit_by p (Some k) (up, (l, e, shares), ne) = (
      l,
      (
        (
          e,
          subst (λ t. SharesKey (get_or (keys_of db) t []) (row_named db (kept_name_at names k)) (row_named db (row_name q F p))) (sym e)
              (shares_is (atom_key q F) (get_or (rows_of q (stored db) F) (kept_name_at names k).place []) (get_or (rows_of q (stored db) F) p [])
              (row_named db (kept_name_at names k)) (row_named db (row_name q F p)) (fits.keyed F here) (row_is k e) refl shares),
        ),
        ne,
      ),
    )
    hit_by p None none = λ name m rival.
        let k = member_place names name no_name m in
        none_at name (k.0) k.1 k.2 rival
      where
        none_at : (name : RowId) (k : ℕ) → k < length names → kept_name_at names k ≡ name → IsRival db name (row_name q F p) → ⊥
        none_at name k l is rival = at (subst (λ x. IsRival db x (row_name q F p)) (sym is) rival)
          where
            at : IsRival db (kept_name_at names k) (row_name q F p) → ⊥
            at ((e, shares), ne) = none k (
              not_before k l e,
              (
                l,
                e,
                subst (λ z. SharesKey (atom_key q F) z (get_or (rows_of q (stored db) F) p [])) (row_is k e)
                    (subst (λ key. SharesKey key (row_named db (kept_name_at names k)) (get_or (rows_of q (stored db) F) p [])) (sym (fits.keyed F here))
                    (subst (λ t. SharesKey (get_or (keys_of db) t []) (row_named db (kept_name_at names k)) (get_or (rows_of q (stored db) F) p [])) e shares)),
              ),
              ne,
            )

    -- behind the names of the table
    abbrev IsStepOver : ℕ → ℕ → Type 0
    IsStepOver t count = (to : ℕ) → from ≤ to → to ≤ length names → ((k : ℕ) → from ≤ k → k < to → IsBelow names t count k) →
        ((k : ℕ) → to ≤ k → k < length names → IsBelow names t count k → ⊥) → TableBeginsAt q names (F + 1) to

    begins_next : IsStepOver table (length (rows_of q (stored db) F))
    begins_next to up within before behind = record {
      within = within;
      before = λ k l. go k l (cases_le from k);
      behind = λ k f l. next k f l (begins.behind k (omega (arith, up, f)) l);
    }
      where
        go : (k : ℕ) → k < to → (from ≤ k) ⊎ (k < from) → (G : ℕ) × (G < F + 1) × ((atom_at q G).table ≡ (kept_name_at names k).table)
        go k l (inl f) = (F, omega arith, sym (before k f l).0)
        go k l (inr less) = let b = begins.before k less in let below = b.1 in (b.0, omega (arith, below), b.2)

        next : (k : ℕ) → to ≤ k → k < length names → IsFrom q names F k → IsFrom q names (F + 1) k
        next k f l (G, low, there, e) = at (ℕ_discrete G F)
          where
            at : Dec (G ≡ F) → IsFrom q names (F + 1) k
            at (no ne) = (G, omega (arith, low, ne), there, e)
            at (yes same) =
                let its-table : (kept_name_at names k).table ≡ table = sym e ∙ ap (λ H. (atom_at q H).table) same in
                absurd (behind k f l (its-table, subst (λ t. (kept_name_at names k).place < length (get_or (stored db) t [])) its-table (chosen.stored (kept_name_at names k) (its k l)).1))

    -- the same at the table, the rows and the key that are read
    module _ (t : ℕ) (et : t ≡ table) where
      pub part_at : IsTablePart names from t
      part_at = subst (IsTablePart names from) (sym et) part

      pub begins_behind : (count : ℕ) → count ≡ length (rows_of q (stored db) F) → IsStepOver t count
      begins_behind count ec = subst (λ n. IsStepOver n count) (sym et) (subst (IsStepOver table) (sym ec) begins_next)

      module _ (rows : List (List Value)) (er : rows ≡ rows_of q (stored db) F) (key : List ℕ) (ek : key ≡ atom_key q F) where
        pub apart_at : AreOfOwnBlocks key rows names from t
        apart_at = subst (AreOfOwnBlocks key rows names from) (sym et) (subst (λ k. AreOfOwnBlocks k rows names from table) (sym ek) (subst (λ rs. AreOfOwnBlocks (atom_key q F) rs names from table) (sym er) apart))

        pub hit_at : (p : ℕ) (found : Option ℕ) → IsOtherIn key rows names from (record { table = t; place = p }) found → IsHitBy db names (row_name q F p) found
        hit_at p found other = hit_by p found
            (subst (λ n. IsOtherIn (atom_key q F) (rows_of q (stored db) F) names from (record { table = n; place = p }) found) et
            (subst (λ rs. IsOtherIn (atom_key q F) rs names from (record { table = t; place = p }) found) er (subst (λ k. IsOtherIn k rows names from (record { table = t; place = p }) found) ek other)))
