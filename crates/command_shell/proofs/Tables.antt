-- Tables of a database that are put in the place of others.
use Rattle.std.proofs.Common.{◌≡◌, ◌≤◌, ◌+◌, ℕ, Bool, true, false, not, IsTrue, List, [], length, slice_get, slice_set, Contains, Option, Some, None, IfSome, refl, sym, ap, ◌∙◌, subst, arith}
use Rattle.std.specs.Prelude.{if◌then◌else◌}
use Rattle.std.specs.List.{filter}
use Rattle.std.specs.List.Sorted.{IsStrictlySortedBy}
use Rattle.std.proofs.lemmas.List.{append-nil, length-map}
use Rattle.std.proofs.lemmas.List.Filters.{length-filter_both}
use Rattle.std.proofs.lemmas.List.Kept.{IsStrictlySortedBy-filter}
use Rattle.std.proofs.lemmas.Option.{none-some}
use Rattle.cqa_value.specs.declared.value.Value.{Value}
use Rattle.cqa_value.proofs.Words.{Contains-slice_get, Contains-filter}
use Rattle.cqa_model.specs.Shape.{IsSchema}
use Rattle.cqa_model.specs.Database.{Table, IsTable, AreConsistent, block_cmp}
use Rattle.cqa_model.proofs.Places.{rows-at, key-at, mark-at, kinds-at}
use Rattle.refusals.specs.declared.refusal.Refusal.TheVariants.{KeyBroken}
use Rattle.row_order.specs.Ordered.{block_order}
use Rattle.row_order.proofs.Reordering.{order_sorted, order_members, order_long}
use Rattle.table_blocks.specs.declared.clash.Clash.{Clash}
use Rattle.table_blocks.specs.declared.test.ColumnTest.{ColumnTest}
use Rattle.table_blocks.specs.Keys.{IsKey, first_clash}
use Rattle.table_blocks.specs.Tables.{rows_at, key_at, mark_at, kinds_at, with_rows, with_mark, rekey_clash, AreValidRows, AreValidTables, IsSpared, IsToldStretch, Deletes, IsRekeyed, Rekeys}
use Rattle.table_blocks.proofs.Changing.{set_with_rows, set_with_mark, total_set, stored_set}
use Rattle.table_blocks.proofs.Passing.{dec_tests, is_yes, is_no}
use Rattle.table_blocks.proofs.Sharing.{consistent_within, consistent_unbroken}
use Rattle.table_changes.specs.Changes.{broken_by, strict_fault, rekey_fault}
use Rattle.table_changes.specs.Preferred.{IsPreferred, Prefers}
use Rattle.table_changes.proofs.Preferring.{stays, kept_preferred}

-- a check of a clash that passes
unbroken : (clash : Option Clash) → broken_by clash ≡ None → clash ≡ None
unbroken None e = refl
unbroken (Some clash) e = absurd (none-some (KeyBroken clash.first clash.second) (sym e))

-- the table at a place of tables that are a database
module _ (db : List Table) (at : ℕ) (t : Table) (here : slice_get db at ≡ Some t) (s : AreValidTables db) where
  inside : Contains db t
  inside = Contains-slice_get db at t here

  is : IsTable t
  is = s.database.each t inside

  values : AreValidRows t.rows
  values = s.valid t inside

  -- another one of its name, with no more rows
  put : (w : Table) → w.schema.name ≡ t.schema.name → IsTable w → AreValidRows w.rows → length w.rows ≤ length t.rows → AreValidTables (slice_set db at w)
  put w same table valid fewer = stored_set t w same db at here s table valid (let sum = total_set t w db at here in let all = s.database.few_rows in omega (arith, sum, all, fewer))

  -- ---- its mark

  abbrev pub marked : Bool → Table
  marked strict = record t { schema = record t.schema { strict = strict } }

  put_mark : (strict : Bool) → (IsTrue strict → AreConsistent t.schema.key t.rows) → AreValidTables (with_mark db at strict)
  put_mark strict consistent =
      subst AreValidTables (set_with_mark t strict db at here)
      (put (marked strict) refl (record { in_order = is.in_order; of_schema = is.of_schema; strict = consistent }) values (omega arith))

  pub set_strict : strict_fault db at ≡ None → AreValidTables (with_mark db at true)
  set_strict e =
      let none : first_clash t.schema.key t.rows ≡ None =
      subst (λ key. first_clash key t.rows ≡ None) (key-at db at t here) (subst (λ rows. first_clash (key_at db at) rows ≡ None) (rows-at db at t here) (unbroken (first_clash (key_at db at) (rows_at db at)) e)) in
      put_mark true (λ strict. consistent_unbroken t.schema.key t.rows is.in_order none)

  pub drop_strict : AreValidTables (with_mark db at false)
  drop_strict = put_mark false (λ strict. absurd (let h : false ≡ true = strict in cc))

  -- ---- its key

  module _ (key : List ℕ) (fit : IsKey (length (kinds_at db at)) key) where
    wide : length (kinds_at db at) ≡ length t.schema.columns
    wide = ap length (kinds-at db at t here) ∙ length-map t.schema.columns (λ column. column.kind)

    pub schema_kept : IsSchema t.schema.columns key
    schema_kept =
        let fits = subst (λ n. IsKey n key) wide fit in
        record { size = t.schema.kept.size; names_differ = t.schema.kept.names_differ; some_key = fits.some_key; key_in_range = fits.key_in_range; key_apart = fits.key_apart }

    abbrev pub rekeyed : Table
    rekeyed = record { schema = record { name = t.schema.name; columns = t.schema.columns; key = key; strict = t.schema.strict; kept = schema_kept }; rows = block_order key t.rows }

    member : (row : List Value) → Contains (block_order key t.rows) row → Contains t.rows row
    member row m = (order_members key t.rows row).0 m

    -- no rows of a strict table share the key that it gets
    apart : rekey_fault db at key ≡ None → IsTrue t.schema.strict → AreConsistent key (block_order key t.rows)
    apart e strict =
        let marked : mark_at db at ≡ true = mark-at db at t here ∙ strict in
        let none : rekey_clash db at key ≡ None = unbroken (rekey_clash db at key) e in
        let stored : first_clash key (block_order key (rows_at db at)) ≡ None = ap (λ b. if b then first_clash key (block_order key (rows_at db at)) else None) (sym marked) ∙ none in
        consistent_unbroken key (block_order key t.rows) (order_sorted key t.rows) (subst (λ rows. first_clash key (block_order key rows) ≡ None) (rows-at db at t here) stored)

    pub set_key : rekey_fault db at key ≡ None → Rekeys db at key (slice_set db at rekeyed)
    set_key e = record {
      changed = rekeyed;
      rekeyed = subst (λ o. IfSome o (λ was. IsRekeyed was key rekeyed)) (sym here) (record { name = refl; columns = refl; key_is = refl; strict = refl; rows = refl });
      others = refl;
    }

    pub put_key : rekey_fault db at key ≡ None → AreValidTables (slice_set db at rekeyed)
    put_key e =
        put rekeyed refl (record { in_order = order_sorted key t.rows; of_schema = λ row m. is.of_schema row (member row m); strict = apart e }) (λ row m. values row (member row m))
        (let long = order_long key t.schema.key t.rows is.in_order in omega (arith, long))

  -- ---- fewer rows

  -- those of its rows that pass
  module _ (p : List Value → Bool) where
    abbrev pub left : List (List Value)
    left = filter p t.rows

    left-sorted : IsStrictlySortedBy (block_cmp t.schema.key) left
    left-sorted = IsStrictlySortedBy-filter (block_cmp t.schema.key) p t.rows is.in_order

    among : (row : List Value) → Contains left row → Contains t.rows row
    among row m = ((Contains-filter p t.rows row).0 m).0

    -- so many are taken
    abbrev pub taken : ℕ
    taken = length (filter (λ row. not (p row)) t.rows)

    all_counted : length left + taken ≡ length t.rows
    all_counted = length-filter_both p (λ row. not (p row)) (λ row. refl) t.rows

    counted : taken + length left ≡ length (rows_at db at)
    counted = let sum = all_counted in let same = ap length (rows-at db at t here) in omega (arith, sum, same)

    put_left : AreValidTables (with_rows db at left)
    put_left =
        let w : Table = record { schema = t.schema; rows = left } in
        subst AreValidTables (set_with_rows t w refl db at here)
        (put w refl (record { in_order = left-sorted; of_schema = λ row m. is.of_schema row (among row m); strict = λ strict. consistent_within t.schema.key t.rows left (is.strict strict) among })
        (λ row m. values row (among row m)) (let sum = all_counted in omega (arith, sum)))

  module _ (tests : List ColumnTest) where
    abbrev pub fails : List Value → Bool
    fails row = not (is_yes (dec_tests tests row))

    spared : IsSpared t.schema.key t.rows tests (left fails)
    spared = record {
      in_order = left-sorted fails;
      members = λ row. (
        λ m. let h = (Contains-filter fails t.rows row).0 m in (h.0, (is_no (dec_tests tests row)).0 h.1),
        λ h. (Contains-filter fails t.rows row).1 (h.0, (is_no (dec_tests tests row)).1 h.1),
      );
    }

    pub deletes : Deletes db at tests (with_rows db at (left fails)) (taken fails)
    deletes = record {
      rows = left fails;
      spared = subst (λ key. IsSpared key (rows_at db at) tests (left fails)) (sym (key-at db at t here)) (subst (λ rows. IsSpared t.schema.key rows tests (left fails)) (sym (rows-at db at t here)) spared);
      changed = refl;
      count_is = counted fails;
    }

    pub put_spared : AreValidTables (with_rows db at (left fails))
    put_spared = put_left fails

    -- all rows are one stretch, of those that have no first key values to be looked for
    pub whole : IsToldStretch t.schema.key t.rows tests 0 (0 + length t.rows)
    whole = record {
      values = [];
      stretch = t.rows;
      is = record {
        before = [];
        behind = [];
        place = refl;
        parts = sym (append-nil t.rows);
        these = λ i d l. refl;
        none_before = λ i d l. absurd (omega (arith, l));
        none_behind = λ i d l. absurd (omega (arith, l));
      };
      end = refl;
      known = λ row h. refl;
    }

    abbrev pub kept : List Value → Bool
    kept = stays t.schema.key t.rows tests 0 (length t.rows) whole

    preferred : IsPreferred t.schema.key t.rows tests (left kept)
    preferred = kept_preferred t.schema.key t.rows tests 0 (length t.rows) whole is.in_order

    pub prefers : Prefers db at tests (with_rows db at (left kept)) (taken kept)
    prefers = record {
      rows = left kept;
      preferred = subst (λ key. IsPreferred key (rows_at db at) tests (left kept)) (sym (key-at db at t here)) (subst (λ rows. IsPreferred t.schema.key rows tests (left kept)) (sym (rows-at db at t here)) preferred);
      changed = refl;
      count_is = counted kept;
    }

    pub put_preferred : AreValidTables (with_rows db at (left kept))
    put_preferred = put_left kept
