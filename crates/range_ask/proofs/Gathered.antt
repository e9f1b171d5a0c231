-- Groups with both ends are those of a range.
use Rattle.std.proofs.Common.{◌≡◌, ℕ, ◌≤◌, true, List, [], ◌∷◌, length, map, Contains, Option, Some, None, refl, sym, ◌∙◌, ap, subst}
use Rattle.std.specs.List.{AllZip}
use Rattle.std.specs.List.Sorted.{IsStrictlySortedBy}
use Rattle.std.specs.BTreeMap.{BTreeMap, get, keys, is_at}
use Rattle.std.proofs.lemmas.Map.Entries.{btree_map_get_place, place_from_lookup}
use Rattle.std.proofs.lemmas.Option.{slice_get-get_or}
use Rattle.cqa_value.specs.declared.value.Value.{Value}
use Rattle.cqa_value.specs.Values.{value_cmp, value_cmp_total, value_ties, value_decides}
use Rattle.cqa_value.proofs.Words.{Contains-filter, Contains-map, Contains-slice_get, all_zip_right, mem-nil}
use Rattle.aggregate_range.specs.declared.aggregate.Goal.{Goal}
use Rattle.cqa_model.specs.declared.limits.TheConstants.{MOST_ROWS}
use Rattle.cqa_model.specs.Database.{Table}
use Rattle.table_blocks.specs.declared.test.ColumnTest.{ColumnTest}
use Rattle.range_ask.specs.declared.groups.Group.{Group}
use Rattle.range_ask.specs.declared.tally.Tally.{Tally}
use Rattle.range_ask.specs.Ranges.{cell, meets, IsRange}
use Rattle.range_ask.specs.Picks.{IsInBlocks}
use Rattle.range_ask.specs.Walking.{rows_of_blocks}
use Rattle.range_ask.specs.Groups.{tests_with, group_values, IsGroup, HasMember, AreGroups}
use Rattle.range_ask.specs.Tallying.{low_end, IsKnownGroup, IsWhole, AreTallied, IsEnded}
use Rattle.join_access.specs.Deciding.{of_all}
use Rattle.range_ask.proofs.Membership.{is-in, of-in}
use Rattle.range_ask.proofs.Grouped.{group-range}

module _ (db : List Table) (table : ℕ) (goal : Goal) (tests : List ColumnTest) (col : ℕ) (blocks : List (List (List Value))) (parted : IsInBlocks db table blocks) (few : length blocks ≤ MOST_ROWS) (map_of : BTreeMap Value Tally)
    (ordered : IsStrictlySortedBy value_cmp (keys map_of)) (tallied : AreTallied goal tests col blocks map_of) where
  abbrev Ended : Value × Tally → Group → Type 0
  Ended entry group = IsEnded goal entry.0 entry.1 group

  found : (entry : Value × Tally) → Contains map_of.entries entry → get value_cmp map_of entry.0 ≡ Some entry.1
  found entry (k, l, e) = btree_map_get_place value_cmp_total map_of k entry.0 entry.1 ordered (slice_get-get_or map_of.entries k entry l ∙ ap Some e)

  group-is : (entry : Value × Tally) (group : Group) → Contains map_of.entries entry → Ended entry group → IsGroup db table goal tests col group
  group-is entry group m e =
      let whole = subst (λ o. IsKnownGroup (meets (tests_with tests col entry.0)) (rows_of_blocks blocks) o × IsWhole goal (meets (tests_with tests col entry.0)) blocks o) (found entry m) (tallied entry.0) in
      let r = group-range db table (tests_with tests col entry.0) blocks parted goal entry.1 whole.1 in
      let ends = e.ends (meets (tests_with tests col entry.0)) blocks few whole.1 in
      record {
        low = r.0;
        high = r.1;
        is = subst (λ v. IsRange db table goal (tests_with tests col v) (record { least = group.least; low = r.0; greatest = group.greatest; high = r.1 })) (sym e.value_is)
            (subst (λ a. IsRange db table goal (tests_with tests col entry.0) (record { least = a; low = r.0; greatest = group.greatest; high = r.1 })) (sym ends.low)
            (subst (λ b. IsRange db table goal (tests_with tests col entry.0) (record { least = low_end goal entry.1; low = r.0; greatest = b; high = r.1 })) (sym ends.high) r.2));
      }

  member-is : (entry : Value × Tally) (group : Group) → Contains map_of.entries entry → Ended entry group → HasMember db table tests col group.value
  member-is entry group m e =
      let known = subst (IsKnownGroup (meets (tests_with tests col entry.0)) (rows_of_blocks blocks)) (found entry m) (tallied entry.0).0 in
      let row = (Contains-filter (meets (tests_with tests col entry.0)) (rows_of_blocks blocks) known.0).0 known.1 in
      let of = of-in tests col entry.0 known.0 row.1 in
      record { row = known.0; stored = subst (λ rs. Contains rs known.0) parted.blocks_are.joined row.0; meets_them = of.0; has = of.1 ∙ sym e.value_is }

  same-values : (entries : List (Value × Tally)) (groups : List Group) → AllZip Ended entries groups → group_values groups ≡ map (λ e. e.0) entries
  same-values [] [] h = refl
  same-values [] (g ∷ gs) h = absurd h
  same-values (e ∷ es) [] h = absurd h
  same-values (e ∷ es) (g ∷ gs) h = ap (λ v. v ∷ group_values gs) h.0.value_is ∙ ap (λ vs. e.0 ∷ vs) (same-values es gs h.1)

  known-value : (v : Value) (row : List Value) → Contains (rows_of_blocks blocks) row → meets (tests_with tests col v) row ≡ true → (o : Option Tally) → get value_cmp map_of v ≡ o → IsKnownGroup (meets (tests_with tests col v)) (rows_of_blocks blocks) o → Contains (keys map_of) v
  known-value v row m t None e none = absurd (mem-nil row (subst (λ rs. Contains rs row) none ((Contains-filter (meets (tests_with tests col v)) (rows_of_blocks blocks) row).1 (m, t))))
  known-value v row m t (Some tally) e known =
      let p = place_from_lookup (is_at (value_cmp v)) map_of.entries tally e in
      let same : v ≡ p.1 = (value_decides v p.1).0 (value_ties v p.1 ∙ p.3) in
      subst (Contains (keys map_of)) (sym same) (Contains-map (λ (x : Value × Tally). x.0) map_of.entries (p.1, tally) (Contains-slice_get map_of.entries p.0 (p.1, tally) p.2))

  pub groups-are : (groups : List Group) → AllZip Ended map_of.entries groups → AreGroups db table goal tests col groups
  groups-are groups h =
      let values = same-values map_of.entries groups h in record {
        ranges = of_all (IsGroup db table goal tests col) groups (λ g m. let e = all_zip_right Ended map_of.entries groups g h m in group-is e.0 g e.1 e.2);
        ascend = subst (IsStrictlySortedBy value_cmp) (sym values) ordered;
        whole = λ row m t. subst (λ vs. Contains vs (cell row col)) (sym values)
            (known-value (cell row col) row (subst (λ rs. Contains rs row) (sym parted.blocks_are.joined) m) (is-in tests col (cell row col) row t refl) (get value_cmp map_of (cell row col)) refl (tallied (cell row col)).0);
        members = of_all (λ g. HasMember db table tests col g.value) groups (λ g m. let e = all_zip_right Ended map_of.entries groups g h m in member-is e.0 g e.1 e.2);
      }
