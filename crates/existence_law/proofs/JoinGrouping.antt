-- The ranges by groups of witnesses: the values of groups are a list, and each has its range.
use Rattle.std.proofs.Common.{ℕ, inl, inr, List, [], map, refl, sym, ◌∙◌, subst, Contains}
use Rattle.std.specs.List.Sorted.{IsStrictlySortedBy}
use Rattle.cqa_value.specs.declared.value.Value.{Value}
use Rattle.cqa_value.specs.Values.{value_cmp}
use Rattle.cqa_value.proofs.Words.{Contains-map, Contains-from_map}
use Rattle.cqa_model.specs.declared.query.ColRef.{ColRef}
use Rattle.cqa_model.specs.declared.query.Query.{Query}
use Rattle.cqa_model.specs.declared.query.RowId.{RowId}
use Rattle.cqa_model.specs.Database.{Table, stored}
use Rattle.cqa_model.specs.Query.{IsWitness}
use Rattle.cqa_model.proofs.Values.{value_discrete}
use Rattle.join_witness.proofs.Listing.{all_names}
use Rattle.range_ask.specs.declared.groups.Group.{Group}
use Rattle.range_ask.specs.declared.range.Range.{Range}
use Rattle.range_groups.specs.JoinGroups.{grouping_value, HasThere, IsJoinGroup, HasWitnessWith, AreJoinGroups}
use Rattle.range_join.specs.declared.sought.Sought.{Sought}
use Rattle.range_join.specs.Joins.{IsPartRange}
use Rattle.range_join.specs.Worths.{named_row}
use Rattle.range_join.proofs.Named.{rows_told, names_for}
use Rattle.existence_law.specs.JoinRanges.{CanBeRanged, JoinGroupsExist}
use Rattle.existence_law.proofs.Grouping.{values_in_order, values_rise, value_from, value_in_order, group_values-map, each_group}
use Rattle.existence_law.proofs.Joining.{part_range}

module _ (db : List Table) (q : Query) (lax : ℕ) (sought : Sought) (column : ColRef) (can : CanBeRanged db q lax sought) where
  abbrev all : List (List RowId)
  all = (all_names db q []).0

  -- all witnesses among the stored rows
  abbrev witnesses : List (List (List Value))
  witnesses = map (map (named_row db)) all

  are_witnesses : (w : List (List Value)) → Contains witnesses w → IsWitness q (stored db) [] w
  are_witnesses w m =
      let n = Contains-from_map (map (named_row db)) all w m in
      let a = ((all_names db q []).1.exactly n.0).0 n.1 in
      subst (IsWitness q (stored db) []) (sym (rows_told db q.atoms n.0 a.0 a.2) ∙ n.2) a.1

  all_witnesses : (w : List (List Value)) → IsWitness q (stored db) [] w → Contains witnesses w
  all_witnesses w h =
      let n = names_for db q.atoms w h.size h.kept in
      subst (Contains witnesses) (rows_told db q.atoms n.0 w n.1) (Contains-map (map (named_row db)) all n.0 (((all_names db q []).1.exactly n.0).1 (w, h, n.1)))

  abbrev given : List Value
  given = map (grouping_value column) witnesses

  abbrev values : List Value
  values = values_in_order given

  range_of : (v : Value) → (range : Range) × IsPartRange db q lax (HasThere column v) sought range
  range_of v = part_range db q lax sought (HasThere column v) can (λ w. elim (value_discrete (grouping_value column w) v) [ yes e ↦ inl e | no f ↦ inr f ])

  abbrev group : Value → Group
  group v = record { value = v; least = (range_of v).0.least; greatest = (range_of v).0.greatest }

  groups : (groups : List Group) × AreJoinGroups db q lax sought column groups
  groups = (
    map group values,
    record {
      ranges = each_group (IsJoinGroup db q lax sought column) group values (λ v m. record { low = (range_of v).0.low; high = (range_of v).0.high; is = (range_of v).1 });
      ascend = subst (IsStrictlySortedBy value_cmp) (sym (group_values-map group (λ v. refl) values)) (values_rise given);
      whole = λ w h. subst (λ vs. Contains vs (grouping_value column w)) (sym (group_values-map group (λ v. refl) values))
          (value_in_order given (grouping_value column w) (Contains-map (grouping_value column) witnesses w (all_witnesses w h)));
      members = each_group (λ (g : Group). HasWitnessWith db q column g.value) group values (λ v m.
          let w = Contains-from_map (grouping_value column) witnesses v (value_from given v m) in
          record { w = w.0; is_witness = are_witnesses w.0 w.1; has = w.2 });
    },
  )

pub join_groups_exist : JoinGroupsExist
join_groups_exist db q lax sought column can = groups db q lax sought column can
