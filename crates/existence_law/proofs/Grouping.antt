-- The ranges by groups: the values of groups are a list, and each has its range.
use Rattle.std.proofs.Common.{◌≡◌, ℕ, List, [], ◌∷◌, map, filter, Equal, refl, sym, ap, ◌∙◌, subst, Contains}
use Rattle.std.specs.Prelude.{All}
use Rattle.std.specs.List.Sorted.{IsStrictlySortedBy}
use Rattle.std.specs.Ordering.{is_eq}
use Rattle.std.proofs.lemmas.List.Elements.{All-from_recursion}
use Rattle.cqa_value.specs.declared.value.Value.{Value}
use Rattle.cqa_value.specs.Values.{value_cmp, value_cmp_total, value_ties, value_decides}
use Rattle.cqa_value.proofs.Words.{recursion_from_members, Contains-map, Contains-from_map, Contains-filter}
use Rattle.aggregate_range.specs.declared.aggregate.Goal.{Goal}
use Rattle.cqa_model.specs.Database.{Table}
use Rattle.existence_law.proofs.Ranging.{ranges_exist}
use Rattle.join_witness.proofs.Sorting.{sorted, in_order, members}
use Rattle.range_ask.specs.declared.groups.Group.{Group}
use Rattle.range_ask.specs.declared.range.Range.{Range}
use Rattle.range_ask.specs.Groups.{tests_with, IsGroup, HasMember, group_values, AreGroups}
use Rattle.range_ask.specs.Ranges.{cell, meets, IsRange}
use Rattle.existence_law.specs.RangeGroups.{GroupsExist}
use Rattle.table_blocks.specs.declared.test.ColumnTest.{ColumnTest}
use Rattle.table_blocks.specs.Tables.{rows_at}

value_exact : (x y : Value) → value_cmp x y ≡ Equal → x ≡ y
value_exact x y e = (value_decides x y).0 (value_ties x y ∙ ap is_eq e)

-- values in order, each once
pub values_in_order : List Value → List Value
values_in_order vs = sorted value_cmp value_cmp_total vs

pub values_rise : (vs : List Value) → IsStrictlySortedBy value_cmp (values_in_order vs)
unfolding values_in_order
values_rise vs = in_order value_cmp value_cmp_total vs

pub value_from : (vs : List Value) (v : Value) → Contains (values_in_order vs) v → Contains vs v
unfolding values_in_order
value_from vs v m = (members value_cmp value_cmp_total vs (λ x y a b e. value_exact x y e) v).0 m

pub value_in_order : (vs : List Value) (v : Value) → Contains vs v → Contains (values_in_order vs) v
unfolding values_in_order
value_in_order vs v m = (members value_cmp value_cmp_total vs (λ x y a b e. value_exact x y e) v).1 m

-- a group for each value
pub group_values-map : (group : Value → Group) → ((v : Value) → (group v).value ≡ v) → (vs : List Value) → group_values (map group vs) ≡ vs
group_values-map group own [] = refl
group_values-map group own (v ∷ vs) = ap (λ x. x ∷ group_values (map group vs)) (own v) ∙ ap (λ xs. v ∷ xs) (group_values-map group own vs)

pub each_group : (P : Group → Type 0) (group : Value → Group) (vs : List Value) → ((v : Value) → Contains vs v → P (group v)) → All P (map group vs)
each_group P group vs h = All-from_recursion P (map group vs) (recursion_from_members P (map group vs) (λ g m. let v = Contains-from_map group vs g m in subst P v.2 (h v.0 v.1)))

module _ (db : List Table) (table : ℕ) (goal : Goal) (tests : List ColumnTest) (col : ℕ) where
  abbrev those : List (List Value)
  those = filter (meets tests) (rows_at db table)

  abbrev given : List Value
  given = map (λ row. cell row col) those

  abbrev values : List Value
  values = values_in_order given

  range_of : (v : Value) → (range : Range) × IsRange db table goal (tests_with tests col v) range
  range_of v = ranges_exist db table goal (tests_with tests col v)

  abbrev group : Value → Group
  group v = record { value = v; least = (range_of v).0.least; greatest = (range_of v).0.greatest }

  groups : (groups : List Group) × AreGroups db table goal tests col groups
  groups = (
    map group values,
    record {
      ranges = each_group (IsGroup db table goal tests col) group values (λ v m. record { low = (range_of v).0.low; high = (range_of v).0.high; is = (range_of v).1 });
      ascend = subst (IsStrictlySortedBy value_cmp) (sym (group_values-map group (λ v. refl) values)) (values_rise given);
      whole = λ row m h. subst (λ vs. Contains vs (cell row col)) (sym (group_values-map group (λ v. refl) values))
          (value_in_order given (cell row col) (Contains-map (λ row. cell row col) those row ((Contains-filter (meets tests) (rows_at db table) row).1 (m, h))));
      members = each_group (λ (g : Group). HasMember db table tests col g.value) group values (λ v m.
          let r = Contains-from_map (λ row. cell row col) those v (value_from given v m) in
          let s = (Contains-filter (meets tests) (rows_at db table) r.0).0 r.1 in
          record { row = r.0; stored = s.0; meets_them = s.1; has = r.2 });
    },
  )

pub groups_exist : GroupsExist
groups_exist db table goal tests col = groups db table goal tests col
