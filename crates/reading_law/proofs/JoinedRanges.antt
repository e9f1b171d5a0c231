-- Ranges over several tables of which no check fails.
use Rattle.std.proofs.Common.{◌≡◌, ◌<◌, ℕ, List, [], length, Option, Some, None, IfSome, refl, arith}
use Rattle.std.specs.List.{AllZip}
use Rattle.cqa_value.specs.declared.value.Kind.TheVariants.{Int}
use Rattle.aggregate_range.specs.declared.aggregate.Goal.{Goal}
use Rattle.aggregate_range.specs.declared.aggregate.Goal.TheVariants as goals
use Rattle.cqa_model.specs.declared.query.Atom.{Atom}
use Rattle.cqa_model.specs.declared.query.ColRef.{ColRef}
use Rattle.cqa_model.specs.declared.query.Query.{Query}
use Rattle.cqa_model.specs.Database.{Table}
use Rattle.refusals.specs.Refusal.{first_of}
use Rattle.refusals.proofs.Faults.{both_none}
use Rattle.spj_syntax.specs.declared.tree.RawCol.{RawCol}
use Rattle.spj_syntax.specs.declared.tree.RawJoinGoal.{RawJoinGoal}
use Rattle.spj_syntax.specs.declared.tree.RawJoinGoal.TheVariants as written
use Rattle.query_resolve.specs.Checks.{first_fault, from_fault, column_fault, column_kind, kinds_fault, where_fault, tables_fault, join_goal_fault, lax_fault, join_group_fault}
use Rattle.query_resolve.specs.Resolved.{IsAtomOf, IsJoinGoalOf, IsJoinGroupOf, lax_of}
use Rattle.query_resolve.proofs.Lookups.{zip_length}
use Rattle.query_resolve.proofs.Ranges.{query_kept, query_fits, lax_inside, others_strict}
use Rattle.query_resolve.proofs.Scopes.{atom_there}
use Rattle.reading_law.specs.Names.{RangesAreResolved}
use Rattle.reading_law.proofs.Columns.{column_resolved}
use Rattle.reading_law.proofs.Queries.{atoms_resolved, conds_resolved}

-- a goal over the witnesses of a query, with the atom of its column
record Asked (db : List Table) (names : List (List ℕ)) (raw : RawJoinGoal) (atoms : List Atom) : Type 0 where
  pub goal : Goal
  pub atom : ℕ
  pub is : IsJoinGoalOf db names raw goal atom
  pub inside : atom < length atoms

-- the column by whose values witnesses are grouped
record Grouped (db : List Table) (names : List (List ℕ)) (raw : Option RawCol) (atoms : List Atom) : Type 0 where
  pub group : Option ColRef
  pub is : IsJoinGroupOf db names raw group
  pub inside : IfSome group (λ col. col.atom < length atoms)

module _ (db : List Table) (names : List (List ℕ)) (atoms : List Atom) (are : AllZip (IsAtomOf db) names atoms) where
  goal_resolved : (raw : RawJoinGoal) → 0 < length atoms → join_goal_fault db names raw ≡ None → Asked db names raw atoms
  goal_resolved written.Count some e = record { goal = goals.Count; atom = 0; is = refl; inside = some }
  goal_resolved (written.Sum col) some e =
      let found = column_resolved db names col (both_none (column_fault db names col.table col.name) (kinds_fault 0 (column_kind db names col) Int) e).0 in
      record { goal = goals.Sum found.0.col; atom = found.0.atom; is = found.1; inside = atom_there db names atoms are col found.0 found.1 }
  goal_resolved (written.Min col) some e =
      let found = column_resolved db names col e in
      record { goal = goals.Min found.0.col; atom = found.0.atom; is = found.1; inside = atom_there db names atoms are col found.0 found.1 }
  goal_resolved (written.Max col) some e =
      let found = column_resolved db names col e in
      record { goal = goals.Max found.0.col; atom = found.0.atom; is = found.1; inside = atom_there db names atoms are col found.0 found.1 }

  group_resolved : (raw : Option RawCol) → join_group_fault db names raw ≡ None → Grouped db names raw atoms
  group_resolved None e = record { group = None; is = tt; inside = tt }
  group_resolved (Some col) e = let found = column_resolved db names col e in record { group = Some found.0; is = found.1; inside = atom_there db names atoms are col found.0 found.1 }

pub ranges_are_resolved : RangesAreResolved
ranges_are_resolved db raw is e =
    let names = raw.tables in
    let few = both_none (tables_fault names) (first_of (first_fault (from_fault db) [] names) (first_of (join_goal_fault db names raw.goal) (first_of (where_fault db names raw.conds) (first_of (join_group_fault db names raw.group) (first_fault (lax_fault db) [] names))))) e in
    let from = both_none (first_fault (from_fault db) [] names) (first_of (join_goal_fault db names raw.goal) (first_of (where_fault db names raw.conds) (first_of (join_group_fault db names raw.group) (first_fault (lax_fault db) [] names)))) few.1 in
    let asked = both_none (join_goal_fault db names raw.goal) (first_of (where_fault db names raw.conds) (first_of (join_group_fault db names raw.group) (first_fault (lax_fault db) [] names))) from.1 in
    let passing = both_none (where_fault db names raw.conds) (first_of (join_group_fault db names raw.group) (first_fault (lax_fault db) [] names)) asked.1 in
    let last = both_none (join_group_fault db names raw.group) (first_fault (lax_fault db) [] names) passing.1 in
    let atoms = atoms_resolved db names from.0 in
    let conds = conds_resolved db names raw.conds passing.0 in
    let some : 0 < length atoms.0 = omega (arith, raw.some_other, zip_length (IsAtomOf db) names atoms.0 atoms.1) in
    let goal = goal_resolved db names atoms.0 atoms.1 raw.goal some asked.0 in
    let group = group_resolved db names atoms.0 atoms.1 raw.group last.0 in
    let q : Query = record { atoms = atoms.0; conds = conds.0; answer = []; kept = query_kept db raw names raw.conds atoms.0 conds.0 [] refl refl refl atoms.1 from.0 conds.1 passing.0 few.0 } in (
      record { query = q; goal = goal.goal; atom = goal.atom; group = group.group; lax = lax_of atoms.0 },
      record {
        atoms = atoms.1;
        conds = conds.1;
        answer = refl;
        goal = goal.is;
        goal_inside = goal.inside;
        group = group.is;
        group_inside = group.inside;
        inside = lax_inside db names atoms.0 atoms.1 some;
        strict = others_strict db names atoms.0 atoms.1 last.1;
        fits = query_fits db raw names raw.conds atoms.0 conds.0 [] refl refl refl atoms.1 from.0 conds.1 passing.0 is q refl refl refl;
      },
    )
