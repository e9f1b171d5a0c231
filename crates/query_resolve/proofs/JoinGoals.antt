-- What a range over several tables asks of, and what it groups by, are columns of its atoms.
use Rattle.std.proofs.Common.{◌<◌, ℕ, List, length, Option, Some, None, IfSome, arith}
use Rattle.std.specs.List.{AllZip}
use Rattle.aggregate_range.specs.declared.aggregate.Goal.{Goal}
use Rattle.aggregate_range.specs.declared.aggregate.Goal.TheVariants as goals
use Rattle.cqa_model.specs.declared.query.Atom.{Atom}
use Rattle.cqa_model.specs.Database.{Table}
use Rattle.cqa_model.specs.declared.query.ColRef.{ColRef}
use Rattle.query_resolve.specs.Resolved.{IsAtomOf, IsJoinGoalOf, IsJoinGroupOf}
use Rattle.query_resolve.proofs.Scopes.{atom_there}
use Rattle.spj_syntax.specs.declared.tree.RawCol.{RawCol}
use Rattle.spj_syntax.specs.declared.tree.RawJoinGoal.{RawJoinGoal}
use Rattle.spj_syntax.specs.declared.tree.RawJoinGoal.TheVariants as written

module _ (db : List Table) (names : List (List ℕ)) (atoms : List Atom) (are : AllZip (IsAtomOf db) names atoms) (some : 0 < length atoms) where
  -- the atom of a goal is one of the query's
  pub goal_inside : (raw : RawJoinGoal) (goal : Goal) (atom : ℕ) → IsJoinGoalOf db names raw goal atom → atom < length atoms
  goal_inside written.Count goals.Count atom is = omega (arith, is, some)
  goal_inside written.Count (goals.Sum col) atom is = absurd is
  goal_inside written.Count (goals.Min col) atom is = absurd is
  goal_inside written.Count (goals.Max col) atom is = absurd is
  goal_inside (written.Sum name) goals.Count atom is = absurd is
  goal_inside (written.Sum name) (goals.Sum col) atom is = atom_there db names atoms are name (record { atom = atom; col = col }) is
  goal_inside (written.Sum name) (goals.Min col) atom is = absurd is
  goal_inside (written.Sum name) (goals.Max col) atom is = absurd is
  goal_inside (written.Min name) goals.Count atom is = absurd is
  goal_inside (written.Min name) (goals.Sum col) atom is = absurd is
  goal_inside (written.Min name) (goals.Min col) atom is = atom_there db names atoms are name (record { atom = atom; col = col }) is
  goal_inside (written.Min name) (goals.Max col) atom is = absurd is
  goal_inside (written.Max name) goals.Count atom is = absurd is
  goal_inside (written.Max name) (goals.Sum col) atom is = absurd is
  goal_inside (written.Max name) (goals.Min col) atom is = absurd is
  goal_inside (written.Max name) (goals.Max col) atom is = atom_there db names atoms are name (record { atom = atom; col = col }) is

  -- so is that of the column of the groups
  pub group_inside : (raw : Option RawCol) (group : Option ColRef) → IsJoinGroupOf db names raw group → IfSome group (λ col. col.atom < length atoms)
  group_inside None None is = tt
  group_inside None (Some col) is = absurd is
  group_inside (Some name) None is = absurd is
  group_inside (Some name) (Some col) is = atom_there db names atoms are name col is
