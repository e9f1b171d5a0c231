-- Queries and unions of which no check fails.
use Rattle.std.proofs.Common.{◌≡◌, ℕ, List, [], length, map, None, nat_le, refl, sym, ◌∙◌}
use Rattle.std.specs.List.{AllZip}
use Rattle.std.specs.Option.{is_none, is_some}
use Rattle.cqa_model.specs.declared.limits.TheConstants.{MOST_SELECTS}
use Rattle.cqa_model.specs.declared.query.Atom.{Atom}
use Rattle.cqa_model.specs.declared.query.ColRef.{ColRef}
use Rattle.cqa_model.specs.declared.query.Cond.{Cond}
use Rattle.cqa_model.specs.declared.query.Query.{Query}
use Rattle.cqa_model.specs.Database.{Table}
use Rattle.refusals.specs.declared.refusal.Refusal.TheVariants.{UnknownTable, SelfJoin, Limit}
use Rattle.refusals.specs.declared.refusal.LimitKind.TheVariants.{Selects}
use Rattle.refusals.specs.Refusal.{first_of}
use Rattle.refusals.proofs.Faults.{both_none}
use Rattle.spj_syntax.specs.declared.tree.RawCol.{RawCol}
use Rattle.spj_syntax.specs.declared.tree.RawCond.{RawCond}
use Rattle.table_blocks.specs.Tables.{table_named, key_at, mark_at}
use Rattle.query_resolve.specs.Names.{name_place, columns_at}
use Rattle.query_resolve.specs.Checks.{fault_unless, first_fault, fault_by_number, from_fault, column_fault, cond_fault, size_fault, select_fault, where_fault, query_fault, select_kinds, answers_fault}
use Rattle.query_resolve.specs.Resolved.{IsAtomOf, IsColumnOf, IsCondOf, IsQueryOf}
use Rattle.query_resolve.proofs.Lookups.{passes, at_most, some_is}
use Rattle.query_resolve.proofs.Queries.{Parts, is_query, query_of}
use Rattle.query_resolve.proofs.Alike.{union_is, are_queries}
use Rattle.reading_law.specs.Names.{QueriesAreResolved, UnionsAreResolved}
use Rattle.reading_law.proofs.Members.{all_resolved}
use Rattle.reading_law.proofs.Columns.{column_resolved, cond_resolved}

module _ (db : List Table) where
  atom_resolved : (before : List (List ℕ)) (name : List ℕ) → from_fault db before name ≡ None → (atom : Atom) × IsAtomOf db name atom
  atom_resolved before name e =
      let table = some_is (table_named db name) (passes _ (UnknownTable name) (both_none (fault_unless (is_some (table_named db name)) (UnknownTable name)) (fault_unless (is_none (name_place before name)) (SelfJoin name)) e).0) in
      (record { table = table.0; width = length (columns_at db table.0); key = key_at db table.0; strict = mark_at db table.0 }, record { table = table.1; width = refl; key = refl; mark = refl })

  pub atoms_resolved : (names : List (List ℕ)) → first_fault (from_fault db) [] names ≡ None → (atoms : List Atom) × AllZip (IsAtomOf db) names atoms
  atoms_resolved names e = all_resolved (from_fault db) (IsAtomOf db) (λ before name h. atom_resolved before name h) [] names e

  columns_resolved : (names : List (List ℕ)) (columns : List RawCol) → select_fault db names columns ≡ None → (answer : List ColRef) × AllZip (IsColumnOf db names) columns answer
  columns_resolved names columns e = all_resolved (λ before (col : RawCol). column_fault db names col.table col.name) (IsColumnOf db names) (λ before col h. column_resolved db names col h) [] columns e

  pub conds_resolved : (names : List (List ℕ)) (raw : List RawCond) → where_fault db names raw ≡ None → (conds : List Cond) × AllZip (IsCondOf db names) raw conds
  conds_resolved names raw e = all_resolved (fault_by_number (cond_fault db names)) (IsCondOf db names) (λ before c h. cond_resolved db names _ c h) [] raw e

pub queries_are_resolved : QueriesAreResolved
queries_are_resolved db select is e =
    let one = both_none (size_fault select) (first_of (first_fault (from_fault db) [] select.tables) (first_of (select_fault db select.tables select.columns) (where_fault db select.tables select.conds))) e in
    let two = both_none (first_fault (from_fault db) [] select.tables) (first_of (select_fault db select.tables select.columns) (where_fault db select.tables select.conds)) one.1 in
    let three = both_none (select_fault db select.tables select.columns) (where_fault db select.tables select.conds) two.1 in
    let atoms = atoms_resolved db select.tables two.0 in
    let answer = columns_resolved db select.tables select.columns three.0 in
    let conds = conds_resolved db select.tables select.conds three.1 in
    let parts : Parts db select.tables select.columns select.conds atoms.0 conds.0 answer.0 = record { are = atoms.1; apart = two.0; selected = answer.1; meant = conds.1; sound = three.1 } in
    let q : Query = record { atoms = atoms.0; conds = conds.0; answer = answer.0; kept = is_query db select atoms.0 conds.0 answer.0 parts select.some_table one.0 } in
    (q, query_of db is select q parts)

pub unions_are_resolved : UnionsAreResolved
unions_are_resolved db selects is two e =
    let one = both_none (fault_unless (nat_le (length selects) MOST_SELECTS) (Limit Selects)) (first_of (first_fault (λ before select. query_fault db select) [] selects) (answers_fault (map (select_kinds db) selects))) e in
    let few = at_most (length selects) MOST_SELECTS (passes _ (Limit Selects) one.0) in
    let each = both_none (first_fault (λ before select. query_fault db select) [] selects) (answers_fault (map (select_kinds db) selects)) one.1 in
    let parts = all_resolved (λ before select. query_fault db select) (IsQueryOf db) (λ before select h. queries_are_resolved db select is h) [] selects each.0 in
    (parts.0, are_queries db selects parts.0 two few parts.1 (sym (union_is db selects parts.0 few each.0 parts.1) ∙ e))
