-- A query over one table of a database fits it, and its certain rows are read from the table's blocks.
use Rattle.std.proofs.Common.{◌≡◌, IsTrue, false, ℕ, ◌<◌, ◌↔◌, List, [], ◌∷◌, length, get_or, slice_get, Some, ap, sym, ◌∙◌, subst, arith, Contains}
use Rattle.std.proofs.Math.ListN.{get_or-map}
use Rattle.std.proofs.lemmas.List.{length-map}
use Rattle.std.proofs.lemmas.Option.{slice_get_within}
use Rattle.cqa_value.specs.declared.value.Kind.TheVariants.{Int as IntKind}
use Rattle.cqa_value.specs.declared.value.Value.{Value}
use Rattle.cqa_model.specs.declared.schema.Column.{Column}
use Rattle.cqa_model.specs.declared.query.Cond.{Cond}
use Rattle.cqa_model.specs.declared.query.Cond.TheVariants.{Join, Test}
use Rattle.cqa_model.specs.declared.query.ColRef.{ColRef}
use Rattle.cqa_model.specs.declared.query.Query.{Query}
use Rattle.cqa_model.specs.Shape.{column_at, nth_atom, IsInRange}
use Rattle.cqa_model.specs.Database.{Table, IsTable, AreConsistent, keys_of, marks_of, stored, column_kinds}
use Rattle.cqa_model.specs.Query.{atom_at, atom_key, rows_of, atom_of, kind_at, KindsAgree, FitsDatabase}
use Rattle.cqa_model.specs.Certain.{IsCertain}
use Rattle.cqa_model.specs.OneTable.{RowKindsAgree, FitsRow, SomeBlockFits}
use Rattle.cqa_model.proofs.Classic.{mem-head, mem-tail}
use Rattle.cqa_model.proofs.Places.{rows-at, key-at, mark-at, kinds-at}
use Rattle.cqa_model.proofs.Databases.{certain_over_one}

module _ (db : List Table) (q : Query) (t : ℕ) (table : Table) (here : slice_get db t ≡ Some table) (only : q.atoms ≡ atom_of t table.schema ∷ []) where
  one : length q.atoms ≡ 1
  one = ap length only

  first_is : (F : ℕ) → F < length q.atoms → atom_at q F ≡ atom_of t table.schema
  first_is F l = let z : F ≡ 0 = omega (arith, one) in ap (λ G. nth_atom q.atoms G) z ∙ ap (λ atoms. nth_atom atoms 0) only

  column_kind : (c : ColRef) → IsInRange q.atoms c → kind_at q db c ≡ (column_at table.schema.columns c.col).kind
  column_kind c r =
      ap (λ atom. get_or (get_or (column_kinds db) atom.table []) c.col IntKind) (first_is c.atom r.0) ∙
      ap (λ kinds. get_or kinds c.col IntKind) (kinds-at db t table here) ∙ get_or-map (λ (column : Column). column.kind) table.schema.columns c.col (record { name = []; kind = IntKind })

  kinds : (k : Cond) → Contains q.conds k → RowKindsAgree table.schema k → KindsAgree q db k
  kinds (Join c d) m e =
      column_kind c (q.kept.conds_in_range (Join c d) m c (mem-head c (d ∷ []))) ∙ e ∙ sym (column_kind d (q.kept.conds_in_range (Join c d) m d (mem-tail d c (d ∷ []) (mem-head d []))))
  kinds (Test c op x) m e = column_kind c (q.kept.conds_in_range (Test c op x) m c (mem-head c [])) ∙ e

  rows_at_first : (F : ℕ) → F < length q.atoms → rows_of q (stored db) F ≡ table.rows
  rows_at_first F l = ap (λ atom. get_or (stored db) atom.table []) (first_is F l) ∙ rows-at db t table here

  pub fits_table : IsTable table → ((k : Cond) → Contains q.conds k → RowKindsAgree table.schema k) → FitsDatabase q db
  fits_table valid agree = record {
    there = λ F l. subst (λ atom. atom.table < length db) (sym (first_is F l)) (slice_get_within db t table here);
    width = λ F l. ap (λ atom. atom.width) (first_is F l) ∙ sym (length-map table.schema.columns (λ (column : Column). column.kind)) ∙
        ap length (sym (kinds-at db t table here)) ∙ ap (λ atom. length (get_or (column_kinds db) atom.table [])) (sym (first_is F l));
    keyed = λ F l. ap (λ atom. atom.key) (first_is F l) ∙ sym (key-at db t table here) ∙ ap (λ atom. get_or (keys_of db) atom.table []) (sym (first_is F l));
    marked = λ F l. ap (λ atom. atom.strict) (first_is F l) ∙ sym (mark-at db t table here) ∙ ap (λ atom. get_or (marks_of db) atom.table false) (sym (first_is F l));
    strict = λ F l s. subst (λ rows. AreConsistent (atom_key q F) rows) (sym (rows_at_first F l))
        (subst (λ atom. AreConsistent atom.key table.rows) (sym (first_is F l)) (valid.strict (subst (λ atom. IsTrue atom.strict) (first_is F l) s)));
    kinds = λ k m. kinds k m (agree k m);
  }

  pub certain_in_table : FitsDatabase q db → (row : List Value) → IsCertain db q row ↔ SomeBlockFits table.schema.key table.rows (FitsRow q row)
  certain_in_table fits row =
      let law = certain_over_one db q row fits one in
      let atom : atom_at q 0 ≡ atom_of t table.schema = first_is 0 (omega (arith, one)) in
      let rows : get_or (stored db) (atom_at q 0).table [] ≡ table.rows = ap (λ a. get_or (stored db) a.table []) atom ∙ rows-at db t table here in
      let same : SomeBlockFits (atom_at q 0).key (get_or (stored db) (atom_at q 0).table []) (FitsRow q row) ≡ SomeBlockFits table.schema.key table.rows (FitsRow q row) =
      ap (λ a. SomeBlockFits a.key (get_or (stored db) (atom_at q 0).table []) (FitsRow q row)) atom ∙ ap (λ xs. SomeBlockFits table.schema.key xs (FitsRow q row)) rows in
      subst (λ P. IsCertain db q row ↔ P) same law
