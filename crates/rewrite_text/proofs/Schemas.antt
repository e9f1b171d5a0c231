-- The schema of a table, and its names.
use Rattle.std.proofs.Common.{◌≡◌, ℕ, ◌<◌, inl, inr, List, [], ◌++◌, length, get_or, map, slice_get, codes, append_assoc, Some, IfSome, ap, sym, ◌∙◌, subst, arith}
use Rattle.std.proofs.lemmas.List.{length-map, get_or_default}
use Rattle.std.proofs.lemmas.Option.{slice_get_cases}
use Rattle.cqa_model.specs.declared.schema.Column.{Column}
use Rattle.cqa_model.specs.declared.schema.Schema.{Schema}
use Rattle.cqa_model.specs.declared.query.ColRef.{ColRef}
use Rattle.cqa_model.specs.declared.query.Query.{Query}
use Rattle.cqa_model.specs.Database.{Table}
use Rattle.cqa_model.specs.Query.{atom_at, FitsDatabase}
use Rattle.cqa_value.specs.declared.value.Kind.TheVariants.{Int}
use Rattle.cqa_model.specs.Shape.{IsInRange}
use Rattle.schema_text.specs.Text.{schema_bytes}
use Rattle.cqa_model.proofs.Places.{map-at, kinds-at}
use Rattle.csv_rows.specs.Dumps.{create_words}
use Rattle.rewrite_text.specs.Texts.{name_at, column_name_at, qualified_name, certificate_create}
use Rattle.rewrite_text.specs.Drafts.{IsSchemaAt}

pub is_schema : (db : List Table) (table : ℕ) (schema : Schema) → table < length db → IfSome (slice_get db table) (λ t. schema ≡ t.schema) → IsSchemaAt db table schema
is_schema db table schema inside h = elim (slice_get_cases db table).1 [
  | inl found ↦ record { stored = found.0; found = found.2; is = subst (λ o. IfSome o (λ (t : Table). schema ≡ t.schema)) found.2 h }
  | inr past ↦ absurd (omega (arith, inside, past.0))
]

module _ (db : List Table) (table : ℕ) (schema : Schema) (s : IsSchemaAt db table schema) where
  pub schema_name : schema.name ≡ name_at db table
  schema_name = ap (λ (z : Schema). z.name) s.is ∙ sym (map-at (λ (t : Table). t.schema.name) db table s.stored [] s.found)

  pub schema_columns : schema.columns ≡ get_or (map (λ (t : Table). t.schema.columns) db) table []
  schema_columns = ap (λ (z : Schema). z.columns) s.is ∙ sym (map-at (λ (t : Table). t.schema.columns) db table s.stored [] s.found)

  pub schema_create : create_words schema.strict ++ schema_bytes schema ≡ certificate_create (slice_get db table)
  schema_create = ap (λ (z : Schema). certificate_create (Some (record { schema = z; rows = s.stored.rows }))) s.is ∙ ap certificate_create (sym s.found)

-- the columns of an atom's table are as many as the atom has
pub schema_width : (q : Query) (db : List Table) (c : ColRef) (schema : Schema) → FitsDatabase q db → IsInRange q.atoms c → IsSchemaAt db (atom_at q c.atom).table schema → c.col < length schema.columns
schema_width q db c schema fits inside s =
    let t = (atom_at q c.atom).table in
    let width = fits.width c.atom inside.0 in
    let kinds = ap length (kinds-at db t s.stored s.found) in
    let long = length-map s.stored.schema.columns (λ (column : Column). column.kind) in
    let same = ap (λ (z : Schema). length z.columns) s.is in
    let col = inside.1 in
    omega (arith, width, kinds, long, same, col)

-- a column is written behind its table
module _ (q : Query) (db : List Table) (c : ColRef) (schema : Schema) (fits : FitsDatabase q db) (inside : IsInRange q.atoms c) (s : IsSchemaAt db (atom_at q c.atom).table schema) where
  column_name_is : (columns : List Column) (x : Column) → columns ≡ schema.columns → x ≡ get_or columns c.col x → x.name ≡ column_name_at db (atom_at q c.atom).table c.col
  column_name_is columns x e is =
      let none : Column = record { name = []; kind = Int } in
      let l = schema_width q db c schema fits inside s in
      ap (λ (z : Column). z.name) (is ∙ ap (λ (z : List Column). get_or z c.col x) e ∙ get_or_default schema.columns c.col x none l ∙ ap (λ (z : List Column). get_or z c.col none) (schema_columns db (atom_at q c.atom).table schema s))

  pub column_written : (old one two three name column : List ℕ) (columns : List Column) (x : Column) → columns ≡ schema.columns → x ≡ get_or columns c.col x → name ≡ schema.name → column ≡ x.name →
      one ≡ old ++ name → two ≡ one ++ codes "." → three ≡ two ++ column → three ≡ old ++ qualified_name db q c
  column_written old one two three name column columns x e is named columned f g h =
      let n = named ∙ schema_name db (atom_at q c.atom).table schema s in
      let k = columned ∙ column_name_is columns x e is in
      h ∙ ap (λ z. z ++ column) (g ∙ ap (λ z. z ++ codes ".") f) ∙ ap (λ z. ((old ++ z) ++ codes ".") ++ column) n ∙ ap (λ z. ((old ++ name_at db (atom_at q c.atom).table) ++ codes ".") ++ z) k
      ∙ append_assoc (old ++ name_at db (atom_at q c.atom).table) (codes ".") (column_name_at db (atom_at q c.atom).table c.col)
      ∙ append_assoc old (name_at db (atom_at q c.atom).table) (codes "." ++ column_name_at db (atom_at q c.atom).table c.col)
      ∙ ap (λ z. old ++ z) (sym (append_assoc (name_at db (atom_at q c.atom).table) (codes ".") (column_name_at db (atom_at q c.atom).table c.col)))
