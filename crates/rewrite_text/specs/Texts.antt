-- The text of a certificate of rewriting.
use Rattle.std.specs.Prelude.{ℕ, List, [], ◌∷◌, ◌++◌, map, Option, Some, None, codes, slice_get, slice_index_or}
use Rattle.std.specs.List.{flat_map, join_by}
use Rattle.cqa_value.specs.declared.value.Value.{Value}
use Rattle.cqa_value.specs.Literals.{literal_bytes, row_bytes}
use Rattle.cqa_model.specs.declared.query.Op.{Op}
use Rattle.cqa_model.specs.declared.query.Op.TheVariants.{Eq, Ne, Lt, Le, Gt, Ge}
use Rattle.cqa_model.specs.declared.query.Cond.{Cond}
use Rattle.cqa_model.specs.declared.query.Cond.TheVariants.{Join, Test}
use Rattle.cqa_model.specs.declared.query.ColRef.{ColRef}
use Rattle.cqa_model.specs.declared.query.Atom.{Atom}
use Rattle.cqa_model.specs.declared.query.Query.{Query}
use Rattle.cqa_model.specs.Database.{Table, names_of}
use Rattle.cqa_model.specs.Query.{atom_at}
use Rattle.cqa_model.specs.Shape.{column_at}
use Rattle.schema_text.specs.Text.{schema_bytes}
use Rattle.csv_rows.specs.Dumps.{create_words}
use Rattle.block_tree.specs.declared.node.Node.{Node}

-- the name of the table at a place
abbrev pub name_at : List Table → ℕ → List ℕ
name_at db table = slice_index_or (names_of db) table []

-- the name of an atom's table
abbrev pub atom_name : List Table → Query → ℕ → List ℕ
atom_name db q F = name_at db (atom_at q F).table

-- the name of a column of the table at a place
abbrev pub column_name_at : List Table → ℕ → ℕ → List ℕ
column_name_at db table col = (column_at (slice_index_or (map (λ (t : Table). t.schema.columns) db) table []) col).name

-- TABLE.COLUMN
abbrev pub qualified_name : List Table → Query → ColRef → List ℕ
qualified_name db q c = atom_name db q c.atom ++ codes "." ++ column_name_at db (atom_at q c.atom).table c.col

-- an operator, between spaces
abbrev pub spaced_operator : Op → List ℕ
spaced_operator Eq = codes " = "
spaced_operator Ne = codes " <> "
spaced_operator Lt = codes " < "
spaced_operator Le = codes " <= "
spaced_operator Gt = codes " > "
spaced_operator Ge = codes " >= "

-- TABLE.COLUMN = TABLE.COLUMN, or TABLE.COLUMN OPERATOR LITERAL
abbrev pub condition_text : List Table → Query → Cond → List ℕ
condition_text db q (Join left right) = qualified_name db q left ++ codes " = " ++ qualified_name db q right
condition_text db q (Test col op value) = qualified_name db q col ++ spaced_operator op ++ literal_bytes value

-- exists, or select with the answer's columns
abbrev pub asked_text : List Table → Query → List ColRef → List ℕ
asked_text db q [] = codes "exists"
asked_text db q (column ∷ columns) = codes "select " ++ join_by (qualified_name db q) (codes ", ") (column ∷ columns)

-- from with the tables of these atoms
abbrev pub from_text : List Table → List Atom → List ℕ
from_text db atoms = codes " from " ++ join_by (λ (atom : Atom). name_at db atom.table) (codes ", ") atoms

-- nothing, or where with the conditions
abbrev pub where_text : List Table → Query → List Cond → List ℕ
where_text db q [] = []
where_text db q (condition ∷ conditions) = codes " where " ++ join_by (condition_text db q) (codes " and ") (condition ∷ conditions)

-- create table SCHEMA, or create strict table SCHEMA
abbrev pub certificate_create : Option Table → List ℕ
certificate_create None = []
certificate_create (Some table) = create_words table.schema.strict ++ schema_bytes table.schema

-- prove row ROW for QUERY
abbrev pub certificate_prove : List Table → Query → List Value → List ℕ
certificate_prove db q row = codes "prove row " ++ row_bytes row ++ codes " for " ++ asked_text db q q.answer ++ from_text db q.atoms ++ where_text db q q.conds

-- order NAME, NAME
abbrev pub certificate_order : List Table → Query → List ℕ → List ℕ
certificate_order db q plan = codes "order " ++ join_by (atom_name db q) (codes ", ") plan

-- block NAME values ROW, ROW
abbrev pub certificate_block : List Table → Query → Node → List ℕ
certificate_block db q node = codes "block " ++ atom_name db q node.atom ++ codes " values " ++ join_by row_bytes (codes ", ") node.rows

-- the statements that make the tables of these atoms
abbrev pub certificate_creates : List Table → List Atom → List (List ℕ)
certificate_creates db atoms = map (λ (atom : Atom). certificate_create (slice_get db atom.table)) atoms

-- the statements before the blocks: the tables in the query's order, what is proved, and the order of the plan
abbrev pub certificate_head : List Table → Query → List Value → List ℕ → List (List ℕ)
certificate_head db q row plan = certificate_creates db q.atoms ++ certificate_prove db q row ∷ certificate_order db q plan ∷ []

-- the statements of a certificate: those, and the blocks
abbrev pub certificate_statements : List Table → Query → List Value → List ℕ → List Node → List (List ℕ)
certificate_statements db q row plan nodes = certificate_head db q row plan ++ map (certificate_block db q) nodes

-- statements, each with a semicolon and a line feed
abbrev pub statements_bytes : List (List ℕ) → List ℕ
statements_bytes statements = flat_map (λ statement. statement ++ codes ";\n") statements

abbrev pub first_line : List ℕ
first_line = codes "rewriting\n"

-- the first line, and the statements
abbrev pub certificate_bytes : List (List ℕ) → List ℕ
certificate_bytes statements = first_line ++ statements_bytes statements
