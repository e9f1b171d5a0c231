-- The grammar of statements.
use Rattle.std.specs.Prelude.{List, [], ◌∷◌, codes}
use Rattle.script_lex.specs.declared.kinds.Symbol.TheVariants.{Open, Close, Comma, Dot, Eq, Ne, Lt, Le, Gt, Ge}
use Rattle.spj_syntax.specs.Shapes.{Terminal, word, name, int, text, mark, Shape, one, ◌⨾◌, ◌∣◌, many, nothing}

abbrev pub a_name : Shape
a_name = one name

-- at most once
abbrev pub optional : Shape → Shape
optional p = p ∣ nothing

-- one or more, with a token between them
abbrev pub separated : Terminal → Shape → Shape
separated x p = p ⨾ many (one x ⨾ p)

-- one or more, with commas between them
abbrev pub listed : Shape → Shape
listed p = separated (mark Comma) p

-- one or more, with "and" between them
abbrev pub anded : Shape → Shape
anded p = separated (word (codes "and")) p

-- nothing, or "where" and what is to hold
abbrev pub filtered : Shape → Shape
filtered p = optional (one (word (codes "where")) ⨾ anded p)

abbrev pub literal : Shape
literal = one int ∣ one text

abbrev pub kind : Shape
kind = one (word (codes "int")) ∣ one (word (codes "text"))

abbrev pub column : Shape
column = a_name ⨾ kind

abbrev pub key : Shape
key = one (word (codes "primary")) ⨾ one (word (codes "key")) ⨾ one (mark Open) ⨾ listed a_name ⨾ one (mark Close)

-- the mark of a strict table, or nothing
abbrev pub strict : Shape
strict = optional (one (word (codes "strict")))

abbrev pub create : Shape
create = one (word (codes "create")) ⨾ strict ⨾ one (word (codes "table")) ⨾ a_name ⨾ one (mark Open)
    ⨾ column ⨾ many (one (mark Comma) ⨾ column) ⨾ one (mark Comma) ⨾ key ⨾ one (mark Close)

-- what is changed of a table: its mark or its key
abbrev pub change : Shape
change = one (word (codes "set")) ⨾ one (word (codes "strict")) ∣ one (word (codes "drop")) ⨾ one (word (codes "strict")) ∣ one (word (codes "set")) ⨾ key

abbrev pub alter : Shape
alter = one (word (codes "alter")) ⨾ one (word (codes "table")) ⨾ a_name ⨾ change

abbrev pub row : Shape
row = one (mark Open) ⨾ listed literal ⨾ one (mark Close)

-- a table, and rows
abbrev pub table_rows : Shape
table_rows = a_name ⨾ one (word (codes "values")) ⨾ listed row

abbrev pub insert : Shape
insert = one (word (codes "insert")) ⨾ one (word (codes "into")) ⨾ table_rows

abbrev pub op_but_equal : Shape
op_but_equal = one (mark Ne) ∣ one (mark Lt) ∣ one (mark Le) ∣ one (mark Gt) ∣ one (mark Ge)

abbrev pub op : Shape
op = one (mark Eq) ∣ op_but_equal

abbrev pub test : Shape
test = a_name ⨾ op ⨾ literal

abbrev pub delete : Shape
delete = one (word (codes "delete")) ⨾ one (word (codes "from")) ⨾ a_name ⨾ filtered test

-- the rows that pass tests, which win over the others of their blocks
abbrev pub prefer : Shape
prefer = one (word (codes "prefer")) ⨾ a_name ⨾ one (word (codes "where")) ⨾ anded test

abbrev pub col : Shape
col = a_name ⨾ optional (one (mark Dot) ⨾ a_name)

abbrev pub cond : Shape
cond = col ⨾ one (mark Eq) ⨾ col ∣ col ⨾ op ⨾ literal

abbrev pub head : Shape
head = one (word (codes "select")) ⨾ listed col ∣ one (word (codes "exists"))

abbrev pub query : Shape
query = head ⨾ one (word (codes "from")) ⨾ listed a_name ⨾ filtered cond

-- a row, which may be empty
abbrev pub any_row : Shape
any_row = one (mark Open) ⨾ optional (listed literal) ⨾ one (mark Close)

abbrev pub row_for : Shape
row_for = one (word (codes "row")) ⨾ any_row ⨾ one (word (codes "for"))

-- one query or more, with "union" between them
abbrev pub united : Shape
united = separated (word (codes "union")) query

-- what is asked of one query or of several
abbrev pub united_verb : Shape
united_verb = one (word (codes "ask")) ∣ one (word (codes "possible")) ∣ one (word (codes "classify")) ∣ one (word (codes "sql")) ∣ one (word (codes "explain")) ⨾ row_for

-- what is asked of a row of one query alone
abbrev pub row_verb : Shape
row_verb = one (word (codes "against")) ⨾ row_for ∣ one (word (codes "prove")) ⨾ row_for

-- what is asked of one query alone
abbrev pub verb : Shape
verb = one (word (codes "disputed")) ∣ one (word (codes "plan")) ∣ row_verb

abbrev pub asking : Shape
asking = united_verb ⨾ united ∣ verb ⨾ query

abbrev pub copy : Shape
copy = one (word (codes "copy")) ⨾ a_name

abbrev pub set : Shape
set = one (word (codes "set")) ⨾ one (word (codes "conflicts")) ⨾ one int

-- what is asked of the values of a column
abbrev pub aggregate : Shape
aggregate = one (word (codes "sum")) ∣ one (word (codes "min")) ∣ one (word (codes "max"))

-- what is asked of the rows of a table: their number, or the sum, the least or the greatest value of a column
abbrev pub goal : Shape
goal = one (word (codes "count")) ∣ aggregate ⨾ a_name

-- nothing, or "group by" and the column by whose values rows are grouped
abbrev pub grouped : Shape
grouped = optional (one (word (codes "group")) ⨾ one (word (codes "by")) ⨾ a_name)

-- a range over the rows of one table
abbrev pub range : Shape
range = one (word (codes "range")) ⨾ goal ⨾ one (word (codes "from")) ⨾ a_name ⨾ filtered test ⨾ grouped

-- what is asked of the witnesses of a query: their number, or the sum, the least or the greatest value of a column
abbrev pub join_goal : Shape
join_goal = one (word (codes "count")) ∣ aggregate ⨾ col

-- nothing, or "group by" and the column by whose values witnesses are grouped
abbrev pub join_grouped : Shape
join_grouped = optional (one (word (codes "group")) ⨾ one (word (codes "by")) ⨾ col)

-- what stands behind the first of several tables
abbrev pub behind : Shape
behind = one (mark Comma) ⨾ listed a_name ⨾ filtered cond ⨾ join_grouped

-- a range over the witnesses of a query of two tables or more
abbrev pub range_join : Shape
range_join = one (word (codes "range")) ⨾ join_goal ⨾ one (word (codes "from")) ⨾ a_name ⨾ behind

abbrev pub show : Shape
show = one (word (codes "show")) ⨾ one (word (codes "tables")) ∣ one (word (codes "show")) ⨾ one (word (codes "log")) ∣ one (word (codes "show")) ⨾ one (word (codes "conflicts"))

-- one of these, or else the rest
abbrev pub one_of : List Shape → Shape → Shape
one_of [] rest = rest
one_of (p ∷ ps) rest = p ∣ one_of ps rest

-- the statements that begin as no other does, and are read as they are written here
abbrev pub direct : List Shape
direct = insert ∷ delete ∷ prefer ∷ copy ∷ one (word (codes "dump")) ∷ []

abbrev pub statement : Shape
statement = set ∣ create ∣ alter ∣ one_of direct (show ∣ (range ∣ range_join) ∣ asking)

-- an order of tables, which is no statement and stands in a certificate alone
abbrev pub order : Shape
order = one (word (codes "order")) ⨾ listed a_name

-- a block of a table, by its rows, which is no statement and stands in a certificate alone
abbrev pub block : Shape
block = one (word (codes "block")) ⨾ table_rows
