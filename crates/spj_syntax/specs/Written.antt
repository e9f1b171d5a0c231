-- How a statement is written as tokens.
use Rattle.std.specs.Prelude.{◌≡◌, ◌<◌, ◌≤◌, Bool, true, false, length, List, [], ◌∷◌, ◌++◌, ℕ, Option, Some, None, codes, pos}
use Rattle.script_lex.specs.declared.kinds.Symbol.{Symbol}
use Rattle.script_lex.specs.declared.kinds.Symbol.TheVariants as s
use Rattle.cqa_value.specs.declared.value.Value.{Value}
use Rattle.cqa_value.specs.declared.value.Value.TheVariants.{Int, Text}
use Rattle.cqa_model.specs.declared.schema.Column.{Column}
use Rattle.schema_text.specs.Text.{kind_word}
use Rattle.cqa_model.specs.declared.query.Op.{Op}
use Rattle.cqa_model.specs.declared.query.Op.TheVariants as ops
use Rattle.spj_syntax.specs.declared.tree.RawSchema.{RawSchema}
use Rattle.spj_syntax.specs.declared.tree.RawTest.{RawTest}
use Rattle.spj_syntax.specs.declared.tree.RawCol.{RawCol}
use Rattle.spj_syntax.specs.declared.tree.RawCond.{RawCond}
use Rattle.spj_syntax.specs.declared.tree.RawCond.TheVariants.{Join, Test}
use Rattle.spj_syntax.specs.declared.lists.RawSide.{RawSide}
use Rattle.spj_syntax.specs.declared.lists.RawSide.TheVariants as sides
use Rattle.spj_syntax.specs.declared.tree.Change.{Change}
use Rattle.spj_syntax.specs.declared.tree.Change.TheVariants as changes
use Rattle.spj_syntax.specs.declared.tree.Select.{Select}
use Rattle.spj_syntax.specs.declared.tree.Selects.{Selects}
use Rattle.spj_syntax.specs.declared.tree.Verb.{Verb}
use Rattle.spj_syntax.specs.declared.tree.Verb.TheVariants as verbs
use Rattle.spj_syntax.specs.declared.tree.RawGoal.{RawGoal}
use Rattle.spj_syntax.specs.declared.tree.RawGoal.TheVariants as goals
use Rattle.spj_syntax.specs.declared.tree.RawJoinGoal.{RawJoinGoal}
use Rattle.spj_syntax.specs.declared.tree.RawJoinGoal.TheVariants as join_goals
use Rattle.spj_syntax.specs.declared.tree.RawRange.{RawRange}
use Rattle.spj_syntax.specs.declared.tree.RawBlock.{RawBlock}
use Rattle.spj_syntax.specs.declared.tree.Statement.{Statement}
use Rattle.spj_syntax.specs.declared.tree.Statement.TheVariants as statements
use Rattle.spj_syntax.specs.Limits.{most_items}
use Rattle.spj_syntax.specs.Lexemes.{Lexeme, Word, Number, Quoted, Mark}

abbrev pub name_tokens : List ℕ → List Lexeme
name_tokens n = Word n ∷ []

abbrev pub literal_tokens : Value → List Lexeme
literal_tokens (Int z) = Number z ∷ []
literal_tokens (Text t) = Quoted t ∷ []

abbrev pub column_tokens : Column → List Lexeme
column_tokens c = name_tokens c.name ++ Word (kind_word c.kind) ∷ []

-- each with a token before it
abbrev pub each_after : {A : Type 0} → Lexeme → (A → List Lexeme) → List A → List Lexeme
each_after l f [] = []
each_after l f (x ∷ xs) = l ∷ f x ++ each_after l f xs

-- with a token between them
abbrev pub between : {A : Type 0} → Lexeme → (A → List Lexeme) → List A → List Lexeme
between l f [] = []
between l f (x ∷ xs) = f x ++ each_after l f xs

-- with commas between them
abbrev pub listed_tokens : {A : Type 0} → (A → List Lexeme) → List A → List Lexeme
listed_tokens f xs = between (Mark s.Comma) f xs

-- with "and" between them
abbrev pub anded_tokens : {A : Type 0} → (A → List Lexeme) → List A → List Lexeme
anded_tokens f xs = between (Word (codes "and")) f xs

-- nothing, or "where" and what is to hold
abbrev pub filtered_tokens : {A : Type 0} → (A → List Lexeme) → List A → List Lexeme
filtered_tokens f [] = []
filtered_tokens f (x ∷ xs) = Word (codes "where") ∷ anded_tokens f (x ∷ xs)

abbrev pub op_symbol : Op → Symbol
op_symbol ops.Eq = s.Eq
op_symbol ops.Ne = s.Ne
op_symbol ops.Lt = s.Lt
op_symbol ops.Le = s.Le
op_symbol ops.Gt = s.Gt
op_symbol ops.Ge = s.Ge

abbrev pub test_tokens : RawTest → List Lexeme
test_tokens t = name_tokens t.col ++ Mark (op_symbol t.op) ∷ literal_tokens t.value

abbrev pub col_tokens_of : Option (List ℕ) → List ℕ → List Lexeme
col_tokens_of None n = name_tokens n
col_tokens_of (Some t) n = name_tokens t ++ Mark s.Dot ∷ name_tokens n

abbrev pub col_tokens : RawCol → List Lexeme
col_tokens c = col_tokens_of c.table c.name

abbrev pub cond_tokens : RawCond → List Lexeme
cond_tokens (Join left right) = col_tokens left ++ Mark s.Eq ∷ col_tokens right
cond_tokens (Test col op value) = col_tokens col ++ Mark (op_symbol op) ∷ literal_tokens value

-- the right side of a condition
abbrev pub side_tokens : RawSide → List Lexeme
side_tokens (sides.Column right) = Mark s.Eq ∷ col_tokens right
side_tokens (sides.Literal op value) = Mark (op_symbol op) ∷ literal_tokens value

abbrev pub row_tokens : List Value → List Lexeme
row_tokens values = Mark s.Open ∷ (listed_tokens literal_tokens values ++ Mark s.Close ∷ [])

-- "exists", or "select" and the columns
abbrev pub head_tokens : List RawCol → List Lexeme
head_tokens [] = Word (codes "exists") ∷ []
head_tokens (c ∷ cs) = Word (codes "select") ∷ listed_tokens col_tokens (c ∷ cs)

abbrev pub select_tokens : Select → List Lexeme
select_tokens q = head_tokens q.columns ++ (Word (codes "from") ∷ (listed_tokens name_tokens q.tables ++ filtered_tokens cond_tokens q.conds))

-- the columns, the key behind a comma
abbrev pub schema_tokens : RawSchema → List Lexeme
schema_tokens r = name_tokens r.name ++ (Mark s.Open ∷ (listed_tokens column_tokens r.columns ++ (Mark s.Comma ∷ Word (codes "primary") ∷ Word (codes "key") ∷ Mark s.Open ∷ (listed_tokens name_tokens r.key ++ (Mark s.Close ∷ Mark s.Close ∷ [])))))

-- the mark of a strict table
abbrev pub strict_tokens : Bool → List Lexeme
strict_tokens true = Word (codes "strict") ∷ []
strict_tokens false = []

-- a key by the names of its columns
abbrev pub key_tokens : List (List ℕ) → List Lexeme
key_tokens names = Word (codes "primary") ∷ Word (codes "key") ∷ Mark s.Open ∷ (listed_tokens name_tokens names ++ Mark s.Close ∷ [])

-- what is changed of a table
abbrev pub change_tokens : Change → List Lexeme
change_tokens changes.SetStrict = Word (codes "set") ∷ Word (codes "strict") ∷ []
change_tokens changes.DropStrict = Word (codes "drop") ∷ Word (codes "strict") ∷ []
change_tokens (changes.SetKey names) = Word (codes "set") ∷ key_tokens names

-- a row of a query
abbrev pub row_for_tokens : List Value → List Lexeme
row_for_tokens row = Word (codes "row") ∷ (row_tokens row ++ Word (codes "for") ∷ [])

-- what is asked of a query
abbrev pub verb_tokens : Verb → List Lexeme
verb_tokens verbs.Ask = Word (codes "ask") ∷ []
verb_tokens verbs.Possible = Word (codes "possible") ∷ []
verb_tokens verbs.Disputed = Word (codes "disputed") ∷ []
verb_tokens verbs.Classify = Word (codes "classify") ∷ []
verb_tokens verbs.Plan = Word (codes "plan") ∷ []
verb_tokens verbs.Sql = Word (codes "sql") ∷ []
verb_tokens (verbs.Explain row) = Word (codes "explain") ∷ row_for_tokens row
verb_tokens (verbs.Against row) = Word (codes "against") ∷ row_for_tokens row
verb_tokens (verbs.Prove row) = Word (codes "prove") ∷ row_for_tokens row

-- the parts of a union, with "union" between them
abbrev pub selects_tokens : Selects → List Lexeme
selects_tokens u = between (Word (codes "union")) select_tokens u.parts

-- what is asked of the rows of a table
abbrev pub goal_tokens : RawGoal → List Lexeme
goal_tokens goals.Count = Word (codes "count") ∷ []
goal_tokens (goals.Sum column) = Word (codes "sum") ∷ name_tokens column
goal_tokens (goals.Min column) = Word (codes "min") ∷ name_tokens column
goal_tokens (goals.Max column) = Word (codes "max") ∷ name_tokens column

-- nothing, or "group by" and the column by whose values rows are grouped
abbrev pub grouped_tokens : Option (List ℕ) → List Lexeme
grouped_tokens None = []
grouped_tokens (Some column) = Word (codes "group") ∷ Word (codes "by") ∷ name_tokens column

-- what is asked of the witnesses of a query
abbrev pub join_goal_tokens : RawJoinGoal → List Lexeme
join_goal_tokens join_goals.Count = Word (codes "count") ∷ []
join_goal_tokens (join_goals.Sum column) = Word (codes "sum") ∷ col_tokens column
join_goal_tokens (join_goals.Min column) = Word (codes "min") ∷ col_tokens column
join_goal_tokens (join_goals.Max column) = Word (codes "max") ∷ col_tokens column

-- nothing, or "group by" and the column by whose values witnesses are grouped
abbrev pub join_grouped_tokens : Option RawCol → List Lexeme
join_grouped_tokens None = []
join_grouped_tokens (Some column) = Word (codes "group") ∷ Word (codes "by") ∷ col_tokens column

-- a range over several tables
abbrev pub range_tokens : RawRange → List Lexeme
range_tokens r = Word (codes "range") ∷ (join_goal_tokens r.goal ++ (Word (codes "from") ∷ (listed_tokens name_tokens r.tables ++ (filtered_tokens cond_tokens r.conds ++ join_grouped_tokens r.group))))

abbrev pub statement_tokens : Statement → List Lexeme
statement_tokens (statements.Create r) = Word (codes "create") ∷ (strict_tokens r.strict ++ (Word (codes "table") ∷ schema_tokens r))
statement_tokens (statements.Alter table change) = Word (codes "alter") ∷ Word (codes "table") ∷ (name_tokens table ++ change_tokens change)
statement_tokens (statements.Insert table rows) = Word (codes "insert") ∷ Word (codes "into") ∷ (name_tokens table ++ (Word (codes "values") ∷ listed_tokens row_tokens rows))
statement_tokens (statements.Delete table tests) = Word (codes "delete") ∷ Word (codes "from") ∷ (name_tokens table ++ filtered_tokens test_tokens tests)
statement_tokens (statements.Prefer table tests) = Word (codes "prefer") ∷ (name_tokens table ++ (Word (codes "where") ∷ anded_tokens test_tokens tests))
statement_tokens (statements.Asking verb q) = verb_tokens verb ++ select_tokens q
statement_tokens (statements.AskUnion u) = verb_tokens verbs.Ask ++ selects_tokens u
statement_tokens (statements.PossibleUnion u) = verb_tokens verbs.Possible ++ selects_tokens u
statement_tokens (statements.ClassifyUnion u) = verb_tokens verbs.Classify ++ selects_tokens u
statement_tokens (statements.SqlUnion u) = verb_tokens verbs.Sql ++ selects_tokens u
statement_tokens (statements.ExplainUnion row u) = verb_tokens (verbs.Explain row) ++ selects_tokens u
statement_tokens (statements.SetConflicts n) = Word (codes "set") ∷ Word (codes "conflicts") ∷ Number (pos n) ∷ []
statement_tokens (statements.Copy table) = Word (codes "copy") ∷ name_tokens table
statement_tokens (statements.Range goal table tests group) = Word (codes "range") ∷ (goal_tokens goal ++ (Word (codes "from") ∷ (name_tokens table ++ (filtered_tokens test_tokens tests ++ grouped_tokens group))))
statement_tokens (statements.RangeJoin range) = range_tokens range
statement_tokens statements.Dump = Word (codes "dump") ∷ []
statement_tokens statements.ShowTables = Word (codes "show") ∷ Word (codes "tables") ∷ []
statement_tokens statements.ShowLog = Word (codes "show") ∷ Word (codes "log") ∷ []
statement_tokens statements.ShowConflicts = Word (codes "show") ∷ Word (codes "conflicts") ∷ []

-- a table, and rows
abbrev pub table_rows_tokens : RawBlock → List Lexeme
table_rows_tokens raw = name_tokens raw.table ++ (Word (codes "values") ∷ listed_tokens row_tokens raw.rows)

-- an order of tables, by their names
abbrev pub order_tokens : List (List ℕ) → List Lexeme
order_tokens names = Word (codes "order") ∷ listed_tokens name_tokens names

-- a block of a table, by its rows
abbrev pub block_tokens : RawBlock → List Lexeme
block_tokens raw = Word (codes "block") ∷ table_rows_tokens raw

abbrev pub IsSome : {A : Type 0} → List A → Type 0
IsSome xs = 0 < length xs

-- A key that is set has a column.
abbrev pub HasKey : Change → Type 0
HasKey (changes.SetKey names) = IsSome names
HasKey _ = Unit {0}

-- Its rows or its tests can be counted, and a key that it sets has a column.
abbrev pub IsSmall : Statement → Type 0
IsSmall (statements.Alter table change) = HasKey change
IsSmall (statements.Insert table rows) = length rows ≤ most_items
IsSmall (statements.Delete table tests) = length tests ≤ most_items
IsSmall (statements.Prefer table tests) = length tests ≤ most_items
IsSmall (statements.Range goal table tests group) = length tests ≤ most_items
IsSmall _ = Unit {0}

-- A statement is written as tokens.
pub record IsWrittenAs (statement : Statement) (ls : List Lexeme) : Type 0 where
  pub tokens : ls ≡ statement_tokens statement
