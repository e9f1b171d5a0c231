-- How an SQL query is written: as text that engines of standard SQL read. Each name of a table or column stands between
-- double quotes.
use Rattle.std.specs.Prelude.{ℕ, Bool, not, zero, suc, ◌==◌, ◌&&◌, ◌||◌, if◌then◌else◌, List, [], ◌∷◌, ◌++◌, length, map, slice_index, slice_index_or, flat_map, codes, pos, negsuc}
use Rattle.std.specs.List.{filter, list_any, list_all}
use Rattle.std.specs.Fmt.{decimal}
use Rattle.cqa_value.specs.declared.value.Value.{Value}
use Rattle.cqa_value.specs.declared.value.Value.TheVariants.{Int, Text}
use Rattle.cqa_value.specs.Literals.{literal_bytes}
use Rattle.cqa_model.specs.declared.query.Op.{Op}
use Rattle.cqa_model.specs.declared.query.Op.TheVariants.{Eq, Ne, Lt, Le, Gt, Ge}
use Rattle.cqa_model.specs.declared.query.Query.{Query}
use Rattle.cqa_model.specs.Plan.{answer_at}
use Rattle.sql_text.specs.declared.syntax.Source.{Source}
use Rattle.sql_text.specs.declared.syntax.Source.TheVariants.{Table, Step as Earlier}
use Rattle.sql_text.specs.declared.syntax.Alias.{Alias}
use Rattle.sql_text.specs.declared.syntax.Alias.TheVariants.{Member, Context, Held}
use Rattle.sql_text.specs.declared.syntax.Listed.{Listed}
use Rattle.sql_text.specs.declared.syntax.Cell.{Cell}
use Rattle.sql_text.specs.declared.syntax.Cmp.{Cmp}
use Rattle.sql_text.specs.declared.syntax.Cmp.TheVariants.{Same, Test as Compare}
use Rattle.sql_text.specs.declared.syntax.Within.{Within}
use Rattle.sql_text.specs.declared.syntax.Select.{Select}
use Rattle.sql_text.specs.declared.syntax.Child.{Child}
use Rattle.sql_text.specs.declared.syntax.Group.{Group}
use Rattle.sql_text.specs.declared.syntax.Body.{Body}
use Rattle.sql_text.specs.declared.syntax.Body.TheVariants.{Distinct, Grouped, Shared}
use Rattle.sql_text.specs.declared.syntax.StepKind.{StepKind}
use Rattle.sql_text.specs.declared.syntax.StepKind.TheVariants.{Asked, Rows, Blocks, Holds}
use Rattle.sql_text.specs.declared.syntax.Step.{Step}
use Rattle.sql_text.specs.declared.syntax.Sql.{Sql}
use Rattle.sql_text.specs.declared.names.Names.{Names}

-- the texts of the first n places, with a separator between two
abbrev pub joined : List ℕ → (ℕ → List ℕ) → ℕ → List ℕ
joined separator text zero = []
joined separator text (suc n) = joined separator text n ++ ((if n == 0 then [] else separator) ++ text n)

-- a name between double quotes (34)
abbrev pub quoted : List ℕ → List ℕ
quoted name = 34 ∷ name ++ 34 ∷ []

-- the name of an atom's table
abbrev pub table_name : Names → ℕ → List ℕ
table_name names F = quoted (slice_index_or names.tables F [])

-- the name of a column of an atom's table
abbrev pub column_name : Names → ℕ → ℕ → List ℕ
column_name names F i = quoted (slice_index_or (slice_index_or names.columns F []) i [])

-- the column for a variable
abbrev pub variable_text : ℕ → List ℕ
variable_text v = codes "v" ++ decimal v

-- the word of a kind of step
abbrev pub kind_word : StepKind → List ℕ
kind_word Asked = codes "asked "
kind_word Rows = codes "rows "
kind_word Blocks = codes "blocks "
kind_word Holds = codes "holds "

-- the name of a step. It has a space, so no table has it
abbrev pub step_name : StepKind → ℕ → List ℕ
step_name kind level = quoted (kind_word kind ++ decimal level)

-- stands for a source that is not there
abbrev pub nowhere : Listed
nowhere = record { source = Table 0; alias = Member }

-- stands for a select that is not there
abbrev pub no_select : Select
no_select = record { cells = []; sources = []; all = []; only = [] }

-- the step at a place
abbrev pub step_at : List Step → ℕ → Step
step_at steps m = slice_index_or steps m (record { kind = Blocks; level = 0; columns = []; body = Distinct no_select })

-- an alias
abbrev pub alias_text : Alias → List ℕ
alias_text Member = codes "y"
alias_text Context = codes "s"
alias_text (Held n) = codes "h" ++ decimal n

-- an operator, between spaces
abbrev pub op_text : Op → List ℕ
op_text Eq = codes " = "
op_text Ne = codes " <> "
op_text Lt = codes " < "
op_text Le = codes " <= "
op_text Gt = codes " > "
op_text Ge = codes " >= "

-- a literal; the least integer by a difference, since some engines read its digits before its sign
abbrev pub literal_text : Value → List ℕ
literal_text (Int (pos n)) = literal_bytes (Int (pos n))
literal_text (Int (negsuc n)) = if n == 9223372036854775807 then codes "(-9223372036854775807 - 1)" else literal_bytes (Int (negsuc n))
literal_text (Text bytes) = literal_bytes (Text bytes)

-- the column of a source
abbrev pub column_text : Names → List Step → Source → ℕ → List ℕ
column_text names steps (Table F) i = column_name names F i
column_text names steps (Earlier m) i = variable_text (slice_index (step_at steps m).columns i)

-- the table or the step that a source is
abbrev pub source_text : Names → List Step → Source → List ℕ
source_text names steps (Table F) = table_name names F
source_text names steps (Earlier m) = step_name (step_at steps m).kind (step_at steps m).level

-- a source with its alias
unfoldable pub listed_text : Names → List Step → Listed → List ℕ
listed_text names steps listed = source_text names steps listed.source ++ (codes " AS " ++ alias_text listed.alias)

-- the source at a place
abbrev pub listed_at : List Listed → ℕ → Listed
listed_at sources i = slice_index_or sources i nowhere

-- a cell: its alias, and its column
abbrev pub cell_text : Names → List Step → List Listed → Cell → List ℕ
cell_text names steps sources c =
    alias_text (listed_at sources c.place).alias ++ (codes "." ++ column_text names steps (listed_at sources c.place).source c.column)

-- a comparison
abbrev pub cmp_text : Names → List Step → List Listed → Cmp → List ℕ
cmp_text names steps sources (Same c d) = cell_text names steps sources c ++ (codes " = " ++ cell_text names steps sources d)
cmp_text names steps sources (Compare c op x) = cell_text names steps sources c ++ (op_text op ++ literal_text x)

-- the comparison at a place, and any one where there is none
abbrev pub cmp_at : List Cmp → ℕ → Cmp
cmp_at cmps i = slice_index_or cmps i (Same (record { place = 0; column = 0 }) (record { place = 0; column = 0 }))

-- comparisons, all of which have to hold
abbrev pub cmps_text : Names → List Step → List Listed → List Cmp → List ℕ
cmps_text names steps sources cmps = joined (codes " AND ") (λ i. cmp_text names steps sources (cmp_at cmps i)) (length cmps)

-- a list of this length has something
abbrev pub is_there : ℕ → Bool
is_there n = not (n == 0)

-- `AND` between two texts, where both are there
abbrev pub and_between : Bool → Bool → List ℕ
and_between first second = if first && second then codes " AND " else []

-- the value that is in a column of some row of a step, at a place, and any one where there is none
abbrev pub only_at : List Within → ℕ → Within
only_at onlys i = slice_index_or onlys i (record { cell = record { place = 0; column = 0 }; step = 0; column = 0 })

-- the values of a column of a source
unfoldable pub column_of_text : Names → List Step → Source → ℕ → List ℕ
column_of_text names steps source column =
    codes "(SELECT s." ++ (column_text names steps source column ++ (codes " FROM " ++ (source_text names steps source ++ codes " AS s)")))

-- a cell's value is in a column of a step
unfoldable pub only_text : Names → List Step → List Listed → Within → List ℕ
only_text names steps sources o = cell_text names steps sources o.cell ++ (codes " IN " ++ column_of_text names steps (Earlier o.step) o.column)

-- such conditions, all of which have to hold
abbrev pub onlys_text : Names → List Step → List Listed → List Within → List ℕ
onlys_text names steps sources onlys = joined (codes " AND ") (λ i. only_text names steps sources (only_at onlys i)) (length onlys)

-- comparisons and such conditions
unfoldable pub conditions_text : Names → List Step → List Listed → List Cmp → List Within → List ℕ
conditions_text names steps sources all only =
    cmps_text names steps sources all ++ (and_between (is_there (length all)) (is_there (length only)) ++ onlys_text names steps sources only)

-- the conditions on a choice
abbrev pub where_text : Names → List Step → List Listed → List Cmp → List Within → List ℕ
where_text names steps sources all only =
    if is_there (length all) || is_there (length only) then codes " WHERE " ++ conditions_text names steps sources all only else []

-- the sources of a select
unfoldable pub sources_text : Names → List Step → List Listed → List ℕ
sources_text names steps sources = joined (codes " CROSS JOIN ") (λ i. listed_text names steps (listed_at sources i)) (length sources)

-- what stands behind the columns of a select
unfoldable pub rest_text : Names → List Step → Select → List ℕ
rest_text names steps select =
    codes " FROM " ++ (sources_text names steps select.sources ++ where_text names steps select.sources select.all select.only)

-- the cell at a place, and any one where there is none
abbrev pub cell_at : List Cell → ℕ → Cell
cell_at cells i = slice_index_or cells i (record { place = 0; column = 0 })

-- a column of a select, named by its variable
abbrev pub out_text : Names → List Step → List Listed → List Cell → List ℕ → ℕ → List ℕ
out_text names steps sources cells columns i =
    cell_text names steps sources (cell_at cells i) ++ (codes " AS " ++ variable_text (slice_index columns i))

-- the columns of a select
unfoldable pub columns_text : Names → List Step → List Listed → List Cell → List ℕ → List ℕ
columns_text names steps sources cells columns = joined (codes ", ") (λ i. out_text names steps sources cells columns i) (length cells)

-- the last column of a step, `one`: each step of contexts that hold has it, and each that has no other
abbrev pub one_text : StepKind → ℕ → List ℕ
one_text kind zero = codes "1 AS one"
one_text Asked (suc n) = []
one_text Rows (suc n) = []
one_text Blocks (suc n) = []
one_text Holds (suc n) = codes ", 1 AS one"

-- the sources of a group, and then its children
abbrev pub group_sources : Group → List Listed
group_sources g = g.sources ++ map (λ (c : Child). c.listed) g.children

-- a child at a place, and any one where there is none
abbrev pub child_at : List Child → ℕ → Child
child_at children i = slice_index_or children i (record { listed = nowhere; on = [] })

-- a child that is joined outwards
unfoldable pub child_text : Names → List Step → List Listed → Child → List ℕ
child_text names steps sources child =
    codes " LEFT JOIN " ++ (listed_text names steps child.listed ++ (codes " ON " ++ cmps_text names steps sources child.on))

-- the children of a group
abbrev pub children_text : Names → List Step → List Listed → List Child → List ℕ
children_text names steps sources children = flat_map (λ (c : Child). child_text names steps sources c) children

-- a cell is in a list
abbrev pub is_by : List Cell → Cell → Bool
is_by cells c = list_any (λ (d : Cell). d.place == c.place && d.column == c.column) cells

-- the first words of a group: two groups could have one row where they differ in a cell that isn't shown
abbrev pub group_word : List Cell → List Cell → List ℕ
group_word by cells = if list_all (λ c. is_by cells c) by then codes "SELECT " else codes "SELECT DISTINCT "

-- a column of a group: where it isn't grouped by, the least one, which is the only one
abbrev pub group_cell_text : Names → List Step → List Listed → List Cell → Cell → List ℕ
group_cell_text names steps sources by c =
    if is_by by c then cell_text names steps sources c else codes "MIN(" ++ (cell_text names steps sources c ++ codes ")")

-- a column of a group, named by its variable
abbrev pub group_out_text : Names → List Step → List Listed → List Cell → List Cell → List ℕ → ℕ → List ℕ
group_out_text names steps sources by cells columns i =
    group_cell_text names steps sources by (cell_at cells i) ++ (codes " AS " ++ variable_text (slice_index columns i))

-- the columns of a group
unfoldable pub group_columns_text : Names → List Step → List Listed → List Cell → List Cell → List ℕ → List ℕ
group_columns_text names steps sources by cells columns =
    joined (codes ", ") (λ i. group_out_text names steps sources by cells columns i) (length cells)

-- the cells of a group that aren't grouped by
abbrev pub apart_cells : List Cell → List Cell → List Cell
apart_cells by cells = filter (λ c. not (is_by by c)) cells

-- a cell has one value in a group
abbrev pub same_text : Names → List Step → List Listed → Cell → List ℕ
same_text names steps sources c =
    codes "MIN(" ++ (cell_text names steps sources c ++ (codes ") = MAX(" ++ (cell_text names steps sources c ++ codes ")")))

-- cells each of which has one value in a group
unfoldable pub sames_text : Names → List Step → List Listed → List Cell → List ℕ
sames_text names steps sources cells = joined (codes " AND ") (λ i. same_text names steps sources (cell_at cells i)) (length cells)

-- a child has a row
abbrev pub led_text : Child → List ℕ
led_text child = alias_text child.listed.alias ++ codes ".one = 1"

-- each child has a row
unfoldable pub all_led_text : List Child → List ℕ
all_led_text children = joined (codes " AND ") (λ i. led_text (child_at children i)) (length children)

-- something is asked of each choice of a group
abbrev pub has_fits : Group → Bool
has_fits g = is_there (length g.fit) || is_there (length g.children)

-- a choice of a group fits and is led on
unfoldable pub fit_text : Names → List Step → List Listed → Group → List ℕ
fit_text names steps sources g =
    cmps_text names steps sources g.fit ++ (and_between (is_there (length g.fit)) (is_there (length g.children)) ++ all_led_text g.children)

-- the least answer to whether a choice of a group fits and is led on is yes
unfoldable pub least_text : Names → List Step → List Listed → Group → List ℕ
least_text names steps sources g = codes "MIN(CASE WHEN " ++ (fit_text names steps sources g ++ codes " THEN 1 ELSE 0 END) = 1")

-- each choice of a group fits and is led on
abbrev pub fits_text : Names → List Step → List Listed → Group → List ℕ
fits_text names steps sources g = if has_fits g then least_text names steps sources g else []

-- each choice of a group fits and is led on, and these cells have one value
unfoldable pub group_fits_text : Names → List Step → List Listed → Group → List Cell → List ℕ
group_fits_text names steps sources g cells =
    fits_text names steps sources g ++ (and_between (has_fits g) (is_there (length cells)) ++ sames_text names steps sources cells)

-- a group is kept where it does
unfoldable pub kept_text : Names → List Step → List Listed → Group → List Cell → List ℕ
kept_text names steps sources g cells = codes " HAVING CASE WHEN " ++ (group_fits_text names steps sources g cells ++ codes " THEN 1 ELSE 0 END <> 0")

-- the conditions on a group, of which the last ones are on these cells
abbrev pub having_text : Names → List Step → List Listed → Group → List Cell → List ℕ
having_text names steps sources g cells = if has_fits g || is_there (length cells) then kept_text names steps sources g cells else []

-- the cells that are grouped by
unfoldable pub by_text : Names → List Step → List Listed → List Cell → List ℕ
by_text names steps sources by = joined (codes ", ") (λ i. cell_text names steps sources (cell_at by i)) (length by)

-- the first words of a select of a step, which has so many cells
abbrev pub select_word : ℕ → List ℕ
select_word n = if is_there n then codes "SELECT " else codes "SELECT DISTINCT "

-- each row of a select once: it is grouped by all of its cells; one without cells has `DISTINCT`
abbrev pub once_text : Names → List Step → List Listed → List Cell → List ℕ
once_text names steps sources cells = if is_there (length cells) then codes " GROUP BY " ++ by_text names steps sources cells else []

-- a select of a step
unfoldable pub select_text : Names → List Step → StepKind → List ℕ → Select → List ℕ
select_text names steps kind columns select =
    select_word (length select.cells)
    ++ (columns_text names steps select.sources select.cells columns
    ++ (one_text kind (length select.cells)
    ++ (rest_text names steps select ++ once_text names steps select.sources select.cells)))

-- what stands behind the columns of a group
unfoldable pub group_rest_text : Names → List Step → List Listed → Group → List ℕ
group_rest_text names steps sources g =
    codes " FROM " ++ (sources_text names steps g.sources ++ (children_text names steps sources g.children
    ++ (where_text names steps sources g.all g.only ++ (codes " GROUP BY " ++ (by_text names steps sources g.by ++ having_text names steps sources g (apart_cells g.by g.cells))))))

-- the groups of a step, with these sources
unfoldable pub group_text : Names → List Step → StepKind → List ℕ → List Listed → Group → List ℕ
group_text names steps kind columns sources g =
    group_word g.by g.cells
    ++ (group_columns_text names steps sources g.by g.cells columns ++ (one_text kind (length g.cells) ++ group_rest_text names steps sources g))

-- a cell that is grouped by, as a column of the sizes of groups
abbrev pub size_out_text : Names → List Step → List Listed → List Cell → ℕ → List ℕ
size_out_text names steps sources by i = cell_text names steps sources (cell_at by i) ++ (codes " AS k" ++ decimal i)

-- the columns of the sizes of groups
unfoldable pub size_columns_text : Names → List Step → List Listed → List Cell → List ℕ
size_columns_text names steps sources by = joined (codes ", ") (λ i. size_out_text names steps sources by i) (length by)

-- what stands behind the columns of the sizes
unfoldable pub size_rest_text : Names → List Step → Group → List ℕ
size_rest_text names steps g =
    codes " FROM " ++ (sources_text names steps g.sources ++ (where_text names steps g.sources g.all g.only ++ (codes " GROUP BY " ++ by_text names steps g.sources g.by)))

-- the sizes of groups: how many choices each has, duplicates and all
unfoldable pub sizes_text : Names → List Step → Group → List ℕ
sizes_text names steps g =
    codes "(SELECT " ++ (size_columns_text names steps g.sources g.by ++ (codes ", COUNT(*) AS n" ++ (size_rest_text names steps g ++ codes ") AS s")))

-- a choice has the cell's value of the group whose size stands beside it
abbrev pub of_size_text : Names → List Step → List Listed → List Cell → ℕ → List ℕ
of_size_text names steps sources by i = codes "s.k" ++ (decimal i ++ (codes " = " ++ cell_text names steps sources (cell_at by i)))

-- so it has in each cell that is grouped by
unfoldable pub of_sizes_text : Names → List Step → List Listed → List Cell → List ℕ
of_sizes_text names steps sources by = joined (codes " AND ") (λ i. of_size_text names steps sources by i) (length by)

-- comparisons behind another condition
abbrev pub more_cmps_text : Names → List Step → List Listed → List Cmp → List ℕ
more_cmps_text names steps sources cmps = flat_map (λ (k : Cmp). codes " AND " ++ cmp_text names steps sources k) cmps

-- values in steps, behind another condition
abbrev pub more_onlys_text : Names → List Step → List Listed → List Within → List ℕ
more_onlys_text names steps sources onlys = flat_map (λ (o : Within). codes " AND " ++ only_text names steps sources o) onlys

-- a child among the sources
unfoldable pub beside_text : Names → List Step → Child → List ℕ
beside_text names steps child = codes " CROSS JOIN " ++ listed_text names steps child.listed

-- children among the sources
abbrev pub besides_text : Names → List Step → List Child → List ℕ
besides_text names steps children = flat_map (λ (c : Child). beside_text names steps c) children

-- a group's sources, its size, and its children
unfoldable pub beside_all_text : Names → List Step → Group → List ℕ
beside_all_text names steps g =
    sources_text names steps g.sources ++ (codes " CROSS JOIN " ++ (sizes_text names steps g ++ besides_text names steps g.children))

-- the comparisons of children, behind another condition
abbrev pub all_on_text : Names → List Step → List Listed → List Child → List ℕ
all_on_text names steps sources children = flat_map (λ (c : Child). more_cmps_text names steps sources c.on) children

-- a choice is of the group, fits, and ends in rows of the children
unfoldable pub shared_where_text : Names → List Step → List Listed → Group → List ℕ
shared_where_text names steps sources g =
    codes " WHERE " ++ (of_sizes_text names steps sources g.by ++ (more_cmps_text names steps sources g.all ++ (more_onlys_text names steps sources g.only
    ++ (more_cmps_text names steps sources g.fit ++ all_on_text names steps sources g.children))))

-- cells behind others that are grouped by
abbrev pub more_by_text : Names → List Step → List Listed → List Cell → List ℕ
more_by_text names steps sources cells = flat_map (λ (c : Cell). codes ", " ++ cell_text names steps sources c) cells

-- a group is kept where as many choices show its row as the block has
unfoldable pub counted_text : List ℕ
counted_text = codes " HAVING CASE WHEN " ++ (codes "COUNT(*) = MIN(s.n)" ++ codes " THEN 1 ELSE 0 END <> 0")

-- what stands behind the columns of rows that groups share
unfoldable pub shared_rest_text : Names → List Step → List Listed → Group → List ℕ
shared_rest_text names steps sources g =
    codes " FROM " ++ (beside_all_text names steps g ++ (shared_where_text names steps sources g
    ++ (codes " GROUP BY " ++ (by_text names steps sources g.by ++ (more_by_text names steps sources (apart_cells g.by g.cells)
    ++ counted_text)))))

-- the rows that each choice of a group shows: a row is kept where as many choices show it as the group has. No choice shows a
-- row twice, since a child has each of its rows once, and each of its columns is shown or equals one that stands before it
unfoldable pub shared_text : Names → List Step → StepKind → List ℕ → List Listed → Group → List ℕ
shared_text names steps kind columns sources g =
    group_word g.by g.cells
    ++ (columns_text names steps sources g.cells columns ++ (one_text kind (length g.cells) ++ shared_rest_text names steps sources g))

-- what a step has
abbrev pub body_text : Names → List Step → StepKind → List ℕ → Body → List ℕ
body_text names steps kind columns (Distinct select) = select_text names steps kind columns select
body_text names steps kind columns (Grouped g) = group_text names steps kind columns (group_sources g) g
body_text names steps kind columns (Shared g) = shared_text names steps kind columns (group_sources g) g

-- a step with its name
unfoldable pub step_text : Names → List Step → Step → List ℕ
step_text names steps s = step_name s.kind s.level ++ (codes " AS (\n  " ++ (body_text names steps s.kind s.columns s.body ++ codes ")"))

-- an answer column, by its name
unfoldable pub answer_text : Query → Names → List Step → Select → ℕ → List ℕ
answer_text q names steps select i =
    cell_text names steps select.sources (cell_at select.cells i) ++ (codes " AS " ++ column_name names (answer_at q i).atom (answer_at q i).col)

-- the answer columns
unfoldable pub answer_columns_text : Query → Names → List Step → Select → List ℕ
answer_columns_text q names steps select = joined (codes ", ") (λ i. answer_text q names steps select i) (length select.cells)

-- the answer columns, or the constant `certain` where there are none
abbrev pub answers_text : Query → Names → List Step → Select → List ℕ
answers_text q names steps select =
    if length select.cells == 0 then codes "1 AS " ++ quoted (codes "certain") else answer_columns_text q names steps select

-- the steps, one after the other
unfoldable pub steps_text : Names → List Step → List ℕ
steps_text names steps = joined (codes ",\n") (λ i. step_text names steps (step_at steps i)) (length steps)

-- the last select, `;`, and a line feed
unfoldable pub last_text : Query → Names → List Step → Select → List ℕ
last_text q names steps last =
    codes "\nSELECT " ++ (answers_text q names steps last ++ (rest_text names steps last ++ codes ";\n"))

-- the text of a query: its steps and its last select
unfoldable pub sql_bytes : Query → Names → Sql → List ℕ
sql_bytes q names sql = codes "WITH " ++ (steps_text names sql.steps ++ last_text q names sql.steps sql.last)
