-- What the steps of an atom are made of: a row of the atom fits what is known of variables, which are then known as well, and
-- the parts that hang on the atom are joined to it, one after the other.
use Rattle.std.specs.Prelude.{ℕ, suc, ◌==◌, ◌&&◌, ◌||◌, Bool, true, if◌then◌else◌, List, [], ◌∷◌, ◌++◌, length, map, slice_index, Option, Some, None, flat_map}
use Rattle.std.specs.Option.{unwrap_or}
use Rattle.cqa_model.specs.declared.query.Cond.{Cond}
use Rattle.cqa_model.specs.declared.query.Cond.TheVariants.{Join, Test}
use Rattle.cqa_model.specs.declared.query.Query.{Query}
use Rattle.cqa_model.specs.Query.{atom_at, atom_key}
use Rattle.sql_text.specs.declared.syntax.Source.TheVariants.{Table, Step as Earlier}
use Rattle.sql_text.specs.declared.syntax.Alias.TheVariants.{Member, Context, Held}
use Rattle.sql_text.specs.declared.syntax.Listed.{Listed}
use Rattle.sql_text.specs.declared.syntax.Cell.{Cell}
use Rattle.sql_text.specs.declared.syntax.Cmp.{Cmp}
use Rattle.sql_text.specs.declared.syntax.Cmp.TheVariants.{Same, Test as Compare}
use Rattle.sql_text.specs.declared.syntax.Within.{Within}
use Rattle.sql_text.specs.declared.syntax.Select.{Select}
use Rattle.sql_text.specs.declared.syntax.Child.{Child}
use Rattle.sql_text.specs.declared.syntax.Group.{Group}
use Rattle.sql_steps.specs.declared.fitting.Known.{Known}
use Rattle.sql_steps.specs.declared.fitting.Fitting.{Fitting}
use Rattle.sql_steps.specs.declared.part.Part.{Part}
use Rattle.sql_steps.specs.Variables.{has, meets, covers, without, all_below, variables_of}

-- the cell of a column of the source at a place
abbrev pub cell : ℕ → ℕ → Cell
cell place column = record { place = place; column = column }

-- a source that has these variables as its columns
abbrev pub held : ℕ → ℕ → List ℕ → List Known
held place i [] = []
held place i (v ∷ vs) = record { variable = v; cell = cell place i } ∷ held place (suc i) vs

-- the first cell that has the value of a variable, if there is one
abbrev pub find : List Known → ℕ → Option Cell
find [] v = None
find (k ∷ known) v = if k.variable == v then Some k.cell else find known v

-- the first cell that has the value of a variable, where there is one
abbrev pub cell_of : List Known → ℕ → Cell
cell_of known v = unwrap_or (find known v) (cell 0 0)

-- the cells of variables
abbrev pub cells_of : List Known → List ℕ → List Cell
cells_of known vs = map (λ v. cell_of known v) vs

-- a cell of a variable is compared with the one that is known; where none is known, it is known from then on
abbrev pub see_by : Fitting → ℕ → Cell → Option Cell → Fitting
see_by fitting v c None = record { known = fitting.known ++ record { variable = v; cell = c } ∷ []; all = fitting.all }
see_by fitting v c (Some d) = record { known = fitting.known; all = fitting.all ++ Same c d ∷ [] }

-- a cell of a variable is compared with what is known of it
abbrev pub see : Fitting → ℕ → Cell → Fitting
see fitting v c = see_by fitting v c (find fitting.known v)

-- the columns of a source, whose variables these are, are compared one after the other
abbrev pub see_all : List ℕ → ℕ → List ℕ → Fitting → Fitting
see_all vs place [] fitting = fitting
see_all vs place (i ∷ columns) fitting = see_all vs place columns (see fitting (slice_index vs i) (cell place i))

-- the comparison that tests one of these columns of F, if the condition is such a test
abbrev pub test_at : ℕ → ℕ → List ℕ → Cond → List Cmp
test_at F place columns (Join c d) = []
test_at F place columns (Test c op x) = if c.atom == F && has columns c.col then Compare (cell place c.col) op x ∷ [] else []

-- the tests of these columns of F, in the order of the query
abbrev pub tests_at : Query → ℕ → ℕ → List ℕ → List Cmp
tests_at q F place columns = flat_map (λ k. test_at F place columns k) q.conds

-- a row of F fits what is known, on these columns
abbrev pub fit_on : Query → ℕ → ℕ → List ℕ → Fitting → Fitting
fit_on q F place columns fitting =
    let seen = see_all (variables_of q F) place columns fitting in record { known = seen.known; all = seen.all ++ tests_at q F place columns }

-- F's columns
abbrev pub columns_of : Query → ℕ → List ℕ
columns_of q F = all_below (atom_at q F).width

-- F's columns outside its key
abbrev pub others_of : Query → ℕ → List ℕ
others_of q F = without (columns_of q F) (atom_key q F)

-- the first source of a step of F: its table
abbrev pub member : ℕ → Listed
member F = record { source = Table F; alias = Member }

-- the cells of these columns of a source
abbrev pub cells_at : ℕ → List ℕ → List Cell
cells_at place columns = map (λ i. cell place i) columns

-- a row of F at place 0 fits what is known, on the columns of its key
abbrev pub keyed : Query → ℕ → List Known → Fitting
keyed q F known = fit_on q F 0 (atom_key q F) (record { known = known; all = [] })

-- and on its other columns
abbrev pub fitted : Query → ℕ → List Known → Fitting
fitted q F known = fit_on q F 0 (others_of q F) (record { known = (keyed q F known).known; all = [] })

-- a part's context at a place is compared with what is known, or is known from then on
abbrev pub see_part : ℕ → Part → List Known → Fitting
see_part place part known = see_all part.columns place (all_below (length part.columns)) (record { known = known; all = [] })

-- the step of a part as a source
abbrev pub part_source : Part → Listed
part_source part = record { source = Earlier part.step; alias = Held part.number }

-- these parts as children, from a place on
abbrev pub children_of : ℕ → List Part → List Known → List Child
children_of place [] known = []
children_of place (part ∷ parts) known =
    let seen = see_part place part known in record { listed = part_source part; on = seen.all } ∷ children_of (suc place) parts seen.known

-- what is known behind them
abbrev pub known_of : ℕ → List Part → List Known → List Known
known_of place [] known = known
known_of place (part ∷ parts) known = known_of (suc place) parts (see_part place part known).known

-- the comparisons of children, all together
abbrev pub on_of : List Child → List Cmp
on_of children = flat_map (λ (c : Child). c.on) children

-- the rows of F that fit, joined with these parts: the values of these variables
abbrev pub rows_of_atom : Query → ℕ → List Within → List Part → List ℕ → Select
rows_of_atom q F only parts columns =
    let known = (fitted q F []).known in
    let children = children_of 1 parts known in
    record {
      cells = cells_of (known_of 1 parts known) columns;
      sources = member F ∷ map (λ (c : Child). c.listed) children;
      all = (keyed q F []).all ++ ((fitted q F []).all ++ on_of children);
      only = only;
    }

-- F's blocks, joined with these parts, where these are the sources with what is known of those behind F's table
abbrev pub group_of : Query → ℕ → List Listed → List Known → List Within → List Cell → List Part → List ℕ → Group
group_of q F sources start only by parts columns =
    let known = (fitted q F start).known in
    record {
      cells = cells_of (known_of (length sources) parts known) columns;
      sources = sources;
      all = (keyed q F start).all;
      only = only;
      by = by;
      fit = (fitted q F start).all;
      children = children_of (length sources) parts known;
    }

-- each block of F
abbrev pub block_group : Query → ℕ → List Within → List Part → List ℕ → Group
block_group q F only parts columns = group_of q F (member F ∷ []) [] only (cells_at 0 (atom_key q F)) parts columns

-- each block of F for each of its contexts, which are in the step at a place, with these variables
abbrev pub context_group : Query → ℕ → ℕ → List ℕ → List Part → List ℕ → Group
context_group q F place block parts columns =
    group_of q F (member F ∷ record { source = Earlier place; alias = Context } ∷ []) (held 1 0 block) [] (cells_at 1 (all_below (length block))) parts columns

-- one after the other, each of these parts has no variable that isn't among these or those of the parts before it, or has no
-- two contexts with the same key, and no such variable in it
abbrev pub are_single : List ℕ → List Part → Bool
are_single vs [] = true
are_single vs (part ∷ parts) = (covers vs part.columns || (part.single && covers vs part.keys)) && are_single (vs ++ part.columns) parts

-- a part hangs on F: it has a variable of F that isn't known before
abbrev pub hangs : Query → List ℕ → ℕ → Part → Bool
hangs q known F part = meets part.columns (without (variables_of q F) known)
