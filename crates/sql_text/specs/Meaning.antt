-- What an SQL query of named steps means: which rows it has, over tables as plain lists of rows. How often a row stands in
-- a table or comes out of a step plays no part.
use Rattle.std.specs.Prelude.{◌≡◌, ℕ, suc, ◌≢◌, ◌⊎◌, List, [], ◌∷◌, ◌++◌, map, Contains, slice_index_or}
use Rattle.cqa_value.specs.declared.value.Value.{Value}
use Rattle.cqa_model.specs.Database.{nothing}
use Rattle.cqa_model.specs.Query.{OpHolds}
use Rattle.sql_text.specs.declared.syntax.Source.{Source}
use Rattle.sql_text.specs.declared.syntax.Source.TheVariants.{Table, Step as Earlier}
use Rattle.sql_text.specs.declared.syntax.Listed.{Listed}
use Rattle.sql_text.specs.declared.syntax.Cell.{Cell}
use Rattle.sql_text.specs.declared.syntax.Cmp.{Cmp}
use Rattle.sql_text.specs.declared.syntax.Cmp.TheVariants.{Same, Test}
use Rattle.sql_text.specs.declared.syntax.Select.{Select}
use Rattle.sql_text.specs.declared.syntax.Body.{Body}
use Rattle.sql_text.specs.declared.syntax.Within.{Within}
use Rattle.sql_text.specs.declared.syntax.Child.{Child}
use Rattle.sql_text.specs.declared.syntax.Group.{Group}
use Rattle.sql_text.specs.declared.syntax.Body.TheVariants.{Distinct, Grouped, Shared}
use Rattle.sql_text.specs.declared.syntax.Step.{Step}
use Rattle.sql_text.specs.declared.syntax.Sql.{Sql}

-- a source has a row: it is in the table of the atom, or the step before has it
abbrev pub HasRow : (ℕ → List (List Value)) → (ℕ → List Value → Type 0) → Source → List Value → Type 0
HasRow tables before (Table F) row = Contains (tables F) row
HasRow tables before (Earlier m) row = before m row

-- one row from each source
abbrev pub IsRowOfEach : (ℕ → List (List Value)) → (ℕ → List Value → Type 0) → List Listed → List (List Value) → Type 0
IsRowOfEach tables before [] [] = Unit {0}
IsRowOfEach tables before [] (x ∷ w) = ⊥
IsRowOfEach tables before (s ∷ ss) [] = ⊥
IsRowOfEach tables before (s ∷ ss) (x ∷ w) = HasRow tables before s.source x × IsRowOfEach tables before ss w

-- the value of a cell
abbrev pub cell_value : List (List Value) → Cell → Value
cell_value w c = slice_index_or (slice_index_or w c.place []) c.column nothing

-- a comparison holds for a choice
abbrev pub Meets : List (List Value) → Cmp → Type 0
Meets w (Same c d) = cell_value w c ≡ cell_value w d
Meets w (Test c op x) = OpHolds op (cell_value w c) x

-- each of these comparisons holds
abbrev pub MeetsAll : List (List Value) → List Cmp → Type 0
MeetsAll w cmps = (k : Cmp) → Contains cmps k → Meets w k

-- each of these cells has a value that is in its column of some row of its step
abbrev pub AreWithin : (ℕ → List Value → Type 0) → List (List Value) → List Within → Type 0
AreWithin before w only = (o : Within) → Contains only o → (h : List Value) × before o.step h × (slice_index_or h o.column nothing ≡ cell_value w o.cell)

-- a choice: one row from each source, for which each of these comparisons holds and each of these values is in its step
pub record IsChoice (tables : ℕ → List (List Value)) (before : ℕ → List Value → Type 0) (sources : List Listed) (all : List Cmp) (only : List Within) (w : List (List Value)) : Type 0 where
  pub rows : IsRowOfEach tables before sources w
  pub meets : MeetsAll w all
  pub within : AreWithin before w only

-- a select has a row: that of its cells, for a choice; one without cells has the empty row, where it has one, and its text
-- shows the constant 1 for it
abbrev pub Selects : (ℕ → List (List Value)) → (ℕ → List Value → Type 0) → Select → List Value → Type 0
Selects tables before select row =
    (w : List (List Value)) × IsChoice tables before select.sources select.all select.only w × (map (cell_value w) select.cells ≡ row)

-- a choice, with a row of each child behind it, each of which meets its comparisons, ends in u
abbrev pub Ends : (ℕ → List (List Value)) → (ℕ → List Value → Type 0) → List Child → List (List Value) → List (List Value) → Type 0
Ends tables before [] w u = w ≡ u
Ends tables before (c ∷ cs) w u =
    (h : List Value) × HasRow tables before c.listed.source h × MeetsAll (w ++ h ∷ []) c.on × Ends tables before cs (w ++ h ∷ []) u

-- the first child has a row that meets its comparisons, and behind each such row the next one has, and so on: no row of the
-- outer join lacks one
abbrev pub AreLed : (ℕ → List (List Value)) → (ℕ → List Value → Type 0) → List Child → List (List Value) → Type 0
AreLed tables before [] w = Unit {0}
AreLed tables before (c ∷ cs) w =
    ((h : List Value) × HasRow tables before c.listed.source h × MeetsAll (w ++ h ∷ []) c.on)
    × ((h : List Value) → HasRow tables before c.listed.source h → MeetsAll (w ++ h ∷ []) c.on → AreLed tables before cs (w ++ h ∷ []))

-- a choice of a group shows a row: it meets the group's comparisons, has a row of each child, and shows no other row
pub record Shows (tables : ℕ → List (List Value)) (before : ℕ → List Value → Type 0) (group : Group) (row : List Value) (w : List (List Value)) : Type 0 where
  pub meets : MeetsAll w group.fit
  pub led : AreLed tables before group.children w
  pub alike : (u : List (List Value)) → Ends tables before group.children w u → map (cell_value u) group.cells ≡ row

-- groups have a row: some choice has it, and each choice of that one's group shows it
pub record Groups (tables : ℕ → List (List Value)) (before : ℕ → List Value → Type 0) (group : Group) (row : List Value) : Type 0 where
  pub choice : List (List Value)
  pub chosen : IsChoice tables before group.sources group.all group.only choice
  pub each : (w : List (List Value)) → IsChoice tables before group.sources group.all group.only w →
      map (cell_value w) group.by ≡ map (cell_value choice) group.by → Shows tables before group row w

-- a choice of a group shows a row, and maybe others: it meets the group's comparisons, and ends in that row with some row of
-- each child
pub record ShowsToo (tables : ℕ → List (List Value)) (before : ℕ → List Value → Type 0) (group : Group) (row : List Value) (w : List (List Value)) : Type 0 where
  pub meets : MeetsAll w group.fit
  pub end : List (List Value)
  pub ends : Ends tables before group.children w end
  pub row_is : map (cell_value end) group.cells ≡ row

-- groups share a row: there is a choice, and each choice of its group shows the row (division: Codd, 1972)
pub record Shares (tables : ℕ → List (List Value)) (before : ℕ → List Value → Type 0) (group : Group) (row : List Value) : Type 0 where
  pub choice : List (List Value)
  pub chosen : IsChoice tables before group.sources group.all group.only choice
  pub each : (w : List (List Value)) → IsChoice tables before group.sources group.all group.only w →
      map (cell_value w) group.by ≡ map (cell_value choice) group.by → ShowsToo tables before group row w

-- a step has a row
abbrev pub Gives : (ℕ → List (List Value)) → (ℕ → List Value → Type 0) → Body → List Value → Type 0
Gives tables before (Distinct select) row = Selects tables before select row
Gives tables before (Grouped group) row = Groups tables before group row
Gives tables before (Shared group) row = Shares tables before group row

-- the rows of the steps, one more at a place
abbrev pub with_step : (ℕ → List Value → Type 0) → ℕ → (List Value → Type 0) → ℕ → List Value → Type 0
with_step before place rows m row = ((m ≡ place) × rows row) ⊎ ((m ≢ place) × before m row)

-- the rows of the steps, so many before and then these
abbrev pub StepHas : (ℕ → List (List Value)) → (ℕ → List Value → Type 0) → ℕ → List Step → ℕ → List Value → Type 0
StepHas tables before place [] = before
StepHas tables before place (s ∷ ss) = StepHas tables (with_step before place (Gives tables before s.body)) (suc place) ss

-- a query has a row: its last select has it over its steps
abbrev pub Means : (ℕ → List (List Value)) → Sql → List Value → Type 0
Means tables sql row = Selects tables (StepHas tables (λ m x. ⊥) 0 sql.steps) sql.last row
