-- The names of a query's text say what its places mean: no two steps have one name, no two sources of a step one alias and
-- no two columns of a step one name, a step reads earlier ones alone, and each cell is a column of a source in its scope. Where
-- choices are counted, each column of a step below is shown or has to equal one that stands before it.
use Rattle.std.specs.Prelude.{◌≡◌, ◌≢◌, ◌⊎◌, ℕ, suc, ◌<◌, List, [], ◌∷◌, ◌++◌, length, map, Contains, slice_index_or}
use Rattle.cqa_model.specs.declared.query.Query.{Query}
use Rattle.cqa_model.specs.Query.{atom_at}
use Rattle.sql_text.specs.declared.syntax.Source.{Source}
use Rattle.sql_text.specs.declared.syntax.Source.TheVariants.{Table, Step as Earlier}
use Rattle.sql_text.specs.declared.syntax.Alias.TheVariants.{Context}
use Rattle.sql_text.specs.declared.syntax.Listed.{Listed}
use Rattle.sql_text.specs.declared.syntax.Cell.{Cell}
use Rattle.sql_text.specs.declared.syntax.Cmp.{Cmp}
use Rattle.sql_text.specs.declared.syntax.Cmp.TheVariants.{Same, Test}
use Rattle.sql_text.specs.declared.syntax.Within.{Within}
use Rattle.sql_text.specs.declared.syntax.Select.{Select}
use Rattle.sql_text.specs.declared.syntax.Child.{Child}
use Rattle.sql_text.specs.declared.syntax.Group.{Group}
use Rattle.sql_text.specs.declared.syntax.Body.{Body}
use Rattle.sql_text.specs.declared.syntax.Body.TheVariants.{Distinct, Grouped, Shared}
use Rattle.sql_text.specs.declared.syntax.StepKind.TheVariants.{Asked, Holds}
use Rattle.sql_text.specs.declared.syntax.Step.{Step}
use Rattle.sql_text.specs.declared.syntax.Sql.{Sql}

-- nothing stands twice
abbrev pub AreDifferent : {A : Type 0} → List A → Type 0
AreDifferent [] = Unit {0}
AreDifferent {A} (x ∷ xs) = ((y : A) → Contains xs y → x ≢ y) × AreDifferent xs

-- how many columns a source has, over the steps before
abbrev pub width : Query → List Step → Source → ℕ
width q before (Table F) = (atom_at q F).width
width q before (Earlier m) = slice_index_or (map (λ (s : Step). length s.columns) before) m 0

-- an atom of the query, or a step before
abbrev pub IsThere : Query → List Step → Source → Type 0
IsThere q before (Table F) = F < length q.atoms
IsThere q before (Earlier m) = m < length before

-- a step of what holds, which shows the constant `one` as well
abbrev pub ShowsOne : List Step → Source → Type 0
ShowsOne before (Table F) = ⊥
ShowsOne before (Earlier m) = slice_index_or (map (λ (s : Step). s.kind) before) m Asked ≡ Holds

-- a cell is a column of the source at its place
abbrev pub IsCellOf : Query → List Step → List Listed → Cell → Type 0
IsCellOf q before sources c = c.column < slice_index_or (map (λ (l : Listed). width q before l.source) sources) c.place 0

-- a comparison is one of such cells
abbrev pub IsCmpOf : Query → List Step → List Listed → Cmp → Type 0
IsCmpOf q before sources (Same c d) = IsCellOf q before sources c × IsCellOf q before sources d
IsCmpOf q before sources (Test c op x) = IsCellOf q before sources c

abbrev pub AreCellsOf : Query → List Step → List Listed → List Cell → Type 0
AreCellsOf q before sources cells = (c : Cell) → Contains cells c → IsCellOf q before sources c

abbrev pub AreCmpsOf : Query → List Step → List Listed → List Cmp → Type 0
AreCmpsOf q before sources cmps = (k : Cmp) → Contains cmps k → IsCmpOf q before sources k

-- a step before has the column in which a cell's value is looked up
abbrev pub AreWithinOf : Query → List Step → List Listed → List Within → Type 0
AreWithinOf q before sources only = (o : Within) → Contains only o → IsCellOf q before sources o.cell × (o.column < width q before (Earlier o.step))

-- each child compares what stands before it with itself
abbrev pub AreChildrenOf : Query → List Step → List Listed → List Child → Type 0
AreChildrenOf q before sources [] = Unit {0}
AreChildrenOf q before sources (c ∷ cs) =
    AreCmpsOf q before (sources ++ c.listed ∷ []) c.on × AreChildrenOf q before (sources ++ c.listed ∷ []) cs

-- sources that are there, some, and no two with one alias
pub record AreSources (q : Query) (before : List Step) (sources : List Listed) : Type 0 where
  pub some : 0 < length sources
  pub there : (l : Listed) → Contains sources l → IsThere q before l.source
  pub apart : AreDifferent (map (λ (l : Listed). l.alias) sources)

pub record IsNamedSelect (q : Query) (before : List Step) (select : Select) : Type 0 where
  pub sources : AreSources q before select.sources
  pub cells : AreCellsOf q before select.sources select.cells
  pub all : AreCmpsOf q before select.sources select.all
  pub only : AreWithinOf q before select.sources select.only

pub record IsNamedGroup (q : Query) (before : List Step) (group : Group) : Type 0 where
  pub sources : AreSources q before (group.sources ++ map (λ (c : Child). c.listed) group.children)
  pub cells : AreCellsOf q before (group.sources ++ map (λ (c : Child). c.listed) group.children) group.cells
  pub all : AreCmpsOf q before group.sources group.all
  pub only : AreWithinOf q before group.sources group.only
  pub by : AreCellsOf q before group.sources group.by
  pub grouped : 0 < length group.by
  pub fit : AreCmpsOf q before group.sources group.fit
  pub children : AreChildrenOf q before group.sources group.children
  pub joined : (c : Child) → Contains group.children c → (0 < length c.on) × ShowsOne before c.listed.source

-- no source has the alias of the sizes that the groups are counted against
abbrev pub AreCountable : List Listed → Type 0
AreCountable sources = (l : Listed) → Contains sources l → l.alias ≢ Context

-- a cell stands before another: its source does, or it is an earlier column of the same source
abbrev pub StandsBefore : Cell → Cell → Type 0
StandsBefore c d = (c.place < d.place) ⊎ ((c.place ≡ d.place) × (c.column < d.column))

-- a cell is one of these, or has to equal a cell that stands before it
abbrev pub IsDetermined : List Cell → List Cmp → Cell → Type 0
IsDetermined cells on c = Contains cells c ⊎ ((d : Cell) × StandsBefore d c × Contains on (Same c d))

-- each column of these children, whose places go on from this one, is one of these cells or has to equal a cell that stands
-- before it: so a choice of the group shows a row with at most one row of each child
abbrev pub AreDetermined : Query → List Step → List Cell → ℕ → List Child → Type 0
AreDetermined q before cells place [] = Unit {0}
AreDetermined q before cells place (c ∷ cs) =
    ((i : ℕ) → i < width q before c.listed.source → IsDetermined cells c.on (record { place = place; column = i })) × AreDetermined q before cells (suc place) cs

abbrev pub IsNamedBody : Query → List Step → Body → Type 0
IsNamedBody q before (Distinct select) = IsNamedSelect q before select
IsNamedBody q before (Grouped group) = IsNamedGroup q before group
IsNamedBody q before (Shared group) =
    IsNamedGroup q before group × AreCountable (group.sources ++ map (λ (c : Child). c.listed) group.children) × AreDetermined q before group.cells (length group.sources) group.children

-- how many columns a step shows
abbrev pub shown : Body → ℕ
shown (Distinct select) = length select.cells
shown (Grouped group) = length group.cells
shown (Shared group) = length group.cells

-- a step behind those before
pub record IsNamedStep (q : Query) (before : List Step) (s : Step) : Type 0 where
  pub fresh : (t : Step) → Contains before t → (t.kind ≡ s.kind) × (t.level ≡ s.level) → ⊥
  pub body : IsNamedBody q before s.body
  pub long : shown s.body ≡ length s.columns
  pub apart : AreDifferent s.columns

-- each of these steps, behind those before it
abbrev pub AreNamedSteps : Query → List Step → List Step → Type 0
AreNamedSteps q before [] = Unit {0}
AreNamedSteps q before (s ∷ ss) = IsNamedStep q before s × AreNamedSteps q (before ++ s ∷ []) ss

pub record IsNamed (q : Query) (sql : Sql) : Type 0 where
  pub steps : AreNamedSteps q [] sql.steps
  pub last : IsNamedSelect q sql.steps sql.last
  pub long : length sql.last.cells ≡ length q.answer
