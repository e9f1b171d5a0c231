-- What the text of a certificate says.
use Rattle.std.specs.Prelude.{◌≡◌, ◌⊎◌, ◌<◌, ◌+◌, ℕ, true, List, [], ◌∷◌, ◌++◌, Some, None, length, unwrap_or}
use Rattle.std.specs.List.{AllZip}
use Rattle.cqa_value.specs.declared.value.Value.{Value}
use Rattle.cqa_model.specs.declared.limits.TheConstants.{MOST_ATOMS}
use Rattle.cqa_model.specs.declared.schema.Schema.{Schema}
use Rattle.cqa_model.specs.declared.query.Query.{Query}
use Rattle.cqa_model.specs.Database.{Table}
use Rattle.script_lex.specs.Scripts.{Statement as Part, StartsWith, HasNoStatement, Begins, IsSpace}
use Rattle.refusals.specs.Kinds.{rows_fault}
use Rattle.spj_syntax.specs.declared.tree.Statement.TheVariants as statements
use Rattle.spj_syntax.specs.declared.tree.Verb.TheVariants as verbs
use Rattle.spj_syntax.specs.declared.tree.RawSchema.{RawSchema}
use Rattle.spj_syntax.specs.declared.tree.Select.{Select}
use Rattle.spj_syntax.specs.declared.tree.RawBlock.{RawBlock}
use Rattle.spj_syntax.specs.Texts.{HasStatement, IsOrderText, IsBlockText}
use Rattle.query_resolve.specs.Names.{name_place}
use Rattle.query_resolve.specs.Resolved.{IsSchemaOf, IsQueryOf}
use Rattle.query_resolve.specs.Checks.{schema_fault, query_fault, answer_fault}
use Rattle.table_blocks.specs.Tables.{table_named, kinds_at}
use Rattle.block_tree.specs.declared.node.Node.{Node}
use Rattle.block_tree.specs.declared.cause.RewriteCheck.{RewriteCheck}
use Rattle.block_tree.specs.declared.cause.RewriteCheck.TheVariants.{Verified, BadText, BadBlock}
use Rattle.block_tree.specs.Trees.{IsOrderOf, PassesFor}
use Rattle.block_tree.specs.Judging.{Judged}
use Rattle.rewrite_check.specs.declared.certificate.Certificate.{Certificate}

-- How far a text was read: tables were created; a row of a query was to be proved; the query's tables were put in order, and
-- blocks may follow.
pub data Stage : Type 0 where
  Created : List Table → Stage
  Asked : List Table → Select → Query → List Value → Stage
  Ordered : Certificate → Stage

-- a block as a node of the tree; one of a table that the query doesn't name is no atom's
abbrev pub node_of : Certificate → RawBlock → Node
node_of c raw = record { atom = unwrap_or (name_place c.select.tables raw.table) (length c.select.tables); rows = raw.rows }

-- a table can be created: there are fewer than a query has atoms, and no check of it fails
abbrev pub CanCreate : List Table → RawSchema → Type 0
CanCreate db raw = (length db < MOST_ATOMS) × (schema_fault db raw ≡ None)

-- the table stands last, without rows
abbrev pub HasCreated : List Table → RawSchema → List Table → Type 0
HasCreated db raw new = (schema : Schema) × IsSchemaOf raw schema × (new ≡ db ++ (record { schema = schema; rows = [] }) ∷ [])

-- a row of a query can be proved: no check of the query fails, and none of the row
abbrev pub CanAsk : List Table → Select → Query → List Value → Type 0
CanAsk db select q row = (query_fault db select ≡ None) × IsQueryOf db select q × (answer_fault db q row ≡ None)

-- the places of names among the tables of a query, each of which is named once
abbrev pub IsOrderBy : Select → Query → List (List ℕ) → List ℕ → Type 0
IsOrderBy select q names order = AllZip (λ n F. name_place select.tables n ≡ Some F) names order × IsOrderOf q order

-- a block can be listed: its table is one of those created, and its rows fit this table's columns
abbrev pub CanList : List Table → RawBlock → Type 0
CanList db raw = (t : ℕ) × (table_named db raw.table ≡ Some t) × (rows_fault (kinds_at db t) 1 raw.rows ≡ None)

-- a statement's text is of its form, and leads on
abbrev pub LeadsOn : Stage → List ℕ → Stage → Type 0
LeadsOn (Created db) text (Created new) = (raw : RawSchema) × HasStatement text (statements.Create raw) × CanCreate db raw × HasCreated db raw new
LeadsOn (Created db) text (Asked own select q row) = (own ≡ db) × HasStatement text (statements.Asking (verbs.Prove row) select) × CanAsk db select q row
LeadsOn (Asked db select q row) text (Ordered c) = (names : List (List ℕ)) × IsOrderText text names × IsOrderBy select q names c.order ×
    (c ≡ record { tables = db; select = select; query = q; row = row; order = c.order; nodes = [] })
LeadsOn (Ordered c) text (Ordered e) = (raw : RawBlock) × IsBlockText text raw × CanList c.tables raw × (e ≡ record c { nodes = c.nodes ++ node_of c raw ∷ [] })
LeadsOn _ text _ = ⊥

-- statements lead on, one after another
abbrev pub LeadsThrough : Stage → List Part → Stage → Type 0
LeadsThrough stage [] last = stage ≡ last
LeadsThrough stage (s ∷ ss) last = (mid : Stage) × LeadsOn stage s.0 mid × LeadsThrough mid ss last

-- an order has been read
abbrev pub IsOrdered : Stage → Type 0
IsOrdered (Ordered c) = Unit {0}
IsOrdered _ = ⊥

-- the bytes spell a certificate: their statements lead from nothing to it, and what follows them is blank
pub record SpellsCertificate (bytes : List ℕ) (c : Certificate) : Type 0 where
  pub parts : List Part
  pub rest : List ℕ
  pub begins : Begins true bytes parts rest
  pub ends : HasNoStatement true rest
  pub blank : IsSpace rest
  pub leads : LeadsThrough (Created []) parts (Ordered c)

-- what stands in some bytes doesn't lead on: a statement that isn't of its form, or none, where the end comes too early or isn't blank
abbrev pub StopsShort : Stage → List ℕ → Type 0
StopsShort last left = ((s : Part) × (more : List ℕ) × StartsWith true left s more × ((next : Stage) → LeadsOn last s.0 next → ⊥)) ⊎ (HasNoStatement true left × (IsSpace left × IsOrdered last → ⊥))

-- The statement of a number is the first that isn't of its form, or that is missing: so many stand before the bytes, and those in
-- front of it lead on from the stage.
pub record IsBadFrom (stage : Stage) (bytes : List ℕ) (before number : ℕ) : Type 0 where
  pub front : List Part
  pub left : List ℕ
  pub last : Stage
  pub begins : Begins true bytes front left
  pub leads : LeadsThrough stage front last
  pub number_is : number ≡ before + length front + 1
  pub ends : StopsShort last left

-- what is said of the bytes: a certificate whose tree passes, the first bad statement, or the first bad block of a certificate
abbrev pub ChecksRewriting : List ℕ → RewriteCheck → Type 0
ChecksRewriting bytes Verified = (c : Certificate) × SpellsCertificate bytes c × PassesFor c.query c.row c.order c.nodes
ChecksRewriting bytes (BadText n) = IsBadFrom (Created []) bytes 0 n
ChecksRewriting bytes (BadBlock n cause) = (c : Certificate) × SpellsCertificate bytes c × Judged c.query c.row c.order c.nodes (BadBlock n cause)
