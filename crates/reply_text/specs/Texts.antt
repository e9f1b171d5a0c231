-- The bytes of each reply.
use Rattle.std.specs.Prelude.{ℕ, zero, suc, ◌+◌, ◌-◌, Bool, true, false, List, [], ◌∷◌, ◌++◌, length, take, Option, Some, None, codes}
use Rattle.std.specs.Fmt.{decimal, signed_decimal}
use Rattle.std.specs.List.{flat_map}
use Rattle.cqa_value.specs.Literals.{literal_bytes, row_bytes}
use Rattle.cqa_value.specs.declared.value.Value.{Value}
use Rattle.cnf_form.specs.Writing.{proof_bytes}
use Rattle.lrat_check.specs.Writing.{log_bytes}
use Rattle.schema_text.specs.Text.{schema_bytes}
use Rattle.refusals.specs.declared.refusal.Refusal.{Refusal}
use Rattle.refusals.specs.declared.refusal.Refusal.TheVariants.{BadByte, Syntax, StatementTooLong, UnknownTable, TableExists, UnknownColumn, AmbiguousColumn, SelfJoin, TypeMismatch, WrongArity, DuplicateColumn, BadKey, OutOfRange, TextTooLong, Unfinished, Limit, WitnessLimit, Spent, BadCsv, KeyTaken, KeyBroken, CertificateLimit, NotStrict}
use Rattle.refusals.specs.declared.refusal.Place.{Place}
use Rattle.refusals.specs.declared.refusal.Place.TheVariants.{Cell, Condition}
use Rattle.refusals.specs.declared.refusal.LimitKind.{LimitKind}
use Rattle.refusals.specs.declared.refusal.LimitKind.TheVariants.{Name as NameLimit, Tables as TablesLimit, Columns as ColumnsLimit, Atoms as AtomsLimit, Answer as AnswerLimit, Rows as RowsLimit, Selects as SelectsLimit}
use Rattle.cqa_value.specs.declared.row.TheConstants.{MOST_COLUMNS}
use Rattle.cqa_model.specs.declared.limits.TheConstants.{LONGEST_NAME, MOST_TABLES, MOST_ATOMS, MOST_ANSWER_COLUMNS, MOST_ROWS, MOST_SELECTS}
use Rattle.complexity_class.specs.declared.class.Class.{Class}
use Rattle.complexity_class.specs.declared.class.Class.TheVariants.{FirstOrder, Polynomial, CoNp}
use Rattle.aggregate_range.specs.declared.aggregate.End.{End}
use Rattle.aggregate_range.specs.declared.aggregate.End.TheVariants.{Empty, Number, Held}
use Rattle.reply_text.specs.declared.reply.AttackLine.{AttackLine}
use Rattle.reply_text.specs.declared.reply.GroupEnds.{GroupEnds}
use Rattle.reply_text.specs.declared.reply.PartClass.{PartClass}
use Rattle.reply_text.specs.declared.reply.KeptRow.{KeptRow}
use Rattle.reply_text.specs.declared.reply.TableLine.{TableLine}
use Rattle.reply_text.specs.declared.reply.ConflictLine.{ConflictLine}
use Rattle.reply_text.specs.declared.reply.Proof.{Proof}
use Rattle.reply_text.specs.declared.reply.Reply.{Reply}
use Rattle.reply_text.specs.declared.reply.Reply.TheVariants.{Created, Altered, Inserted, Deleted, Copied, Rows, Classified, ClassifiedParts, Steps, Sql, SqlParts, Certificate, NoPlan, NoPlanOf, Shares, Rejected, Certain, Against, ByBlock, ByRefutation, Range, Groups, Tables, Contested, Conflicts, KeptLog, NoLog, Dumped, Refused}

-- row R column C, or condition K
abbrev pub place_text : Place → List ℕ
place_text (Cell row column) = codes "row " ++ decimal row ++ codes " column " ++ decimal column
place_text (Condition number) = codes "condition " ++ decimal number

-- what is limited
abbrev pub limit_word : LimitKind → List ℕ
limit_word NameLimit = codes "name "
limit_word TablesLimit = codes "tables "
limit_word ColumnsLimit = codes "columns "
limit_word AtomsLimit = codes "atoms "
limit_word AnswerLimit = codes "answer "
limit_word RowsLimit = codes "rows "
limit_word SelectsLimit = codes "selects "

-- its greatest number
abbrev pub limit_of : LimitKind → ℕ
limit_of NameLimit = LONGEST_NAME
limit_of TablesLimit = MOST_TABLES
limit_of ColumnsLimit = MOST_COLUMNS
limit_of AtomsLimit = MOST_ATOMS
limit_of AnswerLimit = MOST_ANSWER_COLUMNS
limit_of RowsLimit = MOST_ROWS
limit_of SelectsLimit = MOST_SELECTS

abbrev pub limit_text : LimitKind → List ℕ
limit_text what = limit_word what ++ decimal (limit_of what)

-- a column as it was written: NAME, or TABLE.NAME
abbrev pub written_column : Option (List ℕ) → List ℕ → List ℕ
written_column None name = name
written_column (Some table) name = table ++ codes "." ++ name

-- the words that begin the line of a refusal, its number and its name in them; and what it is about
abbrev pub refusal_parts : Refusal → List ℕ × List ℕ
refusal_parts (BadByte at) = (codes "error 1 BadByte at ", decimal at)
refusal_parts (Syntax at) = (codes "error 2 Syntax at ", decimal at)
refusal_parts (StatementTooLong len) = (codes "error 3 StatementTooLong ", decimal len)
refusal_parts (UnknownTable name) = (codes "error 4 UnknownTable ", name)
refusal_parts (TableExists name) = (codes "error 5 TableExists ", name)
refusal_parts (UnknownColumn table name) = (codes "error 6 UnknownColumn ", written_column table name)
refusal_parts (AmbiguousColumn name) = (codes "error 7 AmbiguousColumn ", name)
refusal_parts (SelfJoin name) = (codes "error 8 SelfJoin ", name)
refusal_parts (TypeMismatch place) = (codes "error 9 TypeMismatch ", place_text place)
refusal_parts (WrongArity row) = (codes "error 10 WrongArity row ", decimal row)
refusal_parts (DuplicateColumn name) = (codes "error 11 DuplicateColumn ", name)
refusal_parts (BadKey name) = (codes "error 12 BadKey ", name)
refusal_parts (OutOfRange at) = (codes "error 13 OutOfRange at ", decimal at)
refusal_parts (TextTooLong at) = (codes "error 14 TextTooLong at ", decimal at)
refusal_parts Unfinished = (codes "error 15 Unfinished", [])
refusal_parts (Limit what) = (codes "error 16 Limit ", limit_text what)
refusal_parts (WitnessLimit row) = (codes "error 17 WitnessLimit ", row_bytes row)
refusal_parts (Spent row conflicts) = (codes "error 18 Spent ", row_bytes row ++ codes " conflicts " ++ decimal conflicts)
refusal_parts (BadCsv number) = (codes "error 19 BadCsv record ", decimal number)
refusal_parts (KeyTaken number kept fresh) = (codes "error 20 KeyTaken row ", decimal number ++ codes " " ++ row_bytes kept ++ codes " " ++ row_bytes fresh)
refusal_parts (KeyBroken first second) = (codes "error 21 KeyBroken ", row_bytes first ++ codes " " ++ row_bytes second)
refusal_parts CertificateLimit = (codes "error 22 CertificateLimit", [])
refusal_parts (NotStrict name) = (codes "error 23 NotStrict ", name)

-- the line of a refusal, without its line feed
abbrev pub refusal_text : Refusal → List ℕ
refusal_text refusal = (refusal_parts refusal).0 ++ (refusal_parts refusal).1

-- the mark of a strict table
abbrev pub strict_text : Bool → List ℕ
strict_text true = codes "strict "
strict_text false = []

-- SCHEMA rows N blocks M, with the mark before a strict table's
abbrev pub table_text : TableLine → List ℕ
table_text line = strict_text line.schema.strict ++ schema_bytes line.schema ++ codes " rows " ++ decimal line.rows ++ codes " blocks " ++ decimal line.blocks

-- a line for each item, then how many they are, and of what
abbrev pub counted_lines : {X : Type 0} → (X → List ℕ) → List X → List ℕ → List ℕ
counted_lines text items kind = flat_map (λ item. text item ++ codes "\n") items ++ decimal (length items) ++ kind

-- each row on a line of its own, then N rows
abbrev pub rows_text : List (List Value) → List ℕ
rows_text rows = counted_lines row_bytes rows (codes " rows")

abbrev pub class_text : Class → List ℕ
class_text FirstOrder = codes "first-order"
class_text Polynomial = codes "polynomial"
class_text CoNp = codes "conp-complete"

abbrev pub strength_text : Bool → List ℕ
strength_text true = codes ", weak"
strength_text false = codes ", strong"

-- NAME attacks NAME, weak or strong
abbrev pub attack_text : AttackLine → List ℕ
attack_text line = line.from ++ codes " attacks " ++ line.to ++ strength_text line.weak

-- class CLASS, then each attack on a line of its own
abbrev pub classified_text : Class → List AttackLine → List ℕ
classified_text class lines = codes "class " ++ class_text class ++ flat_map (λ line. codes "\n" ++ attack_text line) lines

-- the piece of each item by how many stand before it, with so many before the first
abbrev pub numbered_pieces : {X : Type 0} → (ℕ → X → List ℕ) → ℕ → List X → List ℕ
numbered_pieces piece before [] = []
numbered_pieces piece before (x ∷ xs) = piece before x ++ numbered_pieces piece (before + 1) xs

-- part K, then the lines of its class, with so many parts before it
abbrev pub part_text : ℕ → PartClass → List ℕ
part_text before part = codes "part " ++ decimal (before + 1) ++ codes "\n" ++ classified_text part.class part.lines ++ codes "\n"

-- a part for each of these, from part 1
abbrev pub parts_text : List PartClass → List ℕ
parts_text parts = numbered_pieces part_text 0 parts

-- apart, or together and the table that two parts share
abbrev pub meeting_text : Option (List ℕ) → List ℕ
meeting_text None = codes "apart"
meeting_text (Some table) = codes "together " ++ table

-- a query in SQL without the `;` and the line feed at its end
abbrev pub unended : List ℕ → List ℕ
unended text = take (length text - 2) text

-- what stands before a part's query, with so many parts before it: before each but the first `UNION`, on a line of its own
abbrev pub sql_part_start : ℕ → List ℕ
sql_part_start zero = codes "SELECT * FROM (\n"
sql_part_start (suc before) = codes "\nUNION SELECT * FROM (\n"

-- what stands behind it: its name, between double quotes (34)
abbrev pub sql_part_end : ℕ → List ℕ
sql_part_end before = (codes "\n) AS " ++ 34 ∷ codes "part ") ++ decimal (before + 1) ++ (34 ∷ [])

-- a part's query as a table of its own, with so many parts before it
abbrev pub sql_part_text : ℕ → List ℕ → List ℕ
sql_part_text before text = sql_part_start before ++ unended text ++ sql_part_end before

-- the query of a union, whose parts have these texts
abbrev pub union_text : List (List ℕ) → List ℕ
union_text texts = numbered_pieces sql_part_text 0 texts ++ codes ";\n"

-- no sql parts I and J share TABLE
abbrev pub shares_text : ℕ → ℕ → List ℕ → List ℕ
shares_text first second table = codes "no sql parts " ++ decimal first ++ codes " and " ++ decimal second ++ codes " share " ++ table

-- what stands before the number of a step, with so many before it: all but the first begin a line
abbrev pub step_start : ℕ → List ℕ
step_start zero = codes "step "
step_start (suc before) = codes "\nstep "

-- step K NAME, with so many steps before it
abbrev pub step_text : ℕ → List ℕ → List ℕ
step_text before name = step_start before ++ decimal (before + 1) ++ codes " " ++ name

-- a step for each of these tables, each on a line of its own, from step 1
abbrev pub steps_text : List (List ℕ) → List ℕ
steps_text names = numbered_pieces step_text 0 names

-- each table on a line of its own, then N tables
abbrev pub tables_text : List TableLine → List ℕ
tables_text lines = counted_lines table_text lines (codes " tables")

-- NAME rows N blocks B conflicts C
abbrev pub conflict_text : ConflictLine → List ℕ
conflict_text line = line.name ++ codes " rows " ++ decimal line.rows ++ codes " blocks " ++ decimal line.blocks ++ codes " conflicts " ++ decimal line.conflicts

-- each table on a line of its own, then N tables
abbrev pub contested_text : List ConflictLine → List ℕ
contested_text lines = counted_lines conflict_text lines (codes " tables")

-- a formula, the line "lrat", and a log
abbrev pub proof_text : Proof → List ℕ
proof_text proof = proof_bytes proof.cnf (log_bytes proof.log.steps)

-- the row that a repair keeps of a block: keep NAME ROW
abbrev pub kept_text : KeptRow → List ℕ
kept_text line = codes "keep " ++ line.table ++ codes " " ++ row_bytes line.row

-- each row that a repair keeps, on a new line
abbrev pub kept_lines : List KeptRow → List ℕ
kept_lines lines = flat_map (λ line. codes "\n" ++ kept_text line) lines

-- rejected, then the rows that a repair keeps
abbrev pub rejected_text : List KeptRow → List ℕ
rejected_text lines = codes "rejected" ++ kept_lines lines

-- each row that stands against a row on a line of its own, then N rows
abbrev pub against_text : List KeptRow → List ℕ
against_text lines = counted_lines kept_text lines (codes " rows")

-- an end of a range: none, a number, or a value as a literal
abbrev pub end_text : End → List ℕ
end_text Empty = codes "none"
end_text (Number number) = signed_decimal number
end_text (Held value) = literal_bytes value

-- least V, then the rows that a repair with this value keeps; greatest V, then those of a repair with that
abbrev pub range_text : End → List KeptRow → End → List KeptRow → List ℕ
range_text least low greatest high = codes "least " ++ end_text least ++ kept_lines low ++ codes "\ngreatest " ++ end_text greatest ++ kept_lines high

-- group V least L greatest G
abbrev pub group_text : GroupEnds → List ℕ
group_text line = codes "group " ++ literal_bytes line.value ++ codes " least " ++ end_text line.least ++ codes " greatest " ++ end_text line.greatest

-- each group on a line of its own, then N groups
abbrev pub groups_text : List GroupEnds → List ℕ
groups_text lines = counted_lines group_text lines (codes " groups")

-- certain by block NAME KEY
abbrev pub block_text : List ℕ → List Value → List ℕ
block_text table key = codes "certain by block " ++ table ++ codes " " ++ row_bytes key

-- certain by refutation, then the proof
abbrev pub refutation_text : Proof → List ℕ
refutation_text proof = codes "certain by refutation\n" ++ proof_text proof

-- the line of a reply that is a few words, with a name or a number behind them; and the lines of any other
abbrev pub reply_parts : Reply → List ℕ × List ℕ
reply_parts (Created name) = (codes "created " ++ name, [])
reply_parts (Altered name) = (codes "altered " ++ name, [])
reply_parts (Inserted count) = (codes "inserted " ++ decimal count, [])
reply_parts (Deleted count) = (codes "deleted " ++ decimal count, [])
reply_parts (Copied count) = (codes "copied " ++ decimal count, [])
reply_parts (Rows rows) = ([], rows_text rows)
reply_parts (Classified class lines) = ([], classified_text class lines)
reply_parts (ClassifiedParts parts shared) = ([], parts_text parts ++ meeting_text shared)
reply_parts (Steps names) = ([], steps_text names)
reply_parts (Sql text) = ([], text)
reply_parts (SqlParts texts) = ([], union_text texts)
reply_parts (Certificate text) = ([], text)
reply_parts NoPlan = (codes "no plan", [])
reply_parts (NoPlanOf part) = (codes "no plan part " ++ decimal part, [])
reply_parts (Shares first second table) = ([], shares_text first second table)
reply_parts (Rejected lines) = ([], rejected_text lines)
reply_parts Certain = (codes "certain", [])
reply_parts (Against lines) = ([], against_text lines)
reply_parts (ByBlock table key) = ([], block_text table key)
reply_parts (ByRefutation proof) = ([], refutation_text proof)
reply_parts (Range least low greatest high) = ([], range_text least low greatest high)
reply_parts (Groups lines) = ([], groups_text lines)
reply_parts (Conflicts budget) = (codes "conflicts " ++ decimal budget, [])
reply_parts (Tables lines) = ([], tables_text lines)
reply_parts (Contested lines) = ([], contested_text lines)
reply_parts (Dumped script) = ([], script)
reply_parts (KeptLog proof) = ([], proof_text proof)
reply_parts NoLog = (codes "no log", [])
reply_parts (Refused refusal) = ([], refusal_text refusal)

-- the lines of a reply, without what ends the last of them
abbrev pub reply_lines : Reply → List ℕ
reply_lines reply = (reply_parts reply).0 ++ (reply_parts reply).1

-- what ends the last line of a reply: a line feed, but of a query in SQL, a certificate, a dump and a proof, whose lines have theirs
abbrev pub last_end : Reply → List ℕ
last_end (Sql text) = []
last_end (SqlParts texts) = []
last_end (Certificate text) = []
last_end (Dumped script) = []
last_end (KeptLog proof) = []
last_end (ByRefutation proof) = []
last_end _ = codes "\n"

-- the lines of a reply, each with a line feed at its end
abbrev pub reply_text : Reply → List ℕ
reply_text reply = reply_lines reply ++ last_end reply

-- the reply says that the statement was refused
abbrev pub is_refusal : Reply → Bool
is_refusal (Refused refusal) = true
is_refusal _ = false
