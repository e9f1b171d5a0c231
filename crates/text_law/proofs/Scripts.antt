-- A dump as statements, table by table.
use Rattle.std.proofs.Common.{◌≡◌, ◌+◌, ◌<◌, ◌≤◌, ℕ, Bool, true, false, not, List, [], ◌∷◌, ◌++◌, codes, Contains, Some, None, length, map, refl, sym, ap, ◌∙◌, subst, arith, append_assoc, length-append}
use Rattle.std.proofs.lemmas.List.{append-nil, length-map}
use Rattle.std.proofs.lemmas.List.Elements.{recursion_from_All, Contains-append_left, Contains-append_right}
use Rattle.std.specs.List.{AllByRecursion, flat_map}
use Rattle.cqa_value.specs.declared.value.Value.{Value}
use Rattle.cqa_value.specs.Valid.{IsValidValue}
use Rattle.cqa_value.proofs.Words.{mem-tail, mem-head, Contains-filter}
use Rattle.cqa_model.specs.declared.schema.Schema.{Schema}
use Rattle.cqa_model.specs.Database.{Table, IsDatabase, IsTable, names_of, row_total}
use Rattle.schema_text.specs.Text.{schema_bytes}
use Rattle.cqa_model.specs.Valid.{HasNames, IsValidTable, AreValid}
use Rattle.script_lex.specs.Scripts.{Statement}
use Rattle.csv_rows.specs.Ends.{row_has_end, plain_rows, other_rows}
use Rattle.csv_rows.specs.Texts.{rows_bytes}
use Rattle.csv_rows.specs.Dumps.{create_words, create_text, copy_text, insert_text, dump_of_table, dump_text}
use Rattle.reply_text.specs.declared.reply.Reply.{Reply}
use Rattle.reply_text.specs.Texts.{is_refusal}
use Rattle.table_blocks.specs.Tables.{table_named}
use Rattle.session_state.specs.State.{State}
use Rattle.command_shell.specs.Runs.{Run, has_refusal}
use Rattle.reading_law.proofs.Cut.{IsCutInto, no_text, both_texts, plain_cut}
use Rattle.reading_law.proofs.WrittenTexts.{create_is_text, create_copies_not}
use Rattle.reading_law.proofs.Resolved.{Differ, last_free, last_found}
use Rattle.text_law.proofs.DumpBlocks.{rows_lines, plain_no_end}
use Rattle.text_law.proofs.CopyCut.{copy_cut}
use Rattle.text_law.proofs.DumpTexts.{insert_bytes, copy_is_text, copy_copies, insert_is_text, insert_copies_not}
use Rattle.text_law.proofs.Rows.{part, part_none, part_all, Within}
use Rattle.text_law.proofs.DumpSteps.{Takes, with_tables, create_takes, insert_takes, copy_takes}

-- the statement that makes a table
abbrev pub create_statement : Schema → Statement
create_statement schema = (create_words schema.strict ++ schema_bytes schema, None)

-- the statement that copies rows, where there are any
abbrev pub copy_statements : List ℕ → List (List Value) → List Statement
copy_statements name [] = []
copy_statements name (row ∷ rows) = (codes "copy " ++ name, Some (rows_bytes (row ∷ rows))) ∷ []

abbrev pub insert_statement : List ℕ → List Value → Statement
insert_statement name row = (insert_bytes name row, None)

-- the statements of a table
abbrev pub table_statements : Schema → List (List Value) → List Statement
table_statements schema rows =
    ((create_statement schema ∷ []) ++ copy_statements schema.name (plain_rows rows)) ++ map (insert_statement schema.name) (other_rows rows)

abbrev pub dump_statements : List Table → List Statement
dump_statements db = flat_map (λ table. table_statements table.schema table.rows) db

-- ---- the cut

copies_cut : (schema : Schema) → HasNames schema → (rows : List (List Value)) → ((row : List Value) → Contains rows row → AllByRecursion IsValidValue row × (row_has_end row ≡ false))
    → IsCutInto (copy_text schema.name rows) (copy_statements schema.name rows)
copies_cut schema h [] each = no_text
copies_cut schema h (row ∷ rows) each =
    let text = codes "copy " ++ schema.name in
    let block = rows_bytes (row ∷ rows) in
    let is : text ++ (codes ";\n" ++ (block ++ codes "\\.\n")) ≡ copy_text schema.name (row ∷ rows) =
    sym (append_assoc text (codes ";\n") (block ++ codes "\\.\n")) ∙ sym (append_assoc (text ++ codes ";\n") block (codes "\\.\n")) in
    subst (λ t. IsCutInto t ((text, Some block) ∷ [])) is (copy_cut text block (copy_is_text schema.name h.name) (copy_copies schema.name) (rows_lines (row ∷ rows) each))

inserts_cut : (schema : Schema) → HasNames schema → (rows : List (List Value)) → ((row : List Value) → Contains rows row → AllByRecursion IsValidValue row)
    → IsCutInto (flat_map (λ row. insert_text schema.name row) rows) (map (insert_statement schema.name) rows)
inserts_cut schema h [] each = no_text
inserts_cut schema h (row ∷ rows) each =
    both_texts (insert_text schema.name row) (flat_map (λ row. insert_text schema.name row) rows) (insert_statement schema.name row ∷ []) (map (insert_statement schema.name) rows)
    (plain_cut (insert_bytes schema.name row) (insert_is_text schema.name row h.name (each row (mem-head row rows))) (insert_copies_not schema.name row))
    (inserts_cut schema h rows (λ x m. each x (mem-tail x row rows m)))

values_of : (table : Table) → IsValidTable table → (row : List Value) → Contains table.rows row → AllByRecursion IsValidValue row
values_of table valid row m = recursion_from_All IsValidValue row (valid.values row m)

table_cut : (table : Table) → IsValidTable table → IsCutInto (dump_of_table table.schema table.rows) (table_statements table.schema table.rows)
table_cut table valid =
    let schema = table.schema in
    let create = plain_cut (create_words schema.strict ++ schema_bytes schema) (create_is_text schema valid.names) (create_copies_not schema) in
    let copies = copies_cut schema valid.names (plain_rows table.rows) (λ row m. (values_of table valid row ((Contains-filter (λ r. not (row_has_end r)) table.rows row).0 m).0, plain_no_end table.rows row m)) in
    let inserts = inserts_cut schema valid.names (other_rows table.rows) (λ row m. values_of table valid row ((Contains-filter row_has_end table.rows row).0 m).0) in
    let first = create_statement schema ∷ [] in
    let second = copy_statements schema.name (plain_rows table.rows) in
    both_texts (create_text schema ++ copy_text schema.name (plain_rows table.rows)) (flat_map (λ row. insert_text schema.name row) (other_rows table.rows)) (first ++ second) (map (insert_statement schema.name) (other_rows table.rows))
    (both_texts (create_text schema) (copy_text schema.name (plain_rows table.rows)) first second create copies) inserts

pub dump_cut : (db : List Table) → AreValid db → IsCutInto (dump_text db) (dump_statements db)
dump_cut [] valid = no_text
dump_cut (table ∷ db) valid =
    both_texts (dump_of_table table.schema table.rows) (dump_text db) (table_statements table.schema table.rows) (dump_statements db) (table_cut table (valid table (mem-head table db))) (dump_cut db (λ t m. valid t (mem-tail t table db m)))

-- ---- the run

-- the statements are taken one after another
abbrev pub TakesAll : State → List Statement → State → Type 0
TakesAll old [] new = new ≡ old
TakesAll old (x ∷ xs) new = (mid : State) × Takes old x mid × TakesAll mid xs new

both_taken : (old mid new : State) (xs ys : List Statement) → TakesAll old xs mid → TakesAll mid ys new → TakesAll old (xs ++ ys) new
both_taken old mid new [] ys a b = subst (λ s. TakesAll s ys new) a b
both_taken old mid new (x ∷ xs) ys a b = (a.0, a.1, both_taken a.0 mid new xs ys a.2 b)

pub all_run : (old new : State) (xs : List Statement) → TakesAll old xs new → (replies : List Reply) × Run old xs replies new
all_run old new [] a = ([], a)
all_run old new (x ∷ xs) a = let more = all_run a.0 new xs a.2 in (a.1.may.0 ∷ more.0, (a.0, a.1.may.1, more.1))

none_refused : (reply : Reply) (replies : List Reply) → is_refusal reply ≡ false → has_refusal replies ≡ false → has_refusal (reply ∷ replies) ≡ false
none_refused reply replies a b = rw a b

pub all_once : (old new other : State) (xs : List Statement) (replies : List Reply) → TakesAll old xs new → Run old xs replies other → (has_refusal replies ≡ false) × (other ≡ new)
all_once old new other [] [] a r = (refl, r ∙ sym a)
all_once old new other [] (reply ∷ replies) a r = absurd r
all_once old new other (x ∷ xs) [] a r = absurd r
all_once old new other (x ∷ xs) (reply ∷ replies) a r =
    let one = a.1.only reply r.0 r.1 in
    let more = all_once a.0 new other xs replies a.2 (subst (λ s. Run s xs replies other) one.1 r.2) in
    (none_refused reply replies one.0 more.0, more.1)

-- each row is copied or inserted
all_put : (rows : List (List Value)) → Within (plain_rows rows ++ other_rows rows) rows
all_put rows row m = go (row_has_end row) refl
  where
    go : (b : Bool) → row_has_end row ≡ b → Contains (plain_rows rows ++ other_rows rows) row
    go true e = Contains-append_right (plain_rows rows) (other_rows rows) row ((Contains-filter row_has_end rows row).1 (m, e))
    go false e = Contains-append_left (plain_rows rows) (other_rows rows) row ((Contains-filter (λ r. not (row_has_end r)) rows row).1 (m, ap not e))

module _ (s : State) (done : List Table) (table : Table) (is : IsTable table) (valid : IsValidTable table) (free : table_named done table.schema.name ≡ None) (room : length done < 64) (few : row_total done + length table.rows ≤ 1_000_000) where
  -- the table with some of its rows, behind the others
  abbrev behind : List (List Value) → State
  behind got = with_tables s (done ++ (record { schema = table.schema; rows = part table.rows got }) ∷ [])

  found : (other : Table) → other.schema.name ≡ table.schema.name → table_named (done ++ other ∷ []) table.schema.name ≡ Some (length done)
  found other same = subst (λ n. table_named (done ++ other ∷ []) n ≡ Some (length done)) same (last_found done other (subst (λ n. table_named done n ≡ None) (sym same) free))

  inserts_taken : (got rows : List (List Value)) → Within table.rows rows → TakesAll (behind got) (map (insert_statement table.schema.name) rows) (behind (got ++ rows))
  inserts_taken got [] inside = ap behind (append-nil got)
  inserts_taken got (row ∷ rows) inside = (
    behind (got ++ row ∷ []),
    insert_takes s done table.schema valid.names table.rows is.in_order is.of_schema is.strict few valid.values found got row (inside row (mem-head row rows)),
    subst (λ all. TakesAll (behind (got ++ row ∷ [])) (map (insert_statement table.schema.name) rows) (behind all)) (append_assoc got (row ∷ []) rows)
        (inserts_taken (got ++ row ∷ []) rows (λ x m. inside x (mem-tail x row rows m))),
  )

  copies_taken : (plain : List (List Value)) → Within table.rows plain → TakesAll (behind []) (copy_statements table.schema.name plain) (behind plain)
  copies_taken [] inside = refl
  copies_taken (row ∷ rows) inside = (behind (row ∷ rows), copy_takes s done table.schema valid.names table.rows is.in_order is.of_schema is.strict few valid.values found (row ∷ rows) inside, refl)

  pub table_taken : TakesAll (with_tables s done) (table_statements table.schema table.rows) (with_tables s (done ++ table ∷ []))
  table_taken =
      let plain = plain_rows table.rows in
      let other = other_rows table.rows in
      let made : with_tables s (done ++ (record { schema = table.schema; rows = [] }) ∷ []) ≡ behind [] = ap (λ r. with_tables s (done ++ (record { schema = table.schema; rows = r }) ∷ [])) (sym (part_none table.rows)) in
      let whole : behind (plain ++ other) ≡ with_tables s (done ++ table ∷ []) = ap (λ r. with_tables s (done ++ (record { schema = table.schema; rows = r }) ∷ [])) (part_all table.rows (plain ++ other) (all_put table.rows)) in
      let create : TakesAll (with_tables s done) (create_statement table.schema ∷ []) (behind []) =
      (with_tables s (done ++ (record { schema = table.schema; rows = [] }) ∷ []), create_takes s done table.schema valid.names free room, sym made) in
      subst (λ new. TakesAll (with_tables s done) (table_statements table.schema table.rows) new) whole
      (both_taken (with_tables s done) (behind plain) (behind (plain ++ other)) ((create_statement table.schema ∷ []) ++ copy_statements table.schema.name plain) (map (insert_statement table.schema.name) other)
      (both_taken (with_tables s done) (behind []) (behind plain) (create_statement table.schema ∷ []) (copy_statements table.schema.name plain) create (copies_taken plain (λ row m. ((Contains-filter (λ r. not (row_has_end r)) table.rows row).0 m).0)))
      (inserts_taken plain other (λ row m. ((Contains-filter row_has_end table.rows row).0 m).0)))

total_both : (done : List Table) (table : Table) (rest : List Table) → row_total done + length table.rows ≤ row_total (done ++ table ∷ rest)
total_both [] table rest = omega arith
total_both (t ∷ done) table rest = omega (arith, total_both done table rest)

-- the tables that are left are made behind those that were
tables_taken : (s : State) (done rest : List Table) → IsDatabase (done ++ rest) → AreValid (done ++ rest) → TakesAll (with_tables s done) (dump_statements rest) (with_tables s (done ++ rest))
tables_taken s done [] is valid = ap (with_tables s) (append-nil done)
tables_taken s done (table ∷ rest) is valid =
    let there : Contains (done ++ table ∷ rest) table = Contains-append_right done (table ∷ rest) table (mem-head table rest) in
    let long : length (done ++ table ∷ rest) ≡ length done + length (table ∷ rest) = length-append done (table ∷ rest) in
    let most = is.few_tables in
    let total = is.few_rows in
    let next : (done ++ table ∷ []) ++ rest ≡ done ++ table ∷ rest = append_assoc done (table ∷ []) rest in
    both_taken (with_tables s done) (with_tables s (done ++ table ∷ [])) (with_tables s (done ++ table ∷ rest)) (table_statements table.schema table.rows) (dump_statements rest)
    (table_taken s done table (is.each table there) (valid table there) (last_free done table rest (differ is)) (omega (arith, long, most)) (omega (arith, total_both done table rest, total)))
    (subst (λ db. TakesAll (with_tables s (done ++ table ∷ [])) (dump_statements rest) (with_tables s db)) next
    (tables_taken s (done ++ table ∷ []) rest (subst IsDatabase (sym next) is) (subst AreValid (sym next) valid)))
  where
    differ : {db : List Table} → IsDatabase db → Differ (names_of db)
    differ {db = db} is i j a b e = is.names_differ i j (omega (arith, a, length-map db (λ (t : Table). t.schema.name))) (omega (arith, b, length-map db (λ (t : Table). t.schema.name))) e

pub dump_taken : (s : State) (db : List Table) → IsDatabase db → AreValid db → TakesAll (with_tables s []) (dump_statements db) (with_tables s db)
dump_taken s db is valid = tables_taken s [] db is valid
