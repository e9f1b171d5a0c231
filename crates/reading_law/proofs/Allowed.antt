-- The grammar allows the statements of a certificate.
use Rattle.std.proofs.Common.{◌≡◌, ◌<◌, inl, inr, ℕ, List, [], ◌∷◌, ◌++◌, codes, Some, length, refl, arith}
use Rattle.std.specs.List.{AllByRecursion}
use Rattle.cqa_value.specs.declared.value.Value.{Value}
use Rattle.cqa_model.specs.declared.query.Op.{Op}
use Rattle.cqa_model.specs.declared.query.Op.TheVariants as ops
use Rattle.cqa_model.specs.Valid.{IsName}
use Rattle.script_lex.specs.declared.kinds.Symbol.TheVariants as s
use Rattle.spj_syntax.specs.declared.tree.RawBlock.{RawBlock}
use Rattle.spj_syntax.specs.declared.tree.RawCol.{RawCol}
use Rattle.spj_syntax.specs.declared.tree.RawCond.{RawCond}
use Rattle.spj_syntax.specs.declared.tree.RawCond.TheVariants.{Join, Test}
use Rattle.spj_syntax.specs.declared.tree.Select.{Select}
use Rattle.spj_syntax.specs.declared.tree.Statement.TheVariants as statements
use Rattle.spj_syntax.specs.declared.tree.Verb.TheVariants as verbs
use Rattle.spj_syntax.specs.Lexemes.{Lexeme, Word, Mark}
use Rattle.spj_syntax.specs.Shapes.{word, name, mark, one, ◌⨾◌, Generates}
use Rattle.spj_syntax.specs.Grammar.{a_name, optional, listed, anded, filtered, literal, op, col, cond, head, query, any_row, row_for, verb, statement, order, block, table_rows, row}
use Rattle.spj_syntax.specs.Written.{name_tokens, literal_tokens, listed_tokens, anded_tokens, filtered_tokens, op_symbol, col_tokens, cond_tokens, row_tokens, row_for_tokens, head_tokens, select_tokens, verb_tokens, statement_tokens, table_rows_tokens, order_tokens, block_tokens}
use Rattle.reading_law.proofs.Grammar.{one_is, then, one_then, separated_is, list_is, name_is, name_generated, literal_generated, all_anything, row_generated}

-- a column that is written with its table, by their names
abbrev pub IsQualified : RawCol → Type 0
IsQualified c = (table : List ℕ) × (c.table ≡ Some table) × IsName table × IsName c.name

abbrev pub IsWritable : RawCond → Type 0
IsWritable (Join left right) = IsQualified left × IsQualified right
IsWritable (Test c o value) = IsQualified c

qualified : (table n : List ℕ) → IsName table → IsName n → Generates col (Word table ∷ Mark s.Dot ∷ Word n ∷ [])
qualified table n h k = one_then name (optional (one (mark s.Dot) ⨾ a_name)) (Word table) (Mark s.Dot ∷ Word n ∷ []) (name_is table h) (inl (one_then (mark s.Dot) a_name (Mark s.Dot) (Word n ∷ []) refl (name_generated n k)))

col_generated : (c : RawCol) → IsQualified c → Generates col (col_tokens c)
col_generated c h = rw h.1 (qualified h.0 c.name h.2 h.3)

op_generated : (o : Op) → Generates op (Mark (op_symbol o) ∷ [])
op_generated ops.Eq = inl (one_is (mark s.Eq) (Mark s.Eq) refl)
op_generated ops.Ne = inr (inl (one_is (mark s.Ne) (Mark s.Ne) refl))
op_generated ops.Lt = inr (inr (inl (one_is (mark s.Lt) (Mark s.Lt) refl)))
op_generated ops.Le = inr (inr (inr (inl (one_is (mark s.Le) (Mark s.Le) refl))))
op_generated ops.Gt = inr (inr (inr (inr (inl (one_is (mark s.Gt) (Mark s.Gt) refl)))))
op_generated ops.Ge = inr (inr (inr (inr (inr (one_is (mark s.Ge) (Mark s.Ge) refl)))))

cond_generated : (k : RawCond) → IsWritable k → Generates cond (cond_tokens k)
cond_generated (Join left right) h =
    inl (then col (one (mark s.Eq) ⨾ col) (col_tokens left) (Mark s.Eq ∷ col_tokens right) (col_generated left h.0) (one_then (mark s.Eq) col (Mark s.Eq) (col_tokens right) refl (col_generated right h.1)))
cond_generated (Test c o value) h =
    inr (then col (op ⨾ literal) (col_tokens c) (Mark (op_symbol o) ∷ literal_tokens value) (col_generated c h) (then op literal (Mark (op_symbol o) ∷ []) (literal_tokens value) (op_generated o) (literal_generated value)))

where_generated : (conds : List RawCond) → AllByRecursion IsWritable conds → Generates (filtered cond) (filtered_tokens cond_tokens conds)
where_generated [] h = inr refl
where_generated (k ∷ conds) h =
    inl (one_then (word (codes "where")) (anded cond) (Word (codes "where")) (anded_tokens cond_tokens (k ∷ conds)) refl
    (separated_is (word (codes "and")) (Word (codes "and")) cond cond_tokens IsWritable refl cond_generated (k ∷ conds) (omega arith) h))

head_generated : (columns : List RawCol) → AllByRecursion IsQualified columns → Generates head (head_tokens columns)
head_generated [] h = inr (one_is (word (codes "exists")) (Word (codes "exists")) refl)
head_generated (c ∷ columns) h =
    inl (one_then (word (codes "select")) (listed col) (Word (codes "select")) (listed_tokens col_tokens (c ∷ columns)) refl (list_is col col_tokens IsQualified col_generated (c ∷ columns) (omega arith) h))

query_generated : (select : Select) → AllByRecursion IsQualified select.columns → AllByRecursion IsName select.tables → AllByRecursion IsWritable select.conds → Generates query (select_tokens select)
query_generated select columns tables conds =
    then head (one (word (codes "from")) ⨾ listed a_name ⨾ filtered cond) (head_tokens select.columns) _ (head_generated select.columns columns)
    (one_then (word (codes "from")) (listed a_name ⨾ filtered cond) (Word (codes "from")) _ refl
    (then (listed a_name) (filtered cond) (listed_tokens name_tokens select.tables) (filtered_tokens cond_tokens select.conds)
    (list_is a_name name_tokens IsName name_generated select.tables (omega (arith, select.some_table)) tables) (where_generated select.conds conds)))

values_generated : (values : List Value) → Generates (optional (listed literal)) (listed_tokens literal_tokens values)
values_generated [] = inr refl
values_generated (v ∷ values) = inl (list_is literal literal_tokens (λ v. Unit {0}) (λ v u. literal_generated v) (v ∷ values) (omega arith) (all_anything (v ∷ values)))

any_row_generated : (values : List Value) → Generates any_row (row_tokens values)
any_row_generated values =
    one_then (mark s.Open) (optional (listed literal) ⨾ one (mark s.Close)) (Mark s.Open) (listed_tokens literal_tokens values ++ Mark s.Close ∷ []) refl
    (then (optional (listed literal)) (one (mark s.Close)) (listed_tokens literal_tokens values) (Mark s.Close ∷ []) (values_generated values) (one_is (mark s.Close) (Mark s.Close) refl))

proved_generated : (values : List Value) → Generates verb (verb_tokens (verbs.Prove values))
proved_generated values =
    inr (inr (inr (one_then (word (codes "prove")) row_for (Word (codes "prove")) (row_for_tokens values) refl
    (one_then (word (codes "row")) (any_row ⨾ one (word (codes "for"))) (Word (codes "row")) (row_tokens values ++ Word (codes "for") ∷ []) refl
    (then any_row (one (word (codes "for"))) (row_tokens values) (Word (codes "for") ∷ []) (any_row_generated values) (one_is (word (codes "for")) (Word (codes "for")) refl))))))

-- what is asked of one query is a statement
asking_is : (ls : List Lexeme) → Generates (verb ⨾ query) ls → Generates statement ls
asking_is ls h = inr (inr (inr (inr (inr (inr (inr (inr (inr (inr (inr h))))))))))

pub prove_generated : (values : List Value) (select : Select) → AllByRecursion IsQualified select.columns → AllByRecursion IsName select.tables → AllByRecursion IsWritable select.conds
    → Generates statement (statement_tokens (statements.Asking (verbs.Prove values) select))
prove_generated values select columns tables conds = asking_is _ (then verb query (verb_tokens (verbs.Prove values)) (select_tokens select) (proved_generated values) (query_generated select columns tables conds))

pub order_generated : (names : List (List ℕ)) → 0 < length names → AllByRecursion IsName names → Generates order (order_tokens names)
order_generated names some h = one_then (word (codes "order")) (listed a_name) (Word (codes "order")) (listed_tokens name_tokens names) refl (list_is a_name name_tokens IsName name_generated names some h)

pub block_generated : (raw : RawBlock) → IsName raw.table → 0 < length raw.rows → AllByRecursion (λ (r : List Value). 0 < length r) raw.rows → Generates block (block_tokens raw)
block_generated raw h some wide =
    one_then (word (codes "block")) table_rows (Word (codes "block")) (table_rows_tokens raw) refl
    (one_then name (one (word (codes "values")) ⨾ listed row) (Word raw.table) (Word (codes "values") ∷ listed_tokens row_tokens raw.rows) (name_is raw.table h)
    (one_then (word (codes "values")) (listed row) (Word (codes "values")) (listed_tokens row_tokens raw.rows) refl (list_is row row_tokens (λ r. 0 < length r) row_generated raw.rows some wide)))
