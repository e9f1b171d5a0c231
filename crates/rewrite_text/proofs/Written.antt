-- The query of a certificate, as it is written: each column with its table.
use Rattle.std.proofs.Common.{◌≡◌, ◌≤◌, lit≤, ℕ, List, [], ◌∷◌, ◌++◌, codes, Some, length, map, refl, sym, ap, ◌∙◌, subst, append_assoc}
use Rattle.std.proofs.lemmas.List.{append-nil}
use Rattle.std.specs.List.{AllByRecursion, join_by}
use Rattle.cqa_value.specs.declared.value.Value.{Value}
use Rattle.cqa_value.specs.Literals.{literal_bytes, row_bytes}
use Rattle.cqa_value.specs.Valid.{IsValidValue, IsValidRow}
use Rattle.cqa_model.specs.declared.query.Op.{Op}
use Rattle.cqa_model.specs.declared.query.Op.TheVariants as ops
use Rattle.cqa_model.specs.declared.query.Cond.{Cond}
use Rattle.cqa_model.specs.declared.query.Cond.TheVariants.{Join, Test}
use Rattle.cqa_model.specs.declared.query.ColRef.{ColRef}
use Rattle.cqa_model.specs.declared.query.Atom.{Atom}
use Rattle.cqa_model.specs.declared.query.Query.{Query}
use Rattle.cqa_model.specs.Database.{Table}
use Rattle.cqa_model.specs.Query.{atom_at}
use Rattle.cqa_model.specs.Valid.{IsName}
use Rattle.script_lex.specs.Tokens.{symbol_bytes}
use Rattle.script_lex.specs.declared.kinds.Symbol.TheVariants as s
use Rattle.spj_syntax.specs.declared.tree.RawCol.{RawCol}
use Rattle.spj_syntax.specs.declared.tree.RawCond.{RawCond}
use Rattle.spj_syntax.specs.declared.tree.RawCond.TheVariants as raw
use Rattle.spj_syntax.specs.declared.tree.Select.{Select}
use Rattle.spj_syntax.specs.declared.tree.Statement.TheVariants as statements
use Rattle.spj_syntax.specs.declared.tree.Verb.TheVariants as verbs
use Rattle.spj_syntax.specs.Lexemes.{Lexeme, Word, Mark}
use Rattle.spj_syntax.specs.Limits.{most_items}
use Rattle.spj_syntax.specs.Written.{name_tokens, literal_tokens, each_after, between, listed_tokens, anded_tokens, filtered_tokens, op_symbol, col_tokens, cond_tokens, row_tokens, head_tokens, select_tokens, statement_tokens}
use Rattle.rewrite_text.specs.Texts.{name_at, atom_name, column_name_at, qualified_name, spaced_operator, condition_text, asked_text, from_text, where_text, certificate_prove}
use Rattle.reading_law.proofs.WrittenPieces.{Stops}
use Rattle.reading_law.proofs.WrittenStatements.{name_then, literal_word, row_then, join_names}
use Rattle.reading_law.proofs.Tokens.{Spelled, nothing_more, word_then, word_is, blank_then, dot_then, operator_then, literal_then, list_then, ands_then}

-- the same items, named otherwise
after_map : {A B : Type 0} (l : Lexeme) (f : B → List Lexeme) (g : A → B) (xs : List A) → each_after l (λ x. f (g x)) xs ≡ each_after l f (map g xs)
after_map l f g [] = refl
after_map l f g (x ∷ xs) = ap (λ z. l ∷ (f (g x) ++ z)) (after_map l f g xs)

between_map : {A B : Type 0} (l : Lexeme) (f : B → List Lexeme) (g : A → B) (xs : List A) → between l (λ x. f (g x)) xs ≡ between l f (map g xs)
between_map l f g [] = refl
between_map l f g (x ∷ xs) = ap (λ z. f (g x) ++ z) (after_map l f g xs)

module _ (db : List Table) (q : Query) where
  abbrev pub written_column : ColRef → RawCol
  written_column c = record { table = Some (atom_name db q c.atom); name = column_name_at db (atom_at q c.atom).table c.col }

  abbrev pub written_condition : Cond → RawCond
  written_condition (Join left right) = raw.Join (written_column left) (written_column right)
  written_condition (Test col op value) = raw.Test (written_column col) op value

  -- the names of the tables, in the query's order
  abbrev pub written_tables : List (List ℕ)
  written_tables = map (λ (atom : Atom). name_at db atom.table) q.atoms

  -- a column's table has a name, and so has the column
  abbrev pub IsNamed : ColRef → Type 0
  IsNamed c = IsName (atom_name db q c.atom) × IsName (column_name_at db (atom_at q c.atom).table c.col)

  -- the columns of a condition have names, and its literal is valid
  abbrev pub IsSayable : Cond → Type 0
  IsSayable (Join left right) = IsNamed left × IsNamed right
  IsSayable (Test col op value) = IsNamed col × IsValidValue value

  column_then : (c : ColRef) (rest : List ℕ) (ls : List Lexeme) → IsNamed c → Stops rest → Spelled rest ls → Spelled (qualified_name db q c ++ rest) (col_tokens (written_column c) ++ ls)
  column_then c rest ls named stops more =
      let table = atom_name db q c.atom in
      let column = column_name_at db (atom_at q c.atom).table c.col in
      let text : table ++ (46 ∷ (column ++ rest)) ≡ qualified_name db q c ++ rest = sym (append_assoc (table ++ codes ".") column rest ∙ append_assoc table (codes ".") (column ++ rest)) in
      subst (λ z. Spelled z (col_tokens (written_column c) ++ ls)) text (name_then table _ _ named.0 refl (dot_then _ _ (name_then column rest ls named.1 stops more)))

  spaced : (op : Op) (rest : List ℕ) → 32 ∷ (symbol_bytes (op_symbol op) ++ (32 ∷ rest)) ≡ spaced_operator op ++ rest
  spaced ops.Eq rest = refl
  spaced ops.Ne rest = refl
  spaced ops.Lt rest = refl
  spaced ops.Le rest = refl
  spaced ops.Gt rest = refl
  spaced ops.Ge rest = refl

  -- a column, an operator between spaces, and what comes behind it
  compared_then : (c : ColRef) (op : Op) (rest : List ℕ) (ls : List Lexeme) → IsNamed c → Spelled rest ls → Spelled (qualified_name db q c ++ (spaced_operator op ++ rest)) (col_tokens (written_column c) ++ (Mark (op_symbol op) ∷ ls))
  compared_then c op rest ls named more =
      subst (λ z. Spelled (qualified_name db q c ++ z) (col_tokens (written_column c) ++ (Mark (op_symbol op) ∷ ls))) (spaced op rest)
      (column_then c _ _ named refl (blank_then _ _ (operator_then op rest ls more)))

  condition_then : (k : Cond) (rest : List ℕ) (ls : List Lexeme) → IsSayable k → Stops rest → Spelled rest ls → Spelled (condition_text db q k ++ rest) (cond_tokens (written_condition k) ++ ls)
  condition_then (Join left right) rest ls h stops more =
      let text : qualified_name db q left ++ (codes " = " ++ (qualified_name db q right ++ rest)) ≡ condition_text db q (Join left right) ++ rest =
      sym (append_assoc (qualified_name db q left ++ codes " = ") (qualified_name db q right) rest ∙ append_assoc (qualified_name db q left) (codes " = ") (qualified_name db q right ++ rest)) in
      let is : col_tokens (written_column left) ++ (Mark s.Eq ∷ (col_tokens (written_column right) ++ ls)) ≡ cond_tokens (written_condition (Join left right)) ++ ls = refl in
      subst (λ z. Spelled z (cond_tokens (written_condition (Join left right)) ++ ls)) text
      (subst (λ z. Spelled (qualified_name db q left ++ (codes " = " ++ (qualified_name db q right ++ rest))) z) is
      (compared_then left ops.Eq _ _ h.0 (column_then right rest ls h.1 stops more)))
  condition_then (Test col op value) rest ls h stops more =
      let text : qualified_name db q col ++ (spaced_operator op ++ (literal_bytes value ++ rest)) ≡ condition_text db q (Test col op value) ++ rest =
      sym (append_assoc (qualified_name db q col ++ spaced_operator op) (literal_bytes value) rest ∙ append_assoc (qualified_name db q col) (spaced_operator op) (literal_bytes value ++ rest)) in
      let is : col_tokens (written_column col) ++ (Mark (op_symbol op) ∷ (literal_tokens value ++ ls)) ≡ cond_tokens (written_condition (Test col op value)) ++ ls = refl in
      subst (λ z. Spelled z (cond_tokens (written_condition (Test col op value)) ++ ls)) text
      (subst (λ z. Spelled (qualified_name db q col ++ (spaced_operator op ++ (literal_bytes value ++ rest))) z) is
      (compared_then col op _ _ h.0 (literal_then value rest ls h.1 stops more)))

  where_stops : (conds : List Cond) → Stops (where_text db q conds)
  where_stops [] = tt
  where_stops (k ∷ conds) = refl

  where_spelled : (conds : List Cond) → AllByRecursion IsSayable conds → Spelled (where_text db q conds) (filtered_tokens cond_tokens (map written_condition conds))
  where_spelled [] h = nothing_more
  where_spelled (k ∷ conds) h =
      let all = k ∷ conds in
      let items = ands_then (condition_text db q) (λ c. cond_tokens (written_condition c)) IsSayable condition_then all [] [] h tt nothing_more in
      let text = append-nil (join_by (condition_text db q) (codes " and ") all) in
      let is = append-nil (anded_tokens (λ c. cond_tokens (written_condition c)) all) ∙ between_map (Word (codes "and")) cond_tokens written_condition all in
      blank_then _ _ (literal_word (codes "where") (join_by (condition_text db q) (codes " and ") all) (anded_tokens cond_tokens (map written_condition all)) refl (lit≤ tt)
      (subst (λ z. Spelled z (anded_tokens cond_tokens (map written_condition all))) text (subst (λ z. Spelled (join_by (condition_text db q) (codes " and ") all ++ []) z) is items)))

  from_then : (rest : List ℕ) (ls : List Lexeme) → AllByRecursion IsName written_tables → Stops rest → Spelled rest ls → Spelled (from_text db q.atoms ++ rest) (Word (codes "from") ∷ (listed_tokens name_tokens written_tables ++ ls))
  from_then rest ls named stops more =
      let names = list_then (λ name. name) name_tokens IsName name_then written_tables rest ls named stops more in
      let is = join_names (λ (atom : Atom). name_at db atom.table) (codes ", ") q.atoms in
      blank_then _ _ (literal_word (codes "from") _ _ refl (lit≤ tt) (subst (λ z. Spelled (z ++ rest) (listed_tokens name_tokens written_tables ++ ls)) (sym is) names))

  asked_then : (columns : List ColRef) (rest : List ℕ) (ls : List Lexeme) → AllByRecursion IsNamed columns → Stops rest → Spelled rest ls → Spelled (asked_text db q columns ++ rest) (head_tokens (map written_column columns) ++ ls)
  asked_then [] rest ls named stops more = word_then (codes "exists") rest ls (word_is (codes "exists") refl) (lit≤ tt) stops more
  asked_then (c ∷ cs) rest ls named stops more =
      let all = c ∷ cs in
      let items = list_then (qualified_name db q) (λ d. col_tokens (written_column d)) IsNamed column_then all rest ls named stops more in
      let is = ap (λ z. z ++ ls) (between_map (Mark s.Comma) col_tokens written_column all) in
      literal_word (codes "select") (join_by (qualified_name db q) (codes ", ") all ++ rest) (listed_tokens col_tokens (map written_column all) ++ ls) refl (lit≤ tt)
      (subst (λ z. Spelled (join_by (qualified_name db q) (codes ", ") all ++ rest) z) is items)

  -- the select as it is written
  abbrev pub written_select : 1 ≤ length written_tables → length (map written_condition q.conds) ≤ most_items → Select
  written_select some few = record { columns = map written_column q.answer; tables = written_tables; conds = map written_condition q.conds; some_table = some; few = few }

  query_spelled : (some : 1 ≤ length written_tables) (few : length (map written_condition q.conds) ≤ most_items) → AllByRecursion IsName written_tables → AllByRecursion IsNamed q.answer → AllByRecursion IsSayable q.conds
      → Spelled (asked_text db q q.answer ++ (from_text db q.atoms ++ where_text db q q.conds)) (select_tokens (written_select some few))
  query_spelled some few names columns conds =
      asked_then q.answer _ _ columns refl (from_then (where_text db q q.conds) _ names (where_stops q.conds) (where_spelled q.conds conds))

  -- the text without its groups
  pub prove_parts : (row asked from wheres : List ℕ) → codes "prove row " ++ row ++ codes " for " ++ asked ++ from ++ wheres ≡ codes "prove row " ++ (row ++ (codes " for " ++ (asked ++ (from ++ wheres))))
  prove_parts row asked from wheres = simp append_assoc refl

  pub prove_spelled : (some : 1 ≤ length written_tables) (few : length (map written_condition q.conds) ≤ most_items) (row : List Value) → IsValidRow row → AllByRecursion IsName written_tables → AllByRecursion IsNamed q.answer → AllByRecursion IsSayable q.conds
      → Spelled (certificate_prove db q row) (statement_tokens (statements.Asking (verbs.Prove row) (written_select some few)))
  prove_spelled some few row valid names columns conds =
      let select = written_select some few in
      let query = query_spelled some few names columns conds in
      let rest = asked_text db q q.answer ++ (from_text db q.atoms ++ where_text db q q.conds) in
      let for = blank_then _ _ (literal_word (codes "for") rest (select_tokens select) refl (lit≤ tt) query) in
      let values = row_then row (codes " for " ++ rest) (Word (codes "for") ∷ select_tokens select) valid for in
      let is : Word (codes "prove") ∷ Word (codes "row") ∷ (row_tokens row ++ (Word (codes "for") ∷ select_tokens select)) ≡ statement_tokens (statements.Asking (verbs.Prove row) select) =
      ap (λ z. Word (codes "prove") ∷ Word (codes "row") ∷ z) (sym (append_assoc (row_tokens row) (Word (codes "for") ∷ []) (select_tokens select))) in
      subst (λ z. Spelled z (statement_tokens (statements.Asking (verbs.Prove row) select))) (sym (prove_parts (row_bytes row) (asked_text db q q.answer) (from_text db q.atoms) (where_text db q q.conds)))
      (subst (λ z. Spelled (codes "prove row " ++ (row_bytes row ++ (codes " for " ++ rest))) z) is
      (literal_word (codes "prove") _ _ refl (lit≤ tt) (literal_word (codes "row") _ _ refl (lit≤ tt) values)))
