-- The tokens of names, rows and schemas, and of the statement that makes a table.
use Rattle.std.proofs.Common.{◌≡◌, ◌<◌, ◌≤◌, lit≤, ℕ, zero, suc, Bool, true, false, List, [], ◌∷◌, ◌++◌, codes, Contains, length, map, refl, sym, ap, ◌∙◌, subst, arith, append_assoc}
use Rattle.std.proofs.lemmas.List.{length-map, append-nil}
use Rattle.std.proofs.lemmas.List.Elements.{All-from_recursion, recursion_from_All}
use Rattle.std.specs.List.{AllByRecursion, flat_map, join_by}
use Rattle.cqa_value.specs.declared.value.Kind.{Kind}
use Rattle.cqa_value.specs.declared.value.Kind.TheVariants as column_kinds
use Rattle.cqa_value.specs.declared.value.Value.{Value}
use Rattle.cqa_value.specs.Literals.{literal_bytes, row_bytes}
use Rattle.cqa_value.specs.Valid.{IsValidValue, IsValidRow}
use Rattle.cqa_model.specs.declared.schema.Column.{Column}
use Rattle.cqa_model.specs.declared.schema.Schema.{Schema}
use Rattle.cqa_model.specs.Shape.{column_at}
use Rattle.schema_text.specs.Text.{kind_word, column_text, schema_bytes}
use Rattle.cqa_model.proofs.Classic.{mem-head, mem-tail}
use Rattle.cqa_model.specs.Valid.{IsName, HasNames, is_word}
use Rattle.script_lex.specs.declared.kinds.Symbol.TheVariants as s
use Rattle.spj_syntax.specs.declared.tree.RawSchema.{RawSchema}
use Rattle.spj_syntax.specs.declared.tree.Statement.TheVariants as statements
use Rattle.spj_syntax.specs.Lexemes.{Lexeme, Word, Mark}
use Rattle.spj_syntax.specs.Written.{name_tokens, literal_tokens, column_tokens, listed_tokens, each_after, row_tokens, strict_tokens, schema_tokens, statement_tokens}
use Rattle.csv_rows.specs.Dumps.{create_words}
use Rattle.reading_law.proofs.WrittenPieces.{Stops}
use Rattle.reading_law.proofs.Tokens.{Spelled, nothing_more, word_then, blank_then, open_then, close_then, comma_then, literal_then, list_then, word_is}

-- a name, and what comes behind it
pub name_then : (w rest : List ℕ) (ls : List Lexeme) → IsName w → Stops rest → Spelled rest ls → Spelled (w ++ rest) (name_tokens w ++ ls)
name_then w rest ls h stops more = word_then w rest ls (word_is w h.word) h.short stops more

-- a word of a statement, a space, and what comes behind it
pub literal_word : (w rest : List ℕ) (ls : List Lexeme) → is_word w ≡ true → length w ≤ 64 → Spelled rest ls → Spelled (w ++ (32 ∷ rest)) (Word w ∷ ls)
literal_word w rest ls h short more = word_then w (32 ∷ rest) ls (word_is w h) short refl (blank_then rest ls more)

pub last_word : (name : List ℕ) → IsName name → Spelled name (Word name ∷ [])
last_word name h = subst (λ z. Spelled z (Word name ∷ [])) (append-nil name) (word_then name [] [] (word_is name h.word) h.short tt nothing_more)

-- a row between its parentheses
pub row_then : (row : List Value) (rest : List ℕ) (ls : List Lexeme) → IsValidRow row → Spelled rest ls → Spelled (row_bytes row ++ rest) (row_tokens row ++ ls)
row_then row rest ls valid more =
    let h = list_then literal_bytes literal_tokens IsValidValue literal_then row (41 ∷ rest) (Mark s.Close ∷ ls) (recursion_from_All IsValidValue row valid) refl (close_then rest ls more) in
    subst (λ z. Spelled (row_bytes row ++ rest) (Mark s.Open ∷ z)) (sym (append_assoc (listed_tokens literal_tokens row) (Mark s.Close ∷ []) ls))
    (subst (λ z. Spelled (40 ∷ z) (Mark s.Open ∷ (listed_tokens literal_tokens row ++ (Mark s.Close ∷ ls)))) (sym (append_assoc (join_by literal_bytes (codes ", ") row) (41 ∷ []) rest))
    (open_then _ _ h))

kind_then : (k : Kind) (rest : List ℕ) (ls : List Lexeme) → Stops rest → Spelled rest ls → Spelled (kind_word k ++ rest) (Word (kind_word k) ∷ ls)
kind_then column_kinds.Int rest ls stops more = word_then (codes "int") rest ls (word_is (codes "int") refl) (lit≤ tt) stops more
kind_then column_kinds.Text rest ls stops more = word_then (codes "text") rest ls (word_is (codes "text") refl) (lit≤ tt) stops more

-- a column, a comma and a space
column_then : (c : Column) (rest : List ℕ) (ls : List Lexeme) → IsName c.name → Spelled rest ls → Spelled ((column_text c ++ codes ", ") ++ rest) (column_tokens c ++ (Mark s.Comma ∷ ls))
column_then c rest ls h more =
    let text : c.name ++ (32 ∷ (kind_word c.kind ++ (44 ∷ 32 ∷ rest))) ≡ (column_text c ++ codes ", ") ++ rest =
    sym (append_assoc (c.name ++ codes " " ++ kind_word c.kind) (codes ", ") rest ∙ append_assoc (c.name ++ codes " ") (kind_word c.kind) (44 ∷ 32 ∷ rest) ∙ append_assoc c.name (codes " ") (kind_word c.kind ++ (44 ∷ 32 ∷ rest))) in
    subst (λ z. Spelled z (column_tokens c ++ (Mark s.Comma ∷ ls))) text
    (name_then c.name (32 ∷ (kind_word c.kind ++ (44 ∷ 32 ∷ rest))) (Word (kind_word c.kind) ∷ Mark s.Comma ∷ ls) h refl
    (blank_then _ _ (kind_then c.kind (44 ∷ 32 ∷ rest) (Mark s.Comma ∷ ls) refl (comma_then _ _ (blank_then rest ls more)))))

abbrev pub column_bytes : Column → List ℕ
column_bytes column = column_text column ++ codes ", "

columns_then : (c : Column) (cs : List Column) (rest : List ℕ) (ls : List Lexeme) → AllByRecursion (λ (d : Column). IsName d.name) (c ∷ cs) → Spelled rest ls
    → Spelled (flat_map column_bytes (c ∷ cs) ++ rest) (column_tokens c ++ (each_after (Mark s.Comma) column_tokens cs ++ (Mark s.Comma ∷ ls)))
columns_then c [] rest ls a more = subst (λ z. Spelled z (column_tokens c ++ (Mark s.Comma ∷ ls))) (ap (λ z. z ++ rest) (sym (append-nil (column_bytes c)))) (column_then c rest ls a.0 more)
columns_then c (d ∷ ds) rest ls a more =
    subst (λ z. Spelled z (column_tokens c ++ (each_after (Mark s.Comma) column_tokens (d ∷ ds) ++ (Mark s.Comma ∷ ls)))) (sym (append_assoc (column_bytes c) (flat_map column_bytes (d ∷ ds)) rest))
    (column_then c (flat_map column_bytes (d ∷ ds) ++ rest) (column_tokens d ++ (each_after (Mark s.Comma) column_tokens ds ++ (Mark s.Comma ∷ ls))) a.0 (columns_then d ds rest ls a.1 more))

-- the names of a key's columns
abbrev pub key_names : Schema → List (List ℕ)
key_names schema = map (λ place. (column_at schema.columns place).name) schema.key

-- a list of what is written of each, as a list of names
more_names : {A : Type 0} (f : A → List ℕ) (sep : List ℕ) (xs : List A) → flat_map (λ x. sep ++ f x) xs ≡ flat_map (λ name. sep ++ name) (map f xs)
more_names f sep [] = refl
more_names f sep (x ∷ xs) = ap (λ z. (sep ++ f x) ++ z) (more_names f sep xs)

pub join_names : {A : Type 0} (f : A → List ℕ) (sep : List ℕ) (xs : List A) → join_by f sep xs ≡ join_by (λ name. name) sep (map f xs)
join_names f sep [] = refl
join_names f sep (x ∷ xs) = ap (λ z. f x ++ z) (more_names f sep xs)

pub column_named_at : (columns : List Column) (p : ℕ) → p < length columns → AllByRecursion (λ (d : Column). IsName d.name) columns → IsName (column_at columns p).name
column_named_at [] p l a = absurd (omega arith)
column_named_at (c ∷ cs) zero l a = a.0
column_named_at (c ∷ cs) (suc p) l a = column_named_at cs p (omega arith) a.1

names_valid : (columns : List Column) (key : List ℕ) → AllByRecursion (λ p. p < length columns) key → AllByRecursion (λ (d : Column). IsName d.name) columns → AllByRecursion IsName (map (λ place. (column_at columns place).name) key)
names_valid columns [] l a = tt
names_valid columns (p ∷ key) l a = (column_named_at columns p l.0 a, names_valid columns key l.1 a)

pub columns_named : (schema : Schema) → HasNames schema → AllByRecursion (λ (d : Column). IsName d.name) schema.columns
columns_named schema h = each schema.columns (λ c m. h.columns c m)
  where
    each : (columns : List Column) → ((c : Column) → Contains columns c → IsName c.name) → AllByRecursion (λ (d : Column). IsName d.name) columns
    each [] f = tt
    each (c ∷ cs) f = (f c (mem-head c cs), each cs (λ d m. f d (mem-tail d c cs m)))

pub key_named : (schema : Schema) → HasNames schema → AllByRecursion IsName (key_names schema)
key_named schema h = names_valid schema.columns schema.key (recursion_from_All (λ p. p < length schema.columns) schema.key schema.kept.key_in_range) (columns_named schema h)

-- the schema as it is written
abbrev pub raw_of : (schema : Schema) → HasNames schema → RawSchema
raw_of schema h = record {
  name = schema.name;
  columns = schema.columns;
  key = key_names schema;
  strict = schema.strict;
  some_column = schema.kept.size.0;
  some_key = omega (arith, length-map schema.key (λ place. (column_at schema.columns place).name), schema.kept.some_key);
  named = record {
    of_table = h.name;
    of_columns = All-from_recursion (λ (d : Column). IsName d.name) schema.columns (columns_named schema h);
    of_key = All-from_recursion IsName (key_names schema) (key_named schema h);
  };
}

pub key_then : (schema : Schema) (rest : List ℕ) (ls : List Lexeme) → HasNames schema → Stops rest → Spelled rest ls
    → Spelled (codes "primary key (" ++ (join_by (λ place. (column_at schema.columns place).name) (codes ", ") schema.key ++ rest)) (Word (codes "primary") ∷ Word (codes "key") ∷ Mark s.Open ∷ (listed_tokens name_tokens (key_names schema) ++ ls))
key_then schema rest ls h stops more =
    let names = list_then (λ name. name) name_tokens IsName name_then (key_names schema) rest ls (key_named schema h) stops more in
    let joined = subst (λ z. Spelled (z ++ rest) (listed_tokens name_tokens (key_names schema) ++ ls)) (sym (join_names (λ place. (column_at schema.columns place).name) (codes ", ") schema.key)) names in
    literal_word (codes "primary") _ _ refl (lit≤ tt) (literal_word (codes "key") _ _ refl (lit≤ tt) (open_then _ _ joined))

parts : (name columns key : List ℕ) → ((name ++ codes " (" ++ columns) ++ (codes "primary key (" ++ key ++ codes ")")) ++ codes ")" ≡ name ++ (32 ∷ 40 ∷ (columns ++ (codes "primary key (" ++ (key ++ (41 ∷ 41 ∷ [])))))
parts name columns key = simp append_assoc refl

schema_parts : (schema : Schema)
    → schema_bytes schema ≡ schema.name ++ (32 ∷ 40 ∷ (flat_map column_bytes schema.columns ++ (codes "primary key (" ++ (join_by (λ place. (column_at schema.columns place).name) (codes ", ") schema.key ++ (41 ∷ 41 ∷ [])))))
schema_parts schema = parts schema.name (flat_map column_bytes schema.columns) (join_by (λ place. (column_at schema.columns place).name) (codes ", ") schema.key)

schema_then : (schema : Schema) (columns : List Column) → columns ≡ schema.columns → (h : HasNames schema)
    → Spelled (schema.name ++ (32 ∷ 40 ∷ (flat_map column_bytes columns ++ (codes "primary key (" ++ (join_by (λ place. (column_at schema.columns place).name) (codes ", ") schema.key ++ (41 ∷ 41 ∷ []))))))
    (name_tokens schema.name ++ (Mark s.Open ∷ (listed_tokens column_tokens columns ++ (Mark s.Comma ∷ Word (codes "primary") ∷ Word (codes "key") ∷ Mark s.Open ∷ (listed_tokens name_tokens (key_names schema) ++ (Mark s.Close ∷ Mark s.Close ∷ []))))))
schema_then schema [] e h = absurd (omega (arith, ap length e, schema.kept.size.0))
schema_then schema (c ∷ cs) e h =
    let last : Spelled (41 ∷ 41 ∷ []) (Mark s.Close ∷ Mark s.Close ∷ []) = close_then _ _ (close_then [] [] nothing_more) in
    let key = key_then schema (41 ∷ 41 ∷ []) (Mark s.Close ∷ Mark s.Close ∷ []) h refl last in
    let columns = columns_then c cs _ _ (subst (AllByRecursion (λ (d : Column). IsName d.name)) (sym e) (columns_named schema h)) key in
    name_then schema.name _ _ h.name refl (blank_then _ _ (open_then _ _ columns))

strict_then : (strict : Bool) (rest : List ℕ) (ls : List Lexeme) → Spelled rest ls → Spelled (create_words strict ++ rest) (Word (codes "create") ∷ (strict_tokens strict ++ (Word (codes "table") ∷ ls)))
strict_then true rest ls more = literal_word (codes "create") _ _ refl (lit≤ tt) (literal_word (codes "strict") _ _ refl (lit≤ tt) (literal_word (codes "table") rest ls refl (lit≤ tt) more))
strict_then false rest ls more = literal_word (codes "create") _ _ refl (lit≤ tt) (literal_word (codes "table") rest ls refl (lit≤ tt) more)

pub create_spelled : (schema : Schema) (h : HasNames schema) → Spelled (create_words schema.strict ++ schema_bytes schema) (statement_tokens (statements.Create (raw_of schema h)))
create_spelled schema h = strict_then schema.strict (schema_bytes schema) (schema_tokens (raw_of schema h)) (subst (λ z. Spelled z (schema_tokens (raw_of schema h))) (sym (schema_parts schema)) (schema_then schema schema.columns refl h))
