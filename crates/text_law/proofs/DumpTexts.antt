-- The texts of the statements of a dump have no `;` outside their quotes, and they are short.
use Rattle.std.proofs.Common.{◌≡◌, ◌+◌, ◌*◌, ◌<◌, ◌≤◌, ℕ, Bool, true, false, List, [], ◌∷◌, ◌++◌, codes, length, get_or, refl, sym, ap, ◌∙◌, subst, arith, append_assoc, length-append}
use Rattle.std.proofs.lemmas.Bool.{eqb-true}
use Rattle.std.proofs.lemmas.List.Elements.{All-contains}
use Rattle.std.proofs.lemmas.Map.Steps.{length-le_from_distinct_below}
use Rattle.std.proofs.lemmas.Map.Views.{Contains-from_any}
use Rattle.std.specs.List.{AllByRecursion, flat_map, join_by}
use Rattle.plan_reasons.proofs.Keys.{are-distinct}
use Rattle.cqa_value.specs.declared.value.Kind.{Kind}
use Rattle.cqa_value.specs.declared.value.Kind.TheVariants as column_kinds
use Rattle.cqa_value.specs.declared.value.Value.{Value}
use Rattle.cqa_value.specs.declared.value.Value.TheVariants.{Int, Text}
use Rattle.cqa_value.specs.Literals.{doubled, literal_bytes, row_bytes}
use Rattle.cqa_value.specs.Valid.{IsValidValue}
use Rattle.cqa_value.proofs.Integers.{fits_to}
use Rattle.cqa_model.specs.declared.schema.Column.{Column}
use Rattle.cqa_model.specs.declared.schema.Schema.{Schema}
use Rattle.cqa_model.specs.Shape.{column_at}
use Rattle.schema_text.specs.Text.{kind_word, column_text, columns_text, key_text, schema_bytes}
use Rattle.cqa_model.specs.Valid.{IsName, HasNames}
use Rattle.script_lex.specs.declared.modes.Mode.TheVariants.{Outside}
use Rattle.script_lex.specs.Scripts.{BeginsOutright, IsText, IsCopy}
use Rattle.csv_rows.specs.Dumps.{create_words}
use Rattle.reading_law.proofs.Numbers.{few_digits}
use Rattle.reading_law.proofs.Outside.{quiet_both, quiet_words}
use Rattle.reading_law.proofs.Quotes.{doubled_length}
use Rattle.reading_law.proofs.WrittenStatements.{columns_named, column_bytes, column_named_at}
use Rattle.reading_law.proofs.WrittenTexts.{quiet_name, quiet_row, each_is, places_below}

pub copy_is_text : (name : List ℕ) → IsName name → IsText (codes "copy " ++ name)
copy_is_text name h = record { outright = (refl, λ e f. omega (arith, e)); ends = Outside; leads = quiet_both (codes "copy ") name (quiet_words (codes "copy ") refl) (quiet_name name h); closed = refl }

pub copy_copies : (name : List ℕ) → IsCopy (codes "copy " ++ name)
copy_copies name = record { more = 32 ∷ name; copy = refl; word = refl }

-- the text of the statement that inserts a row
abbrev pub insert_bytes : List ℕ → List Value → List ℕ
insert_bytes name row = codes "insert into " ++ name ++ codes " values " ++ row_bytes row

insert_regroup : (name row : List ℕ) → codes "insert into " ++ name ++ codes " values " ++ row ≡ codes "insert into " ++ (name ++ (codes " values " ++ row))
insert_regroup name row = append_assoc (codes "insert into " ++ name) (codes " values ") row ∙ append_assoc (codes "insert into ") name (codes " values " ++ row)

pub insert_is_text : (name : List ℕ) (row : List Value) → IsName name → AllByRecursion IsValidValue row → IsText (insert_bytes name row)
insert_is_text name row h valid = record {
  outright = subst BeginsOutright (sym (insert_regroup name (row_bytes row))) (refl, λ e f. omega (arith, e));
  ends = Outside;
  leads = quiet_both (codes "insert into " ++ name ++ codes " values ") (row_bytes row) (quiet_both (codes "insert into " ++ name) (codes " values ") (quiet_both (codes "insert into ") name (quiet_words (codes "insert into ") refl) (quiet_name name h)) (quiet_words (codes " values ") refl)) (quiet_row row valid);
  closed = refl;
}

pub insert_copies_not : (name : List ℕ) (row : List Value) → IsCopy (insert_bytes name row) → ⊥
insert_copies_not name row h = omega (arith, ap (λ l. get_or l 0 0) (sym (insert_regroup name (row_bytes row)) ∙ h.copy))

-- ---- they are short

long_each : {A : Type 0} (f : A → List ℕ) (m : ℕ) (xs : List A) → AllByRecursion (λ x. length (f x) ≤ m) xs → length (flat_map f xs) ≤ m * length xs
long_each f m [] a = omega arith
long_each f m (x ∷ xs) a = omega (arith, length-append (f x) (flat_map f xs), a.0, long_each f m xs a.1)

long_list : {A : Type 0} (f : A → List ℕ) (m : ℕ) (xs : List A) → AllByRecursion (λ x. length (f x) ≤ m) xs → length (join_by f (codes ", ") xs) ≤ (m + 2) * length xs
long_list f m [] a = omega arith
long_list f m (x ∷ xs) a =
    let more = long_each (λ y. codes ", " ++ f y) (m + 2) xs (each_is (λ y. length (f y) ≤ m) (λ y. length (codes ", " ++ f y) ≤ m + 2) (λ y l. omega (arith, l)) xs a.1) in
    omega (arith, length-append (f x) (flat_map (λ y. codes ", " ++ f y) xs), a.0, more)

kind_short : (k : Kind) → length (kind_word k) ≤ 4
kind_short column_kinds.Int = omega arith
kind_short column_kinds.Text = omega arith

column_short : (c : Column) → IsName c.name → length (column_bytes c) ≤ 71
column_short c h =
    omega (arith, length-append (column_text c) (codes ", "), length-append (c.name ++ codes " ") (kind_word c.kind), length-append c.name (codes " "), kind_short c.kind, h.short)

key_short : (schema : Schema) → length schema.key ≤ length schema.columns
key_short schema = length-le_from_distinct_below schema.key (length schema.columns) (are-distinct schema.key schema.kept.key_apart) (λ p h. All-contains (λ c. c < length schema.columns) schema.key p schema.kept.key_in_range (Contains-from_any eqb-true p schema.key h))

words_short : (b : Bool) → length (create_words b) ≤ 20
words_short true = omega arith
words_short false = omega arith

pub create_short : (schema : Schema) → HasNames schema → length (create_words schema.strict ++ schema_bytes schema) ≤ 1_048_576
create_short schema h =
    let named = columns_named schema h in
    let names = join_by (λ place. (column_at schema.columns place).name) (codes ", ") schema.key in
    let columns = flat_map column_bytes schema.columns in
    let a = long_each column_bytes 71 schema.columns (each_is (λ (d : Column). IsName d.name) (λ d. length (column_bytes d) ≤ 71) column_short schema.columns named) in
    let b = long_list (λ place. (column_at schema.columns place).name) 64 schema.key (each_is (λ p. p < length schema.columns) (λ p. length (column_at schema.columns p).name ≤ 64) (λ p l. (column_named_at schema.columns p l named).short) schema.key (places_below schema)) in
    let width = schema.kept.size.1 in
    omega (
      arith,
      a,
      b,
      width,
      key_short schema,
      h.name.short,
      words_short schema.strict,
      length-append (create_words schema.strict) (schema_bytes schema),
      length-append (columns_text schema ++ key_text schema) (codes ")"),
      length-append (columns_text schema) (key_text schema),
      length-append (schema.name ++ codes " (") columns,
      length-append schema.name (codes " ("),
      length-append (codes "primary key (" ++ names) (codes ")"),
    )

pub copy_short : (name : List ℕ) → IsName name → length (codes "copy " ++ name) ≤ 1_048_576
copy_short name h = omega (arith, h.short)

literal_short : (v : Value) → IsValidValue v → length (literal_bytes v) ≤ 2050
literal_short (Int n) valid = omega (arith, few_digits n (fits_to n valid))
literal_short (Text t) valid = omega (arith, length-append (doubled t) (39 ∷ []), doubled_length t, valid.short)

pub insert_short : (name : List ℕ) (row : List Value) → IsName name → AllByRecursion IsValidValue row → length row ≤ 16 → length (insert_bytes name row) ≤ 1_048_576
insert_short name row h valid few =
    let values = join_by literal_bytes (codes ", ") row in
    let a = long_list literal_bytes 2050 row (each_is IsValidValue (λ v. length (literal_bytes v) ≤ 2050) literal_short row valid) in
    omega (arith, a, few, h.short, length-append (codes "insert into " ++ name ++ codes " values ") (row_bytes row), length-append (codes "insert into " ++ name) (codes " values "), length-append (codes "(" ++ values) (codes ")"))
