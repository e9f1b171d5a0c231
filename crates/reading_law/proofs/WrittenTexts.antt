-- What is written has no `;` outside its quotes.
use Rattle.std.proofs.Common.{inl, inr, ◌<◌, ℕ, Bool, true, false, List, [], ◌∷◌, ◌++◌, codes, length, get_or, refl, sym, ap, subst, arith}
use Rattle.std.proofs.lemmas.List.Elements.{recursion_from_All}
use Rattle.std.specs.List.{AllByRecursion, flat_map, join_by}
use Rattle.cqa_value.specs.declared.value.Kind.{Kind}
use Rattle.cqa_value.specs.declared.value.Kind.TheVariants as column_kinds
use Rattle.cqa_value.specs.declared.value.Value.{Value}
use Rattle.cqa_value.specs.declared.value.Value.TheVariants.{Int, Text}
use Rattle.cqa_value.specs.Literals.{literal_bytes, row_bytes}
use Rattle.cqa_value.specs.Valid.{IsValidValue}
use Rattle.cqa_value.proofs.Integers.{fits_to}
use Rattle.cqa_model.specs.declared.schema.Column.{Column}
use Rattle.cqa_model.specs.declared.schema.Schema.{Schema}
use Rattle.cqa_model.specs.Shape.{column_at}
use Rattle.schema_text.specs.Text.{kind_word, column_text, columns_text, key_text, schema_bytes}
use Rattle.cqa_model.specs.Valid.{IsName, HasNames}
use Rattle.script_lex.specs.declared.kinds.TokenKind.TheVariants as kinds
use Rattle.script_lex.specs.declared.modes.Mode.TheVariants.{Outside}
use Rattle.script_lex.specs.Bytes.{is_word_byte, is_digit}
use Rattle.script_lex.specs.Scripts.{BeginsOutright, IsText, IsCopy}
use Rattle.script_lex.specs.Tokens.{IsToken}
use Rattle.csv_rows.specs.Dumps.{create_words}
use Rattle.reading_law.proofs.Numbers.{is_written, IsWritten}
use Rattle.reading_law.proofs.Outside.{is_plain, Quiet, word_plain, letter_plain, digit_plain, mono, quiet_plain, quiet_both, quiet_words, quiet_minus, quiet_text}
use Rattle.reading_law.proofs.WrittenStatements.{columns_named, column_bytes, column_named_at}
use Rattle.reading_law.proofs.Tokens.{word_is}

quiet_word : (w : List ℕ) → IsToken kinds.Word w → Quiet w
quiet_word [] h = absurd h
quiet_word (b ∷ bs) h = quiet_plain (b ∷ bs) (letter_plain b h.0, mono is_word_byte is_plain word_plain bs h.1)

pub quiet_name : (w : List ℕ) → IsName w → Quiet w
quiet_name w h = quiet_word w (word_is w h.word)

quiet_each : {A : Type 0} (f : A → List ℕ) (xs : List A) → AllByRecursion (λ x. Quiet (f x)) xs → Quiet (flat_map f xs)
quiet_each f [] a = refl
quiet_each f (x ∷ xs) a = quiet_both (f x) (flat_map f xs) a.0 (quiet_each f xs a.1)

behind_each : {A : Type 0} (f : A → List ℕ) (sep : List ℕ) → Quiet sep → (xs : List A) → AllByRecursion (λ x. Quiet (f x)) xs → AllByRecursion (λ x. Quiet (sep ++ f x)) xs
behind_each f sep q [] a = tt
behind_each f sep q (x ∷ xs) a = (quiet_both sep (f x) q a.0, behind_each f sep q xs a.1)

pub quiet_joined : {A : Type 0} (f : A → List ℕ) (sep : List ℕ) → Quiet sep → (xs : List A) → AllByRecursion (λ x. Quiet (f x)) xs → Quiet (join_by f sep xs)
quiet_joined f sep q [] a = refl
quiet_joined f sep q (x ∷ xs) a = quiet_both (f x) (flat_map (λ y. sep ++ f y) xs) a.0 (quiet_each (λ y. sep ++ f y) xs (behind_each f sep q xs a.1))

pub quiet_list : {A : Type 0} (f : A → List ℕ) (xs : List A) → AllByRecursion (λ x. Quiet (f x)) xs → Quiet (join_by f (codes ", ") xs)
quiet_list f xs a = quiet_joined f (codes ", ") (quiet_words (codes ", ") refl) xs a

quiet_kind : (k : Kind) → Quiet (kind_word k)
quiet_kind column_kinds.Int = quiet_words (codes "int") refl
quiet_kind column_kinds.Text = quiet_words (codes "text") refl

pub each_is : {A : Type 0} (P Q : A → Type 0) → ((x : A) → P x → Q x) → (xs : List A) → AllByRecursion P xs → AllByRecursion Q xs
each_is P Q f [] a = tt
each_is P Q f (x ∷ xs) a = (f x a.0, each_is P Q f xs a.1)

quiet_column : (c : Column) → IsName c.name → Quiet (column_bytes c)
quiet_column c h = quiet_both (column_text c) (codes ", ") (quiet_both (c.name ++ codes " ") (kind_word c.kind) (quiet_both c.name (codes " ") (quiet_name c.name h) (quiet_words (codes " ") refl)) (quiet_kind c.kind)) (quiet_words (codes ", ") refl)

quiet_places : (columns : List Column) (key : List ℕ) → AllByRecursion (λ p. p < length columns) key → AllByRecursion (λ (d : Column). IsName d.name) columns → AllByRecursion (λ p. Quiet (column_at columns p).name) key
quiet_places columns key l a = each_is (λ p. p < length columns) (λ p. Quiet (column_at columns p).name) (λ p m. quiet_name (column_at columns p).name (column_named_at columns p m a)) key l

pub places_below : (schema : Schema) → AllByRecursion (λ p. p < length schema.columns) schema.key
places_below schema = recursion_from_All (λ p. p < length schema.columns) schema.key schema.kept.key_in_range

quiet_schema : (schema : Schema) → HasNames schema → Quiet (schema_bytes schema)
quiet_schema schema h =
    let named = columns_named schema h in
    let columns : Quiet (columns_text schema) = quiet_both (schema.name ++ codes " (") (flat_map column_bytes schema.columns) (quiet_both schema.name (codes " (") (quiet_name schema.name h.name) (quiet_words (codes " (") refl))
    (quiet_each column_bytes schema.columns (each_is (λ (d : Column). IsName d.name) (λ d. Quiet (column_bytes d)) quiet_column schema.columns named)) in
    let names = join_by (λ place. (column_at schema.columns place).name) (codes ", ") schema.key in
    let key : Quiet (key_text schema) = quiet_both (codes "primary key (" ++ names) (codes ")")
    (quiet_both (codes "primary key (") names (quiet_words (codes "primary key (") refl) (quiet_list (λ place. (column_at schema.columns place).name) schema.key (quiet_places schema.columns schema.key (places_below schema) named))) (quiet_words (codes ")") refl) in
    quiet_both (columns_text schema ++ key_text schema) (codes ")") (quiet_both (columns_text schema) (key_text schema) columns key) (quiet_words (codes ")") refl)

quiet_create_words : (b : Bool) → Quiet (create_words b)
quiet_create_words true = quiet_words (codes "create strict table ") refl
quiet_create_words false = quiet_words (codes "create table ") refl

create_outright : (b : Bool) (rest : List ℕ) → BeginsOutright (create_words b ++ rest)
create_outright true rest = (refl, λ e f. omega (arith, e))
create_outright false rest = (refl, λ e f. omega (arith, e))

pub create_is_text : (schema : Schema) → HasNames schema → IsText (create_words schema.strict ++ schema_bytes schema)
create_is_text schema h = record {
  outright = create_outright schema.strict (schema_bytes schema);
  ends = Outside;
  leads = quiet_both (create_words schema.strict) (schema_bytes schema) (quiet_create_words schema.strict) (quiet_schema schema h);
  closed = refl;
}

create_no_copy : (b : Bool) (rest : List ℕ) → IsCopy (create_words b ++ rest) → ⊥
create_no_copy true rest h = omega (arith, ap (λ l. get_or l 1 0) h.copy)
create_no_copy false rest h = omega (arith, ap (λ l. get_or l 1 0) h.copy)

pub create_copies_not : (schema : Schema) → IsCopy (create_words schema.strict ++ schema_bytes schema) → ⊥
create_copies_not schema h = create_no_copy schema.strict (schema_bytes schema) h

quiet_number : (bytes : List ℕ) → IsWritten bytes → Quiet bytes
quiet_number bytes w =
    let plain = mono is_digit is_plain digit_plain (w.digit ∷ w.digits) w.each in
    elim w.is [
      | inl e ↦ subst Quiet (sym e) (quiet_plain (w.digit ∷ w.digits) plain)
      | inr e ↦ subst Quiet (sym e) (quiet_minus w.digit w.digits plain)
    ]

pub quiet_literal : (v : Value) → IsValidValue v → Quiet (literal_bytes v)
quiet_literal (Int n) valid = quiet_number (literal_bytes (Int n)) (is_written n (fits_to n valid))
quiet_literal (Text t) valid = quiet_text t

pub quiet_row : (row : List Value) → AllByRecursion IsValidValue row → Quiet (row_bytes row)
quiet_row row valid =
    quiet_both (codes "(" ++ join_by literal_bytes (codes ", ") row) (codes ")")
    (quiet_both (codes "(") (join_by literal_bytes (codes ", ") row) (quiet_words (codes "(") refl) (quiet_list literal_bytes row (each_is IsValidValue (λ v. Quiet (literal_bytes v)) quiet_literal row valid))) (quiet_words (codes ")") refl)
