-- The grammar allows what is written.
use Rattle.std.proofs.Common.{◌≡◌, ◌≢◌, inl, inr, ◌<◌, not, nat_eq, ℕ, Bool, true, false, List, [], ◌∷◌, ◌++◌, codes, length, refl, sym, ap, subst, arith, append_assoc}
use Rattle.std.proofs.lemmas.Bool.Decides.{Decides-eqb}
use Rattle.std.proofs.lemmas.Slice.Eq.{slice_eq-Decides}
use Rattle.std.specs.Cmp.Lexicographic.{pointwise}
use Rattle.std.specs.List.{AllByRecursion}
use Rattle.cqa_value.specs.declared.value.Kind.{Kind}
use Rattle.cqa_value.specs.declared.value.Kind.TheVariants as column_kinds
use Rattle.cqa_value.specs.declared.value.Value.{Value}
use Rattle.cqa_value.specs.declared.value.Value.TheVariants as values
use Rattle.cqa_model.specs.declared.schema.Column.{Column}
use Rattle.schema_text.specs.Text.{kind_word}
use Rattle.cqa_model.specs.Valid.{IsName}
use Rattle.script_lex.specs.declared.kinds.Symbol.TheVariants as s
use Rattle.spj_syntax.specs.declared.tree.RawSchema.{RawSchema}
use Rattle.spj_syntax.specs.declared.tree.Statement.TheVariants as statements
use Rattle.spj_syntax.specs.Lexemes.{Lexeme, Word, Number, Quoted, Mark}
use Rattle.spj_syntax.specs.Shapes.{Terminal, word, name, int, text, mark, primary, matches, Shape, one, ◌⨾◌, many, Generates}
use Rattle.spj_syntax.specs.Grammar.{a_name, separated, listed, literal, kind, column, key, strict, row, statement}
use Rattle.spj_syntax.specs.Written.{name_tokens, literal_tokens, column_tokens, listed_tokens, between, each_after, row_tokens, key_tokens, strict_tokens, schema_tokens, statement_tokens}

pub one_is : (x : Terminal) (l : Lexeme) → matches x l ≡ true → Generates (one x) (l ∷ [])
one_is x l e = (l, e, refl)

pub then : (p q : Shape) (a b : List Lexeme) → Generates p a → Generates q b → Generates (p ⨾ q) (a ++ b)
then p q a b h k = (a, b, h, k, refl)

pub one_then : (x : Terminal) (q : Shape) (l : Lexeme) (b : List Lexeme) → matches x l ≡ true → Generates q b → Generates (one x ⨾ q) (l ∷ b)
one_then x q l b e k = then (one x) q (l ∷ []) b (one_is x l e) k

-- any number of items, each behind a token
after_token : {A : Type 0} (t : Terminal) (l : Lexeme) (p : Shape) (tokens : A → List Lexeme) (Valid : A → Type 0) → matches t l ≡ true → ((x : A) → Valid x → Generates p (tokens x)) → (xs : List A) → AllByRecursion Valid xs
    → Generates (many (one t ⨾ p)) (each_after l tokens xs)
after_token t l p tokens Valid e item [] a = ([], tt, refl)
after_token t l p tokens Valid e item (x ∷ xs) a =
    let h = after_token t l p tokens Valid e item xs a.1 in
    ((l ∷ tokens x) ∷ h.0, (one_then t p l (tokens x) e (item x a.0), h.1), ap (λ r. l ∷ (tokens x ++ r)) h.2)

-- one or more items with a token between two
pub separated_is : {A : Type 0} (t : Terminal) (l : Lexeme) (p : Shape) (tokens : A → List Lexeme) (Valid : A → Type 0) → matches t l ≡ true → ((x : A) → Valid x → Generates p (tokens x)) → (xs : List A) → 0 < length xs → AllByRecursion Valid xs
    → Generates (separated t p) (between l tokens xs)
separated_is t l p tokens Valid e item [] some a = absurd (omega arith)
separated_is t l p tokens Valid e item (x ∷ xs) some a = then p (many (one t ⨾ p)) (tokens x) (each_after l tokens xs) (item x a.0) (after_token t l p tokens Valid e item xs a.1)

after_comma : {A : Type 0} (p : Shape) (tokens : A → List Lexeme) (Valid : A → Type 0) → ((x : A) → Valid x → Generates p (tokens x)) → (xs : List A) → AllByRecursion Valid xs
    → Generates (many (one (mark s.Comma) ⨾ p)) (each_after (Mark s.Comma) tokens xs)
after_comma p tokens Valid item xs a = after_token (mark s.Comma) (Mark s.Comma) p tokens Valid refl item xs a

pub list_is : {A : Type 0} (p : Shape) (tokens : A → List Lexeme) (Valid : A → Type 0) → ((x : A) → Valid x → Generates p (tokens x)) → (xs : List A) → 0 < length xs → AllByRecursion Valid xs → Generates (listed p) (listed_tokens tokens xs)
list_is p tokens Valid item xs some a = separated_is (mark s.Comma) (Mark s.Comma) p tokens Valid refl item xs some a

not_primary : (b : Bool) (w : List ℕ) → (b ≡ true → primary ≡ w) → w ≢ primary → not b ≡ true
not_primary true w h n = absurd (n (sym (h refl)))
not_primary false w h n = refl

pub name_is : (w : List ℕ) → IsName w → matches name (Word w) ≡ true
name_is w h = not_primary (pointwise nat_eq primary w) w (slice_eq-Decides Decides-eqb primary w (pointwise nat_eq primary w) refl).0 h.free

pub name_generated : (w : List ℕ) → IsName w → Generates a_name (name_tokens w)
name_generated w h = one_is name (Word w) (name_is w h)

kind_generated : (k : Kind) → Generates kind (Word (kind_word k) ∷ [])
kind_generated column_kinds.Int = inl (one_is (word (codes "int")) (Word (codes "int")) refl)
kind_generated column_kinds.Text = inr (one_is (word (codes "text")) (Word (codes "text")) refl)

column_generated : (c : Column) → IsName c.name → Generates column (column_tokens c)
column_generated c h = one_then name kind (Word c.name) (Word (kind_word c.kind) ∷ []) (name_is c.name h) (kind_generated c.kind)

pub literal_generated : (v : Value) → Generates literal (literal_tokens v)
literal_generated (values.Int n) = inl (one_is int (Number n) refl)
literal_generated (values.Text t) = inr (one_is text (Quoted t) refl)

pub all_anything : {A : Type 0} (xs : List A) → AllByRecursion (λ x. Unit {0}) xs
all_anything [] = tt
all_anything (x ∷ xs) = (tt, all_anything xs)

pub row_generated : (r : List Value) → 0 < length r → Generates row (row_tokens r)
row_generated r some =
    one_then (mark s.Open) (listed literal ⨾ one (mark s.Close)) (Mark s.Open) (listed_tokens literal_tokens r ++ Mark s.Close ∷ []) refl
    (then (listed literal) (one (mark s.Close)) (listed_tokens literal_tokens r) (Mark s.Close ∷ []) (list_is literal literal_tokens (λ v. Unit {0}) (λ v u. literal_generated v) r some (all_anything r)) (one_is (mark s.Close) (Mark s.Close) refl))

key_generated : (names : List (List ℕ)) → 0 < length names → AllByRecursion IsName names → Generates key (key_tokens names)
key_generated names some a =
    one_then (word (codes "primary")) (one (word (codes "key")) ⨾ one (mark s.Open) ⨾ listed a_name ⨾ one (mark s.Close)) (Word (codes "primary")) _ refl
    (one_then (word (codes "key")) (one (mark s.Open) ⨾ listed a_name ⨾ one (mark s.Close)) (Word (codes "key")) _ refl
    (one_then (mark s.Open) (listed a_name ⨾ one (mark s.Close)) (Mark s.Open) _ refl
    (then (listed a_name) (one (mark s.Close)) (listed_tokens name_tokens names) (Mark s.Close ∷ []) (list_is a_name name_tokens IsName name_generated names some a) (one_is (mark s.Close) (Mark s.Close) refl))))

strict_generated : (b : Bool) → Generates strict (strict_tokens b)
strict_generated true = inl (one_is (word (codes "strict")) (Word (codes "strict")) refl)
strict_generated false = inr refl

-- the columns, the key and what closes them
abbrev body : Shape
body = column ⨾ many (one (mark s.Comma) ⨾ column) ⨾ one (mark s.Comma) ⨾ key ⨾ one (mark s.Close)

body_generated : (columns : List Column) (names : List (List ℕ)) → 0 < length columns → AllByRecursion (λ (c : Column). IsName c.name) columns → 0 < length names → AllByRecursion IsName names
    → Generates body (listed_tokens column_tokens columns ++ (Mark s.Comma ∷ Word (codes "primary") ∷ Word (codes "key") ∷ Mark s.Open ∷ (listed_tokens name_tokens names ++ (Mark s.Close ∷ Mark s.Close ∷ []))))
body_generated [] names some a some_key b = absurd (omega arith)
body_generated (c ∷ cs) names some a some_key b =
    let last : Generates (key ⨾ one (mark s.Close)) (Word (codes "primary") ∷ Word (codes "key") ∷ Mark s.Open ∷ (listed_tokens name_tokens names ++ (Mark s.Close ∷ Mark s.Close ∷ []))) =
    subst (λ l. Generates (key ⨾ one (mark s.Close)) (Word (codes "primary") ∷ Word (codes "key") ∷ Mark s.Open ∷ l)) (append_assoc (listed_tokens name_tokens names) (Mark s.Close ∷ []) (Mark s.Close ∷ []))
    (then key (one (mark s.Close)) (key_tokens names) (Mark s.Close ∷ []) (key_generated names some_key b) (one_is (mark s.Close) (Mark s.Close) refl)) in
    then column (many (one (mark s.Comma) ⨾ column) ⨾ one (mark s.Comma) ⨾ key ⨾ one (mark s.Close)) (column_tokens c) _ (column_generated c a.0)
    (then (many (one (mark s.Comma) ⨾ column)) (one (mark s.Comma) ⨾ key ⨾ one (mark s.Close)) (each_after (Mark s.Comma) column_tokens cs) _ (after_comma column column_tokens (λ (d : Column). IsName d.name) column_generated cs a.1)
    (one_then (mark s.Comma) (key ⨾ one (mark s.Close)) (Mark s.Comma) _ refl last))

abbrev opened : Shape
opened = one (mark s.Open) ⨾ body

abbrev named : Shape
named = a_name ⨾ opened

abbrev tabled : Shape
tabled = one (word (codes "table")) ⨾ named

pub create_generated : (raw : RawSchema) → AllByRecursion (λ (c : Column). IsName c.name) raw.columns → AllByRecursion IsName raw.key → Generates statement (statement_tokens (statements.Create raw))
create_generated raw a b =
    inr (inl (one_then (word (codes "create")) (strict ⨾ tabled) (Word (codes "create")) _ refl
    (then strict tabled (strict_tokens raw.strict) (Word (codes "table") ∷ schema_tokens raw) (strict_generated raw.strict)
    (one_then (word (codes "table")) named (Word (codes "table")) (schema_tokens raw) refl
    (one_then name opened (Word raw.name) _ (name_is raw.name raw.named.of_table)
    (one_then (mark s.Open) body (Mark s.Open) _ refl (body_generated raw.columns raw.key (omega (arith, raw.some_column)) a (omega (arith, raw.some_key)) b)))))))
