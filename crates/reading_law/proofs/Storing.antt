-- What a statement puts into a state can stand there.
use Rattle.std.proofs.Common.{Bool, false, List, [], ◌∷◌, ◌++◌, codes, subst, arith}
use Rattle.std.specs.List.{AllByRecursion}
use Rattle.std.proofs.lemmas.Int.{ints}
use Rattle.std.proofs.lemmas.List.Elements.{All-from_recursion}
use Rattle.cqa_value.specs.Valid.{IsValidText, IsValidValue, IsValidRow}
use Rattle.cqa_value.specs.declared.value.Value.{Value}
use Rattle.cqa_value.specs.declared.value.Value.TheVariants as values
use Rattle.cqa_value.proofs.Integers.{fits_from}
use Rattle.script_lex.specs.declared.kinds.Symbol.TheVariants as s
use Rattle.script_lex.specs.declared.kinds.TokenKind.TheVariants as kinds
use Rattle.spj_syntax.specs.declared.tree.RawCond.{RawCond}
use Rattle.spj_syntax.specs.declared.tree.RawCond.TheVariants as conds
use Rattle.spj_syntax.specs.declared.tree.Select.{Select}
use Rattle.spj_syntax.specs.declared.tree.Verb.TheVariants as verbs
use Rattle.spj_syntax.specs.declared.tree.Statement.{Statement}
use Rattle.spj_syntax.specs.declared.tree.Statement.TheVariants as statements
use Rattle.spj_syntax.specs.Lexemes.{Lexeme, Word, Number, Quoted, Mark}
use Rattle.spj_syntax.specs.Parsed.{lexemes, is_set, IsIntInRange}
use Rattle.spj_syntax.specs.Written.{name_tokens, each_after, between, listed_tokens, filtered_tokens, literal_tokens, op_symbol, col_tokens, cond_tokens, row_tokens, head_tokens, select_tokens, verb_tokens, statement_tokens}
use Rattle.reading_law.specs.Texts.{IsStorable, StatementsAreStorable, HasValidLiteral, ProvesOfValidValues}
use Rattle.reading_law.proofs.Combining.{each_left, each_right}
use Rattle.reading_law.proofs.Legal.{HoldsOfSound, each_spelled}

-- a number is in its range, and a text is a short one of UTF-8
abbrev IsValued : Bool → Lexeme → Type 0
IsValued set (Word w) = Unit {0}
IsValued set (Number z) = IsIntInRange set z
IsValued set (Quoted t) = IsValidText t
IsValued set (Mark s) = Unit {0}

valued : (set : Bool) → HoldsOfSound set (IsValued set)
valued set kinds.Word bytes sound fits = tt
valued set kinds.Int bytes sound fits = fits
valued set kinds.Text bytes sound fits = record { utf8 = sound.1; short = fits }
valued set (kinds.Sym s) bytes sound fits = tt

-- what holds of an item by its tokens holds of each of a list
module _ {A : Type 0} (P : Lexeme → Type 0) (Q : A → Type 0) (l : Lexeme) (f : A → List Lexeme) (item : (x : A) → AllByRecursion P (f x) → Q x) where
  each_later : (xs : List A) → AllByRecursion P (each_after l f xs) → AllByRecursion Q xs
  each_later [] h = tt
  each_later (x ∷ xs) h = (item x (each_left P (f x) (each_after l f xs) h.1), each_later xs (each_right P (f x) (each_after l f xs) h.1))

  each_between : (xs : List A) → AllByRecursion P (between l f xs) → AllByRecursion Q xs
  each_between [] h = tt
  each_between (x ∷ xs) h = (item x (each_left P (f x) (each_after l f xs) h), each_later xs (each_right P (f x) (each_after l f xs) h))

valid_value : (v : Value) → AllByRecursion (IsValued false) (literal_tokens v) → IsValidValue v
valid_value (values.Int z) h = fits_from z h.0
valid_value (values.Text t) h = h.0

valid_row : (row : List Value) → AllByRecursion (IsValued false) (row_tokens row) → IsValidRow row
valid_row row h =
    All-from_recursion IsValidValue row
    (each_between (IsValued false) IsValidValue (Mark s.Comma) literal_tokens valid_value row (each_left (IsValued false) (listed_tokens literal_tokens row) (Mark s.Close ∷ []) h.1))

storable : (statement : Statement) → AllByRecursion (IsValued (is_set (statement_tokens statement))) (statement_tokens statement) → IsStorable statement
storable (statements.Insert table rows) h = All-from_recursion IsValidRow rows (each_between (IsValued false) IsValidRow (Mark s.Comma) row_tokens valid_row rows h.1.1.1.1)
storable (statements.SetConflicts conflicts) h = let range = h.1.1.0 in omega (arith, ints, range.1)
storable _ h = tt

pub statements_are_storable : StatementsAreStorable
statements_are_storable text tokens statement spelled fit written =
    storable statement
    (subst (λ ls. AllByRecursion (IsValued (is_set ls)) ls) written.tokens (each_spelled (IsValued (is_set (lexemes text tokens))) text tokens (valued (is_set (lexemes text tokens))) spelled fit))

-- ---- the values of a `prove`

valid_literal : (k : RawCond) → AllByRecursion (IsValued false) (cond_tokens k) → HasValidLiteral k
valid_literal (conds.Join left right) h = tt
valid_literal (conds.Test col op value) h = valid_value value (each_right (IsValued false) (col_tokens col) (Mark (op_symbol op) ∷ literal_tokens value) h).1

valid_literals : (ks : List RawCond) → AllByRecursion (IsValued false) (filtered_tokens cond_tokens ks) → AllByRecursion HasValidLiteral ks
valid_literals [] h = tt
valid_literals (k ∷ ks) h = each_between (IsValued false) HasValidLiteral (Word (codes "and")) cond_tokens valid_literal (k ∷ ks) h.1

proves_of_valid : (row : List Value) (select : Select) → AllByRecursion (IsValued false) (statement_tokens (statements.Asking (verbs.Prove row) select)) → IsValidRow row × AllByRecursion HasValidLiteral select.conds
proves_of_valid row select h =
    let said = each_left (IsValued false) (verb_tokens (verbs.Prove row)) (select_tokens select) h in
    let asked = each_right (IsValued false) (verb_tokens (verbs.Prove row)) (select_tokens select) h in
    let behind = each_right (IsValued false) (head_tokens select.columns) (Word (codes "from") ∷ (listed_tokens name_tokens select.tables ++ filtered_tokens cond_tokens select.conds)) asked in (
      valid_row row (each_left (IsValued false) (row_tokens row) (Word (codes "for") ∷ []) said.1.1),
      valid_literals select.conds (each_right (IsValued false) (listed_tokens name_tokens select.tables) (filtered_tokens cond_tokens select.conds) behind.1),
    )

pub proves_of_valid_values : ProvesOfValidValues
proves_of_valid_values text tokens row select spelled fit written =
    proves_of_valid row select
    (subst (λ ls. AllByRecursion (IsValued (is_set ls)) ls) written.tokens (each_spelled (IsValued (is_set (lexemes text tokens))) text tokens (valued (is_set (lexemes text tokens))) spelled fit))
