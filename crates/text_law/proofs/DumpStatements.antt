-- The tokens of the statements of a dump that put rows into tables.
use Rattle.std.proofs.Common.{lit≤, ℕ, List, [], ◌∷◌, ◌++◌, codes, refl, sym, ◌∙◌, subst, append_assoc}
use Rattle.std.proofs.lemmas.List.{append-nil}
use Rattle.cqa_value.specs.declared.value.Value.{Value}
use Rattle.cqa_value.specs.Literals.{row_bytes}
use Rattle.cqa_value.specs.Valid.{IsValidRow}
use Rattle.cqa_model.specs.Valid.{IsName}
use Rattle.spj_syntax.specs.declared.tree.Statement.TheVariants as statements
use Rattle.spj_syntax.specs.Lexemes.{Word}
use Rattle.spj_syntax.specs.Written.{row_tokens, statement_tokens}
use Rattle.reading_law.proofs.Tokens.{Spelled, nothing_more, blank_then}
use Rattle.reading_law.proofs.WrittenStatements.{name_then, literal_word, last_word, row_then}

pub copy_spelled : (name : List ℕ) → IsName name → Spelled (codes "copy " ++ name) (statement_tokens (statements.Copy name))
copy_spelled name h = literal_word (codes "copy") name (Word name ∷ []) refl (lit≤ tt) (last_word name h)

pub insert_spelled : (name : List ℕ) (row : List Value) → IsName name → IsValidRow row → Spelled (codes "insert into " ++ name ++ codes " values " ++ row_bytes row) (statement_tokens (statements.Insert name (row ∷ [])))
insert_spelled name row h valid =
    let tail : Spelled (row_bytes row ++ []) (row_tokens row ++ []) = row_then row [] [] valid nothing_more in
    let tail2 : Spelled (row_bytes row) (row_tokens row ++ []) = subst (λ z. Spelled z (row_tokens row ++ [])) (append-nil (row_bytes row)) tail in
    let named = name_then name (codes " values " ++ row_bytes row) (Word (codes "values") ∷ (row_tokens row ++ [])) h refl (blank_then _ _ (literal_word (codes "values") (row_bytes row) (row_tokens row ++ []) refl (lit≤ tt) tail2)) in
    let whole = literal_word (codes "insert") (codes "into " ++ (name ++ (codes " values " ++ row_bytes row))) _ refl (lit≤ tt) (literal_word (codes "into") (name ++ (codes " values " ++ row_bytes row)) _ refl (lit≤ tt) named) in
    subst (λ z. Spelled z (statement_tokens (statements.Insert name (row ∷ [])))) (sym (append_assoc (codes "insert into " ++ name) (codes " values ") (row_bytes row) ∙ append_assoc (codes "insert into ") name (codes " values " ++ row_bytes row))) whole
