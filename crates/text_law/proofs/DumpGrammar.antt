-- The grammar allows the statements of a dump that put rows into tables.
use Rattle.std.proofs.Common.{◌<◌, inl, inr, ℕ, List, [], ◌∷◌, codes, length, refl, arith}
use Rattle.cqa_value.specs.declared.value.Value.{Value}
use Rattle.cqa_model.specs.Valid.{IsName}
use Rattle.spj_syntax.specs.declared.tree.Statement.TheVariants as statements
use Rattle.spj_syntax.specs.Lexemes.{Word}
use Rattle.spj_syntax.specs.Shapes.{word, name, Shape, one, ◌⨾◌, Generates}
use Rattle.spj_syntax.specs.Grammar.{a_name, listed, row, statement}
use Rattle.spj_syntax.specs.Written.{listed_tokens, row_tokens, statement_tokens}
use Rattle.reading_law.proofs.Grammar.{one_then, name_is, name_generated, list_is, row_generated}

abbrev valued : Shape
valued = one (word (codes "values")) ⨾ listed row

pub insert_generated : (table : List ℕ) (r : List Value) → IsName table → 0 < length r → Generates statement (statement_tokens (statements.Insert table (r ∷ [])))
insert_generated table r h some =
    inr (inr (inr (inl (one_then (word (codes "insert")) (one (word (codes "into")) ⨾ a_name ⨾ valued) (Word (codes "insert")) _ refl
    (one_then (word (codes "into")) (a_name ⨾ valued) (Word (codes "into")) _ refl
    (one_then name valued (Word table) (Word (codes "values") ∷ listed_tokens row_tokens (r ∷ [])) (name_is table h)
    (one_then (word (codes "values")) (listed row) (Word (codes "values")) _ refl (list_is row row_tokens (λ r. 0 < length r) row_generated (r ∷ []) (omega arith) (some, tt)))))))))

pub copy_generated : (table : List ℕ) → IsName table → Generates statement (statement_tokens (statements.Copy table))
copy_generated table h = inr (inr (inr (inr (inr (inr (inl (one_then (word (codes "copy")) a_name (Word (codes "copy")) (Word table ∷ []) refl (name_generated table h))))))))
