-- Each statement of the grammar has a tree.
use Rattle.std.proofs.Common.{◌≡◌, inl, inr, ◌<◌, ◌≤◌, ℕ, ℤ, pos, negsuc, Bool, true, List, [], ◌∷◌, ◌++◌, Option, length, codes, refl, ◌∙◌, ap, subst, append_assoc, arith}
use Rattle.std.specs.List.{AllByRecursion}
use Rattle.std.proofs.lemmas.Int.{ints}
use Rattle.std.proofs.lemmas.List.{append-nil}
use Rattle.std.proofs.lemmas.List.Elements.{All-from_recursion}
use Rattle.cqa_model.specs.declared.schema.Column.{Column}
use Rattle.cqa_model.specs.Valid.{IsName}
use Rattle.script_lex.specs.declared.kinds.Symbol.TheVariants as s
use Rattle.spj_syntax.specs.declared.tree.RawSchema.{RawSchema}
use Rattle.spj_syntax.specs.declared.tree.RawCol.{RawCol}
use Rattle.spj_syntax.specs.declared.tree.RawCond.{RawCond}
use Rattle.spj_syntax.specs.declared.tree.RawJoinGoal.{RawJoinGoal}
use Rattle.spj_syntax.specs.declared.tree.Select.{Select}
use Rattle.spj_syntax.specs.declared.tree.Selects.{Selects}
use Rattle.spj_syntax.specs.declared.queries.UnitedVerb.{UnitedVerb}
use Rattle.spj_syntax.specs.declared.queries.UnitedVerb.TheVariants as united_verbs
use Rattle.spj_syntax.specs.declared.tree.Statement.{Statement}
use Rattle.spj_syntax.specs.declared.tree.Statement.TheVariants as statements
use Rattle.spj_syntax.specs.Grammar as grammar
use Rattle.spj_syntax.specs.Lexemes.{Lexeme, Word, Number, Mark}
use Rattle.spj_syntax.specs.Limits.{most_items}
use Rattle.spj_syntax.specs.Parsed.{IsStatement, IsIntInRange, AllLexemesFit}
use Rattle.spj_syntax.specs.Reading.{united_verb_tokens, verb_of}
use Rattle.spj_syntax.specs.Shapes.{◌∣◌}
use Rattle.spj_syntax.specs.Written.{name_tokens, column_tokens, cond_tokens, filtered_tokens, join_goal_tokens, join_grouped_tokens, listed_tokens, strict_tokens, key_tokens, each_after, between, select_tokens, selects_tokens, statement_tokens, IsWrittenAs}
use Rattle.reading_law.proofs.Combining.{AreLegal, HasTrees, Anything, counts_as, both, either, a_word, a_mark, after_word, after_mark, each_after_mark, of_filter}
use Rattle.reading_law.proofs.Parts.{a_name, a_number, listed, a_column, a_key, a_strict, a_change, a_row, some_tests, a_group, more_tests, a_cond, a_query, a_verb, a_united_verb, some_queries, a_goal, a_join_goal, a_join_group}

-- the tokens of a schema, from the parts as the grammar has them
schema : (strict : Bool) (table : List ℕ) (column : Column) (columns : List Column) (key : List (List ℕ)) → IsName table → IsName column.name → AllByRecursion (λ (c : Column). IsName c.name) columns → 0 < length key → AllByRecursion IsName key
    → (statement : Statement) × (Word (codes "create") ∷ (strict_tokens strict ++ (Word (codes "table") ∷ (name_tokens table ++ (Mark s.Open ∷ (column_tokens column ++ (each_after (Mark s.Comma) column_tokens columns ++ (Mark s.Comma ∷ (key_tokens key ++ Mark s.Close ∷ [])))))))) ≡ statement_tokens statement)
schema strict table column columns key is_table is_column are_columns some_key are_key =
    let raw : RawSchema = record {
      name = table;
      columns = column ∷ columns;
      key = key;
      strict = strict;
      some_column = omega arith;
      some_key = some_key;
      named = record { of_table = is_table; of_columns = All-from_recursion (λ (c : Column). IsName c.name) (column ∷ columns) (is_column, are_columns); of_key = All-from_recursion IsName key are_key };
    } in
    (statements.Create raw, simp append_assoc refl)

create : HasTrees grammar.create statement_tokens (Anything Statement)
create =
    counts_as (λ x v. schema x.0 x.1.0 x.1.1.0 x.1.1.1.0 x.1.1.1.1.0 v.1.0 v.1.1.0 v.1.1.1.0 v.1.1.1.1.0.0 v.1.1.1.1.0.1)
    (after_word (codes "create") (both a_strict (after_word (codes "table") (both a_name (after_mark s.Open
    (both a_column (both (each_after_mark s.Comma a_column) (after_mark s.Comma (both a_key (a_mark s.Close))))))))))

alter : HasTrees grammar.alter statement_tokens (Anything Statement)
alter = counts_as (λ x v. (statements.Alter x.0 x.1, refl)) (after_word (codes "alter") (after_word (codes "table") (both a_name a_change)))

insert : HasTrees grammar.insert statement_tokens (Anything Statement)
insert = counts_as (λ x v. (statements.Insert x.0 x.1, refl)) (after_word (codes "insert") (after_word (codes "into") (both a_name (after_word (codes "values") (listed a_row)))))

delete : HasTrees grammar.delete statement_tokens (Anything Statement)
delete = counts_as (λ x v. (statements.Delete x.0 x.1, refl)) (after_word (codes "delete") (after_word (codes "from") (both a_name some_tests)))

copy : HasTrees grammar.copy statement_tokens (Anything Statement)
copy = counts_as (λ x v. (statements.Copy x, refl)) (after_word (codes "copy") a_name)

range : HasTrees grammar.range statement_tokens (Anything Statement)
range = counts_as (λ x v. (statements.Range x.0 x.1.0 x.1.1.0 x.1.1.1, refl)) (after_word (codes "range") (both a_goal (after_word (codes "from") (both a_name (both some_tests a_group)))))

-- a range over several tables, from the parts as the grammar has them
joined : (goal : RawJoinGoal) (first : List ℕ) (others : List (List ℕ)) (conds : List RawCond) (group : Option RawCol) → 0 < length others → length conds ≤ most_items
    → (statement : Statement)
    × (Word (codes "range") ∷ (join_goal_tokens goal ++ (Word (codes "from") ∷ (name_tokens first ++ (Mark s.Comma ∷ (listed_tokens name_tokens others ++ (filtered_tokens cond_tokens conds ++ join_grouped_tokens group)))))) ≡ statement_tokens statement)
joined goal first [] conds group some few = absurd (omega arith)
joined goal first (other ∷ others) conds group some few = (
  statements.RangeJoin (record { goal = goal; tables = first ∷ other ∷ others; conds = conds; group = group; some_other = omega arith; few = few }),
  simp append_assoc refl,
)

range_join : HasTrees grammar.range_join statement_tokens (Anything Statement)
range_join =
    counts_as (λ x v. joined x.0 x.1.0 x.1.1.0 x.1.1.1.0 x.1.1.1.1 v.1.1.0.0 v.1.1.1.0.1)
    (after_word (codes "range") (both a_join_goal (after_word (codes "from") (both a_name (after_mark s.Comma (both (listed a_name) (both (of_filter a_cond) a_join_group)))))))

prefer : HasTrees grammar.prefer statement_tokens (Anything Statement)
prefer = counts_as (λ x v. (statements.Prefer x.0 x.1, refl)) (after_word (codes "prefer") (both a_name (after_word (codes "where") more_tests)))

show : HasTrees grammar.show statement_tokens (Anything Statement)
show =
    either (counts_as (λ u v. (statements.ShowTables, refl)) (after_word (codes "show") (a_word (codes "tables"))))
    (either (counts_as (λ u v. (statements.ShowLog, refl)) (after_word (codes "show") (a_word (codes "log"))))
    (counts_as (λ u v. (statements.ShowConflicts, refl)) (after_word (codes "show") (a_word (codes "conflicts")))))

-- one query is asked alone, and more are the parts of a union
asked_of_parts : (v : UnitedVerb) (u : Selects) → (statement : Statement) × (united_verb_tokens v ++ selects_tokens u ≡ statement_tokens statement)
asked_of_parts united_verbs.Ask u = (statements.AskUnion u, refl)
asked_of_parts united_verbs.Possible u = (statements.PossibleUnion u, refl)
asked_of_parts united_verbs.Classify u = (statements.ClassifyUnion u, refl)
asked_of_parts united_verbs.Sql u = (statements.SqlUnion u, refl)
asked_of_parts (united_verbs.Explain row) u = (statements.ExplainUnion row u, refl)

asked : (v : UnitedVerb) (parts : List Select) → 0 < length parts → (statement : Statement) × (united_verb_tokens v ++ between (Word (codes "union")) select_tokens parts ≡ statement_tokens statement)
asked v [] some = absurd (omega arith)
asked v (q ∷ []) some = (statements.Asking (verb_of v) q, ap (λ ls. united_verb_tokens v ++ ls) (append-nil (select_tokens q)))
asked v (p ∷ q ∷ parts) some = asked_of_parts v (record { parts = p ∷ q ∷ parts; two = omega arith })

asking : HasTrees grammar.asking statement_tokens (Anything Statement)
asking = either (counts_as (λ x v. asked x.0 x.1 v.1) (both a_united_verb some_queries)) (counts_as (λ x v. (statements.Asking x.0 x.1, refl)) (both a_verb a_query))

-- all statements but `set`
any_other : HasTrees (grammar.create ∣ grammar.alter ∣ grammar.one_of grammar.direct (grammar.show ∣ (grammar.range ∣ grammar.range_join) ∣ grammar.asking)) statement_tokens (Anything Statement)
any_other =
    either create (either alter
    (either insert (either delete (either prefer (either copy (either (counts_as (λ u v. (statements.Dump, refl)) (a_word (codes "dump")))
    (either show (either (either range range_join) asking))))))))

-- the int of a `set` is a number
set_to : (z : ℤ) → IsIntInRange true z → (n : ℕ) × (z ≡ pos n)
set_to (pos n) h = (n, refl)
set_to (negsuc n) h = absurd (omega (arith, ints, h.0))

set : (ls : List Lexeme) → AllLexemesFit ls → (z : ℤ) → ls ≡ Word (codes "set") ∷ Word (codes "conflicts") ∷ Number z ∷ [] → (statement : Statement) × IsWrittenAs statement ls
set ls fit z e =
    let fits = subst AllLexemesFit e fit in
    let n = set_to z fits.1.1.0 in
    (statements.SetConflicts n.0, record { tokens = e ∙ ap (λ y. Word (codes "set") ∷ Word (codes "conflicts") ∷ Number y ∷ []) n.1 })

-- Legal tokens that are a statement, and each fit, are those of a tree.
pub statement_tree : (ls : List Lexeme) → AreLegal ls → IsStatement ls → AllLexemesFit ls → (statement : Statement) × IsWrittenAs statement ls
statement_tree ls legal is fit = let g = is.generated in elim g [
  | inl s ↦ let x = (after_word (codes "set") (after_word (codes "conflicts") a_number)).tree ls legal s in set ls fit x.0 x.1
  | inr s ↦ let x = any_other.tree ls legal s in (x.0, record { tokens = x.1 })
]
