-- The trees of the parts of statements.
use Rattle.std.proofs.Common.{◌≡◌, ◌<◌, ℕ, ℤ, Bool, true, false, List, [], ◌∷◌, ◌++◌, Option, Some, None, length, codes, refl, subst, arith}
use Rattle.std.specs.List.{AllByRecursion}
use Rattle.cqa_value.specs.declared.value.Kind.{Kind}
use Rattle.cqa_value.specs.declared.value.Kind.TheVariants as column_kinds
use Rattle.cqa_value.specs.declared.value.Value.{Value}
use Rattle.cqa_value.specs.declared.value.Value.TheVariants as values
use Rattle.schema_text.specs.Text.{kind_word}
use Rattle.cqa_model.specs.Valid.{IsName}
use Rattle.cqa_model.specs.declared.query.Op.{Op}
use Rattle.cqa_model.specs.declared.query.Op.TheVariants as ops
use Rattle.cqa_model.specs.declared.schema.Column.{Column}
use Rattle.script_lex.specs.declared.kinds.Symbol.TheVariants as s
use Rattle.spj_syntax.specs.declared.tree.Change.{Change}
use Rattle.spj_syntax.specs.declared.tree.Change.TheVariants as changes
use Rattle.spj_syntax.specs.declared.tree.RawCol.{RawCol}
use Rattle.spj_syntax.specs.declared.tree.RawCond.{RawCond}
use Rattle.spj_syntax.specs.declared.tree.RawCond.TheVariants.{Join, Test}
use Rattle.spj_syntax.specs.declared.tree.RawGoal.{RawGoal}
use Rattle.spj_syntax.specs.declared.tree.RawGoal.TheVariants as goals
use Rattle.spj_syntax.specs.declared.tree.RawJoinGoal.{RawJoinGoal}
use Rattle.spj_syntax.specs.declared.tree.RawJoinGoal.TheVariants as join_goals
use Rattle.spj_syntax.specs.declared.range_parts.Asked.{Asked}
use Rattle.spj_syntax.specs.declared.range_parts.Asked.TheVariants as aggregates
use Rattle.spj_syntax.specs.Reading.{aggregate_tokens, united_verb_tokens}
use Rattle.spj_syntax.specs.declared.tree.RawTest.{RawTest}
use Rattle.spj_syntax.specs.declared.tree.Select.{Select}
use Rattle.spj_syntax.specs.declared.queries.UnitedVerb.{UnitedVerb}
use Rattle.spj_syntax.specs.declared.queries.UnitedVerb.TheVariants as united_verbs
use Rattle.spj_syntax.specs.declared.tree.Verb.{Verb}
use Rattle.spj_syntax.specs.declared.tree.Verb.TheVariants as verbs
use Rattle.spj_syntax.specs.Grammar as grammar
use Rattle.spj_syntax.specs.Lexemes.{Lexeme, Word, Number, Quoted, Mark}
use Rattle.spj_syntax.specs.Shapes.{int, text, name, mark, matches, Shape, one, ◌⨾◌}
use Rattle.spj_syntax.specs.Written.{between, name_tokens, literal_tokens, column_tokens, listed_tokens, filtered_tokens, op_symbol, test_tokens, col_tokens, cond_tokens, row_tokens, head_tokens, select_tokens, strict_tokens, key_tokens, change_tokens, row_for_tokens, verb_tokens, goal_tokens, grouped_tokens, anded_tokens, join_goal_tokens, join_grouped_tokens}
use Rattle.spj_syntax.proofs.Naming.{is_name}
use Rattle.reading_law.proofs.Combining.{IsLegal, AreLegal, HasTrees, Anything, turned, counts_as, both, either, none, a_word, a_mark, after_word, after_mark, with_marks, with_words, of_filter}

pub a_name : HasTrees grammar.a_name name_tokens IsName
a_name = record { tree = λ ls legal s. go s.0 s.1 ls s.2 legal }
  where
    go : (l : Lexeme) → matches name l ≡ true → (ls : List Lexeme) → ls ≡ l ∷ [] → AreLegal ls → (w : List ℕ) × (ls ≡ name_tokens w) × IsName w
    go (Word w) m ls e legal = let here = subst (AllByRecursion IsLegal) e legal.each in (w, e, is_name w here.0.0 m here.0.1)
    go (Number z) m ls e legal = absurd (cc m)
    go (Quoted t) m ls e legal = absurd (cc m)
    go (Mark y) m ls e legal = absurd (cc m)

pub a_number : HasTrees (one int) (λ z. Number z ∷ []) (Anything ℤ)
a_number = record { tree = λ ls legal s. go s.0 s.1 ls s.2 }
  where
    go : (l : Lexeme) → matches int l ≡ true → (ls : List Lexeme) → ls ≡ l ∷ [] → (z : ℤ) × (ls ≡ Number z ∷ []) × Unit {0}
    go (Number z) m ls e = (z, e, tt)
    go (Word w) m ls e = absurd (cc m)
    go (Quoted t) m ls e = absurd (cc m)
    go (Mark y) m ls e = absurd (cc m)

a_text : HasTrees (one text) (λ t. Quoted t ∷ []) (Anything (List ℕ))
a_text = record { tree = λ ls legal s. go s.0 s.1 ls s.2 }
  where
    go : (l : Lexeme) → matches text l ≡ true → (ls : List Lexeme) → ls ≡ l ∷ [] → (t : List ℕ) × (ls ≡ Quoted t ∷ []) × Unit {0}
    go (Quoted t) m ls e = (t, e, tt)
    go (Word w) m ls e = absurd (cc m)
    go (Number z) m ls e = absurd (cc m)
    go (Mark y) m ls e = absurd (cc m)

pub a_literal : HasTrees grammar.literal literal_tokens (Anything Value)
a_literal = either (counts_as (λ z v. (values.Int z, refl)) a_number) (counts_as (λ t v. (values.Text t, refl)) a_text)

-- one or more, with commas between them
pub listed : {A : Type 0} {p : Shape} {f : A → List Lexeme} {V : A → Type 0} → HasTrees p f V → HasTrees (grammar.listed p) (listed_tokens f) (λ xs. (0 < length xs) × AllByRecursion V xs)
listed h = with_marks s.Comma h

column_kind : HasTrees grammar.kind (λ k. Word (kind_word k) ∷ []) (Anything Kind)
column_kind = either (counts_as (λ u v. (column_kinds.Int, refl)) (a_word (codes "int"))) (counts_as (λ u v. (column_kinds.Text, refl)) (a_word (codes "text")))

pub a_column : HasTrees grammar.column column_tokens (λ (c : Column). IsName c.name)
a_column = turned (λ x v. (record { name = x.0; kind = x.1 }, refl, v.0)) (both a_name column_kind)

pub a_key : HasTrees grammar.key key_tokens (λ names. (0 < length names) × AllByRecursion IsName names)
a_key =
    turned (λ x v. (x.0, refl, v.0))
    (after_word (codes "primary") (after_word (codes "key") (after_mark s.Open (both (listed a_name) (a_mark s.Close)))))

pub a_strict : HasTrees grammar.strict strict_tokens (Anything Bool)
a_strict = either (counts_as (λ u v. (true, refl)) (a_word (codes "strict"))) (counts_as (λ u v. (false, refl)) none)

pub a_change : HasTrees grammar.change change_tokens (Anything Change)
a_change =
    either (counts_as (λ u v. (changes.SetStrict, refl)) (after_word (codes "set") (a_word (codes "strict"))))
    (either (counts_as (λ u v. (changes.DropStrict, refl)) (after_word (codes "drop") (a_word (codes "strict"))))
    (counts_as (λ names v. (changes.SetKey names, refl)) (after_word (codes "set") a_key)))

pub a_row : HasTrees grammar.row row_tokens (Anything (List Value))
a_row = counts_as (λ x v. (x.0, refl)) (after_mark s.Open (both (listed a_literal) (a_mark s.Close)))

any_row : HasTrees grammar.any_row row_tokens (Anything (List Value))
any_row =
    counts_as (λ x v. (x.0, refl))
    (after_mark s.Open (both (either (counts_as (λ x v. (x, refl)) (listed a_literal)) (counts_as {g = listed_tokens literal_tokens} (λ u v. ([], refl)) none)) (a_mark s.Close)))

pub row_for : HasTrees grammar.row_for row_for_tokens (Anything (List Value))
row_for = counts_as (λ x v. (x.0, refl)) (after_word (codes "row") (both any_row (a_word (codes "for"))))

an_operator : HasTrees grammar.op (λ o. Mark (op_symbol o) ∷ []) (Anything Op)
an_operator =
    either (counts_as (λ u v. (ops.Eq, refl)) (a_mark s.Eq))
    (either (counts_as (λ u v. (ops.Ne, refl)) (a_mark s.Ne))
    (either (counts_as (λ u v. (ops.Lt, refl)) (a_mark s.Lt))
    (either (counts_as (λ u v. (ops.Le, refl)) (a_mark s.Le))
    (either (counts_as (λ u v. (ops.Gt, refl)) (a_mark s.Gt))
    (counts_as (λ u v. (ops.Ge, refl)) (a_mark s.Ge))))))

a_test : HasTrees grammar.test test_tokens (Anything RawTest)
a_test = counts_as (λ x v. (record { col = x.0; op = x.1.0; value = x.1.1 }, refl)) (both a_name (both an_operator a_literal))

pub some_tests : HasTrees (grammar.filtered grammar.test) (filtered_tokens test_tokens) (Anything (List RawTest))
some_tests = counts_as (λ xs v. (xs, refl)) (of_filter a_test)

pub a_group : HasTrees grammar.grouped grouped_tokens (Anything (Option (List ℕ)))
a_group = either (counts_as (λ n v. (Some n, refl)) (after_word (codes "group") (after_word (codes "by") a_name))) (counts_as (λ u v. (None, refl)) none)

-- what follows the first name of a column
abbrev dotted_tokens : Option (List ℕ) → List Lexeme
dotted_tokens None = []
dotted_tokens (Some n) = Mark s.Dot ∷ name_tokens n

dotted : HasTrees (grammar.optional (one (mark s.Dot) ⨾ grammar.a_name)) dotted_tokens (Anything (Option (List ℕ)))
dotted = either (counts_as (λ n v. (Some n, refl)) (after_mark s.Dot a_name)) (counts_as (λ u v. (None, refl)) none)

a_col : HasTrees grammar.col col_tokens (Anything RawCol)
a_col = counts_as (λ x v. go x.0 x.1) (both a_name dotted)
  where
    go : (n : List ℕ) (more : Option (List ℕ)) → (c : RawCol) × (name_tokens n ++ dotted_tokens more ≡ col_tokens c)
    go n None = (record { table = None; name = n }, refl)
    go n (Some m) = (record { table = Some n; name = m }, refl)

pub a_join_group : HasTrees grammar.join_grouped join_grouped_tokens (Anything (Option RawCol))
a_join_group = either (counts_as (λ c v. (Some c, refl)) (after_word (codes "group") (after_word (codes "by") a_col))) (counts_as (λ u v. (None, refl)) none)

pub a_cond : HasTrees grammar.cond cond_tokens (Anything RawCond)
a_cond =
    either (counts_as (λ x v. (Join x.0 x.1, refl)) (both a_col (after_mark s.Eq a_col)))
    (counts_as (λ x v. (Test x.0 x.1.0 x.1.1, refl)) (both a_col (both an_operator a_literal)))

a_head : HasTrees grammar.head head_tokens (Anything (List RawCol))
a_head = either (counts_as (λ cs v. go cs v.0) (after_word (codes "select") (listed a_col))) (counts_as (λ u v. ([], refl)) (a_word (codes "exists")))
  where
    go : (cs : List RawCol) → 0 < length cs → (ds : List RawCol) × (Word (codes "select") ∷ listed_tokens col_tokens cs ≡ head_tokens ds)
    go [] some = absurd (omega arith)
    go (c ∷ cs) some = (c ∷ cs, refl)

pub a_query : HasTrees grammar.query select_tokens (Anything Select)
a_query =
    counts_as (λ x v. (record { columns = x.0; tables = x.1.0; conds = x.1.1; some_table = v.1.0.0; few = v.1.1.1 }, refl))
    (both a_head (after_word (codes "from") (both (listed a_name) (of_filter a_cond))))

-- one query or more, with "union" between them
pub some_queries : HasTrees grammar.united (between (Word (codes "union")) select_tokens) (λ parts. 0 < length parts)
some_queries = turned (λ parts v. (parts, refl, v.0)) (with_words (codes "union") a_query)

pub a_verb : HasTrees grammar.verb verb_tokens (Anything Verb)
a_verb =
    either (counts_as (λ u v. (verbs.Disputed, refl)) (a_word (codes "disputed")))
    (either (counts_as (λ u v. (verbs.Plan, refl)) (a_word (codes "plan")))
    (either (counts_as (λ row v. (verbs.Against row, refl)) (after_word (codes "against") row_for))
    (counts_as (λ row v. (verbs.Prove row, refl)) (after_word (codes "prove") row_for))))

pub a_united_verb : HasTrees grammar.united_verb united_verb_tokens (Anything UnitedVerb)
a_united_verb =
    either (counts_as (λ u v. (united_verbs.Ask, refl)) (a_word (codes "ask")))
    (either (counts_as (λ u v. (united_verbs.Possible, refl)) (a_word (codes "possible")))
    (either (counts_as (λ u v. (united_verbs.Classify, refl)) (a_word (codes "classify")))
    (either (counts_as (λ u v. (united_verbs.Sql, refl)) (a_word (codes "sql")))
    (counts_as (λ row v. (united_verbs.Explain row, refl)) (after_word (codes "explain") row_for)))))

-- one test or more
pub more_tests : HasTrees (grammar.anded grammar.test) (anded_tokens test_tokens) (Anything (List RawTest))
more_tests = counts_as (λ xs v. (xs, refl)) (with_words (codes "and") a_test)

an_aggregate : HasTrees grammar.aggregate aggregate_tokens (Anything Asked)
an_aggregate =
    either (counts_as (λ u v. (aggregates.Sum, refl)) (a_word (codes "sum")))
    (either (counts_as (λ u v. (aggregates.Min, refl)) (a_word (codes "min")))
    (counts_as (λ u v. (aggregates.Max, refl)) (a_word (codes "max"))))

pub a_goal : HasTrees grammar.goal goal_tokens (Anything RawGoal)
a_goal = either (counts_as (λ u v. (goals.Count, refl)) (a_word (codes "count"))) (counts_as (λ x v. go x.0 x.1) (both an_aggregate a_name))
  where
    go : (a : Asked) (n : List ℕ) → (g : RawGoal) × (aggregate_tokens a ++ name_tokens n ≡ goal_tokens g)
    go aggregates.Sum n = (goals.Sum n, refl)
    go aggregates.Min n = (goals.Min n, refl)
    go aggregates.Max n = (goals.Max n, refl)

pub a_join_goal : HasTrees grammar.join_goal join_goal_tokens (Anything RawJoinGoal)
a_join_goal = either (counts_as (λ u v. (join_goals.Count, refl)) (a_word (codes "count"))) (counts_as (λ x v. go x.0 x.1) (both an_aggregate a_col))
  where
    go : (a : Asked) (c : RawCol) → (g : RawJoinGoal) × (aggregate_tokens a ++ col_tokens c ≡ join_goal_tokens g)
    go aggregates.Sum c = (join_goals.Sum c, refl)
    go aggregates.Min c = (join_goals.Min c, refl)
    go aggregates.Max c = (join_goals.Max c, refl)
