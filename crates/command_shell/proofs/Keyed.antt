-- A key that is set by a statement has a column: without one its tokens are no statement.
use Rattle.std.proofs.Common.{◌≡◌, ℕ, Bool, true, false, not, nat_eq, List, [], ◌∷◌, codes, refl, ap, ◌∙◌, subst, arith}
use Rattle.std.specs.Cmp.Lexicographic.{pointwise}
use Rattle.script_lex.specs.declared.kinds.Symbol.TheVariants as s
use Rattle.spj_syntax.specs.declared.tree.Change.{Change}
use Rattle.spj_syntax.specs.declared.tree.Change.TheVariants.{SetStrict, DropStrict, SetKey}
use Rattle.spj_syntax.specs.declared.tree.Statement.{Statement}
use Rattle.spj_syntax.specs.declared.tree.Statement.TheVariants as statements
use Rattle.spj_syntax.specs.Factored as factored
use Rattle.spj_syntax.specs.Grammar as grammar
use Rattle.spj_syntax.specs.Lexemes.{Lexeme, Word, Mark}
use Rattle.spj_syntax.specs.Shapes.{word, name, one, ◌⨾◌, ◌∣◌, primary, Generates}
use Rattle.spj_syntax.specs.Texts.{HasStatement}
use Rattle.spj_syntax.specs.Walk.{Stopped, read, walk}
use Rattle.spj_syntax.specs.Written.{HasKey}
use Rattle.spj_syntax.proofs.Exact.{stopped}
use Rattle.spj_syntax.proofs.Factoring.{same_fault}
use Rattle.spj_syntax.proofs.Table.{statement_decided}
use Rattle.spj_syntax.proofs.Walking.{one_past, one_stopped, both_stopped, first_stopped, left_read, right_read}
use Rattle.spj_syntax.proofs.Answered.{fault_not}

-- the key of a statement that sets one has a column
abbrev pub IsKeyed : Statement → Type 0
IsKeyed (statements.Alter table change) = HasKey change
IsKeyed _ = Unit {0}

-- what is behind the name of the table
abbrev rest_tokens : List Lexeme
rest_tokens = Word (codes "set") ∷ Word (codes "primary") ∷ Word (codes "key") ∷ Mark s.Open ∷ Mark s.Close ∷ []

change_stopped : read factored.change rest_tokens ≡ Stopped (Mark s.Close ∷ [])
unfolding read walk
change_stopped = refl

named_stopped : (n : List ℕ) → (rest : List Lexeme) × (read (grammar.a_name ⨾ factored.change) (Word n ∷ rest_tokens) ≡ Stopped rest)
named_stopped n = go (pointwise nat_eq primary n) refl
  where
    go : (b : Bool) → pointwise nat_eq primary n ≡ b → (rest : List Lexeme) × (read (grammar.a_name ⨾ factored.change) (Word n ∷ rest_tokens) ≡ Stopped rest)
    go true q = (Word n ∷ rest_tokens, first_stopped (one name) factored.change (Word n ∷ rest_tokens) (Word n ∷ rest_tokens) (one_stopped name (Word n) rest_tokens (ap not q)))
    go false q = (Mark s.Close ∷ [], both_stopped (one name) factored.change (Word n ∷ rest_tokens) rest_tokens (Mark s.Close ∷ []) (one_past name (Word n) rest_tokens (ap not q)) change_stopped)

-- the tokens of a key without a column
abbrev keyless : List ℕ → List Lexeme
keyless n = Word (codes "alter") ∷ Word (codes "table") ∷ Word n ∷ rest_tokens

keyless_stopped : (n : List ℕ) → (rest : List Lexeme) × (read factored.statement (keyless n) ≡ Stopped rest)
keyless_stopped n =
    let named = named_stopped n in
    let others = grammar.one_of grammar.direct (factored.show ∣ factored.range ∣ factored.asking) in
    let first = Word (codes "alter") in
    let behind = Word (codes "table") ∷ Word n ∷ rest_tokens in (
      named.0,
      right_read grammar.set (factored.create ∣ factored.alter ∣ others) first behind refl refl
          ∙ right_read factored.create (factored.alter ∣ others) first behind refl refl
          ∙ left_read factored.alter others first behind refl
          ∙ both_stopped (one (word (codes "alter"))) (one (word (codes "table")) ⨾ (grammar.a_name ⨾ factored.change)) (first ∷ behind) behind named.0
          (one_past (word (codes "alter")) first behind refl)
          (both_stopped (one (word (codes "table"))) (grammar.a_name ⨾ factored.change) behind (Word n ∷ rest_tokens) named.0 (one_past (word (codes "table")) (Word (codes "table")) (Word n ∷ rest_tokens) refl) named.1),
    )

keyless_not : (n : List ℕ) → Generates grammar.statement (keyless n) → ⊥
keyless_not n g =
    let stop = keyless_stopped n in
    fault_not grammar.statement (keyless n) stop.0 (same_fault (keyless n) stop.0 (stopped factored.statement (keyless n) stop.0 statement_decided stop.1)) g

pub keyed : (text : List ℕ) (statement : Statement) → HasStatement text statement → IsKeyed statement
keyed text (statements.Alter table change) says = go change says
  where
    go : (change : Change) → HasStatement text (statements.Alter table change) → HasKey change
    go SetStrict says = tt
    go DropStrict says = tt
    go (SetKey []) says = absurd (keyless_not table (subst (Generates grammar.statement) says.written.tokens says.allowed.generated))
    go (SetKey (n ∷ names)) says = omega arith
keyed text _ says = tt
