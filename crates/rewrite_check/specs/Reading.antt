-- What reading the text of a certificate finds, step by step.
use Rattle.std.specs.Prelude.{◌≡◌, ◌<◌, ◌+◌, ℕ, true, List, [], Option, length}
use Rattle.cqa_value.specs.declared.value.Value.{Value}
use Rattle.cqa_value.specs.declared.memory.Fail.{Fail}
use Rattle.cqa_value.specs.declared.memory.Fail.TheVariants.{NoMemory, Refused}
use Rattle.cqa_model.specs.Database.{Table}
use Rattle.script_lex.specs.Scripts.{Statement as Part, StartsWith, HasNoStatement, Begins, IsSpace}
use Rattle.spj_syntax.specs.declared.tree.RawSchema.{RawSchema}
use Rattle.spj_syntax.specs.declared.tree.Select.{Select}
use Rattle.spj_syntax.specs.declared.tree.Statement.{Statement}
use Rattle.spj_syntax.specs.declared.tree.Statement.TheVariants as statements
use Rattle.spj_syntax.specs.declared.tree.Verb.TheVariants as verbs
use Rattle.rewrite_check.specs.declared.opening.Opening.{Opening}
use Rattle.rewrite_check.specs.declared.opening.Opening.TheVariants as openings
use Rattle.rewrite_check.specs.declared.certificate.Claim.{Claim}
use Rattle.rewrite_check.specs.declared.certificate.Certificate.{Certificate}
use Rattle.spj_syntax.specs.Texts.{HasStatement}
use Rattle.rewrite_check.specs.Spelling.{Stage, Asked, CanAsk, LeadsThrough, IsBadFrom}

-- a refusal carries such a number; want of memory is free
abbrev pub IfRefused : (ℕ → Type 0) → Fail ℕ → Type 0
IfRefused numbers NoMemory = Unit {0}
IfRefused numbers (Refused number) = numbers number

-- where the reading stands: the bytes from there on, and how many statements stand before them
pub record Position : Type 0 where
  pub bytes : List ℕ
  pub before : ℕ

-- the next statement is taken, of which this is the text
pub record TakesText (old : Position) (text : List ℕ) (new : Position) : Type 0 where
  pub block : Option (List ℕ)
  pub starts : StartsWith true old.bytes (text, block) new.bytes
  pub count : new.before ≡ old.before + 1
  pub shorter : length new.bytes < length old.bytes

-- only blanks and comments are left
pub record IsAtEnd (at : Position) : Type 0 where
  pub blank : IsSpace at.bytes
  pub over : HasNoStatement true at.bytes

-- the number of the statement that is due, where none follows
abbrev pub IsDueAt : Position → ℕ → Type 0
IsDueAt at number = HasNoStatement true at.bytes × (number ≡ at.before + 1)

-- statements lead from a stage at one position to another stage at another position
pub record GoesFrom (stage : Stage) (old : Position) (last : Stage) (new : Position) : Type 0 where
  pub front : List Part
  pub begins : Begins true old.bytes front new.bytes
  pub leads : LeadsThrough stage front last
  pub count : new.before ≡ old.before + length front

-- the number of the first bad statement from a position on
abbrev pub IsBadStatement : Stage → Position → ℕ → Type 0
IsBadStatement stage at number = IsBadFrom stage at.bytes at.before number

-- what a statement says of a certificate's tables and of its query
abbrev pub Means : Statement → Opening → Type 0
Means said (openings.Create raw) = said ≡ statements.Create raw
Means said (openings.Prove row select) = said ≡ statements.Asking (verbs.Prove row) select
Means said openings.Other = ((raw : RawSchema) → said ≡ statements.Create raw → ⊥) × ((row : List Value) (select : Select) → said ≡ statements.Asking (verbs.Prove row) select → ⊥)

-- what the statement says that a text is; another where it is none
abbrev pub HasOpening : List ℕ → Opening → Type 0
HasOpening text (openings.Create raw) = HasStatement text (statements.Create raw)
HasOpening text (openings.Prove row select) = HasStatement text (statements.Asking (verbs.Prove row) select)
HasOpening text openings.Other = ((raw : RawSchema) → HasStatement text (statements.Create raw) → ⊥) × ((row : List Value) (select : Select) → HasStatement text (statements.Asking (verbs.Prove row) select) → ⊥)

-- the claim is that of a row and a select, over some tables
pub record IsClaimOf (db : List Table) (row : List Value) (select : Select) (claim : Claim) : Type 0 where
  pub select_is : claim.select ≡ select
  pub row_is : claim.row ≡ row
  pub can : CanAsk db claim.select claim.query claim.row

-- a certificate without blocks yet
abbrev pub certificate_of : List Table → Claim → List ℕ → Certificate
certificate_of db claim order = record { tables = db; select = claim.select; query = claim.query; row = claim.row; order = order; nodes = [] }

-- the stage of a claim
abbrev pub asked_stage : List Table → Claim → Stage
asked_stage db claim = Asked db claim.select claim.query claim.row
