-- What is printed of a row that is certain by a plan, and when nothing is.
use Rattle.std.specs.Prelude.{◌≡◌, ◌⊎◌, ◌<◌, ℕ, List, [], length, Contains}
use Rattle.cqa_value.specs.declared.value.Value.{Value}
use Rattle.cqa_model.specs.declared.query.Query.{Query}
use Rattle.cqa_model.specs.Database.{Table, stored}
use Rattle.script_lex.specs.declared.lexer.TheConstants.{LONGEST_TEXT}
use Rattle.block_tree.specs.declared.node.Node.{Node}
use Rattle.rewrite_text.specs.declared.draft.TheConstants.{LONGEST_CERTIFICATE}
use Rattle.rewrite_text.specs.Made.{IsMade}
use Rattle.rewrite_text.specs.Texts.{certificate_statements, certificate_bytes}

-- a statement is longer than one may be, or all of them together are
abbrev pub IsTooLong : List (List ℕ) → Type 0
IsTooLong statements = ((statement : List ℕ) × Contains statements statement × (LONGEST_TEXT < length statement)) ⊎ (LONGEST_CERTIFICATE < length (certificate_bytes statements))

-- the text is the certificate of a row by a plan: the statements of the tree that the plan makes, which aren't too long
pub record IsCertificate (db : List Table) (q : Query) (row : List Value) (plan : List ℕ) (text : List ℕ) : Type 0 where
  pub nodes : List Node
  pub made : IsMade q (stored db) row [] plan nodes
  pub is : text ≡ certificate_bytes (certificate_statements db q row plan nodes)
  pub short : IsTooLong (certificate_statements db q row plan nodes) → ⊥

-- the certificate of a row by a plan would be too long
pub record HasLongCertificate (db : List Table) (q : Query) (row : List Value) (plan : List ℕ) : Type 0 where
  pub nodes : List Node
  pub made : IsMade q (stored db) row [] plan nodes
  pub long : IsTooLong (certificate_statements db q row plan nodes)
