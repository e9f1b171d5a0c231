-- Certificates that are printed, and what the checker says of them.
use Rattle.std.specs.Prelude.{◌≡◌, ℕ, List, ◌++◌, Contains, None}
use Rattle.cqa_value.specs.declared.value.Value.{Value}
use Rattle.cqa_value.specs.Valid.{IsValidValue, IsValidRow}
use Rattle.cqa_model.specs.declared.query.Op.{Op}
use Rattle.cqa_model.specs.declared.query.ColRef.{ColRef}
use Rattle.cqa_model.specs.declared.query.Cond.TheVariants.{Test}
use Rattle.cqa_model.specs.declared.query.Query.{Query}
use Rattle.cqa_model.specs.Database.{Table, IsDatabase}
use Rattle.cqa_model.specs.Plan.{IsPlanOf}
use Rattle.cqa_model.specs.Query.{FitsDatabase}
use Rattle.cqa_model.specs.Valid.{AreValid}
use Rattle.block_tree.specs.declared.cause.RewriteCheck.{RewriteCheck}
use Rattle.block_tree.specs.declared.cause.RewriteCheck.TheVariants.{Verified}
use Rattle.query_resolve.specs.Checks.{answer_fault}
use Rattle.rewrite_check.specs.Spelling.{ChecksRewriting}
use Rattle.rewrite_text.specs.Certificates.{IsCertificate}
use Rattle.rewrite_text.specs.Texts.{first_line}

-- the literals of a query's conditions are integers of 64 bits, or short texts of UTF-8
abbrev pub HasValidLiterals : Query → Type 0
HasValidLiterals q = (col : ColRef) (op : Op) (value : Value) → Contains q.conds (Test col op value) → IsValidValue value

-- A text is verified: it has the first line of a certificate, and of what stands behind it one thing is said, that it is verified.
pub record IsVerified (text : List ℕ) : Type 0 where
  pub statements : List ℕ
  pub whole : text ≡ first_line ++ statements
  pub checks : ChecksRewriting statements Verified
  pub only : (reply : RewriteCheck) → ChecksRewriting statements reply → reply ≡ Verified

-- The certificate of a row by the plan of a query is verified, where the tables, the query's literals and the row could be written as
-- statements.
abbrev pub PrintedIsVerified : Type 0
PrintedIsVerified =
    (db : List Table) (q : Query) (row : List Value) (plan : List ℕ) (text : List ℕ) → IsDatabase db → AreValid db → FitsDatabase q db → HasValidLiterals q → IsValidRow row →
    answer_fault db q row ≡ None → IsPlanOf q plan → IsCertificate db q row plan text → IsVerified text
