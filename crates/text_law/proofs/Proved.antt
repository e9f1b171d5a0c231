-- A certificate that a session replies is verified.
use Rattle.std.proofs.Common.{inl, inr, ℕ, List, Ok, sym, subst}
use Rattle.std.specs.List.{AllByRecursion, AllZip}
use Rattle.cqa_value.specs.declared.value.Value.{Value}
use Rattle.cqa_value.specs.Valid.{IsValidValue}
use Rattle.cqa_value.proofs.Words.{member_by_recursion, all_zip_right}
use Rattle.cqa_model.specs.declared.query.ColRef.{ColRef}
use Rattle.cqa_model.specs.declared.query.Cond.TheVariants.{Test}
use Rattle.cqa_model.specs.declared.query.Op.{Op}
use Rattle.cqa_model.specs.declared.query.Query.{Query}
use Rattle.cqa_model.specs.Database.{Table}
use Rattle.spj_syntax.specs.declared.tree.RawCond.{RawCond}
use Rattle.spj_syntax.specs.declared.tree.RawCond.TheVariants as written
use Rattle.spj_syntax.specs.declared.tree.Select.{Select}
use Rattle.spj_syntax.specs.declared.tree.Statement.TheVariants as statements
use Rattle.spj_syntax.specs.declared.tree.Verb.TheVariants as verbs
use Rattle.spj_syntax.specs.Texts.{HasStatement}
use Rattle.reading_law.specs.Texts.{HasValidLiteral}
use Rattle.reading_law.proofs.Storing.{proves_of_valid_values}
use Rattle.query_resolve.specs.Resolved.{IsCondOf}
use Rattle.reply_text.specs.declared.reply.Reply.TheVariants.{Certificate}
use Rattle.session_state.specs.State.{State, IsState}
use Rattle.reason_statements.specs.Prove.{ProvesRow}
use Rattle.command_shell.proofs.Sayings.{does_as_said}
use Rattle.rewrite_text.specs.Printed.{HasValidLiterals, IsVerified}
use Rattle.rewrite_text.proofs.Verified.{printed_is_verified}
use Rattle.text_law.specs.Proved.{ProvedIsVerified}

-- a literal of the query is one that was written
literal_valid : (db : List Table) (names : List (List ℕ)) (w : RawCond) (col : ColRef) (op : Op) (value : Value) → IsCondOf db names w (Test col op value) → HasValidLiteral w → IsValidValue value
literal_valid db names (written.Join left right) col op value is valid = absurd is
literal_valid db names (written.Test c o v) col op value is valid = subst IsValidValue (sym is.2) valid

literals_valid : (db : List Table) (select : Select) (q : Query) → AllZip (IsCondOf db select.tables) select.conds q.conds → AllByRecursion HasValidLiteral select.conds → HasValidLiterals q
literals_valid db select q are valid col op value m =
    let w = all_zip_right (IsCondOf db select.tables) select.conds q.conds (Test col op value) are m in
    literal_valid db select.tables w.0 col op value w.2 (member_by_recursion HasValidLiteral select.conds valid w.0 w.1)

verified : (old new : State) (row : List Value) (select : Select) (certificate : List ℕ) (text : List ℕ) → IsState old → HasStatement text (statements.Asking (verbs.Prove row) select)
    → ProvesRow old row select (Certificate certificate) new → IsVerified certificate
verified old new row select certificate text state says proves = elim proves.replied [
  | inl r ↦ absurd (let e = r.replies in cc)
  | inr d ↦
      let plan = d.1.0.1 in
      let values = proves_of_valid_values text says.tokens row select says.spelled says.fit says.written in
      printed_is_verified old.tables proves.query row plan.0 certificate state.database state.valid proves.resolved.fits (literals_valid old.tables select proves.query proves.resolved.conds values.1) values.0 d.0 plan.1 plan.2
]

pub proved_is_verified : ProvedIsVerified
proved_is_verified old new text block row select certificate state says step = elim (does_as_said old new text block (Certificate certificate) step (Ok (statements.Asking (verbs.Prove row) select)) says) [
  | inl r ↦ absurd (let e = r.replies in cc)
  | inr d ↦ verified old new row select certificate text state says d.1
]
