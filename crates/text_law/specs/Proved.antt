-- A certificate that is replied to a `prove`.
use Rattle.std.specs.Prelude.{ℕ, List, Option}
use Rattle.cqa_value.specs.declared.value.Value.{Value}
use Rattle.spj_syntax.specs.declared.tree.Select.{Select}
use Rattle.spj_syntax.specs.declared.tree.Statement.TheVariants.{Asking}
use Rattle.spj_syntax.specs.declared.tree.Verb.TheVariants.{Prove}
use Rattle.spj_syntax.specs.Texts.{HasStatement}
use Rattle.reply_text.specs.declared.reply.Reply.TheVariants.{Certificate}
use Rattle.session_state.specs.State.{State, IsState}
use Rattle.command_shell.specs.Machine.{Step}
use Rattle.rewrite_text.specs.Printed.{IsVerified}

-- The law: where a valid state may reply a certificate to a `prove`, the certificate is verified.
abbrev pub ProvedIsVerified : Type 0
ProvedIsVerified = (old new : State) (text : List ℕ) (block : Option (List ℕ)) (row : List Value) (select : Select) (certificate : List ℕ) → IsState old → HasStatement text (Asking (Prove row) select)
    → Step old text block (Certificate certificate) new → IsVerified certificate
