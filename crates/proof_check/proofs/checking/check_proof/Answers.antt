use Rattle.std.proofs.Common.{ap, ◌∙◌, IfOk}
use Rattle.cnf_form.specs.Lines.{lines}
use Rattle.proof_check.specs.Verdicts.{Checks}
use Rattle.proof_check.proofs.Replies.{from_log, only_reply, sound_reply}
use Rattle.proof_check.proofs.checking.check_proof.Goals as goal

exact : (c : goal.After-drop-cnf) → IfOk c.check_log.result (Checks c.args.bytes.now)
exact c = from_log c.args.bytes.now c.rest.result.now c.in-Ok.cnf c.in-Ok.ensures.exact.0 (ap lines c.rest.ensures ∙ c.in-Ok.ensures.exact.1) c.check_log.result c.check_log.ensures

pub returns-in-Ok-clause-exact : goal.returns-in-Ok-clause-exact
returns-in-Ok-clause-exact c = exact c

pub returns-in-Ok-clause-only : goal.returns-in-Ok-clause-only
returns-in-Ok-clause-only c = only_reply c.args.bytes.now c.check_log.result (exact c)

pub returns-in-Ok-clause-sound : goal.returns-in-Ok-clause-sound
returns-in-Ok-clause-sound c = sound_reply c.args.bytes.now c.check_log.result (exact c)
