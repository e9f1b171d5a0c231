use Rattle.std.proofs.Common.{◌≡◌, true, Bool, subst, sym}
use Rattle.std.specs.Prelude.{◌↔◌}
use Rattle.proof_check.specs.declared.reply.ProofReply.TheVariants.{Verified}
use Rattle.proof_check.specs.Verdicts.{Checks}
use Rattle.group_text.proofs.Replying.{verified_exactly}
use Rattle.group_text.proofs.judging.is_checked.Goals as goal

pub returns : goal.returns
returns c = subst (λ (yes : Bool). (yes ≡ true) ↔ Checks c.args.text.now Verified) (sym c.is_verified.ensures) (verified_exactly c.args.text.now c.in_ok-reply.reply c.in_ok-reply.ensures.exact c.in_ok-reply.ensures.only)
