use Rattle.std.proofs.Common.{◌≡◌, ap, ◌∙◌, subst}
use Rattle.std.proofs.lemmas.Result.{IfOk-weaker}
use Rattle.block_tree.specs.declared.cause.RewriteCheck.TheVariants.{BadText, Verified}
use Rattle.rewrite_check.specs.Spelling.{ChecksRewriting}
use Rattle.rewrite_check.specs.Laws.{ShowsCertain}
use Rattle.rewrite_check.specs.Reading.{IfRefused}
use Rattle.rewrite_check.proofs.Kept.{spelled_claim, spelled_order}
use Rattle.rewrite_check.proofs.Outcome.{text_or_judged}
use Rattle.rewrite_check.proofs.Proving.{verified_proves}
use Rattle.rewrite_check.proofs.Unique.{checks_once}
use Rattle.rewrite_check.proofs.checking.check_rewriting.Goals as goal

pub judged-said-requires : goal.judged-said-requires
judged-said-requires c =
    let bytes = c.args.bytes.now in
    let here = c.in-Ok.certificate in
    record { fits = (spelled_claim bytes here c.in-Ok.ensures.spelled).1.fits; order = spelled_order bytes here c.in-Ok.ensures.spelled; few = c.in-Ok.ensures.few }

pub returns-in-Ok-clause-exact : goal.returns-in-Ok-clause-exact
returns-in-Ok-clause-exact c = text_or_judged c.args.bytes.now c.in-Ok.certificate c.judged-said.result c.in-Ok.ensures.spelled c.judged-said.ensures

pub returns-in-Ok-clause-only : goal.returns-in-Ok-clause-only
returns-in-Ok-clause-only c = λ reply is.
    let bytes = c.args.bytes.now in
    IfOk-weaker c.judged-said.result (ChecksRewriting bytes) (λ r. r ≡ reply) (λ r h. checks_once bytes r reply h is) (text_or_judged bytes c.in-Ok.certificate c.judged-said.result c.in-Ok.ensures.spelled c.judged-said.ensures)

pub returns-in-Ok-clause-sound : goal.returns-in-Ok-clause-sound
returns-in-Ok-clause-sound c =
    let bytes = c.args.bytes.now in
    IfOk-weaker c.judged-said.result (ChecksRewriting bytes) (λ r. r ≡ Verified → ShowsCertain bytes) (λ r h e. verified_proves bytes (subst (ChecksRewriting bytes) e h)) (text_or_judged bytes c.in-Ok.certificate c.judged-said.result c.in-Ok.ensures.spelled c.judged-said.ensures)

pub returns-in-Err-Refused-clause-only : goal.returns-in-Err-Refused-clause-only
returns-in-Err-Refused-clause-only c = λ reply is.
    let bytes = c.args.bytes.now in
    let number = c.in-Err-Refused.statement in
    let bad = subst (IfRefused (λ n. ChecksRewriting bytes (BadText n))) c.in-Err-Refused.field-0-is c.in-Err-Refused.ensures.bad in
    ap BadText c.in-Err-Refused.statement-is ∙ checks_once bytes (BadText number) reply bad is
