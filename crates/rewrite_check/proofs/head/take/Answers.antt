use Rattle.std.proofs.Common.{refl, sym, ◌∙◌, subst, true≢false}
use Rattle.rewrite_check.specs.Reading.{HasOpening}
use Rattle.rewrite_check.proofs.Steps.{no_create, no_claim, no_opening, none_asked}
use Rattle.rewrite_check.proofs.head.take.Goals as goal

pub returns-then-branch-clause-leads : goal.returns-then-branch-clause-leads
returns-then-branch-clause-leads c = λ text h.
    let made = c.in_ok-made-in-Create.ensures in
    (c.in-Create.raw, subst (HasOpening text) c.in-Create.is h, made.can.0 c.if-branch.true, made.table c.if-branch.true)

pub returns-else-branch-clause-bad : goal.returns-else-branch-clause-bad
returns-else-branch-clause-bad c = (
  refl,
  λ text h.
      no_create c.args.tables.now c.in-Create.raw (λ can. true≢false (sym (c.in_ok-made-in-Create.ensures.can.1 can) ∙ c.if-branch.false)) text (subst (HasOpening text) c.in-Create.is h),
)

pub returns-in-None-clause-bad : goal.returns-in-None-clause-bad
returns-in-None-clause-bad c = (
  refl,
  λ text h.
      let db = c.args.tables.now in
      let row = c.in-Prove.row in
      let select = c.in-Prove.select in
      no_claim db row select (none_asked db row select c.in_ok-claim-in-Prove.field-0 c.in-None.is c.in_ok-claim-in-Prove.ensures) text (subst (HasOpening text) c.in-Prove.is h),
)

pub returns-in-Other-clause-bad : goal.returns-in-Other-clause-bad
returns-in-Other-clause-bad c = (refl, λ text h. no_opening c.args.tables.now text (subst (HasOpening text) c.in-Other.is h))
