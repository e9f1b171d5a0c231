use Rattle.std.proofs.Common.{◌<◌, ◌^◌, length, sym, subst}
use Rattle.spj_syntax.specs.declared.tree.Select.{Select}
use Rattle.rewrite_check.specs.Spelling.{Ordered}
use Rattle.rewrite_check.specs.Reading.{IsAtEnd, IsBadStatement, IsDueAt}
use Rattle.rewrite_check.proofs.Moving.{more_read, one_read, bad_behind, bad_end, bad_out}
use Rattle.rewrite_check.proofs.Steps.{some_text}
use Rattle.rewrite_check.proofs.nodes.nodes.Goals as goal

pub returns-in_err-text-clause-bad : goal.returns-in_err-text-clause-bad
returns-in_err-text-clause-bad c =
    let old = c.args.certificate.now in
    let mid = c.loop-text.certificate in
    let at = c.args.script.now in
    let on = c.loop-text.script in
    bad_out c.from_residual.result c.in_err-text.field-0.0 (λ n. IsDueAt on n × (IsAtEnd on → ⊥)) (IsBadStatement (Ordered old) at)
    (λ n h. bad_behind (Ordered old) (Ordered mid) at on n c.loop-text.invariant.0 (bad_end (Ordered mid) on n h.0 h.1)) c.from_residual.ensures.1 c.in_err-text.ensures.broken

pub loop-text-preserved : goal.loop-text-preserved
loop-text-preserved c =
    let old = c.args.certificate.now in
    let mid = c.loop-text.certificate in
    let new = c.list.new.certificate in
    let at = c.args.script.now in
    let on = c.loop-text.script in
    let next = c.next_text.new.self in
    let taken = some_text on next c.in_ok-text.field-0 c.in-Some.text c.in-Some.is c.in_ok-text.ensures.taken in (
      more_read (Ordered old) (Ordered mid) (Ordered new) at on next c.loop-text.invariant.0 (one_read (Ordered mid) (Ordered new) on next c.in-Some.text.now taken c.in_ok-list.ensures.leads),
      subst (λ (z : Select). length z.tables < 2 ^ 32) (sym c.in_ok-list.ensures.query) c.loop-text.invariant.1,
    )
