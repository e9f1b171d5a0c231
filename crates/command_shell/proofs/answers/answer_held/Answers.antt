use Rattle.std.proofs.Common.{◌≡◌, arith, ◌≤◌, ℕ, List, ap, drop, length, length-drop}
use Rattle.command_shell.proofs.Progress.{start, more, done_blank, stopped, closed}
use Rattle.command_shell.proofs.answers.answer_held.Goals as goal

shorter : (old new : List ℕ) (count most : ℕ) → new ≡ drop count old → length old ≤ most → length new ≤ most
shorter old new count most is few = omega (arith, ap length is, length-drop count old, few)

pub loop-text-init : goal.loop-text-init
loop-text-init g c = record { fewer = omega arith; so_far = start c.args.taker.now c.args.session.now c.args.held.now c.args.ended (g.T.Taker.written c.args.taker.now); later = omega arith }

pub loop-text-preserved : goal.loop-text-preserved
loop-text-preserved g c = record {
  fewer = shorter c.loop-text.held _ c.in-Statement.rest _ c.skip.ensures c.loop-text.invariant.fewer;
  so_far = rw c.skip.ensures (more c.loop-text.held _ _ _ c.in_ok-refused-in-Statement.field-0 (Unit {0}) c.in-Statement.text c.in-Statement.block c.in-Statement.rest c.loop-text.invariant.so_far c.in-Statement.ensures (rw c.bytes.ensures at c.in_ok-refused-in-Statement.ensures.row));
  later = (let a = c.loop-text.invariant.later in let b = c.answer_at.ensures.later in omega (arith, a, b));
}

pub returns-in_err-refused-in-Statement-clause-row : goal.returns-in_err-refused-in-Statement-clause-row
returns-in_err-refused-in-Statement-clause-row g c =
    stopped c.from_residual.result c.in_err-refused-in-Statement.field-0.0 c.from_residual.ensures.1 c.loop-text.held _ _ _ _ _ c.in-Statement.text c.in-Statement.block c.in-Statement.rest (λ rose. let a = c.loop-text.invariant.later in omega (arith, rose, a))
    c.loop-text.invariant.so_far c.in-Statement.ensures (rw c.bytes.ensures at c.in_err-refused-in-Statement.ensures.row) _

pub returns-in-Blank-clause-row : goal.returns-in-Blank-clause-row
returns-in-Blank-clause-row g c = done_blank c.loop-text.held c.loop-text.invariant.so_far c.in-Blank.ensures

pub returns-in-Part-clause-row : goal.returns-in-Part-clause-row
returns-in-Part-clause-row g c =
    closed _ _ c.args.ended c.close.result _ _ (λ rose. let a = c.loop-text.invariant.later in omega (arith, rose, a)) c.loop-text.invariant.so_far c.in-Part.ensures c.close.ensures.row
