use Rattle.std.proofs.Common.{inr, refl, sym, subst, ◌<◌, ◌+◌, take, arith}
use Rattle.std.specs.List.{AllZip}
use Rattle.std.proofs.lemmas.List.{take_all}
use Rattle.session_state.specs.ShowConflicts.{IsConflictLine}
use Rattle.session_state.proofs.TableLines.{next_line}
use Rattle.session_state.proofs.show_conflicts.show_conflicts.Goals as goal

pub loop-table-preserved : goal.loop-table-preserved
loop-table-preserved c =
    let db = c.database-database.result.now in
    subst (λ lines. AllZip IsConflictLine (take (c.loop-table.table + 1) db) lines) (sym c.in_ok-push.ensures.ok)
    (next_line IsConflictLine db c.loop-table.lines c.loop-table.table c.in_ok-conflict_line.field-0 (subst (λ n. c.loop-table.table < n) c.count-table-end.ensures.count c.loop-table-test.true) c.loop-table.invariant c.in_ok-conflict_line.ensures)

pub returns : goal.returns
returns c =
    let db = c.database-database.result.now in
    let lines = c.loop-table.lines in
    let count = c.count-table-end.ensures.count in
    let past = c.loop-table-test.false in
    let each = subst (λ tables. AllZip IsConflictLine tables lines) (take_all c.loop-table.table db (omega (arith, count, past))) c.loop-table.invariant in
    inr (refl, record { lines = lines; each = subst (λ tables. AllZip IsConflictLine tables lines) c.database-database.ensures.is each; replies = refl; keeps = refl })
