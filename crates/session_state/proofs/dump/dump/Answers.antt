use Rattle.std.proofs.Common.{inr, refl, ap, subst, ◌<◌, ◌∙◌, arith}
use Rattle.std.proofs.lemmas.List.{take_all}
use Rattle.csv_rows.specs.Dumps.{dump_text}
use Rattle.reply_text.specs.declared.reply.Reply.TheVariants.{Dumped}
use Rattle.session_state.proofs.Dumping.{next_table}
use Rattle.session_state.proofs.dump.dump.Goals as goal

pub loop-table-preserved : goal.loop-table-preserved
loop-table-preserved c =
    let db = c.database-database.result.now in
    next_table db c.loop-table.table c.schema.result.now c.rows.result c.loop-table.script.items c.in_ok-script.script.items
    (subst (λ n. c.loop-table.table < n) c.count-table-end.ensures.count c.loop-table-test.true) c.schema.ensures.is c.rows.ensures.is c.loop-table.invariant c.in_ok-script.ensures

pub returns : goal.returns
returns c =
    let db = c.database-database.result.now in
    let count = c.count-table-end.ensures.count in
    let past = c.loop-table-test.false in
    let script = c.from_vec.ensures ∙ c.loop-table.invariant ∙ ap dump_text (take_all c.loop-table.table db (omega (arith, count, past))) in
    inr (refl, record { replies = ap Dumped (script ∙ ap dump_text c.database-database.ensures.is); keeps = refl })
