use Rattle.std.proofs.Common.{List, ℕ, subst, sym}
use Rattle.repair_back.specs.Flags.{AreTablesOf}
use Rattle.repair_back.specs.Results.{IsRepairOver, AreTablePicks}
use Rattle.union_ask.proofs.Framing.{are-tables}
use Rattle.union_ask.proofs.repair.union_repair.Goals as goal

pub tables_from_model-requires-clause-tables : goal.tables_from_model-requires-clause-tables
tables_from_model-requires-clause-tables c =
    let parts = c.args.parts.now in
    subst (AreTablesOf parts.db.now) (sym c.as_slice.ensures) (are-tables parts.db.now parts.queries.now parts.parts.fits c.in_ok-frame.frame.tables c.in_ok-frame.ensures.tables)

pub returns-clause-repair : goal.returns-clause-repair
returns-clause-repair c =
    let parts = c.args.parts.now in
    let of = subst (λ (tables : List ℕ). IsRepairOver parts.db.now tables c.in_ok-repair.repair.kept) c.as_slice.ensures c.in_ok-repair.ensures.repair in
    record { tables = c.in_ok-frame.frame.tables; are_tables = c.in_ok-frame.ensures.tables; kept = of.0; repair = of.1; are_kept = of.2 }

pub returns-clause-picks : goal.returns-clause-picks
returns-clause-picks c =
    let parts = c.args.parts.now in
    let picks = subst (λ (tables : List ℕ). AreTablePicks parts.db.now tables c.args.rows.now c.args.model.now c.in_ok-repair.repair.kept) c.as_slice.ensures c.in_ok-repair.ensures.picks in
    λ t used. picks t ((c.in_ok-frame.ensures.tables.exactly t).1 used)
