use Rattle.std.proofs.Common.{◌≡◌, ◌<◌, ◌∙◌, ℕ, [], length, get_or, refl, sym, ap, arith}
use Rattle.std.proofs.lemmas.List.{get_or_default}
use Rattle.std.proofs.lemmas.List.Elements.{Contains-get_or}
use Rattle.repair_back.specs.Flags.{flags_at}
use Rattle.repair_back.proofs.Naming.{tables-more}
use Rattle.repair_back.proofs.repair.add_all.Goals as goal

pub rows-requires : goal.rows-requires
rows-requires c = c.requires.tables.there _ (Contains-get_or c.args.tables.now c.loop-table.table-index 0 c.loop-table-test.true)

pub bounds-kept-table : goal.bounds-kept-table
bounds-kept-table c =
    let there = c.requires.tables.there (get_or c.args.tables.now c.loop-table.table-index 0) (Contains-get_or c.args.tables.now c.loop-table.table-index 0 c.loop-table-test.true) in
    let size = c.requires.chosen.size in
    omega (arith, there, size)

pub add_names-requires-clause-size : goal.add_names-requires-clause-size
add_names-requires-clause-size c =
    let table : ℕ = get_or c.args.tables.now c.loop-table.table-index 0 in
    let m = Contains-get_or c.args.tables.now c.loop-table.table-index 0 c.loop-table-test.true in
    let there : table < length c.args.db.now = c.requires.tables.there table m in
    let size = c.requires.chosen.size in
    let read : c.index-kept-table.result ≡ flags_at c.args.kept.now table = c.index-kept-table.is ∙ get_or_default c.args.kept.now table c.index-kept-table.result [] (omega (arith, there, size)) in
    ap length read ∙ ((c.requires.chosen.each table m).size ∙ (ap length (sym c.rows.ensures.is) ∙ sym c.len-count.ensures))

pub loop-table-preserved : goal.loop-table-preserved
loop-table-preserved c =
    let table : ℕ = get_or c.args.tables.now c.loop-table.table-index 0 in
    let there : table < length c.args.db.now = c.requires.tables.there table (Contains-get_or c.args.tables.now c.loop-table.table-index 0 c.loop-table-test.true) in
    let size = c.requires.chosen.size in
    let read : c.index-kept-table.result ≡ flags_at c.args.kept.now table = c.index-kept-table.is ∙ get_or_default c.args.kept.now table c.index-kept-table.result [] (omega (arith, there, size)) in
    tables-more c.args.tables.now c.args.kept.now c.args.names.now.items c.loop-table.names.items c.add_names.new.names.items c.loop-table.table-index table c.loop-table-test.true refl c.loop-table.invariant
    c.index-kept-table.result read c.in_ok-add_names.ensures
