use Rattle.std.proofs.Common.{◌≡◌, ◌<◌, ◌∙◌, ℕ, List, [], length, get_or, refl, sym, ap, subst, arith}
use Rattle.std.proofs.lemmas.List.{get_or_default}
use Rattle.std.proofs.lemmas.List.Elements.{Contains-get_or}
use Rattle.cqa_value.specs.declared.value.Value.{Value}
use Rattle.cqa_model.specs.Blocks.{IsPick}
use Rattle.table_blocks.specs.Tables.{rows_at, key_at}
use Rattle.repair_back.specs.Flags.{IsFlagged, HasOneFlagEach, flags_at}
use Rattle.repair_back.proofs.Starting.{all-more, all-long, all-chosen, all-picks}
use Rattle.repair_back.proofs.kept.settle_all.Goals as goal

pub schema-requires : goal.schema-requires
schema-requires c = c.requires.tables.there _ (Contains-get_or c.args.tables.now c.loop-table.table-index 0 c.loop-table-test.true)

pub settle-requires-clause-size : goal.settle-requires-clause-size
settle-requires-clause-size c =
    let table : ℕ = get_or c.args.tables.now c.loop-table.table-index 0 in
    let there : table < length c.args.db.now = c.requires.tables.there table (Contains-get_or c.args.tables.now c.loop-table.table-index 0 c.loop-table-test.true) in
    let size = c.loop-table.invariant.size in
    let read : get_or c.loop-table.kept table c.index-kept-table.result ≡ flags_at c.loop-table.kept table = get_or_default c.loop-table.kept table c.index-kept-table.result [] (omega (arith, there, size)) in
    ap length read ∙ (all-long c.args.db.now c.args.tables.now c.args.kept.now c.loop-table.kept c.loop-table.table-index table c.requires.tables c.requires.long c.loop-table-test.true refl c.loop-table.invariant ∙ ap length (sym c.rows.ensures.is))

pub loop-table-preserved : goal.loop-table-preserved
loop-table-preserved c =
    let db = c.args.db.now in
    let table : ℕ = get_or c.args.tables.now c.loop-table.table-index 0 in
    let there : table < length db = c.requires.tables.there table (Contains-get_or c.args.tables.now c.loop-table.table-index 0 c.loop-table-test.true) in
    let size = c.loop-table.invariant.size in
    let read : get_or c.loop-table.kept table c.index-kept-table.result ≡ flags_at c.loop-table.kept table = get_or_default c.loop-table.kept table c.index-kept-table.result [] (omega (arith, there, size)) in
    let key = c.as_slice-key.ensures ∙ c.schema.ensures.key in
    all-more db c.args.tables.now c.args.kept.now c.loop-table.kept c.loop-table.table-index table c.requires.tables c.loop-table-test.true refl c.loop-table.invariant c.settle.new.self
    (subst (λ (k : List ℕ). HasOneFlagEach k (rows_at db table) c.settle.new.self) key (subst (λ (rows : List (List Value)). HasOneFlagEach c.as_slice-key.result.now rows c.settle.new.self) c.rows.ensures.is c.settle.ensures.choice))
    (λ p f. subst (λ g. IsPick (key_at db table) (rows_at db table) (IsFlagged g) p) read
    (subst (λ (k : List ℕ). IsPick k (rows_at db table) (IsFlagged (get_or c.loop-table.kept table c.index-kept-table.result)) p) key
    (subst (λ (rows : List (List Value)). IsPick c.as_slice-key.result.now rows (IsFlagged (get_or c.loop-table.kept table c.index-kept-table.result)) p) c.rows.ensures.is (c.settle.ensures.picks p f))))

pub returns-clause-chosen : goal.returns-clause-chosen
returns-clause-chosen c = all-chosen c.args.db.now c.args.tables.now c.args.kept.now c.loop-table.kept c.loop-table.table-index c.loop-table-test.false c.loop-table.invariant

pub returns-clause-picks : goal.returns-clause-picks
returns-clause-picks c = all-picks c.args.db.now c.args.tables.now c.args.kept.now c.loop-table.kept c.loop-table.table-index c.loop-table-test.false c.loop-table.invariant
