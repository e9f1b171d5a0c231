use Rattle.std.proofs.Common.{◌∙◌, length, sym, ap, subst, arith}
use Rattle.cqa_value.proofs.Words.{clash}
use Rattle.cqa_model.specs.Repairs.{SharesKey}
use Rattle.row_blocks.specs.Blocks.{blocks_of}
use Rattle.table_blocks.specs.Tables.{rows_at, key_at}
use Rattle.range_ask.specs.Ranges.{meets}
use Rattle.range_ask.specs.Picks.{turned}
use Rattle.range_ask.specs.Finding.{IsMetSoFar}
use Rattle.range_ask.specs.Reaching.{AreExtremes}
use Rattle.range_ask.proofs.Blocked.{parted}
use Rattle.range_ask.proofs.Chosen.{avoided-in, spot-in, near-fits}
use Rattle.range_ask.proofs.Closed.{extremes-none}
use Rattle.range_ask.proofs.Read.{read-on, read-closed, read-all, read-fits, read-first, read-none}
use Rattle.range_ask.proofs.extremes.find_extremes.Goals as goal

pub returns-in_default : goal.returns-in_default
returns-in_default c =
    let look = c.args.look.now in
    let p = meets look.tests.now in
    let key = key_at c.args.db.now c.args.table in
    let rows = rows_at c.args.db.now c.args.table in
    let all = blocks_of key rows in
    let whole = parted c.args.db.now c.args.table c.rows-left.result c.rows-left.ensures.is c.rows-left.ensures.in_order in
    let are = whole.blocks_are in
    let none = sym c.rows-left.ensures.is ∙ c.in_default.ensures.steps.0 in
    (all, whole, read-none key rows all are (λ front. AreExtremes look.way p look.col rows front c.blank-ends.result) none (extremes-none look.way p look.col rows c.blank-ends.result c.blank-ends.ensures.avoids c.blank-ends.ensures.none_avoids c.blank-ends.ensures.meets c.blank-ends.ensures.none_meets c.blank-ends.ensures.top c.blank-ends.ensures.wide))

pub loop-row-init : goal.loop-row-init
loop-row-init c =
    let look = c.args.look.now in
    let p = meets look.tests.now in
    let key = key_at c.args.db.now c.args.table in
    let rows = rows_at c.args.db.now c.args.table in
    let all = blocks_of key rows in
    let whole = parted c.args.db.now c.args.table c.rows-left.result c.rows-left.ensures.is c.rows-left.ensures.in_order in
    let are = whole.blocks_are in
    read-first key rows all are (λ front. AreExtremes look.way p look.col rows front c.blank-ends.result) (λ block n. IsMetSoFar look.way p look.col block n c.begun-held.result) c.in-Some.first.now c.next.new.self c.begun-held.result.start c.begun-held.result.read
    (sym c.rows-left.ensures.is ∙ c.in-Some.ensures.steps) c.begun-held.ensures.start c.begun-held.ensures.read
    (extremes-none look.way p look.col rows c.blank-ends.result c.blank-ends.ensures.avoids c.blank-ends.ensures.none_avoids c.blank-ends.ensures.meets c.blank-ends.ensures.none_meets c.blank-ends.ensures.top c.blank-ends.ensures.wide) (λ block e. c.begun-held.ensures.met block e)

pub read_row-held-requires : goal.read_row-held-requires
read_row-held-requires c =
    let key = key_at c.args.db.now c.args.table in
    let rows = rows_at c.args.db.now c.args.table in
    let all = blocks_of key rows in
    let whole = parted c.args.db.now c.args.table c.rows-left.result c.rows-left.ensures.is c.rows-left.ensures.in_order in
    let are = whole.blocks_are in
    let i = c.loop-row.invariant in
    let few = c.rows-left.ensures.few in
    let long = ap length c.rows-left.ensures.is in
    let z = read-fits key rows all are _ _ _ _ _ _ i in
    let r = i.read_in in
    omega (arith, few, long, z, r)

pub close-requires-clause-avoids : goal.close-requires-clause-avoids
close-requires-clause-avoids c =
    let look = c.args.look.now in
    let p = meets look.tests.now in
    let key = key_at c.args.db.now c.args.table in
    let rows = rows_at c.args.db.now c.args.table in
    let all = blocks_of key rows in
    let whole = parted c.args.db.now c.args.table c.rows-left.result c.rows-left.ensures.is c.rows-left.ensures.in_order in
    let are = whole.blocks_are in
    let i = c.loop-row.invariant in
    let few = c.rows-left.ensures.few in
    let long = ap length c.rows-left.ensures.is in
    let z = read-fits key rows all are _ _ _ _ _ _ i in
    let r = i.read_in in
    let a = avoided-in (turned look.way) p look.col i.block c.loop-row.held.read i.begun c.loop-row.held.missing c.loop-row.held.near i.so_far.missing i.so_far.near in
    omega (arith, few, long, z, r, a)

pub close-requires-clause-meets : goal.close-requires-clause-meets
close-requires-clause-meets c =
    let look = c.args.look.now in
    let p = meets look.tests.now in
    let key = key_at c.args.db.now c.args.table in
    let rows = rows_at c.args.db.now c.args.table in
    let all = blocks_of key rows in
    let whole = parted c.args.db.now c.args.table c.rows-left.result c.rows-left.ensures.is c.rows-left.ensures.in_order in
    let are = whole.blocks_are in
    let i = c.loop-row.invariant in
    let few = c.rows-left.ensures.few in
    let long = ap length c.rows-left.ensures.is in
    let z = read-fits key rows all are _ _ _ _ _ _ i in
    let r = i.read_in in
    let a = spot-in look.way p look.col i.block c.loop-row.held.read i.begun c.loop-row.held.far i.so_far.far in
    omega (arith, few, long, z, r, a)

pub close-requires-clause-near : goal.close-requires-clause-near
close-requires-clause-near c =
    let look = c.args.look.now in
    let p = meets look.tests.now in
    let key = key_at c.args.db.now c.args.table in
    let rows = rows_at c.args.db.now c.args.table in
    let all = blocks_of key rows in
    let whole = parted c.args.db.now c.args.table c.rows-left.result c.rows-left.ensures.is c.rows-left.ensures.in_order in
    let are = whole.blocks_are in
    let i = c.loop-row.invariant in
    let few = c.rows-left.ensures.few in
    let long = ap length c.rows-left.ensures.is in
    let z = read-fits key rows all are _ _ _ _ _ _ i in
    let r = i.read_in in
    near-fits (turned look.way) p look.col i.block c.loop-row.held.read c.loop-row.held.start c.loop-row.held.near i.so_far.near (omega (arith, few, long, z, r))

pub close-requires-2-clause-avoids : goal.close-requires-2-clause-avoids
close-requires-2-clause-avoids c =
    let look = c.args.look.now in
    let p = meets look.tests.now in
    let key = key_at c.args.db.now c.args.table in
    let rows = rows_at c.args.db.now c.args.table in
    let all = blocks_of key rows in
    let whole = parted c.args.db.now c.args.table c.rows-left.result c.rows-left.ensures.is c.rows-left.ensures.in_order in
    let are = whole.blocks_are in
    let i = c.loop-row.invariant in
    let few = c.rows-left.ensures.few in
    let long = ap length c.rows-left.ensures.is in
    let z = read-fits key rows all are _ _ _ _ _ _ i in
    let r = i.read_in in
    let a = avoided-in (turned look.way) p look.col i.block c.loop-row.held.read i.begun c.loop-row.held.missing c.loop-row.held.near i.so_far.missing i.so_far.near in
    omega (arith, few, long, z, r, a)

pub close-requires-2-clause-meets : goal.close-requires-2-clause-meets
close-requires-2-clause-meets c =
    let look = c.args.look.now in
    let p = meets look.tests.now in
    let key = key_at c.args.db.now c.args.table in
    let rows = rows_at c.args.db.now c.args.table in
    let all = blocks_of key rows in
    let whole = parted c.args.db.now c.args.table c.rows-left.result c.rows-left.ensures.is c.rows-left.ensures.in_order in
    let are = whole.blocks_are in
    let i = c.loop-row.invariant in
    let few = c.rows-left.ensures.few in
    let long = ap length c.rows-left.ensures.is in
    let z = read-fits key rows all are _ _ _ _ _ _ i in
    let r = i.read_in in
    let a = spot-in look.way p look.col i.block c.loop-row.held.read i.begun c.loop-row.held.far i.so_far.far in
    omega (arith, few, long, z, r, a)

pub close-requires-2-clause-near : goal.close-requires-2-clause-near
close-requires-2-clause-near c =
    let look = c.args.look.now in
    let p = meets look.tests.now in
    let key = key_at c.args.db.now c.args.table in
    let rows = rows_at c.args.db.now c.args.table in
    let all = blocks_of key rows in
    let whole = parted c.args.db.now c.args.table c.rows-left.result c.rows-left.ensures.is c.rows-left.ensures.in_order in
    let are = whole.blocks_are in
    let i = c.loop-row.invariant in
    let few = c.rows-left.ensures.few in
    let long = ap length c.rows-left.ensures.is in
    let z = read-fits key rows all are _ _ _ _ _ _ i in
    let r = i.read_in in
    near-fits (turned look.way) p look.col i.block c.loop-row.held.read c.loop-row.held.start c.loop-row.held.near i.so_far.near (omega (arith, few, long, z, r))

pub overflow_add-held : goal.overflow_add-held
overflow_add-held c =
    let key = key_at c.args.db.now c.args.table in
    let rows = rows_at c.args.db.now c.args.table in
    let all = blocks_of key rows in
    let whole = parted c.args.db.now c.args.table c.rows-left.result c.rows-left.ensures.is c.rows-left.ensures.in_order in
    let are = whole.blocks_are in
    let i = c.loop-row.invariant in
    let few = c.rows-left.ensures.few in
    let long = ap length c.rows-left.ensures.is in
    let z = read-fits key rows all are _ _ _ _ _ _ i in
    let r = i.read_in in
    omega (arith, few, long, z, r)

pub loop-row-preserved-then-same_key : goal.loop-row-preserved-then-same_key
loop-row-preserved-then-same_key c =
    let look = c.args.look.now in
    let p = meets look.tests.now in
    let key = key_at c.args.db.now c.args.table in
    let rows = rows_at c.args.db.now c.args.table in
    let all = blocks_of key rows in
    let whole = parted c.args.db.now c.args.table c.rows-left.result c.rows-left.ensures.is c.rows-left.ensures.in_order in
    let are = whole.blocks_are in
    let i = c.loop-row.invariant in
    let same_key_is = c.as_slice-key.ensures ∙ c.schema.ensures.key in
    read-on key rows all are _ _ _ _ _ _ i c.in-Some-next.row.now c.next-in-loop-row.new.self c.in-Some-next.ensures.steps (λ block n. IsMetSoFar look.way p look.col block n c.read_row-held.result) c.read_row-held.result.start c.read_row-held.result.read
    c.read_row-held.ensures.start c.read_row-held.ensures.read (λ block b e. c.read_row-held.ensures.met block b e)
    (subst (λ k. SharesKey k c.loop-row.last.now c.in-Some-next.row.now) same_key_is (c.same_key.ensures.0 c.if-same_key.true))

pub loop-row-preserved : goal.loop-row-preserved
loop-row-preserved c =
    let look = c.args.look.now in
    let p = meets look.tests.now in
    let key = key_at c.args.db.now c.args.table in
    let rows = rows_at c.args.db.now c.args.table in
    let all = blocks_of key rows in
    let whole = parted c.args.db.now c.args.table c.rows-left.result c.rows-left.ensures.is c.rows-left.ensures.in_order in
    let are = whole.blocks_are in
    let i = c.loop-row.invariant in
    let same_key_is = c.as_slice-key.ensures ∙ c.schema.ensures.key in
    read-closed key rows all are _ _ _ _ _ _ i c.in-Some-next.row.now c.next-in-loop-row.new.self c.in-Some-next.ensures.steps (λ front. AreExtremes look.way p look.col rows front c.close.new.ends) (λ block n. IsMetSoFar look.way p look.col block n c.begun-held-else-same_key.result)
    c.begun-held-else-same_key.result.start c.begun-held-else-same_key.result.read c.begun-held-else-same_key.ensures.start c.begun-held-else-same_key.ensures.read (c.in_ok-close.ensures p rows)
    (λ block e. c.begun-held-else-same_key.ensures.met block e)
    (λ s. absurd (clash c.same_key.result (c.same_key.ensures.1 (subst (λ k. SharesKey k c.loop-row.last.now c.in-Some-next.row.now) (sym same_key_is) s)) c.if-same_key.false))

pub returns : goal.returns
returns c =
    let look = c.args.look.now in
    let p = meets look.tests.now in
    let key = key_at c.args.db.now c.args.table in
    let rows = rows_at c.args.db.now c.args.table in
    let all = blocks_of key rows in
    let whole = parted c.args.db.now c.args.table c.rows-left.result c.rows-left.ensures.is c.rows-left.ensures.in_order in
    let are = whole.blocks_are in
    let i = c.loop-row.invariant in
    (all, whole, read-all key rows all are _ _ _ _ _ _ i (λ front. AreExtremes look.way p look.col rows front c.close-2.new.ends) c.in_default-next.ensures.steps.0 (c.in_ok-close-2.ensures p rows))
