use Rattle.std.proofs.Common.{rules, ◌∙◌, length, sym, ap, subst, arith}
use mir.Val.{SFits}
use mir.Syntax.{w64}
use Rattle.std.proofs.lemmas.Int.{to_z-of_z}
use Rattle.cqa_value.proofs.Words.{clash}
use Rattle.cqa_model.specs.declared.limits.TheConstants.{MOST_ROWS}
use Rattle.cqa_model.specs.Repairs.{SharesKey}
use Rattle.row_blocks.specs.Blocks.{blocks_of}
use Rattle.table_blocks.specs.Tables.{rows_at, key_at}
use Rattle.range_ask.specs.Ranges.{meets}
use Rattle.range_ask.specs.Picks.{worth}
use Rattle.range_ask.specs.Finding.{added, AreBests}
use Rattle.range_ask.specs.Walking.{AreSides}
use Rattle.range_ask.proofs.Blocked.{parted, parted-few}
use Rattle.range_ask.proofs.Read.{read-on, read-closed, read-all, read-fits, read-first, read-none, front-few}
use Rattle.range_ask.proofs.Walked.{sides-none, sides-within}
use Rattle.range_ask.proofs.sums.both_sums.Goals as goal

pub returns-in_default : goal.returns-in_default
returns-in_default c =
    let f = worth (meets c.args.tests.now) (added c.args.goal.now) in
    let key = key_at c.args.db.now c.args.table in
    let rows = rows_at c.args.db.now c.args.table in
    let all = blocks_of key rows in
    let whole = parted c.args.db.now c.args.table c.rows-left.result c.rows-left.ensures.is c.rows-left.ensures.in_order in
    let are = whole.blocks_are in
    let none = sym c.rows-left.ensures.is ∙ c.in_default.ensures.steps.0 in
    (all, whole, read-none key rows all are (λ front. AreSides f rows front c.blank-sides.result) none (sides-none f rows c.blank-sides.result c.blank-sides.ensures.low c.blank-sides.ensures.none_low c.blank-sides.ensures.high c.blank-sides.ensures.none_high c.blank-sides.ensures.wide))

pub loop-row-init : goal.loop-row-init
loop-row-init c =
    let f = worth (meets c.args.tests.now) (added c.args.goal.now) in
    let key = key_at c.args.db.now c.args.table in
    let rows = rows_at c.args.db.now c.args.table in
    let all = blocks_of key rows in
    let whole = parted c.args.db.now c.args.table c.rows-left.result c.rows-left.ensures.is c.rows-left.ensures.in_order in
    let are = whole.blocks_are in
    let fits : SFits w64 c.worth.result = search rules in
    read-first key rows all are (λ front. AreSides f rows front c.blank-sides.result) (λ block n. AreBests f block n c.opened-held.result) c.in-Some.first.now c.next.new.self c.opened-held.result.start c.opened-held.result.read
    (sym c.rows-left.ensures.is ∙ c.in-Some.ensures.steps) c.opened-held.ensures.start c.opened-held.ensures.read
    (sides-none f rows c.blank-sides.result c.blank-sides.ensures.low c.blank-sides.ensures.none_low c.blank-sides.ensures.high c.blank-sides.ensures.none_high c.blank-sides.ensures.wide) (λ block e. c.opened-held.ensures.bests f block (to_z-of_z w64 c.worth.result fits ∙ (c.worth.ensures ∙ ap f e)))

pub read_more-held-requires : goal.read_more-held-requires
read_more-held-requires c =
    let key = key_at c.args.db.now c.args.table in
    let rows = rows_at c.args.db.now c.args.table in
    let all = blocks_of key rows in
    let whole = parted c.args.db.now c.args.table c.rows-left.result c.rows-left.ensures.is c.rows-left.ensures.in_order in
    let are = whole.blocks_are in
    let i = c.loop-row.invariant in
    let few = c.rows-left.ensures.few in
    let long = ap length c.rows-left.ensures.is in
    let z = read-fits key rows all are _ _ _ _ _ _ i in
    let r = i.read_in in
    omega (arith, few, long, z, r)

pub close-requires-clause-least : goal.close-requires-clause-least
close-requires-clause-least c =
    let key = key_at c.args.db.now c.args.table in
    let rows = rows_at c.args.db.now c.args.table in
    let all = blocks_of key rows in
    let whole = parted c.args.db.now c.args.table c.rows-left.result c.rows-left.ensures.is c.rows-left.ensures.in_order in
    let are = whole.blocks_are in
    let i = c.loop-row.invariant in
    let few = c.rows-left.ensures.few in
    let long = ap length c.rows-left.ensures.is in
    let z = read-fits key rows all are _ _ _ _ _ _ i in
    let r = i.read_in in
    let a = i.so_far.0.there in
    omega (arith, few, long, z, r, a)

pub close-requires-clause-most : goal.close-requires-clause-most
close-requires-clause-most c =
    let key = key_at c.args.db.now c.args.table in
    let rows = rows_at c.args.db.now c.args.table in
    let all = blocks_of key rows in
    let whole = parted c.args.db.now c.args.table c.rows-left.result c.rows-left.ensures.is c.rows-left.ensures.in_order in
    let are = whole.blocks_are in
    let i = c.loop-row.invariant in
    let few = c.rows-left.ensures.few in
    let long = ap length c.rows-left.ensures.is in
    let z = read-fits key rows all are _ _ _ _ _ _ i in
    let r = i.read_in in
    let a = i.so_far.1.there in
    omega (arith, few, long, z, r, a)

pub close-requires-clause-low : goal.close-requires-clause-low
close-requires-clause-low c =
    let f = worth (meets c.args.tests.now) (added c.args.goal.now) in
    let key = key_at c.args.db.now c.args.table in
    let rows = rows_at c.args.db.now c.args.table in
    let all = blocks_of key rows in
    let whole = parted c.args.db.now c.args.table c.rows-left.result c.rows-left.ensures.is c.rows-left.ensures.in_order in
    let are = whole.blocks_are in
    let i = c.loop-row.invariant in
    let few = c.rows-left.ensures.few in
    let long = ap length c.rows-left.ensures.is in
    let count = parted-few c.args.db.now c.args.table in
    (sides-within f rows i.front c.loop-row.sides MOST_ROWS (front-few key rows all are _ _ _ _ _ _ i MOST_ROWS (omega (arith, few, long, count))) i.before).0

pub close-requires-clause-high : goal.close-requires-clause-high
close-requires-clause-high c =
    let f = worth (meets c.args.tests.now) (added c.args.goal.now) in
    let key = key_at c.args.db.now c.args.table in
    let rows = rows_at c.args.db.now c.args.table in
    let all = blocks_of key rows in
    let whole = parted c.args.db.now c.args.table c.rows-left.result c.rows-left.ensures.is c.rows-left.ensures.in_order in
    let are = whole.blocks_are in
    let i = c.loop-row.invariant in
    let few = c.rows-left.ensures.few in
    let long = ap length c.rows-left.ensures.is in
    let count = parted-few c.args.db.now c.args.table in
    (sides-within f rows i.front c.loop-row.sides MOST_ROWS (front-few key rows all are _ _ _ _ _ _ i MOST_ROWS (omega (arith, few, long, count))) i.before).1

pub close-requires-2-clause-least : goal.close-requires-2-clause-least
close-requires-2-clause-least c =
    let key = key_at c.args.db.now c.args.table in
    let rows = rows_at c.args.db.now c.args.table in
    let all = blocks_of key rows in
    let whole = parted c.args.db.now c.args.table c.rows-left.result c.rows-left.ensures.is c.rows-left.ensures.in_order in
    let are = whole.blocks_are in
    let i = c.loop-row.invariant in
    let few = c.rows-left.ensures.few in
    let long = ap length c.rows-left.ensures.is in
    let z = read-fits key rows all are _ _ _ _ _ _ i in
    let r = i.read_in in
    let a = i.so_far.0.there in
    omega (arith, few, long, z, r, a)

pub close-requires-2-clause-most : goal.close-requires-2-clause-most
close-requires-2-clause-most c =
    let key = key_at c.args.db.now c.args.table in
    let rows = rows_at c.args.db.now c.args.table in
    let all = blocks_of key rows in
    let whole = parted c.args.db.now c.args.table c.rows-left.result c.rows-left.ensures.is c.rows-left.ensures.in_order in
    let are = whole.blocks_are in
    let i = c.loop-row.invariant in
    let few = c.rows-left.ensures.few in
    let long = ap length c.rows-left.ensures.is in
    let z = read-fits key rows all are _ _ _ _ _ _ i in
    let r = i.read_in in
    let a = i.so_far.1.there in
    omega (arith, few, long, z, r, a)

pub close-requires-2-clause-low : goal.close-requires-2-clause-low
close-requires-2-clause-low c =
    let f = worth (meets c.args.tests.now) (added c.args.goal.now) in
    let key = key_at c.args.db.now c.args.table in
    let rows = rows_at c.args.db.now c.args.table in
    let all = blocks_of key rows in
    let whole = parted c.args.db.now c.args.table c.rows-left.result c.rows-left.ensures.is c.rows-left.ensures.in_order in
    let are = whole.blocks_are in
    let i = c.loop-row.invariant in
    let few = c.rows-left.ensures.few in
    let long = ap length c.rows-left.ensures.is in
    let count = parted-few c.args.db.now c.args.table in
    (sides-within f rows i.front c.loop-row.sides MOST_ROWS (front-few key rows all are _ _ _ _ _ _ i MOST_ROWS (omega (arith, few, long, count))) i.before).0

pub close-requires-2-clause-high : goal.close-requires-2-clause-high
close-requires-2-clause-high c =
    let f = worth (meets c.args.tests.now) (added c.args.goal.now) in
    let key = key_at c.args.db.now c.args.table in
    let rows = rows_at c.args.db.now c.args.table in
    let all = blocks_of key rows in
    let whole = parted c.args.db.now c.args.table c.rows-left.result c.rows-left.ensures.is c.rows-left.ensures.in_order in
    let are = whole.blocks_are in
    let i = c.loop-row.invariant in
    let few = c.rows-left.ensures.few in
    let long = ap length c.rows-left.ensures.is in
    let count = parted-few c.args.db.now c.args.table in
    (sides-within f rows i.front c.loop-row.sides MOST_ROWS (front-few key rows all are _ _ _ _ _ _ i MOST_ROWS (omega (arith, few, long, count))) i.before).1

pub overflow_add-held : goal.overflow_add-held
overflow_add-held c =
    let key = key_at c.args.db.now c.args.table in
    let rows = rows_at c.args.db.now c.args.table in
    let all = blocks_of key rows in
    let whole = parted c.args.db.now c.args.table c.rows-left.result c.rows-left.ensures.is c.rows-left.ensures.in_order in
    let are = whole.blocks_are in
    let i = c.loop-row.invariant in
    let few = c.rows-left.ensures.few in
    let long = ap length c.rows-left.ensures.is in
    let z = read-fits key rows all are _ _ _ _ _ _ i in
    let r = i.read_in in
    omega (arith, few, long, z, r)

pub loop-row-preserved-then-same_key : goal.loop-row-preserved-then-same_key
loop-row-preserved-then-same_key c =
    let f = worth (meets c.args.tests.now) (added c.args.goal.now) in
    let key = key_at c.args.db.now c.args.table in
    let rows = rows_at c.args.db.now c.args.table in
    let all = blocks_of key rows in
    let whole = parted c.args.db.now c.args.table c.rows-left.result c.rows-left.ensures.is c.rows-left.ensures.in_order in
    let are = whole.blocks_are in
    let i = c.loop-row.invariant in
    let same_key_is = c.as_slice-key.ensures ∙ c.schema.ensures.key in
    let fits : SFits w64 c.worth-next.result = search rules in
    read-on key rows all are _ _ _ _ _ _ i c.in-Some-next.row.now c.next-in-loop-row.new.self c.in-Some-next.ensures.steps (λ block n. AreBests f block n c.read_more-held.result) c.read_more-held.result.start c.read_more-held.result.read
    c.read_more-held.ensures.start c.read_more-held.ensures.read (λ block b e. c.read_more-held.ensures.bests f block b (to_z-of_z w64 c.worth-next.result fits ∙ (c.worth-next.ensures ∙ ap f e)))
    (subst (λ k. SharesKey k c.loop-row.last.now c.in-Some-next.row.now) same_key_is (c.same_key.ensures.0 c.if-same_key.true))

pub loop-row-preserved : goal.loop-row-preserved
loop-row-preserved c =
    let f = worth (meets c.args.tests.now) (added c.args.goal.now) in
    let key = key_at c.args.db.now c.args.table in
    let rows = rows_at c.args.db.now c.args.table in
    let all = blocks_of key rows in
    let whole = parted c.args.db.now c.args.table c.rows-left.result c.rows-left.ensures.is c.rows-left.ensures.in_order in
    let are = whole.blocks_are in
    let i = c.loop-row.invariant in
    let same_key_is = c.as_slice-key.ensures ∙ c.schema.ensures.key in
    let fits : SFits w64 c.worth-next.result = search rules in
    read-closed key rows all are _ _ _ _ _ _ i c.in-Some-next.row.now c.next-in-loop-row.new.self c.in-Some-next.ensures.steps (λ front. AreSides f rows front c.close.new.sides) (λ block n. AreBests f block n c.opened-held-else-same_key.result)
    c.opened-held-else-same_key.result.start c.opened-held-else-same_key.result.read c.opened-held-else-same_key.ensures.start c.opened-held-else-same_key.ensures.read (c.in_ok-close.ensures f rows)
    (λ block e. c.opened-held-else-same_key.ensures.bests f block (to_z-of_z w64 c.worth-next.result fits ∙ (c.worth-next.ensures ∙ ap f e)))
    (λ s. absurd (clash c.same_key.result (c.same_key.ensures.1 (subst (λ k. SharesKey k c.loop-row.last.now c.in-Some-next.row.now) (sym same_key_is) s)) c.if-same_key.false))

pub returns : goal.returns
returns c =
    let f = worth (meets c.args.tests.now) (added c.args.goal.now) in
    let key = key_at c.args.db.now c.args.table in
    let rows = rows_at c.args.db.now c.args.table in
    let all = blocks_of key rows in
    let whole = parted c.args.db.now c.args.table c.rows-left.result c.rows-left.ensures.is c.rows-left.ensures.in_order in
    let are = whole.blocks_are in
    let i = c.loop-row.invariant in
    (all, whole, read-all key rows all are _ _ _ _ _ _ i (λ front. AreSides f rows front c.close-2.new.sides) c.in_default-next.ensures.steps.0 (c.in_ok-close-2.ensures f rows))
