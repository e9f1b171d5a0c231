use Rattle.std.proofs.Common.{◌∙◌, ◌+◌, [], length, sym, ap, subst, arith}
use Rattle.std.specs.List.{AllZip}
use Rattle.cqa_value.proofs.Words.{clash}
use Rattle.cqa_model.specs.Repairs.{SharesKey}
use Rattle.table_blocks.specs.Tables.{rows_at, key_at}
use Rattle.range_ask.proofs.Blocked.{parted}
use Rattle.range_ask.proofs.Read.{read-on, read-closed, read-all, read-fits, read-first}
use Rattle.range_join.specs.Firsts.{blocks_at, spans_from, IsFirst}
use Rattle.range_join.proofs.Firsting.{first-one, first-block, more-first, more-below, next-below}
use Rattle.range_join.proofs.first_rows.firsts.Goals as goal

pub loop-row-init : goal.loop-row-init
loop-row-init g c =
    let key = key_at c.args.db.now c.args.table in
    let rows = rows_at c.args.db.now c.args.table in
    let all = blocks_at c.args.db.now c.args.table in
    let are = (parted c.args.db.now c.args.table c.rows-left.result c.rows-left.ensures.is c.rows-left.ensures.in_order).blocks_are in
    let none = c.opened-held.ensures.first in
    read-first key rows all are _ _ c.in-Some.first.now c.next.new.self c.opened-held.result.start c.opened-held.result.read
    (sym c.rows-left.ensures.is ∙ c.in-Some.ensures.steps) c.opened-held.ensures.start c.opened-held.ensures.read
    (λ before strict comp. subst (AllZip (IsFirst before) []) (sym c.new-places.ensures.items) tt)
    (λ block e. (omega (arith, none), λ before strict comp. first-one before strict c.opened-held.result.start c.opened-held.result.first none))

pub read_more-held-requires-clause-fits : goal.read_more-held-requires-clause-fits
read_more-held-requires-clause-fits g c =
    let rows = rows_at c.args.db.now c.args.table in
    let all = blocks_at c.args.db.now c.args.table in
    let are = (parted c.args.db.now c.args.table c.rows-left.result c.rows-left.ensures.is c.rows-left.ensures.in_order).blocks_are in
    let few = c.rows-left.ensures.few in
    let long = ap length c.rows-left.ensures.is in
    let z = next-below (key_at c.args.db.now c.args.table) rows all are _ _ _ _ _ _ c.loop-row.invariant c.in-Some-next.row.now c.next-in-loop-row.new.self c.in-Some-next.ensures.steps in
    omega (arith, few, long, z)

pub read_more-held-requires-clause-callable : goal.read_more-held-requires-clause-callable
read_more-held-requires-clause-callable g c =
    let rows = rows_at c.args.db.now c.args.table in
    let all = blocks_at c.args.db.now c.args.table in
    let are = (parted c.args.db.now c.args.table c.rows-left.result c.rows-left.ensures.is c.rows-left.ensures.in_order).blocks_are in
    let z = next-below (key_at c.args.db.now c.args.table) rows all are _ _ _ _ _ _ c.loop-row.invariant c.in-Some-next.row.now c.next-in-loop-row.new.self c.in-Some-next.ensures.steps in
    let l = c.loop-row.invariant.so_far.0 in
    c.requires.callable (c.loop-row.held.start + c.loop-row.held.read) (c.loop-row.held.start + c.loop-row.held.first) z (omega (arith, z, l))

pub overflow_add-held : goal.overflow_add-held
overflow_add-held g c =
    let rows = rows_at c.args.db.now c.args.table in
    let all = blocks_at c.args.db.now c.args.table in
    let are = (parted c.args.db.now c.args.table c.rows-left.result c.rows-left.ensures.is c.rows-left.ensures.in_order).blocks_are in
    let few = c.rows-left.ensures.few in
    let long = ap length c.rows-left.ensures.is in
    let z = next-below (key_at c.args.db.now c.args.table) rows all are _ _ _ _ _ _ c.loop-row.invariant c.in-Some-next.row.now c.next-in-loop-row.new.self c.in-Some-next.ensures.steps in
    let l = c.loop-row.invariant.so_far.0 in
    omega (arith, few, long, z, l)

pub overflow_add-held-else-same_key : goal.overflow_add-held-else-same_key
overflow_add-held-else-same_key g c =
    let rows = rows_at c.args.db.now c.args.table in
    let all = blocks_at c.args.db.now c.args.table in
    let are = (parted c.args.db.now c.args.table c.rows-left.result c.rows-left.ensures.is c.rows-left.ensures.in_order).blocks_are in
    let few = c.rows-left.ensures.few in
    let long = ap length c.rows-left.ensures.is in
    let z = next-below (key_at c.args.db.now c.args.table) rows all are _ _ _ _ _ _ c.loop-row.invariant c.in-Some-next.row.now c.next-in-loop-row.new.self c.in-Some-next.ensures.steps in
    omega (arith, few, long, z)

pub loop-row-preserved-then-same_key : goal.loop-row-preserved-then-same_key
loop-row-preserved-then-same_key g c =
    let key = key_at c.args.db.now c.args.table in
    let rows = rows_at c.args.db.now c.args.table in
    let all = blocks_at c.args.db.now c.args.table in
    let are = (parted c.args.db.now c.args.table c.rows-left.result c.rows-left.ensures.is c.rows-left.ensures.in_order).blocks_are in
    let i = c.loop-row.invariant in
    let held = c.loop-row.held in
    let new = c.read_more-held in
    let goes = new.ensures.first in
    let z = next-below key rows all are _ _ _ _ _ _ i c.in-Some-next.row.now c.next-in-loop-row.new.self c.in-Some-next.ensures.steps in
    let l = i.so_far.0 in
    let same_key_is = c.as_slice-key.ensures ∙ c.schema.ensures.key in
    read-on key rows all are _ _ _ _ _ _ i c.in-Some-next.row.now c.next-in-loop-row.new.self c.in-Some-next.ensures.steps _ new.result.start new.result.read new.ensures.start new.ensures.read
    (λ block b e. (
      more-below held.read held.first new.result.first goes.0 goes.2 l,
      λ before strict comp. more-first before strict held.start held.read held.first new.result.start (held.read + 1) new.result.first new.ensures.start (omega arith) goes.0 goes.2
          (comp (held.start + held.read) (held.start + held.first) goes.0 z (omega (arith, z, l)) goes.1) (b.1 before strict comp),
    ))
    (subst (λ k. SharesKey k c.loop-row.last.now c.in-Some-next.row.now) same_key_is (c.same_key.ensures.0 c.if-same_key.true))

pub loop-row-preserved : goal.loop-row-preserved
loop-row-preserved g c =
    let key = key_at c.args.db.now c.args.table in
    let rows = rows_at c.args.db.now c.args.table in
    let all = blocks_at c.args.db.now c.args.table in
    let are = (parted c.args.db.now c.args.table c.rows-left.result c.rows-left.ensures.is c.rows-left.ensures.in_order).blocks_are in
    let i = c.loop-row.invariant in
    let held = c.loop-row.held in
    let new = c.opened-held-else-same_key in
    let none = new.ensures.first in
    let same_key_is = c.as_slice-key.ensures ∙ c.schema.ensures.key in
    read-closed key rows all are _ _ _ _ _ _ i c.in-Some-next.row.now c.next-in-loop-row.new.self c.in-Some-next.ensures.steps _ _ new.result.start new.result.read new.ensures.start new.ensures.read
    (λ front block later next b w before strict comp. first-block before strict rows front block later held.start held.first c.loop-row.places.items c.push.new.self.items next (b.1 before strict comp) c.in_ok-push.ensures.items (w before strict comp))
    (λ block e. (omega (arith, none), λ before strict comp. first-one before strict new.result.start new.result.first none))
    (λ s. absurd (clash c.same_key.result (c.same_key.ensures.1 (subst (λ k. SharesKey k c.loop-row.last.now c.in-Some-next.row.now) (sym same_key_is) s)) c.if-same_key.false))

pub overflow_add-held-2 : goal.overflow_add-held-2
overflow_add-held-2 g c =
    let key = key_at c.args.db.now c.args.table in
    let rows = rows_at c.args.db.now c.args.table in
    let all = blocks_at c.args.db.now c.args.table in
    let are = (parted c.args.db.now c.args.table c.rows-left.result c.rows-left.ensures.is c.rows-left.ensures.in_order).blocks_are in
    let i = c.loop-row.invariant in
    let few = c.rows-left.ensures.few in
    let long = ap length c.rows-left.ensures.is in
    let z = read-fits key rows all are _ _ _ _ _ _ i in
    let r = i.read_in in
    let l = i.so_far.0 in
    omega (arith, few, long, z, r, l)

pub returns : goal.returns
returns g c =
    let key = key_at c.args.db.now c.args.table in
    let rows = rows_at c.args.db.now c.args.table in
    let all = blocks_at c.args.db.now c.args.table in
    let whole = parted c.args.db.now c.args.table c.rows-left.result c.rows-left.ensures.is c.rows-left.ensures.in_order in
    let held = c.loop-row.held in
    λ before strict comp. record {
      parted = whole;
      firsts = read-all key rows all whole.blocks_are _ _ _ _ _ _ c.loop-row.invariant (λ front. AllZip (IsFirst before) (spans_from 0 front) c.push-2.new.self.items) c.in_default-next.ensures.steps.0
          (λ front block later next b w. first-block before strict rows front block later held.start held.first c.loop-row.places.items c.push-2.new.self.items next (b.1 before strict comp) c.in_ok-push-2.ensures.items (w before strict comp));
    }
