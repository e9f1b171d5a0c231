use Rattle.std.proofs.Common.{◌≡◌, ◌∙◌, ℕ, ◌<◌, ◌+◌, List, Contains, length, get_or, drop, refl, sym, ap, subst, arith}
use Rattle.std.proofs.lemmas.List.{drop_all}
use Rattle.std.proofs.lemmas.List.Elements.{Contains-get_or}
use Rattle.range_join.specs.Firsts.{spans_at}
use Rattle.range_join.specs.Peaks.{further, held_value, IsPeak}
use Rattle.range_groups.specs.declared.touched.Carrier.{Carrier}
use Rattle.range_groups.specs.Spans.{span_of}
use Rattle.range_groups.specs.Touched.{carried_at, AreCarriers, IsSure}
use Rattle.range_groups.proofs.Walked.{IsWalked, apart-of, walk-begins, walk-item, walk-step, walk-ends}
use Rattle.range_groups.proofs.surest.surest_of.Goals as goal

-- a carrier that is read has the place of a row
there : (carriers : List Carrier) (n i : ℕ) → AreCarriers n carriers → (c : Carrier) → i < length carriers → c ≡ get_or carriers i c → c.place < n
there carriers n i are c l is = are.below c (subst (Contains carriers) (sym is) (Contains-get_or carriers i c l))

pub loop-carrier-init : goal.loop-carrier-init
loop-carrier-init c db table h =
    let carriers = c.args.carriers.now in
    walk-begins c.args.way (carried_at c.args.col carriers) (spans_at db table) c.args.col (apart-of db table c.args.spans.now h) carriers c.requires.carriers.ascend (λ q. refl) c.opened.result c.opened.ensures.span c.opened.ensures.next (ap (held_value c.args.col) c.opened.ensures.near)

pub bounds-spans-carrier : goal.bounds-spans-carrier
bounds-spans-carrier c = there c.args.carriers.now (length c.args.spans.now) c.loop-carrier.carrier-index c.requires.carriers c.carrier-item.result c.loop-carrier-test.true c.carrier-item.is

pub step-read-requires : goal.step-read-requires
step-read-requires c =
    let l = there c.args.carriers.now (length c.args.spans.now) c.loop-carrier.carrier-index c.requires.carriers c.carrier-item.result c.loop-carrier-test.true c.carrier-item.is in
    let few = c.requires.few in
    omega (arith, l, few)

pub loop-carrier-preserved : goal.loop-carrier-preserved
loop-carrier-preserved c db table h =
    let col = c.args.col in
    let best = carried_at col c.args.carriers.now in
    let are = apart-of db table c.args.spans.now h in
    let i = c.loop-carrier.carrier-index in
    let item = c.carrier-item.result in
    let l = there c.args.carriers.now (length c.args.spans.now) i c.requires.carriers item c.loop-carrier-test.true c.carrier-item.is in
    let first = held_value col c.loop-carrier.read.best in
    let held = c.loop-carrier.read.held in
    let w = walk-item c.args.way best (spans_at db table) col are c.args.carriers.now i item c.loop-carrier-test.true c.carrier-item.is first held (c.loop-carrier.invariant db table h) in
    walk-step c.args.way best (spans_at db table) col are item (drop (i + 1) c.args.carriers.now) first held w c.step-read.result.held (held_value col c.step-read.result.best) (span_of c.args.spans.now item.place)
    (h.of_table item.place l) (h.there item.place l) (λ m. let s = c.step-read.ensures.same m in (ap (held_value col) s.0, s.1)) (λ m. let s = c.step-read.ensures.other m in (s.0, s.1))

pub returns : goal.returns
returns c db table h =
    let col = c.args.col in
    let best = carried_at col c.args.carriers.now in
    let first = held_value col c.loop-carrier.read.best in
    let held = c.loop-carrier.read.held in
    let none = drop_all c.loop-carrier.carrier-index c.args.carriers.now c.loop-carrier-test.false in
    let w = subst (λ left. IsWalked c.args.way best (spans_at db table) col left first held) none (c.loop-carrier.invariant db table h) in
    subst (IsPeak c.args.way (IsSure c.args.way best (spans_at db table))) (sym (c.further.ensures ∙ ap (further c.args.way first) (c.sure_row.ensures col)))
    (walk-ends c.args.way best (spans_at db table) col (apart-of db table c.args.spans.now h) first held w)
