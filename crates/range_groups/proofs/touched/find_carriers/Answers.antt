use Rattle.std.proofs.Common.{◌∙◌, ◌+◌, ◌<◌, ◌∷◌, ◌++◌, [], List, Vec, Global, length, take, sym, ap, subst, arith}
use Rattle.std.proofs.lemmas.List.{take_all}
use Rattle.std.proofs.lemmas.List.Elements.{Contains-append_right}
use Rattle.cqa_value.proofs.Words.{mem-head}
use Rattle.range_groups.specs.declared.members.Member.{Member}
use Rattle.range_groups.specs.declared.touched.Carrier.{Carrier}
use Rattle.range_groups.specs.Touched.{AreFurthestCarriers}
use Rattle.range_groups.proofs.Furthest.{IsCarrying, carrying-first, carrying-next, carrying-more, carrying-done, next-member}
use Rattle.range_groups.proofs.touched.find_carriers.Goals.{then-next-held, else-next-held+in_ok-push}
use Rattle.range_groups.proofs.touched.find_carriers.Goals as goal

pub loop-member-init : goal.loop-member-init
loop-member-init c =
    let look = c.args.look in
    let db = c.args.db.now in
    let held = c.carrier_of-held in
    subst (λ (ms : List Member). IsCarrying look.way db look.atom look.col (take 1 ms) c.clear.new.self.items held.result) (sym c.in-Some.ensures.cases.0)
    (carrying-first look.way db look.atom look.col c.in-Some.first.now held.result held.ensures.place held.ensures.row c.clear.new.self.items c.clear.ensures.items)

pub carrier_of-next-requires : goal.carrier_of-next-requires
carrier_of-next-requires c =
    let item = c.member-item.result in
    c.requires.named item (next-member c.in-Some.first.now c.in-Some.others.now c.args.members.now c.in-Some.ensures.cases.0 c.loop-member.member-index c.loop-member-test.true item c.member-item.is).1

pub loop-member-preserved : goal.loop-member-preserved
loop-member-preserved c =
    let look = c.args.look in
    let db = c.args.db.now in
    let item = c.member-item.result in
    let i = c.loop-member.member-index in
    let read = take (i + 1) c.args.members.now in
    let n = next-member c.in-Some.first.now c.in-Some.others.now c.args.members.now c.in-Some.ensures.cases.0 i c.loop-member-test.true item c.member-item.is in
    let next = c.carrier_of-next in
    let old = c.loop-member.carriers in
    let held = c.loop-member.held in
    let new = c.if-next-held.held in
    let h = c.loop-member.invariant in
    subst (λ (ms : List Member). IsCarrying look.way db look.atom look.col ms c.if-next-held.carriers.items new) (sym n.0) (elim c.if-next-held.branch [
      | then-next-held w ↦ (
          let same = ap (λ (v : Vec Carrier Global). v.items) w.carriers-is in
          subst (λ (cs : List Carrier). IsCarrying look.way db look.atom look.col (read ++ item ∷ []) cs new) (sym same)
          (subst (λ (x : Carrier). IsCarrying look.way db look.atom look.col (read ++ item ∷ []) old.items x) (sym w.held-is)
          (carrying-more look.way db look.atom look.col item next.result next.ensures.place next.ensures.row read old.items held h (sym w.if-next-held.true) w.further_carrier-held.result w.further_carrier-held.ensures.place w.further_carrier-held.ensures.value))
          )
      | else-next-held+in_ok-push w ↦ (
          let same = ap (λ (v : Vec Carrier Global). v.items) w.carriers-is in
          let o = h.of_members held (Contains-append_right old.items (held ∷ []) held (mem-head held [])) in
          let low = n.2 c.requires.by_places o.0 o.1 in
          let at = o.2 in
          let there = next.ensures.place in
          let far : held.place < next.result.place = omega (arith, low, at, there, w.if-next-held.false) in
          subst (λ (x : Carrier). IsCarrying look.way db look.atom look.col (read ++ item ∷ []) c.if-next-held.carriers.items x) (sym w.held-is)
          (carrying-next look.way db look.atom look.col item next.result next.ensures.place next.ensures.row read old.items held h far c.if-next-held.carriers.items (same ∙ w.in_ok-push.ensures.items))
          )
    ])

pub returns : goal.returns
returns c =
    let look = c.args.look in
    let db = c.args.db.now in
    let i = c.loop-member.member-index in
    let test = c.loop-member-test.false in
    let long = ap (λ (ms : List Member). length ms) c.in-Some.ensures.cases.0 in
    subst (λ (ms : List Member). AreFurthestCarriers look.way db look.atom look.col ms c.push-2.new.self.items) (take_all (i + 1) c.args.members.now (omega (arith, test, long)))
    (carrying-done look.way db look.atom look.col (take (i + 1) c.args.members.now) c.loop-member.carriers.items c.loop-member.held c.loop-member.invariant c.push-2.new.self.items c.in_ok-push-2.ensures.items)
