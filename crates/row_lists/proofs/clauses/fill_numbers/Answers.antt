use Rattle.std.proofs.Common.{◌≡◌, ◌+◌, ◌-◌, ◌<◌, ◌++◌, ◌∷◌, [], suc, List, ℕ, length, get_or, take, sym, subst, arith, Contains}
use Rattle.std.proofs.lemmas.List.{take_more, take_all}
use Rattle.std.proofs.lemmas.List.Elements.{Contains-get_or}
use Rattle.cqa_model.specs.declared.query.RowId.{RowId}
use Rattle.join_access.specs.Listing.{names_of}
use Rattle.row_lists.specs.Lists.{name, IsIn}
use Rattle.row_lists.specs.Spans.{at, HasSpan, IsInSpan}
use Rattle.row_lists.specs.Encodings.{AreNumbersOfNames}
use Rattle.row_lists.proofs.Filled.{name_covered, name_number, one_name_number, numbers_none, numbers_push}
use Rattle.row_lists.proofs.clauses.fill_numbers.Goals as goal

pub loop-id-init : goal.loop-id-init
loop-id-init c =
    let frame = c.args.lists.now.frame.now in
    subst (AreNumbersOfNames frame.tables c.args.blocks.now.spans []) (sym c.requires.none) (numbers_none frame.tables c.args.blocks.now.spans)

pub bounds-slots-id : goal.bounds-slots-id
bounds-slots-id c =
    let l = c.args.lists.now in
    let names = c.args.names.now in
    let k = c.loop-id.id-index in
    let id : RowId = get_or names k (name 0 0) in
    let i : IsIn (names_of l.lists.now) id = (names, c.requires.named, Contains-get_or names k (name 0 0) (omega (arith, c.loop-id-test.true))) in
    let there = (l.stored id i).0 in
    let wide = l.wide in
    subst (λ (ss : List ℕ). id.table < length ss) (sym c.as_slice-slots.ensures) (omega (arith, there, wide))

pub number-requires : goal.number-requires
number-requires c =
    let l = c.args.lists.now in
    let frame = l.frame.now in
    let blocks = c.args.blocks.now in
    let names = c.args.names.now in
    let k = c.loop-id.id-index in
    let id : RowId = get_or names k (name 0 0) in
    let i : IsIn (names_of l.lists.now) id = (names, c.requires.named, Contains-get_or names k (name 0 0) (omega (arith, c.loop-id-test.true))) in
    subst (λ (ss : List ℕ). HasSpan blocks.spans (get_or ss id.table 0) id.place) (sym c.as_slice-slots.ensures)
    (name_covered l.db.now frame.tables frame.slots (names_of l.lists.now) frame.kept l.within l.stored blocks.vars blocks.spans c.requires.blocks id i)

pub loop-id-preserved : goal.loop-id-preserved
loop-id-preserved c =
    let l = c.args.lists.now in
    let frame = l.frame.now in
    let blocks = c.args.blocks.now in
    let names = c.args.names.now in
    let k = c.loop-id.id-index in
    let id : RowId = get_or names k (name 0 0) in
    let lt : k < length names = omega (arith, c.loop-id-test.true) in
    let i : IsIn (names_of l.lists.now) id = (names, c.requires.named, Contains-get_or names k (name 0 0) lt) in
    let n = c.number.result in
    let is = subst (λ (ss : List ℕ). (s : Rattle.row_lists.specs.declared.span.Span.Span) → Contains blocks.spans s → IsInSpan s (at (get_or ss id.table 0) id.place) → n ≡ suc (s.base + (id.place - s.start))) c.as_slice-slots.ensures c.number.ensures in
    subst (λ (xs : List ℕ). AreNumbersOfNames frame.tables blocks.spans (take (k + 1) names) xs) (sym {A = List ℕ} c.in_ok-push.ensures.items)
    (subst (λ (ns : List RowId). AreNumbersOfNames frame.tables blocks.spans ns (c.loop-id.numbers.items ++ n ∷ [])) (sym (take_more names k (name 0 0) lt))
    (numbers_push frame.tables blocks.spans (take k names) c.loop-id.numbers.items id n c.loop-id.invariant
    (name_number l.db.now frame.tables frame.slots (names_of l.lists.now) frame.kept l.within l.stored blocks.vars blocks.spans c.requires.blocks id i n is)
    (one_name_number l.db.now frame.tables frame.slots (names_of l.lists.now) frame.kept l.within l.stored blocks.vars blocks.spans c.requires.blocks id i n is)))

pub returns : goal.returns
returns c = subst (λ (ns : List RowId). AreNumbersOfNames c.args.lists.now.frame.now.tables c.args.blocks.now.spans ns c.loop-id.numbers.items) (take_all c.loop-id.id-index c.args.names.now (omega (arith, c.loop-id-test.false))) c.loop-id.invariant
