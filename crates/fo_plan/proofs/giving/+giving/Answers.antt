use Rattle.std.proofs.Common.{◌≡◌, ◌+◌, ◌∙◌, ◌∷◌, suc, length, subst, sym, ap, arith, [], get_or, OnOk}
use Rattle.std.proofs.lemmas.Bool.{false≢true}
use Rattle.std.proofs.lemmas.Option.{get_or_from_slice_get}
use Rattle.std.proofs.lemmas.List.Elements.{Contains-get_or}
use Rattle.cqa_model.specs.Database.{stored}
use Rattle.plan_rows.specs.Taking.{placed}
use Rattle.plan_rows.specs.Fitting.{Suits}
use Rattle.plan_rows.specs.Over.{query_of, stored_rows, rows_before}
use Rattle.plan_rows.specs.Underway.{IsUnderway}
use Rattle.fo_plan.specs.Holding.{PlanHoldsWith, AllHoldWith}
use Rattle.fo_plan.specs.Noted.{GivesNone}
use Rattle.fo_plan.specs.Giving.{AreAllAtoms, IsAnswerRow, PlanGives, BlockGives, StepGives, IsAdded}
use Rattle.plan_rows.proofs.PlanParts.{rest-shorter, plan-split}
use Rattle.fo_plan.proofs.Gathered.{all-more, block-fails, first-gives, block-one, block-split, some-plan, adds-none, add-block, add-one, none-given, moved-on, on-ok}
use Rattle.plan_rows.proofs.Sharing.{first-atom, underway-more}
use Rattle.fo_plan.proofs.Reached.{given-reached}
use Rattle.fo_plan.proofs.Adding.{added-starts, added-on, added-ends, gives-table}
use Rattle.fo_plan.proofs.Barren.{noted-none, gives-none}
use Rattle.fo_plan.proofs.giving.+giving.Goals as goal

pub add_block-returns-then-not-all_suit-clause-added : goal.add_block-returns-then-not-all_suit-clause-added
add_block-returns-then-not-all_suit-clause-added t c =
    let step = c.args.step.now in
    adds-none (BlockGives (query_of step) (stored_rows step) (rows_before step) step.atom step.rest.now c.args.block.now) c.args.found.now
    (block-fails (query_of step) (stored_rows step) (rows_before step) step.atom step.rest.now c.args.block.now (λ s. false≢true (sym c.if-not-all_suit.true ∙ c.all_suit.ensures.1 s)))

pub add_block-invariant_of-rest : goal.add_block-invariant_of-rest
add_block-invariant_of-rest t c =
    let step = c.args.step.now in
    let block = c.args.block.now in
    let first = c.get.result.now in
    record {
      underway = underway-more step.course.now (rows_before step) step.atom step.rest.now first step.underway
          (subst (Suits (query_of step) (rows_before step) step.atom) (get_or_from_slice_get block 0 first [] c.get.ensures) (c.all_suit.ensures.0 c.if-not-all_suit.false (get_or block 0 []) (Contains-get_or block 0 [] c.requires.some)));
    }

pub add_block-add_given-requires : goal.add_block-add_given-requires
add_block-add_given-requires t c =
    let step = c.args.step.now in
    (omega (arith, c.decreases), (all-more (query_of step) (stored_rows step) (rows_before step) step.atom step.rest.now c.get.result.now c.requires.all, c.requires.notes))

pub add_block-returns-then-len-eq1-clause-added : goal.add_block-returns-then-len-eq1-clause-added
add_block-returns-then-len-eq1-clause-added t c =
    let step = c.args.step.now in
    let q = query_of step in
    let tables = stored_rows step in
    let taken = rows_before step in
    let block = c.args.block.now in
    let first = c.get.result.now in
    let suits = subst (Suits q taken step.atom) (get_or_from_slice_get block 0 first [] c.get.ensures) (c.all_suit.ensures.0 c.if-not-all_suit.false (get_or block 0 []) (Contains-get_or block 0 [] c.requires.some)) in
    on-ok c.add_given.result
    (add-one q tables taken step.atom step.rest.now first block (block-one block first (sym c.len.ensures ∙ c.if-len-eq1.true) (sym (get_or_from_slice_get block 0 first first c.get.ensures))) suits c.args.found.now c.add_given.new.found)
    c.add_given.ensures.added

pub add_block-add_tested-added-requires : goal.add_block-add_tested-added-requires
add_block-add_tested-added-requires t c =
    let block = c.args.block.now in (
      omega (arith, c.decreases),
      (
        c.requires.all,
        (
          c.requires.some,
          (
            c.all_suit.ensures.0 c.if-not-all_suit.false (get_or block 0 []) (Contains-get_or block 0 [] c.requires.some),
            (c.new-part.ensures, c.requires.notes),
          ),
        ),
      ),
    )

pub add_given-invariant_of-step : goal.add_given-invariant_of-step
add_given-invariant_of-step t c =
    let rest = c.args.rest.now in
    let underway = subst (IsUnderway rest.course.now (placed rest.taken.now)) (plan-split rest.plan.now c.in-len1-up.len_at_least) rest.underway in
    record { underway = underway; there = first-atom rest.course.now (placed rest.taken.now) _ _ underway }

pub add_given-invariant_of-step-else-may_be_barren : goal.add_given-invariant_of-step-else-may_be_barren
add_given-invariant_of-step-else-may_be_barren t c =
    let rest = c.args.rest.now in
    let underway = subst (IsUnderway rest.course.now (placed rest.taken.now)) (plan-split rest.plan.now c.in-len1-up.len_at_least) rest.underway in
    record { underway = underway; there = first-atom rest.course.now (placed rest.taken.now) _ _ underway }

pub add_given-returns-then-give_none-clause-added : goal.add_given-returns-then-give_none-clause-added
add_given-returns-then-give_none-clause-added t c =
    let rest = c.args.rest.now in
    adds-none (PlanGives rest.course.now.setting.bound.now.query.now (stored rest.course.now.setting.bound.now.db.now) (placed rest.taken.now) rest.plan.now) c.args.found.now
    (λ row g. noted-none rest.course.now c.args.notes.now.barren (placed rest.taken.now) rest.plan.now row c.requires.notes.barren (c.give_none.ensures.0 c.if-give_none.true) rest.underway g)

pub add_given-returns-else-may_be_barren-clause-added : goal.add_given-returns-else-may_be_barren-clause-added
add_given-returns-else-may_be_barren-clause-added t c =
    let rest = c.args.rest.now in
    let q = rest.course.now.setting.bound.now.query.now in
    subst (λ p. OnOk c.add_blocks.result (IsAdded (PlanGives q (stored rest.course.now.setting.bound.now.db.now) (placed rest.taken.now) p) c.args.found.now c.add_blocks.new.found))
    (sym (plan-split rest.plan.now (some-plan q rest.plan.now c.are_settled.result c.are_settled.ensures c.if-are_settled.false))) c.add_blocks.ensures.added

pub add_given-add_blocks-requires : goal.add_given-add_blocks-requires
add_given-add_blocks-requires t c =
    let rest = c.args.rest.now in
    let plan = rest.plan.now in
    let l = c.in-len1-up.len_at_least in (
      omega (arith, rest-shorter plan l, c.decreases),
      (subst (AreAllAtoms rest.course.now.setting.bound.now.query.now (placed rest.taken.now)) (plan-split plan l) c.requires.all, c.requires.notes),
    )

pub add_given-add_apart-requires : goal.add_given-add_apart-requires
add_given-add_apart-requires t c =
    let rest = c.args.rest.now in
    let plan = rest.plan.now in
    let l = c.in-len1-up.len_at_least in (
      omega (arith, rest-shorter plan l, c.decreases),
      (subst (AreAllAtoms rest.course.now.setting.bound.now.query.now (placed rest.taken.now)) (plan-split plan l) c.requires.all, (c.may_be_barren.ensures c.if-may_be_barren.true, c.requires.notes)),
    )

pub add_given-returns-then-may_be_barren-clause-added : goal.add_given-returns-then-may_be_barren-clause-added
add_given-returns-then-may_be_barren-clause-added t c =
    let rest = c.args.rest.now in
    let q = rest.course.now.setting.bound.now.query.now in
    subst (λ p. OnOk c.add_apart.result (IsAdded (PlanGives q (stored rest.course.now.setting.bound.now.db.now) (placed rest.taken.now) p) c.args.found.now c.add_apart.new.found))
    (sym (plan-split rest.plan.now (some-plan q rest.plan.now c.are_settled.result c.are_settled.ensures c.if-are_settled.false))) c.add_apart.ensures.added

pub add_or_note-returns-then-is_empty-clause-added : goal.add_or_note-returns-then-is_empty-clause-added
add_or_note-returns-then-is_empty-clause-added t c =
    let step = c.args.step.now in
    adds-none (StepGives step) c.args.found.now (λ row g. none-given (StepGives step) c.args.part.now c.add_blocks.new.found c.in_ok-add_blocks.ensures.added (c.is_empty.ensures.0 c.if-is_empty.true) row g)

pub add_or_note-returns-then-is_empty-clause-notes : goal.add_or_note-returns-then-is_empty-clause-notes
add_or_note-returns-then-is_empty-clause-notes t c =
    let step = c.args.step.now in
    record {
      memo = c.add_blocks.ensures.notes.memo;
      barren = subst (GivesNone step.course.now) (let e : suc (length step.rest.now) ≡ length step.rest.now + 1 = omega arith in e) (gives-none step.course.now (rows_before step) (step.atom ∷ step.rest.now) step.underway c.requires.apart
          (none-given (StepGives step) c.args.part.now c.add_blocks.new.found c.in_ok-add_blocks.ensures.added (c.is_empty.ensures.0 c.if-is_empty.true)));
    }

pub add_or_note-returns-clause-added : goal.add_or_note-returns-clause-added
add_or_note-returns-clause-added t c =
    on-ok c.move_all.result
    (moved-on (StepGives c.args.step.now) c.args.part.now c.add_blocks.new.found c.args.found.now c.move_all.new.found c.requires.none c.in_ok-add_blocks.ensures.added)
    c.move_all.ensures

pub add_tested-invariant_of-rest : goal.add_tested-invariant_of-rest
add_tested-invariant_of-rest t c =
    let step = c.args.step.now in
    let first = c.get.result.now in
    record {
      underway = underway-more step.course.now (rows_before step) step.atom step.rest.now first step.underway
          (subst (Suits (query_of step) (rows_before step) step.atom) (get_or_from_slice_get c.args.block.now 0 first [] c.get.ensures) c.requires.first);
    }

pub add_tested-add_given-requires : goal.add_tested-add_given-requires
add_tested-add_given-requires t c =
    let step = c.args.step.now in
    (omega (arith, c.decreases), (all-more (query_of step) (stored_rows step) (rows_before step) step.atom step.rest.now c.get.result.now c.requires.all, c.requires.notes))

pub add_tested-returns-clause-added : goal.add_tested-returns-clause-added
add_tested-returns-clause-added t c =
    let step = c.args.step.now in
    let q = query_of step in
    let tables = stored_rows step in
    let taken = rows_before step in
    let F = step.atom in
    let rest = step.rest.now in
    let block = c.args.block.now in
    let first = c.get.result.now in
    let others = c.split_at-others.result.1 in
    let suits = subst (Suits q taken F) (get_or_from_slice_get block 0 first [] c.get.ensures) c.requires.first in
    on-ok c.keep_all.result
    (λ kept. add-block (PlanGives q tables (record { atom = F; row = first } ∷ taken) rest) (λ row. AllHoldWith step row others) (BlockGives q tables taken F rest block)
    c.args.found.now c.args.part.now c.add_given.new.found c.keep_all.new.found c.requires.none c.in_ok-add_given.ensures.added kept
    (first-gives q tables taken F rest first others block (block-split block first c.requires.some (sym (get_or_from_slice_get block 0 first first c.get.ensures)) ∙ ap (λ z. first ∷ z) (sym c.split_at-others.ensures.rest)) suits))
    c.keep_all.ensures.added

pub add_blocks-add_all_of-added-requires : goal.add_blocks-add_all_of-added-requires
add_blocks-add_all_of-added-requires t c = (omega (arith, c.decreases), (c.requires.all, ((λ row. (given-reached c.args.step.now c.new-blocks.result row c.new-blocks.ensures).0), c.requires.notes)))

pub add_blocks-returns-clause-added : goal.add_blocks-returns-clause-added
add_blocks-returns-clause-added t c =
    on-ok c.add_all_of-added.result
    (gives-table c.args.step.now c.new-blocks.result c.new-blocks.ensures c.args.found.now c.add_all_of-added.new.found)
    c.add_all_of-added.ensures.added

pub add_all_of-loop-block-init : goal.add_all_of-loop-block-init
add_all_of-loop-block-init t c =
    let step = c.args.step.now in
    record {
      added = added-starts c.args.blocks.now (IsAnswerRow (query_of step) (rows_before step)) (PlanHoldsWith step) c.requires.sought
          c.start-spot.result.place c.args.found.now c.start-spot.ensures.passed;
      spot = c.start-spot.ensures.spot;
      right = c.requires.notes;
    }

pub add_all_of-add_block-requires : goal.add_all_of-add_block-requires
add_all_of-add_block-requires t c = (omega (arith, c.decreases), (c.requires.all, (c.in-Some.ensures.next.is.some, c.loop-block.invariant.right)))

pub add_all_of-loop-block-preserved : goal.add_all_of-loop-block-preserved
add_all_of-loop-block-preserved t c =
    let step = c.args.step.now in
    record {
      added = added-on c.args.blocks.now (IsAnswerRow (query_of step) (rows_before step)) (PlanHoldsWith step) c.requires.sought
          c.loop-block.spot.place c.next.new.spot.place c.in-Some.block c.args.found.now c.loop-block.found c.add_block.new.found
          c.loop-block.invariant.added c.in-Some.ensures.next c.in_ok-add_block.ensures.added;
      spot = c.next.ensures.spot;
      right = c.add_block.ensures.notes;
    }

pub add_all_of-returns-clause-added : goal.add_all_of-returns-clause-added
add_all_of-returns-clause-added t c =
    let step = c.args.step.now in
    added-ends c.args.blocks.now (IsAnswerRow (query_of step) (rows_before step)) (PlanHoldsWith step) c.requires.sought
    c.loop-block.spot.place c.args.found.now c.loop-block.found c.loop-block.invariant.added c.in_default.ensures.next
