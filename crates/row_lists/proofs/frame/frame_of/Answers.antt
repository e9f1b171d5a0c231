use Rattle.std.proofs.Common.{◌<◌, ◌≤◌, ◌∙◌, ℕ, List, length, get_or, sym, subst}
use Rattle.cqa_model.specs.declared.limits.TheConstants.{MOST_TABLES}
use Rattle.row_lists.specs.Frames.{AreSlots}
use Rattle.row_lists.proofs.Framing.{AreApart, is_frame}
use Rattle.row_lists.proofs.frame.frame_of.Goals as goal

pub slots_of-requires-clause-few : goal.slots_of-requires-clause-few
slots_of-requires-clause-few c = subst (λ (xs : List ℕ). length xs ≤ MOST_TABLES) (sym c.as_slice.ensures.value) c.requires.few

pub slots_of-requires-clause-there : goal.slots_of-requires-clause-there
slots_of-requires-clause-there c =
    let size = c.count.ensures.count in
    subst (λ (xs : List ℕ). (s : ℕ) → s < length xs → get_or xs s 0 < c.count.result) (sym c.as_slice.ensures.value) (λ s l. subst (λ n. get_or c.args.tables.items s 0 < n) (sym size) (c.requires.there s l))

pub slots_of-requires-clause-apart : goal.slots_of-requires-clause-apart
slots_of-requires-clause-apart c = subst AreApart (sym c.as_slice.ensures.value) c.requires.apart

pub invariant_of-result : goal.invariant_of-result
invariant_of-result c =
    record {
      few = subst (λ (xs : List ℕ). length xs ≤ MOST_TABLES) (sym c.from_vec.ensures) c.requires.few;
      kept = subst (λ xs. AreSlots xs c.in_ok-slots.slots) (c.as_slice.ensures.value ∙ sym c.from_vec.ensures) c.in_ok-slots.ensures.slots;
    }

pub returns-clause-frame : goal.returns-clause-frame
returns-clause-frame c = is_frame c.args.db.now c.from_vec.result c.in_ok-slots.slots (subst (λ xs. AreSlots xs c.in_ok-slots.slots) (c.as_slice.ensures.value ∙ sym c.from_vec.ensures) c.in_ok-slots.ensures.slots) (c.in_ok-slots.ensures.wide ∙ c.count.ensures.count)
