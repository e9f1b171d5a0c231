use Rattle.std.proofs.Common.{◌≡◌, ◌∙◌, ◌+◌, not, true≢false, Some, length, sym, ap, refl, subst, arith}
use Rattle.std.specs.Prelude.{IfSome}
use Rattle.std.proofs.lemmas.Option.{slice_get_read}
use Rattle.std.proofs.lemmas.Bool.{not-false}
use Rattle.cqa_value.specs.Values.{row_decides}
use Rattle.refusals.specs.declared.refusal.Refusal.TheVariants.{KeyTaken}
use Rattle.table_changes.specs.Taken.{shown, taken_fault}
use Rattle.table_changes.proofs.Taking.{still_there, goes_on, stops, all_kept}
use Rattle.table_changes.proofs.taken.first_taken.Goals as goal

pub kept_row-kept-requires-clause-there : goal.kept_row-kept-requires-clause-there
kept_row-kept-requires-clause-there c = still_there c.args.key.now (shown c.args.sorted.now) c.args.rows.now c.requires.stable c.index-rows-at.result (c.loop-at.at, c.loop-at-test.true, sym c.index-rows-at.is)

pub returns-then-ne-clause-some : goal.returns-then-ne-clause-some
returns-then-ne-clause-some c =
    let rows = c.args.rows.now in
    let row = c.index-rows-at.result in
    let kept = c.kept_row-kept.result.now in
    let other = row_decides kept row in
    let taken = stops c.args.key.now c.args.stored.now (shown c.args.sorted.now) rows c.requires.stable c.loop-at.at row c.loop-at-test.true c.index-rows-at.is c.loop-at.invariant.so_far c.loop-at.invariant.consistent kept c.kept_row-kept.ensures
    (λ e. true≢false (sym c.if-ne.true ∙ c.ne.ensures ∙ ap not (other.1 e))) in
    subst (λ found. IfSome found (λ fresh. taken_fault c.args.key.now c.args.stored.now 1 rows ≡ Some (KeyTaken (c.loop-at.at + 1) kept fresh)))
    (sym (slice_get_read rows (length rows) c.loop-at.at row refl c.loop-at-test.true c.index-rows-at.is)) taken

pub loop-at-preserved : goal.loop-at-preserved
loop-at-preserved c =
    let row = c.index-rows-at.result in
    let kept = c.kept_row-kept.result.now in
    let same = (row_decides kept row).0 (not-false _ (sym c.ne.ensures ∙ c.if-ne.false)) in
    let more = goes_on c.args.key.now c.args.stored.now (shown c.args.sorted.now) c.args.rows.now c.requires.stable c.loop-at.at row c.loop-at-test.true c.index-rows-at.is c.loop-at.invariant.so_far c.loop-at.invariant.consistent kept c.kept_row-kept.ensures same in
    record { so_far = more.0; consistent = more.1 }

pub returns-clause-none : goal.returns-clause-none
returns-clause-none c e = all_kept c.args.key.now c.args.stored.now c.args.rows.now c.loop-at.at (let b = c.loop-at-test.false in omega (arith, b)) c.loop-at.invariant.so_far c.loop-at.invariant.consistent
