use Rattle.std.proofs.Common.{rules, ℕ, ◌⊎◌, Bool, List, is_some, IfSome, ◌∙◌, ◌∷◌, ◌<◌, ◌≤◌, true, false, [], length, get_or, refl, ap, sym, subst, arith, true≢false}
use Rattle.std.proofs.lemmas.Bool.{false≢true}
use Rattle.std.proofs.lemmas.Option.{get_or_from_slice_get}
use Rattle.std.proofs.Math.Logic.{∥∥₁_elim}
use Rattle.std.proofs.Props.{props}
use Rattle.cqa_model.specs.Database.{stored}
use Rattle.cqa_value.specs.declared.value.Value.{Value}
use Rattle.cqa_model.specs.Repairs.{SharesKey}
use Rattle.cqa_model.specs.Query.{atom_key}
use Rattle.cqa_model.specs.Plan.{IsPlan, PlanHolds}
use Rattle.cqa_model.specs.Partial.{view_of}
use Rattle.cqa_model.proofs.Views.{view-in_range}
use Rattle.plan_rows.specs.Taking.{placed}
use Rattle.plan_rows.specs.Underway.{IsUnderway, IsRight}
use Rattle.plan_rows.specs.declared.memo.Memo.{Memo}
use Rattle.plan_rows.proofs.Sharing.{passed-count, underway-more, still-right, keeps-right}
use Rattle.plan_rows.proofs.Suiting.{suits-from}
use Rattle.plan_rows.proofs.PlanParts.{plan-split, rest-shorter}
use Rattle.plan_rows.specs.Links.{RowHolds, atoms_on}
use Rattle.repair_back.specs.Flags.{IsFlagged}
use Rattle.plan_repair.specs.Mending.{Lacks}
use Rattle.plan_repair.specs.Along.{IsFreeFrom, Mends}
use Rattle.plan_repair.proofs.Outcomes.{block-found, few-of}
use Rattle.repair_back.specs.Walking.{IsBlockBetween}
use Rattle.plan_repair.proofs.Apart.{none-enough, none-whole, none-past, if-before, some-none}
use Rattle.plan_repair.proofs.Stepping.{reached-joined, reached-same, reached-forget, lacks-none, lacks-unfit}
use Rattle.plan_repair.proofs.Looking.{passed-led, outside-led}
use Rattle.repair_back.proofs.BlockEnds.{in-block}
use Rattle.plan_repair.proofs.Mended.{IsInWitness, BlocksSoFar, blocks-none, blocks-more, blocks-on, blocks-all, block-holds, turned, rows-turned, rows-skip, block-lacks, kept-read}
use Rattle.plan_repair.proofs.mending.+mend.Goals as goal
use Rattle.plan_repair.proofs.mending.+mend.Goals.{mend_places-then-at-done+in_ok-mended+else-mended-before, mend_places-else-at-done}

pub mend_block-row_mended-requires : goal.mend_block-row_mended-requires
mend_block-row_mended-requires t c =
    let k = c.kept_of-first.ensures in (
      omega (arith, c.decreases),
      (
        c.requires.next,
        (
          c.requires.chosen,
          (
            c.requires.memo,
            kept-read c.args.way.now.course.now.setting.bound.now.query.now c.args.way.now.course.now.setting.bound.now.db.now c.args.kept.now c.requires.chosen c.args.atom c.requires.next.there c.args.rows.now c.requires.rows c.kept_of-first.result k.kept c.get.result.now
                (sym (get_or_from_slice_get c.args.rows.now c.kept_of-first.result c.get.result.now [] c.get.ensures)),
          ),
        ),
      ),
    )

pub mend_block-loop-next-init : goal.mend_block-loop-next-init
mend_block-loop-next-init t c =
    let k = c.kept_of-first.ensures in
    let m = c.row_mended.ensures.mends in
    record {
      rows = record {
        chosen = m.chosen;
        reached = m.reached;
        after = k.after;
        before = k.before;
        is_kept = subst (λ f. IsFlagged f c.kept_of-first.result) (sym c.row_mended.ensures.same) k.kept;
        holds = subst (λ x. RowHolds c.args.way.now.course.now.setting.bound.now.query.now (stored c.args.way.now.course.now.setting.bound.now.db.now) c.args.way.now.row.now (placed c.args.taken.now) c.args.atom c.args.rest.now x)
            (sym (get_or_from_slice_get c.args.rows.now c.kept_of-first.result c.get.result.now [] c.get.ensures)) (m.holds (search rules));
        held = λ i l b. absurd (omega (arith, l, b));
      };
      right = c.row_mended.ensures.memo;
    }

pub mend_block-loop-next-preserved-then-next-first : goal.mend_block-loop-next-preserved-then-next-first
mend_block-loop-next-preserved-then-next-first t c =
    let k = c.kept_of-first.ensures in
    record {
      right = c.loop-next.invariant.right;
      rows = rows-skip c.args.way.now.course.now.setting.bound.now.query.now c.args.way.now.course.now.setting.bound.now.db.now c.args.way.now.row.now (placed c.args.taken.now) c.args.atom c.args.rest.now c.args.kept.now c.loop-next.kept c.args.rows.now c.args.start c.args.end c.loop-next.last c.loop-next.next c.loop-next.invariant.rows
          (subst (λ x. RowHolds c.args.way.now.course.now.setting.bound.now.query.now (stored c.args.way.now.course.now.setting.bound.now.db.now) c.args.way.now.row.now (placed c.args.taken.now) c.args.atom c.args.rest.now x)
          (sym (get_or_from_slice_get c.args.rows.now c.kept_of-first.result c.get.result.now [] c.get.ensures) ∙ ap (λ i. get_or c.args.rows.now i []) (sym c.if-next-first.true))
          (c.row_mended.ensures.mends.holds (search rules)));
    }

pub mend_block-row_mended-requires-in-loop-next : goal.mend_block-row_mended-requires-in-loop-next
mend_block-row_mended-requires-in-loop-next t c =
    let some = c.requires.block.some in
    let test = c.loop-next-test.true in
    let k = c.keep.ensures in
    let turn = turned c.args.way.now.course.now.setting.bound.now.query.now c.args.way.now.course.now.setting.bound.now.db.now c.args.way.now.course.now.setting.bound.now.fits c.args.way.now.row.now c.args.way.now.long (placed c.args.taken.now) c.requires.next.taken_fit c.args.atom c.requires.next.has c.args.rest.now c.requires.next.plan
    c.args.rows.now c.requires.rows c.args.start c.args.end c.requires.block c.args.kept.now c.loop-next.kept c.keep.new.kept c.loop-next.last c.loop-next.next c.loop-next.invariant.rows c.loop-next.auto.next test
    c.keep.auto.kept k.size k.is k.others in (
      omega (arith, c.decreases),
      (
        c.requires.next,
        (
          turn.chosen,
          (
            c.loop-next.invariant.right,
            kept-read c.args.way.now.course.now.setting.bound.now.query.now c.args.way.now.course.now.setting.bound.now.db.now c.keep.new.kept turn.chosen c.args.atom c.requires.next.there c.args.rows.now c.requires.rows c.loop-next.next ((k.is c.loop-next.next).1 (Rattle.std.proofs.Common.inl refl)) c.get-in-loop-next.result.now
                (sym (get_or_from_slice_get c.args.rows.now c.loop-next.next c.get-in-loop-next.result.now [] c.get-in-loop-next.ensures)),
          ),
        ),
      ),
    )

pub mend_block-loop-next-preserved : goal.mend_block-loop-next-preserved
mend_block-loop-next-preserved t c =
    let test = c.loop-next-test.true in
    let k = c.keep.ensures in
    let m = c.row_mended-in-loop-next.ensures.mends in
    let turn = turned c.args.way.now.course.now.setting.bound.now.query.now c.args.way.now.course.now.setting.bound.now.db.now c.args.way.now.course.now.setting.bound.now.fits c.args.way.now.row.now c.args.way.now.long (placed c.args.taken.now) c.requires.next.taken_fit c.args.atom c.requires.next.has c.args.rest.now c.requires.next.plan
    c.args.rows.now c.requires.rows c.args.start c.args.end c.requires.block c.args.kept.now c.loop-next.kept c.keep.new.kept c.loop-next.last c.loop-next.next c.loop-next.invariant.rows c.loop-next.auto.next test
    c.keep.auto.kept k.size k.is k.others in
    record {
      right = c.row_mended-in-loop-next.ensures.memo;
      rows = rows-turned c.args.way.now.course.now.setting.bound.now.query.now c.args.way.now.course.now.setting.bound.now.db.now c.args.way.now.course.now.setting.bound.now.fits c.args.way.now.row.now c.args.way.now.long (placed c.args.taken.now) c.requires.next.taken_fit c.args.atom c.requires.next.has c.args.rest.now c.requires.next.plan
          c.args.rows.now c.requires.rows c.args.start c.args.end c.requires.block c.args.kept.now c.loop-next.kept c.keep.new.kept c.row_mended-in-loop-next.new.kept c.loop-next.last c.loop-next.next c.loop-next.invariant.rows turn c.loop-next.auto.next test
          k.is m.chosen m.reached c.row_mended-in-loop-next.ensures.same
          (subst (λ x. RowHolds c.args.way.now.course.now.setting.bound.now.query.now (stored c.args.way.now.course.now.setting.bound.now.db.now) c.args.way.now.row.now (placed c.args.taken.now) c.args.atom c.args.rest.now x)
          (sym (get_or_from_slice_get c.args.rows.now c.loop-next.next c.get-in-loop-next.result.now [] c.get-in-loop-next.ensures)) (m.holds (search rules)));
    }

pub mend_places-loop-at-init : goal.mend_places-loop-at-init
mend_places-loop-at-init t c =
    record { blocks = blocks-none c.args.way.now.course.now.setting.bound.now.query.now c.args.way.now.course.now.setting.bound.now.db.now c.args.way.now.course.now.setting.bound.now.fits c.args.way.now.row.now c.args.way.now.long (placed c.args.taken.now) c.requires.next.taken_fit c.args.atom c.requires.next.has c.args.kept.now c.rows_of-rows.result c.args.places.now.start c.requires.chosen; right = c.requires.memo }

pub mend_places-loop-at-preserved : goal.mend_places-loop-at-preserved
mend_places-loop-at-preserved t c =
    let is = c.rows_of-rows.ensures.rows in
    let within = c.requires.there.2.within in
    let inside : c.loop-at.at < length c.rows_of-rows.result = subst (λ (rs : List (List Value)). c.loop-at.at < length rs) (sym is) (omega (arith, c.loop-at-test.true, within)) in
    let passed : (i : ℕ) → c.loop-at.at < i → i < c.after-at.result → i < length c.rows_of-rows.result → IsInWitness c.args.way.now.course.now.setting.bound.now.query.now c.args.way.now.course.now.setting.bound.now.db.now c.args.way.now.row.now (placed c.args.taken.now) c.args.atom (get_or c.rows_of-rows.result i []) → ⊥ =
    λ i low high. subst (λ (rs : List (List Value)). i < length rs → IsInWitness c.args.way.now.course.now.setting.bound.now.query.now c.args.way.now.course.now.setting.bound.now.db.now c.args.way.now.row.now (placed c.args.taken.now) c.args.atom (get_or rs i []) → ⊥) (sym is)
    (passed-led c.args.way.now (placed c.args.taken.now) c.args.atom c.args.rest.now c.requires.next c.args.places.now c.requires.there c.loop-at.at c.after-at.result c.after-at.ensures.passed i low high) in
    elim c.if-at-done.branch [
      | mend_places-then-at-done+in_ok-mended+else-mended-before w ↦
          let block = subst (λ key. IsBlockBetween key c.rows_of-rows.result w.block_start-start.result w.block_end-done.result) c.key_of-key.ensures w.block_end-done.ensures.block in
          let same = subst (λ key. SharesKey key (get_or c.rows_of-rows.result w.block_start-start.result []) (get_or c.rows_of-rows.result c.loop-at.at [])) c.key_of-key.ensures w.block_start-start.ensures.same in
          let above = in-block (atom_key c.args.way.now.course.now.setting.bound.now.query.now c.args.atom) c.rows_of-rows.result w.block_start-start.result w.block_end-done.result c.loop-at.at block inside same in
          record {
            right = subst (λ (m : Memo). IsRight c.args.way.now.course.now m) (sym w.memo-is) w.mend_block.ensures.memo;
            blocks = subst (λ (k : List (List Bool)). BlocksSoFar c.args.way.now.course.now.setting.bound.now.query.now c.args.way.now.course.now.setting.bound.now.db.now c.args.way.now.row.now (placed c.args.taken.now) c.args.atom c.args.kept.now k c.rows_of-rows.result c.args.places.now.start c.after-at.result c.if-at-done.done) (sym w.kept-is)
                (subst (λ d. BlocksSoFar c.args.way.now.course.now.setting.bound.now.query.now c.args.way.now.course.now.setting.bound.now.db.now c.args.way.now.row.now (placed c.args.taken.now) c.args.atom c.args.kept.now w.mend_block.new.kept c.rows_of-rows.result c.args.places.now.start c.after-at.result d) (sym w.done-is)
                (blocks-on c.args.way.now.course.now.setting.bound.now.query.now c.args.way.now.course.now.setting.bound.now.db.now c.args.way.now.course.now.setting.bound.now.fits c.args.way.now.row.now c.args.way.now.long (placed c.args.taken.now) c.requires.next.taken_fit c.args.atom c.requires.next.has c.args.kept.now w.mend_block.new.kept c.rows_of-rows.result c.args.places.now.start c.loop-at.at w.block_end-done.result c.after-at.result
                (blocks-more c.args.way.now.course.now.setting.bound.now.query.now c.args.way.now.course.now.setting.bound.now.db.now c.args.way.now.course.now.setting.bound.now.fits c.args.way.now.row.now c.args.way.now.long (placed c.args.taken.now) c.requires.next.taken_fit c.args.atom c.requires.next.has c.requires.next.free c.args.kept.now c.loop-at.kept w.mend_block.new.kept
                c.rows_of-rows.result c.args.places.now.start c.loop-at.at c.loop-at.done w.block_start-start.result w.block_end-done.result c.loop-at.invariant.blocks block w.block_start-start.ensures.before above
                w.mend_block.ensures.mends.chosen w.mend_block.ensures.mends.reached (w.mend_block.ensures.mends.lacks (ap is_some w.in_ok-mended.was)))
                above passed));
          }
      | mend_places-else-at-done w ↦
          record {
            right = subst (λ (m : Memo). IsRight c.args.way.now.course.now m) (sym w.memo-is) c.loop-at.invariant.right;
            blocks = subst (λ (k : List (List Bool)). BlocksSoFar c.args.way.now.course.now.setting.bound.now.query.now c.args.way.now.course.now.setting.bound.now.db.now c.args.way.now.row.now (placed c.args.taken.now) c.args.atom c.args.kept.now k c.rows_of-rows.result c.args.places.now.start c.after-at.result c.if-at-done.done) (sym w.kept-is)
                (subst (λ d. BlocksSoFar c.args.way.now.course.now.setting.bound.now.query.now c.args.way.now.course.now.setting.bound.now.db.now c.args.way.now.row.now (placed c.args.taken.now) c.args.atom c.args.kept.now c.loop-at.kept c.rows_of-rows.result c.args.places.now.start c.after-at.result d) (sym w.done-is)
                (blocks-on c.args.way.now.course.now.setting.bound.now.query.now c.args.way.now.course.now.setting.bound.now.db.now c.args.way.now.course.now.setting.bound.now.fits c.args.way.now.row.now c.args.way.now.long (placed c.args.taken.now) c.requires.next.taken_fit c.args.atom c.requires.next.has c.args.kept.now c.loop-at.kept c.rows_of-rows.result c.args.places.now.start c.loop-at.at c.loop-at.done c.after-at.result c.loop-at.invariant.blocks
                (omega (arith, w.if-at-done.false)) passed));
          }
    ]

pub mend_anew-mend_blocks-requires : goal.mend_anew-mend_blocks-requires
mend_anew-mend_blocks-requires t c =
    let q = c.args.way.now.course.now.setting.bound.now.query.now in
    let here = c.requires.here in
    let l = c.in-len1-up.len_at_least in
    let h = subst (λ p. IsPlan q (view_of q (placed c.args.taken.now)) p) (plan-split c.args.plan.now l) here.plan in (
      omega (arith, rest-shorter c.args.plan.now l, c.decreases),
      (
        record {
          underway = subst (IsUnderway c.args.way.now.course.now (placed c.args.taken.now)) (plan-split c.args.plan.now l) here.underway;
          taken_fit = here.taken_fit;
          has = h.0;
          free = h.1;
          plan = h.3;
          there = view-in_range q (placed c.args.taken.now) _ h.0;
        },
        (c.requires.chosen, c.requires.memo),
      ),
    )

pub row_mended-mend_rest-requires : goal.row_mended-mend_rest-requires
row_mended-mend_rest-requires t c =
    let q = c.args.way.now.course.now.setting.bound.now.query.now in
    let taken = placed c.args.taken.now in
    let next = c.requires.next in
    let f = c.fits.ensures.0 c.if-not-fits.false in (
      omega (arith, c.decreases),
      (
        record {
          underway = underway-more c.args.way.now.course.now taken c.args.atom c.args.rest.now c.args.y.now next.underway (suits-from q taken c.args.atom c.args.y.now c.args.way.now.row.now f);
          taken_fit = (next.has, f, next.taken_fit);
          plan = next.plan;
        },
        (c.requires.chosen, still-right c.args.way.now.course.now c.args.memo.now c.turn.new.self c.turn.ensures c.requires.memo),
      ),
    )

pub row_mended-returns-clause-same : goal.row_mended-returns-clause-same
row_mended-returns-clause-same t c =
    reached-same c.args.way.now.course.now.setting.bound.now.query.now c.args.way.now.course.now.setting.bound.now.db.now c.args.way.now.course.now.setting.bound.now.fits c.args.way.now.row.now c.args.way.now.long (placed c.args.taken.now) c.requires.next.taken_fit c.args.atom c.requires.next.has c.args.y.now c.args.kept.now c.mend_rest.new.kept c.mend_rest.ensures.mends.reached

pub row_mended-returns-then-not-fits-clause-memo : goal.row_mended-returns-then-not-fits-clause-memo
row_mended-returns-then-not-fits-clause-memo t c = still-right c.args.way.now.course.now c.args.memo.now c.turn.new.self c.turn.ensures c.requires.memo

pub remembered-returns-in-None-clause-memo : goal.remembered-returns-in-None-clause-memo
remembered-returns-in-None-clause-memo t c =
    keeps-right c.args.way.now.course.now c.mend_anew.new.memo c.keep.new.self (placed c.args.taken.now) c.args.plan.now c.args.way.now.row.now c.args.key true
    c.mend_anew.ensures.memo c.requires.here.underway c.requires.key ((λ e. c.mend_anew.ensures.mends.holds (ap is_some c.in-None.is)), (λ h. refl)) c.keep.ensures

pub mend_block-returns-in-Some-clause-mends : goal.mend_block-returns-in-Some-clause-mends
mend_block-returns-in-Some-clause-mends t c =
    let m = c.row_mended.ensures.mends in
    block-found c.args.way.now (placed c.args.taken.now) c.args.atom _ _ c.args.kept.now c.row_mended.new.kept c.row_mended.result c.in-Some.mended c.in-Some.is m.chosen m.reached m.mended
    (let k = c.kept_of-first.ensures in
    block-lacks c.args.way.now.course.now.setting.bound.now.query.now c.args.way.now.course.now.setting.bound.now.db.now c.args.way.now.row.now (placed c.args.taken.now) c.args.atom c.args.rest.now c.row_mended.new.kept c.args.rows.now c.args.start c.args.end c.kept_of-first.result c.requires.block k.after k.before
    (subst (λ x. Lacks c.args.way.now.course.now.setting.bound.now.db.now c.args.way.now.course.now.setting.bound.now.query.now c.args.way.now.row.now (placed c.args.taken.now) c.args.atom c.row_mended.new.kept x)
    (sym (get_or_from_slice_get c.args.rows.now c.kept_of-first.result c.get.result.now [] c.get.ensures)) (c.row_mended.ensures.mends.lacks (ap is_some c.in-Some.is))))

pub mend_block-returns-in-Some-row_mended-clause-mends : goal.mend_block-returns-in-Some-row_mended-clause-mends
mend_block-returns-in-Some-row_mended-clause-mends t c =
    let m = c.row_mended-in-loop-next.ensures.mends in
    let test = c.loop-next-test.true in
    let k = c.keep.ensures in
    let turn = turned c.args.way.now.course.now.setting.bound.now.query.now c.args.way.now.course.now.setting.bound.now.db.now c.args.way.now.course.now.setting.bound.now.fits c.args.way.now.row.now c.args.way.now.long (placed c.args.taken.now) c.requires.next.taken_fit c.args.atom c.requires.next.has c.args.rest.now c.requires.next.plan
    c.args.rows.now c.requires.rows c.args.start c.args.end c.requires.block c.args.kept.now c.loop-next.kept c.keep.new.kept c.loop-next.last c.loop-next.next c.loop-next.invariant.rows c.loop-next.auto.next c.loop-next-test.true
    c.keep.auto.kept k.size k.is k.others in
    block-found c.args.way.now (placed c.args.taken.now) c.args.atom _ _ c.args.kept.now c.row_mended-in-loop-next.new.kept c.row_mended-in-loop-next.result c.in-Some-row_mended.mended c.in-Some-row_mended.is m.chosen
    (reached-joined c.args.way.now.course.now.setting.bound.now.query.now c.args.way.now.course.now.setting.bound.now.db.now c.args.way.now.course.now.setting.bound.now.fits c.args.way.now.row.now c.args.way.now.long (placed c.args.taken.now) c.args.kept.now c.keep.new.kept c.row_mended-in-loop-next.new.kept turn.reached c.row_mended-in-loop-next.ensures.mends.reached)
    m.mended
    (block-lacks c.args.way.now.course.now.setting.bound.now.query.now c.args.way.now.course.now.setting.bound.now.db.now c.args.way.now.row.now (placed c.args.taken.now) c.args.atom c.args.rest.now c.row_mended-in-loop-next.new.kept c.args.rows.now c.args.start c.args.end c.loop-next.next c.requires.block c.loop-next.auto.next test
    (subst (λ x. Lacks c.args.way.now.course.now.setting.bound.now.db.now c.args.way.now.course.now.setting.bound.now.query.now c.args.way.now.row.now (placed c.args.taken.now) c.args.atom c.row_mended-in-loop-next.new.kept x)
    (sym (get_or_from_slice_get c.args.rows.now c.loop-next.next c.get-in-loop-next.result.now [] c.get-in-loop-next.ensures)) (c.row_mended-in-loop-next.ensures.mends.lacks (ap is_some c.in-Some-row_mended.is))))

pub mend_block-returns-clause-mends : goal.mend_block-returns-clause-mends
mend_block-returns-clause-mends t c =
    let r = c.loop-next.invariant.rows in
    let ended = c.loop-next-test.false in
    record { chosen = r.chosen; reached = r.reached; mended = tt; lacks = λ e. absurd (false≢true e); holds = λ e i l b. r.held i l (omega (arith, b, ended)) }

pub mend_places-returns-in_err-mended-clause-mends : goal.mend_places-returns-in_err-mended-clause-mends
mend_places-returns-in_err-mended-clause-mends t c =
    let m = c.mend_block.ensures.mends in
    record {
      chosen = m.chosen;
      reached = reached-joined c.args.way.now.course.now.setting.bound.now.query.now c.args.way.now.course.now.setting.bound.now.db.now c.args.way.now.course.now.setting.bound.now.fits c.args.way.now.row.now c.args.way.now.long (placed c.args.taken.now) c.args.kept.now c.loop-at.kept c.mend_block.new.kept c.loop-at.invariant.blocks.reached c.mend_block.ensures.mends.reached;
      few = search rules;
      mended = search rules;
      holds = λ e. block-holds c.args.way.now.course.now.setting.bound.now.query.now c.args.way.now.course.now.setting.bound.now.db.now c.args.way.now.course.now.setting.bound.now.fits c.args.way.now.row.now c.args.way.now.long (placed c.args.taken.now) c.requires.next.taken_fit c.args.atom c.requires.next.has c.args.rest.now c.rows_of-rows.result c.block_start-start.result c.block_end-done.result
          c.rows_of-rows.ensures.rows
          (subst (λ key. IsBlockBetween key c.rows_of-rows.result c.block_start-start.result c.block_end-done.result) c.key_of-key.ensures c.block_end-done.ensures.block)
          (c.mend_block.ensures.mends.holds (ap is_some c.in_err-mended.was));
    }

pub mend_places-returns-then-mended-before-clause-mends : goal.mend_places-returns-then-mended-before-clause-mends
mend_places-returns-then-mended-before-clause-mends t c =
    let m = c.mend_block.ensures.mends in
    let n = passed-count c.args.way.now.course.now (placed c.args.taken.now) (c.args.atom ∷ c.args.rest.now) c.requires.next.underway in
    record {
      chosen = m.chosen;
      reached = reached-joined c.args.way.now.course.now.setting.bound.now.query.now c.args.way.now.course.now.setting.bound.now.db.now c.args.way.now.course.now.setting.bound.now.fits c.args.way.now.row.now c.args.way.now.long (placed c.args.taken.now) c.args.kept.now c.loop-at.kept c.mend_block.new.kept c.loop-at.invariant.blocks.reached c.mend_block.ensures.mends.reached;
      few = omega (arith, n, c.if-mended-before.true);
      mended = subst (λ r. IfSome r (λ count. IsFreeFrom c.args.way.now (placed c.args.taken.now) c.mend_block.new.kept count)) c.in_ok-mended.was m.mended;
      holds = λ e. absurd (true≢false e);
    }

pub mend_places-returns-clause-mends : goal.mend_places-returns-clause-mends
mend_places-returns-clause-mends t c =
    let is = c.rows_of-rows.ensures.rows in
    let n = passed-count c.args.way.now.course.now (placed c.args.taken.now) (c.args.atom ∷ c.args.rest.now) c.requires.next.underway in
    let b = c.loop-at.invariant.blocks in
    record {
      chosen = b.chosen;
      reached = b.reached;
      few = omega (arith, n);
      mended = none-whole c.args.way.now.course.now.setting.bound.now.query.now c.args.way.now.course.now.setting.bound.now.db.now c.args.way.now.row.now c.loop-at.kept (placed c.args.taken.now) _ (omega (arith, n))
          (blocks-all c.args.way.now.course.now.setting.bound.now.query.now c.args.way.now.course.now.setting.bound.now.db.now c.args.way.now.row.now (placed c.args.taken.now) c.args.atom c.requires.next.has c.args.kept.now c.loop-at.kept
          c.rows_of-rows.result c.args.places.now.start c.args.places.now.end c.loop-at.at c.loop-at.done is
          (subst (λ (rs : List (List Value)). (i : ℕ) → i < length rs → (i < c.args.places.now.start) ⊎ (c.args.places.now.end ≤ i) → IsInWitness c.args.way.now.course.now.setting.bound.now.query.now c.args.way.now.course.now.setting.bound.now.db.now c.args.way.now.row.now (placed c.args.taken.now) c.args.atom (get_or rs i []) → ⊥) (sym is)
          (outside-led c.args.way.now (placed c.args.taken.now) c.args.atom c.args.rest.now c.requires.next c.args.places.now c.requires.there))
          c.loop-at.invariant.blocks (omega (arith, c.loop-at-test.false)));
      holds = λ e. absurd (true≢false e);
    }

pub mend_anew-returns-in_err-mended-in-len1-up-clause-mends : goal.mend_anew-returns-in_err-mended-in-len1-up-clause-mends
mend_anew-returns-in_err-mended-in-len1-up-clause-mends t c =
    let m = c.mend_blocks.ensures.mends in
    record {
      chosen = m.chosen;
      reached = m.reached;
      few = search rules;
      mended = search rules;
      holds = λ e. subst (λ p. PlanHolds c.args.way.now.course.now.setting.bound.now.query.now (stored c.args.way.now.course.now.setting.bound.now.db.now) c.args.way.now.row.now (placed c.args.taken.now) p)
          (sym (plan-split c.args.plan.now c.in-len1-up.len_at_least)) (c.mend_blocks.ensures.mends.holds (ap is_some c.in_err-mended-in-len1-up.was));
    }

pub mend_anew-returns-then-enough-mended-clause-mends : goal.mend_anew-returns-then-enough-mended-clause-mends
mend_anew-returns-then-enough-mended-clause-mends t c =
    let q = c.args.way.now.course.now.setting.bound.now.query.now in
    let db = c.args.way.now.course.now.setting.bound.now.db.now in
    let row = c.args.way.now.row.now in
    let taken = placed c.args.taken.now in
    let here = c.requires.here in
    let m = c.mend_blocks.ensures.mends in
    let few = few-of c.mend_blocks.result c.in_ok-mended-in-len1-up.mended (length taken) c.in_ok-mended-in-len1-up.was m.few in
    record {
      chosen = m.chosen;
      reached = m.reached;
      few = omega (arith, few, c.if-enough-mended.true);
      mended = ∥∥₁_elim c.enough_for-enough.ensures (hlevel props) (λ apart.
          none-enough q db c.args.way.now.course.now.setting.bound.now.fits row c.args.way.now.long c.mend_blocks.new.kept c.args.way.now.course.now.order.now taken c.args.plan.now c.enough_for-enough.result here.underway.place apart here.taken_fit here.plan
          (some-none q db row c.mend_blocks.new.kept taken c.mend_blocks.result m.few m.mended (ap is_some c.in_ok-mended-in-len1-up.was)));
      holds = λ e. absurd (true≢false e);
    }

pub mend_anew-returns-else-enough-mended-clause-mends : goal.mend_anew-returns-else-enough-mended-clause-mends
mend_anew-returns-else-enough-mended-clause-mends t c =
    let m = c.mend_blocks.ensures.mends in
    record {
      chosen = m.chosen;
      reached = m.reached;
      few = subst (λ r. IfSome r (λ count. count ≤ length (placed c.args.taken.now))) c.in_ok-mended-in-len1-up.was m.few;
      mended = subst (λ r. IfSome r (λ count. IsFreeFrom c.args.way.now (placed c.args.taken.now) c.mend_blocks.new.kept count)) c.in_ok-mended-in-len1-up.was m.mended;
      holds = λ e. absurd (true≢false e);
    }

pub row_mended-returns-then-not-fits-clause-mends : goal.row_mended-returns-then-not-fits-clause-mends
row_mended-returns-then-not-fits-clause-mends t c =
    let n = passed-count c.args.way.now.course.now (placed c.args.taken.now) (c.args.atom ∷ c.args.rest.now) c.requires.next.underway in
    record {
      chosen = c.requires.chosen;
      reached = (0, refl);
      mended = none-past c.args.way.now.course.now.setting.bound.now.query.now c.args.way.now.course.now.setting.bound.now.db.now c.args.way.now.row.now c.args.kept.now (placed c.args.taken.now) _ (omega (arith, n));
      lacks = λ e. lacks-unfit c.args.way.now.course.now.setting.bound.now.query.now c.args.way.now.course.now.setting.bound.now.db.now c.args.way.now.course.now.setting.bound.now.fits c.args.way.now.row.now c.args.way.now.long (placed c.args.taken.now) c.requires.next.taken_fit c.args.atom c.requires.next.has c.args.y.now c.args.kept.now c.requires.chosen c.requires.kept
          (λ f. true≢false (sym (c.fits.ensures.1 f) ∙ c.if-not-fits.true));
      holds = λ e. absurd (true≢false e);
    }

pub row_mended-returns-clause-mends : goal.row_mended-returns-clause-mends
row_mended-returns-clause-mends t c =
    let m = c.mend_rest.ensures.mends in
    let same = reached-same c.args.way.now.course.now.setting.bound.now.query.now c.args.way.now.course.now.setting.bound.now.db.now c.args.way.now.course.now.setting.bound.now.fits c.args.way.now.row.now c.args.way.now.long (placed c.args.taken.now) c.requires.next.taken_fit c.args.atom c.requires.next.has c.args.y.now c.args.kept.now c.mend_rest.new.kept c.mend_rest.ensures.mends.reached in
    record {
      chosen = m.chosen;
      reached = reached-forget c.args.way.now.course.now.setting.bound.now.query.now c.args.way.now.course.now.setting.bound.now.db.now c.args.way.now.course.now.setting.bound.now.fits c.args.way.now.row.now c.args.way.now.long (placed c.args.taken.now) c.requires.next.taken_fit c.args.atom c.requires.next.has c.args.y.now c.args.kept.now c.mend_rest.new.kept c.requires.kept m.reached;
      mended = if-before c.args.way.now.course.now.setting.bound.now.query.now c.args.way.now.course.now.setting.bound.now.db.now c.args.way.now.row.now c.mend_rest.new.kept (placed c.args.taken.now) _ c.mend_rest.result m.mended;
      lacks = λ e. lacks-none c.args.way.now.course.now.setting.bound.now.query.now c.args.way.now.course.now.setting.bound.now.db.now c.args.way.now.course.now.setting.bound.now.fits c.args.way.now.row.now c.args.way.now.long (placed c.args.taken.now) c.requires.next.taken_fit c.args.atom c.requires.next.has c.args.y.now c.mend_rest.new.kept c.mend_rest.ensures.mends.chosen
          (subst (λ rows. Rattle.std.proofs.Common.Contains rows c.args.y.now) (sym (Rattle.plan_repair.proofs.Stepping.same-rows c.args.way.now.course.now.setting.bound.now.query.now c.args.way.now.course.now.setting.bound.now.db.now c.args.way.now.course.now.setting.bound.now.fits c.args.way.now.row.now c.args.way.now.long c.args.kept.now c.mend_rest.new.kept c.args.atom same)) c.requires.kept)
          (some-none c.args.way.now.course.now.setting.bound.now.query.now c.args.way.now.course.now.setting.bound.now.db.now c.args.way.now.row.now c.mend_rest.new.kept _ c.mend_rest.result c.mend_rest.ensures.mends.few c.mend_rest.ensures.mends.mended e);
      holds = λ e. (c.fits.ensures.0 c.if-not-fits.false, m.holds e);
    }

pub remembered-returns-in-Some-clause-mends : goal.remembered-returns-in-Some-clause-mends
remembered-returns-in-Some-clause-mends t c =
    subst (λ r. Mends c.args.way.now (placed c.args.taken.now) c.args.plan.now c.args.kept.now c.mend_anew.new.kept r) c.in-Some.is c.mend_anew.ensures.mends

pub remembered-returns-in-None-clause-mends : goal.remembered-returns-in-None-clause-mends
remembered-returns-in-None-clause-mends t c =
    subst (λ r. Mends c.args.way.now (placed c.args.taken.now) c.args.plan.now c.args.kept.now c.mend_anew.new.kept r) c.in-None.is c.mend_anew.ensures.mends

pub mend_blocks-invariant_of-look : goal.mend_blocks-invariant_of-look
mend_blocks-invariant_of-look t c = record { there = c.requires.next.there }

pub row_mended-invariant_of-look : goal.row_mended-invariant_of-look
row_mended-invariant_of-look t c = record { there = c.requires.next.there }

pub mend_blocks-mend_places-mended-requires : goal.mend_blocks-mend_places-mended-requires
mend_blocks-mend_places-mended-requires t c =
    (omega (arith, c.decreases), (c.requires.next, ((atoms_on c.links.result.now, c.links.ensures.behind, c.reached-places.ensures), (c.requires.chosen, c.requires.memo))))
