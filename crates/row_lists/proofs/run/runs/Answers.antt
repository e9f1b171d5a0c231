use Rattle.std.proofs.Common.{◌≡◌, ◌+◌, ◌-◌, ℕ, sym, subst, arith, [], ◌∷◌, ◌++◌, refl, ◌∙◌, List}
use Rattle.row_lists.specs.declared.span.Span.{Span}
use Rattle.row_lists.proofs.Running.{AreRunsTo, runs-none, runs-skip, runs-more, runs-all}
use Rattle.row_lists.proofs.run.runs.Goals.{then-place-end+in_ok-push, else-place-end}
use Rattle.row_lists.proofs.run.runs.Goals as goal

pub loop-i-init : goal.loop-i-init
loop-i-init c = subst (AreRunsTo c.args.key.now c.args.rows.now c.args.slot c.args.base c.args.places.now 0 0 c.args.base) (sym c.new-spans.ensures) (runs-none c.args.key.now c.args.rows.now c.args.slot c.args.base c.args.places.now)

moved : (key : List ℕ) (rows : List (List Rattle.cqa_value.specs.declared.value.Value.Value)) (slot base : ℕ) (places : List ℕ) (i e1 e2 n1 n2 : ℕ) (s1 s2 : List Span) →
    e1 ≡ e2 → n1 ≡ n2 → s1 ≡ s2 → AreRunsTo key rows slot base places i e2 n2 s2 → AreRunsTo key rows slot base places i e1 n1 s1
moved key rows slot base places i e1 e2 n1 n2 s1 s2 e n s h =
    subst (λ x. AreRunsTo key rows slot base places i x n1 s1) (sym e) (subst (λ x. AreRunsTo key rows slot base places i e2 x s1) (sym n) (subst (λ x. AreRunsTo key rows slot base places i e2 n2 x) (sym s) h))

pub loop-i-preserved : goal.loop-i-preserved
loop-i-preserved c = elim c.if-place-end.branch [
  | then-place-end+in_ok-push w ↦
      let b = w.block_start-start.ensures in
      let t = w.block_end-end.ensures in
      let above = t.behind in
      let s : Span = record { slot = c.args.slot; start = w.block_start-start.result; count = w.block_end-end.result - w.block_start-start.result; base = c.loop-i.next } in
      moved c.args.key.now c.args.rows.now c.args.slot c.args.base c.args.places.now (c.loop-i.i + 1) _ w.block_end-end.result _ (c.loop-i.next + s.count) _ (c.loop-i.spans ++ s ∷ []) w.end-is w.next-is (w.spans-is ∙ w.in_ok-push.ensures.ok)
      (runs-more c.args.key.now c.args.rows.now c.args.slot c.args.base c.args.places.now c.loop-i.i c.loop-i.end c.loop-i.next c.loop-i.spans c.loop-i.invariant
      (omega (arith, c.loop-i-test.true)) c.requires.places (omega (arith, w.if-place-end.true)) w.block_start-start.result w.block_end-end.result
      b.before b.block above t.within t.block s refl refl (omega (arith, above)) refl)
  | else-place-end w ↦
      moved c.args.key.now c.args.rows.now c.args.slot c.args.base c.args.places.now (c.loop-i.i + 1) _ c.loop-i.end _ c.loop-i.next _ c.loop-i.spans w.end-is w.next-is w.spans-is
      (runs-skip c.args.key.now c.args.rows.now c.args.slot c.args.base c.args.places.now c.loop-i.i c.loop-i.end c.loop-i.next c.loop-i.spans c.loop-i.invariant
      (omega (arith, c.loop-i-test.true)) c.requires.places (omega (arith, w.if-place-end.false)))
]

pub returns : goal.returns
returns c = runs-all c.args.key.now c.args.rows.now c.args.slot c.args.base c.args.places.now c.loop-i.i c.loop-i.end c.loop-i.next c.loop-i.spans c.loop-i.invariant (omega (arith, c.loop-i-test.false))
