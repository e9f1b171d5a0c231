use Rattle.std.proofs.Common.{rules, ◌≡◌, ◌+◌, ◌<◌, ℕ, List, length, take, get_or, refl, sym, ◌∙◌, ap, subst, arith}
use Rattle.std.specs.Prelude.{IfOk, IsTrue, ℤ, ◌+ℤ◌, ◌≤ℤ◌}
use mir.Val.{SFits, to_z, of_z}
use mir.Syntax.{w128}
use Rattle.std.proofs.lemmas.Int.{ints, to_z-of_z}
use Rattle.block_choices.specs.declared.row.BlockRow.{BlockRow}
use Rattle.choice_values.specs.Values.{Weighted}
use Rattle.choice_values.specs.Parts.{AreParts, AreSolved}
use Rattle.choice_values.specs.Choosing.{IsSolved}
use Rattle.choice_values.specs.Keeping.{AreAside, ArePutBack}
use Rattle.choice_values.proofs.Leasts.{IsBestSoFar, with-row, best-next, best-same, best-all}
use Rattle.choice_values.proofs.Apart.{if-ok, solved-more, solved-parts}
use Rattle.choice_values.proofs.solving.+solve.Goals.{solve_parts-in-Ok-true, solve_parts-in-Ok-false, solve_parts-in-Err, solve_cases-then-next-best+in_ok-put_aside-2, solve_cases-else-next-best}
use Rattle.choice_values.proofs.solving.+solve.Goals as goal

pub solve_cases-loop-row-preserved : goal.solve_cases-loop-row-preserved
solve_cases-loop-row-preserved t c =
    let sizes = c.args.sizes.now in
    let lists = c.args.lists.now in
    let b = c.most_named-block.result in
    let k = c.loop-row.row in
    let old = c.args.rows.now.items in
    let mid = c.loop-row.rows.items in
    let new = c.solve_with-in-loop-row.new.rows.items in
    let next = c.in_ok-next.next in
    let fits : SFits w128 next = search rules in
    let same = to_z-of_z w128 next fits in
    elim c.if-next-best.branch [
      | solve_cases-then-next-best+in_ok-put_aside-2 w ↦ (let e : to_z w128 c.if-next-best.best-bits ≡ next = search rules in
          let less = w.if-next-best.true in
          subst (λ (n : ℤ). IsBestSoFar sizes lists b (k + 1) old new c.if-next-best.aside.items n) (sym e)
          (subst (λ a. IsBestSoFar sizes lists b (k + 1) old new a.items next) (sym w.aside-is)
          (best-next sizes lists b old k mid new c.loop-row.aside.items w.put_aside-then-next-best.new.aside.items (to_z w128 c.loop-row.best-bits) next c.loop-row.invariant c.in_ok-next.ensures
          (omega (arith, ints, less, same)) (subst (λ (r : List ℕ). AreAside lists r w.put_aside-then-next-best.new.aside.items) w.as_slice-then-next-best.ensures.value w.in_ok-put_aside-2.ensures))))
      | solve_cases-else-next-best w ↦ (let e : to_z w128 c.if-next-best.best-bits ≡ to_z w128 c.loop-row.best-bits = search rules in
          let less = w.if-next-best.false in
          subst (λ (n : ℤ). IsBestSoFar sizes lists b (k + 1) old new c.if-next-best.aside.items n) (sym e)
          (subst (λ a. IsBestSoFar sizes lists b (k + 1) old new a.items (to_z w128 c.loop-row.best-bits)) (sym w.aside-is)
          (best-same sizes lists b old k mid new c.loop-row.aside.items (to_z w128 c.loop-row.best-bits) next c.loop-row.invariant c.in_ok-next.ensures (omega (arith, ints, less, same)))))
    ]

pub solve_cases-returns : goal.solve_cases-returns
solve_cases-returns t c =
    let sizes = c.args.sizes.now in
    let b = c.most_named-block.result in
    let z = c.size_of-row-end.ensures in
    let n = c.loop-row-test.false in
    best-all sizes c.args.lists.now b c.args.rows.now.items c.loop-row.row c.loop-row.rows.items c.put_back.new.rows.items c.loop-row.aside.items (to_z w128 c.loop-row.best-bits) (omega (arith, z, n)) c.loop-row.invariant
    (subst (λ (a : List BlockRow). ArePutBack a c.loop-row.rows.items c.put_back.new.rows.items) c.as_slice-2.ensures.value c.put_back.ensures)

pub solve_each-loop-part-preserved : goal.solve_each-loop-part-preserved
solve_each-loop-part-preserved t c =
    let parts = c.args.parts.now in
    let i = c.loop-part.part-index in
    let p = c.part-item.result in
    let item : get_or parts i p ≡ p = search rules in
    let whole : SFits w128 c.in_ok-sum.sum = search rules in
    let small : SFits w128 c.in_ok-more.more = search rules in
    solved-more c.args.sizes.now c.requires.apart.0 parts c.requires.apart.1 i c.loop-part-test.true p p item c.args.rows.now.items c.loop-part.rows.items c.solve_cases.new.rows.items (to_z w128 c.loop-part.sum-bits) c.in_ok-more.more
    (to_z w128 (of_z w128 c.in_ok-sum.sum)) c.loop-part.invariant c.in_ok-more.ensures
    (to_z-of_z w128 c.in_ok-sum.sum whole ∙ (c.in_ok-sum.ensures ∙ ap (λ x. to_z w128 c.loop-part.sum-bits +ℤ x) (to_z-of_z w128 c.in_ok-more.more small)))

pub solve_parts-returns : goal.solve_parts-returns
solve_parts-returns t c =
    let sizes = c.args.sizes.now in
    let lists = c.args.lists.now in
    let old = c.args.rows.now.items in
    let parts = c.fill_parts.new.parts.items in
    elim c.match-fill_parts.branch [
      | solve_parts-in-Ok-true w ↦ (let solved = w.solve_each-solved.result in
          let new = w.solve_each-solved.new.rows.items in
          let yes : IsTrue w.in-Ok-true.field-0 = search rules in
          let p : AreParts lists parts = subst (λ r. IfOk r (λ done. IsTrue done → AreParts lists parts)) w.in-Ok-true.is c.fill_parts.ensures yes in
          subst (λ r. IfOk r (IsSolved sizes lists old c.match-fill_parts.rows.items)) (sym w.solved-is)
          (subst (λ v. IfOk solved (IsSolved sizes lists old v.items)) (sym w.rows-is)
          (if-ok solved (λ n h. solved-parts sizes lists parts old new n p h)
          (subst (λ (ps : List (List Weighted)). IfOk solved (AreSolved sizes ps old new)) w.as_slice-in-Ok-true.ensures.value w.solve_each-solved.ensures))))
      | solve_parts-in-Ok-false w ↦ subst (λ r. IfOk r (IsSolved sizes lists old c.match-fill_parts.rows.items)) (sym w.solved-is) tt
      | solve_parts-in-Err w ↦ subst (λ r. IfOk r (IsSolved sizes lists old c.match-fill_parts.rows.items)) (sym w.solved-is) tt
    ]

pub solve_with-returns : goal.solve_with-returns
solve_with-returns t c =
    let sizes = c.args.sizes.now in
    let lists = c.args.lists.now in
    let old = c.args.rows.now.items in
    let mid = c.solve-solved.new.rows.items in
    let rest = c.in_ok-rest.rest in
    let n = c.in_ok-solved.field-0 in
    let whole : SFits w128 c.in_ok-value.value = search rules in
    let one : SFits w128 n = search rules in
    let two : SFits w128 rest.base = search rules in
    with-row sizes lists c.args.pick.block c.args.pick.row rest.base rest.lists c.in_ok-rest.ensures old mid n
    (subst (λ r. IfOk r (IsSolved sizes rest.lists old mid)) c.in_ok-solved.was c.solve-solved.ensures)
    c.requires.there c.requires.named c.keep.new.rows.items (to_z w128 (of_z w128 c.in_ok-value.value))
    (to_z-of_z w128 c.in_ok-value.value whole ∙ (c.in_ok-value.ensures ∙ (ap (λ x. x +ℤ to_z w128 (of_z w128 rest.base)) (to_z-of_z w128 n one) ∙ ap (λ x. n +ℤ x) (to_z-of_z w128 rest.base two))))
    c.keep.ensures.size c.keep.ensures.here c.keep.ensures.other
