use Rattle.std.proofs.Common.{◌≡◌, true, false, sym, ◌∙◌, arith}
use Rattle.std.specs.Fn.{ComputesKey}
use Rattle.std.proofs.lemmas.Option.{slice_get_within, get_or_from_slice_get}
use Rattle.std.proofs.lemmas.List.Elements.{at_read}
use borrow.Author.Rules.{of_calls}
use Rattle.row_pieces.proofs.Halving.{front_passes, back_fails}
use Rattle.row_pieces.proofs.Answering.{answers}
use Rattle.table_blocks.proofs.search.leading.Goals as goal
use Rattle.table_blocks.proofs.search.leading.Goals.{then-next-len, else-next-len+then-not-passes}

pub loop-passed-preserved : goal.loop-passed-preserved
loop-passed-preserved g c = record {
  within = omega arith;
  callable = search of_calls;
  passing = λ p k.
      let xs = c.args.rows.now in
      let n = answers p (c.loop-passed.invariant.passing p k).0 c.passes.ensures in
      let next = c.saturating_add-next.result in
      let inside = slice_get_within xs next c.get.result.now c.get.ensures in
      (n.0, λ s. front_passes p xs next s inside (at_read xs (λ y. p y ≡ true) next c.get.result.now inside (sym (get_or_from_slice_get xs next c.get.result.now c.get.result.now c.get.ensures)) (sym n.1 ∙ c.if-not-passes.false)));
}

pub halve-requires-clause-callable : goal.halve-requires-clause-callable
halve-requires-clause-callable g c = elim c.if-next-len.branch [ then-next-len w ↦ rw w.passes-is (search of_calls) | else-next-len+then-not-passes w ↦ rw w.passes-is (search of_calls) ]

pub returns-clause-partitioned : goal.returns-clause-partitioned
returns-clause-partitioned g c p k s =
    let xs = c.args.rows.now in
    let i = c.loop-passed.invariant.passing p k in
    elim c.if-next-len.branch [
      | then-next-len w ↦
          (let e = w.end-is in
          let all = w.len-end.ensures in
          let same : ComputesKey g.P.FnMut p c.if-next-len.passes = rw w.passes-is i.0 in
          c.halve.ensures.partitioned p (record { at = same.at }) s (i.1 s) (λ k d a b. absurd (omega (arith, e, all, a, b))))
      | else-next-len+then-not-passes w ↦
          (let e = w.end-is in
          let n = answers p i.0 w.passes.ensures in
          let next = c.saturating_add-next.result in
          let there = slice_get_within xs next w.get.result.now w.get.ensures in
          let fails = back_fails p xs next s there (at_read xs (λ y. p y ≡ false) next w.get.result.now there (sym (get_or_from_slice_get xs next w.get.result.now w.get.result.now w.get.ensures)) (sym n.1 ∙ w.if-not-passes.true)) in
          let same : ComputesKey g.P.FnMut p c.if-next-len.passes = rw w.passes-is n.0 in
          c.halve.ensures.partitioned p (record { at = same.at }) s (i.1 s) (λ k d a b. fails k d (omega (arith, e, a)) b))
    ]
