use Rattle.std.proofs.Common.{◌∙◌, ◌++◌, ◌∷◌, [], List, ℕ, ap, sym, arith}
use Rattle.block_lists.proofs.Bases.{bases-more, sum-more}
use Rattle.block_lists.proofs.numbers.fill_bases.Goals as goal

pub loop-size-preserved : goal.loop-size-preserved
loop-size-preserved c =
    let sizes = c.args.sizes.now in
    let i = c.loop-size.size-index in
    let l = c.loop-size-test.true in
    let h = c.loop-size.invariant in (
      sum-more sizes i c.loop-size.base (omega (arith, l)) h.0,
      ◌∙◌ {A = List ℕ} c.in_ok-push.ensures.items (ap (λ (bs : List ℕ). bs ++ c.loop-size.base ∷ []) h.1 ∙ sym (bases-more sizes i c.loop-size.base (omega (arith, l)) h.0)),
    )
