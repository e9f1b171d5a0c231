use Rattle.std.proofs.Common.{◌∙◌, ◌++◌, ◌∷◌, [], List, ℕ, ap, sym, refl, arith}
use Rattle.block_lists.proofs.Bases.{sum-more}
use Rattle.block_lists.proofs.Picking.{trues-more}
use Rattle.block_lists.proofs.picks.fill_choice.Goals as goal

pub loop-size-preserved : goal.loop-size-preserved
loop-size-preserved c =
    let sizes = c.args.sizes.now in
    let i = c.loop-size.size-index in
    let l = c.loop-size-test.true in
    let h = c.loop-size.invariant in (
      sum-more sizes i c.loop-size.from (omega (arith, l)) h.0,
      ◌∙◌ {A = List ℕ} c.in_ok-push.ensures.items (◌∙◌ {A = List ℕ} (ap (λ (cs : List ℕ). cs ++ c.first_true.result ∷ []) h.1)
          (ap (λ r. Rattle.block_lists.specs.Picks.first_trues (Rattle.std.proofs.Common.take i sizes) c.args.values.now ++ r ∷ []) c.first_true.ensures ∙ sym (trues-more sizes c.args.values.now i c.loop-size.from _ (omega (arith, l)) h.0 refl))),
    )
