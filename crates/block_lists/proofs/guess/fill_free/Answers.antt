use Rattle.std.proofs.Common.{◌<◌, ◌++◌, ◌∷◌, [], List, ℕ, get_or, take, ◌+◌, sym, subst, arith}
use Rattle.std.proofs.lemmas.List.{take_more}
use Rattle.std.proofs.lemmas.List.Elements.{Contains-get_or}
use Rattle.block_choices.specs.Choices.{IsChoice}
use Rattle.block_lists.proofs.Bases.{sum-more}
use Rattle.block_lists.proofs.Choosing.{choice-push}
use Rattle.block_lists.proofs.Picking.{block-length}
use Rattle.block_lists.proofs.guess.fill_free.Goals as goal

pub free_row-requires-clause-some : goal.free_row-requires-clause-some
free_row-requires-clause-some c =
    let sizes = c.args.sizes.now in
    let i = c.loop-size.size-index in
    let l = c.loop-size-test.true in
    let long = block-length sizes i c.loop-size.from c.args.free.now (omega (arith, l)) c.loop-size.invariant.0 c.requires.each in
    let some = c.requires.some (get_or sizes i 0) (Contains-get_or sizes i 0 (omega (arith, l))) in
    omega (arith, long, some)

pub loop-size-preserved : goal.loop-size-preserved
loop-size-preserved c =
    let sizes = c.args.sizes.now in
    let i = c.loop-size.size-index in
    let l = c.loop-size-test.true in
    let h = c.loop-size.invariant in
    let long = block-length sizes i c.loop-size.from c.args.free.now (omega (arith, l)) h.0 c.requires.each in
    let within = c.free_row.ensures in
    let less : c.free_row.result < get_or sizes i 0 = omega (arith, long, within) in (
      sum-more sizes i c.loop-size.from (omega (arith, l)) h.0,
      subst (IsChoice (take (i + 1) sizes)) (sym {A = List ℕ} c.in_ok-push.ensures.items) (subst (λ (ss : List ℕ). IsChoice ss (c.loop-size.choice.items ++ c.free_row.result ∷ [])) (sym (take_more sizes i 0 (omega (arith, l))))
          (choice-push (take i sizes) c.loop-size.choice.items (get_or sizes i 0) c.free_row.result h.1 less)),
    )
