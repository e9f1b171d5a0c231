use Rattle.std.proofs.Common.{◌≡◌, ◌<◌, ℕ, List, ◌∷◌, [], ◌++◌, Ok, length, sym, ◌∙◌, ap, subst, arith}
use Rattle.std.specs.List.{sum}
use Rattle.cnf_form.specs.Lines.{line_of, tokens}
use Rattle.group_text.specs.Sizes.{AreSizes, size_of, sizes_after}
use Rattle.group_text.proofs.Telling.{are_more, size_more, sum_push}
use Rattle.group_text.proofs.sizes.read_sizes.Goals as goal

pub loop-token-preserved : goal.loop-token-preserved
loop-token-preserved c =
    let told = c.loop-token.invariant.told ∙ ap (sizes_after c.loop-token.sizes.items) c.next_token.ensures.tokens in
    let pushed : c.push.new.self.items ≡ c.loop-token.sizes.items ++ c.in-Ok.size ∷ [] = c.in_ok-push-in-Ok.ensures.items in
    let some : 0 < length c.next_token.result.0.now = search arith in
    let size : Ok c.in-Ok.size ≡ size_of (sum c.loop-token.sizes.items) c.next_token.result.0.now = c.in-Ok.ensures.size ∙ ap (λ (n : ℕ). size_of n c.next_token.result.0.now) c.loop-token.invariant.rows in
    record {
      told = told ∙ size_more c.loop-token.sizes.items c.next_token.result.0.now (tokens (line_of c.next_token.result.1.now)) c.in-Ok.size some size ∙ ap (λ (xs : List ℕ). sizes_after xs (tokens (line_of c.next_token.result.1.now))) (sym pushed);
      are = subst AreSizes (sym pushed) (are_more c.loop-token.sizes.items c.in-Ok.size c.loop-token.invariant.are (omega (arith, c.in-Ok.ensures.within.0)) (omega (arith, c.in-Ok.ensures.within.1, c.loop-token.invariant.rows)));
      rows = omega (arith, c.loop-token.invariant.rows, ap sum pushed, sum_push c.loop-token.sizes.items c.in-Ok.size);
    }
