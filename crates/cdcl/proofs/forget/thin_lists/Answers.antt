use Rattle.std.proofs.Common.{set, get_or, ◌≡◌, ◌<◌, ℕ, List, [], length, sym, ◌∙◌, ap, subst, arith}
use Rattle.std.proofs.lemmas.List.{length-set}
use Rattle.cdcl.specs.Watching.{IsThinned, AreThinned}
use Rattle.search_trail.proofs.Works.{At-same, At-get_or}
use Rattle.cdcl.proofs.Thinning.{lists_set}
use Rattle.cdcl.proofs.forget.thin_lists.Goals as goal

pub loop-at-preserved : goal.loop-at-preserved
loop-at-preserved c =
    let n = c.args.permanent in
    let lists = c.loop-at.lists.items in
    let at = c.loop-at.at in
    let own = c.in_ok-used.used.items in
    let range : at < length lists = omega (arith, c.loop-at-test.true, c.loop-at.invariant.len) in
    let here : c.as_slice.result.now ≡ get_or lists at [] =
    c.as_slice.ensures ∙ At-same lists at c.index.result.now (get_or lists at []) (range, sym c.index.ensures) (At-get_or lists at [] range) in
    let thin : IsThinned n (get_or lists at []) own = subst (λ (xs : List ℕ). IsThinned n xs own) here c.in_ok-used.ensures in
    let put : c.put_list.new.lists.items ≡ set lists at own = c.put_list.ensures in
    record {
      thinned = subst (λ (ls : List (List ℕ)). AreThinned n c.args.lists.now.items ls) (sym put) (lists_set n at c.args.lists.now.items lists own range thin c.loop-at.invariant.thinned);
      len = ap (λ (ls : List (List ℕ)). length ls) put ∙ length-set lists at own ∙ c.loop-at.invariant.len;
    }
