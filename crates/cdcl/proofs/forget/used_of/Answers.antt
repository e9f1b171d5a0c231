use Rattle.std.proofs.Common.{take, get_or, ◌≡◌, ℕ, ◌+◌, List, [], ◌∷◌, ◌++◌, sym, ◌∙◌, ap, subst, arith}
use Rattle.std.specs.Prelude.{Vec}
use Rattle.std.specs.declared.alloc.Global.{Global}
use Rattle.std.proofs.lemmas.Grind.{take_at_read}
use Rattle.cdcl.specs.Watching.{IsThinned}
use Rattle.cdcl.proofs.Thinning.{thinned_push, thinned_skip}
use Rattle.cdcl.proofs.forget.used_of.Goals.{then-index-permanent+in_ok-push, else-index-permanent+else-is_used}
use Rattle.cdcl.proofs.forget.used_of.Goals as goal

pub loop-index-preserved : goal.loop-index-preserved
loop-index-preserved c =
    let n = c.args.permanent in
    let list = c.args.list.now in
    let i = c.loop-index.index-index in
    let used = c.loop-index.used.items in
    let x = get_or list i 0 in
    let next : take i list ++ x ∷ [] ≡ take (i + 1) list = sym ((take_at_read list i 0 c.loop-index-test.true).1) in
    subst (λ (xs : List ℕ). IsThinned n xs c.if-index-permanent.used.items) next
    (elim c.if-index-permanent.branch [
      | then-index-permanent+in_ok-push w ↦
          let put : c.if-index-permanent.used.items ≡ used ++ x ∷ [] = ap (λ (v : Vec ℕ Global). v.items) w.used-is ∙ w.in_ok-push.ensures.items in
          subst (λ (xs : List ℕ). IsThinned n (take i list ++ x ∷ []) xs) (sym put) (thinned_push n x (take i list) used c.loop-index.invariant)
      | else-index-permanent+else-is_used w ↦
          let same : c.if-index-permanent.used.items ≡ used = ap (λ (v : Vec ℕ Global). v.items) w.used-is in
          subst (λ (xs : List ℕ). IsThinned n (take i list ++ x ∷ []) xs) (sym same)
          (thinned_skip n x (take i list) used (λ h. omega (arith, h, w.if-index-permanent.false)) c.loop-index.invariant)
    ])
