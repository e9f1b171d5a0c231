use Rattle.std.proofs.Common.{◌≡◌, ◌+◌, ◌++◌, ◌∷◌, [], ℕ, List, ap, ◌∙◌, sym, subst}
use Rattle.cdcl.specs.Watching.{AreLists}
use Rattle.cdcl.proofs.Values.{lists_push}
use Rattle.cdcl.proofs.watch.no_lists.Goals as goal

pub loop-var-preserved : goal.loop-var-preserved
loop-var-preserved c =
    let xs = c.loop-var.lists.items in
    let one : c.push.new.self.items ≡ xs ++ [] ∷ [] = c.in_ok-push.ensures.items ∙ ap (λ (x : List ℕ). xs ++ x ∷ []) c.new.ensures in
    let two : c.push-in-loop-var.new.self.items ≡ (xs ++ [] ∷ []) ++ [] ∷ [] =
    c.in_ok-push-2.ensures.items ∙ ap (λ (x : List ℕ). c.push.new.self.items ++ x ∷ []) c.new-in-loop-var.ensures ∙ ap (λ (ys : List (List ℕ)). ys ++ [] ∷ []) one in
    subst (λ (ys : List (List ℕ)). AreLists ys (c.loop-var._var + 1) 0) (sym two) (lists_push xs c.loop-var._var c.loop-var.invariant)
