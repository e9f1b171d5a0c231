use Rattle.std.proofs.Common.{◌≡◌, ◌∙◌, ℕ, [], ◌∷◌, ◌++◌, length, get_or, Contains, Vec, rules, arith, sym, ap, subst, length-append}
use Rattle.std.specs.declared.alloc.Global.{Global}
use Rattle.std.proofs.lemmas.List.Elements.{Contains-get_or}
use Rattle.fo_plan.specs.Chaining.{GoesOn}
use Rattle.fo_plan.proofs.Chained.{goes-nowhere, goes-further}
use Rattle.fo_plan.proofs.links.part.Goals.{then-is_linked+in_ok-push, else-is_linked+in_ok-push-2}
use Rattle.fo_plan.proofs.links.part.Goals as goal

pub loop-atom-init : goal.loop-atom-init
loop-atom-init c = record {
  joined = goes-nowhere c.args.atoms.now c.args.joined.now.items;
  others = goes-nowhere c.args.atoms.now c.args.others.now.items;
  size = search rules;
}

pub loop-atom-preserved : goal.loop-atom-preserved
loop-atom-preserved c =
    let atoms = c.args.atoms.now in
    let F = get_or atoms c.loop-atom.atom-index 0 in
    let own : Contains atoms F = Contains-get_or atoms c.loop-atom.atom-index 0 (search rules) in
    let h = c.loop-atom.invariant in
    elim c.if-is_linked.branch [
      | then-is_linked+in_ok-push w ↦
          let put : c.if-is_linked.joined.items ≡ c.loop-atom.joined.items ++ F ∷ [] = ap (λ (v : Vec ℕ Global). v.items) w.joined-is ∙ w.in_ok-push.ensures.items in
          let same : c.if-is_linked.others.items ≡ c.loop-atom.others.items = ap (λ (v : Vec ℕ Global). v.items) w.others-is in
          record {
            joined = subst (GoesOn atoms c.args.joined.now.items) (sym put) (goes-further atoms c.args.joined.now.items c.loop-atom.joined.items F h.joined own);
            others = subst (GoesOn atoms c.args.others.now.items) (sym same) h.others;
            size = omega (arith, ap length put, ap length same, length-append c.loop-atom.joined.items (F ∷ []), h.size);
          }
      | else-is_linked+in_ok-push-2 w ↦
          let put : c.if-is_linked.others.items ≡ c.loop-atom.others.items ++ F ∷ [] = ap (λ (v : Vec ℕ Global). v.items) w.others-is ∙ w.in_ok-push-2.ensures.items in
          let same : c.if-is_linked.joined.items ≡ c.loop-atom.joined.items = ap (λ (v : Vec ℕ Global). v.items) w.joined-is in
          record {
            joined = subst (GoesOn atoms c.args.joined.now.items) (sym same) h.joined;
            others = subst (GoesOn atoms c.args.others.now.items) (sym put) (goes-further atoms c.args.others.now.items c.loop-atom.others.items F h.others own);
            size = omega (arith, ap length put, ap length same, length-append c.loop-atom.others.items (F ∷ []), h.size);
          }
    ]
