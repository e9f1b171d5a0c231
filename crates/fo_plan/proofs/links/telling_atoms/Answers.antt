use Rattle.std.proofs.Common.{◌≡◌, ◌∙◌, ℕ, ◌+◌, take, drop, Vec, arith, sym, ap, subst}
use Rattle.std.specs.declared.alloc.Global.{Global}
use Rattle.fo_plan.specs.Chaining.{GoesOn}
use Rattle.fo_plan.proofs.Chained.{goes-nowhere, drop-next}
use Rattle.fo_plan.proofs.links.telling_atoms.Goals.{then-needs_links+in_ok-add_chain, else-needs_links}
use Rattle.fo_plan.proofs.links.telling_atoms.Goals as goal

pub returns : goal.returns
returns c =
    let order = c.args.order.now in
    let place = c.args.place in
    let taken : c.in_ok-atoms.atoms.items ≡ take place order = c.in_ok-atoms.ensures.items ∙ c.split_at.ensures.front in
    let later : c.split_at-2.result.1.now ≡ drop (place + 1) order = c.split_at-2.ensures.back ∙ ap (drop 1) c.split_at.ensures.back ∙ drop-next place order (omega (arith, c.requires)) in
    elim c.if-needs_links.branch [
      | then-needs_links+in_ok-add_chain w ↦
          subst (λ (v : Vec ℕ Global). GoesOn (drop (place + 1) order) (take place order) v.items) (sym w.atoms-is)
          (subst (λ z. GoesOn z (take place order) w.add_chain.new.taken.items) later (subst (λ z. GoesOn c.split_at-2.result.1.now z w.add_chain.new.taken.items) taken w.in_ok-add_chain.ensures))
      | else-needs_links w ↦
          subst (λ z. GoesOn (drop (place + 1) order) (take place order) z) (sym (ap (λ (v : Vec ℕ Global). v.items) w.atoms-is ∙ taken)) (goes-nowhere (drop (place + 1) order) (take place order))
    ]
