use Rattle.std.proofs.Common.{ℕ, length, Contains, Vec, arith, ap, subst, sym}
use Rattle.std.specs.declared.alloc.Global.{Global}
use Rattle.std.proofs.lemmas.Result.{on_ok_weaker}
use Rattle.fo_plan.specs.Chaining.{GoesOn}
use Rattle.fo_plan.proofs.Chained.{goes-nowhere, goes-wider, goes-twice, some-are, all-among}
use Rattle.fo_plan.proofs.links.+add_chain.Goals.{then-is_none+in_ok-add_chain, else-is_none}
use Rattle.fo_plan.proofs.links.+add_chain.Goals as goal

pub add_chain-requires : goal.add_chain-requires
add_chain-requires t c =
    omega (arith, c.decreases, ap length c.as_slice-then-is_none-2.ensures.value, c.in_ok-part.ensures.size, ap length c.new-joined.ensures.items, ap length c.new-others.ensures.items, some-are c.part.new.joined.len c.if-is_empty.ensures, c.part.new.joined.ok.0)

pub returns : goal.returns
returns t c =
    let atoms = c.args.atoms.now in
    let old = c.args.taken.now.items in
    let joined : (G : ℕ) → Contains c.as_slice-3.result.now G → Contains atoms G = λ G m.
    all-among atoms c.new-joined.result.items c.part.new.joined.items c.new-joined.ensures.items c.in_ok-part.ensures.joined G (subst (λ z. Contains z G) c.as_slice-3.ensures.value m) in
    elim c.if-is_none.branch [
      | then-is_none+in_ok-add_chain w ↦
          let chain = goes-wider w.as_slice-then-is_none-2.result.now atoms old w.add_chain.new.taken.items w.in_ok-add_chain.ensures
          (λ G m. all-among atoms c.new-others.result.items c.part.new.others.items c.new-others.ensures.items c.in_ok-part.ensures.others G (subst (λ z. Contains z G) w.as_slice-then-is_none-2.ensures.value m)) in
          on_ok_weaker c.add_linked.result (λ more. goes-twice c.as_slice-3.result.now atoms old c.if-is_none.taken.items c.add_linked.new.taken.items (subst (λ (v : Vec ℕ Global). GoesOn atoms old v.items) (sym w.taken-is) chain) more joined) c.add_linked.ensures
      | else-is_none w ↦
          on_ok_weaker c.add_linked.result (λ more. goes-twice c.as_slice-3.result.now atoms old c.if-is_none.taken.items c.add_linked.new.taken.items (subst (λ (v : Vec ℕ Global). GoesOn atoms old v.items) (sym w.taken-is) (goes-nowhere atoms old)) more joined) c.add_linked.ensures
    ]
