use Rattle.std.proofs.Common.{◌∙◌, ℕ, ◌<◌, sym, subst, below_more, arith}
use Rattle.std.proofs.lemmas.Bool.{false≢true}
use Rattle.cqa_model.specs.Query.{atom_at}
use Rattle.cqa_model.specs.Variables.{AreLinked}
use Rattle.table_blocks.proofs.Binding.{in-range}
use Rattle.plan_rows.proofs.grouped.are_joined.Goals as goal

pub is_linked_to-requires : goal.is_linked_to-requires
is_linked_to-requires c = in-range c.args.bound.now.query.now c.args.other c.loop-col.col (subst (λ n. c.loop-col.col < n) c.width_of-col-end.ensures c.loop-col-test.true)

pub loop-col-preserved : goal.loop-col-preserved
loop-col-preserved c =
    let q = c.args.bound.now.query.now in
    below_more (λ j. (i : ℕ) → i < (atom_at q c.args.atom).width → AreLinked q (record { atom = c.args.atom; col = i }) (record { atom = c.args.other; col = j }) → ⊥) c.loop-col.col c.loop-col.invariant
    (λ i l k. false≢true (sym c.if-is_linked_to.false ∙ c.is_linked_to.ensures.1 (i, l, k)))

pub returns : goal.returns
returns c = λ f i j li lj k. c.loop-col.invariant j (omega (arith, c.loop-col-test.false, c.width_of-col-end.ensures, lj)) i li k
