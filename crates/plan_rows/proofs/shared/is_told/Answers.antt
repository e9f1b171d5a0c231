use Rattle.std.proofs.Common.{◌∙◌, ℕ, ◌<◌, get_or, refl, sym, below_more, arith}
use Rattle.std.proofs.lemmas.Bool.{false≢true}
use Rattle.std.proofs.lemmas.List.Elements.{Contains-get_or}
use Rattle.cqa_model.specs.Query.{atom_at}
use Rattle.cqa_model.specs.Variables.{AreLinked}
use Rattle.plan_rows.proofs.Columns.{each-atom}
use Rattle.plan_rows.proofs.shared.is_told.Goals as goal

pub returns-then-is_linked_to : goal.returns-then-is_linked_to
returns-then-is_linked_to c =
    let atoms = c.args.atoms.now in
    let at = c.loop-atom.atom-index in
    let k = c.is_linked_to.ensures.0 c.if-is_linked_to.true in (
      (λ e. (get_or atoms at 0, k.0, Contains-get_or atoms at 0 c.loop-atom-test.true, k.1, k.2)),
      (λ h. refl),
    )

pub loop-atom-preserved : goal.loop-atom-preserved
loop-atom-preserved c =
    below_more (λ k. (i : ℕ) → i < (atom_at c.args.bound.now.query.now (get_or c.args.atoms.now k 0)).width → AreLinked c.args.bound.now.query.now (record { atom = get_or c.args.atoms.now k 0; col = i }) c.args.column → ⊥) c.loop-atom.atom-index c.loop-atom.invariant
    (λ i l k. false≢true (sym c.if-is_linked_to.false ∙ c.is_linked_to.ensures.1 (i, l, k)))

pub returns : goal.returns
returns c = (
  (λ e. absurd (false≢true e)),
  (λ h. absurd (each-atom (λ G. (i : ℕ) → i < (atom_at c.args.bound.now.query.now G).width → AreLinked c.args.bound.now.query.now (record { atom = G; col = i }) c.args.column → ⊥) c.args.atoms.now c.loop-atom.atom-index (omega (arith, c.loop-atom-test.false, c.loop-atom.auto.atom-index-end))
      c.loop-atom.invariant h.0 h.2 h.1 h.3 h.4)),
)
