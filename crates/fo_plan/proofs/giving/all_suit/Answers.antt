use Rattle.std.proofs.Common.{rules, ◌∙◌, ◌↔◌, IsTrue, sym, refl}
use Rattle.std.proofs.lemmas.Bool.{false≢true}
use Rattle.plan_rows.specs.Fitting.{Suits}
use Rattle.plan_rows.specs.Over.{query_of, rows_before}
use Rattle.fo_plan.proofs.Looks.{of-look}
use Rattle.fo_plan.proofs.Gathered.{held-starts, held-not, held-on, held-ends}
use Rattle.fo_plan.proofs.giving.all_suit.Goals as goal

pub returns-then-not-suits : goal.returns-then-not-suits
returns-then-not-suits c =
    let says = of-look c.args.step.now c.look-look.result c.look-look.ensures.setting c.look-look.ensures.taken c.look-look.ensures.atom (λ s taken F. IsTrue c.suits.result ↔ Suits s.bound.now.query.now taken F c.in-Some.y.now) c.suits.ensures in (
      (λ e. absurd (false≢true e)),
      (λ all. absurd (held-not (Suits (query_of c.args.step.now) (rows_before c.args.step.now) c.args.step.now.atom) c.args.block.now c.loop-y.y-iterator c.next.new.self c.in-Some.y.now c.loop-y.invariant c.in-Some.ensures.steps (λ p. false≢true (sym c.if-not-suits.true ∙ says.1 p)) all)),
    )

pub loop-y-init : goal.loop-y-init
loop-y-init c = held-starts (Suits (query_of c.args.step.now) (rows_before c.args.step.now) c.args.step.now.atom) c.args.block.now c.into_iter-y-iterator.result (search rules)

pub loop-y-preserved : goal.loop-y-preserved
loop-y-preserved c =
    let says = of-look c.args.step.now c.look-look.result c.look-look.ensures.setting c.look-look.ensures.taken c.look-look.ensures.atom (λ s taken F. IsTrue c.suits.result ↔ Suits s.bound.now.query.now taken F c.in-Some.y.now) c.suits.ensures in
    held-on (Suits (query_of c.args.step.now) (rows_before c.args.step.now) c.args.step.now.atom) c.args.block.now c.loop-y.y-iterator c.next.new.self c.in-Some.y.now c.loop-y.invariant c.in-Some.ensures.steps (says.0 c.if-not-suits.false)

pub returns : goal.returns
returns c = (
  (λ e. held-ends (Suits (query_of c.args.step.now) (rows_before c.args.step.now) c.args.step.now.atom) c.args.block.now c.loop-y.y-iterator c.loop-y.invariant c.in-None.ensures.steps.0),
  (λ all. refl),
)
