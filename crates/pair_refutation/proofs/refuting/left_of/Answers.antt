use Rattle.std.proofs.Common.{[], ◌∷◌, ◌∙◌, sym, ap, true≢false, slice_index}
use Rattle.std.proofs.lemmas.List.{append-nil}
use Rattle.std.proofs.lemmas.List.Elements.{Contains-get_or}
use Rattle.pair_refutation.specs.Graph.{positive}
use Rattle.pair_refutation.specs.Refuting.{left_literal, option_at}
use Rattle.pair_refutation.proofs.Losing.{more-is, no-literal}
use Rattle.pair_refutation.proofs.refuting.left_of.Goals as goal
use Rattle.pair_refutation.proofs.refuting.left_of.Goals.{then-is_open+in_ok-push, else-is_open}

pub is_open-requires : goal.is_open-requires
is_open-requires c = c.requires (slice_index c.args.vars.now c.loop-x.x-index) (Contains-get_or c.args.vars.now c.loop-x.x-index 0 c.loop-x-test.true)

pub loop-x-preserved : goal.loop-x-preserved
loop-x-preserved c =
    let vars = c.args.vars.now in
    let lost = c.args.lost.now in
    let i = c.loop-x.x-index in
    let x = slice_index vars i in
    let more = more-is (λ y. left_literal y (option_at lost y)) vars i c.loop-x-test.true c.loop-x.lits in
    elim c.if-is_open.branch [
      | then-is_open+in_ok-push w ↦ w.lits-is ∙ (w.in_ok-push.ensures.ok ∙ more (positive x ∷ []) c.loop-x.invariant (ap (left_literal x) (sym (c.is_open.ensures.0 w.if-is_open.true))))
      | else-is_open w ↦ w.lits-is ∙ (sym (append-nil c.loop-x.lits) ∙ more [] c.loop-x.invariant (no-literal x (option_at lost x) (λ n. true≢false (sym (c.is_open.ensures.1 n) ∙ w.if-is_open.false))))
    ]
