use Rattle.std.proofs.Common.{[], ◌∷◌, ◌∙◌, pos, sym, ap, slice_index}
use Rattle.std.proofs.lemmas.List.{append-nil}
use Rattle.std.proofs.lemmas.List.Elements.{Contains-get_or}
use Rattle.pair_refutation.specs.Refuting.{id_hint, option_at}
use Rattle.pair_refutation.proofs.Losing.{more-is}
use Rattle.pair_refutation.proofs.refuting.lost_hints.Goals as goal
use Rattle.pair_refutation.proofs.refuting.lost_hints.Goals.{in-Some+in_ok-push_hint, in_default}

pub bounds : goal.bounds
bounds c = c.requires (slice_index c.args.vars.now c.loop-x.x-index) (Contains-get_or c.args.vars.now c.loop-x.x-index 0 c.loop-x-test.true)

pub loop-x-preserved : goal.loop-x-preserved
loop-x-preserved c =
    let vars = c.args.vars.now in
    let lost = c.args.lost.now in
    let i = c.loop-x.x-index in
    let more = more-is (λ y. id_hint (option_at lost y)) vars i c.loop-x-test.true c.loop-x.hints.items in
    elim c.match-lost-x.branch [
      | in-Some+in_ok-push_hint w ↦ ap (λ z. z.items) w.hints-is ∙ (w.in_ok-push_hint.ensures ∙ more (pos w.in-Some.id ∷ []) c.loop-x.invariant (ap id_hint (sym w.in-Some.is)))
      | in_default w ↦ ap (λ z. z.items) w.hints-is ∙ (sym (append-nil c.loop-x.hints.items) ∙ more [] c.loop-x.invariant (ap id_hint (sym w.in_default.is)))
    ]
