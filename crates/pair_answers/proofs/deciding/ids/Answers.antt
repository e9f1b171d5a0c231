use Rattle.std.proofs.Common.{◌++◌, ◌∷◌, [], ap, map, sym, ◌∙◌, take}
use Rattle.std.proofs.lemmas.List.{map-append}
use Rattle.cqa_model.specs.Database.{stored}
use Rattle.pair_answers.specs.Kept.{id_of}
use Rattle.pair_answers.proofs.Decided.{taken_rows, taken-more, taken-none}
use Rattle.pair_answers.proofs.deciding.ids.Goals as goal
use Rattle.pair_answers.proofs.deciding.ids.Goals.{in-Some+in_ok-push, in_default}

pub loop-row-preserved : goal.loop-row-preserved
loop-row-preserved c =
    let own = c.args.own.now in
    let k = c.loop-row.row-index in
    let id = id_of c.args.pair.now.bound.now.query.now (stored c.args.pair.now.bound.now.db.now) in
    elim c.match-row.branch [
      | in-Some+in_ok-push w ↦ w.ids-is ∙ w.in_ok-push.ensures.ok ∙ ap (λ z. z ++ w.id.result ∷ []) c.loop-row.invariant ∙
          ap (λ z. map id (taken_rows (take k own)) ++ z ∷ []) w.id.ensures ∙ sym (map-append id (taken_rows (take k own)) (w.in-Some.number ∷ [])) ∙
          ap (map id) (sym (taken-more own k w.in-Some.number c.loop-row-test.true w.in-Some.is))
      | in_default w ↦ w.ids-is ∙ c.loop-row.invariant ∙ ap (map id) (sym (taken-none own k c.loop-row-test.true w.in_default.is))
    ]
