use Rattle.std.proofs.Common.{◌≡◌, sym, ◌∙◌, ap, subst, slice_index}
use Rattle.row_lists.specs.Spans.{variables_of_spans}
use Rattle.list_search.specs.Classing.{HasClass}
use Rattle.list_search.proofs.quotient.class_of.Goals as goal

pub returns : goal.returns
returns c n =
    let f = c.args.frame.now in
    let id = c.args.id.now in
    let vars = variables_of_spans c.args.classed.now.rows.spans in
    let classes = c.args.classed.now.classes.items in
    let slot = c.slot_of.ensures in
    let class = c.class_at.ensures n in (
      λ e. (slice_index f.slots id.table, c.requires.0, c.requires.1, subst (λ s. HasClass vars classes s id.place n) slot (class.0 e)),
      λ h.
          let s : h.0 ≡ slice_index f.slots id.table = sym (f.kept.slot h.0 h.1) ∙ ap (slice_index f.slots) h.2 in
          class.1 (subst (λ u. HasClass vars classes u id.place n) (s ∙ sym slot) h.3),
    )
