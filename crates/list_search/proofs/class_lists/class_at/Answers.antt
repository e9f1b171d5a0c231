use Rattle.std.proofs.Common.{◌≡◌, ◌<◌, ◌∙◌, ℕ, None, Some, length, sym, ap, arith, slice_get}
use Rattle.std.proofs.lemmas.Option.{get_or_from_slice_get, slice_get_within, slice_get-get_or}
use Rattle.join_access.proofs.Sorted.{one_place}
use Rattle.row_lists.specs.Clauses.{variable_cmp}
use Rattle.row_lists.specs.Spans.{at, variables_of_spans}
use Rattle.row_lists.proofs.Rows.{variable_total}
use Rattle.list_search.proofs.SingleRows.{held, rising, stands}
use Rattle.list_search.proofs.class_lists.class_at.Goals as goal

-- the row has a number
here : (c : goal.In-Some) → slice_get (variables_of_spans c.args.classed.now.rows.spans) c.in-Some.index ≡ Some (at c.args.slot c.args.place)
here c = stands c.args.classed.now.rows.spans c.args.classed.now.single c.args.slot c.args.place c.in-Some.index ((c.find_span.ensures c.in-Some.index).0 c.in-Some.is)

pub index-requires : goal.index-requires
index-requires c =
    let below = slice_get_within (variables_of_spans c.args.classed.now.rows.spans) c.in-Some.index (at c.args.slot c.args.place) (here c) in
    let size = c.args.classed.now.size in
    omega (arith, below, size)

no_class : (n : ℕ) → None ≡ Some n → ⊥
no_class n e = cc

pub returns-in-Some : goal.returns-in-Some
returns-in-Some c = λ n.
    let vars = variables_of_spans c.args.classed.now.rows.spans in
    let classes = c.args.classed.now.classes.items in
    let x = at c.args.slot c.args.place in
    let k = c.in-Some.index in
    let there : slice_get vars k ≡ Some x = stands c.args.classed.now.rows.spans c.args.classed.now.single c.args.slot c.args.place k ((c.find_span.ensures k).0 c.in-Some.is) in
    let below = slice_get_within vars k x there in
    let size = c.args.classed.now.size in
    let l : k < length classes = omega (arith, below, size) in (
      λ e. (k, there, slice_get-get_or classes k c.index.result.now l ∙ ap Some (sym c.index.ensures ∙ e)),
      λ h.
          let same = one_place variable_cmp variable_total vars h.0 k x (rising c.args.classed.now.rows.spans c.args.classed.now.single) h.1 there in
          c.index.ensures ∙ get_or_from_slice_get classes k (Some n) c.index.result.now (ap (slice_get classes) (sym same) ∙ h.2),
    )

pub returns-in-None : goal.returns-in-None
returns-in-None c = λ n. (
  λ e. absurd (no_class n e),
  λ h. absurd (no_class h.0 (sym c.in-None.is ∙ (c.find_span.ensures h.0).1 (held c.args.classed.now.rows.spans c.args.classed.now.single c.args.slot c.args.place h.0 h.1))),
)
