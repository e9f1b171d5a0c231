use Rattle.std.proofs.Common.{◌∙◌, List, length, ap, sym, subst}
use Rattle.std.proofs.lemmas.Result.{IfOk-weaker}
use Rattle.cqa_model.specs.declared.query.Query.{Query}
use Rattle.cqa_model.specs.Database.{Table}
use Rattle.cqa_model.specs.Unions.{AreParts}
use Rattle.part_search.specs.declared.searched.Searched.{Searched}
use Rattle.part_search.specs.Parts.{IsFrameFor}
use Rattle.union_ask.proofs.OnePart.{one-part, one-frame, searched-parts}
use Rattle.union_ask.proofs.query_search.rows_by_search.Goals as goal

pub new-parts-requires : goal.new-parts-requires
new-parts-requires c =
    let b = c.args.bound.now in
    subst (λ (ps : List Query). AreParts ps b.db.now) (sym c.from_ref.ensures.value) (one-part b.query.now b.db.now b.fits)

pub rows_of_parts-requires-clause-wide : goal.rows_of_parts-requires-clause-wide
rows_of_parts-requires-clause-wide c = c.in_ok-frame.ensures.wide ∙ ap length (sym c.new-parts.ensures.db)

pub rows_of_parts-requires-clause-frame : goal.rows_of_parts-requires-clause-frame
rows_of_parts-requires-clause-frame c =
    let b = c.args.bound.now in
    let frame = c.in_ok-frame in
    subst (λ (t : List Table). IsFrameFor t c.new-parts.result.queries.now frame.frame.tables) (sym c.new-parts.ensures.db)
    (subst (λ (ps : List Query). IsFrameFor b.db.now ps frame.frame.tables) (sym (c.new-parts.ensures.queries ∙ c.from_ref.ensures.value)) (one-frame b.query.now b.db.now frame.frame.tables frame.ensures.frame frame.ensures.tables))

pub returns : goal.returns
returns c =
    let b = c.args.bound.now in
    let parts = c.new-parts.result in
    IfOk-weaker c.rows_of_parts.result _ _
    (λ (found : Searched) h. searched-parts b.query.now b.db.now b.fits parts.queries.now parts.db.now c.in_ok-frame.frame.tables (c.new-parts.ensures.queries ∙ c.from_ref.ensures.value) c.new-parts.ensures.db c.in_ok-frame.ensures.tables c.args.side c.args.budget found h)
    c.rows_of_parts.ensures
