use Rattle.std.proofs.Common.{[], ◌∙◌, ap, subst}
use Rattle.std.proofs.lemmas.Result.{IfOk-weaker}
use Rattle.join_access.specs.Listing.{names_of, AreAllNames}
use Rattle.row_witnesses.proofs.Told.{all_names}
use Rattle.range_join.specs.Peaks.{end_places}
use Rattle.table_blocks.specs.Tables.{names_in}
use Rattle.range_join.specs.Joins.{IsAnyWitness}
use Rattle.range_join.proofs.Kept.{all-names}
use Rattle.range_join.proofs.Peaked.{peaked}
use Rattle.range_join.proofs.extremes.extreme_range.Goals as goal

pub returns : goal.returns
returns c =
    let w = c.args.found.now in
    let db = w.bound.now.db.now in
    let q = w.bound.now.query.now in
    let look = c.args.look in
    let peaks = c.in_ok-peaks.peaks in
    let all : AreAllNames q db [] (names_of w.list) = subst (λ row. AreAllNames q db row (names_of w.list)) c.requires.row (all_names w) in
    IfOk-weaker c.range_of.result _ _ (λ range r. peaked db q w.bound.now.fits w.bound.now.database look.lax c.requires.strict c.requires.lax IsAnyWitness (names_of w.list) (all-names db q w.bound.now.fits (names_of w.list) all) look.atom c.requires.atom look.col look.way (end_places peaks) c.in_ok-peaks.ensures range r.least
    (r.low ∙ ap (λ t. names_in t peaks.low.items) c.table_of.ensures.table) r.greatest (r.high ∙ ap (λ t. names_in t peaks.high.items) c.table_of.ensures.table)) c.range_of.ensures
