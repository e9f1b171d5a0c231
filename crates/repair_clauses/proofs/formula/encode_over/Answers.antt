use Rattle.std.proofs.Common.{◌∙◌, List, ℕ, sym, subst}
use Rattle.std.proofs.lemmas.Result.{IfOk-weaker}
use Rattle.cqa_model.specs.Database.{Table}
use Rattle.join_access.specs.declared.witness.Witness.{Witness}
use Rattle.join_access.specs.Listing.{names_of}
use Rattle.row_witnesses.proofs.Told.{all_names}
use Rattle.row_lists.specs.declared.formula.Encoded.{Encoded}
use Rattle.row_lists.specs.declared.frame.Frame.{Frame}
use Rattle.row_lists.specs.Encodings.{IsListEncoded}
use Rattle.row_lists.specs.Formulas.{AreWithin}
use Rattle.row_lists.specs.Lists.{AreStoredLists}
use Rattle.repair_clauses.specs.Frames.{tables_of}
use Rattle.repair_clauses.proofs.Bridge.{lists_within, lists_stored, row_encoded}
use Rattle.repair_clauses.proofs.formula.encode_over.Goals as goal

pub new-requires-clause-within : goal.new-requires-clause-within
new-requires-clause-within c =
    let w = c.args.witnesses.now in
    let b = w.bound.now in
    let lists = lists_within b.query.now b.db.now b.fits w.row.now (names_of w.list) (all_names w) in
    subst (λ (ts : List ℕ). AreWithin ts (names_of c.as_slice.result.now)) (sym c.requires.tables) (subst (λ (ws : List Witness). AreWithin (tables_of b.query.now) (names_of ws)) (sym c.as_slice.ensures) lists)

pub new-requires-clause-stored : goal.new-requires-clause-stored
new-requires-clause-stored c =
    let w = c.args.witnesses.now in
    let b = w.bound.now in
    subst (λ (ws : List Witness). AreStoredLists b.db.now (names_of ws)) (sym c.as_slice.ensures) (lists_stored b.query.now b.db.now b.fits w.row.now (names_of w.list) (all_names w))

pub returns : goal.returns
returns c =
    let w = c.args.witnesses.now in
    let b = w.bound.now in
    let lists = c.in_ok-lists.lists in
    let same = c.in_ok-lists.ensures in
    IfOk-weaker c.encode-encoded.result _ _
    (λ (e : Encoded) h.
    let of_db = subst (λ (t : List Table). IsListEncoded t lists.frame.now.tables (names_of lists.lists.now) e) same.0 h in
    let of_frame = subst (λ (f : Frame). IsListEncoded b.db.now f.tables (names_of lists.lists.now) e) same.1 of_db in
    let of_lists = subst (λ (ws : List Witness). IsListEncoded b.db.now c.args.frame.now.tables (names_of ws) e) (same.2 ∙ c.as_slice.ensures) of_frame in
    row_encoded b.query.now b.db.now b.fits w.row.now (names_of w.list) (all_names w) e (subst (λ (ts : List ℕ). IsListEncoded b.db.now ts (names_of w.list) e) c.requires.tables of_lists))
    c.encode-encoded.ensures
