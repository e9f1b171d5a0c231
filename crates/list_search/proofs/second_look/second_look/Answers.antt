use Rattle.std.proofs.Common.{◌≡◌, ℕ, ◌<◌, length, refl, ap, subst, slice_index}
use Rattle.std.proofs.lemmas.Result.{IfOk-weaker}
use Rattle.cnf_form.specs.Literals.{literals}
use Rattle.join_access.specs.Listing.{names_of}
use Rattle.row_lists.specs.declared.frame.Frame.{Frame}
use Rattle.row_lists.specs.Formulas.{table_at}
use Rattle.row_lists.specs.Spans.{variables_of_spans}
use Rattle.list_search.specs.declared.scope.Scope.{Scope}
use Rattle.list_search.specs.Quotients.{columns_at}
use Rattle.list_search.specs.Scopes.{columns_of}
use Rattle.list_search.proofs.Listed.{frame_is, within}
use Rattle.list_search.proofs.Rising.{rising-once, rising-range}
use Rattle.list_search.proofs.ClassFormulas.{found_says, quotient_rises}
use Rattle.list_search.proofs.second_look.second_look.Goals as goal

-- the columns of a slot's table are those of the slot
columns-same : (scope : Scope) (frame : Frame) → frame ≡ scope.frame → (s : ℕ) → s < length frame.tables → columns_of scope (table_at frame.tables s) ≡ columns_at scope.columns s
columns-same scope frame same s l = ap (columns_at scope.columns) (subst (λ (f : Frame). slice_index f.slots (table_at frame.tables s) ≡ s) same (frame.kept.slot s l))

pub found_in-found-requires-clause-range : goal.found_in-found-requires-clause-range
found_in-found-requires-clause-range c =
    let l = c.args.lists.now in
    let cnf = c.in_ok-cnf.cnf in
    let made = c.in_ok-cnf.ensures in
    rising-range cnf (literals cnf.clauses) (length (variables_of_spans made.0)) refl made.2
    (quotient_rises l.db.now l.frame.now.tables c.args.scope.now.columns made.0 c.args.blocks.now.spans (names_of l.lists.now) (literals cnf.clauses) made.3)

pub found_in-found-requires-clause-once : goal.found_in-found-requires-clause-once
found_in-found-requires-clause-once c =
    let l = c.args.lists.now in
    let cnf = c.in_ok-cnf.cnf in
    let made = c.in_ok-cnf.ensures in
    rising-once cnf (literals cnf.clauses) (length (variables_of_spans made.0)) refl made.2
    (quotient_rises l.db.now l.frame.now.tables c.args.scope.now.columns made.0 c.args.blocks.now.spans (names_of l.lists.now) (literals cnf.clauses) made.3)

pub returns : goal.returns
returns c =
    let l = c.args.lists.now in
    let scope = c.args.scope.now in
    let blocks = c.args.blocks.now in
    let cnf = c.in_ok-cnf.cnf in
    let made = c.in_ok-cnf.ensures in
    IfOk-weaker c.found_in-found.result _ _
    (λ found is. found_says l.db.now l.frame.now.tables (names_of l.lists.now) scope.columns (columns_of scope) (columns-same scope l.frame.now c.requires.frame) l.database (frame_is l) l.stored (within l) c.requires.closed
    blocks.vars blocks.spans c.requires.blocks made.0 made.1 (literals cnf.clauses) made.3 found is) c.found_in-found.ensures
