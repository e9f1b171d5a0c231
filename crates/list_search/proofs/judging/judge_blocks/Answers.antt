use Rattle.std.proofs.Common.{◌≡◌, sym, subst}
use Rattle.cdcl.specs.Outcomes.{OutcomeIs}
use Rattle.join_access.specs.Listing.{names_of}
use Rattle.row_lists.specs.declared.formula.Encoded.{Encoded}
use Rattle.row_lists.specs.Encodings.{IsListEncoded}
use Rattle.list_search.proofs.Deciding.{in_range, once, judged_is}
use Rattle.list_search.proofs.Listed.{frame_is, within}
use Rattle.list_search.proofs.judging.judge_blocks.Goals as goal

pub solved-requires-clause-range : goal.solved-requires-clause-range
solved-requires-clause-range c =
    let l = c.args.lists.now in
    in_range l.db.now l.frame.now.tables (names_of l.lists.now) c.in_ok-formula.formula c.in_ok-formula.ensures

pub solved-requires-clause-once : goal.solved-requires-clause-once
solved-requires-clause-once c =
    let l = c.args.lists.now in
    once l.db.now l.frame.now.tables (names_of l.lists.now) c.in_ok-formula.formula c.in_ok-formula.ensures

pub returns : goal.returns
returns c =
    let l = c.args.lists.now in
    let d = c.in_ok-decided.decided in
    let same : d.formula ≡ c.in_ok-formula.formula = c.in_ok-decided.ensures.same in
    let formula = subst (IsListEncoded l.db.now l.frame.now.tables (names_of l.lists.now)) (sym same) c.in_ok-formula.ensures in
    let outcome = subst (λ (f : Encoded). OutcomeIs f.cnf c.args.budget d.outcome) (sym same) c.in_ok-decided.ensures.outcome in
    judged_is l.db.now l.frame.now.tables (names_of l.lists.now) d.formula formula l.database (frame_is l) (within l) l.stored c.args.budget d.outcome c.judged_by.result outcome c.judged_by.ensures
