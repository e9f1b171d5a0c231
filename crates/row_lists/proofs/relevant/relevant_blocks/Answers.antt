use Rattle.std.proofs.Common.{◌≡◌, ◌≤◌, ◌+◌, ◌*◌, ◌++◌, ◌∙◌, length, ap, sym, subst, arith}
use Rattle.cqa_model.specs.declared.limits.TheConstants.{MOST_TABLES, MOST_ROWS}
use Rattle.join_access.specs.Listing.{names_of}
use Rattle.row_lists.specs.Encodings.{AreListSpansTo}
use Rattle.row_lists.specs.Spans.{IsSpanNumbering}
use Rattle.row_lists.proofs.Blocks.{list-spans-none, list_numbering}
use Rattle.row_lists.proofs.relevant.relevant_blocks.Goals as goal

pub loop-slot-init : goal.loop-slot-init
loop-slot-init c =
    let l = c.args.lists.now in
    let frame = l.frame.now.tables in
    let names = names_of l.lists.now in
    record { small = omega arith; blocks = subst (AreListSpansTo l.db.now frame names 0 0) (sym c.new-spans.ensures.items) (list-spans-none l.db.now frame names) }

pub loop-slot-preserved : goal.loop-slot-preserved
loop-slot-preserved c =
    let l = c.args.lists.now in
    let spans = c.loop-slot.spans.items in
    let joined = c.in_ok-append.ensures.items ∙ ap (λ list. spans ++ list) c.into_vec.ensures in
    record {
      small = c.in_ok-more.ensures.small;
      blocks = subst (AreListSpansTo l.db.now l.frame.now.tables (names_of l.lists.now) (c.loop-slot.slot + 1) c.in_ok-more.more.vars) (sym joined) (c.in_ok-more.ensures.more spans c.loop-slot.invariant.blocks);
    }

pub invariant_of-result : goal.invariant_of-result
invariant_of-result c =
    let l = c.args.lists.now in
    let frame = l.frame.now.tables in
    let names = names_of l.lists.now in
    let spans = c.loop-slot.spans.items in
    let ended : c.loop-slot.slot ≡ length frame = omega arith in
    let blocks = subst (λ n. AreListSpansTo l.db.now frame names n c.loop-slot.vars spans) ended c.loop-slot.invariant.blocks in
    let small = c.loop-slot.invariant.small in
    let tables = l.frame.now.few in
    let few : c.loop-slot.vars ≤ MOST_TABLES * MOST_ROWS = omega (arith, small, tables, ended) in
    record { kept = subst (λ ss. IsSpanNumbering ss c.loop-slot.vars) (sym c.from_vec.ensures) (list_numbering l.db.now frame names c.loop-slot.vars spans blocks l.database few) }

pub returns : goal.returns
returns c =
    let l = c.args.lists.now in
    let frame = l.frame.now.tables in
    let names = names_of l.lists.now in
    let ended : c.loop-slot.slot ≡ length frame = omega arith in
    subst (AreListSpansTo l.db.now frame names (length frame) c.loop-slot.vars) (sym c.from_vec.ensures) (subst (λ n. AreListSpansTo l.db.now frame names n c.loop-slot.vars c.loop-slot.spans.items) ended c.loop-slot.invariant.blocks)
