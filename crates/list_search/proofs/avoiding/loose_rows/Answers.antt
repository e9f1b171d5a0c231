use Rattle.std.proofs.Common.{◌≡◌, ◌∙◌, ◌++◌, ◌∷◌, [], List, Bool, length, ap, sym, subst, arith}
use Rattle.join_access.specs.Listing.{names_of}
use Rattle.list_search.specs.Avoiding.{AreLooseMarks}
use Rattle.list_search.proofs.Avoided.{loose-none, loose-more}
use Rattle.list_search.proofs.avoiding.loose_rows.Goals as goal

pub loop-slot-init : goal.loop-slot-init
loop-slot-init c =
    let l = c.args.lists.now in
    loose-none l.db.now l.frame.now.tables l.columns (names_of l.lists.now) c.in_ok-loose.loose.items c.in_ok-loose.ensures.items

pub loop-slot-preserved : goal.loop-slot-preserved
loop-slot-preserved c =
    let l = c.args.lists.now in
    loose-more l.db.now l.frame.now.tables l.columns (names_of l.lists.now) c.loop-slot.slot c.loop-slot.loose.items c.push.new.self.items c.in_ok-loose_of.field-0.items c.loop-slot.invariant c.in_ok-loose_of.ensures.size c.in_ok-loose_of.ensures.loose
    (c.in_ok-push.ensures.items ∙ ap (λ (ms : List Bool). c.loop-slot.loose.items ++ ms ∷ []) c.from_vec.ensures)

pub returns : goal.returns
returns c =
    let l = c.args.lists.now in
    let ended : c.loop-slot.slot ≡ length l.frame.now.tables = omega arith in
    subst (AreLooseMarks l.db.now l.frame.now.tables l.columns (names_of l.lists.now) (length l.frame.now.tables)) (sym c.from_vec-2.ensures)
    (subst (λ n. AreLooseMarks l.db.now l.frame.now.tables l.columns (names_of l.lists.now) n c.loop-slot.loose.items) ended c.loop-slot.invariant)
