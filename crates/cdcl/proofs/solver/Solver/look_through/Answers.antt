use Rattle.std.proofs.Common.{◌≡◌, ◌<◌, ◌+◌, ℕ, List, ◌∷◌, ◌++◌, [], take, drop, set, get_or, length, refl, ◌∙◌, ap, subst, sym, arith}
use Rattle.std.specs.Prelude.{Vec}
use Rattle.std.specs.declared.alloc.Global.{Global}
use Rattle.std.proofs.lemmas.List.{length-set, drop_all, append-nil}
use Rattle.cdcl.specs.declared.look.Visit.{Visit}
use Rattle.search_trail.specs.Trail.{held}
use Rattle.cdcl.specs.Watching.{code_of}
use Rattle.cdcl.specs.Looking.{IsLookingAt, VisitIs}
use Rattle.cdcl.proofs.Stretches.{next_index}
use Rattle.cdcl.proofs.Visiting.{code_in, conflict_at, visited_at, first_at, last_at, grown_same, grown_more, stays_more, stays_all, dropped_next, kept_next}
use Rattle.cdcl.proofs.solver.Solver.look_through.Goals.{in-Dropped, in-Kept}
use Rattle.cdcl.proofs.solver.Solver.look_through.Goals as goal

pub loop-at-init : goal.loop-at-init
loop-at-init c =
    let s = c.args.self.now in
    let t = c.take_list-list in
    let own : t.result.items ≡ get_or s.lists.items (code_of c.args.lit) [] = t.ensures.taken ∙ ap (λ (i : ℕ). get_or s.lists.items i []) c.code.ensures in
    let left : t.new.lists.items ≡ set s.lists.items (code_of c.args.lit) [] = t.ensures.left ∙ ap (λ (i : ℕ). set s.lists.items i []) c.code.ensures in
    record {
      order = omega arith;
      len = omega (arith, c.len-at-end.ensures, t.result.ok);
      looking = first_at s c.args.lit t.new.lists t.result.items c.requires.ready c.requires.next own left;
      stays = record { formula = record { clauses = refl; permanent = refl; len = refl }; level_starts = refl; head = refl; count = refl };
      grows = grown_same (held s.trail.items);
    }

pub put_list-requires : goal.put_list-requires
put_list-requires c =
    let list = c.loop-at.list.items in
    let h : c.loop-at.at < length list = omega (arith, c.loop-at-test.true, c.loop-at.invariant.len) in
    let f = conflict_at c.loop-at.self c.visit.new.self c.args.lit list c.loop-at.kept c.loop-at.at c.index-index.result.now _ h c.index-index.ensures c.loop-at.invariant.looking c.in_ok-visit.ensures.visit c.in-Conflict.is in
    let range = code_in c.visit.new.self c.args.lit f.0.sound f.0.denied in
    omega (arith, range, f.0.lists_are.room, c.code-in-Conflict.ensures)

pub returns-in-Conflict : goal.returns-in-Conflict
returns-in-Conflict c =
    let old = c.args.self.now in
    let s = c.visit.new.self in
    let list = c.loop-at.list.items in
    let kept = c.loop-at.kept in
    let at = c.loop-at.at in
    let x = c.index-index.result.now in
    let h : at < length list = omega (arith, c.loop-at-test.true, c.loop-at.invariant.len) in
    let f = conflict_at c.loop-at.self s c.args.lit list kept at x _ h c.index-index.ensures c.loop-at.invariant.looking c.in_ok-visit.ensures.visit c.in-Conflict.is in
    let own : c.close_gap.new.list.items ≡ take kept list ++ x ∷ drop (at + 1) list = c.close_gap.ensures ∙ ap (λ (ys : List ℕ). take kept list ++ ys) (next_index list at x h c.index-index.ensures) in
    let put : c.put_list.new.lists.items ≡ set s.lists.items (code_of c.args.lit) c.close_gap.new.list.items =
    c.put_list.ensures ∙ ap (λ (i : ℕ). set s.lists.items i c.close_gap.new.list.items) c.code-in-Conflict.ensures in
    let stays = stays_more old c.loop-at.self s c.loop-at.invariant.stays c.visit.ensures.stays in
    record {
      ready = last_at s c.args.lit c.put_list.new.lists (take kept list) (x ∷ drop (at + 1) list) c.close_gap.new.list.items (stays_all old s stays c.requires.ready.all) own put f.0;
      stays = record { formula = record { clauses = stays.formula.clauses; permanent = stays.formula.permanent; len = stays.formula.len }; level_starts = stays.level_starts; head = stays.head; count = stays.count };
      grows = grown_more (held old.trail.items) (held c.loop-at.self.trail.items) (held s.trail.items) c.loop-at.invariant.grows c.in_ok-visit.ensures.grows;
      conflict = f.1;
    }

pub loop-at-preserved : goal.loop-at-preserved
loop-at-preserved c =
    let list = c.loop-at.list.items in
    let kept = c.loop-at.kept in
    let at = c.loop-at.at in
    let x = c.index-index.result.now in
    let h : at < length list = omega (arith, c.loop-at-test.true, c.loop-at.invariant.len) in
    let visited = visited_at c.loop-at.self c.visit.new.self c.args.lit list kept at x c.in_ok-visit.field-0 h c.index-index.ensures c.loop-at.invariant.looking c.in_ok-visit.ensures.visit in
    let new = c.match-branch-2 in
    let stays = stays_more c.args.self.now c.loop-at.self c.visit.new.self c.loop-at.invariant.stays c.visit.ensures.stays in
    let grows = grown_more (held c.args.self.now.trail.items) (held c.loop-at.self.trail.items) (held c.visit.new.self.trail.items) c.loop-at.invariant.grows c.in_ok-visit.ensures.grows in
    elim c.match-branch-2.branch [
      | in-Dropped w ↦
          let same : new.list.items ≡ list = ap (λ (v : Vec ℕ Global). v.items) w.list-is in
          let d : IsLookingAt c.visit.new.self c.args.lit (take kept list) (drop (at + 1) list) =
          subst (λ (v : Visit). VisitIs c.visit.new.self c.args.lit (take kept list) (drop (at + 1) list) x v) w.in-Dropped.is visited in
          record {
            order = omega (arith, c.loop-at.invariant.order, w.kept-is);
            len = ap (λ (xs : List ℕ). length xs) same ∙ c.loop-at.invariant.len;
            looking = dropped_next c.visit.new.self c.args.lit kept at new.kept list new.list.items w.kept-is same d;
            stays = stays;
            grows = grows;
          }
      | in-Kept w ↦
          let put : new.list.items ≡ set list kept x = ap (λ (v : Vec ℕ Global). v.items) w.list-is in
          let d : IsLookingAt c.visit.new.self c.args.lit (take kept list ++ x ∷ []) (drop (at + 1) list) =
          subst (λ (v : Visit). VisitIs c.visit.new.self c.args.lit (take kept list) (drop (at + 1) list) x v) w.in-Kept.is visited in
          record {
            order = omega (arith, c.loop-at.invariant.order, w.kept-is);
            len = ap (λ (xs : List ℕ). length xs) put ∙ length-set list kept x ∙ c.loop-at.invariant.len;
            looking = kept_next c.visit.new.self c.args.lit kept at new.kept x list new.list.items c.loop-at.invariant.order h w.kept-is put d;
            stays = stays;
            grows = grows;
          }
    ]

pub put_list-requires-2 : goal.put_list-requires-2
put_list-requires-2 c =
    let l = c.loop-at.invariant.looking in
    let range = code_in c.loop-at.self c.args.lit l.sound l.denied in
    omega (arith, range, l.lists_are.room, c.code-2.ensures)

pub returns-clause-ready : goal.returns-clause-ready
returns-clause-ready c =
    let list = c.loop-at.list.items in
    let kept = c.loop-at.kept in
    let none : drop c.loop-at.at list ≡ [] = drop_all c.loop-at.at list (omega (arith, c.loop-at-test.false, c.loop-at.invariant.len)) in
    let l : IsLookingAt c.loop-at.self c.args.lit (take kept list) [] =
    subst (λ (xs : List ℕ). IsLookingAt c.loop-at.self c.args.lit (take kept list) xs) none c.loop-at.invariant.looking in
    let put : c.put_list-2.new.lists.items ≡ set c.loop-at.self.lists.items (code_of c.args.lit) c.truncate.new.self.items =
    c.put_list-2.ensures ∙ ap (λ (i : ℕ). set c.loop-at.self.lists.items i c.truncate.new.self.items) c.code-2.ensures in
    last_at c.loop-at.self c.args.lit c.put_list-2.new.lists (take kept list) [] c.truncate.new.self.items
    (stays_all c.args.self.now c.loop-at.self c.loop-at.invariant.stays c.requires.ready.all) (c.truncate.ensures.items ∙ (sym (append-nil (take kept list)))) put l

pub returns-clause-conflict : goal.returns-clause-conflict
returns-clause-conflict c =
    let list = c.loop-at.list.items in
    let none : drop c.loop-at.at list ≡ [] = drop_all c.loop-at.at list (omega (arith, c.loop-at-test.false, c.loop-at.invariant.len)) in
    let l : IsLookingAt c.loop-at.self c.args.lit (take c.loop-at.kept list) [] =
    subst (λ (xs : List ℕ). IsLookingAt c.loop-at.self c.args.lit (take c.loop-at.kept list) xs) none c.loop-at.invariant.looking in
    l.pending
