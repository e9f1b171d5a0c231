use Rattle.std.proofs.Common.{◌≡◌, ◌++◌, ◌∷◌, [], ℕ, List, inr, sym, ◌∙◌, subst, ap, length, get_or, arith}
use Rattle.std.proofs.lemmas.List.{length-set, length_push}
use Rattle.cnf_form.specs.declared.formula.Lit.{Lit}
use Rattle.cnf_form.specs.Literals.{literals}
use Rattle.cdcl.specs.declared.watch.Pair.{Pair}
use Rattle.search_trail.specs.Trail.{held}
use Rattle.cdcl.specs.Watching.{IsWatchListed, IsWatching, IsPaired, AreLists, code_of, listed_at}
use Rattle.search_trail.proofs.Works.{At-contains}
use Rattle.cdcl.proofs.WatchState.{code_small, watching_attach, watching_relist, listed_more, listed_new}
use Rattle.cdcl.proofs.LookState.{lists_wider, lists_more}
use Rattle.cdcl.proofs.solver.Solver.attach.Goals as goal

pub push_index-requires : goal.push_index-requires
push_index-requires c =
    let p = c.requires.pair in
    let w = c.requires.watchful in
    let range = code_small c.args.first (length c.args.self.now.places.items) (w.sound.db_in p.0 (At-contains _ _ _ p.1) c.args.first p.2) in
    omega (arith, range, c.code.ensures, w.lists.room)

pub push_index-requires-2 : goal.push_index-requires-2
push_index-requires-2 c =
    let p = c.requires.pair in
    let w = c.requires.watchful in
    let range = code_small c.args.second (length c.args.self.now.places.items) (w.sound.db_in p.0 (At-contains _ _ _ p.1) c.args.second p.3) in
    let e = ap (λ (xs : List (List ℕ)). length xs) c.in_ok-push_index.ensures in
    let l = length-set c.args.self.now.lists.items c.code.result (get_or c.args.self.now.lists.items c.code.result [] ++ c.len-index.result ∷ []) in
    omega (arith, range, c.code-2.ensures, w.lists.room, e, l)

pub returns-clause-watchful : goal.returns-clause-watchful
returns-clause-watchful c =
    let self = c.args.self.now in
    let a = c.args.first in
    let b = c.args.second in
    let pair : Pair = record { first = a; second = b } in
    let k = length self.pairs.items in
    let p = c.requires.pair in
    let w = c.requires.watchful in
    let n = length self.places.items in
    let first : List (List ℕ) = listed_at self.lists.items (code_of a) k in
    let both : List (List ℕ) = listed_at first (code_of b) k in
    let index : c.len-index.result ≡ k = omega (arith, c.len-index.ensures, self.pairs.ok) in
    let new : c.push.new.self.items ≡ self.pairs.items ++ pair ∷ [] = c.in_ok-push.ensures.items in
    let one : c.push_index.new.lists.items ≡ first =
    c.in_ok-push_index.ensures ∙ ap (λ (i : ℕ). listed_at self.lists.items i c.len-index.result) c.code.ensures ∙ ap (λ (i : ℕ). listed_at self.lists.items (code_of a) i) index in
    let two : c.push_index-2.new.lists.items ≡ both =
    c.in_ok-push_index-2.ensures ∙ ap (λ (i : ℕ). listed_at c.push_index.new.lists.items i c.len-index.result) c.code-2.ensures
    ∙ ap (λ (i : ℕ). listed_at c.push_index.new.lists.items (code_of b) i) index ∙ ap (λ (ls : List (List ℕ)). listed_at ls (code_of b) k) one in
    let more : (l : Lit) (j : ℕ) → IsWatchListed self.lists.items l j → IsWatchListed both l j = λ l j r.
    listed_more first (code_of b) k l j (listed_more self.lists.items (code_of a) k l j r) in
    let range_a = code_small a n (w.sound.db_in p.0 (At-contains _ _ _ p.1) a p.2) in
    let range_b = code_small b n (w.sound.db_in p.0 (At-contains _ _ _ p.1) b p.3) in
    let room : length first ≡ length self.lists.items = length-set self.lists.items (code_of a) (get_or self.lists.items (code_of a) [] ++ k ∷ []) in
    let paired : IsPaired (IsWatchListed both) (held self.trail.items) self.level_starts.items self.head k p.0 pair = record {
      apart = p.4.0;
      first = p.4.1;
      second = p.4.2;
      first_in = listed_more first (code_of b) k a k (listed_new self.lists.items a k (omega (arith, range_a, w.lists.room)));
      second_in = listed_new first b k (omega (arith, range_b, w.lists.room, room));
    } in
    record {
      sound = w.sound;
      watching = subst (λ (ps : List Pair). IsWatching (IsWatchListed c.push_index-2.new.lists.items) self.permanent (literals self.clauses.items) (held self.trail.items) self.level_starts.items self.head ps) (sym new)
          (subst (λ (ls : List (List ℕ)). IsWatching (IsWatchListed ls) self.permanent (literals self.clauses.items) (held self.trail.items) self.level_starts.items self.head (self.pairs.items ++ pair ∷ [])) (sym two)
          (watching_attach (IsWatchListed both) (literals self.clauses.items) (held self.trail.items) self.level_starts.items self.head self.pairs.items p.0 pair p.1 p.2 p.3 (inr paired)
          (watching_relist (IsWatchListed self.lists.items) (IsWatchListed both) (literals self.clauses.items) (held self.trail.items) self.level_starts.items self.head self.pairs.items more w.watching)));
      lists = subst (λ (ps : List Pair). AreLists c.push_index-2.new.lists.items n (length ps)) (sym new)
          (subst (λ (ls : List (List ℕ)). AreLists ls n (length (self.pairs.items ++ pair ∷ []))) (sym two)
          (let l = length_push self.pairs.items pair in
          lists_more first n (length (self.pairs.items ++ pair ∷ [])) (code_of b) k (omega (arith, l))
          (lists_more self.lists.items n (length (self.pairs.items ++ pair ∷ [])) (code_of a) k (omega (arith, l))
          (lists_wider self.lists.items n k (length (self.pairs.items ++ pair ∷ [])) (omega (arith, l)) w.lists))));
    }
