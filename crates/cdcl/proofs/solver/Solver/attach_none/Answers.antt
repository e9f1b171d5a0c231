use Rattle.std.proofs.Common.{◌≡◌, ◌++◌, ◌∷◌, [], List, inl, sym, subst, length, arith}
use Rattle.std.proofs.lemmas.List.{length_push}
use Rattle.cnf_form.specs.Literals.{literals}
use Rattle.cdcl.specs.declared.watch.Pair.{Pair}
use Rattle.search_trail.specs.Trail.{held}
use Rattle.cdcl.specs.Watching.{IsWatchListed, IsWatching, AreLists}
use Rattle.cdcl.proofs.WatchState.{watching_attach}
use Rattle.cdcl.proofs.LookState.{lists_wider}
use Rattle.cdcl.proofs.solver.Solver.attach_none.Goals as goal

pub returns-clause-watchful : goal.returns-clause-watchful
returns-clause-watchful c =
    let self = c.args.self.now in
    let pair : Pair = record { first = c.args.lit; second = c.args.lit } in
    let new : c.push.new.self.items ≡ self.pairs.items ++ pair ∷ [] = c.in_ok-push.ensures.items in
    let b = c.requires.base in
    let w = c.requires.watchful in
    record {
      sound = w.sound;
      watching = subst (λ (ps : List Pair). IsWatching (IsWatchListed self.lists.items) self.permanent (literals self.clauses.items) (held self.trail.items) self.level_starts.items self.head ps) (sym new)
          (watching_attach (IsWatchListed self.lists.items) (literals self.clauses.items) (held self.trail.items) self.level_starts.items self.head self.pairs.items b.0 pair
          b.1 b.2 b.3 (inl b.4) w.watching);
      lists = subst (λ (ps : List Pair). AreLists self.lists.items (length self.places.items) (length ps)) (sym new)
          (lists_wider self.lists.items (length self.places.items) (length self.pairs.items) (length (self.pairs.items ++ pair ∷ [])) (let l = length_push self.pairs.items pair in omega (arith, l)) w.lists);
    }
