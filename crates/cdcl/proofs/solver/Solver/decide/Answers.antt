use Rattle.std.proofs.Common.{◌≡◌, ◌++◌, ◌∷◌, [], ℕ, None, refl, List, sym, subst, ap, length, ◌∙◌, arith}
use Rattle.cnf_form.specs.declared.formula.Lit.{Lit}
use Rattle.cnf_form.specs.Literals.{literals}
use Rattle.search_trail.specs.declared.trail.Entry.{Entry}
use Rattle.search_trail.specs.Trail.{held, AreTrailPlaces}
use Rattle.cdcl.specs.State.{IsSearchState}
use Rattle.cdcl.specs.Watching.{IsWatchListed, IsWatching, AreLists}
use Rattle.cdcl.proofs.States.{state_decided, held_push, length_held}
use Rattle.cdcl.proofs.WatchState.{watching_level, watching_put}
use Rattle.cdcl.proofs.solver.Solver.decide.Goals as goal

pub returns-clause-ready : goal.returns-clause-ready
returns-clause-ready c =
    let self = c.args.self.now in
    let entry : Entry = record { lit = record { var = c.args.var; positive = c.value.result }; reason = None } in
    let db = literals self.clauses.items in
    let trail = self.trail.items in
    let R = IsWatchListed self.lists.items in
    let ready = c.requires.ready in
    let e = c.in_ok-enqueue.ensures.trail in
    let start : length trail ≡ c.len-start.result = omega (arith, c.len-start.ensures, self.trail.ok) in
    let level_starts : self.level_starts.items ++ length trail ∷ [] ≡ c.push.new.self.items =
    ap (λ (n : ℕ). self.level_starts.items ++ n ∷ []) start ∙ sym c.in_ok-push.ensures.items in
    let t : held c.enqueue.new.trail.items ≡ held trail ++ entry.lit ∷ [] = ap held e ∙ held_push trail entry in
    let len = length_held trail in
    record {
      watchful = record {
        sound = subst (λ (ss : List ℕ). IsSearchState db c.enqueue.new.trail.items c.enqueue.new.places.items ss) level_starts
            (subst (λ (es : List Entry). IsSearchState db es c.enqueue.new.places.items (self.level_starts.items ++ length trail ∷ [])) (sym e)
            (state_decided db trail self.places.items c.enqueue.new.places.items self.level_starts.items entry
            ready.watchful.sound refl c.requires.low c.requires.range
            (subst (λ (es : List Entry). AreTrailPlaces (held es) c.enqueue.new.places.items) e c.in_ok-enqueue.ensures.places) c.enqueue.ensures.len));
        watching = subst (λ (ss : List ℕ). IsWatching R self.permanent db (held c.enqueue.new.trail.items) ss self.head self.pairs.items) level_starts
            (subst (λ (xs : List Lit). IsWatching R self.permanent db xs (self.level_starts.items ++ length trail ∷ []) self.head self.pairs.items) (sym t)
            (watching_put R db (held trail) (self.level_starts.items ++ length trail ∷ []) self.head self.pairs.items entry.lit
            (subst (λ (n : ℕ). IsWatching R self.permanent db (held trail) (self.level_starts.items ++ n ∷ []) self.head self.pairs.items) len
            (watching_level R db (held trail) self.level_starts.items self.head self.pairs.items (omega (arith, len, c.requires.whole)) c.requires.still ready.watchful.watching))));
        lists = subst (λ (n : ℕ). AreLists self.lists.items n (length self.pairs.items)) (sym c.enqueue.ensures.len) ready.watchful.lists;
      };
      all = ready.all;
    }
