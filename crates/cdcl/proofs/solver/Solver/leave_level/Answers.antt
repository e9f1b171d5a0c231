use Rattle.std.proofs.Common.{◌≡◌, ◌≤◌, ◌++◌, ◌∷◌, [], ℕ, List, min, take, length, sym, ◌∙◌, ap, subst, arith}
use Rattle.std.proofs.lemmas.List.Elements.{Contains-push}
use Rattle.cnf_form.specs.declared.formula.Lit.{Lit}
use Rattle.cnf_form.specs.Literals.{literals}
use Rattle.search_trail.specs.declared.trail.Entry.{Entry}
use Rattle.search_trail.specs.Trail.{held, AreTrailPlaces}
use Rattle.cdcl.specs.State.{IsSearchState}
use Rattle.cdcl.specs.Watching.{IsWatchListed, IsWatching, AreLists}
use Rattle.cdcl.proofs.States.{state_back, below_last, held_take, length_held}
use Rattle.cdcl.proofs.WatchState.{watching_back}
use Rattle.cdcl.proofs.solver.Solver.leave_level.Goals as goal

pub returns-in-Some-clause-ready : goal.returns-in-Some-clause-ready
returns-in-Some-clause-ready c =
    let self = c.args.self.now in
    let db = literals self.clauses.items in
    let trail = self.trail.items in
    let s = c.in-Some.start in
    let level_starts = c.pop.new.self.items in
    let ready = c.requires.ready in
    let st : IsSearchState db trail self.places.items (level_starts ++ s ∷ []) =
    subst (λ (ss : List ℕ). IsSearchState db trail self.places.items ss) c.in-Some.ensures.items ready.watchful.sound in
    let w : IsWatching (IsWatchListed self.lists.items) self.permanent db (held trail) (level_starts ++ s ∷ []) self.head self.pairs.items =
    subst (λ (ss : List ℕ). IsWatching (IsWatchListed self.lists.items) self.permanent db (held trail) ss self.head self.pairs.items) c.in-Some.ensures.items ready.watchful.watching in
    let cut : held c.cut.new.trail.items ≡ take s (held trail) = ap held c.cut.ensures.trail ∙ held_take s trail in
    let within : s ≤ length (held trail) = let u = st.under s (Contains-push level_starts s) in let l = length_held trail in omega (arith, u, l) in
    record {
      watchful = record {
        sound = subst (λ (es : List Entry). IsSearchState db es c.cut.new.places.items level_starts) (sym c.cut.ensures.trail)
            (state_back db trail self.places.items c.cut.new.places.items level_starts s st
            (subst (λ (es : List Entry). AreTrailPlaces (held es) c.cut.new.places.items) c.cut.ensures.trail c.cut.ensures.places) c.cut.ensures.len);
        watching = subst (λ (h : ℕ). IsWatching (IsWatchListed self.lists.items) self.permanent db (held c.cut.new.trail.items) level_starts h self.pairs.items) (sym c.min-self.ensures)
            (subst (λ (xs : List Lit). IsWatching (IsWatchListed self.lists.items) self.permanent db xs level_starts (min self.head s) self.pairs.items) (sym cut)
            (watching_back (IsWatchListed self.lists.items) db (held trail) level_starts s self.head self.pairs.items within (λ x i. below_last level_starts s x st.rising i) w));
        lists = subst (λ (n : ℕ). AreLists self.lists.items n (length self.pairs.items)) (sym c.cut.ensures.len) ready.watchful.lists;
      };
      all = ready.all;
    }
