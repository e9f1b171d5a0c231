use Rattle.std.proofs.Common.{◌≡◌, ◌+◌, ℕ, List, Option, None, length, subst, sym, ap, ◌∙◌, refl}
use Rattle.std.specs.Prelude.{Contains}
use Rattle.std.proofs.lemmas.List.{length-replicate}
use Rattle.cnf_form.specs.declared.formula.Cnf.{Cnf}
use Rattle.cnf_form.specs.declared.formula.Lit.{Lit}
use Rattle.cnf_form.specs.Literals.{literals}
use Rattle.search_trail.specs.Trail.{AllLow, AreAllInRange}
use Rattle.cdcl.specs.Watching.{IsWatchListed, AreLists}
use Rattle.cdcl.proofs.Values.{state_first, watching_first}
use Rattle.cdcl.proofs.solver.Solver.new.Goals as goal

pub returns-clause-new : goal.returns-clause-new
returns-clause-new c =
    let n = c.args.cnf.now.vars + 1 in
    let db = literals c.into_vec-clauses.result.items in
    let same : literals c.args.cnf.now.clauses ≡ db = sym (ap literals (c.into_vec-clauses.ensures ∙ ap (λ (cnf : Cnf). cnf.clauses) c.in_ok-copy.ensures)) in
    let lists = c.in_ok-lists.lists.items in
    let len : n ≡ length c.in_ok-places.places.items =
    sym (length-replicate n (let o : Option ℕ = None in o)) ∙ ap (λ (ps : List (Option ℕ)). length ps) (sym c.in_ok-places.ensures) in
    record {
      watchful = record {
        sound = rw (c.new-2.ensures.items, c.new-3.ensures.items, c.in_ok-places.ensures)
            (state_first db n
            (subst (λ (d : List (List Lit)). AreAllInRange d n) same c.requires.range)
            (subst (λ (d : List (List Lit)). (x : List Lit) → Contains d x → AllLow x) same c.requires.low));
        watching = rw (c.new-2.ensures.items, c.new-3.ensures.items, c.new-4.ensures.items) (watching_first (IsWatchListed lists) db);
        lists = rw c.new-4.ensures.items (subst (λ (m : ℕ). AreLists lists m 0) len c.in_ok-lists.ensures);
      };
      first = record { level_starts = c.new-3.ensures.items; head = refl };
      none = c.new-4.ensures.items;
    }
