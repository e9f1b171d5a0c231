use Rattle.std.proofs.Common.{sym, subst, List, ℕ, Contains}
use Rattle.std.proofs.lemmas.List.Elements.{Contains-append_left, Contains-append_right}
use Rattle.part_search.proofs.scope.add_atom.Goals as goal

pub returns-clause-kept : goal.returns-clause-kept
returns-clause-kept c p m = subst (λ (xs : List ℕ). Contains xs p) (sym c.in_ok-append.ensures.items) (Contains-append_left c.args.columns.now.items c.in_ok-spoken.spoken.items p m)

pub returns-clause-added : goal.returns-clause-added
returns-clause-added c col s e =
    subst (λ (xs : List ℕ). Contains xs col.col) (sym c.in_ok-append.ensures.items) (Contains-append_right c.args.columns.now.items c.in_ok-spoken.spoken.items col.col (c.in_ok-spoken.ensures col s e))
