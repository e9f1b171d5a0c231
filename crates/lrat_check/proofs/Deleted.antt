-- Ids taken away in turn.
use Rattle.std.proofs.Common.{◌≡◌, ◌≢◌, ℕ, ◌<◌, ◌≤◌, ◌+◌, List, ◌∷◌, refl, sym, subst, length, drop, get_or, add-one, None, inl, inr}
use Rattle.std.proofs.Math.Seq.{drop-cons}
use Rattle.std.proofs.lemmas.List.{drop_all}
use mathlib.Core.Path.{fun_ext}
use Rattle.cnf_form.specs.Logs.{Live, without, DeletionPasses, after_deletion}
use Rattle.lrat_check.specs.Failing.{DeletionFails}

-- what is left of a deletion, and what it says of the whole
pub record Along (start : Live) (all : List ℕ) (live : Live) (rest : List ℕ) : Type 0 where
  pub passes : DeletionPasses live rest → DeletionPasses start all
  pub fails : DeletionFails live rest → DeletionFails start all
  pub after : after_deletion live rest ≡ after_deletion start all

pub along_start : (start : Live) (all : List ℕ) → Along start all start all
along_start start all = record { passes = λ x. x; fails = λ x. x; after = refl }

pub along_more : (start : Live) (all : List ℕ) (live new : Live) (i : ℕ) → i < length all → Along start all live (drop i all) → live (get_or all i 0) ≢ None
    → ((k : ℕ) → new k ≡ without live (get_or all i 0) k) → Along start all new (drop (i + 1) all)
along_more start all live new i h a n e =
    subst (λ (m : Live). Along start all m (drop (i + 1) all)) (sym path) (record {
      passes = λ p. b.passes (n, p);
      fails = λ f. b.fails (inr (n, f));
      after = b.after;
    })
  where
    path : new ≡ without live (get_or all i 0)
    path = fun_ext e

    split : drop i all ≡ get_or all i 0 ∷ drop (i + 1) all
    split = rw add-one (drop-cons all i 0 h)

    b : Along start all live (get_or all i 0 ∷ drop (i + 1) all)
    b = subst (λ (r : List ℕ). Along start all live r) split a

pub along_fails : (start : Live) (all : List ℕ) (live : Live) (i : ℕ) → i < length all → Along start all live (drop i all) → live (get_or all i 0) ≡ None → DeletionFails start all
along_fails start all live i h a n = a.fails (subst (λ (r : List ℕ). DeletionFails live r) (sym split) (inl n))
  where
    split : drop i all ≡ get_or all i 0 ∷ drop (i + 1) all
    split = rw add-one (drop-cons all i 0 h)

pub along_passes : (start : Live) (all : List ℕ) (live : Live) (i : ℕ) → length all ≤ i → Along start all live (drop i all) → DeletionPasses start all
along_passes start all live i h a = a.passes (subst (λ (r : List ℕ). DeletionPasses live r) (sym (drop_all i all h)) tt)
