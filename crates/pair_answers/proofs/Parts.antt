-- A row fits by itself where its parts do.
use Rattle.std.proofs.Common.{◌≡◌, ℕ, ◌<◌, inl, inr, List, [], length, refl, ◌∙◌, subst, Contains, slice_index_or}
use Rattle.std.specs.List.{All}
use Rattle.std.proofs.lemmas.List.Elements.{All-contains, Contains-get_or}
use Rattle.cqa_value.specs.declared.value.Value.{Value}
use Rattle.cqa_model.specs.declared.query.Op.TheVariants.{Eq}
use Rattle.cqa_model.specs.declared.query.Cond.{Cond}
use Rattle.cqa_model.specs.declared.query.Cond.TheVariants.{Join, Test}
use Rattle.cqa_model.specs.declared.query.ColRef.{ColRef}
use Rattle.cqa_model.specs.declared.query.Query.{Query}
use Rattle.cqa_model.specs.Database.{nothing}
use Rattle.cqa_model.specs.Query.{atom_at}
use Rattle.cqa_model.specs.Variables.{AreLinked}
use Rattle.cqa_model.specs.Plan.{Placed, TestHolds, answer_at}
use Rattle.cqa_model.proofs.Classic.{mem-head, mem-nil, mem-cases}
use Rattle.cqa_model.proofs.Views.{linked-self}
use Rattle.join_access.specs.Deciding.{of_all}
use Rattle.weak_pairs.specs.Pairs.{IsGiven, FitsAlone}
use Rattle.pair_answers.specs.Fitting.{OwnFits, HasLinkedAnswer, GivenBy, GivenFits}

module _ (q : Query) (row : List Value) (F : ℕ) (x : List Value) where
  abbrev self : Placed
  self = record { atom = F; row = x }

  abbrev at : ℕ → ColRef
  at i = record { atom = F; col = i }

  given-of : FitsAlone q row F x → (k : Cond) → Contains q.conds k → GivenBy q F x k
  given-of f (Join c d) m = tt
  given-of f (Test d op y) m = λ e i li l. f.given i li y (inr (d, l, subst (λ z. Contains q.conds (Test d z y)) e m))

  pub to_parts : FitsAlone q row F x → OwnFits q F x × All (TestHolds F x) q.conds × HasLinkedAnswer q row F x × GivenFits q F x
  to_parts f = (
    λ j lj i li l. f.fits.agrees self (mem-head self []) i li j lj l,
    of_all (TestHolds F x) q.conds f.fits.tests,
    λ k lk i li l. f.given i li (slice_index_or row k nothing) (inl (k, lk, l, refl)),
    of_all (GivenBy q F x) q.conds (given-of f),
  )

  pub from_parts : OwnFits q F x → All (TestHolds F x) q.conds → HasLinkedAnswer q row F x → GivenFits q F x → FitsAlone q row F x
  from_parts o t a g = record {
    fits = record {
      agrees = λ u m. elim (mem-cases u self [] m) [
        | inl e ↦ subst (λ z. (i : ℕ) → i < (atom_at q F).width → (j : ℕ) → j < (atom_at q z.atom).width → AreLinked q (at i) (record { atom = z.atom; col = j }) → slice_index_or x i nothing ≡ slice_index_or z.row j nothing) e
            (λ i li j lj l. o j lj i li l)
        | inr n ↦ absurd (mem-nil u n)
      ];
      tests = λ k m. All-contains (TestHolds F x) q.conds k t m;
      answers = λ i l e. a i l (answer_at q i).col (width i l e) (link i e);
    };
    given = λ i li y h. of i li y h;
  }
    where
      width : (i : ℕ) → i < length q.answer → (answer_at q i).atom ≡ F → (answer_at q i).col < (atom_at q F).width
      width i l e = subst (λ z. (answer_at q i).col < (atom_at q z).width) e (q.kept.answer_in_range (answer_at q i) (Contains-get_or q.answer i (record { atom = 0; col = 0 }) l)).1

      link : (i : ℕ) → (answer_at q i).atom ≡ F → AreLinked q (at (answer_at q i).col) (answer_at q i)
      link i e = subst (λ z. AreLinked q (record { atom = z; col = (answer_at q i).col }) (answer_at q i)) e (linked-self q (answer_at q i))

      of : (i : ℕ) → i < (atom_at q F).width → (y : Value) → IsGiven q row (at i) y → slice_index_or x i nothing ≡ y
      of i li y (inl (k, lk, l, e)) = a k lk i li l ∙ e
      of i li y (inr (d, l, m)) = All-contains (GivenBy q F x) q.conds (Test d Eq y) g m refl i li l
