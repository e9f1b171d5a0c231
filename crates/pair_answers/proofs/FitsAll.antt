-- Where the query has no answer columns and no tests, and an atom no two columns of one variable, each row of it fits.
use Rattle.std.proofs.Common.{◌≡◌, ℕ, ◌<◌, List, ap, arith, slice_index_or}
use native.Mathlib.Decide.{ℕ_discrete}
use Rattle.std.proofs.lemmas.List.Elements.{All-weaker}
use Rattle.cqa_value.specs.declared.value.Value.{Value}
use Rattle.cqa_model.specs.declared.query.Cond.{Cond}
use Rattle.cqa_model.specs.declared.query.Cond.TheVariants.{Join, Test}
use Rattle.cqa_model.specs.declared.query.Query.{Query}
use Rattle.cqa_model.specs.Database.{nothing}
use Rattle.cqa_model.specs.Query.{atom_at}
use Rattle.cqa_model.specs.Variables.{AreLinked}
use Rattle.cqa_model.specs.Plan.{TestHolds}
use Rattle.weak_pairs.specs.Pairs.{FitsAlone}
use Rattle.pair_answers.specs.Fitting.{GivenBy}
use Rattle.pair_answers.specs.Plain.{IsJoin, IsPlain}
use Rattle.pair_answers.proofs.Parts.{from_parts}

module _ (q : Query) (F : ℕ) (plain : IsPlain q F) (row x : List Value) where
  holds : (c : Cond) → IsJoin c → TestHolds F x c
  holds (Join c d) h = tt
  holds (Test d op y) h = absurd h

  gives : (c : Cond) → IsJoin c → GivenBy q F x c
  gives (Join c d) h = tt
  gives (Test d op y) h = absurd h

  own : (i j : ℕ) → i < (atom_at q F).width → j < (atom_at q F).width → AreLinked q (record { atom = F; col = i }) (record { atom = F; col = j }) → Dec (i ≡ j) → slice_index_or x i nothing ≡ slice_index_or x j nothing
  own i j li lj l (yes e) = ap (λ k. slice_index_or x k nothing) e
  own i j li lj l (no n) = absurd (plain.apart i j li lj n l)

  pub plain-fits : FitsAlone q row F x
  plain-fits = from_parts q row F x
      (λ j lj i li l. own i j li lj l (ℕ_discrete i j))
      (All-weaker IsJoin (TestHolds F x) holds q.conds plain.joins)
      (λ k lk i li l. let none = plain.none in absurd (omega (arith, lk, none)))
      (All-weaker IsJoin (GivenBy q F x) gives q.conds plain.joins)
