-- The definitions are not empty: a query of one atom with its plan, and schemas of two columns.
use Rattle.std.proofs.Common.{◌≡◌, false, ℕ, zero, suc, ◌<◌, refl, sym, [], ◌∷◌, slice_index_or, arith}
use Rattle.cqa_model.specs.declared.schema.Column.{Column}
use Rattle.cqa_model.specs.declared.query.Atom.{Atom}
use Rattle.cqa_model.specs.declared.query.Query.{Query}
use Rattle.cqa_model.specs.Shape.{AreDistinct, column_at, IsSchema, nth_atom, IsAtom, IsQuery}
use Rattle.cqa_model.specs.Plan.{IsPlanOf}
use Rattle.cqa_model.proofs.Classic.{mem-nil}

abbrev one_atom : Atom
one_atom = record { table = 0; width = 2; key = 0 ∷ []; strict = false }

one_kept : IsQuery (one_atom ∷ []) [] []
one_kept = record {
  size = (omega arith, omega arith);
  each = λ F l. atom F l;
  apart = λ F G lF lG e. omega arith;
  few_answers = omega arith;
  conds_in_range = λ k m. absurd (mem-nil k m);
  answer_in_range = λ c m. absurd (mem-nil c m);
}
  where
    place : (k d : ℕ) → k < 1 → slice_index_or (0 ∷ []) k d < 2
    place zero d l = omega arith
    place (suc k) d l = absurd (omega arith)

    atom : (F : ℕ) → F < 1 → IsAtom (nth_atom (one_atom ∷ []) F)
    atom zero l = record {
      width = (omega arith, omega arith);
      some_key = omega arith;
      key_in_range = place;
      key_apart = λ i j li lj e. omega arith;
    }
    atom (suc F) l = absurd (omega arith)

abbrev one_query : Query
one_query = record { atoms = one_atom ∷ []; conds = []; answer = []; kept = one_kept }

one_plan : IsPlanOf one_query (0 ∷ [])
one_plan = (omega arith, (λ G a. a.2 (let l : G < 1 = a.0 in omega arith)), (λ G h l. absurd (omega arith)), (λ F h. h.1 (let l : F < 1 = h.0 in omega arith)))

-- schemas of two columns, with a key of the first column, and of both in the other order
module _ (a b : Column) (apart : a.name ≡ b.name → ⊥) where
  names : (i j : ℕ) → i < 2 → j < 2 → (column_at (a ∷ b ∷ []) i).name ≡ (column_at (a ∷ b ∷ []) j).name → i ≡ j
  names zero zero li lj e = refl
  names zero (suc zero) li lj e = absurd (apart e)
  names (suc zero) zero li lj e = absurd (apart (sym e))
  names (suc zero) (suc zero) li lj e = refl
  names (suc (suc i)) j li lj e = absurd (omega arith)
  names i (suc (suc j)) li lj e = absurd (omega arith)

  pub first_is_key : IsSchema (a ∷ b ∷ []) (0 ∷ [])
  first_is_key = record {
    size = (omega arith, omega arith);
    names_differ = names;
    some_key = omega arith;
    key_in_range = in_range;
    key_apart = λ i j li lj e. omega arith;
  }
    where
      in_range : (k d : ℕ) → k < 1 → slice_index_or (0 ∷ []) k d < 2
      in_range zero d l = omega arith
      in_range (suc k) d l = absurd (omega arith)

  pub both_are_key : IsSchema (a ∷ b ∷ []) (1 ∷ 0 ∷ [])
  both_are_key = record {
    size = (omega arith, omega arith);
    names_differ = names;
    some_key = omega arith;
    key_in_range = in_range;
    key_apart = key_apart;
  }
    where
      in_range : (k d : ℕ) → k < 2 → slice_index_or (1 ∷ 0 ∷ []) k d < 2
      in_range zero d l = omega arith
      in_range (suc zero) d l = omega arith
      in_range (suc (suc k)) d l = absurd (omega arith)

      key_apart : AreDistinct (1 ∷ 0 ∷ [])
      key_apart zero zero li lj e = refl
      key_apart zero (suc zero) li lj e = absurd (omega arith)
      key_apart (suc zero) zero li lj e = absurd (omega arith)
      key_apart (suc zero) (suc zero) li lj e = refl
      key_apart (suc (suc i)) j li lj e = absurd (omega arith)
      key_apart i (suc (suc j)) li lj e = absurd (omega arith)
