-- The answer columns of a query that fits a database.
use Rattle.std.proofs.Common.{◌≡◌, ℕ, ◌+◌, ◌<◌, List, length, map, get_or, slice_get, Option, Some, sym, ap, ◌∙◌, subst, arith}
use Rattle.std.proofs.lemmas.List.{length-map, get_or-map, get_or_default}
use Rattle.std.proofs.lemmas.Option.{slice_get-get_or}
use Rattle.cqa_value.specs.declared.value.Kind.{Kind}
use Rattle.cqa_value.specs.declared.value.Kind.TheVariants.{Int}
use Rattle.cqa_value.specs.declared.value.Value.{Value}
use Rattle.cqa_value.specs.Values.{kind_of}
use Rattle.cqa_model.specs.declared.query.Atom.{Atom}
use Rattle.cqa_model.specs.declared.query.ColRef.{ColRef}
use Rattle.cqa_model.specs.declared.query.Query.{Query}
use Rattle.refusals.specs.declared.refusal.Refusal.{Refusal}
use Rattle.refusals.specs.declared.refusal.Refusal.TheVariants.{TypeMismatch}
use Rattle.refusals.specs.declared.refusal.Place.TheVariants.{Cell}
use Rattle.cqa_model.specs.Database.{Table}
use Rattle.cqa_model.specs.Shape.{IsInRange, column_at, nth_atom}
use Rattle.cqa_model.specs.Query.{kind_at, FitsDatabase}
use Rattle.refusals.specs.Kinds.{same_kind, cell_fault}
use Rattle.query_resolve.specs.Names.{columns_at}
use Rattle.query_resolve.specs.Checks.{fault_unless}
use Rattle.query_resolve.proofs.Queries.{kinds_stored, wide}

-- an answer column that was read, of a query that fits the database
module _ (db : List Table) (q : Query) (fits : FitsDatabase q db) (at : ℕ) (inside : at < length q.answer) (seen : List ColRef) (d : ColRef) (same : seen ≡ q.answer) (atoms : List Atom) (of : atoms ≡ q.atoms) where
  stands : get_or q.answer at (get_or seen at d) ≡ get_or seen at d
  stands = ap (λ l. get_or l at (get_or seen at d)) (sym same) ∙ get_or_default seen at (get_or seen at d) d (subst (λ l. at < length l) (sym same) inside)

  ranged : IsInRange q.atoms (get_or seen at d)
  ranged = q.kept.answer_in_range (get_or seen at d) (at, inside, stands)

  pub answer-atom : (get_or seen at d).atom < length atoms
  answer-atom = subst (λ l. (get_or seen at d).atom < length l) (sym of) ranged.0

  pub answer-table : (nth_atom atoms (get_or seen at d).atom).table < length db
  answer-table = subst (λ l. (nth_atom l (get_or seen at d).atom).table < length db) (sym of) (fits.there (get_or seen at d).atom ranged.0)

  pub answer-column : (get_or seen at d).col < length (columns_at db (nth_atom atoms (get_or seen at d).atom).table)
  answer-column =
      let width = fits.width (get_or seen at d).atom ranged.0 in
      let long = wide db (nth_atom q.atoms (get_or seen at d).atom).table (fits.there (get_or seen at d).atom ranged.0) in
      subst (λ l. (get_or seen at d).col < length (columns_at db (nth_atom l (get_or seen at d).atom).table)) (sym of) (omega (arith, ranged.1, width, long))

  pub answer-kind : (kind : Kind) → kind ≡ (column_at (columns_at db (nth_atom atoms (get_or seen at d).atom).table) (get_or seen at d).col).kind → slice_get (map (kind_at q db) q.answer) at ≡ Some kind
  answer-kind kind is =
      let long = length-map q.answer (kind_at q db) in
      slice_get-get_or (map (kind_at q db) q.answer) at Int (omega (arith, long, inside))
      ∙ ap (λ k. Some k) (get_or-map (kind_at q db) q.answer at (get_or seen at d) Int inside ∙ ap (kind_at q db) stands
      ∙ kinds_stored db (nth_atom q.atoms (get_or seen at d).atom).table (get_or seen at d).col (fits.there (get_or seen at d).atom ranged.0)
      ∙ ap (λ l. (column_at (columns_at db (nth_atom l (get_or seen at d).atom).table) (get_or seen at d).col).kind) (sym of) ∙ sym is)

-- the kinds of a value and of its column, compared
pub mismatch : (o : Option Refusal) (a kind : Kind) (value : Value) (column at : ℕ) → o ≡ fault_unless (same_kind a kind) (TypeMismatch (Cell 1 column)) → a ≡ kind_of value → column ≡ at + 1 → o ≡ cell_fault 1 (at + 1) kind value
mismatch o a kind value column at e k c = e ∙ ap (λ z. fault_unless (same_kind z kind) (TypeMismatch (Cell 1 column))) k ∙ ap (λ n. fault_unless (same_kind (kind_of value) kind) (TypeMismatch (Cell 1 n))) c
