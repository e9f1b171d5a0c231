-- The answers of a union are lists: whether a row is certain is decided, and a candidate is one of some part.
use Rattle.std.proofs.Common.{◌≡◌, ◌↔◌, ◌⊎◌, inl, inr, List, [], ◌∷◌, ◌++◌, length, map, flat_map, refl, ap, sym, subst, arith, Contains}
use Rattle.std.specs.List.{AllZip}
use Rattle.std.specs.List.Sorted.{IsStrictlySortedBy}
use Rattle.std.proofs.lemmas.List.{length-map}
use native.Mathlib.Decide.{dec_lt}
use Rattle.cqa_value.specs.declared.value.Value.{Value}
use Rattle.cqa_value.specs.Values.{row_cmp, row_cmp_total}
use Rattle.cqa_value.proofs.Words.{Contains-flat_map}
use Rattle.cqa_model.specs.declared.query.Query.{Query}
use Rattle.cqa_model.specs.declared.query.RowId.{RowId}
use Rattle.cqa_model.specs.Database.{Table, stored, keys_of}
use Rattle.cqa_model.specs.Repairs.{IsRepair}
use Rattle.cqa_model.specs.Query.{IsWitness}
use Rattle.cqa_model.specs.Certain.{IsCandidate}
use Rattle.cqa_model.specs.Unions.{HoldsSome, IsCertainIn, IsPossibleIn, IsCandidateIn}
use Rattle.cqa_model.proofs.BlockOrder.{row_exact}
use Rattle.cqa_model.proofs.Classic.{dec_some}
use Rattle.cqa_model.proofs.EachRepair.{each_repair}
use Rattle.cqa_model.proofs.Existence.{some_repair}
use Rattle.cqa_model.proofs.Values.{dec_by}
use Rattle.cqa_model.proofs.Witnesses.{dec_witness}
use Rattle.existence_law.proofs.Answering.{candidate_list}
use Rattle.join_access.specs.declared.witness.Witness.{Witness}
use Rattle.join_access.specs.declared.witness.TheConstants.{MOST_WITNESSES}
use Rattle.join_access.specs.Listing.{names_of}
use Rattle.join_access.proofs.Naming.{zip-left}
use Rattle.join_witness.proofs.Listing.{all_names}
use Rattle.join_witness.proofs.Sorting.{decided_list, first_with}
use Rattle.part_search.specs.Parts.{AllFit, AreNamesIn, HasTooManyIn}
use Rattle.part_search.proofs.Parts.{not-over-lists}
use Rattle.cqa_model.proofs.Zips.{zip-choose}
use Rattle.union_ask.specs.Laws.{PossibleIsCandidateIn}
use Rattle.existence_law.specs.UnionAnswers.{UnionAnswersExist, UnionFirstOverExists, UnionRowsAreDecided}

-- a row is certain for a union, or a repair holds no witness of it for any part
pub certain_or_rejected_in : (db : List Table) (parts : List Query) (row : List Value) → IsCertainIn db parts row ⊎ ((kept : List (List (List Value))) × IsRepair db kept × (HoldsSome parts kept row → ⊥))
certain_or_rejected_in db parts row =
    each_repair (keys_of db) (stored db) (λ kept. HoldsSome parts kept row) (λ kept. dec_some (λ q. (w : List (List Value)) × IsWitness q kept row w) (λ q. dec_witness q kept row) parts)

pub dec_certain_in : (db : List Table) (parts : List Query) (row : List Value) → Dec (IsCertainIn db parts row)
dec_certain_in db parts row = elim (certain_or_rejected_in db parts row) [ inl c ↦ yes c | inr r ↦ no (λ c. r.2 (c r.0 r.1)) ]

-- ---- the witnesses of all parts

pub names_in_parts : (db : List Table) (row : List Value) (parts : List Query) → (all : List (List RowId)) × AreNamesIn parts db row all
names_in_parts db row [] = ([], refl)
names_in_parts db row (q ∷ parts) = let first = all_names db q row in let rest = names_in_parts db row parts in (first.0 ++ rest.0, (first.0, rest.0, first.1, rest.1, refl))

abbrev as_witnesses : List (List RowId) → List Witness
as_witnesses all = map (λ rows. record { rows = rows }) all

same_names : (all : List (List RowId)) → names_of (as_witnesses all) ≡ all
same_names [] = refl
same_names (names ∷ all) = ap (λ ns. names ∷ ns) (same_names all)

pub dec_too_many_in : (db : List Table) (parts : List Query) (row : List Value) → Dec (HasTooManyIn parts db row)
dec_too_many_in db parts row = go (names_in_parts db row parts)
  where
    go : (all : List (List RowId)) × AreNamesIn parts db row all → Dec (HasTooManyIn parts db row)
    go (all, h) = elim (dec_lt MOST_WITNESSES (length all)) [
      | yes l ↦ yes (all, h, l)
      | no f ↦ no (let size : length (as_witnesses all) ≡ length all = length-map all (λ rows. record { rows = rows }) in
          not-over-lists db row parts (as_witnesses all) (subst (AreNamesIn parts db row) (sym (same_names all)) h) (omega (arith, size, f)))
    ]

pub union_rows_are_decided : UnionRowsAreDecided
union_rows_are_decided = record {
  certain = λ db parts row. elim (dec_certain_in db parts row) [ yes c ↦ inl c | no f ↦ inr f ];
  count = λ db parts row. elim (dec_too_many_in db parts row) [ yes t ↦ inl t | no f ↦ inr f ];
}

-- ---- lists of rows

module _ (db : List Table) (parts : List Query) (fits : AllFit parts db) where
  abbrev AreCandidates : Query → List (List Value) → Type 0
  AreCandidates q rows = IsStrictlySortedBy row_cmp rows × ((row : List Value) → Contains rows row ↔ IsCandidate db q row)

  lists : (lists : List (List (List Value))) × AllZip AreCandidates parts lists
  lists = zip-choose AreCandidates parts (λ q m. candidate_list db q (fits q m))

  candidate_given : (row : List Value) → IsCandidateIn db parts row → Contains (flat_map (λ rows. rows) lists.0) row
  candidate_given row (q, m, c) = let l = zip-left AreCandidates parts lists.0 lists.1 q m in Contains-flat_map (λ rows. rows) lists.0 l.0 row l.1 ((l.2.1 row).1 c)

  dec_candidate_in : (row : List Value) → Dec (IsCandidateIn db parts row)
  dec_candidate_in row = dec_some (λ q. IsCandidate db q row) (λ q. dec_witness q (stored db) row) parts

  pub union_candidates : (rows : List (List Value)) × (IsStrictlySortedBy row_cmp rows × ((row : List Value) → Contains rows row ↔ IsCandidateIn db parts row))
  union_candidates = decided_list row_cmp row_cmp_total (IsCandidateIn db parts) dec_candidate_in (λ x y p r e. row_exact x y e) (flat_map (λ rows. rows) lists.0) candidate_given

  module _ (same : PossibleIsCandidateIn) where
    -- a certain row is possible, so it is a candidate
    pub certain_given : (row : List Value) → IsCertainIn db parts row → IsCandidateIn db parts row
    certain_given row certain = let r = some_repair (keys_of db) (stored db) in (same db parts row fits).0 (r.0, r.1, certain r.0 r.1)

    certain_rows : (rows : List (List Value)) × (IsStrictlySortedBy row_cmp rows × ((row : List Value) → Contains rows row ↔ IsCertainIn db parts row))
    certain_rows = decided_list row_cmp row_cmp_total (IsCertainIn db parts) (dec_certain_in db parts) (λ x y p r e. row_exact x y e)
        (flat_map (λ rows. rows) lists.0) (λ row c. candidate_given row (certain_given row c))

    possible_rows : (rows : List (List Value)) × (IsStrictlySortedBy row_cmp rows × ((row : List Value) → Contains rows row ↔ IsPossibleIn db parts row))
    possible_rows = decided_list row_cmp row_cmp_total (IsPossibleIn db parts) (λ row. dec_by (same db parts row fits).1 (same db parts row fits).0 (dec_candidate_in row))
        (λ x y p r e. row_exact x y e) (flat_map (λ rows. rows) lists.0) (λ row p. candidate_given row ((same db parts row fits).0 p))

pub union_answers_exist : PossibleIsCandidateIn → UnionAnswersExist
union_answers_exist same = record {
  certain = λ db parts fits. let l = certain_rows db parts fits same in (l.0, record { ascending = l.1.0; exactly = l.1.1 });
  possible = λ db parts fits. let l = possible_rows db parts fits same in (l.0, record { ascending = l.1.0; exactly = l.1.1 });
}

pub union_first_over_exists : UnionFirstOverExists
union_first_over_exists db parts fits =
    let l = union_candidates db parts fits in
    elim (first_with row_cmp row_cmp_total (λ row. HasTooManyIn parts db row) (dec_too_many_in db parts) l.0 l.1.0) [
      | inl none ↦ inl (λ row c. none row ((l.1.1 row).1 c))
      | inr f ↦ inr (f.0, ((l.1.1 f.0).0 f.1.0, f.1.1, λ other c less. f.1.2 other ((l.1.1 other).1 c) less))
    ]
