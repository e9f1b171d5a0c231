-- A query is a union of one part.
use Rattle.std.proofs.Common.{◌≡◌, ℕ, ◌<◌, inl, inr, false, List, [], ◌∷◌, ◌++◌, length, refl, sym, ◌∙◌, ap, subst, arith, Contains}
use Rattle.std.proofs.lemmas.List.{append-nil}
use Rattle.cqa_value.specs.declared.value.Value.{Value}
use Rattle.std.proofs.lemmas.List.Elements.{Contains-get_or}
use Rattle.cqa_value.proofs.Words.{mem-head, mem-nil, mem-cases, Contains-map}
use Rattle.cqa_model.specs.declared.query.Atom.{Atom}
use Rattle.cqa_model.specs.declared.query.Query.{Query}
use Rattle.cqa_model.specs.declared.query.RowId.{RowId}
use Rattle.cqa_model.specs.Database.{Table}
use Rattle.cqa_model.specs.Query.{atom_at, FitsDatabase, IsWitness}
use Rattle.cqa_model.specs.Certain.{IsCertain, IsCandidate, IsPossible}
use Rattle.cqa_model.specs.Unions.{AreParts, IsCertainIn, IsCandidateIn, IsPossibleIn}
use Rattle.cnf_form.specs.declared.formula.Cnf.{Cnf}
use Rattle.cnf_form.specs.declared.log.Log.{Log}
use Rattle.join_access.specs.Listing.{AreAllNames, HasTooMany}
use Rattle.row_answers.specs.declared.side.Side.{Side}
use Rattle.row_answers.specs.declared.side.Side.TheVariants.{Certain, Disputed}
use Rattle.row_answers.specs.Sides.{IsAnswerOf}
use Rattle.part_search.specs.declared.searched.Stop.TheVariants as stop
use Rattle.part_search.specs.declared.searched.Searched.{Searched}
use Rattle.part_search.specs.declared.searched.Searched.TheVariants.{All, Stopped}
use Rattle.part_search.specs.Parts.{AreNamesIn, HasTooManyIn, IsFrameFor}
use Rattle.part_search.specs.Judging.{IsSpentOver}
use Rattle.row_lists.specs.Formulas.{IsFrame}
use Rattle.row_lists.specs.declared.formula.Encoded.{Encoded}
use Rattle.repair_clauses.specs.Frames.{tables_of}
use Rattle.repair_clauses.proofs.Bridge.{row_encoded}
use Rattle.union_ask.specs.Searching.{IsAnswerIn, IsSearchedOver, NoneBeforeIn}
use Rattle.union_ask.specs.QuerySearching.{IsSearched, IsSpentFor, NoneBefore}

-- of one query, what is said of some part is said of it
part_is : (q p : Query) → Contains (q ∷ []) p → p ≡ q
part_is q p m = elim (mem-cases p q [] m) [ inl e ↦ sym e | inr n ↦ absurd (mem-nil p n) ]

module _ (q : Query) (db : List Table) where
  pub one-part : FitsDatabase q db → AreParts (q ∷ []) db
  one-part fits = record {
    some = omega arith;
    few = omega arith;
    fits = λ p m. subst (λ x. FitsDatabase x db) (sym (part_is q p m)) fits;
    long = λ p r mp mr. ap (λ (x : Query). length x.answer) (part_is q p mp ∙ sym (part_is q r mr));
  }

  -- the query's tables are a frame for it
  pub one-frame : (tables : List ℕ) → IsFrame db tables → tables ≡ tables_of q → IsFrameFor db (q ∷ []) tables
  one-frame tables is e = record {
    is = is;
    all = λ t s. subst (λ ts. Contains ts t) (sym e) (of_table t s.0 (part_is q s.0 s.1) s.2);
  }
    where
      of_table : (t : ℕ) (p : Query) → p ≡ q → ((F : ℕ) × (F < length p.atoms) × ((atom_at p F).table ≡ t)) → Contains (tables_of q) t
      of_table t p same s = subst (λ (x : Query). Contains (tables_of x) t) same
          (subst (Contains (tables_of p)) s.2 (Contains-map (λ (a : Atom). a.table) p.atoms (atom_at p s.0) (Contains-get_or p.atoms s.0 (record { table = 0; width = 0; key = []; strict = false }) s.1)))

  module _ (row : List Value) where
    names-in : (all : List (List RowId)) → AreAllNames q db row all → AreNamesIn (q ∷ []) db row all
    names-in all h = (all, [], h, refl, sym (append-nil all))

    all-names : (all : List (List RowId)) → AreNamesIn (q ∷ []) db row all → AreAllNames q db row all
    all-names all (first, rest, h, none, e) = subst (AreAllNames q db row) (sym (e ∙ (ap (λ xs. first ++ xs) none ∙ append-nil first))) h

    certain-one : IsCertainIn db (q ∷ []) row → IsCertain db q row
    certain-one h kept r = let s = h kept r in subst (λ (p : Query). (w : List (List Value)) × IsWitness p kept row w) (part_is q s.0 s.1) s.2

    in-certain : IsCertain db q row → IsCertainIn db (q ∷ []) row
    in-certain h kept r = (q, mem-head q [], h kept r)

    possible-one : IsPossibleIn db (q ∷ []) row → IsPossible db q row
    possible-one s = (s.0, s.1, subst (λ (p : Query). (w : List (List Value)) × IsWitness p s.0 row w) (part_is q s.2.0 s.2.1) s.2.2)

    in-possible : IsPossible db q row → IsPossibleIn db (q ∷ []) row
    in-possible s = (s.0, s.1, (q, mem-head q [], s.2))

    candidate-one : IsCandidateIn db (q ∷ []) row → IsCandidate db q row
    candidate-one s = subst (λ (p : Query). IsCandidate db p row) (part_is q s.0 s.1) s.2

    in-candidate : IsCandidate db q row → IsCandidateIn db (q ∷ []) row
    in-candidate s = (q, mem-head q [], s)

    over-one : HasTooManyIn (q ∷ []) db row → HasTooMany q db row
    over-one t = (t.0, all-names t.0 t.1, t.2)

    in-over : HasTooMany q db row → HasTooManyIn (q ∷ []) db row
    in-over t = (t.0, names-in t.0 t.1, t.2)

    within-one : (HasTooManyIn (q ∷ []) db row → ⊥) → HasTooMany q db row → ⊥
    within-one h t = h (in-over t)

    -- the formula over the query's tables is the query's
    spent-one : FitsDatabase q db → (budget : ℕ) (cnf : Cnf) (log : Log) → IsSpentOver db (tables_of q) (q ∷ []) budget row cnf log → IsSpentFor q db budget row cnf log
    spent-one fits budget cnf log h =
        let made : Encoded = record { cnf = cnf; rows = h.rows } in
        let lists = h.formula.lists in
        record {
          candidate = candidate-one h.candidate;
          rows = h.rows;
          formula = row_encoded q db fits row lists (all-names lists h.formula.are_lists) made h.formula.encoded;
          spent = h.spent;
        }

  none-before-one : (row : List Value) → NoneBeforeIn db (q ∷ []) row → NoneBefore q db row
  none-before-one row h other c less over = h other (in-candidate other c) less (in-over other over)

  answer-one : (side : Side) (answers : List (List Value)) → IsAnswerIn db (q ∷ []) side answers → IsAnswerOf db q side answers
  answer-one Certain answers h = record { ascending = h.ascending; exactly = λ row. (λ m. certain-one row ((h.exactly row).0 m), λ k. (h.exactly row).1 (in-certain row k)) }
  answer-one Disputed answers h = record {
    ascending = h.ascending;
    exactly = λ row. (
      λ m. let d = (h.exactly row).0 m in (possible-one row d.0, λ k. d.1 (in-certain row k)),
      λ d. (h.exactly row).1 (in-possible row d.0, λ k. d.1 (certain-one row k)),
    );
  }

  -- what its search as a union comes to is what the query's comes to
  searched-one : FitsDatabase q db → (side : Side) (budget : ℕ) (found : Searched) → IsSearchedOver db (tables_of q) (q ∷ []) side budget found → IsSearched q db side budget found
  searched-one fits side budget (All answers) h = (answer-one side answers h.0, λ row c over. h.1 row (in-candidate row c) (in-over row over))
  searched-one fits side budget (Stopped (stop.Over row)) h = (candidate-one row h.0, over-one row h.1, none-before-one row h.2)
  searched-one fits side budget (Stopped (stop.Spent row cnf log)) h = (spent-one row fits budget cnf log h.0, within-one row h.1, none-before-one row h.2)

  -- the same where parts, a database and a frame are those of the query
  pub searched-parts : FitsDatabase q db → (parts : List Query) (own : List Table) (tables : List ℕ) → parts ≡ q ∷ [] → own ≡ db → tables ≡ tables_of q → (side : Side) (budget : ℕ) (found : Searched) →
      IsSearchedOver own tables parts side budget found → IsSearched q db side budget found
  searched-parts fits parts own tables one same frame side budget found h =
      let in_db = subst (λ (t : List Table). IsSearchedOver t tables parts side budget found) same h in
      let in_part = subst (λ (ps : List Query). IsSearchedOver db tables ps side budget found) one in_db in
      searched-one fits side budget found (subst (λ (ts : List ℕ). IsSearchedOver db ts (q ∷ []) side budget found) frame in_part)
