-- The candidates of a union are decided one after the other, ascending.
use Rattle.std.proofs.Common.{◌≡◌, ℕ, List, [], ◌∷◌, length, sym, ap, ◌∙◌, subst}
use Rattle.std.proofs.lemmas.List.{length-map}
use Rattle.cqa_value.specs.declared.value.Value.{Value}
use Rattle.cqa_model.specs.declared.query.Query.{Query}
use Rattle.cqa_model.specs.Database.{Table, stored, keys_of}
use Rattle.cqa_model.specs.Query.{value}
use Rattle.cqa_model.specs.Unions.{AreParts, IsCertainIn, IsCandidateIn, IsUnionAnswer}
use Rattle.cqa_model.proofs.Existence.{some_repair}
use Rattle.row_answers.specs.declared.side.Side.{Side}
use Rattle.row_answers.specs.declared.side.Side.TheVariants.{Certain, Disputed}
use Rattle.row_answers.proofs.Sieving.{sifted-in, sifted-out, sifted-sorted}
use Rattle.part_search.specs.declared.searched.Stop.{Stop}
use Rattle.part_search.specs.declared.searched.Stop.TheVariants as stop
use Rattle.part_search.specs.declared.searched.Searched.{Searched}
use Rattle.part_search.specs.declared.searched.Searched.TheVariants.{All, Stopped}
use Rattle.part_search.proofs.Sifted as sifted
use Rattle.part_search.specs.Judging.{IsSpentOver}
use Rattle.part_search.specs.Parts.{AllFit, HasTooManyIn}
use Rattle.part_search.specs.Lookups.{HasLengthOf}
use Rattle.union_ask.specs.Candidates.{AreCandidatesIn, AreTablesIn, IsPossibleUnionAnswer}
use Rattle.union_ask.specs.Searching.{IsAnswerIn, IsFirstOverIn, IsOfIn, IsSearchedIn, IsSearchedOver, IsStopAtOver, IsStopOver, NoneBeforeIn, SiftsIn, SiftsAllIn}
use Rattle.union_ask.proofs.Deciding.{spent-in}
use Rattle.union_ask.proofs.Unions.{possible_is_candidate_in}

module _ (db : List Table) (parts : List Query) (side : Side) where
  -- the rows so far are decided, and these are left
  abbrev pub AreDecided : List (List Value) → List (List Value) → List (List Value) → Type 0
  AreDecided rows answers left = sifted.AreDecided (IsOfIn db parts side) (HasTooManyIn parts db) rows answers left

  pub decided-none : (rows answers : List (List Value)) → answers ≡ [] → AreDecided rows answers rows
  decided-none rows answers e = sifted.decided-none (IsOfIn db parts side) (HasTooManyIn parts db) rows answers e

  module _ (rows : List (List Value)) (c : AreCandidatesIn db parts rows) (old : List (List Value)) (row : List Value) (later : List (List Value)) (h : AreDecided rows old (row ∷ later)) where
    pub next-candidate : IsCandidateIn db parts row
    next-candidate = sifted.next-candidate (IsOfIn db parts side) (HasTooManyIn parts db) (IsCandidateIn db parts) rows c.ascending c.exactly old row later h

    none_before : NoneBeforeIn db parts row
    none_before = sifted.none-over (IsOfIn db parts side) (HasTooManyIn parts db) (IsCandidateIn db parts) rows c.ascending c.exactly old row later h

    pub stop_is : (frame : List ℕ) (budget : ℕ) (why : Stop) → IsStopAtOver db frame parts budget row why → IsStopOver db frame parts budget why
    stop_is frame budget (stop.Over r) s = subst (IsFirstOverIn db parts) (sym s.0) (next-candidate, s.1, none_before)
    stop_is frame budget (stop.Spent r cnf log) s = subst (λ x. IsSpentOver db frame parts budget x cnf log × (HasTooManyIn parts db x → ⊥) × NoneBeforeIn db parts x) (sym s.0) (s.1, s.2, none_before)

    pub decided-more : (new : List (List Value)) → SiftsIn db parts side row old new → AreDecided rows new later
    decided-more new s = sifted.decided-more (IsOfIn db parts side) (HasTooManyIn parts db) (IsCandidateIn db parts) rows c.ascending c.exactly old row later h new s.0 s.1

  pub decided-all : (rows answers left : List (List Value)) → AreDecided rows answers left → left ≡ [] → SiftsAllIn db parts side rows answers
  decided-all rows answers left h e = record {
    sifted = sifted.all-sifted (IsOfIn db parts side) (HasTooManyIn parts db) rows answers left h e;
    within = sifted.all-within (IsOfIn db parts side) (HasTooManyIn parts db) rows answers left h e;
  }

module _ (db : List Table) (parts : List Query) where
  -- a certain row is a candidate
  module _ (fits : AllFit parts db) where
    certain-candidate : (row : List Value) → IsCertainIn db parts row → IsCandidateIn db parts row
    certain-candidate row certain = let r = some_repair (keys_of db) (stored db) in (possible_is_candidate_in db parts row fits).0 (r.0, r.1, certain r.0 r.1)

    -- so those of the candidates that are of a side are its rows
    module _ (rows answers : List (List Value)) (c : AreCandidatesIn db parts rows) where
      pub answer-of : (side : Side) → SiftsAllIn db parts side rows answers → IsAnswerIn db parts side answers
      answer-of Certain s = record {
        ascending = sifted-sorted (IsOfIn db parts Certain) rows answers s.sifted c.ascending;
        exactly = λ row. (
          λ m. (sifted-in (IsOfIn db parts Certain) rows answers s.sifted row m).1,
          λ k. sifted-out (IsOfIn db parts Certain) rows answers s.sifted row ((c.exactly row).1 (certain-candidate row k)) k,
        );
      }
      answer-of Disputed s = record {
        ascending = sifted-sorted (IsOfIn db parts Disputed) rows answers s.sifted c.ascending;
        exactly = λ row. (
          λ m. let h = sifted-in (IsOfIn db parts Disputed) rows answers s.sifted row m in ((possible_is_candidate_in db parts row fits).1 ((c.exactly row).0 h.0), h.1),
          λ k. sifted-out (IsOfIn db parts Disputed) rows answers s.sifted row ((c.exactly row).1 ((possible_is_candidate_in db parts row fits).0 k.0)) k.1,
        );
      }

    -- and the candidates are the possible rows
    pub possible-of : (rows : List (List Value)) → AreCandidatesIn db parts rows → IsPossibleUnionAnswer db parts rows
    possible-of rows c = record {
      ascending = c.ascending;
      exactly = λ row. (λ m. (possible_is_candidate_in db parts row fits).1 ((c.exactly row).0 m), λ p. (c.exactly row).1 ((possible_is_candidate_in db parts row fits).0 p));
    }

  -- what a search over the union's tables comes to
  pub searched-in : (tables : List ℕ) → AreTablesIn parts tables → (budget : ℕ) (found : Searched) → IsSearchedOver db tables parts Certain budget found → IsSearchedIn db parts budget found
  searched-in tables are budget (All answers) h = h
  searched-in tables are budget (Stopped (stop.Over row)) h = h
  searched-in tables are budget (Stopped (stop.Spent row cnf log)) h = (spent-in db parts tables are budget row cnf log h.0, h.1, h.2)

  -- a candidate is as long as the answers of the parts
  pub candidate-long : AreParts parts db → (row : List Value) → IsCandidateIn db parts row → HasLengthOf parts row
  candidate-long h row (q, mq, (w, hw)) p mp = ap length (sym hw.answers) ∙ (length-map q.answer (value w) ∙ h.long q p mq mp)
