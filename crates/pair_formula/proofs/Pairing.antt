-- The numbers of rows, and the clauses of witnesses, one after the other.
use Rattle.std.proofs.Common.{◌≡◌, ℕ, ◌<◌, ◌+◌, inl, inr, List, [], ◌∷◌, ◌++◌, length, get_or, map, take, Option, Some, None, refl, sym, ◌∙◌, ap, subst}
use Rattle.std.proofs.lemmas.List.{append-nil, append_assoc, map_push, take_more}
use Rattle.std.proofs.lemmas.List.Elements.{Contains-push, Contains-push_cases, Contains-append_left}
use Rattle.cqa_model.specs.declared.query.RowId.{RowId}
use Rattle.cqa_model.proofs.Classic.{mem-nil}
use Rattle.cnf_form.specs.declared.formula.Lit.{Lit}
use Rattle.join_access.specs.declared.witness.Witness.{Witness}
use Rattle.join_access.specs.Listing.{names_of}
use Rattle.join_access.proofs.Naming.{name}
use Rattle.row_lists.specs.declared.span.Span.{Span}
use Rattle.row_lists.specs.Spans.{IsAt}
use Rattle.row_witnesses.specs.Columns.{place_at}
use Rattle.row_lists.proofs.Numbers.{place_of}
use Rattle.repair_clauses.proofs.Naming.{place_read}
use Rattle.pair_refutation.specs.declared.graph.Pair.{Pair}
use Rattle.pair_refutation.specs.Graph.{not_both}
use Rattle.pair_formula.specs.Full.{IsRowNumber, IsRowPair, AddsPair, AddsPairs}

-- a row that is in no span has no number
pub number-none : (spans : List Span) (F p : ℕ) → ((k : ℕ) → IsAt spans F p k → ⊥) → IsRowNumber spans F p None
number-none spans F p none = λ s m i. let k = place_of spans s m in none k.0 (s, k.2, i)

-- a row with no number has none
pub no-number : (spans : List Span) (F p : ℕ) (o : Option ℕ) → ((n : ℕ) → o ≡ Some n → ⊥) → IsRowNumber spans F p o → (n : ℕ) → IsRowNumber spans F p (Some n) → ⊥
no-number spans F p None none h n (s, m, i, e) = h s m i
no-number spans F p (Some k) none h n g = none k refl

-- the place that is read of a name
pub read-number : (spans : List Span) (names rows : List RowId) (F : ℕ) (o : Option ℕ) → names ≡ rows → F < length rows → IsRowNumber spans F (get_or names F (name 0 0)).place o → IsRowNumber spans F (place_at rows F) o
read-number spans names rows F o same l h = subst (λ p. IsRowNumber spans F p o) (ap (λ ns. (get_or ns F (name 0 0)).place) same ∙ place_read rows F l) h

pub pair-none-left : (spans : List Span) (names : List RowId) (old : List (List Lit)) → ((n : ℕ) → IsRowNumber spans 0 (place_at names 0) (Some n) → ⊥) → AddsPair spans names old old
pair-none-left spans names old h = inr (λ p i. h p.left i.0, refl)

pub pair-none-right : (spans : List Span) (names : List RowId) (old : List (List Lit)) → ((n : ℕ) → IsRowNumber spans 1 (place_at names 1) (Some n) → ⊥) → AddsPair spans names old old
pair-none-right spans names old h = inr (λ p i. h p.right i.1, refl)

module _ (spans : List Span) where
  pub pairs-none : (old : List (List Lit)) → AddsPairs spans [] old old
  pairs-none old = record { pairs = []; is = sym (append-nil old); each = λ p m. absurd (mem-nil p m); every = λ names m. absurd (mem-nil names m) }

  pub pairs-more : (all : List (List RowId)) (names : List RowId) (old mid new : List (List Lit)) → AddsPairs spans all old mid → AddsPair spans names mid new → AddsPairs spans (all ++ names ∷ []) old new
  pairs-more all names old mid new h (inr (none, e)) = record {
    pairs = h.pairs;
    is = e ∙ h.is;
    each = λ p m. let n = h.each p m in (n.0, Contains-append_left all (names ∷ []) n.0 n.1, n.2);
    every = λ ns m. elim (Contains-push_cases all names ns m) [
      | inl o ↦ h.every ns o
      | inr k ↦ inr (subst (λ z. (p : Pair) → IsRowPair spans z p → ⊥) k none)
    ];
  }
  pairs-more all names old mid new h (inl (p, i, e)) = record {
    pairs = h.pairs ++ p ∷ [];
    is = e ∙ (ap (λ ls. ls ++ not_both p ∷ []) h.is ∙ (append_assoc old (map not_both h.pairs) (not_both p ∷ []) ∙ ap (λ ls. old ++ ls) (sym (map_push not_both h.pairs p))));
    each = λ r m. elim (Contains-push_cases h.pairs p r m) [
      | inl o ↦ (let n = h.each r o in (n.0, Contains-append_left all (names ∷ []) n.0 n.1, n.2))
      | inr k ↦ (names, Contains-push all names, subst (IsRowPair spans names) k i)
    ];
    every = λ ns m. elim (Contains-push_cases all names ns m) [
      | inl o ↦ elim (h.every ns o) [ inl r ↦ inl (r.0, Contains-append_left h.pairs (p ∷ []) r.0 r.1, r.2) | inr n ↦ inr n ]
      | inr k ↦ inl (p, Contains-push h.pairs p, subst (λ z. IsRowPair spans z p) k i)
    ];
  }

  -- of the witnesses one more
  pub pairs-next : (ws : List Witness) (i : ℕ) (w : Witness) (old mid new : List (List Lit)) → i < length ws → w ≡ get_or ws i w →
      AddsPairs spans (names_of (take i ws)) old mid → AddsPair spans w.rows mid new → AddsPairs spans (names_of (take (i + 1) ws)) old new
  pairs-next ws i w old mid new l is h s =
      let cut : take (i + 1) ws ≡ take i ws ++ w ∷ [] = take_more ws i w l ∙ ap (λ x. take i ws ++ x ∷ []) (sym is) in
      let names : names_of (take (i + 1) ws) ≡ names_of (take i ws) ++ w.rows ∷ [] = ap names_of cut ∙ map_push (λ (x : Witness). x.rows) (take i ws) w in
      subst (λ all. AddsPairs spans all old new) (sym names) (pairs-more (names_of (take i ws)) w.rows old mid new h s)
