-- The numbers of the rows of lists, and their clauses.
use Rattle.std.proofs.Common.{◌≡◌, ℕ, suc, ◌<◌, ◌+◌, ◌-◌, ◌↔◌, inl, inr, List, [], ◌∷◌, ◌++◌, length, get_or, map, take, refl, sym, ◌∙◌, ap, subst, Contains}
use Rattle.std.specs.Ordering.{nat_cmp}
use Rattle.std.specs.List.Sorted.{IsStrictlySortedBy}
use Rattle.std.proofs.lemmas.List.{take_more, map_push, append_assoc}
use Rattle.std.proofs.lemmas.List.Elements.{Contains-append_left, Contains-push, Contains-push_cases}
use Rattle.cqa_model.specs.declared.query.RowId.{RowId}
use Rattle.cqa_model.specs.Database.{Table}
use Rattle.cqa_model.proofs.Classic.{mem-nil}
use Rattle.cnf_form.specs.declared.formula.Lit.{Lit}
use Rattle.join_access.specs.declared.witness.Witness.{Witness}
use Rattle.join_access.specs.Listing.{names_of}
use Rattle.cqa_value.proofs.Words.{all_zip_push}
use Rattle.join_access.proofs.Naming.{same-name}
use Rattle.row_lists.specs.declared.span.Span.{Span}
use Rattle.row_lists.specs.Clauses.{HasNumber, negative}
use Rattle.row_lists.specs.Lists.{IsIn, IsStored, AreStoredLists}
use Rattle.row_lists.specs.Formulas.{name_in, IsRelevantTo, HasNumberOf, AreNumbersOf}
use Rattle.row_lists.specs.Frames.{AreSlots, AreInFrame}
use Rattle.row_lists.specs.Spans.{at, HasSpan, IsInSpan, variables_of_spans}
use Rattle.row_lists.specs.Encodings.{AreListSpansTo, AreNumbersOfNames, IsListClause, AddsLists}
use Rattle.row_lists.proofs.Rows.{numbered}
use Rattle.row_lists.proofs.Order.{same_number}
use Rattle.row_lists.proofs.Words.{block-self}
use Rattle.row_lists.proofs.Spans.{based-whole, has_number, variables-sorted}
use Rattle.row_lists.proofs.Blocks.{slot_key, slot_rows, in_slots, whole_spans}
use Rattle.row_lists.proofs.Formulas.{same-variable}

-- ---- the number of a name

module _ (db : List Table) (frame slots : List ℕ) (lists : List (List RowId)) (kept : AreSlots frame slots) (within : AreInFrame frame slots lists) (stored : AreStoredLists db lists)
    (m : ℕ) (spans : List Span) (h : AreListSpansTo db frame lists (length frame) m spans) (id : RowId) (i : IsIn lists id) where
  -- the slot of the name's table
  abbrev pub slot_of : ℕ
  slot_of = get_or slots id.table 0

  is_name : name_in frame (at slot_of id.place) ≡ id
  is_name = same-name (name_in frame (at slot_of id.place)) id (within id i).1 refl

  pub name_covered : HasSpan spans slot_of id.place
  name_covered = h.every (at slot_of id.place) (within id i).0 (subst (IsStored db) (sym is_name) (stored id i)) (subst (IsRelevantTo db lists) (sym is_name) (id, i, block-self db id))

  module _ (n : ℕ) (is : (s : Span) → Contains spans s → IsInSpan s (at slot_of id.place) → n ≡ suc (s.base + (id.place - s.start))) where
    pub name_number : HasNumberOf frame (variables_of_spans spans) id n
    name_number =
        let c = name_covered in
        (at slot_of id.place, subst (λ k. HasNumber (variables_of_spans spans) k (at slot_of id.place)) (sym (is c.0 c.1 c.2)) (has_number spans (based-whole 0 m spans h.based) c.0 c.1 (at slot_of id.place) c.2), is_name)

    pub one_name_number : (k : ℕ) → HasNumberOf frame (variables_of_spans spans) id k → n ≡ k
    unfolding name_number
    one_name_number k (x, hk, e) =
        let l = in_slots db frame lists m spans h x (numbered (variables_of_spans spans) k x hk) in
        let slot : slot_of ≡ x.slot = ap (λ (z : RowId). get_or slots z.table 0) (sym e) ∙ kept.slot x.slot l in
        let same : at slot_of id.place ≡ x = same-variable (at slot_of id.place) x slot (ap (λ (z : RowId). z.place) (sym e)) in
        let mine : HasNumber (variables_of_spans spans) n x = subst (HasNumber (variables_of_spans spans) n) same name_number.1 in
        same_number (variables_of_spans spans) (variables-sorted (slot_key db frame) (slot_rows db frame) spans h.in_order (whole_spans db frame lists m spans h)) n k x mine hk

-- ---- the numbers of names, one after the other

pub numbers_none : (frame : List ℕ) (spans : List Span) → AreNumbersOfNames frame spans [] []
numbers_none frame spans n = (λ c. absurd (mem-nil n c), λ p. absurd (mem-nil p.0 p.1))

pub numbers_push : (frame : List ℕ) (spans : List Span) (names : List RowId) (numbers : List ℕ) (id : RowId) (n : ℕ) → AreNumbersOfNames frame spans names numbers → HasNumberOf frame (variables_of_spans spans) id n →
    ((k : ℕ) → HasNumberOf frame (variables_of_spans spans) id k → n ≡ k) → AreNumbersOfNames frame spans (names ++ id ∷ []) (numbers ++ n ∷ [])
numbers_push frame spans names numbers id n h is one k = (
  λ c. elim (Contains-push_cases numbers n k c) [
    | inl o ↦ let p = (h k).0 o in (p.0, Contains-append_left names (id ∷ []) p.0 p.1, p.2)
    | inr e ↦ (id, Contains-push names id, subst (HasNumberOf frame (variables_of_spans spans) id) e is)
  ],
  λ p. elim (Contains-push_cases names id p.0 p.1) [
    | inl o ↦ Contains-append_left numbers (n ∷ []) k ((h k).1 (p.0, o, p.2))
    | inr e ↦ subst (Contains (numbers ++ n ∷ [])) (one k (subst (λ z. HasNumberOf frame (variables_of_spans spans) z k) (sym e) p.2)) (Contains-push numbers n)
  ],
)

pub numbers_sorted : (frame : List ℕ) (spans : List Span) (names : List RowId) (raw sorted : List ℕ) → AreNumbersOfNames frame spans names raw → IsStrictlySortedBy nat_cmp sorted →
    ((n : ℕ) → Contains sorted n ↔ Contains raw n) → AreNumbersOf frame (variables_of_spans spans) names sorted
numbers_sorted frame spans names raw sorted h rises same = record { rises = rises; exactly = λ n. (λ c. (h n).0 ((same n).0 c), λ p. (same n).1 ((h n).1 p)) }

-- ---- clauses, list by list

lists_more : (frame : List ℕ) (spans : List Span) (lists : List (List RowId)) (old mid new : List (List Lit)) (names : List RowId) (lits : List Lit) → AddsLists frame spans lists old mid → IsListClause frame spans names lits →
    new ≡ mid ++ lits ∷ [] → AddsLists frame spans (lists ++ names ∷ []) old new
lists_more frame spans lists old mid new names lits h c e = record {
  numbers = h.numbers ++ c.0 ∷ [];
  numbered = all_zip_push (AreNumbersOf frame (variables_of_spans spans)) lists h.numbers names c.0 h.numbered c.1;
  is = e ∙ (ap (λ ls. ls ++ lits ∷ []) h.is ∙ (append_assoc old (map (map negative) h.numbers) (lits ∷ [])
      ∙ (ap (λ l. old ++ (map (map negative) h.numbers ++ l ∷ [])) c.2 ∙ ap (λ ls. old ++ ls) (sym (map_push (map negative) h.numbers c.0)))));
}

-- of the lists one more
pub lists_next : (frame : List ℕ) (spans : List Span) (ws : List Witness) (i : ℕ) (w : Witness) (old mid new : List (List Lit)) (lits : List Lit) → i < length ws → w ≡ get_or ws i w →
    AddsLists frame spans (names_of (take i ws)) old mid → IsListClause frame spans w.rows lits → new ≡ mid ++ lits ∷ [] → AddsLists frame spans (names_of (take (i + 1) ws)) old new
lists_next frame spans ws i w old mid new lits l is h c e =
    let cut : take (i + 1) ws ≡ take i ws ++ w ∷ [] = take_more ws i w l ∙ ap (λ x. take i ws ++ x ∷ []) (sym is) in
    let names : names_of (take (i + 1) ws) ≡ names_of (take i ws) ++ w.rows ∷ [] = ap names_of cut ∙ map_push (λ (x : Witness). x.rows) (take i ws) w in
    subst (λ ls. AddsLists frame spans ls old new) (sym names) (lists_more frame spans (names_of (take i ws)) old mid new w.rows lits h c e)
