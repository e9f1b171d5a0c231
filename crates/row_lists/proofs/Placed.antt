-- The places of the rows of a table in lists.
use Rattle.std.proofs.Common.{◌≡◌, ℕ, ◌<◌, ◌+◌, ◌↔◌, ◌⊎◌, inl, inr, List, [], ◌∷◌, ◌++◌, length, length-append, get_or, take, refl, sym, ◌∙◌, ap, subst, arith, Contains}
use Rattle.std.proofs.Math.Logic.{∥∥₁_elim}
use Rattle.std.proofs.Props.{props}
use Rattle.std.specs.List.Sorted.{IsStrictlySortedBy}
use Rattle.std.specs.Ordering.{nat_cmp}
use Rattle.std.proofs.lemmas.List.{take_more, map_push, get_or_append_left, get_or_push}
use Rattle.std.proofs.lemmas.List.Elements.{Contains-append_left, Contains-push, Contains-push_cases}
use native.Mathlib.Decide.{ℕ_discrete}
use Rattle.cqa_value.proofs.Words.{cases_next}
use Rattle.cqa_model.proofs.Classic.{mem-nil, mem-eq, dec_some}
use Rattle.cqa_model.proofs.Values.{dec_by}
use Rattle.cqa_model.specs.declared.query.RowId.{RowId}
use Rattle.join_access.specs.declared.witness.Witness.{Witness}
use Rattle.join_access.specs.Listing.{names_of}
use Rattle.join_access.proofs.Naming.{same-name}
use Rattle.row_lists.specs.Lists.{name, IsIn}
use Rattle.row_lists.specs.Formulas.{table_at}
use Rattle.row_lists.specs.Frames.{AreTablePlaces, AreColumnsOfFrame}
use Rattle.row_lists.proofs.Framing.{later}
use Rattle.row_lists.proofs.Words.{dec_in}

-- ---- one list, name by name

-- the places are the old ones, and those of the table's rows among the names
abbrev pub AddsPlaces : List ℕ → List RowId → ℕ → List ℕ → Type 0
AddsPlaces old names table new = (p : ℕ) → Contains new p ↔ (Contains old p ⊎ Contains names (name table p))

module _ (old : List ℕ) (names : List RowId) (id : RowId) (table : ℕ) (now : List ℕ) (h : AddsPlaces old names table now) where
  pub places_put : id.table ≡ table → AddsPlaces old (names ++ id ∷ []) table (now ++ id.place ∷ [])
  places_put e p = (
    λ m. elim (Contains-push_cases now id.place p m) [
      | inl n ↦ elim ((h p).0 n) [ inl o ↦ inl o | inr l ↦ inr (Contains-append_left names (id ∷ []) (name table p) l) ]
      | inr same ↦ inr (subst (Contains (names ++ id ∷ [])) (same-name id (name table p) e same) (Contains-push names id))
    ],
    λ s. elim s [
      | inl o ↦ Contains-append_left now (id.place ∷ []) p ((h p).1 (inl o))
      | inr l ↦ elim (Contains-push_cases names id (name table p) l) [
        | inl n ↦ Contains-append_left now (id.place ∷ []) p ((h p).1 (inr n))
        | inr same ↦ subst (Contains (now ++ id.place ∷ [])) (ap (λ (z : RowId). z.place) same) (Contains-push now id.place)
      ]
    ],
  )

  pub places_left : (id.table ≡ table → ⊥) → AddsPlaces old (names ++ id ∷ []) table now
  places_left other p = (
    λ m. elim ((h p).0 m) [ inl o ↦ inl o | inr l ↦ inr (Contains-append_left names (id ∷ []) (name table p) l) ],
    λ s. elim s [
      | inl o ↦ (h p).1 (inl o)
      | inr l ↦ elim (Contains-push_cases names id (name table p) l) [
        | inl n ↦ (h p).1 (inr n)
        | inr same ↦ absurd (other (ap (λ (z : RowId). z.table) same))
      ]
    ],
  )

-- ---- one list more

-- exactly the places of the table's rows in lists, in any order
abbrev pub ArePlacesIn : List (List RowId) → ℕ → List ℕ → Type 0
ArePlacesIn lists table places = (p : ℕ) → Contains places p ↔ IsIn lists (name table p)

pub in_none : (table : ℕ) → ArePlacesIn [] table []
in_none table p = (λ m. absurd (mem-nil p m), λ i. absurd (mem-nil i.0 i.1))

pub in_more : (lists : List (List RowId)) (names : List RowId) (table : ℕ) (old new : List ℕ) → ArePlacesIn lists table old → AddsPlaces old names table new → ArePlacesIn (lists ++ names ∷ []) table new
in_more lists names table old new h a p = (
  λ m. elim ((a p).0 m) [
    | inl o ↦ let i = (h p).0 o in (i.0, Contains-append_left lists (names ∷ []) i.0 i.1, i.2)
    | inr n ↦ (names, Contains-push lists names, n)
  ],
  λ i. elim (Contains-push_cases lists names i.0 i.1) [
    | inl l ↦ (a p).1 (inl ((h p).1 (i.0, l, i.2)))
    | inr e ↦ (a p).1 (inr (subst (λ ns. Contains ns (name table p)) (sym e) i.2))
  ],
)

pub in_next : (ws : List Witness) (i : ℕ) (w : Witness) (table : ℕ) (old new : List ℕ) → i < length ws → w ≡ get_or ws i w → ArePlacesIn (names_of (take i ws)) table old → AddsPlaces old w.rows table new →
    ArePlacesIn (names_of (take (i + 1) ws)) table new
in_next ws i w table old new l is h a =
    let cut : take (i + 1) ws ≡ take i ws ++ w ∷ [] = take_more ws i w l ∙ ap (λ x. take i ws ++ x ∷ []) (sym is) in
    let names : names_of (take (i + 1) ws) ≡ names_of (take i ws) ++ w.rows ∷ [] = ap names_of cut ∙ map_push (λ (x : Witness). x.rows) (take i ws) w in
    subst (λ ls. ArePlacesIn ls table new) (sym names) (in_more (names_of (take i ws)) w.rows table old new h a)

pub in_order : (lists : List (List RowId)) (table : ℕ) (raw sorted : List ℕ) → ArePlacesIn lists table raw → IsStrictlySortedBy nat_cmp sorted → ((n : ℕ) → Contains sorted n ↔ Contains raw n) → AreTablePlaces lists table sorted
in_order lists table raw sorted h rises same = record {
  in_order = later sorted rises;
  exactly = λ p. (λ m. (h p).0 ((same p).0 m), λ i. (same p).1 ((h p).1 i));
}

-- ---- all columns

pub frame_columns_more : (frame : List ℕ) (lists : List (List RowId)) (columns : List (List ℕ)) (places : List ℕ) (n : ℕ) → length columns ≡ n → AreColumnsOfFrame frame lists columns →
    AreTablePlaces lists (table_at frame n) places → AreColumnsOfFrame frame lists (columns ++ places ∷ [])
frame_columns_more frame lists columns places n size h c s l = go (cases_next s n (let long = length-append columns (places ∷ []) in omega (arith, l, size, long)))
  where
    go : (s < n) ⊎ (s ≡ n) → AreTablePlaces lists (table_at frame s) (get_or (columns ++ places ∷ []) s [])
    go (inl lt) = subst (AreTablePlaces lists (table_at frame s)) (sym (get_or_append_left columns (places ∷ []) [] s (omega (arith, lt, size)))) (h s (omega (arith, lt, size)))
    go (inr e) = subst (AreTablePlaces lists (table_at frame s)) (sym (get_or_push columns places [] s (size ∙ sym e))) (subst (λ k. AreTablePlaces lists (table_at frame k) places) (sym e) c)

-- what is decided holds where it is known to hold
settled : {A B : Type 0} → Dec A → (B → A) → ∥ B ∥₁ → A
settled (yes a) f h = a
settled (no n) f h = absurd (∥∥₁_elim h (λ x y. absurd x) (λ b. n (f b)))

dec_place : (places : List ℕ) (p : ℕ) → Dec (Contains places p)
dec_place places p = dec_by (λ m. mem-eq m.0 p places m.2 m.1) (λ m. (p, m, refl)) (dec_some (λ q. q ≡ p) (λ q. ℕ_discrete q p) places)

-- a column is known without its truncation: all of it can be decided
pub untold_column : (frame : List ℕ) (lists : List (List RowId)) (columns : List (List ℕ)) → ∥ AreColumnsOfFrame frame lists columns ∥₁ → (s : ℕ) → s < length columns → AreTablePlaces lists (table_at frame s) (get_or columns s [])
untold_column frame lists columns h s l =
    let table = table_at frame s in
    let places = get_or columns s [] in
    record {
      in_order = λ i j lt lj. ∥∥₁_elim h (hlevel props) (λ c. (c s l).in_order i j lt lj);
      exactly = λ p. (λ m. settled (dec_in lists (name table p)) (λ c. ((c s l).exactly p).0 m) h, λ i. settled (dec_place places p) (λ c. ((c s l).exactly p).1 i) h);
    }
