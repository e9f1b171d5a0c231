-- Where the columns of a group's children are determined, a choice shows a row once: no two ends of it show one.
use Rattle.std.proofs.Common.{◌≡◌, ℕ, zero, suc, ◌<◌, inl, inr, List, [], ◌∷◌, ◌++◌, length, map, get_or, refl, ap, sym, ◌∙◌, subst, arith, Contains, append-nil}
use Rattle.std.proofs.lemmas.List.{append_assoc, ext_get_or, get_or_append_left, get_or_push, length_push}
use Rattle.cqa_value.specs.declared.value.Value.{Value}
use Rattle.cqa_value.proofs.Words.{map_agree}
use Rattle.cqa_model.specs.Database.{nothing}
use Rattle.cqa_model.specs.declared.query.Query.{Query}
use Rattle.cqa_model.proofs.Classic.{mem-head, mem-tail}
use Rattle.sql_text.specs.declared.syntax.Source.{Source}
use Rattle.sql_text.specs.declared.syntax.Source.TheVariants.{Table, Step as Earlier}
use Rattle.sql_text.specs.declared.syntax.Listed.{Listed}
use Rattle.sql_text.specs.declared.syntax.Cell.{Cell}
use Rattle.sql_text.specs.declared.syntax.Cmp.{Cmp}
use Rattle.sql_text.specs.declared.syntax.Cmp.TheVariants.{Same}
use Rattle.sql_text.specs.declared.syntax.Child.{Child}
use Rattle.sql_text.specs.declared.syntax.Body.{Body}
use Rattle.sql_text.specs.declared.syntax.Body.TheVariants.{Distinct, Grouped, Shared}
use Rattle.sql_text.specs.declared.syntax.Step.{Step}
use Rattle.sql_text.specs.Meaning.{HasRow, IsRowOfEach, cell_value, MeetsAll, Ends, Gives, with_step, StepHas}
use Rattle.sql_text.specs.Named.{width, ShowsOne, StandsBefore, IsDetermined, AreDetermined, shown, AreNamedSteps}
use Rattle.sql_steps.specs.Steps.{cell}
use Rattle.plan_sql.specs.Laws.{ChoicesEndOnce}
use Rattle.plan_sql.proofs.Made.{selects-long, groups-long, shares-long}
use Rattle.plan_sql.proofs.Naming.{width-more, width-new}

value-kept : (w : List (List Value)) (h : List Value) (d : Cell) → d.place < length w → cell_value (w ++ h ∷ []) d ≡ cell_value w d
value-kept w h d l = ap (λ x. get_or x d.column nothing) (get_or_append_left w (h ∷ []) [] d.place l)

value-last : (w : List (List Value)) (h : List Value) (place i : ℕ) → length w ≡ place → cell_value (w ++ h ∷ []) (cell place i) ≡ get_or h i nothing
value-last w h place i l = ap (λ x. get_or x i nothing) (get_or_push w h [] place l)

-- two rows that a choice goes on to, with the same values where columns are shown
module _ (w : List (List Value)) (h k : List Value) (place n : ℕ) (l : length w ≡ place) (cells : List Cell) (on : List Cmp) (met : MeetsAll (w ++ h ∷ []) on) (also : MeetsAll (w ++ k ∷ []) on)
    (told : (i : ℕ) → Contains cells (cell place i) → get_or h i nothing ≡ get_or k i nothing) (determined : (i : ℕ) → i < n → IsDetermined cells on (cell place i)) where
  same-below : (m j : ℕ) → j < m → j < n → get_or h j nothing ≡ get_or k j nothing
  same-below zero j a b = absurd (omega (arith, a))
  same-below (suc m) j a b = by (determined j b) (λ i c d. same-below m i c d)
    where
      by : IsDetermined cells on (cell place j) → ((i : ℕ) → i < m → i < n → get_or h i nothing ≡ get_or k i nothing) → get_or h j nothing ≡ get_or k j nothing
      by (inl s) earlier = told j s
      by (inr (d, s, o)) earlier =
          sym (value-last w h place j l) ∙ met (Same (cell place j) d) o ∙ alike s ∙ sym (also (Same (cell place j) d) o) ∙ value-last w k place j l
        where
          alike : StandsBefore d (cell place j) → cell_value (w ++ h ∷ []) d ≡ cell_value (w ++ k ∷ []) d
          alike (inl p) = let i : d.place < length w = omega (arith, p, l) in value-kept w h d i ∙ sym (value-kept w k d i)
          alike (inr (p, c)) =
              ap (λ x. get_or (get_or (w ++ h ∷ []) x []) d.column nothing) p ∙ value-last w h place d.column l
              ∙ earlier d.column (omega (arith, c, a)) (omega (arith, c, b))
              ∙ sym (ap (λ x. get_or (get_or (w ++ k ∷ []) x []) d.column nothing) p ∙ value-last w k place d.column l)

module _ (q : Query) (before : List Step) (T : ℕ → List (List Value)) (R : ℕ → List Value → Type 0) where
  ends-keep : (cs : List Child) (w u : List (List Value)) → Ends T R cs w u → (i : ℕ) → i < length w → get_or u i [] ≡ get_or w i []
  ends-keep [] w u e i l = ap (λ z. get_or z i []) (sym e)
  ends-keep (c ∷ cs) w u (h, r, m, more) i l = ends-keep cs (w ++ h ∷ []) u more i (omega (arith, l, length_push w h)) ∙ get_or_append_left w (h ∷ []) [] i l

  ends-once : (cells : List Cell) (cs : List Child) (place : ℕ) (w u v : List (List Value)) → AreDetermined q before cells place cs →
      ((c : Child) → Contains cs c → (h : List Value) → HasRow T R c.listed.source h → length h ≡ width q before c.listed.source) → length w ≡ place →
      Ends T R cs w u → Ends T R cs w v → map (cell_value u) cells ≡ map (cell_value v) cells → u ≡ v
  ends-once cells [] place w u v d wide l e f g = sym e ∙ f
  ends-once cells (c ∷ cs) place w u v d wide l (h, rh, mh, eu) (k, rk, mk, ev) g =
      ends-once cells cs (suc place) (w ++ k ∷ []) u v d.1 (λ b m. wide b (mem-tail b c cs m)) (length_push w k ∙ omega (arith, l))
      (subst (λ z. Ends T R cs (w ++ z ∷ []) u) same eu) ev g
    where
      end-value : (x : List (List Value)) (y : List Value) → Ends T R cs (w ++ y ∷ []) x → (i : ℕ) → cell_value x (cell place i) ≡ get_or y i nothing
      end-value x y e i = ap (λ z. get_or z i nothing) (ends-keep cs (w ++ y ∷ []) x e place (omega (arith, l, length_push w y)) ∙ get_or_push w y [] place l)

      lh : length h ≡ width q before c.listed.source
      lh = wide c (mem-head c cs) h rh

      same : h ≡ k
      same = ext_get_or nothing h k (lh ∙ sym (wide c (mem-head c cs) k rk)) (λ j s.
          same-below w h k place (width q before c.listed.source) l cells c.on mh mk
          (λ i m. sym (end-value u h eu i) ∙ map_agree (cell_value u) (cell_value v) cells g (cell place i) m ∙ end-value v k ev i) d.0 (suc j) j (omega arith) (omega (arith, s, lh)))

  rows-length : (sources : List Listed) (w : List (List Value)) → IsRowOfEach T R sources w → length w ≡ length sources
  rows-length [] [] h = refl
  rows-length [] (x ∷ w) h = absurd h
  rows-length (s ∷ ss) [] h = absurd h
  rows-length (s ∷ ss) (x ∷ w) h = ap suc (rows-length ss w h.1)

gives-long : (T : ℕ → List (List Value)) (R : ℕ → List Value → Type 0) (body : Body) (row : List Value) → Gives T R body row → length row ≡ shown body
gives-long T R (Distinct select) row g = selects-long T R select row g
gives-long T R (Grouped group) row g = groups-long T R group row g
gives-long T R (Shared group) row g = shares-long T R group row g

-- each row of a step has as many values as the step has columns
abbrev AreLong : Query → List Step → (ℕ → List Value → Type 0) → Type 0
AreLong q ss R = (m : ℕ) (h : List Value) → R m h → (m < length ss) × (length h ≡ width q ss (Earlier m))

steps-long : (q : Query) (T : ℕ → List (List Value)) (ss before : List Step) (R : ℕ → List Value → Type 0) → AreLong q before R → AreNamedSteps q before ss → AreLong q (before ++ ss) (StepHas T R (length before) ss)
steps-long q T [] before R long named m h r = subst (λ z. (m < length z) × (length h ≡ width q z (Earlier m))) (sym (append-nil before)) (long m h r)
steps-long q T (s ∷ ss) before R long named m h r =
    subst (λ z. (m < length z) × (length h ≡ width q z (Earlier m))) (append_assoc before (s ∷ []) ss)
    (steps-long q T ss (before ++ s ∷ []) next one named.1 m h (subst (λ n. StepHas T next n ss m h) (let e : suc (length before) ≡ length (before ++ s ∷ []) = omega (arith, length_push before s) in e) r))
  where
    next : ℕ → List Value → Type 0
    next = with_step R (length before) (Gives T R s.body)

    one : AreLong q (before ++ s ∷ []) next
    one i x (inl (e, g)) = ((let l : i ≡ length before = e in omega (arith, length_push before s)), gives-long T R s.body x g ∙ named.0.long ∙ sym (width-new q before s i e))
    one i x (inr (f, o)) = let a = long i x o in ((let l : i < length before = a.0 in omega (arith, length_push before s)), a.1 ∙ sym (width-more q before (s ∷ []) i a.0))

pub choices_end_once : ChoicesEndOnce
choices_end_once q before group named body tables w u v chosen eu ev g =
    ends-once q before tables R group.cells group.children (length group.sources) w u v body.2 (λ c m h r. by c.listed.source h (body.0.joined c m).1 r)
    (rows-length q before tables R group.sources w chosen.rows) eu ev g
  where
    R : ℕ → List Value → Type 0
    R = StepHas tables (λ m x. ⊥) 0 before

    by : (s : Source) (h : List Value) → ShowsOne before s → HasRow tables R s h → length h ≡ width q before s
    by (Table F) h o r = absurd o
    by (Earlier m) h o r = (steps-long q tables before [] (λ m x. ⊥) (λ m x z. absurd z) named m h r).1
