-- The steps of parts, joined to what stands before them: their rows have the values of an assignment that goes on from what
-- is known.
use Rattle.std.proofs.Common.{◌≡◌, ℕ, suc, ◌<◌, ◌+◌, inl, inr, true, ◌&&◌, ◌||◌, List, [], ◌∷◌, ◌++◌, length, map, get_or, refl, ap, sym, ◌∙◌, subst, arith, Contains, Option, Some, None}
use Rattle.std.specs.List.{slice_index}
use Rattle.std.proofs.lemmas.Bool.{and_parts, or_cases}
use Rattle.std.proofs.lemmas.List.{get_or-map, get_or_default, length-map, ext_get_or, get_or_append_left, get_or_push, length_push}
use Rattle.std.proofs.lemmas.List.Elements.{Contains-get_or, Contains-append_cases}
use Rattle.cqa_value.specs.declared.value.Value.{Value}
use Rattle.cqa_value.proofs.Words.{map_alike}
use Rattle.cqa_model.specs.Database.{nothing}
use Rattle.cqa_model.proofs.Classic.{mem-head, mem-tail, mem-nil, mem-cases}
use Rattle.sql_text.specs.declared.syntax.Cell.{Cell}
use Rattle.sql_text.specs.declared.syntax.Child.{Child}
use Rattle.sql_text.specs.Meaning.{IsRowOfEach, MeetsAll, Ends, AreLed}
use Rattle.sql_steps.specs.declared.fitting.Known.{Known}
use Rattle.sql_steps.specs.declared.fitting.Fitting.{Fitting}
use Rattle.sql_steps.specs.declared.part.Part.{Part}
use Rattle.sql_steps.specs.Variables.{has, covers, all_below}
use Rattle.sql_steps.specs.Steps.{cell, find, see_by, see, see_all, see_part, children_of, known_of, on_of, are_single}
use Rattle.sql_steps.proofs.Membership.{has-into, has-from, columns-into, columns-from}
use Rattle.sql_steps.proofs.Seeing.{IsKnown, IsRight, Continues, meets-left, meets-right, meets-both, see_all-known, see_all-new, see_all-into, see_all-from}

pub covers-from : (vs us : List ℕ) → covers vs us ≡ true → (v : ℕ) → Contains us v → Contains vs v
covers-from vs [] h v m = absurd (mem-nil v m)
covers-from vs (u ∷ us) h v m = let b = and_parts (has vs u) (covers vs us) h in elim (mem-cases v u us m) [
  | inl e ↦ subst (λ z. Contains vs z) e (has-from vs u b.0)
  | inr n ↦ covers-from vs us b.1 v n
]

pub covers-into : (vs us : List ℕ) → ((v : ℕ) → Contains us v → Contains vs v) → covers vs us ≡ true
covers-into vs [] h = refl
covers-into vs (u ∷ us) h =
    let a : has vs u ≡ true = has-into vs u (h u (mem-head u us)) in
    let b : covers vs us ≡ true = covers-into vs us (λ v m. h v (mem-tail v u us m)) in
    ap (λ z. z && covers vs us) a ∙ b

-- what is known stands before a place
abbrev pub IsBelow : ℕ → List Known → Type 0
IsBelow place known = (k : Known) → Contains known k → k.cell.place < place

pub below-seen : (n place : ℕ) → place < n → (vs is : List ℕ) (s : Fitting) → IsBelow n s.known → IsBelow n (see_all vs place is s).known
below-seen n place l vs [] s h = h
below-seen n place l vs (i ∷ is) s h = below-seen n place l vs is (see s (slice_index vs i) (cell place i)) (one (find s.known (slice_index vs i)))
  where
    one : (found : Option Cell) → IsBelow n (see_by s (slice_index vs i) (cell place i) found).known
    one None k m = elim (Contains-append_cases s.known (record { variable = slice_index vs i; cell = cell place i } ∷ []) k m) [
      | inl o ↦ h k o
      | inr o ↦ elim (mem-cases k (record { variable = slice_index vs i; cell = cell place i }) [] o) [
        | inl e ↦ subst (λ (z : Known). z.cell.place < n) e l
        | inr z ↦ absurd (mem-nil k z)
      ]
    ]
    one (Some c) k m = h k m

-- one part
module _ (place : ℕ) (part : Part) (known : List Known) where
  abbrev start : Fitting
  start = record { known = known; all = [] }

  pub part-known : (v : ℕ) → IsKnown known v → IsKnown (see_part place part known).known v
  part-known v h = see_all-known [] part.columns place (all_below (length part.columns)) start v h

  part-new : (v : ℕ) → Contains part.columns v → IsKnown (see_part place part known).known v
  part-new v (j, l, e) =
      subst (λ z. IsKnown (see_part place part known).known z) (get_or_default part.columns j 0 v l ∙ e)
      (see_all-new [] part.columns place (all_below (length part.columns)) start j (columns-into (length part.columns) j l))

  pub part-below : IsBelow place known → IsBelow (suc place) (see_part place part known).known
  part-below h = below-seen (suc place) place (omega arith) part.columns (all_below (length part.columns)) start (λ k m. let l : k.cell.place < place = h k m in omega arith)

  none : (w : List (List Value)) → MeetsAll w []
  none w k m = absurd (mem-nil k m)

  part-into : (w : List (List Value)) (d : ℕ → Value) → IsRight w d known → get_or w place [] ≡ map d part.columns →
      IsRight w d (see_part place part known).known × MeetsAll w (see_part place part known).all
  part-into w d r h =
      see_all-into w d part.columns place (all_below (length part.columns)) start r (none w)
      (λ i m. ap (λ z. get_or z i nothing) h ∙ get_or-map d part.columns i 0 nothing (columns-from (length part.columns) i m))

  -- its row has the values of an assignment
  record Sees (w : List (List Value)) (e d : ℕ → Value) : Type 0 where
    right : IsRight w d (see_part place part known).known
    kept : (u : ℕ) → IsKnown known u → d u ≡ e u
    far : (u : ℕ) → (Contains part.columns u → ⊥) → d u ≡ e u
    shape : get_or w place [] ≡ map d part.columns

  part-from : (w : List (List Value)) (e : ℕ → Value) → IsRight w e known → MeetsAll w (see_part place part known).all → length (get_or w place []) ≡ length part.columns → (d : ℕ → Value) × Sees w e d
  part-from w e r m long = make (see_all-from w part.columns place (all_below (length part.columns)) start e r m)
    where
      make : (d : ℕ → Value) × Continues w e part.columns place (all_below (length part.columns)) start d → (d : ℕ → Value) × Sees w e d
      make (d, c) = (
        d,
        record {
          right = c.0;
          kept = λ u h. c.2 u (inl h);
          far = λ u f. c.2 u (inr (λ i n g. f (subst (λ z. Contains part.columns z) g (Contains-get_or part.columns i 0 (columns-from (length part.columns) i n)))));
          shape = ext_get_or nothing (get_or w place []) (map d part.columns) (long ∙ sym (length-map part.columns d)) (λ j l.
              let small : j < length part.columns = omega (arith, l, long) in
              c.1 j (columns-into (length part.columns) j small) ∙ sym (get_or-map d part.columns j 0 nothing small));
        },
      )

pub known-all : (parts : List Part) (place : ℕ) (known : List Known) (v : ℕ) → IsKnown known v → IsKnown (known_of place parts known) v
known-all [] place known v h = h
known-all (p ∷ ps) place known v h = known-all ps (suc place) (see_part place p known).known v (part-known place p known v h)

pub known-new : (parts : List Part) (place : ℕ) (known : List Known) (p : Part) (v : ℕ) → Contains parts p → Contains p.columns v → IsKnown (known_of place parts known) v
known-new [] place known p v m n = absurd (mem-nil p m)
known-new (o ∷ ps) place known p v m n = elim (mem-cases p o ps m) [
  | inl e ↦ known-all ps (suc place) (see_part place o known).known v (part-new place o known v (subst (λ (z : Part). Contains z.columns v) (sym e) n))
  | inr k ↦ known-new ps (suc place) (see_part place o known).known p v k n
]

-- a row more leaves what is known as it is
grown : (w : List (List Value)) (h : List Value) (e : ℕ → Value) (place : ℕ) (known : List Known) → length w ≡ place → IsBelow place known → IsRight w e known → IsRight (w ++ h ∷ []) e known
grown w h e place known l b r k m = ap (λ z. get_or z k.cell.column nothing) (get_or_append_left w (h ∷ []) [] k.cell.place (let s : k.cell.place < place = b k m in omega (arith, l))) ∙ r k m

module _ (T : ℕ → List (List Value)) (R : ℕ → List Value → Type 0) where
  -- a part's step has rows as long as its contexts
  abbrev pub AreWide : List Part → Type 0
  AreWide parts = (p : Part) → Contains parts p → (h : List Value) → R p.step h → length h ≡ length p.columns

  -- each of these parts holds for an assignment
  abbrev pub Hold : List Part → (ℕ → Value) → Type 0
  Hold parts d = (p : Part) → Contains parts p → R p.step (map d p.columns)

  -- no two contexts with the same key, where the key is in a context
  abbrev pub IsSingle : Part → Type 0
  IsSingle p = ((v : ℕ) → Contains p.keys v → Contains p.columns v) → (d e : ℕ → Value) → R p.step (map d p.columns) → R p.step (map e p.columns) → ((v : ℕ) → Contains p.keys v → d v ≡ e v) → map d p.columns ≡ map e p.columns

  -- an assignment goes on from another one over these parts, which hold for it
  pub record Joins (parts : List Part) (u : List (List Value)) (known end : List Known) (e d : ℕ → Value) : Type 0 where
    pub right : IsRight u d end
    pub kept : (v : ℕ) → IsKnown known v → d v ≡ e v
    pub far : (v : ℕ) → ((p : Part) → Contains parts p → Contains p.columns v → ⊥) → d v ≡ e v
    pub hold : Hold parts d

  abbrev Joined : List Part → List (List Value) → List Known → List Known → (ℕ → Value) → Type 0
  Joined parts u known end e = (d : ℕ → Value) × Joins parts u known end e d

  more : (p : Part) (ps : List Part) (place : ℕ) (known : List Known) (w u : List (List Value)) (e : ℕ → Value) → R p.step (get_or w place []) → (s : (d : ℕ → Value) × Sees place p known w e d) →
      Joined ps u (see_part place p known).known (known_of (suc place) ps (see_part place p known).known) s.0 → Joined (p ∷ ps) u known (known_of place (p ∷ ps) known) e
  more p ps place known w u e h s (d, j) = (
    d,
    record {
      right = j.right;
      kept = λ v k. j.kept v (part-known place p known v k) ∙ s.1.kept v k;
      far = λ v f. j.far v (λ o m n. f o (mem-tail o p ps m) n) ∙ s.1.far v (f p (mem-head p ps));
      hold = λ o m. elim (mem-cases o p ps m) [
        | inl g ↦ subst (λ (z : Part). R z.step (map d z.columns)) g
            (subst (R p.step) (s.1.shape ∙ map_alike s.0 d p.columns (λ v n. sym (j.kept v (part-new place p known v n)))) h)
        | inr n ↦ j.hold o n
      ];
    },
  )

  stop : (u : List (List Value)) (known : List Known) (e : ℕ → Value) → IsRight u e known → Joined [] u known known e
  stop u known e r = (e, record { right = r; kept = λ v h. refl; far = λ v h. refl; hold = λ p m. absurd (mem-nil p m) })

  -- where a choice ends in u
  pub ends-from : (parts : List Part) (place : ℕ) (known : List Known) (w u : List (List Value)) (e : ℕ → Value) → length w ≡ place → IsBelow place known → AreWide parts → IsRight w e known →
      Ends T R (children_of place parts known) w u → (d : ℕ → Value) × Joins parts u known (known_of place parts known) e d
  ends-from [] place known w u e l b wide r g = stop u known e (subst (λ z. IsRight z e known) g r)
  ends-from (p ∷ ps) place known w u e l b wide r (h, rh, met, rest) =
      more p ps place known (w ++ h ∷ []) u e (subst (R p.step) (sym last) rh) s
      (ends-from ps (suc place) (see_part place p known).known (w ++ h ∷ []) u s.0 (length_push w h ∙ omega (arith, l)) (part-below place p known b) (λ o m. wide o (mem-tail o p ps m)) s.1.right rest)
    where
      last : get_or (w ++ h ∷ []) place [] ≡ h
      last = get_or_push w h [] place l

      s : (d : ℕ → Value) × Sees place p known (w ++ h ∷ []) e d
      s = part-from place p known (w ++ h ∷ []) e (grown w h e place known l b r) met (ap length last ∙ wide p (mem-head p ps) h rh)

  -- one row from each part, for which all comparisons hold
  pub rows-from : (parts : List Part) (place : ℕ) (known : List Known) (u hs : List (List Value)) (e : ℕ → Value) → ((j : ℕ) → get_or u (place + j) [] ≡ get_or hs j []) → AreWide parts → IsRight u e known →
      IsRowOfEach T R (map (λ (c : Child). c.listed) (children_of place parts known)) hs → MeetsAll u (on_of (children_of place parts known)) → (d : ℕ → Value) × Joins parts u known (known_of place parts known) e d × (hs ≡ map (λ (p : Part). map d p.columns) parts)
  unfolding stop more
  rows-from [] place known u [] e at wide r rows met = (e, (stop u known e r).1, refl)
  rows-from [] place known u (h ∷ hs) e at wide r rows met = absurd rows
  rows-from (p ∷ ps) place known u [] e at wide r rows met = absurd rows
  rows-from (p ∷ ps) place known u (h ∷ hs) e at wide r rows met =
      let rest =
      rows-from ps (suc place) (see_part place p known).known u hs s.0 (λ j. ap (λ n. get_or u n []) (let l : suc place + j ≡ place + suc j = omega arith in l) ∙ at (suc j))
      (λ o m. wide o (mem-tail o p ps m)) s.1.right rows.1 (meets-right u (see_part place p known).all (on_of (children_of (suc place) ps (see_part place p known).known)) met) in
      let own : h ≡ map rest.0 p.columns = sym first ∙ s.1.shape ∙ map_alike s.0 rest.0 p.columns (λ v n. sym (rest.1.kept v (part-new place p known v n))) in
      let others : hs ≡ map (λ (o : Part). map rest.0 o.columns) ps = rest.2 in (
        rest.0,
        (more p ps place known u u e (subst (R p.step) (sym first) rows.0) s (rest.0, rest.1)).1,
        ap (λ z. z ∷ hs) own ∙ ap (λ z. map rest.0 p.columns ∷ z) others,
      )
    where
      first : get_or u place [] ≡ h
      first = ap (λ n. get_or u n []) (let l : place ≡ place + 0 = omega arith in l) ∙ at 0

      s : (d : ℕ → Value) × Sees place p known u e d
      s = part-from place p known u e r (meets-left u (see_part place p known).all (on_of (children_of (suc place) ps (see_part place p known).known)) met) (ap length first ∙ wide p (mem-head p ps) h rows.0)

  pub rows-into : (parts : List Part) (place : ℕ) (known : List Known) (u : List (List Value)) (d : ℕ → Value) → ((j : ℕ) → get_or u (place + j) [] ≡ get_or (map (λ (p : Part). map d p.columns) parts) j []) →
      IsRight u d known → Hold parts d →
      IsRowOfEach T R (map (λ (c : Child). c.listed) (children_of place parts known)) (map (λ (p : Part). map d p.columns) parts)
      × MeetsAll u (on_of (children_of place parts known)) × IsRight u d (known_of place parts known)
  rows-into [] place known u d at r hold = (tt, (λ k m. absurd (mem-nil k m)), r)
  rows-into (p ∷ ps) place known u d at r hold =
      let one = part-into place p known u d r (ap (λ n. get_or u n []) (let l : place ≡ place + 0 = omega arith in l) ∙ at 0) in
      let rest = rows-into ps (suc place) (see_part place p known).known u d (λ j. ap (λ n. get_or u n []) (let l : suc place + j ≡ place + suc j = omega arith in l) ∙ at (suc j)) one.0 (λ o m. hold o (mem-tail o p ps m)) in
      ((hold p (mem-head p ps), rest.0), meets-both u (see_part place p known).all (on_of (children_of (suc place) ps (see_part place p known).known)) one.1 rest.1, rest.2)

  -- where parts hold for an assignment, a choice that has its values ends in some rows with its values
  pub ends-into : (parts : List Part) (place : ℕ) (known : List Known) (w : List (List Value)) (d : ℕ → Value) → length w ≡ place → IsBelow place known → IsRight w d known → Hold parts d →
      (u : List (List Value)) × Ends T R (children_of place parts known) w u × IsRight u d (known_of place parts known)
  ends-into [] place known w d l b r hold = (w, refl, r)
  ends-into (p ∷ ps) place known w d l b r hold =
      let h : List Value = map d p.columns in
      let one = part-into place p known (w ++ h ∷ []) d (grown w h d place known l b r) (get_or_push w h [] place l) in
      let rest = ends-into ps (suc place) (see_part place p known).known (w ++ h ∷ []) d (length_push w h ∙ omega (arith, l)) (part-below place p known b) one.0 (λ o m. hold o (mem-tail o p ps m)) in
      (rest.0, (h, hold p (mem-head p ps), one.1, rest.1), rest.2)

  -- a choice that is led on ends somewhere
  pub led-ends : (children : List Child) (w : List (List Value)) → AreLed T R children w → (u : List (List Value)) × Ends T R children w u
  led-ends [] w h = (w, refl)
  led-ends (c ∷ cs) w h = let r = led-ends cs (w ++ h.0.0 ∷ []) (h.1 h.0.0 h.0.1 h.0.2) in (r.0, (h.0.0, h.0.1, h.0.2, r.1))

  -- where parts hold for an assignment and are single, a choice that has its values is led on, and ends in its values alone
  abbrev Leads : List Part → ℕ → List Known → List (List Value) → (ℕ → Value) → Type 0
  Leads parts place known w d =
      AreLed T R (children_of place parts known) w × ((u : List (List Value)) → Ends T R (children_of place parts known) w u → IsRight u d (known_of place parts known))

  -- parts over these variables, whose keys are in their contexts as far as they are of them
  pub record AreOver (ks : List ℕ) (parts : List Part) : Type 0 where
    pub columns : (p : Part) → Contains parts p → (v : ℕ) → Contains p.columns v → Contains ks v
    pub keys : (p : Part) → Contains parts p → (v : ℕ) → Contains p.keys v → Contains ks v → Contains p.columns v

  pub led-into : (parts : List Part) (place : ℕ) (known : List Known) (w : List (List Value)) (d : ℕ → Value) (vs ks : List ℕ) → AreOver ks parts → ((v : ℕ) → Contains vs v → Contains ks v) →
      length w ≡ place → IsBelow place known → AreWide parts → ((p : Part) → Contains parts p → p.single ≡ true → IsSingle p) → ((v : ℕ) → Contains vs v → IsKnown known v) → are_single vs parts ≡ true → IsRight w d known → Hold parts d → Leads parts place known w d
  led-into [] place known w d vs ks over sub l b wide single have t r hold = (tt, λ u g. subst (λ z. IsRight z d known) g r)
  led-into (p ∷ ps) place known w d vs ks over sub l b wide single have t r hold =
      let next : (h : List Value) → h ≡ map d p.columns → Leads ps (suc place) (see_part place p known).known (w ++ h ∷ []) d = λ h e.
      led-into ps (suc place) (see_part place p known).known (w ++ h ∷ []) d (vs ++ p.columns) ks
      (record { columns = λ o m. over.columns o (mem-tail o p ps m); keys = λ o m. over.keys o (mem-tail o p ps m) })
      (λ v m. elim (Contains-append_cases vs p.columns v m) [ inl n ↦ sub v n | inr n ↦ over.columns p (mem-head p ps) v n ]) (length_push w h ∙ omega (arith, l)) (part-below place p known b)
      (λ o m. wide o (mem-tail o p ps m)) (λ o m. single o (mem-tail o p ps m))
      (λ v m. elim (Contains-append_cases vs p.columns v m) [ inl n ↦ part-known place p known v (have v n) | inr n ↦ part-new place p known v n ]) t2.1
      (part-into place p known (w ++ h ∷ []) d (grown w h d place known l b r) (get_or_push w h [] place l ∙ e)).0 (λ o m. hold o (mem-tail o p ps m)) in (
        ((map d p.columns, hold p (mem-head p ps), met), λ h rh m. (next h (unique h rh m)).0),
        λ u g. (next g.0 (unique g.0 g.1 g.2)).1 u g.3,
      )
    where
      t2 : (((covers vs p.columns || (p.single && covers vs p.keys)) ≡ true) × (are_single (vs ++ p.columns) ps ≡ true))
      t2 = and_parts (covers vs p.columns || (p.single && covers vs p.keys)) (are_single (vs ++ p.columns) ps) t

      met : MeetsAll (w ++ map d p.columns ∷ []) (see_part place p known).all
      met = (part-into place p known (w ++ map d p.columns ∷ []) d (grown w (map d p.columns) d place known l b r) (get_or_push w (map d p.columns) [] place l)).1

      unique : (h : List Value) → R p.step h → MeetsAll (w ++ h ∷ []) (see_part place p known).all → h ≡ map d p.columns
      unique h rh m = go (part-from place p known (w ++ h ∷ []) d (grown w h d place known l b r) m (ap length (get_or_push w h [] place l) ∙ wide p (mem-head p ps) h rh))
        where
          go : (c : ℕ → Value) × Sees place p known (w ++ h ∷ []) d c → h ≡ map d p.columns
          go (c, s) = shape ∙ elim (or_cases (covers vs p.columns) (p.single && covers vs p.keys) t2.0) [
            | inl k ↦ map_alike c d p.columns (λ v n. s.kept v (have v (covers-from vs p.columns k v n)))
            | inr k ↦
                let b2 = and_parts p.single (covers vs p.keys) k in
                single p (mem-head p ps) b2.0 (λ v n. over.keys p (mem-head p ps) v n (sub v (covers-from vs p.keys b2.1 v n))) c d (subst (R p.step) shape rh) (hold p (mem-head p ps)) (λ v n. s.kept v (have v (covers-from vs p.keys b2.1 v n)))
          ]
            where
              shape : h ≡ map c p.columns
              shape = sym (get_or_push w h [] place l) ∙ s.shape
