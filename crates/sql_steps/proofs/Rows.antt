-- A row of an atom against what is known: it suits an assignment that goes on from it.
use Rattle.std.proofs.Common.{◌≡◌, ℕ, ◌<◌, inl, inr, List, [], ◌∷◌, length, get_or, ap, sym, ◌∙◌, subst, Contains}
use Rattle.std.specs.List.{slice_index}
use Rattle.cqa_value.specs.declared.value.Value.{Value}
use Rattle.cqa_model.specs.declared.query.Cond.{Cond}
use Rattle.cqa_model.specs.declared.query.Cond.TheVariants.{Join, Test}
use Rattle.cqa_model.specs.declared.query.Query.{Query}
use Rattle.cqa_model.specs.Database.{nothing}
use Rattle.cqa_model.specs.Query.{OpHolds, atom_at, atom_key}
use Rattle.cqa_model.specs.Repairs.{SharesKey}
use Rattle.cqa_model.specs.Plan.{TestHolds}
use Rattle.cqa_model.proofs.Classic.{mem-head, mem-nil, mem-cases}
use Rattle.sql_steps.specs.declared.fitting.Known.{Known}
use Rattle.sql_steps.specs.declared.fitting.Fitting.{Fitting}
use Rattle.sql_text.specs.Meaning.{MeetsAll}
use Rattle.sql_steps.specs.Variables.{variables_of}
use Rattle.sql_steps.specs.Steps.{columns_of, others_of, keyed, fitted, see_all, tests_at}
use Rattle.sql_steps.proofs.Membership.{dec_has, without-into, without-from, columns-into, columns-from}
use Rattle.sql_steps.proofs.Seeing.{IsKnown, IsRight, Continues, find-cases, meets-both, see_all-known, see_all-new, see_all-into}
use Rattle.sql_steps.proofs.Suiting.{variable, variable-at, Suits, TestedOn, tests-into, fit_on-into, fit_on-from}
use Rattle.sql_steps.proofs.Atoms.{variables-from, variables-into, key-width}

contains-known : (ks : List Known) (k : Known) → Contains ks k → IsKnown ks k.variable
contains-known [] k m = absurd (mem-nil k m)
contains-known (l ∷ ks) k m = elim (find-cases l ks k.variable) [
  | inl p ↦ (l.cell, p.1)
  | inr p ↦ elim (mem-cases k l ks m) [ inl e ↦ absurd (p.0 (ap (λ (z : Known). z.variable) e)) | inr n ↦ let r = contains-known ks k n in (r.0, p.1 ∙ r.1) ]
]

module _ (q : Query) (F : ℕ) (lF : F < length q.atoms) (start : List Known) where
  abbrev vs : List ℕ
  vs = variables_of q F

  abbrev here : Fitting
  here = record { known = start; all = [] }

  abbrev then : Fitting
  then = record { known = (keyed q F start).known; all = [] }

  other : (i : ℕ) → Contains (others_of q F) i → i < (atom_at q F).width
  other i m = columns-from (atom_at q F).width i (without-from (columns_of q F) (atom_key q F) i m).0

  other-into : (i : ℕ) → i < (atom_at q F).width → (Contains (atom_key q F) i → ⊥) → Contains (others_of q F) i
  other-into i l n = without-into (columns_of q F) (atom_key q F) i (columns-into (atom_at q F).width i l) n

  none : (w : List (List Value)) → MeetsAll w []
  none w k m = absurd (mem-nil k m)

  -- what is known stays known, and the variables of the row are known
  pub start-known : (v : ℕ) → IsKnown start v → IsKnown (fitted q F start).known v
  start-known v h = see_all-known [] vs 0 (others_of q F) then v (see_all-known [] vs 0 (atom_key q F) here v h)

  pub key-known : (p : ℕ) → Contains (atom_key q F) p → IsKnown (keyed q F start).known (slice_index vs p)
  key-known p m = see_all-new [] vs 0 (atom_key q F) here p m

  pub row-known : (v : ℕ) → Contains vs v → IsKnown (fitted q F start).known v
  row-known v m = let r = variables-from q F v m in subst (λ z. IsKnown (fitted q F start).known z) (variable-at q F r.0 r.1 ∙ r.2) (go r.0 r.1 (dec_has (atom_key q F) r.0))
    where
      go : (i : ℕ) → i < (atom_at q F).width → Dec (Contains (atom_key q F) i) → IsKnown (fitted q F start).known (slice_index vs i)
      go i l (yes n) = see_all-known [] vs 0 (others_of q F) then (slice_index vs i) (key-known i n)
      go i l (no n) = see_all-new [] vs 0 (others_of q F) then i (other-into i l n)

  pub key-into : (w : List (List Value)) (d : ℕ → Value) → IsRight w d start → Suits q d F (get_or w 0 []) → IsRight w d (keyed q F start).known
  key-into w d r s = (fit_on-into q w F 0 d (atom_key q F) here (key-width q F lF) r (none w) s).0

  -- a row that suits passes
  pub row-into : (w : List (List Value)) (d : ℕ → Value) → IsRight w d start → Suits q d F (get_or w 0 []) →
      IsRight w d (fitted q F start).known × MeetsAll w (keyed q F start).all × MeetsAll w (fitted q F start).all
  row-into w d r s =
      let a = fit_on-into q w F 0 d (atom_key q F) here (key-width q F lF) r (none w) s in
      let b = fit_on-into q w F 0 d (others_of q F) then other a.0 (none w) s in
      (b.0, a.1, b.1)

  -- an assignment that a row which passes suits
  pub record Follows (w : List (List Value)) (e d : ℕ → Value) : Type 0 where
    pub right : IsRight w d (fitted q F start).known
    pub kept : (u : ℕ) → IsKnown start u → d u ≡ e u
    pub far : (u : ℕ) → (Contains vs u → ⊥) → d u ≡ e u
    pub suits : Suits q d F (get_or w 0 [])

  pub row-from : (w : List (List Value)) (e : ℕ → Value) → IsRight w e start → MeetsAll w (keyed q F start).all → MeetsAll w (fitted q F start).all → (d : ℕ → Value) × Follows w e d
  row-from w e r mk mf = (
    b.0.0,
    record {
      right = b.0.1.0;
      kept = λ u h. b.0.1.2 u (inl (see_all-known w vs 0 (atom_key q F) here u h)) ∙ a.0.1.2 u (inl h);
      far = λ u f. b.0.1.2 u (inr (λ i m g. f (at i (other i m) u g))) ∙ a.0.1.2 u (inr (λ i m g. f (at i (key-width q F lF i m) u g)));
      suits = record { values = λ i l. values i l (dec_has (atom_key q F) i); tests = tests };
    },
  )
    where
      a : ((d : ℕ → Value) × Continues w e vs 0 (atom_key q F) here d) × ((k : Cond) → Contains q.conds k → TestedOn F (atom_key q F) (get_or w 0 []) k)
      a = fit_on-from q w F 0 e (atom_key q F) here r mk

      b : ((d : ℕ → Value) × Continues w a.0.0 vs 0 (others_of q F) then d) × ((k : Cond) → Contains q.conds k → TestedOn F (others_of q F) (get_or w 0 []) k)
      b = fit_on-from q w F 0 a.0.0 (others_of q F) then a.0.1.0 mf

      at : (i : ℕ) → i < (atom_at q F).width → (u : ℕ) → slice_index vs i ≡ u → Contains vs u
      at i l u g = subst (λ z. Contains vs z) (sym (variable-at q F i l) ∙ g) (variables-into q F i l)

      values : (i : ℕ) → i < (atom_at q F).width → Dec (Contains (atom_key q F) i) → get_or (get_or w 0 []) i nothing ≡ b.0.0 (variable q F i)
      values i l (yes m) = a.0.1.1 i m ∙ sym (b.0.1.2 (slice_index vs i) (inl (key-known i m))) ∙ ap b.0.0 (variable-at q F i l)
      values i l (no n) = b.0.1.1 i (other-into i l n) ∙ ap b.0.0 (variable-at q F i l)

      tests : (k : Cond) → Contains q.conds k → TestHolds F (get_or w 0 []) k
      tests (Join c d) m = tt
      tests (Test c op x) m = λ g. go g (dec_has (atom_key q F) c.col)
        where
          go : c.atom ≡ F → Dec (Contains (atom_key q F) c.col) → OpHolds op (get_or (get_or w 0 []) c.col nothing) x
          go g (yes n) = a.1 (Test c op x) m g n
          go g (no n) = b.1 (Test c op x) m g (other-into c.col (subst (λ z. c.col < (atom_at q z).width) g (q.kept.conds_in_range (Test c op x) m c (mem-head c [])).1) n)

  -- a row with the same key passes on its key
  pub keyed-same : (w u : List (List Value)) (e : ℕ → Value) → IsRight w e start → IsRight u e start → SharesKey (atom_key q F) (get_or w 0 []) (get_or u 0 []) →
      MeetsAll w (keyed q F start).all → MeetsAll u (keyed q F start).all
  keyed-same w u e rw ru s m = meets-both u (see_all vs 0 (atom_key q F) here).all (tests_at q F 0 (atom_key q F)) seen (tests-into q u F 0 (atom_key q F) tested)
    where
      a : ((d : ℕ → Value) × Continues w e vs 0 (atom_key q F) here d) × ((k : Cond) → Contains q.conds k → TestedOn F (atom_key q F) (get_or w 0 []) k)
      a = fit_on-from q w F 0 e (atom_key q F) here rw m

      right : IsRight u a.0.0 start
      right k n = ru k n ∙ sym (a.0.1.2 k.variable (inl (contains-known start k n)))

      seen : MeetsAll u (see_all vs 0 (atom_key q F) here).all
      seen = (see_all-into u a.0.0 vs 0 (atom_key q F) here right (none u) (λ i n. sym (s i n) ∙ a.0.1.1 i n)).1

      tested : (k : Cond) → Contains q.conds k → TestedOn F (atom_key q F) (get_or u 0 []) k
      tested (Join c d) n = tt
      tested (Test c op x) n = λ g o. subst (λ z. OpHolds op z x) (s c.col o) (a.1 (Test c op x) n g o)

  -- a row that passes on its key has there the values of what is known
  pub key-values : (w : List (List Value)) (e : ℕ → Value) → IsRight w e start → MeetsAll w (keyed q F start).all → (p : ℕ) → Contains (atom_key q F) p → IsKnown start (variable q F p) → get_or (get_or w 0 []) p nothing ≡ e (variable q F p)
  key-values w e r m p n h =
      let a = fit_on-from q w F 0 e (atom_key q F) here r m in
      a.0.1.1 p n ∙ ap a.0.0 (variable-at q F p (key-width q F lF p n)) ∙ a.0.1.2 (variable q F p) (inl h)
