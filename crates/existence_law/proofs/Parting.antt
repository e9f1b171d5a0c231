-- Of the tables that two parts share and that aren't strict there is a first one, or none.
use Rattle.std.proofs.Common.{◌≡◌, ◌<◌, ◌≤◌, ◌⊎◌, inl, inr, ℕ, false, List, [], ◌∷◌, length, get_or, map, flat_map, filter, refl, sym, ◌∙◌, subst, arith, Contains}
use Rattle.std.specs.List.{range_with_len}
use Rattle.std.proofs.Math.Bool.{Bool-discrete}
use Rattle.std.proofs.lemmas.Bool.{cases_order}
use Rattle.std.proofs.lemmas.List.{get_or_default}
use native.Mathlib.Decide.{ℕ_discrete, dec_lt}
use Rattle.cqa_value.proofs.Words.{cases_le, dec_both, is_yes, yes_of, of_yes, Contains-map, Contains-flat_map, Contains-range, Contains-filter}
use Rattle.cqa_model.specs.declared.query.Query.{Query}
use Rattle.cqa_model.specs.Query.{atom_at}
use Rattle.cqa_model.proofs.Classic.{find_in}
use Rattle.cqa_model.proofs.Values.{dec_by, dec_not}
use Rattle.existence_law.proofs.Extremes.{first_among}
use Rattle.query_strategy.specs.declared.shared.Shared.{Shared}
use Rattle.query_strategy.specs.Apart.{IsPartAt, IsLooseAt, HasLoose, IsShared, AreApart, IsFirstShared}
use Rattle.union_ask.proofs.Apart.{dec_has_loose}
use Rattle.existence_law.specs.UnionParts.{PartsAreDecided}

-- by the first part, by the place of the table in it, and by the second part
abbrev IsBefore : Shared → Shared → Type 0
IsBefore s t = (s.first < t.first) ⊎ ((s.first ≡ t.first) × ((s.atom < t.atom) ⊎ ((s.atom ≡ t.atom) × (s.second ≤ t.second))))

before_self : (s : Shared) → IsBefore s s
before_self s = inr (refl, inr (refl, omega arith))

before_either : (s t : Shared) → IsBefore s t ⊎ IsBefore t s
before_either s t = elim (cases_order s.first t.first) [
  | inr o ↦ elim o [ inl l ↦ inl (inl l) | inr l ↦ inr (inl l) ]
  | inl e ↦ elim (cases_order s.atom t.atom) [
    | inr o ↦ elim o [ inl l ↦ inl (inr (e, inl l)) | inr l ↦ inr (inr (sym e, inl l)) ]
    | inl f ↦ elim (cases_le s.second t.second) [ inl l ↦ inl (inr (e, inr (f, l))) | inr l ↦ inr (inr (sym e, inr (sym f, omega (arith, l)))) ]
  ]
]

before_trans : (s t u : Shared) → IsBefore s t → IsBefore t u → IsBefore s u
before_trans s t u (inl l) (inl k) = inl (omega (arith, l, k))
before_trans s t u (inl l) (inr (e, k)) = inl (omega (arith, l, e))
before_trans s t u (inr (e, l)) (inl k) = inl (omega (arith, e, k))
before_trans s t u (inr (e, inl l)) (inr (f, inl k)) = inr (e ∙ f, inl (omega (arith, l, k)))
before_trans s t u (inr (e, inl l)) (inr (f, inr (g, k))) = inr (e ∙ f, inl (omega (arith, l, g)))
before_trans s t u (inr (e, inr (d, l))) (inr (f, inl k)) = inr (e ∙ f, inl (omega (arith, d, k)))
before_trans s t u (inr (e, inr (d, l))) (inr (f, inr (g, k))) = inr (e ∙ f, inr (d ∙ g, omega (arith, l, k)))

dec_loose : (q : Query) (F t : ℕ) → Dec (IsLooseAt q F t)
dec_loose q F t = dec_by (λ p. (p.0, p.1.0, p.1.1)) (λ p. (p.0, (p.1, p.2))) (dec_both (dec_lt F (length q.atoms)) (dec_both (ℕ_discrete (atom_at q F).table t) (Bool-discrete (atom_at q F).strict false)))

-- a query stands for a part that isn't there
module _ (d : Query) (parts : List Query) where
  abbrev part_at : ℕ → Query
  part_at i = get_or parts i d

  is_at : (i : ℕ) → i < length parts → IsPartAt parts i (part_at i)
  is_at i l = (l, get_or_default parts i (part_at i) d l)

  same_part : (i : ℕ) (q : Query) → IsPartAt parts i q → q ≡ part_at i
  same_part i q at = sym at.1 ∙ get_or_default parts i q d at.0

  abbrev IsSharedThere : Shared → Type 0
  IsSharedThere s = ((s.first < length parts) × IsLooseAt (part_at s.first) s.atom s.table) × ((s.first < s.second) × ((s.second < length parts) × HasLoose (part_at s.second) s.table))

  from_there : (s : Shared) → IsSharedThere s → IsShared parts s
  from_there s h = record { first = (part_at s.first, is_at s.first h.0.0, h.0.1); second = (h.1.0, (part_at s.second, is_at s.second h.1.1.0, h.1.1.1)) }

  to_there : (s : Shared) → IsShared parts s → IsSharedThere s
  to_there s h = (
    (h.first.1.0, subst (λ q. IsLooseAt q s.atom s.table) (same_part s.first h.first.0 h.first.1) h.first.2),
    (h.second.0, (h.second.1.1.0, subst (λ q. HasLoose q s.table) (same_part s.second h.second.1.0 h.second.1.1) h.second.1.2)),
  )

  dec_shared : (s : Shared) → Dec (IsShared parts s)
  dec_shared s = dec_by (from_there s) (to_there s)
      (dec_both (dec_both (dec_lt s.first (length parts)) (dec_loose (part_at s.first) s.atom s.table))
      (dec_both (dec_lt s.first s.second) (dec_both (dec_lt s.second (length parts)) (dec_has_loose (part_at s.second) s.table))))

  -- ---- what may be shared is a list

  abbrev made : ℕ → ℕ → ℕ → Shared
  made i F j = record { first = i; second = j; atom = F; table = (atom_at (part_at i) F).table }

  abbrev places : List ℕ
  places = range_with_len 0 (length parts)

  abbrev of_atom : ℕ → ℕ → List Shared
  of_atom i F = map (made i F) places

  abbrev of_part : ℕ → List Shared
  of_part i = flat_map (of_atom i) (range_with_len 0 (length (part_at i).atoms))

  abbrev given : List Shared
  given = flat_map of_part places

  same_shared : (s : Shared) → s.table ≡ (atom_at (part_at s.first) s.atom).table → made s.first s.atom s.second ≡ s
  same_shared s e = λ i. record { first = s.first; second = s.second; atom = s.atom; table = sym e i }

  is_given : (s : Shared) → IsShared parts s → Contains given s
  is_given s h =
      let t = to_there s h in
      let li = t.0.0 in
      let lF = t.0.1.0 in
      let lj = t.1.1.0 in
      subst (Contains given) (same_shared s (sym t.0.1.1))
      (Contains-flat_map of_part places s.first (made s.first s.atom s.second) (Contains-range 0 (length parts) s.first (omega arith) (omega (arith, li)))
      (Contains-flat_map (of_atom s.first) (range_with_len 0 (length (part_at s.first).atoms)) s.atom (made s.first s.atom s.second)
      (Contains-range 0 (length (part_at s.first).atoms) s.atom (omega arith) (omega (arith, lF)))
      (Contains-map (made s.first s.atom) places s.second (Contains-range 0 (length parts) s.second (omega arith) (omega (arith, lj))))))

  abbrev all_shared : List Shared
  all_shared = filter (λ s. is_yes (dec_shared s)) given

  in_shared : (s : Shared) → IsShared parts s → Contains all_shared s
  in_shared s h = (Contains-filter (λ x. is_yes (dec_shared x)) given s).1 (is_given s h, yes_of (dec_shared s) h)

  is_first : (s : Shared) → IsShared parts s → ((x : Shared) → Contains all_shared x → IsBefore s x) → IsFirstShared parts s
  is_first s h least = record {
    of_first = record {
      shared = h;
      of_part = refl;
      first_table = λ x k e. elim (least x (in_shared x k)) [
        | inl l ↦ absurd (omega (arith, l, e))
        | inr (f, o) ↦ elim o [ inl l ↦ omega (arith, l) | inr (g, l) ↦ omega (arith, g) ]
      ];
      first_later = λ x k e a. elim (least x (in_shared x k)) [
        | inl l ↦ absurd (omega (arith, l, e))
        | inr (f, o) ↦ elim o [ inl l ↦ absurd (omega (arith, l, a)) | inr (g, l) ↦ l ]
      ];
    };
    first_part = λ x k. elim (least x (in_shared x k)) [ inl l ↦ omega (arith, l) | inr (f, o) ↦ omega (arith, f) ];
  }

  decided : AreApart parts ⊎ ((s : Shared) × IsFirstShared parts s)
  decided = elim (find_in (λ s. IsShared parts s → ⊥) (λ s. dec_not (dec_shared s)) given) [
    | inl none ↦ inl (λ s h. none s (is_given s h) h)
    | inr some ↦
        let h : IsShared parts some.0 = go some.0 some.2 (dec_shared some.0) in
        let f = first_among IsBefore before_self before_either before_trans all_shared some.0 (in_shared some.0 h) in
        inr (f.0, is_first f.0 (of_yes (dec_shared f.0) ((Contains-filter (λ x. is_yes (dec_shared x)) given f.0).0 f.1.0).1) f.1.1)
  ]
    where
      go : (s : Shared) → ((IsShared parts s → ⊥) → ⊥) → Dec (IsShared parts s) → IsShared parts s
      go s twice (yes h) = h
      go s twice (no f) = absurd (twice f)

pub parts_are_decided : PartsAreDecided
parts_are_decided [] = inl (λ s h. let l = h.first.1.0 in omega (arith, l))
parts_are_decided (q ∷ parts) = decided q (q ∷ parts)
