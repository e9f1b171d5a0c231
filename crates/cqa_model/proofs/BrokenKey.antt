-- A database of two tables, r (x int, y int, primary key (x)) and the strict s (y int, z int, primary key (y)), where r
-- breaks its key. Does some y of r stand in s? With (1, 1) and (1, 2) in r and (1, 5) in s it does in some repair and not
-- in each; once (2, 7) is in s too, it does in each.
use Rattle.std.proofs.Common.{◌≡◌, Bool, true, true≢false, false, ℕ, zero, suc, pos, ◌<◌, inl, inr, List, [], ◌∷◌, get_or, slice_index_or, refl, ap, sym, ◌∙◌, subst, arith, Contains}
use Rattle.std.specs.List.Sorted.{IsStrictlySortedBy}
use Rattle.std.specs.declared.cmp.Ordering.{Ordering}
use Rattle.std.specs.declared.cmp.Ordering.TheVariants.{Less}
use Rattle.cqa_value.specs.declared.value.Kind.TheVariants.{Int as IntKind}
use Rattle.cqa_value.specs.declared.value.Value.{Value}
use Rattle.cqa_value.specs.declared.value.Value.TheVariants.{Int}
use Rattle.cqa_model.specs.declared.schema.Column.{Column}
use Rattle.cqa_model.specs.declared.schema.Schema.{Schema}
use Rattle.cqa_model.specs.declared.query.Atom.{Atom}
use Rattle.cqa_model.specs.declared.query.Cond.{Cond}
use Rattle.cqa_model.specs.declared.query.Cond.TheVariants.{Join}
use Rattle.cqa_model.specs.declared.query.Query.{Query}
use Rattle.cqa_model.specs.Shape.{nth_atom, IsAtom, IsQuery}
use Rattle.cqa_model.specs.Database.{Table, nothing, AreConsistent, stored, IsTable, IsDatabase}
use Rattle.cqa_model.specs.Repairs.{SharesKey, HasOne, IsTableRepair, IsRepair}
use Rattle.cqa_model.specs.Query.{IsWitness, FitsDatabase}
use Rattle.cqa_model.specs.Certain.{IsCertain, IsPossible}
use Rattle.cqa_model.proofs.Classic.{mem-head, mem-tail, mem-nil, mem-cases}
use Rattle.cqa_model.proofs.Repairs.{sublist-stored}
use Rattle.cqa_model.proofs.Databases.{possible_is_candidate}
use Rattle.cqa_model.proofs.Example.{first_is_key}

abbrev column : ℕ → Column
column name = record { name = name ∷ []; kind = IntKind }

same_letter : (a b : ℕ) → (a ∷ []) ≡ (b ∷ []) → a ≡ b
same_letter a b e = (cc)

pub same_number : (a b : ℕ) → Int (pos a) ≡ Int (pos b) → a ≡ b
same_number a b e = (cc)

abbrev r_schema : Schema
r_schema = record { name = 114 ∷ []; columns = column 120 ∷ column 121 ∷ []; key = 0 ∷ []; strict = false; kept = first_is_key (column 120) (column 121) (λ e. omega (arith, same_letter 120 121 e)) }

abbrev s_schema : Schema
s_schema = record { name = 115 ∷ []; columns = column 121 ∷ column 122 ∷ []; key = 0 ∷ []; strict = true; kept = first_is_key (column 121) (column 122) (λ e. omega (arith, same_letter 121 122 e)) }

abbrev row : ℕ → ℕ → List Value
row a b = Int (pos a) ∷ Int (pos b) ∷ []

abbrev database : List (List Value) → List Table
database s_rows = (record { schema = r_schema; rows = row 1 1 ∷ row 1 2 ∷ [] }) ∷ (record { schema = s_schema; rows = s_rows }) ∷ []

in_two : {A : Type 0} (P : A → Type 0) (a b : A) → P a → P b → (x : A) → Contains (a ∷ b ∷ []) x → P x
in_two P a b pa pb x m = elim (mem-cases x a (b ∷ []) m) [
  | inl e ↦ subst P e pa
  | inr n ↦ elim (mem-cases x b [] n) [ inl e ↦ subst P e pb | inr k ↦ absurd (mem-nil x k) ]
]

in_one : {A : Type 0} (P : A → Type 0) (a : A) → P a → (x : A) → Contains (a ∷ []) x → P x
in_one P a pa x m = elim (mem-cases x a [] m) [ inl e ↦ subst P e pa | inr k ↦ absurd (mem-nil x k) ]

sorted_one : {A : Type 0} (cmp : A → A → Ordering) (a : A) → IsStrictlySortedBy cmp (a ∷ [])
unfolding IsStrictlySortedBy
sorted_one cmp a = (tt, tt)

sorted_two : {A : Type 0} (cmp : A → A → Ordering) (a b : A) → cmp a b ≡ Less → IsStrictlySortedBy cmp (a ∷ b ∷ [])
unfolding IsStrictlySortedBy
sorted_two cmp a b e = ((e, tt), (tt, tt))

consistent_one : (key : List ℕ) (a : List Value) → AreConsistent key (a ∷ [])
consistent_one key a x y mx my s = in_one (λ z. z ≡ y) a (in_one (λ z. a ≡ z) a refl y my) x mx

before : IsDatabase (database (row 1 5 ∷ []))
before = record {
  few_tables = omega arith;
  each = in_two IsTable _ _
      (record { in_order = sorted_two _ (row 1 1) (row 1 2) refl; of_schema = in_two _ (row 1 1) (row 1 2) refl refl; strict = λ s. absurd (true≢false (sym s)) })
      (record { in_order = sorted_one _ (row 1 5); of_schema = in_one _ (row 1 5) refl; strict = λ s. consistent_one (0 ∷ []) (row 1 5) });
  names_differ = names;
  few_rows = omega arith;
}
  where
    names : (i j : ℕ) → i < 2 → j < 2 → get_or {A = List ℕ} ((114 ∷ []) ∷ (115 ∷ []) ∷ []) i [] ≡ get_or {A = List ℕ} ((114 ∷ []) ∷ (115 ∷ []) ∷ []) j [] → i ≡ j
    names zero zero li lj e = refl
    names zero (suc zero) li lj e = omega (arith, same_letter 114 115 e)
    names (suc zero) zero li lj e = omega (arith, same_letter 115 114 e)
    names (suc zero) (suc zero) li lj e = refl
    names (suc (suc i)) j li lj e = absurd (omega arith)
    names i (suc (suc j)) li lj e = absurd (omega arith)

-- exists from r, s where r.y = s.y
abbrev atom : ℕ → Bool → Atom
atom t strict = record { table = t; width = 2; key = 0 ∷ []; strict = strict }

abbrev atoms : List Atom
atoms = atom 0 false ∷ atom 1 true ∷ []

abbrev join : Cond
join = Join (record { atom = 0; col = 1 }) (record { atom = 1; col = 0 })

kept : IsQuery atoms (join ∷ []) []
kept = record {
  size = (omega arith, omega arith);
  each = each;
  apart = tables;
  few_answers = omega arith;
  conds_in_range = in_one _ join (in_two _ _ _ (omega arith, omega arith) (omega arith, omega arith));
  answer_in_range = λ c m. absurd (mem-nil c m);
}
  where
    places : (k d : ℕ) → k < 1 → slice_index_or (0 ∷ []) k d < 2
    places zero d l = omega arith
    places (suc k) d l = absurd (omega arith)

    is_atom : (t : ℕ) (strict : Bool) → IsAtom (atom t strict)
    is_atom t strict = record { width = (omega arith, omega arith); some_key = omega arith; key_in_range = places; key_apart = λ i j li lj e. omega arith }

    each : (F : ℕ) → F < 2 → IsAtom (nth_atom atoms F)
    each zero l = is_atom 0 false
    each (suc zero) l = is_atom 1 true
    each (suc (suc F)) l = absurd (omega arith)

    tables : (F G : ℕ) → F < 2 → G < 2 → (nth_atom atoms F).table ≡ (nth_atom atoms G).table → F ≡ G
    tables zero zero lF lG e = refl
    tables zero (suc zero) lF lG e = absurd (omega arith)
    tables (suc zero) zero lF lG e = absurd (omega arith)
    tables (suc zero) (suc zero) lF lG e = refl
    tables (suc (suc F)) G lF lG e = absurd (omega arith)
    tables F (suc (suc G)) lF lG e = absurd (omega arith)

abbrev query : Query
query = record { atoms = atoms; conds = join ∷ []; answer = []; kept = kept }

below_two : (P : ℕ → Type 0) → P 0 → P 1 → (F : ℕ) → F < 2 → P F
below_two P p0 p1 zero l = p0
below_two P p0 p1 (suc zero) l = p1
below_two P p0 p1 (suc (suc F)) l = absurd (omega arith)

fits : FitsDatabase query (database (row 1 5 ∷ []))
fits = record {
  there = below_two _ (omega arith) (omega arith);
  width = below_two _ refl refl;
  keyed = below_two _ refl refl;
  marked = below_two _ refl refl;
  strict = below_two _ (λ s. absurd (true≢false (sym s))) (λ s. consistent_one (0 ∷ []) (row 1 5));
  kinds = in_one _ join refl;
}

-- a pair of rows that meet is a witness
pair : (tables : List (List (List Value))) (x y : List Value) → Contains (get_or tables 0 []) x → Contains (get_or tables 1 []) y →
    get_or x 1 nothing ≡ get_or y 0 nothing → IsWitness query tables [] (x ∷ y ∷ [])
pair tables x y mx my e = record {
  size = refl;
  kept = below_two _ mx my;
  holds = in_one _ join e;
  answers = refl;
}

certain_after : IsCertain (database (row 1 5 ∷ row 2 7 ∷ [])) query []
certain_after repair is = of_kept (r_part.one (row 1 1) (mem-head (row 1 1) (row 1 2 ∷ [])))
  where
    r_part : IsTableRepair (0 ∷ []) (row 1 1 ∷ row 1 2 ∷ []) (get_or repair 0 [])
    r_part = is.each 0 (omega arith)

    s_part : IsTableRepair (0 ∷ []) (row 1 5 ∷ row 2 7 ∷ []) (get_or repair 1 [])
    s_part = is.each 1 (omega arith)

    meets : (b c : ℕ) (x : List Value) → Contains (get_or repair 0 []) x → row 1 b ≡ x → HasOne (0 ∷ []) (get_or repair 1 []) (row b c) → (w : List (List Value)) × IsWitness query repair [] w
    meets b c x m e o = (x ∷ o.row ∷ [], pair repair x o.row m o.is_kept (sym (ap (λ y. get_or y 1 nothing) e) ∙ o.shares 0 (mem-head 0 [])))

    of_kept : HasOne (0 ∷ []) (get_or repair 0 []) (row 1 1) → (w : List (List Value)) × IsWitness query repair [] w
    of_kept o = elim (mem-cases o.row (row 1 1) (row 1 2 ∷ []) (sublist-stored (get_or repair 0 []) (row 1 1 ∷ row 1 2 ∷ []) r_part.stored o.row o.is_kept)) [
      | inl e ↦ meets 1 5 o.row o.is_kept e (s_part.one (row 1 5) (mem-head (row 1 5) (row 2 7 ∷ [])))
      | inr n ↦ elim (mem-cases o.row (row 1 2) [] n) [
        | inl e ↦ meets 2 7 o.row o.is_kept e (s_part.one (row 2 7) (mem-tail (row 2 7) (row 1 5) (row 2 7 ∷ []) (mem-head (row 2 7) [])))
        | inr k ↦ absurd (mem-nil o.row k)
      ]
    ]

-- the repair that keeps (1, 2)
abbrev other : List (List (List Value))
other = (row 1 2 ∷ []) ∷ (row 1 5 ∷ []) ∷ []

only_row : (x y : List Value) → SharesKey (0 ∷ []) x y → HasOne (0 ∷ []) (y ∷ []) x
only_row x y s = record {
  row = y;
  is_kept = mem-head y [];
  shares = s;
  only = in_one (λ z. SharesKey (0 ∷ []) x z → z ≡ y) y (λ t. refl);
}

same_key : (a b : ℕ) → SharesKey (0 ∷ []) (row 1 a) (row 1 b)
same_key a b = in_one (λ p. get_or (row 1 a) p nothing ≡ get_or (row 1 b) p nothing) 0 refl

other_is_repair : IsRepair (database (row 1 5 ∷ [])) other
other_is_repair = record {
  size = refl;
  each = below_two _
      (record { stored = inr (inl (refl, tt)); one = in_two (HasOne (0 ∷ []) (row 1 2 ∷ [])) (row 1 1) (row 1 2) (only_row (row 1 1) (row 1 2) (same_key 1 2)) (only_row (row 1 2) (row 1 2) (same_key 2 2)) })
      (record { stored = inl (refl, tt); one = in_one (HasOne (0 ∷ []) (row 1 5 ∷ [])) (row 1 5) (only_row (row 1 5) (row 1 5) (same_key 5 5)) });
}

not_certain_before : IsCertain (database (row 1 5 ∷ [])) query [] → ⊥
not_certain_before certain = clash (certain other other_is_repair)
  where
    clash : (w : List (List Value)) × IsWitness query other [] w → ⊥
    clash (w, hw) =
        let left : get_or (get_or w 0 []) 1 nothing ≡ Int (pos 2) = in_one (λ x. get_or x 1 nothing ≡ Int (pos 2)) (row 1 2) refl (get_or w 0 []) (hw.kept 0 (omega arith)) in
        let right : get_or (get_or w 1 []) 0 nothing ≡ Int (pos 1) = in_one (λ x. get_or x 0 nothing ≡ Int (pos 1)) (row 1 5) refl (get_or w 1 []) (hw.kept 1 (omega arith)) in
        let joined : get_or (get_or w 0 []) 1 nothing ≡ get_or (get_or w 1 []) 0 nothing = hw.holds join (mem-head join []) in
        omega (arith, same_number 2 1 (sym left ∙ joined ∙ right))

possible_before : IsPossible (database (row 1 5 ∷ [])) query []
possible_before = (possible_is_candidate.possible (database (row 1 5 ∷ [])) query [] fits).1
    (row 1 1 ∷ row 1 5 ∷ [], pair (stored (database (row 1 5 ∷ []))) (row 1 1) (row 1 5) (mem-head (row 1 1) (row 1 2 ∷ [])) (mem-head (row 1 5) []) refl)
