-- The parts of a union that pass their checks.
use Rattle.std.proofs.Common.{◌≡◌, ◌==◌, ℕ, zero, suc, ◌+◌, ◌<◌, ◌≤◌, List, [], ◌∷◌, ◌++◌, length, drop, take, map, get_or, slice_get, Option, Some, None, Result, true, All, Contains, nat_le, refl, sym, ap, ◌∙◌, subst, arith}
use Rattle.std.specs.List.{AllZip, zip}
use Rattle.std.specs.Option.{option_map}
use Rattle.std.specs.Result.{IsErrAnd}
use Rattle.std.proofs.lemmas.Bool.Decides.{nat_tests}
use Rattle.std.proofs.lemmas.List.{length-map, length-take-le, get_or-map, get_or_default, drop_all}
use Rattle.std.proofs.lemmas.Option.{slice_get_within, slice_get_read, slice_get-map, get_or_from_slice_get}
use Rattle.cqa_value.proofs.Words.{all_zip_right}
use Rattle.cqa_value.specs.declared.memory.Fail.{Fail}
use Rattle.cqa_value.specs.declared.value.Kind.{Kind}
use Rattle.cqa_model.specs.declared.limits.TheConstants.{MOST_SELECTS}
use Rattle.cqa_model.specs.declared.query.ColRef.{ColRef}
use Rattle.cqa_model.specs.declared.query.Query.{Query}
use Rattle.cqa_model.specs.Database.{Table}
use Rattle.cqa_model.specs.Query.{FitsDatabase, kind_at}
use Rattle.spj_syntax.specs.declared.tree.RawCol.{RawCol}
use Rattle.spj_syntax.specs.declared.tree.Select.{Select}
use Rattle.refusals.specs.declared.refusal.Refusal.{Refusal}
use Rattle.refusals.specs.declared.refusal.Refusal.TheVariants.{TypeMismatch, WrongArity, Limit}
use Rattle.refusals.specs.declared.refusal.Place.TheVariants.{Cell}
use Rattle.refusals.specs.declared.refusal.LimitKind.TheVariants.{Selects}
use Rattle.refusals.specs.Kinds.{same_kind}
use Rattle.refusals.specs.Refusal.{first_of, IsRefusedAs, Checked}
use Rattle.refusals.proofs.Faults.{both_none}
use Rattle.query_resolve.specs.Checks.{answer_kinds, answers_fault, column_fault, column_kind, fault_by_number, fault_unless, first_fault, from_fault, kinds_clash, part_fault, query_fault, select_fault, select_kinds, size_fault, union_fault, where_fault}
use Rattle.query_resolve.specs.Resolved.{AreQueriesOf, IsAtomOf, IsColumnOf, IsQueryOf}
use Rattle.query_resolve.proofs.Lookups.{passes, passes_from, zip_length}
use Rattle.query_resolve.proofs.Members.{fault_next, handed_on, refused_first}
use Rattle.query_resolve.proofs.Queries.{kind_of_column}

plus_one : (n : ℕ) → suc n ≡ n + 1
plus_one n = omega arith

-- what two lists have at a place
pub zip_get : {A B : Type 0} (ks : List A) (vs : List B) (at : ℕ) (k : A) (v : B) → slice_get ks at ≡ Some k → slice_get vs at ≡ Some v → slice_get (zip ks vs) at ≡ Some (k, v)
zip_get [] vs at k v e f = absurd (omega (arith, slice_get_within [] at k e))
zip_get (x ∷ ks) [] at k v e f = absurd (omega (arith, slice_get_within [] at v f))
zip_get (x ∷ ks) (y ∷ vs) zero k v e f =
    let here : x ≡ k = get_or_from_slice_get (x ∷ ks) 0 k x e in
    let there : y ≡ v = get_or_from_slice_get (y ∷ vs) 0 v y f in
    λ i. Some (here i, there i)
zip_get (x ∷ ks) (y ∷ vs) (suc at) k v e f = zip_get ks vs at k v e f

pub zip_short : {A B : Type 0} (ks : List A) (vs : List B) → length (zip ks vs) ≤ length ks
zip_short [] vs = omega arith
zip_short (k ∷ ks) [] = omega arith
zip_short (k ∷ ks) (v ∷ vs) = omega (arith, zip_short ks vs)

-- what a column is refused for
pub clash_there : (part : ℕ) (ks vs : List Kind) (at : ℕ) (k v : Kind) (o : Option Refusal) → at < length (zip ks vs) → o ≡ fault_unless (same_kind k v) (TypeMismatch (Cell part (at + 1)))
    → fault_by_number (kinds_clash part) (take at (zip ks vs)) (k, v) ≡ o
clash_there part ks vs at k v o inside e = ap (λ n. kinds_clash part (n + 1) (k, v)) (length-take-le at (zip ks vs) (omega (arith, inside))) ∙ sym e

-- the kinds of the first part and of the others
abbrev pub kinds_behind : List Table → List Kind → List Query → List (List Kind)
kinds_behind db first others = first ∷ map (answer_kinds db) others

abbrev pub OthersSoFar : List Table → List Kind → List Query → ℕ → Type 0
OthersSoFar db first others at =
    answers_fault (kinds_behind db first others) ≡ first_fault (fault_by_number (part_fault first)) (take (at + 1) (kinds_behind db first others)) (drop (at + 1) (kinds_behind db first others))

-- one other part further
module _ (db : List Table) (first : List Kind) (others : List Query) (at : ℕ) (other : Query) (inside : at < length others) (is : other ≡ get_or others at other) (seen : List Kind) (kinds : seen ≡ answer_kinds db other) where
  other_there : slice_get (kinds_behind db first others) (at + 1) ≡ Some seen
  other_there =
      ap (slice_get (kinds_behind db first others)) (sym (plus_one at)) ∙ slice_get-map (answer_kinds db) others at ∙ ap (option_map (answer_kinds db)) (slice_get_read others (length others) at other refl inside is)
      ∙ ap (λ k. Some k) (sym kinds)

  other_number : length (take (at + 1) (kinds_behind db first others)) + 1 ≡ at + 2
  other_number = omega (arith, inside, length-take-le (at + 1) (kinds_behind db first others) (omega (arith, inside, length-map others (answer_kinds db))))

  step : first_fault (fault_by_number (part_fault first)) (take (at + 1) (kinds_behind db first others)) (drop (at + 1) (kinds_behind db first others))
      ≡ first_of (part_fault first (at + 2) seen) (first_fault (fault_by_number (part_fault first)) (take (at + 1 + 1) (kinds_behind db first others)) (drop (at + 1 + 1) (kinds_behind db first others)))
  step =
      fault_next (fault_by_number (part_fault first)) (kinds_behind db first others) (at + 1) seen other_there
      ∙ ap (λ n. first_of (part_fault first n seen) (first_fault (fault_by_number (part_fault first)) (take (at + 1 + 1) (kinds_behind db first others)) (drop (at + 1 + 1) (kinds_behind db first others)))) other_number

  pub others_more : OthersSoFar db first others at → part_fault first (at + 2) seen ≡ None → OthersSoFar db first others (at + 1)
  others_more so passes = so ∙ step ∙ ap (λ o. first_of o (first_fault (fault_by_number (part_fault first)) (take (at + 1 + 1) (kinds_behind db first others)) (drop (at + 1 + 1) (kinds_behind db first others)))) passes

  pub others_stopped : {T : Type 0} {r : Result T (Fail Refusal)} {P : T → Type 0} (e : Fail Refusal) → OthersSoFar db first others at → IsRefusedAs e (part_fault first (at + 2) seen) → IsErrAnd r (λ f. f ≡ e)
      → Checked r (answers_fault (kinds_behind db first others)) P
  others_stopped {r = r} {P = P} e so refused same =
      handed_on r e (answers_fault (kinds_behind db first others)) P same
      (subst (IsRefusedAs e) (sym (so ∙ step))
      (refused_first e (part_fault first (at + 2) seen) (first_fault (fault_by_number (part_fault first)) (take (at + 1 + 1) (kinds_behind db first others)) (drop (at + 1 + 1) (kinds_behind db first others))) refused))

pub others_over : (db : List Table) (first : List Kind) (others : List Query) (at : ℕ) → OthersSoFar db first others at → length others ≤ at → answers_fault (kinds_behind db first others) ≡ None
others_over db first others at so over =
    so ∙ ap (first_fault (fault_by_number (part_fault first)) (take (at + 1) (kinds_behind db first others))) (drop_all (at + 1) (kinds_behind db first others) (omega (arith, over, length-map others (answer_kinds db))))

-- the columns that a query selects have the kinds of its answer columns
module _ (db : List Table) (names : List (List ℕ)) (q : Query) (are : AllZip (IsAtomOf db) names q.atoms) where
  columns_alike : (before columns : List RawCol) (answer : List ColRef) → first_fault (λ before (col : RawCol). column_fault db names col.table col.name) before columns ≡ None
      → AllZip (IsColumnOf db names) columns answer → map (kind_at q db) answer ≡ map (column_kind db names) columns
  columns_alike before [] [] e so = refl
  columns_alike before [] (a ∷ answer) e so = absurd so
  columns_alike before (c ∷ columns) [] e so = absurd so
  columns_alike before (c ∷ columns) (a ∷ answer) e so =
      let both = both_none (column_fault db names c.table c.name) (first_fault (λ before (col : RawCol). column_fault db names col.table col.name) (before ++ c ∷ []) columns) e in
      let here = kind_of_column db names q are c a so.0 both.0 in
      let more = columns_alike (before ++ c ∷ []) columns answer both.1 so.1 in
      λ i. here i ∷ more i

kinds_alike : (db : List Table) (select : Select) (q : Query) → IsQueryOf db select q → query_fault db select ≡ None → answer_kinds db q ≡ select_kinds db select
kinds_alike db select q is e =
    let one = both_none (size_fault select) (first_of (first_fault (from_fault db) [] select.tables) (first_of (select_fault db select.tables select.columns) (where_fault db select.tables select.conds))) e in
    let two = both_none (first_fault (from_fault db) [] select.tables) (first_of (select_fault db select.tables select.columns) (where_fault db select.tables select.conds)) one.1 in
    let three = both_none (select_fault db select.tables select.columns) (where_fault db select.tables select.conds) two.1 in
    columns_alike db select.tables q is.atoms [] select.columns q.answer three.0 is.answer

all_alike : (db : List Table) (before selects : List Select) (parts : List Query) → first_fault (λ before select. query_fault db select) before selects ≡ None → AllZip (IsQueryOf db) selects parts
    → map (answer_kinds db) parts ≡ map (select_kinds db) selects
all_alike db before [] [] e so = refl
all_alike db before [] (q ∷ parts) e so = absurd so
all_alike db before (s ∷ selects) [] e so = absurd so
all_alike db before (s ∷ selects) (q ∷ parts) e so =
    let both = both_none (query_fault db s) (first_fault (λ before select. query_fault db select) (before ++ s ∷ []) selects) e in
    let here = kinds_alike db s q so.0 both.0 in
    let more = all_alike db (before ++ s ∷ []) selects parts both.1 so.1 in
    λ i. here i ∷ more i

-- the parts have answers as long as the first
as_long : (first : List Kind) (part : ℕ) (kinds : List Kind) → part_fault first part kinds ≡ None → length kinds ≡ length first
as_long first part kinds e =
    let same = passes (length kinds == length first) (WrongArity part) (both_none (fault_unless (length kinds == length first) (WrongArity part)) (first_fault (fault_by_number (kinds_clash part)) [] (zip first kinds)) e).0 in
    grind (arith, nat_tests)

module _ (db : List Table) (first : Query) (others : List Query) (e : answers_fault (map (answer_kinds db) (first ∷ others)) ≡ None) where
  long_as_first : (q : Query) → Contains (first ∷ others) q → length q.answer ≡ length first.answer
  long_as_first q (zero, inside, is) = ap (λ (p : Query). length p.answer) (sym is)
  long_as_first q (suc k, inside, is) =
      let kinds = map (answer_kinds db) others in
      let there : k < length kinds = omega (arith, inside, length-map others (answer_kinds db)) in
      let long = as_long (answer_kinds db first) _ (get_or kinds k (answer_kinds db q)) (passes_from (fault_by_number (part_fault (answer_kinds db first))) (answer_kinds db first ∷ []) kinds k (answer_kinds db q) e there) in
      let same : get_or kinds k (answer_kinds db q) ≡ answer_kinds db q = get_or-map (answer_kinds db) others k q (answer_kinds db q) (omega (arith, inside)) ∙ ap (answer_kinds db) is in
      sym (length-map q.answer (kind_at q db)) ∙ ap length (sym same) ∙ long ∙ length-map first.answer (kind_at first db)

all_long : (db : List Table) (parts : List Query) → answers_fault (map (answer_kinds db) parts) ≡ None → (p q : Query) → Contains parts p → Contains parts q → length p.answer ≡ length q.answer
all_long db [] e p q (k, inside, is) h = absurd (omega (arith, inside))
all_long db (first ∷ others) e p q h k = long_as_first db first others e p h ∙ sym (long_as_first db first others e q k)

pub some_parts : (db : List Table) (selects : List Select) (parts : List Query) → 2 ≤ length selects → AllZip (IsQueryOf db) selects parts → 0 < length parts
some_parts db selects parts two each = omega (arith, two, zip_length (IsQueryOf db) selects parts each)

pub few_parts : (db : List Table) (selects : List Select) (parts : List Query) → length selects ≤ MOST_SELECTS → AllZip (IsQueryOf db) selects parts → length parts ≤ MOST_SELECTS
few_parts db selects parts few each = omega (arith, few, zip_length (IsQueryOf db) selects parts each)

pub part_fits : (db : List Table) (selects : List Select) (parts : List Query) → AllZip (IsQueryOf db) selects parts → (q : Query) → Contains parts q → FitsDatabase q db
part_fits db selects parts each q h = let found = all_zip_right (IsQueryOf db) selects parts q each h in let is = found.2 in is.fits

pub all_fit : (db : List Table) (selects : List Select) (parts seen : List Query) → AllZip (IsQueryOf db) selects parts → seen ≡ parts → All (λ (part : Query). FitsDatabase part db) seen
all_fit db selects parts seen each same =
    subst (All (λ (part : Query). FitsDatabase part db)) (sym same) (λ k d inside. part_fits db selects parts each (get_or parts k d) (k, inside, get_or_default parts k (get_or parts k d) d inside))

-- the fault of parts that are few, each without one
pub union_is : (db : List Table) (selects : List Select) (parts : List Query) → length selects ≤ MOST_SELECTS → first_fault (λ before select. query_fault db select) [] selects ≡ None
    → AllZip (IsQueryOf db) selects parts → union_fault db selects ≡ answers_fault (map (answer_kinds db) parts)
union_is db selects parts few sound each =
    ap (λ b. first_of (fault_unless b (Limit Selects)) (first_of (first_fault (λ before select. query_fault db select) [] selects) (answers_fault (map (select_kinds db) selects)))) (within few)
    ∙ ap (λ o. first_of o (answers_fault (map (select_kinds db) selects))) sound
    ∙ ap answers_fault (sym (all_alike db [] selects parts sound each))
  where
    within : length selects ≤ MOST_SELECTS → nat_le (length selects) MOST_SELECTS ≡ true
    within le = grind (arith, nat_tests)

pub are_queries : (db : List Table) (selects : List Select) (parts : List Query) → 2 ≤ length selects → length selects ≤ MOST_SELECTS → AllZip (IsQueryOf db) selects parts → answers_fault (map (answer_kinds db) parts) ≡ None
    → AreQueriesOf db selects parts
are_queries db selects parts two few each alike = record {
  each = each;
  parts = record { some = some_parts db selects parts two each; few = few_parts db selects parts few each; fits = part_fits db selects parts each; long = all_long db parts alike };
}
