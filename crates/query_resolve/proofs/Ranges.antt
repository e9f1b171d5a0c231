-- Ranges over several tables that pass their checks.
use Rattle.std.proofs.Common.{◌≡◌, inl, inr, ℕ, ◌<◌, List, [], length, take, get_or, Option, Some, None, Bool, true, false, not, ◌||◌, refl, sym, ap, ◌∙◌, subst, arith, true≢false}
use Rattle.std.specs.List.{AllZip, position, list_all}
use Rattle.std.specs.Option.{unwrap_or, option_map}
use Rattle.std.proofs.lemmas.Bool.{cases_lt, cases_Bool}
use Rattle.std.proofs.lemmas.List.{get_or-take, length-take-le}
use Rattle.std.proofs.lemmas.List.Folds.{list_all_at}
use Rattle.std.proofs.lemmas.List.Quantifiers.{position-Some}
use Rattle.cqa_model.specs.Database.{Table, IsDatabase}
use Rattle.cqa_model.specs.Query.{FitsDatabase}
use Rattle.cqa_model.specs.Shape.{IsQuery, nth_atom}
use Rattle.cqa_model.specs.declared.query.Atom.{Atom}
use Rattle.cqa_model.specs.declared.query.ColRef.{ColRef}
use Rattle.cqa_model.specs.declared.query.Cond.{Cond}
use Rattle.cqa_model.specs.declared.query.Query.{Query}
use Rattle.refusals.specs.Refusal.{first_of}
use Rattle.refusals.specs.declared.refusal.Refusal.TheVariants.{NotStrict}
use Rattle.spj_syntax.specs.declared.tree.RawCond.{RawCond}
use Rattle.spj_syntax.specs.declared.tree.RawRange.{RawRange}
use Rattle.spj_syntax.specs.declared.tree.Select.{Select}
use Rattle.table_blocks.specs.Tables.{mark_at}
use Rattle.query_resolve.specs.Names.{strict_named}
use Rattle.query_resolve.specs.Checks.{first_fault, from_fault, where_fault, tables_fault, join_goal_fault, join_group_fault, lax_fault, range_join_fault}
use Rattle.query_resolve.specs.Resolved.{IsAtomOf, IsColumnOf, IsCondOf, lax_of}
use Rattle.query_resolve.proofs.Lookups.{passes, passes_at, position-None, zip_length}
use Rattle.query_resolve.proofs.Members.{neither}
use Rattle.query_resolve.proofs.Queries.{Parts, atom_of_name, parts_seen, is_query, query_of}

-- the checks that a range passes
module _ (db : List Table) (raw : RawRange) where
  -- the query of a range, as a select without columns
  selected : Select
  selected = record { columns = []; tables = raw.tables; conds = raw.conds; some_table = omega (arith, raw.some_other); few = raw.few }

  fault_at : List (List ℕ) → List RawCond → Option Rattle.refusals.specs.declared.refusal.Refusal.Refusal
  fault_at names written =
      first_of (tables_fault names)
      (first_of (first_fault (from_fault db) [] names)
      (first_of (join_goal_fault db names raw.goal)
      (first_of (where_fault db names written)
      (first_of (join_group_fault db names raw.group) (first_fault (lax_fault db) [] names)))))

  pub sound : (names : List (List ℕ)) (written : List RawCond) → names ≡ raw.tables → written ≡ raw.conds
      → tables_fault names ≡ None → first_fault (from_fault db) [] names ≡ None → join_goal_fault db names raw.goal ≡ None → where_fault db names written ≡ None
      → join_group_fault db names raw.group ≡ None → first_fault (lax_fault db) [] names ≡ None → range_join_fault db raw ≡ None
  unfolding fault_at
  sound names written n w few from goal conds group strict =
      subst (λ l. fault_at l raw.conds ≡ None) n (subst (λ l. fault_at names l ≡ None) w
      (neither _ _ few (neither _ _ from (neither _ _ goal (neither _ _ conds (neither _ _ group strict))))))

  -- the parts of the query of a range
  module _ (names : List (List ℕ)) (written : List RawCond) (atoms : List Atom) (conds : List Cond) (answer : List ColRef)
      (n : names ≡ raw.tables) (w : written ≡ raw.conds) (a : answer ≡ []) (are : AllZip (IsAtomOf db) names atoms) (apart : first_fault (from_fault db) [] names ≡ None)
      (meant : AllZip (IsCondOf db names) written conds) (passing : where_fault db names written ≡ None) where
    parts : Parts db raw.tables [] raw.conds atoms conds answer
    unfolding selected
    parts =
        parts_seen db selected names [] written atoms conds answer n refl w
        (record { are = are; apart = apart; selected = subst (λ l. AllZip (IsColumnOf db names) [] l) (sym a) tt; meant = meant; sound = passing })

    pub query_kept : tables_fault names ≡ None → IsQuery atoms conds answer
    unfolding selected
    query_kept few = is_query db selected atoms conds answer parts (omega (arith, raw.some_other)) (neither _ _ (subst (λ l. tables_fault l ≡ None) n few) refl)

    pub query_fits : IsDatabase db → (q : Query) → q.atoms ≡ atoms → q.conds ≡ conds → q.answer ≡ answer → FitsDatabase q db
    unfolding selected
    query_fits valid q at ct an =
        (query_of db valid selected q
        (subst (λ l. Parts db raw.tables [] raw.conds l q.conds q.answer) (sym at) (subst (λ l. Parts db raw.tables [] raw.conds atoms l q.answer) (sym ct) (subst (λ l. Parts db raw.tables [] raw.conds atoms conds l) (sym an) parts)))).fits

    pub atoms_kept : AllZip (IsAtomOf db) raw.tables atoms
    atoms_kept = parts.are

    pub conds_kept : AllZip (IsCondOf db raw.tables) raw.conds conds
    conds_kept = parts.meant

not_true : (b : Bool) → not b ≡ true → b ≡ false
not_true true e = absurd (true≢false (sym e))
not_true false e = refl

-- the tables of all atoms but one are strict
module _ (db : List Table) (names : List (List ℕ)) (atoms : List Atom) (are : AllZip (IsAtomOf db) names atoms) where
  strict_is : (F : ℕ) → F < length atoms → strict_named db (get_or names F []) ≡ (nth_atom atoms F).strict
  strict_is F inside = let is = atom_of_name db names atoms are F inside in ap (λ o. unwrap_or (option_map (mark_at db) o) true) is.table ∙ sym is.mark

  lax : Atom → Bool
  lax atom = not atom.strict

  blank : Atom
  blank = record { table = 0; width = 0; key = []; strict = false }

  pub lax_inside : 0 < length atoms → lax_of atoms < length atoms
  unfolding lax
  lax_inside some = go (position lax atoms) refl
    where
      go : (o : Option ℕ) → position lax atoms ≡ o → unwrap_or o 0 < length atoms
      go None e = some
      go (Some k) e = (position-Some lax atoms k blank e).0

  -- a second one is refused
  later : first_fault (lax_fault db) [] names ≡ None → (k F : ℕ) → k < F → F < length atoms → (nth_atom atoms k).strict ≡ false → (nth_atom atoms F).strict ≡ false → ⊥
  later valid k F below inside first second =
      let many = zip_length (IsAtomOf db) names atoms are in
      let both = passes (strict_named db (get_or names F []) || list_all (strict_named db) (take F names)) (NotStrict (get_or names F [])) (passes_at (lax_fault db) names F [] valid (omega (arith, many, inside))) in
      let here = strict_is F inside ∙ second in
      let others : list_all (strict_named db) (take F names) ≡ true = rw here at both in
      let long = length-take-le F names (omega (arith, many, inside)) in
      let there : list_all (strict_named db) (take F names) ≡ false =
      list_all_at (strict_named db) (take F names) k [] (omega (arith, long, below)) (ap (strict_named db) (get_or-take F names k [] below) ∙ strict_is k (omega (arith, below, inside)) ∙ first) in
      true≢false (sym others ∙ there)

  pub others_strict : first_fault (lax_fault db) [] names ≡ None → (F : ℕ) → F < length atoms → (F ≡ lax_of atoms → ⊥) → (nth_atom atoms F).strict ≡ true
  unfolding lax blank
  others_strict valid F inside other = elim (cases_Bool (nth_atom atoms F).strict) [ inl e ↦ e | inr e ↦ absurd (go (position lax atoms) refl e) ]
    where
      go : (o : Option ℕ) → position lax atoms ≡ o → (nth_atom atoms F).strict ≡ false → ⊥
      go None e second = true≢false (sym (ap not second) ∙ position-None lax atoms F blank e inside)
      go (Some k) e second =
          let found = position-Some lax atoms k blank e in
          elim (cases_lt k F) [
            | inl below ↦ later valid k F below inside (not_true (nth_atom atoms k).strict found.1) second
            | inr above ↦ elim (cases_lt F k) [
              | inl before ↦ true≢false (sym (ap not second) ∙ found.2 F before)
              | inr same ↦ other (let one : F ≡ k = omega (arith, above, same) in one ∙ ap (λ o. unwrap_or o 0) (sym e))
            ]
          ]
