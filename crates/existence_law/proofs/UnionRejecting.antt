-- The rows that a repair keeps of the tables of a union, by name.
use Rattle.std.proofs.Common.{◌<◌, ℕ, inl, inr, List, [], length, get_or, flat_map, refl, subst, arith, Contains}
use native.Mathlib.Decide.{dec_lt}
use Rattle.cqa_value.specs.declared.value.Value.{Value}
use Rattle.cqa_value.proofs.Words.{Contains-from_map, Contains-from_flat_map, Contains-filter}
use Rattle.cqa_model.specs.declared.query.RowId.{RowId}
use Rattle.cqa_model.specs.Database.{Table, stored}
use Rattle.cqa_model.specs.Repairs.{IsRepair}
use Rattle.existence_law.proofs.Rejecting.{places, rise, within, rows, size}
use Rattle.repair_back.specs.Results.{AreKeptOver, is_contested_in, contested_of}
use Rattle.table_blocks.specs.Tables.{AreStored, names_in}
use Rattle.existence_law.specs.UnionReasons.{UnionRejectionsExist}
use Rattle.existence_law.proofs.UnionAnswering.{certain_or_rejected_in}
use Rattle.existence_law.proofs.UnionEncoding.{tables_in}

module _ (db : List Table) (kept : List (List (List Value))) (repair : IsRepair db kept) (tables : List ℕ) (there : (t : ℕ) → Contains tables t → t < length db) where
  names : List RowId
  names = flat_map (λ t. names_in t (places db kept repair t)) tables

  are_kept : AreKeptOver db tables names kept
  unfolding names
  are_kept = record {
    places = places db kept repair;
    are = refl;
    rises = λ t m. rise db kept repair t (dec_lt t (length (stored db)));
    there = λ t m p k. (within db kept repair t (dec_lt t (length (stored db))) p k).1;
    rows = λ t m. rows db kept repair t (dec_lt t (length (stored db))) (let s = size db kept repair in let l = there t m in omega (arith, s, l));
  }

  are_stored : AreStored db names
  unfolding names
  are_stored name m =
      let t = Contains-from_flat_map (λ t. names_in t (places db kept repair t)) tables name m in
      let p = Contains-from_map (λ p. record { table = t.0; place = p }) (places db kept repair t.0) name t.2 in
      let w = within db kept repair t.0 (dec_lt t.0 (length (stored db))) p.0 p.1 in
      subst (λ (x : RowId). (x.table < length db) × (x.place < length (get_or (stored db) x.table []))) p.2 (there t.0 t.1, w.1)

pub union_rejections_exist : UnionRejectionsExist
union_rejections_exist db parts row fits uncertain = elim (certain_or_rejected_in db parts row) [
  | inl c ↦ absurd (uncertain c)
  | inr r ↦
      let ts = tables_in parts in
      let there : (t : ℕ) → Contains ts.0 t → t < length db = λ t m. (let u = (ts.1.exactly t).0 m in subst (λ n. n < length db) u.2.2 ((fits u.0 u.1).there u.2.0 u.2.1)) in
      let ns = names db r.0 r.1 ts.0 there in (
        contested_of db ns,
        (
          (
            ns,
            record { repair = record { tables = ts.0; are_tables = ts.1; kept = r.0; repair = r.1; are_kept = are_kept db r.0 r.1 ts.0 there }; holds_none = r.2 },
            refl,
          ),
          λ name m. are_stored db r.0 r.1 ts.0 there name ((Contains-filter (is_contested_in db) ns name).0 m).0,
        ),
      )
]
