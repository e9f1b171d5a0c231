-- What holds of any number of an atom over a database that the query fits.
use Rattle.std.proofs.Common.{◌≡◌, ℕ, ◌<◌, ◌≤◌, inl, inr, List, [], length, sym, ap, subst, arith, false, Contains}
use Rattle.std.proofs.lemmas.Bool.{cases_lt}
use Rattle.std.proofs.lemmas.List.{get_or_past}
use Rattle.std.proofs.lemmas.List.Elements.{All-contains}
use Rattle.cqa_value.specs.declared.value.Value.{Value}
use Rattle.cqa_value.proofs.Words.{mem-nil}
use Rattle.cqa_model.specs.declared.query.Atom.{Atom}
use Rattle.cqa_model.specs.declared.query.Query.{Query}
use Rattle.cqa_model.specs.Shape.{IsInRange}
use Rattle.cqa_model.specs.Database.{Table, stored}
use Rattle.cqa_model.specs.Query.{atom_at, atom_key, rows_of, FitsDatabase}
use Rattle.row_order.specs.Spans.{IsSpan}
use Rattle.table_blocks.specs.Tables.{key_at, rows_at}

-- an atom that isn't there
pub past-atoms : (q : Query) (F : ℕ) → length q.atoms ≤ F → ◌≡◌ {A = Atom} (atom_at q F) (record { table = 0; width = 0; key = []; strict = false })
past-atoms q F past = get_or_past q.atoms F (record { table = 0; width = 0; key = []; strict = false }) past

-- it has no column
pub in-range : (q : Query) (F i : ℕ) → i < (atom_at q F).width → IsInRange q.atoms (record { atom = F; col = i })
in-range q F i l = elim (cases_lt F (length q.atoms)) [
  | inl there ↦ (there, l)
  | inr past ↦ (let e : (atom_at q F).width ≡ 0 = ap (λ (a : Atom). a.width) (past-atoms q F past) in absurd (omega (arith, l, e)))
]

-- nor a key column
pub key-in-range : (q : Query) (F i : ℕ) → Contains (atom_key q F) i → IsInRange q.atoms (record { atom = F; col = i })
key-in-range q F i m = elim (cases_lt F (length q.atoms)) [
  | inl there ↦ (there, All-contains (λ p. p < (atom_at q F).width) (atom_key q F) i (q.kept.each F there).key_in_range m)
  | inr past ↦ absurd (mem-nil i (subst (λ ks. Contains ks i) (ap (λ (a : Atom). a.key) (past-atoms q F past)) m))
]

-- its table is the first, and so is one of the database
pub table-there : (q : Query) (db : List Table) → FitsDatabase q db → (F : ℕ) → (atom_at q F).table < length db
table-there q db fits F = elim (cases_lt F (length q.atoms)) [
  | inl there ↦ fits.there F there
  | inr past ↦
      (let e : (atom_at q F).table ≡ 0 = ap (λ (a : Atom). a.table) (past-atoms q F past) in
      let some = q.kept.size.0 in
      let first = fits.there 0 (omega (arith, some)) in
      omega (arith, e, first))
]

-- the span of a table's rows is one of its atom's
pub span-of : (q : Query) (db : List Table) → FitsDatabase q db → (F t : ℕ) → F < length q.atoms → t ≡ (atom_at q F).table → (values : List Value) (start : ℕ) (span : List (List Value)) →
    IsSpan (key_at db t) (rows_at db t) values start span → IsSpan (atom_key q F) (rows_of q (stored db) F) values start span
span-of q db fits F t l is values start span s =
    subst (λ key. IsSpan key (rows_of q (stored db) F) values start span) (sym (fits.keyed F l)) (subst (λ n. IsSpan (key_at db n) (rows_at db n) values start span) is s)
