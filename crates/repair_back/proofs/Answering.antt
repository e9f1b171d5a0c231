-- What a choice of one row each block says of the rows that are kept.
use Rattle.std.specs.Prelude.{IfOk, Result, Ok, Err}
use Rattle.std.proofs.Common.{◌≡◌, ℕ, ◌<◌, ◌⊎◌, ◌↔◌, inl, inr, Bool, List, length, sym, ◌∙◌, subst, Contains}
use Rattle.cqa_value.specs.declared.value.Value.{Value}
use Rattle.cqa_model.specs.declared.query.RowId.{RowId}
use Rattle.cqa_model.specs.Database.{Table}
use Rattle.cqa_model.specs.Blocks.{IsPick}
use Rattle.repair_back.specs.Flags.{IsFlagged, flags_at, AreTablesOf, AreBlank, AreLong, AreTableFlags}
use Rattle.repair_back.specs.Results.{names_kept, IsRepairOver, IsTrueName, AreTablePicks}
use Rattle.repair_back.proofs.Keeping.{shown-over}
use Rattle.repair_back.proofs.Naming.{kept-named, name-flagged}
use Rattle.table_blocks.specs.Tables.{rows_at, key_at}

module _ (db : List Table) (tables : List ℕ) (are : AreTablesOf db tables) (flags : List (List Bool)) (chosen : AreTableFlags db tables flags) where
  pub named-repair : IsRepairOver db tables (names_kept tables flags)
  named-repair = let s = shown-over db tables are flags chosen in (s.0, s.1, kept-named db tables flags chosen s.0 s.2)

-- a pick by one property is one by another that says the same of the rows
pick-same : (key : List ℕ) (rows : List (List Value)) (P Q : ℕ → Type 0) → ((i : ℕ) → i < length rows → P i ↔ Q i) → (p : ℕ) → IsPick key rows P p → IsPick key rows Q p
pick-same key rows P Q same p h = record {
  there = h.there;
  best = λ i l s m. (same p h.there).0 (h.best i l s ((same i l).1 m));
  first = λ i l s.
      let f = h.first i l s in
      let there = h.there in
      ((same p h.there).0 f.0, λ m. f.1 ((same i (omega (Rattle.std.proofs.Common.arith, l, there))).1 m));
}

-- what the names of a choice are, where its flags were set by a model
pub named-picks : (db : List Table) (tables : List ℕ) (blank marked flags : List (List Bool)) (listed : List RowId) (model : List Bool) → AreBlank db tables blank →
    ((t p : ℕ) → p < length (flags_at blank t) → IsFlagged (flags_at marked t) p ↔ (IsFlagged (flags_at blank t) p ⊎ IsTrueName listed model (record { table = t; place = p }))) →
    ((t : ℕ) → Contains tables t → (p : ℕ) → IsFlagged (flags_at flags t) p → IsPick (key_at db t) (rows_at db t) (IsFlagged (flags_at marked t)) p) →
    AreTablePicks db tables listed model (names_kept tables flags)
named-picks db tables blank marked flags listed model none is picks t mt p m =
    pick-same (key_at db t) (rows_at db t) (IsFlagged (flags_at marked t)) (λ i. IsTrueName listed model (record { table = t; place = i })) same p
    (picks t mt p (name-flagged tables flags (record { table = t; place = p }) m))
  where
    same : (i : ℕ) → i < length (rows_at db t) → IsFlagged (flags_at marked t) i ↔ IsTrueName listed model (record { table = t; place = i })
    same i li =
        let h = is t i (subst (λ n. i < n) (sym (none.long.each t mt)) li) in (
          λ f. elim (h.0 f) [ inl g ↦ absurd (none.none t i g) | inr g ↦ g ],
          λ g. h.1 (inr g),
        )

pub marked-long : (db : List Table) (tables : List ℕ) (blank marked : List (List Bool)) → AreBlank db tables blank → length marked ≡ length blank → ((t : ℕ) → length (flags_at marked t) ≡ length (flags_at blank t)) → AreLong db tables marked
marked-long db tables blank marked none size long = record { size = size ∙ none.long.size; each = λ t m. long t ∙ none.long.each t m }

-- what holds of a part of a value holds of an answer with this part
pub ok-map : {A B E : Type 0} (r : Result A E) (part : A → B) (y : B) (P : B → Type 0) → IfOk r (λ x. part x ≡ y) → P y → IfOk r (λ x. P (part x))
ok-map (Ok x) part y P e h = subst P (sym e) h
ok-map (Err f) part y P e h = e
