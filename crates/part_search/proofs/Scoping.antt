-- The columns that some part speaks of, table by table.
use Rattle.std.proofs.Common.{◌≡◌, ◌≢◌, ◌⊎◌, inl, inr, ℕ, ◌+◌, ◌<◌, ◌≤◌, List, [], length, get_or, take, refl, sym, ◌∙◌, subst, arith, Contains, slice_index}
use Rattle.std.specs.List.{AllZip}
use Rattle.std.proofs.lemmas.List.{take_more, take_all}
use Rattle.std.proofs.lemmas.List.Elements.{Contains-push_cases}
use Rattle.cqa_value.proofs.Words.{cases_next, member_place, mem-nil}
use Rattle.cqa_model.specs.declared.query.ColRef.{ColRef}
use Rattle.cqa_model.specs.declared.query.Query.{Query}
use Rattle.cqa_model.specs.Query.{atom_at}
use Rattle.part_search.specs.Spoken.{IsSpokenOf}
use Rattle.row_lists.specs.declared.frame.Frame.{Frame}
use Rattle.list_search.specs.Quotients.{columns_at}
use Rattle.part_search.specs.Parts.{HaveSpoken, IsTableIn}
use Rattle.part_search.specs.Spoken.{AreSpokenIn, LosesNone}
use Rattle.part_search.proofs.Taking.{zip-at}

-- the columns of the first atoms that are of the table
abbrev pub AreSpokenTo : Query → ℕ → ℕ → List ℕ → Type 0
AreSpokenTo q t at columns = (c : ColRef) → IsSpokenOf q c → c.atom < at → (atom_at q c.atom).table ≡ t → Contains columns c.col

module _ (q : Query) (t : ℕ) where
  pub spoken-none : (columns : List ℕ) → AreSpokenTo q t 0 columns
  spoken-none columns c s l e = absurd (omega (arith, l))

  -- an atom of another table
  pub spoken-passed : (at : ℕ) (columns : List ℕ) → (atom_at q at).table ≢ t → AreSpokenTo q t at columns → AreSpokenTo q t (at + 1) columns
  spoken-passed at columns ne h c s l e = go (cases_next c.atom at l)
    where
      go : (c.atom < at) ⊎ (c.atom ≡ at) → Contains columns c.col
      go (inl b) = h c s b e
      go (inr b) = absurd (ne (subst (λ F. (atom_at q F).table ≡ t) b e))

  -- an atom of the table
  pub spoken-more : (at : ℕ) (columns new : List ℕ) → AreSpokenTo q t at columns → LosesNone columns new → ((c : ColRef) → IsSpokenOf q c → c.atom ≡ at → Contains new c.col) → AreSpokenTo q t (at + 1) new
  spoken-more at columns new h kept added c s l e = go (cases_next c.atom at l)
    where
      go : (c.atom < at) ⊎ (c.atom ≡ at) → Contains new c.col
      go (inl b) = kept c.col (h c s b e)
      go (inr b) = added c s b

module _ (parts : List Query) (t : ℕ) where
  pub parts-none : (columns : List ℕ) → AreSpokenIn (take 0 parts) t columns
  parts-none columns q m = absurd (mem-nil q m)

  -- one part more
  pub parts-more : (at : ℕ) (q : Query) (columns new : List ℕ) → at < length parts → q ≡ get_or parts at q → AreSpokenIn (take at parts) t columns → LosesNone columns new →
      ((c : ColRef) → IsSpokenOf q c → c.atom < length q.atoms → (atom_at q c.atom).table ≡ t → Contains new c.col) → AreSpokenIn (take (at + 1) parts) t new
  parts-more at q columns new l is h kept added p m = elim (Contains-push_cases (take at parts) (get_or parts at q) p (subst (λ ps. Contains ps p) (take_more parts at q l) m)) [
    | inl b ↦ λ c s lc e. kept c.col (h p b c s lc e)
    | inr b ↦ subst (λ (x : Query). (c : ColRef) → IsSpokenOf x c → c.atom < length x.atoms → (atom_at x c.atom).table ≡ t → Contains new c.col) (is ∙ b) added
  ]

  pub parts-all : (at : ℕ) (columns : List ℕ) → length parts ≤ at → AreSpokenIn (take at parts) t columns → AreSpokenIn parts t columns
  parts-all at columns l h q m = h q (subst (λ ps. Contains ps q) (sym (take_all at parts l)) m)

-- the columns at the slot of each table of the frame
pub spoken-at : (parts : List Query) (frame : Frame) (columns : List (List ℕ)) → ((t : ℕ) → IsTableIn parts t → Contains frame.tables t) → AllZip (AreSpokenIn parts) frame.tables columns → HaveSpoken parts (λ t. columns_at columns (slice_index frame.slots t))
spoken-at parts frame columns all zip q mq c s l =
    let t = (atom_at q c.atom).table in
    let p = member_place frame.tables t 0 (all t (q, mq, (c.atom, l, refl))) in
    let spoken = zip-at (AreSpokenIn parts) frame.tables columns p.0 0 [] zip p.1 in
    let slot : slice_index frame.slots t ≡ p.0 = subst (λ u. slice_index frame.slots u ≡ p.0) p.2 (frame.kept.slot p.0 p.1) in
    subst (λ k. Contains (columns_at columns k) c.col) (sym slot) (spoken q mq c s l (sym p.2))
