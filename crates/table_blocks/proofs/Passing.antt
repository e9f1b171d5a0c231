-- Tests on the cells of a row.
use Rattle.std.proofs.Common.{◌≡◌, Bool, true, false, not, List, [], ◌∷◌, slice_index_or, sym, refl, true≢false}
use Rattle.std.specs.Bool.{IsTrue}
use Rattle.cqa_value.specs.declared.value.Value.{Value}
use Rattle.cqa_value.proofs.Words.{dec_both}
use Rattle.cqa_model.specs.Database.{nothing}
use Rattle.cqa_model.proofs.Values.{dec_op}
use Rattle.table_blocks.specs.declared.test.ColumnTest.{ColumnTest}
use Rattle.table_blocks.specs.Tables.{TestsHold}

-- whether all tests hold is decided
pub dec_tests : (tests : List ColumnTest) (row : List Value) → Dec (TestsHold tests row)
dec_tests [] row = yes tt
dec_tests (test ∷ tests) row = dec_both (dec_op test.op (slice_index_or row test.col nothing) test.value) (dec_tests tests row)

pub is_yes : {A : Type 0} → Dec A → Bool
is_yes (yes a) = true
is_yes (no h) = false

pub is_no : {A : Type 0} (d : Dec A) → (not (is_yes d) ≡ true → A → ⊥) × ((A → ⊥) → not (is_yes d) ≡ true)
unfolding is_yes
is_no (yes a) = (λ e. absurd (true≢false (sym e)), λ h. absurd (h a))
is_no (no h) = (λ e. h, λ g. refl)

-- a test that answers yes just where something doesn't hold is the test that decides it, turned round
pub turned_round : {A : Type 0} (d : Dec A) (b : Bool) → (IsTrue b → A → ⊥) → ((A → ⊥) → IsTrue b) → b ≡ not (is_yes d)
unfolding is_yes
turned_round (yes a) true f g = absurd (f refl a)
turned_round (yes a) false f g = refl
turned_round (no h) b f g = g h
