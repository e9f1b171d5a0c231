-- A block reads in one way.
use Rattle.std.proofs.Common.{◌≡◌, ◌++◌, ◌∷◌, ◌∙◌, ◌+◌, [], ℕ, suc, List, Some, None, length, refl, sym, ap, subst}
use Rattle.std.proofs.lemmas.Option.{same_Some}
use Rattle.std.specs.List.{AllZip}
use Rattle.csv.specs.Machine.{Read, next_record}
use Rattle.csv.specs.Reading.{Reached, default_config, strip_bom}
use Rattle.csv.specs.declared.parser.State.{State}
use Rattle.csv.specs.declared.parser.State.TheVariants.{StartRecord}
use Rattle.cqa_value.specs.declared.value.Kind.{Kind}
use Rattle.cqa_value.specs.declared.value.Value.{Value}
use Rattle.cqa_value.specs.declared.value.Value.TheVariants.{Int, Text}
use Rattle.csv_rows.specs.Blocks.{IsFieldOf, IsRecordOf, ReadsInOneWay}

value_once : (kind : Kind) (field : List ℕ) (v w : Value) → IsFieldOf kind field v → IsFieldOf kind field w → v ≡ w
value_once kind field (Int m) (Int n) a b = ap Int (same_Some m n (sym a.1 ∙ b.1))
value_once kind field (Int m) (Text c) a b = cc (a.0, b.0)
value_once kind field (Text c) (Int n) a b = cc (a.0, b.0)
value_once kind field (Text c) (Text d) a b = ap Text (a.1 ∙ sym b.1)

record_once : (kinds : List Kind) (fields : List (List ℕ)) (v w : List Value) → IsRecordOf kinds fields v → IsRecordOf kinds fields w → v ≡ w
record_once [] [] [] [] a b = refl
record_once [] [] [] (w ∷ ws) a b = absurd b
record_once [] [] (v ∷ vs) w a b = absurd a
record_once [] (f ∷ fs) v w a b = absurd a
record_once (k ∷ ks) [] v w a b = absurd a
record_once (k ∷ ks) (f ∷ fs) [] w a b = absurd a
record_once (k ∷ ks) (f ∷ fs) (v ∷ vs) [] a b = absurd b
record_once (k ∷ ks) (f ∷ fs) (v ∷ vs) (w ∷ ws) a b = rw (value_once k f v w a.0 b.0, record_once ks fs vs ws a.1 b.1) refl

-- at the end of a text no record follows
no_record : (s s1 : State) (xs y : List ℕ) (p : Read) → (s ≡ s1) × (xs ≡ y) → next_record default_config s1 [] [] y ≡ None → next_record default_config s [] [] xs ≡ Some p → ⊥
no_record s s1 xs y p h n e =
    let m : next_record default_config s [] [] xs ≡ None = rw (h.0, h.1) n in
    cc (sym e ∙ m)

-- what follows one record is what follows the other, if both are the next of a text
follows : (qs : List (List (List ℕ))) (s2 : State) (y2 : List ℕ) (p r : Read) → p ≡ r → Reached default_config r.1 r.2 qs s2 y2 → Reached default_config p.1 p.2 qs s2 y2
follows qs s2 y2 p r e h = subst (λ (p : Read). Reached default_config p.1 p.2 qs s2 y2) (sym e) h

rows_once : (kinds : List Kind) (s s1 s2 : State) (xs y1 y2 : List ℕ) (rs qs : List (List (List ℕ))) (rows others : List (List Value))
    → Reached default_config s xs rs s1 y1 → next_record default_config s1 [] [] y1 ≡ None → Reached default_config s xs qs s2 y2 → next_record default_config s2 [] [] y2 ≡ None
    → AllZip (IsRecordOf kinds) rs rows → AllZip (IsRecordOf kinds) qs others → rows ≡ others
unfolding Reached
rows_once kinds s s1 s2 xs y1 y2 [] [] [] [] h n g m a b = refl
rows_once kinds s s1 s2 xs y1 y2 [] [] [] (w ∷ ws) h n g m a b = absurd b
rows_once kinds s s1 s2 xs y1 y2 [] [] (v ∷ vs) ws h n g m a b = absurd a
rows_once kinds s s1 s2 xs y1 y2 [] (q ∷ qs) vs ws h n g m a b = absurd (no_record s s1 xs y1 g.0 h n g.1)
rows_once kinds s s1 s2 xs y1 y2 (r ∷ rs) [] vs ws h n g m a b = absurd (no_record s s2 xs y2 h.0 g m h.1)
rows_once kinds s s1 s2 xs y1 y2 (r ∷ rs) (q ∷ qs) [] ws h n g m a b = absurd a
rows_once kinds s s1 s2 xs y1 y2 (r ∷ rs) (q ∷ qs) (v ∷ vs) [] h n g m a b = absurd b
rows_once kinds s s1 s2 xs y1 y2 (r ∷ rs) (q ∷ qs) (v ∷ vs) (w ∷ ws) h n g m a b =
    let e = same_Some h.0 g.0 (sym h.1 ∙ g.1) in
    let same : r ≡ q = h.2 ∙ ap (λ (p : Read). p.0) e ∙ sym g.2 in
    rw (record_once kinds r v w a.0 (subst (λ f. IsRecordOf kinds f w) (sym same) b.0), rows_once kinds h.0.1 s1 s2 h.0.2 y1 y2 rs qs vs ws h.3 n (follows qs s2 y2 h.0 g.0 e g.3) m a.1 b.1) refl

bad_once : (kinds : List Kind) (s s1 s2 : State) (xs y1 y2 : List ℕ) (rs qs : List (List (List ℕ))) (bad worse : List (List ℕ)) (rows others : List (List Value))
    → Reached default_config s xs (rs ++ bad ∷ []) s1 y1 → Reached default_config s xs (qs ++ worse ∷ []) s2 y2
    → AllZip (IsRecordOf kinds) rs rows → AllZip (IsRecordOf kinds) qs others
    → ((row : List Value) → IsRecordOf kinds bad row → ⊥) → ((row : List Value) → IsRecordOf kinds worse row → ⊥) → length rs ≡ length qs
unfolding Reached
bad_once kinds s s1 s2 xs y1 y2 [] [] bad worse vs ws h g a b deny refuse = refl
bad_once kinds s s1 s2 xs y1 y2 [] (q ∷ qs) bad worse vs [] h g a b deny refuse = absurd b
bad_once kinds s s1 s2 xs y1 y2 [] (q ∷ qs) bad worse vs (w ∷ ws) h g a b deny refuse =
    let e = same_Some h.0 g.0 (sym h.1 ∙ g.1) in
    absurd (deny w (subst (λ f. IsRecordOf kinds f w) (g.2 ∙ sym (ap (λ (p : Read). p.0) e) ∙ sym h.2) b.0))
bad_once kinds s s1 s2 xs y1 y2 (r ∷ rs) [] bad worse [] ws h g a b deny refuse = absurd a
bad_once kinds s s1 s2 xs y1 y2 (r ∷ rs) [] bad worse (v ∷ vs) ws h g a b deny refuse =
    let e = same_Some h.0 g.0 (sym h.1 ∙ g.1) in
    absurd (refuse v (subst (λ f. IsRecordOf kinds f v) (h.2 ∙ ap (λ (p : Read). p.0) e ∙ sym g.2) a.0))
bad_once kinds s s1 s2 xs y1 y2 (r ∷ rs) (q ∷ qs) bad worse [] ws h g a b deny refuse = absurd a
bad_once kinds s s1 s2 xs y1 y2 (r ∷ rs) (q ∷ qs) bad worse (v ∷ vs) [] h g a b deny refuse = absurd b
bad_once kinds s s1 s2 xs y1 y2 (r ∷ rs) (q ∷ qs) bad worse (v ∷ vs) (w ∷ ws) h g a b deny refuse =
    let e = same_Some h.0 g.0 (sym h.1 ∙ g.1) in
    ap suc (bad_once kinds h.0.1 s1 s2 h.0.2 y1 y2 rs qs bad worse vs ws h.3 (follows (qs ++ worse ∷ []) s2 y2 h.0 g.0 e g.3) a.1 b.1 deny refuse)

rows_or_bad : (kinds : List Kind) (s s1 s2 : State) (xs y1 y2 : List ℕ) (rs qs : List (List (List ℕ))) (bad : List (List ℕ)) (rows others : List (List Value))
    → Reached default_config s xs rs s1 y1 → next_record default_config s1 [] [] y1 ≡ None → Reached default_config s xs (qs ++ bad ∷ []) s2 y2
    → AllZip (IsRecordOf kinds) rs rows → AllZip (IsRecordOf kinds) qs others → ((row : List Value) → IsRecordOf kinds bad row → ⊥) → ⊥
unfolding Reached
rows_or_bad kinds s s1 s2 xs y1 y2 [] [] bad vs ws h n g a b deny = no_record s s1 xs y1 g.0 h n g.1
rows_or_bad kinds s s1 s2 xs y1 y2 [] (q ∷ qs) bad vs ws h n g a b deny = no_record s s1 xs y1 g.0 h n g.1
rows_or_bad kinds s s1 s2 xs y1 y2 (r ∷ rs) qs bad [] ws h n g a b deny = absurd a
rows_or_bad kinds s s1 s2 xs y1 y2 (r ∷ rs) [] bad (v ∷ vs) ws h n g a b deny =
    let e = same_Some h.0 g.0 (sym h.1 ∙ g.1) in
    deny v (subst (λ f. IsRecordOf kinds f v) (h.2 ∙ ap (λ (p : Read). p.0) e ∙ sym g.2) a.0)
rows_or_bad kinds s s1 s2 xs y1 y2 (r ∷ rs) (q ∷ qs) bad (v ∷ vs) [] h n g a b deny = absurd b
rows_or_bad kinds s s1 s2 xs y1 y2 (r ∷ rs) (q ∷ qs) bad (v ∷ vs) (w ∷ ws) h n g a b deny =
    let e = same_Some h.0 g.0 (sym h.1 ∙ g.1) in
    rows_or_bad kinds h.0.1 s1 s2 h.0.2 y1 y2 rs qs bad vs ws h.3 n (follows (qs ++ bad ∷ []) s2 y2 h.0 g.0 e g.3) a.1 b.1 deny

pub in_one_way : ReadsInOneWay
in_one_way = record {
  rows = λ kinds block some others h g. rows_once kinds StartRecord h.are_all.0 g.are_all.0 (strip_bom block) h.are_all.1 g.are_all.1 h.records g.records some others h.are_all.2 h.are_all.3 g.are_all.2 g.are_all.3 h.are_rows g.are_rows;
  bad = λ kinds block some other h g. h.counted ∙ ap (λ n. n + 1) (bad_once kinds StartRecord h.state g.state (strip_bom block) h.rest g.rest h.before g.before h.bad g.bad h.rows g.rows h.begins g.begins h.are_rows g.are_rows h.no_row g.no_row) ∙ sym g.counted;
  apart = λ kinds block rows number h g. rows_or_bad kinds StartRecord h.are_all.0 g.state (strip_bom block) h.are_all.1 g.rest h.records g.before g.bad rows g.rows h.are_all.2 h.are_all.3 g.begins h.are_rows g.are_rows g.no_row;
}
