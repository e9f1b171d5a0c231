-- The first fault of a list, a member further on, and the values of the members so far.
use Rattle.std.proofs.Common.{◌≡◌, ℕ, suc, ◌+◌, ◌<◌, ◌≤◌, List, [], ◌∷◌, ◌++◌, length, drop, take, get_or, slice_get, Option, Some, None, Result, Ok, Err, refl, sym, ap, ◌∙◌, subst, arith}
use Rattle.std.specs.List.{AllZip}
use Rattle.std.specs.Result.{IsErrAnd}
use Rattle.std.proofs.lemmas.List.{length-take-le, take_all, drop_all}
use Rattle.std.proofs.lemmas.Option.{slice_get_within, slice_get_read, get_or_from_slice_get}
use Rattle.std.proofs.Math.Seq.{drop-cons, take-suc}
use Rattle.cqa_value.specs.declared.memory.Fail.{Fail}
use Rattle.cqa_value.specs.declared.memory.Fail.TheVariants.{NoMemory, Refused}
use Rattle.cqa_value.proofs.Words.{all_zip_push}
use Rattle.refusals.specs.declared.refusal.Refusal.{Refusal}
use Rattle.refusals.specs.Refusal.{first_of, IsRefusedAs, Checked}
use Rattle.query_resolve.specs.Checks.{first_fault, fault_by_number}

-- a refusal by the first of two checks, or by the second where the first passes
pub refused_first : (e : Fail Refusal) (a b : Option Refusal) → IsRefusedAs e a → IsRefusedAs e (first_of a b)
refused_first NoMemory a b h = h
refused_first (Refused r) a b h = ap (λ o. first_of o b) h

pub refused_second : (e : Fail Refusal) (a b : Option Refusal) → a ≡ None → IsRefusedAs e b → IsRefusedAs e (first_of a b)
refused_second NoMemory a b n h = h
refused_second (Refused r) a b n h = ap (λ o. first_of o b) n ∙ h

pub neither : (a b : Option Refusal) → a ≡ None → b ≡ None → first_of a b ≡ None
neither a b p q = ap (λ o. first_of o b) p ∙ q

-- an error that is handed on
pub handed_on : {T : Type 0} (r : Result T (Fail Refusal)) (e : Fail Refusal) (fault : Option Refusal) (P : T → Type 0) → IsErrAnd r (λ x. x ≡ e) → IsRefusedAs e fault → Checked r fault P
handed_on (Ok v) e fault P s h = absurd s
handed_on (Err x) e fault P s h = record { refused = subst (λ y. IsRefusedAs y fault) (sym s) h; valid = tt; is = tt }

-- a refusal that is the fault
pub refused_at : {T : Type 0} {e : Fail Refusal} {fault : Option Refusal} {refusal : Refusal} {P : T → Type 0} → IsRefusedAs e (Some refusal) → fault ≡ Some refusal → Checked (Err e) fault P
refused_at {e = e} h same = record { refused = subst (IsRefusedAs e) (sym same) h; valid = tt; is = tt }

plus_one : (n : ℕ) → suc n ≡ n + 1
plus_one n = omega arith

pub take_next : {A : Type 0} (xs : List A) (at : ℕ) (x : A) → slice_get xs at ≡ Some x → take (at + 1) xs ≡ take at xs ++ x ∷ []
take_next xs at x here = ap (λ n. take n xs) (sym (plus_one at)) ∙ take-suc xs at x (slice_get_within xs at x here) ∙ ap (λ y. take at xs ++ y ∷ []) (get_or_from_slice_get xs at x x here)

pub drop_next : {A : Type 0} (xs : List A) (at : ℕ) (x : A) → slice_get xs at ≡ Some x → drop at xs ≡ x ∷ drop (at + 1) xs
drop_next xs at x here = drop-cons xs at x (slice_get_within xs at x here) ∙ ap (λ y. y ∷ drop (suc at) xs) (get_or_from_slice_get xs at x x here) ∙ ap (λ n. x ∷ drop n xs) (plus_one at)

-- the members before a place pass their checks and have their values
pub record SoFar {A B : Type 0} (check : List A → A → Option Refusal) (R : A → B → Type 0) (xs : List A) (at : ℕ) (out : List B) : Type 0 where
  pub fault : first_fault check [] xs ≡ first_fault check (take at xs) (drop at xs)
  pub values : AllZip R (take at xs) out

module _ {A : Type 0} (check : List A → A → Option Refusal) (xs : List A) (at : ℕ) (x : A) (here : slice_get xs at ≡ Some x) where
  pub fault_next : first_fault check (take at xs) (drop at xs) ≡ first_of (check (take at xs) x) (first_fault check (take (at + 1) xs) (drop (at + 1) xs))
  fault_next = ap (first_fault check (take at xs)) (drop_next xs at x here)
      ∙ ap (λ b. first_of (check (take at xs) x) (first_fault check b (drop (at + 1) xs))) (sym (take_next xs at x here))

pub start : {A B : Type 0} {check : List A → A → Option Refusal} {R : A → B → Type 0} {xs : List A} {at : ℕ} {out : List B} → at ≡ 0 → out ≡ [] → SoFar check R xs at out
start {check = check} {R = R} {xs = xs} {at = at} {out = out} z e = record {
  fault = ap (λ n. first_fault check (take n xs) (drop n xs)) (sym z);
  values = subst (λ o. AllZip R (take at xs) o) (sym e) (subst (λ n. AllZip R (take n xs) []) (sym z) tt);
}

-- the member at a place passes its check and has its value
pub more : {A B : Type 0} {check : List A → A → Option Refusal} {R : A → B → Type 0} {xs : List A} {at : ℕ} {out : List B} {x : A} {y : B} {next : List B} →
    SoFar check R xs at out → at < length xs → x ≡ get_or xs at x → Checked (Ok y) (check (take at xs) x) (R x) → next ≡ out ++ y ∷ [] → SoFar check R xs (at + 1) next
more {check = check} {R = R} {xs = xs} {at = at} {out = out} {x = x} {y = y} so inside is checked e = let here = slice_get_read xs (length xs) at x refl inside is in record {
  fault = so.fault ∙ fault_next check xs at x here ∙ ap (λ o. first_of o (first_fault check (take (at + 1) xs) (drop (at + 1) xs))) checked.valid;
  values = subst (λ o. AllZip R (take (at + 1) xs) o) (sym e) (subst (λ l. AllZip R l (out ++ y ∷ [])) (sym (take_next xs at x here)) (all_zip_push R (take at xs) out x y so.values checked.is));
}

-- or its fault is the list's
pub stopped : {A B T : Type 0} {check : List A → A → Option Refusal} {R : A → B → Type 0} {xs : List A} {at : ℕ} {out : List B} {x : A} {P : T → Type 0} {r : Result T (Fail Refusal)} {e : Fail Refusal} →
    SoFar check R xs at out → at < length xs → x ≡ get_or xs at x → Checked (Err e) (check (take at xs) x) (R x) → IsErrAnd r (λ f. f ≡ e) → Checked r (first_fault check [] xs) P
stopped {check = check} {xs = xs} {at = at} {x = x} {P = P} {r = r} {e = e} so inside is checked same =
    handed_on r e (first_fault check [] xs) P same
    (subst (IsRefusedAs e) (sym (so.fault ∙ fault_next check xs at x (slice_get_read xs (length xs) at x refl inside is))) (refused_first e (check (take at xs) x) (first_fault check (take (at + 1) xs) (drop (at + 1) xs)) checked.refused))

-- all members pass their checks and have their values
pub finished : {A B : Type 0} {check : List A → A → Option Refusal} {R : A → B → Type 0} {xs : List A} {at : ℕ} {out result : List B} →
    SoFar check R xs at out → length xs ≤ at → result ≡ out → Checked (Ok result) (first_fault check [] xs) (AllZip R xs)
finished {check = check} {R = R} {xs = xs} {at = at} {out = out} so over same = record {
  refused = tt;
  valid = so.fault ∙ ap (first_fault check (take at xs)) (drop_all at xs over);
  is = subst (AllZip R xs) (sym same) (subst (λ l. AllZip R l out) (take_all at xs over) so.values);
}

-- a check by the number of a member
pub numbered : {A T : Type 0} (check : ℕ → A → Option Refusal) (xs : List A) (at : ℕ) (x : A) {r : Result T (Fail Refusal)} {P : T → Type 0} →
    at < length xs → Checked r (check (at + 1) x) P → Checked r (fault_by_number check (take at xs) x) P
numbered check xs at x {r = r} {P = P} inside checked =
    subst (λ n. Checked r (check (n + 1) x) P) (sym (length-take-le at xs (omega (arith, inside)))) checked

-- the members before a place pass their checks
pub record Passed {A : Type 0} (check : List A → A → Option Refusal) (xs : List A) (at : ℕ) : Type 0 where
  pub fault : first_fault check [] xs ≡ first_fault check (take at xs) (drop at xs)

pub passed_more : {A : Type 0} {check : List A → A → Option Refusal} {xs : List A} {at : ℕ} {x : A} → Passed check xs at → at < length xs → x ≡ get_or xs at x → check (take at xs) x ≡ None → Passed check xs (at + 1)
passed_more {check = check} {xs = xs} {at = at} {x = x} so inside is passes = record {
  fault = so.fault ∙ fault_next check xs at x (slice_get_read xs (length xs) at x refl inside is) ∙ ap (λ o. first_of o (first_fault check (take (at + 1) xs) (drop (at + 1) xs))) passes;
}

-- or the fault of one is the list's
pub passed_stopped : {A T : Type 0} {check : List A → A → Option Refusal} {xs : List A} {at : ℕ} {x : A} {P : T → Type 0} {r : Result T (Fail Refusal)} (e : Fail Refusal) →
    Passed check xs at → at < length xs → x ≡ get_or xs at x → IsRefusedAs e (check (take at xs) x) → IsErrAnd r (λ f. f ≡ e) → Checked r (first_fault check [] xs) P
passed_stopped {check = check} {xs = xs} {at = at} {x = x} {P = P} {r = r} e so inside is refused same =
    handed_on r e (first_fault check [] xs) P same
    (subst (IsRefusedAs e) (sym (so.fault ∙ fault_next check xs at x (slice_get_read xs (length xs) at x refl inside is))) (refused_first e (check (take at xs) x) (first_fault check (take (at + 1) xs) (drop (at + 1) xs)) refused))

-- all members pass their checks
pub passed_all : {A : Type 0} {check : List A → A → Option Refusal} {xs : List A} {at : ℕ} → Passed check xs at → length xs ≤ at → first_fault check [] xs ≡ None
passed_all {check = check} {xs = xs} {at = at} so over = so.fault ∙ ap (first_fault check (take at xs)) (drop_all at xs over)
