-- Hints followed in turn.
use Rattle.std.proofs.Common.{◌≡◌, ℕ, ◌<◌, ◌≤◌, ◌+◌, ℤ, pos, List, [], ◌∷◌, inl, inr, refl, sym, subst, length, drop, get_or, Option, Some, None, Bool, true, false}
use Rattle.std.proofs.lemmas.List.{drop_all, drop_more}
use Rattle.cnf_form.specs.declared.formula.Lit.{Lit}
use Rattle.lrat_check.specs.declared.fault.LogCause.{LogCause}
use Rattle.lrat_check.specs.declared.fault.LogCause.TheVariants.{NoConflict}
use Rattle.cnf_form.specs.Literals.{opposite, IsUnit}
use Rattle.cnf_form.specs.Logs.{Live, HintsPass}
use Rattle.lrat_check.specs.declared.following.Follow.{Follow}
use Rattle.lrat_check.specs.declared.following.Follow.TheVariants as follow
use Rattle.cnf_form.specs.declared.formula.Truth.{Truth}
use Rattle.lrat_check.specs.Marks.{Shows, HasOneOpen, HasTwo, HoldIs}
use Rattle.lrat_check.specs.Following.{ClauseIs, FollowIs, Negative, Unknown, Known, EndIs}
use Rattle.std.specs.Prelude.{Result, Ok, Err, IfOk}
use Rattle.lrat_check.specs.Failing.{HasTwoFree, HintsFail}

pub is_unit : (ts : List Truth) (held c : List Lit) (l : Lit) → Shows ts held → HasOneOpen ts c l → IsUnit held c l
is_unit ts held c l s f = record {
  inside = f.inside;
  free = λ d. f.free (s.marked (opposite l) d);
  others = λ m k n. s.present (opposite m) (f.others m k n);
}

pub has_two_free : (ts : List Truth) (held c : List Lit) → Shows ts held → HasTwo ts c → HasTwoFree held c
has_two_free ts held c s f = record {
  one = f.one;
  other = f.other;
  apart = f.apart;
  one_inside = f.one_inside;
  other_inside = f.other_inside;
  one_free = λ d. f.one_free (s.marked (opposite f.one) d);
  other_free = λ d. f.other_free (s.marked (opposite f.other) d);
}

pub unit_on : (ts us : List Truth) (c : List Lit) (l : Lit) (kept : Bool) → HasOneOpen ts c l → HoldIs ts us l kept → (held : List Lit) → Shows ts held → ClauseIs held c us follow.On
unit_on ts us c l true f h held s = (l, is_unit ts held c l s f, h held s)
unit_on ts us c l false f h held s = absurd (f.free h)

pub known_if : {E : Type 0} (live : Live) (hint : ℤ) (ts us : List Truth) (id : ℕ) (c : List Lit) (r : Result Follow E) → hint ≡ pos id → live id ≡ Some c
    → IfOk r (λ f. (held : List Lit) → Shows ts held → ClauseIs held c us f) → IfOk r (λ f. (held : List Lit) → Shows ts held → FollowIs live held hint us f)
known_if live hint ts us id c (Ok f) e l k = λ held s. Known id c e l (k held s)
known_if live hint ts us id c (Err x) e l k = tt

pub follow_pass : (live : Live) (held : List Lit) (hint : ℤ) (us : List Truth) (rest : List ℤ) → FollowIs live held hint us follow.Pass → HintsPass live held (hint ∷ rest)
follow_pass live held hint us rest (Negative n e q) = absurd (cc)
follow_pass live held hint us rest (Unknown id e l q) = absurd (cc)
follow_pass live held hint us rest (Known id c e l k) = subst (λ (h : ℤ). HintsPass live held (h ∷ rest)) (sym e) (c, l, inl k)

pub follow_fail : (live : Live) (held : List Lit) (hint : ℤ) (us : List Truth) (rest : List ℤ) (cause : LogCause) → FollowIs live held hint us (follow.Fail cause) → HintsFail live held (hint ∷ rest) cause
follow_fail live held hint us rest cause (Negative n e q) = subst (λ (h : ℤ). HintsFail live held (h ∷ rest) cause) (sym e) (cc)
follow_fail live held hint us rest cause (Unknown id e l q) = subst (λ (h : ℤ). HintsFail live held (h ∷ rest) cause) (sym e) (inl (l, (cc)))
follow_fail live held hint us rest cause (Known id c e l k) = subst (λ (h : ℤ). HintsFail live held (h ∷ rest) cause) (sym e) (inr (c, l, inl k))

-- what is so of the rest is so of the whole
abbrev pub Leads : Live → List Lit → List ℤ → List Lit → List ℤ → Type 0
Leads live held rest start all = (f : Option LogCause) → EndIs live held rest f → EndIs live start all f

unit_leads : (live : Live) (held c : List Lit) (id : ℕ) (l : Lit) (rest : List ℤ) → live id ≡ Some c → IsUnit held c l → Leads live (l ∷ held) rest held (pos id ∷ rest)
unit_leads live held c id l rest e u None x = (c, e, inr (l, u, x))
unit_leads live held c id l rest e u (Some cause) x = inr (c, e, inr (l, u, x))

pub follow_on : (live : Live) (held : List Lit) (hint : ℤ) (us : List Truth) (rest : List ℤ) → FollowIs live held hint us follow.On
    → (next : List Lit) × Shows us next × Leads live next rest held (hint ∷ rest)
follow_on live held hint us rest (Negative n e q) = absurd (cc)
follow_on live held hint us rest (Unknown id e l q) = absurd (cc)
follow_on live held hint us rest (Known id c e l k) =
    (k.0 ∷ held, k.2, subst (λ (h : ℤ). Leads live (k.0 ∷ held) rest held (h ∷ rest)) (sym e) (unit_leads live held c id k.0 rest l k.1))

-- along the hints up to a place
abbrev pub Along : Live → List Truth → List ℤ → List Truth → List ℤ → Type 0
Along live ts all us rest = (start : List Lit) → Shows ts start → (held : List Lit) × Shows us held × Leads live held rest start all

pub along_more : (live : Live) (ts us vs : List Truth) (all : List ℤ) (i : ℕ) → i < length all → Along live ts all us (drop i all)
    → ((held : List Lit) → Shows us held → FollowIs live held (get_or all i (pos 0)) vs follow.On) → Along live ts all vs (drop (i + 1) all)
along_more live ts us vs all i h a k start s =
    let b : (held : List Lit) × Shows us held × Leads live held (get_or all i (pos 0) ∷ drop (i + 1) all) start all = subst (λ (r : List ℤ). (held : List Lit) × Shows us held × Leads live held r start all) (drop_more all i (pos 0) h) (a start s) in
    let n : (next : List Lit) × Shows vs next × Leads live next (drop (i + 1) all) b.0 (get_or all i (pos 0) ∷ drop (i + 1) all) = follow_on live b.0 (get_or all i (pos 0)) vs (drop (i + 1) all) (k b.0 b.1) in
    (n.0, n.1, λ f x. b.2 f (n.2 f x))

pub along_pass : (live : Live) (ts us vs : List Truth) (all : List ℤ) (i : ℕ) → i < length all → Along live ts all us (drop i all)
    → ((held : List Lit) → Shows us held → FollowIs live held (get_or all i (pos 0)) vs follow.Pass) → (start : List Lit) → Shows ts start → HintsPass live start all
along_pass live ts us vs all i h a k start s =
    let b : (held : List Lit) × Shows us held × Leads live held (get_or all i (pos 0) ∷ drop (i + 1) all) start all = subst (λ (r : List ℤ). (held : List Lit) × Shows us held × Leads live held r start all) (drop_more all i (pos 0) h) (a start s) in
    b.2 None (follow_pass live b.0 (get_or all i (pos 0)) vs (drop (i + 1) all) (k b.0 b.1))

pub along_fail : (live : Live) (ts us vs : List Truth) (all : List ℤ) (i : ℕ) (cause : LogCause) → i < length all → Along live ts all us (drop i all)
    → ((held : List Lit) → Shows us held → FollowIs live held (get_or all i (pos 0)) vs (follow.Fail cause)) → (start : List Lit) → Shows ts start → HintsFail live start all cause
along_fail live ts us vs all i cause h a k start s =
    let b : (held : List Lit) × Shows us held × Leads live held (get_or all i (pos 0) ∷ drop (i + 1) all) start all = subst (λ (r : List ℤ). (held : List Lit) × Shows us held × Leads live held r start all) (drop_more all i (pos 0) h) (a start s) in
    b.2 (Some cause) (follow_fail live b.0 (get_or all i (pos 0)) vs (drop (i + 1) all) cause (k b.0 b.1))

pub along_end : (live : Live) (ts us : List Truth) (all : List ℤ) (i : ℕ) → length all ≤ i → Along live ts all us (drop i all) → (start : List Lit) → Shows ts start → HintsFail live start all NoConflict
along_end live ts us all i h a start s =
    let b : (held : List Lit) × Shows us held × Leads live held [] start all = subst (λ (r : List ℤ). (held : List Lit) × Shows us held × Leads live held r start all) (drop_all i all h) (a start s) in
    b.2 (Some NoConflict) refl
