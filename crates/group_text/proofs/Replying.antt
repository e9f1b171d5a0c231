-- Replies to one event, and to events one after the other.
use Rattle.std.proofs.Common.{◌≡◌, ℕ, ◌||◌, Bool, true, false, List, [], ◌∷◌, ◌++◌, Some, append_assoc, refl, sym, ◌∙◌, ap, subst}
use Rattle.std.specs.List.{AllZip, flat_map, list_any}
use Rattle.std.proofs.lemmas.List.Concat.{flat_map-append}
use Rattle.std.proofs.lemmas.List.Folds.{list_any-append}
use Rattle.std.specs.Prelude.{IfOk, Result, Ok, Err, ◌↔◌}
use Rattle.block_choices.specs.Choices.{IsForcedBy}
use Rattle.block_lists.specs.Judging.{IsRefutedBy}
use Rattle.proof_check.specs.declared.reply.ProofReply.{ProofReply}
use Rattle.proof_check.specs.declared.reply.ProofReply.TheVariants.{Verified, BadText, BadLog}
use Rattle.proof_check.specs.Verdicts.{Checks, is_verified}
use Rattle.group_text.specs.declared.fault.Fault.TheVariants.{Unverified}
use Rattle.group_text.specs.declared.wanted.Wanted.{Wanted}
use Rattle.group_text.specs.declared.wanted.Wanted.TheVariants.{Reasons}
use Rattle.group_text.specs.Groups.{Draft, Event}
use Rattle.group_text.specs.Groups.Event.{Judge}
use Rattle.group_text.specs.Replies.{Appends, GroupReply, IsShown, MayReply, Proof, Replies, is_refused, reply_text}
use Rattle.group_text.specs.Weights.{names_in}
use Rattle.group_text.specs.Replies.GroupReply.{Certain, Refused}

append_nil : {A : Type 0} (xs : List A) → xs ++ [] ≡ xs
append_nil [] = refl
append_nil (x ∷ xs) = ap (λ ys. x ∷ ys) (append_nil xs)

or_false : (b : Bool) → (b || false) ≡ b
or_false true = refl
or_false false = refl

-- no event
pub appends_none : (wanted : Wanted) (budget : ℕ) (old : List ℕ) → Appends wanted budget [] false old old
appends_none wanted budget old = record { text = []; new_is = sym (append_nil old); replied = record { replies = []; each = tt; text_is = refl; refused_is = refl } }

-- one event
pub appends_one : (wanted : Wanted) (budget : ℕ) (event : Event) (reply : GroupReply) (old new : List ℕ) → MayReply wanted budget event reply → new ≡ old ++ reply_text reply → Appends wanted budget (event ∷ []) (is_refused reply) old new
appends_one wanted budget event reply old new may e = record {
  text = reply_text reply;
  new_is = e;
  replied = record { replies = reply ∷ []; each = (may, tt); text_is = sym (append_nil (reply_text reply)); refused_is = sym (or_false (is_refused reply)) };
}

both_zip : {A B : Type 0} (R : A → B → Type 0) (xs us : List A) (ys vs : List B) → AllZip R xs ys → AllZip R us vs → AllZip R (xs ++ us) (ys ++ vs)
both_zip R [] us [] vs a b = b
both_zip R [] us (y ∷ ys) vs a b = absurd a
both_zip R (x ∷ xs) us [] vs a b = absurd a
both_zip R (x ∷ xs) us (y ∷ ys) vs a b = (a.0, both_zip R xs us ys vs a.1 b)

pub replies_both : (wanted : Wanted) (budget : ℕ) (es fs : List Event) (s t : List ℕ) (a b : Bool) → Replies wanted budget es s a → Replies wanted budget fs t b → Replies wanted budget (es ++ fs) (s ++ t) (a || b)
replies_both wanted budget es fs s t a b p q = record {
  replies = p.replies ++ q.replies;
  each = both_zip (MayReply wanted budget) es fs p.replies q.replies p.each q.each;
  text_is = ap (λ x. x ++ t) p.text_is ∙ ap (λ x. flat_map reply_text p.replies ++ x) q.text_is ∙ sym (flat_map-append reply_text p.replies q.replies);
  refused_is = ap (λ x. x || b) p.refused_is ∙ ap (λ x. list_any is_refused p.replies || x) q.refused_is ∙ sym (list_any-append is_refused p.replies q.replies);
}

-- one after the other
pub appends_both : (wanted : Wanted) (budget : ℕ) (es fs : List Event) (a b : Bool) (old mid new : List ℕ) → Appends wanted budget es a old mid → Appends wanted budget fs b mid new → Appends wanted budget (es ++ fs) (a || b) old new
appends_both wanted budget es fs a b old mid new p q = record {
  text = p.text ++ q.text;
  new_is = q.new_is ∙ ap (λ x. x ++ q.text) p.new_is ∙ append_assoc old p.text q.text;
  replied = replies_both wanted budget es fs p.text q.text a b p.replied q.replied;
}

-- what holds of each value that comes out
pub on_ok : {T E : Type 0} (P Q : T → Type 0) (r : Result T E) → ((t : T) → P t → Q t) → IfOk r P → IfOk r Q
on_ok P Q (Ok t) f p = f t p
on_ok P Q (Err e) f p = tt

-- a group whose formula is refuted is certain, where the proof is shown
pub shown_is_reply : (budget line : ℕ) (d : Draft) (p : Proof) (refused : Bool) (old new : List ℕ) → IsForcedBy d.sizes (names_in d.lists) × IsRefutedBy d.sizes (names_in d.lists) budget p.cnf p.log → IsShown line p refused old new → Appends Reasons budget (Judge line d ∷ []) refused old new
shown_is_reply budget line d p false old new known shown = appends_one Reasons budget (Judge line d) (Certain (Some p)) old new (known.0, record { refuted = known.1; verified = shown.1 }) shown.0
shown_is_reply budget line d p true old new known shown = appends_one Reasons budget (Judge line d) (Refused line Unverified) old new (refl, (refl, record { proof = p; refuted = known.1; unverified = shown.1 })) shown.0

-- the one reply to a text tells whether it is verified
pub verified_exactly : (text : List ℕ) (reply : ProofReply) → Checks text reply → ((other : ProofReply) → Checks text other → reply ≡ other) → (is_verified reply ≡ true) ↔ Checks text Verified
verified_exactly text reply exact only = (λ e. subst (Checks text) (named reply e) exact, λ checks. ap is_verified (only Verified checks))
  where
    named : (r : ProofReply) → is_verified r ≡ true → r ≡ Verified
    named Verified e = refl
    named (BadText fault) e = cc
    named (BadLog fault) e = cc
