-- What may be replied to what the lines of an input ask for.
use Rattle.std.proofs.Common.{◌⊎◌, inl, inr, ◌≤◌, ◌+◌, ◌||◌, ℕ, Bool, true, false, List, [], ◌∷◌, ◌++◌, length, None, Some, Result, Ok, Err, refl}
use Rattle.std.specs.List.{flat_map, list_any}
use Rattle.cnf_form.specs.declared.formula.Cnf.{Cnf}
use Rattle.cnf_form.specs.declared.log.Step.{Step}
use Rattle.cnf_form.specs.Logs.{AreConsecutive, Refutes}
use Rattle.cnf_form.specs.Spent.{IsSpentLog}
use Rattle.block_choices.specs.Choices.{IsForcedBy}
use Rattle.block_lists.specs.Groups.{IsGroup}
use Rattle.block_lists.specs.Formulas.{IsGroupFormula}
use Rattle.block_lists.specs.Judging.{IsRefutedBy}
use Rattle.block_lists.proofs.Deciding.{group_decides}
use Rattle.block_lists.proofs.Each.{each_group_decides}
use Rattle.block_lists.proofs.Encoding.{group_formula_is_writable}
use Rattle.proof_check.specs.declared.reply.ProofReply.TheVariants.{Verified}
use Rattle.proof_check.specs.Verdicts.{Checks}
use Rattle.group_text.specs.declared.fault.Fault.{Fault}
use Rattle.group_text.specs.declared.fault.Fault.TheVariants.{NoGroup, Overworked, Spent, Unfinished, Unverified}
use Rattle.group_text.specs.declared.wanted.Wanted.{Wanted}
use Rattle.group_text.specs.declared.wanted.Wanted.TheVariants.{Verdicts, Reasons, Ranges}
use Rattle.group_text.specs.Weights.{names_in}
use Rattle.group_text.specs.Groups.{Draft, Event, Underway, asked, events, fault_in, left_open, list_of, next}
use Rattle.group_text.specs.Groups.Event.{Judge, Refuse}
use Rattle.group_text.specs.Groups.Underway.{Outside, Within, Passing}
use Rattle.group_text.specs.Replies.{GroupReply, MayReply, Proof, Replies, is_refused, reply_text}
use Rattle.group_text.specs.Replies.GroupReply.{Certain, Open, Refused}
use Rattle.group_text.specs.Saying.{Said, said}
use Rattle.group_text.specs.Saying.Said.{Skipped, Begins, Lists, Ends, Faulty}
use Rattle.group_text.proofs.Replying.{replies_both}
use Rattle.existence_law.proofs.Drafts.{IsFitting, next_fits}
use Rattle.existence_law.proofs.GroupNumbers.{group_formula}
use Rattle.existence_law.proofs.Spending.{budgets_decide}
use Rattle.existence_law.proofs.Verifying.{dec_verified}

pub record HaveReplies (wanted : Wanted) (budget : ℕ) (es : List Event) : Type 0 where
  pub text : List ℕ
  pub refused : Bool
  pub replied : Replies wanted budget es text refused

module _ (wanted : Wanted) (budget : ℕ) where
  pub none : HaveReplies wanted budget []
  none = record { text = []; refused = false; replied = record { replies = []; each = tt; text_is = refl; refused_is = refl } }

  one : (event : Event) (reply : GroupReply) → MayReply wanted budget event reply → HaveReplies wanted budget (event ∷ [])
  one event reply may = record {
    text = flat_map reply_text (reply ∷ []);
    refused = list_any is_refused (reply ∷ []);
    replied = record { replies = reply ∷ []; each = (may, tt); text_is = refl; refused_is = refl };
  }

  pub both : (es fs : List Event) → HaveReplies wanted budget es → HaveReplies wanted budget fs → HaveReplies wanted budget (es ++ fs)
  both es fs a b = record { text = a.text ++ b.text; refused = a.refused || b.refused; replied = replies_both wanted budget es fs a.text b.text a.refused b.refused a.replied b.replied }

  refuses : (n : ℕ) (fault : Fault) → HaveReplies wanted budget (Refuse n fault ∷ [])
  refuses n fault = one (Refuse n fault) (Refused n fault) refl

-- ---- a group

-- a refutation of a group's formula is shown, or can't be
with_proof : (budget n : ℕ) (d : Draft) (p : Proof) → IsForcedBy d.sizes (names_in d.lists) → IsRefutedBy d.sizes (names_in d.lists) budget p.cnf p.log → HaveReplies Reasons budget (Judge n d ∷ [])
with_proof budget n d p forced refuted = go (dec_verified (reply_text (Certain (Some p))))
  where
    go : Dec (Checks (reply_text (Certain (Some p))) Verified) → HaveReplies Reasons budget (Judge n d ∷ [])
    go (yes v) = one Reasons budget (Judge n d) (Certain (Some p)) (forced, record { refuted = refuted; verified = v })
    go (no f) = one Reasons budget (Judge n d) (Refused n Unverified) (refl, (refl, record { proof = p; refuted = refuted; unverified = f }))

with_reasons : (budget n : ℕ) (d : Draft) → IsGroup d.sizes (names_in d.lists) → IsForcedBy d.sizes (names_in d.lists) → HaveReplies Reasons budget (Judge n d ∷ [])
with_reasons budget n d group forced = by_formula (group_formula d.sizes (names_in d.lists) group.there).0 (group_formula d.sizes (names_in d.lists) group.there).1
  where
    by_formula : (cnf : Cnf) → IsGroupFormula d.sizes (names_in d.lists) cnf → HaveReplies Reasons budget (Judge n d ∷ [])
    by_formula cnf formula = go (budgets_decide cnf budget (group_formula_is_writable d.sizes (names_in d.lists) cnf group formula).literals ((group_decides d.sizes (names_in d.lists) cnf group.there formula).0 forced))
      where
        go : ((steps : List Step) × (Refutes cnf steps × AreConsecutive (length cnf.clauses) steps × (length steps ≤ budget + 1))) ⊎ ((steps : List Step) × IsSpentLog cnf budget steps) → HaveReplies Reasons budget (Judge n d ∷ [])
        go (inl (steps, (refutes, ids, size))) = with_proof budget n d (record { cnf = cnf; log = record { steps = steps } }) forced (record { formula = formula; refutes = refutes; ids = ids; size = size })
        go (inr (steps, spent)) = one Reasons budget (Judge n d) (Refused n (Spent budget)) (refl, (refl, record { cnf = cnf; log = record { steps = steps }; formula = formula; spent = spent }))

judge_has : (wanted : Wanted) (budget n : ℕ) (d : Draft) → IsGroup d.sizes (names_in d.lists) → HaveReplies wanted budget (Judge n d ∷ [])
judge_has Verdicts budget n d group = elim (each_group_decides d.sizes (names_in d.lists)) [
  | inl forced ↦ one Verdicts budget (Judge n d) (Certain None) (forced, tt)
  | inr found ↦ one Verdicts budget (Judge n d) (Open found.0) found.1
]
judge_has Reasons budget n d group = elim (each_group_decides d.sizes (names_in d.lists)) [
  | inl forced ↦ with_reasons budget n d group forced
  | inr found ↦ one Reasons budget (Judge n d) (Open found.0) found.1
]
judge_has Ranges budget n d group = one Ranges budget (Judge n d) (Refused n (Overworked budget)) (refl, refl)

-- ---- lines

module _ (wanted : Wanted) (budget : ℕ) where
  pub left_has : (n : ℕ) (u : Underway) → HaveReplies wanted budget (left_open n u)
  left_has n Outside = none wanted budget
  left_has n (Within d) = refuses wanted budget n Unfinished
  left_has n Passing = none wanted budget

  fault_has : {A : Type 0} (n : ℕ) (r : Result A Fault) → HaveReplies wanted budget (fault_in n r)
  fault_has n (Ok a) = none wanted budget
  fault_has n (Err fault) = refuses wanted budget n fault

  asked_has : (n : ℕ) (u : Underway) (s : Said) → IsFitting u → HaveReplies wanted budget (asked wanted n u s)
  asked_has n u Skipped f = none wanted budget
  asked_has n u (Begins sizes) f = both wanted budget (left_open n u) (fault_in n sizes) (left_has n u) (fault_has n sizes)
  asked_has n Outside (Lists ts) f = refuses wanted budget n NoGroup
  asked_has n (Within d) (Lists ts) f = fault_has n (list_of wanted d ts)
  asked_has n Passing (Lists ts) f = none wanted budget
  asked_has n Outside Ends f = refuses wanted budget n NoGroup
  asked_has n (Within d) Ends f = judge_has wanted budget n d f
  asked_has n Passing Ends f = none wanted budget
  asked_has n Outside (Faulty fault) f = refuses wanted budget n fault
  asked_has n (Within d) (Faulty fault) f = refuses wanted budget n fault
  asked_has n Passing (Faulty fault) f = none wanted budget

  pub events_have : (n : ℕ) (u : Underway) (ls : List (List ℕ)) → IsFitting u → HaveReplies wanted budget (events wanted n u ls)
  events_have n u [] f = none wanted budget
  events_have n u (l ∷ ls) f = both wanted budget (asked wanted n u (said l)) (events wanted (n + 1) (next wanted u (said l)) ls) (asked_has n u (said l) f) (events_have (n + 1) (next wanted u (said l)) ls (next_fits wanted u l f))
