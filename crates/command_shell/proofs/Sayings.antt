-- A text says one thing, and something.
use Rattle.std.proofs.Common.{◌≡◌, ◌⊎◌, inl, inr, ℕ, List, Option, Result, Ok, Err, IsErrAnd, refl, sym, ap, ◌∙◌, subst}
use Rattle.cqa_value.specs.declared.memory.Fail.{Fail}
use Rattle.cqa_value.specs.declared.memory.Fail.TheVariants as fails
use Rattle.script_lex.proofs.Spelling.{spells_same, fault_same, spelled_no_fault}
use Rattle.spj_syntax.specs.declared.fault.SyntaxFault.{SyntaxFault}
use Rattle.spj_syntax.specs.declared.tree.Statement.{Statement}
use Rattle.spj_syntax.specs.Parsed.{RefusesTokens}
use Rattle.spj_syntax.specs.Texts.{HasStatement}
use Rattle.spj_syntax.proofs.Answered.{only_fault}
use Rattle.spj_syntax.proofs.Once.{statement_once}
use Rattle.refusals.specs.declared.refusal.Refusal.{Refusal}
use Rattle.reply_text.specs.declared.reply.Reply.{Reply}
use Rattle.reading_law.proofs.Spelling.{texts_have_tokens}
use Rattle.reading_law.proofs.Parsing.{tokens_are_decided}
use Rattle.reading_law.proofs.Trees.{statements_have_trees}
use Rattle.session_state.specs.State.{State}
use Rattle.command_shell.specs.Saying.{of_lexing, of_parsing, SaysNoStatement, Says, IsReadAs, SaysOneThing, SaysSomething}
use Rattle.session_state.specs.Replying.{IsReplyOutcome}
use Rattle.command_shell.specs.Machine.{Does, Step}

no_refusal : (text : List ℕ) (s : Statement) (refusal : Refusal) → HasStatement text s → SaysNoStatement text refusal → ⊥
no_refusal text s refusal a b =
    only_fault text a.tokens (Ok s) (a.allowed, a.fit, a.written) b.fault (subst (λ tokens. RefusesTokens text tokens b.fault) (spells_same b.spelled a.spelled) b.cause)

refused_once : (f g : SyntaxFault) → ((fails.Refused f ≡ fails.Refused g) ⊎ (fails.Refused f ≡ fails.NoMemory)) → f ≡ g
refused_once f g (inl e) = (cc)
refused_once f g (inr e) = absurd (cc e)

-- A text says one thing.
pub says_same : SaysOneThing
says_same text (Ok s) (Ok t) a b = ap Ok (statement_once text s t a b)
says_same text (Ok s) (Err r) a (inl b) = absurd (spelled_no_fault text a.tokens b.fault a.short a.spelled b.cause)
says_same text (Ok s) (Err r) a (inr b) = absurd (no_refusal text s r a b)
says_same text (Err r) (Ok t) (inl a) b = absurd (spelled_no_fault text b.tokens a.fault b.short b.spelled a.cause)
says_same text (Err r) (Ok t) (inr a) b = absurd (no_refusal text t r b a)
says_same text (Err r) (Err q) (inl a) (inl b) = ap Err (a.is ∙ ap of_lexing (fault_same text a.fault b.fault a.cause b.cause) ∙ sym b.is)
says_same text (Err r) (Err q) (inl a) (inr b) = absurd (spelled_no_fault text b.tokens a.fault b.short b.spelled a.cause)
says_same text (Err r) (Err q) (inr a) (inl b) = absurd (spelled_no_fault text a.tokens b.fault a.short a.spelled b.cause)
says_same text (Err r) (Err q) (inr a) (inr b) =
    let other = subst (λ tokens. RefusesTokens text tokens b.fault) (spells_same b.spelled a.spelled) b.cause in
    ap Err (a.is ∙ ap of_parsing (refused_once a.fault b.fault (only_fault text a.tokens (Err (fails.Refused a.fault)) a.cause b.fault other)) ∙ sym b.is)

-- A text says something: a fault of its tokens, a fault of its statement, or its statement.
pub says_something : SaysSomething
says_something text = elim (texts_have_tokens text) [
  | inr fault ↦ (Err (of_lexing fault.0), inl (record { fault = fault.0; cause = fault.1; is = refl }))
  | inl spelled ↦ elim (tokens_are_decided text spelled.0) [
    | inl fault ↦ (Err (of_parsing fault.0), inr (record { tokens = spelled.0; short = spelled.1; spelled = spelled.2; fault = fault.0; cause = fault.1; is = refl }))
    | inr is ↦
        let tree = statements_have_trees text spelled.0 spelled.1 spelled.2 is.0 is.1 in
        (Ok tree.0, record { tokens = spelled.0; short = spelled.1; spelled = spelled.2; allowed = is.0; fit = is.1; written = tree.1 })
  ]
]

-- what a text says decides the reply, whatever else it may say
pub does_as_said : (old new : State) (text : List ℕ) (block : Option (List ℕ)) (reply : Reply) → Step old text block reply new
    → (said : Result Statement Refusal) → Says text said → Does old said block reply new
does_as_said old new text block reply step said says = subst (λ s. Does old s block reply new) (says_same text step.said said step.says says) step.does

-- a text that is read, or refused by its form
pub refused_by_form : (old : State) (text : List ℕ) (block : Option (List ℕ)) (result : Result Reply (Fail Refusal)) (fail : Fail Refusal) → IsErrAnd result (λ e. e ≡ fail) → IsReadAs text (Err fail)
    → IsReplyOutcome result old (Step old text block) old
refused_by_form old text block (Ok reply) fail is read = absurd is
refused_by_form old text block (Err e) fail is read = subst (λ f. IsReplyOutcome (Err f) old (Step old text block) old) (sym is) (of fail read)
  where
    of : (fail : Fail Refusal) → IsReadAs text (Err fail) → IsReplyOutcome (Err fail) old (Step old text block) old
    of fails.NoMemory read = refl
    of (fails.Refused refusal) read = record { said = Err refusal; says = read; does = (refl, refl) }

pub done_as_read : (old new : State) (text : List ℕ) (block : Option (List ℕ)) (statement : Statement) (result : Result Reply (Fail Refusal)) → IsReadAs text (Ok statement)
    → IsReplyOutcome result old (Does old (Ok statement) block) new → IsReplyOutcome result old (Step old text block) new
done_as_read old new text block statement (Ok reply) read done = record { said = Ok statement; says = read; does = done }
done_as_read old new text block statement (Err (fails.Refused refusal)) read done = record { said = Ok statement; says = read; does = done }
done_as_read old new text block statement (Err fails.NoMemory) read done = done
