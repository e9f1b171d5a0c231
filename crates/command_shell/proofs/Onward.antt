-- How answers go on from one piece of an input to the next.
use Rattle.std.proofs.Common.{◌≡◌, ℕ, Bool, false, ◌||◌, List, [], ◌∷◌, ◌++◌, refl, sym, ap, ◌∙◌, subst, append_assoc, append-nil}
use Rattle.std.proofs.lemmas.List.Folds.{list_any-append}
use Rattle.script_lex.specs.Scripts.{Statement, Begins}
use Rattle.script_lex.proofs.Statements.{Begins-append}
use Rattle.reply_text.specs.declared.reply.Reply.{Reply}
use Rattle.reply_text.specs.Texts.{is_refusal}
use Rattle.session_state.specs.State.{State}
use Rattle.command_shell.specs.Runs.{Run, Answers, CutShort, ReachesLast, text_of, has_refusal}
use Rattle.command_shell.proofs.Written.{run_join}
use Rattle.command_shell.specs.Taking.{TakesReplies, TakesLast, TakesRun, HandsAnswers}
use Rattle.command_shell.proofs.Progress.{text_of-append, after_whole}

Takes-trans : {T : Type 0} (took : T → List ℕ → Reply → T → Type 0) (old : T) (s : List Statement) (a : List Reply) (mid : T) (t : List Statement) (b : List Reply) (new : T) → TakesReplies took old s a mid → TakesReplies took mid t b new → TakesReplies took old (s ++ t) (a ++ b) new
Takes-trans took old [] [] mid t b new h k = subst (λ taker. TakesReplies took taker t b new) h k
Takes-trans took old [] (r ∷ a) mid t b new h k = absurd h
Takes-trans took old (x ∷ s) [] mid t b new h k = absurd h
Takes-trans took old (x ∷ s) (r ∷ a) mid t b new h k = (h.0, h.1, Takes-trans took h.0 s a mid t b new h.2 k)

Begins-trans : (ended : Bool) (input : List ℕ) (s : List Statement) (mid : List ℕ) (t : List Statement) (rest : List ℕ) → Begins ended input s mid → Begins ended mid t rest → Begins ended input (s ++ t) rest
Begins-trans ended input [] mid t rest h k = subst (λ l. Begins ended l t rest) (sym h) k
Begins-trans ended input (x ∷ s) mid t rest h k = (h.0, h.1, Begins-trans ended h.0 s mid t rest h.2 k)

-- what was answered of bytes that go on: the replies to complete statements alone
pub record Open {T : Type 0} (took : T → List ℕ → Reply → T → Type 0) (t_old t_mid : T) (old : State) (bytes : List ℕ) (mid : State) (written : List ℕ) (refused : Bool) (rest : List ℕ) : Type 0 where
  pub statements : List Statement
  pub replies : List Reply
  pub begins : Begins false bytes statements rest
  pub run : Run old statements replies mid
  pub written_is : written ≡ text_of replies
  pub refused_is : refused ≡ has_refusal replies
  pub taken : TakesReplies took t_old statements replies t_mid

pub opened : {T : Type 0} {took : T → List ℕ → Reply → T → Type 0} {t_old t_mid : T} {old : State} {bytes : List ℕ} {mid : State} {written : List ℕ} {refused : Bool} (a : Answers old bytes false mid written refused) → TakesRun took t_old a.run.statements a.run.answered a.run.last t_mid → Open took t_old t_mid old bytes mid written refused a.run.rest
opened {took = took} {t_old = t_old} {t_mid = t_mid} a k =
    let alone : a.replies ≡ a.run.answered = a.run.all ∙ ap (λ l. a.run.answered ++ l) a.run.closes ∙ append-nil a.run.answered in
    record {
      statements = a.run.statements;
      replies = a.run.answered;
      begins = a.run.cut.begins;
      run = a.run.run;
      written_is = a.written_is ∙ ap text_of alone;
      refused_is = a.refused_is ∙ ap has_refusal alone;
      taken = subst (TakesReplies took t_old a.run.statements a.run.answered) (sym (subst (λ last. TakesLast took k.mid last t_mid) a.run.closes k.closing)) k.each;
    }

module _ {T : Type 0} {took : T → List ℕ → Reply → T → Type 0} {t_old t_mid : T} {old : State} {bytes : List ℕ} {mid : State} {written : List ℕ} {refused : Bool} {held : List ℕ} (o : Open took t_old t_mid old bytes mid written refused held) (piece : List ℕ) where
  -- the answers to what is held and a piece are answers to all
  pub goes_on : (ended : Bool) (new : State) (t_new : T) (more : List ℕ) (again : Bool) → (a : Answers mid (held ++ piece) ended new more again) → TakesRun took t_mid a.run.statements a.run.answered a.run.last t_new
      → HandsAnswers took t_old t_new old (bytes ++ piece) ended new (written ++ more) (refused || again) a.run.rest
  goes_on ended new t_new more again a k = (
    record {
      replies = o.replies ++ a.replies;
      run = record {
        statements = o.statements ++ a.run.statements;
        rest = a.run.rest;
        answered = o.replies ++ a.run.answered;
        last = a.run.last;
        cut = record {
          begins = Begins-trans ended (bytes ++ piece) o.statements (held ++ piece) a.run.statements a.run.rest (Begins-append ended bytes piece o.statements held o.begins) a.run.cut.begins;
          over = a.run.cut.over;
        };
        run = run_join old mid new o.statements a.run.statements o.replies a.run.answered o.run a.run.run;
        closes = a.run.closes;
        all = ap (λ l. o.replies ++ l) a.run.all ∙ sym (append_assoc o.replies a.run.answered a.run.last);
      };
      written_is = ap (λ l. l ++ more) o.written_is ∙ ap (λ l. text_of o.replies ++ l) a.written_is ∙ sym (text_of-append o.replies a.replies);
      refused_is = ap (λ b. b || again) o.refused_is ∙ ap (λ b. has_refusal o.replies || b) a.refused_is ∙ sym (list_any-append is_refusal o.replies a.replies);
    },
    refl,
    record { mid = k.mid; each = Takes-trans took t_old o.statements o.replies t_mid a.run.statements a.run.answered k.mid o.taken k.each; closing = k.closing },
  )

  -- so are those that stop
  pub stops : (at_end : Type 0) (new : State) (more : List ℕ) → CutShort mid (held ++ piece) at_end new more → CutShort old (bytes ++ piece) at_end new (written ++ more)
  stops at_end new more c = record {
    ended = c.ended;
    is_end = c.is_end;
    statements = o.statements ++ c.statements;
    rest = c.rest;
    replies = o.replies ++ c.replies;
    last = c.last;
    more = c.more;
    begins = Begins-trans c.ended (bytes ++ piece) o.statements (held ++ piece) c.statements c.rest (Begins-append c.ended bytes piece o.statements held o.begins) c.begins;
    run = run_join old mid new o.statements c.statements o.replies c.replies o.run c.run;
    tail = c.tail;
    written_is = ap (λ l. l ++ text_of c.last) (text_of-append o.replies c.replies) ∙ append_assoc (text_of o.replies) (text_of c.replies) (text_of c.last)
        ∙ ap (λ l. text_of o.replies ++ l) c.written_is ∙ ap (λ l. l ++ (more ++ c.more)) (sym o.written_is) ∙ sym (append_assoc written more c.more);
    late = subst (λ l. ReachesLast l (written ++ more)) (sym (append_assoc o.replies c.replies c.last))
        (subst (λ l. ReachesLast (o.replies ++ (c.replies ++ c.last)) (l ++ more)) (sym o.written_is) (after_whole o.replies (c.replies ++ c.last) more c.late));
  }
