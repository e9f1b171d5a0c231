use Rattle.std.proofs.Common.{None, Some, codes, map, subst}
use Rattle.std.specs.Prelude.{string_bytes}
use Rattle.command_shell.specs.declared.ending.Command.TheVariants.{Run, Check, Demo, Judge}
use Rattle.command_shell.specs.declared.ending.Ending.TheVariants.{BadWords}
use Rattle.command_shell.specs.Top.{AreWordsFor}
use Rattle.command_shell.proofs.Statuses.{refused_words, completed, demo_completed}
use Rattle.command_shell.proofs.Words.{no_demo, no_demo_judged}
use Rattle.command_shell.proofs.top.run_words.Goals as goal

pub returns-in-None-clause-row : goal.returns-in-None-clause-row
returns-in-None-clause-row g c = (None, c.in-None.ensures, (BadWords, c.code.ensures, refused_words _ _))

pub returns-in-Some-Run-clause-completed : goal.returns-in-Some-Run-clause-completed
returns-in-Some-Run-clause-completed g c some words reads writes short = completed (Some Run) c.run.result _ _ _ _ _ c.code-in-Some-Run.ensures c.run.ensures.row.call (λ e. (cc)) reads writes short

pub returns-in-Some-Check-clause-completed : goal.returns-in-Some-Check-clause-completed
returns-in-Some-Check-clause-completed g c some words reads writes short =
    completed (Some Check) c.check.result _ _ c.args.session.now c.args.session.now _ c.code-in-Some-Check.ensures (c.check.ensures.row c.args.session.now) (λ e. (cc)) reads writes short

pub returns-in-Some-Demo-clause-completed : goal.returns-in-Some-Demo-clause-completed
returns-in-Some-Demo-clause-completed g c some words reads writes short =
    completed (Some (Demo c.in-Some-Demo.size)) c.demo.result _ _ c.args.session.now _ _ c.code-in-Some-Demo.ensures (c.demo.ensures.row (g.S.Source.left c.args.source.now) (g.S.Source.faults c.args.source.now)) (λ e. (cc)) reads writes short

pub returns-in-None-clause-demo_completed : goal.returns-in-None-clause-demo_completed
returns-in-None-clause-demo_completed g c size words writes = absurd (c.in-None.ensures (Demo size) words)

pub returns-in-Some-Run-clause-demo_completed : goal.returns-in-Some-Run-clause-demo_completed
returns-in-Some-Run-clause-demo_completed g c size words writes = absurd (no_demo c.args.words.now (codes "run") size (subst (AreWordsFor c.args.words.now) c.in-Some-Run.field-0-is c.in-Some-Run.ensures) words)

pub returns-in-Some-Check-clause-demo_completed : goal.returns-in-Some-Check-clause-demo_completed
returns-in-Some-Check-clause-demo_completed g c size words writes = absurd (no_demo c.args.words.now (codes "check") size (subst (AreWordsFor c.args.words.now) c.in-Some-Check.field-0-is c.in-Some-Check.ensures) words)

pub returns-in-Some-Demo-clause-demo_completed : goal.returns-in-Some-Demo-clause-demo_completed
returns-in-Some-Demo-clause-demo_completed g c size words writes =
    demo_completed c.in-Some-Demo.size c.demo.result _ _ c.code-in-Some-Demo.ensures (c.demo.ensures.row (g.S.Source.left c.args.source.now) (g.S.Source.faults c.args.source.now)).row writes

pub returns-in-Some-Judge-clause-completed : goal.returns-in-Some-Judge-clause-completed
returns-in-Some-Judge-clause-completed g c some words reads writes short =
    completed (Some (Judge c.in-Some-Judge.wanted c.in-Some-Judge.budget)) c.judge.result _ _ c.args.session.now c.args.session.now _ c.code-in-Some-Judge.ensures (c.judge.ensures.row c.args.session.now) (λ e. (cc)) reads writes short

pub returns-in-Some-Judge-clause-demo_completed : goal.returns-in-Some-Judge-clause-demo_completed
returns-in-Some-Judge-clause-demo_completed g c size words writes =
    absurd (no_demo_judged (map string_bytes c.args.words.now) c.in-Some-Judge.wanted c.in-Some-Judge.budget size (subst (AreWordsFor c.args.words.now) c.in-Some-Judge.field-0-is c.in-Some-Judge.ensures) words)
