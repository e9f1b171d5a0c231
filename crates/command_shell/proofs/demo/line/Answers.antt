use Rattle.std.proofs.Common.{◌++◌, ◌∙◌, ap, codes}
use Rattle.command_shell.specs.Demo.{counted}
use Rattle.command_shell.proofs.demo.line.Goals as goal

pub returns : goal.returns
returns c =
    let tally = c.args.tally.now in
    let work = c.in_ok-append_work.ensures ∙ ap (λ l. l ++ counted (codes "demo ") c.args.size ++ counted (codes ": statements ") tally.replies ++ counted (codes ", rows ") c.args.rows) c.new-out.ensures.items in
    c.in_ok-append_answers.ensures ∙ ap (λ l. l ++ counted (codes ", certain ") tally.certain ++ counted (codes ", possible ") tally.possible ++ counted (codes ", refused ") tally.refused ++ codes "\n") work
