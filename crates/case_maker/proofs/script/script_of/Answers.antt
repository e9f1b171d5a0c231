use Rattle.std.proofs.Common.{◌≤◌, ◌++◌, ◌∙◌, ap, length, subst, sym}
use Rattle.case_maker.specs.Scripts.{script_bytes}
use Rattle.case_maker.proofs.Lengths.{script_short}
use Rattle.case_maker.proofs.script.script_of.Goals as goal

pub returns-clause-short : goal.returns-clause-short
returns-clause-short c =
    let text = c.in_ok-append_script.ensures ∙ ap (λ old. old ++ script_bytes c.args.size) c.new-out.ensures.items in
    subst (λ text. length text ≤ 268_435_456) (sym text) (script_short c.args.size c.requires.few)
