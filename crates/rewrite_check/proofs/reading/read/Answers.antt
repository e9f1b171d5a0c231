use Rattle.std.proofs.Common.{[], subst, arith}
use Rattle.block_tree.specs.declared.cause.RewriteCheck.TheVariants.{BadText}
use Rattle.rewrite_check.specs.Spelling.{ChecksRewriting, Created, Ordered}
use Rattle.rewrite_check.specs.Reading.{GoesFrom, IsBadStatement}
use Rattle.rewrite_check.proofs.Kept.{ordered_few}
use Rattle.rewrite_check.proofs.Moving.{more_read, all_read, few_listed, bad_behind, refused_on}
use Rattle.rewrite_check.proofs.reading.read.Goals as goal

pub nodes-requires : goal.nodes-requires
nodes-requires c = ordered_few c.new-script.result c.begun.new.script c.in_ok-certificate.certificate c.in_ok-certificate.ensures.leads

pub returns-in-Ok-clause-spelled : goal.returns-in-Ok-clause-spelled
returns-in-Ok-clause-spelled c =
    let new = c.nodes.new.certificate in
    let end = c.nodes.new.script in
    let read = more_read (Created []) (Ordered c.in_ok-certificate.certificate) (Ordered new) c.new-script.result c.begun.new.script end c.in_ok-certificate.ensures.leads c.in-Ok.ensures.leads.0 in
    all_read c.args.bytes.now new end (subst (λ z. GoesFrom (Created []) z (Ordered new) end) c.new-script.ensures read) c.in-Ok.ensures.leads.1

pub returns-in-Ok-clause-few : goal.returns-in-Ok-clause-few
returns-in-Ok-clause-few c =
    let new = c.nodes.new.certificate in
    let end = c.nodes.new.script in
    let read = more_read (Created []) (Ordered c.in_ok-certificate.certificate) (Ordered new) c.new-script.result c.begun.new.script end c.in_ok-certificate.ensures.leads c.in-Ok.ensures.leads.0 in
    let few = few_listed c.args.bytes.now new end (subst (λ z. GoesFrom (Created []) z (Ordered new) end) c.new-script.ensures read) in
    omega (arith, few, c.in-Ok.ensures.few)

pub returns-in-Err-clause-bad : goal.returns-in-Err-clause-bad
returns-in-Err-clause-bad c =
    let stage = Ordered c.in_ok-certificate.certificate in
    refused_on c.in-Err.fail (IsBadStatement stage c.begun.new.script) (λ n. ChecksRewriting c.args.bytes.now (BadText n))
    (λ n h. subst (λ z. IsBadStatement (Created []) z n) c.new-script.ensures (bad_behind (Created []) stage c.new-script.result c.begun.new.script n c.in_ok-certificate.ensures.leads h)) c.in-Err.ensures.bad
