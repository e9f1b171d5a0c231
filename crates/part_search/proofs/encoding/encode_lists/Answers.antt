use Rattle.std.proofs.lemmas.Result.{IfOk-weaker}
use Rattle.join_access.specs.Listing.{names_of}
use Rattle.row_lists.specs.declared.formula.Encoded.{Encoded}
use Rattle.row_lists.specs.Encodings.{IsListEncoded}
use Rattle.part_search.proofs.Over.{of-lists}
use Rattle.part_search.proofs.encoding.encode_lists.Goals as goal

pub returns : goal.returns
returns c =
    let parts = c.args.parts.now in
    let lists = c.in_ok-lists.lists in
    let same = c.in_ok-lists.ensures in
    IfOk-weaker c.encode-encoded.result _ _
    (λ (e : Encoded) h. record {
      lists = names_of c.args.lists.now;
      are_lists = c.requires.names;
      encoded = of-lists (λ db frame all. IsListEncoded db frame all e) parts.db.now lists.db.now c.args.frame.now lists.frame.now c.args.lists.now lists.lists.now same.0 same.1 same.2 h;
    })
    c.encode-encoded.ensures
