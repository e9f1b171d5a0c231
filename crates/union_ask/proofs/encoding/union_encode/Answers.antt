use Rattle.std.proofs.lemmas.Result.{IfOk-weaker}
use Rattle.row_lists.specs.declared.formula.Encoded.{Encoded}
use Rattle.union_ask.proofs.encoding.union_encode.Goals as goal

pub returns-clause-encoded : goal.returns-clause-encoded
returns-clause-encoded c =
    IfOk-weaker c.encode_parts-encoded.result _ _
    (λ (e : Encoded) h. record { tables = c.in_ok-frame.frame.tables; are_tables = c.in_ok-frame.ensures.tables; lists = h.lists; are_lists = h.are_lists; encoded = h.encoded })
    c.encode_parts-encoded.ensures.encoded
