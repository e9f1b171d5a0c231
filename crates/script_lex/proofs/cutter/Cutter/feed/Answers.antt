use Rattle.std.proofs.lemmas.List.{drop-append-le, take_rest}
use Rattle.script_lex.proofs.Progressing.{Holds-append}
use Rattle.script_lex.proofs.cutter.Cutter.feed.Goals as goal

pub look_on-requires : goal.look_on-requires
look_on-requires c =
    rw (take_rest, c.deref.ensures.value, c.in_ok-extend_from_slice.ensures.items, drop-append-le c.let_go.new.taken c.let_go.new.held.items c.args.piece.now c.let_go.ensures.within, c.let_go.ensures.rest)
    (Holds-append _ c.args.piece.now c.self.inside.known c.self.invariant.1)
