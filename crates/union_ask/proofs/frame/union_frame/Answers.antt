use Rattle.std.proofs.Common.{◌<◌, length, subst}
use Rattle.union_ask.proofs.frame.union_frame.Goals as goal

pub rising_frame-requires : goal.rising_frame-requires
rising_frame-requires c t m =
    let s = (c.in_ok-tables.ensures t).0 m in
    subst (λ u. u < length c.args.parts.now.db.now) s.2.2 ((c.args.parts.now.parts.fits s.0 s.1).there s.2.0 s.2.1)

pub returns-clause-frame : goal.returns-clause-frame
returns-clause-frame c = record {
  is = c.in_ok-frame.ensures.frame;
  all = λ t s. (c.in_ok-frame.ensures.same t).1 ((c.in_ok-tables.ensures t).1 s);
}

pub returns-clause-tables : goal.returns-clause-tables
returns-clause-tables c = record {
  in_order = c.in_ok-frame.ensures.rises;
  exactly = λ t. (λ m. (c.in_ok-tables.ensures t).0 ((c.in_ok-frame.ensures.same t).0 m), λ s. (c.in_ok-frame.ensures.same t).1 ((c.in_ok-tables.ensures t).1 s));
}
