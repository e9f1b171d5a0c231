use Rattle.std.proofs.Common.{inl, inr, subst, sym, Contains}
use Rattle.part_search.proofs.spoken.spoken_columns.Goals as goal

pub returns : goal.returns
returns c col (inl (k, m, mc)) e = c.in_ok-add_answered.ensures.kept col.col (c.in_ok-add_tested.ensures k (subst (λ ks. Contains ks k) (sym c.as_slice.ensures) m) col mc e)
returns c col (inr m) e = c.in_ok-add_answered.ensures.added col (subst (λ ks. Contains ks col) (sym c.as_slice-2.ensures) m) e
