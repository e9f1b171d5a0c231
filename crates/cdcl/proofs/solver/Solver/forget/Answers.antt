use Rattle.std.proofs.Common.{length}
use Rattle.cnf_form.specs.Literals.{literals}
use Rattle.search_trail.specs.Trail.{held}
use Rattle.cdcl.proofs.Thinning.{watching_thinned, lists_thinned}
use Rattle.cdcl.proofs.solver.Solver.forget.Goals as goal

pub returns-in_ok-thin_lists-clause-ready : goal.returns-in_ok-thin_lists-clause-ready
returns-in_ok-thin_lists-clause-ready c =
    let self = c.args.self.now in
    let lists = c.thin_lists.new.lists.items in
    let ready = c.requires.watchful in
    let thin = c.in_ok-thin_lists.ensures in
    record {
      watchful = record {
        sound = ready.sound;
        watching = watching_thinned self.lists.items lists (literals self.clauses.items) (held self.trail.items) self.level_starts.items self.head self.pairs.items thin ready.watching;
        lists = lists_thinned self.permanent self.lists.items lists (length self.places.items) (length self.pairs.items) thin ready.lists;
      };
      all = c.requires.all;
    }
