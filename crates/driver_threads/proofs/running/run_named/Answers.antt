use Rattle.driver_threads.proofs.Closing.{drivers_ready, drivers_all, has_run}
use Rattle.driver_threads.proofs.running.run_named.Goals as goal

pub close-core-requires-clause-ready : goal.close-core-requires-clause-ready
close-core-requires-clause-ready g c =
    drivers_ready g.N.Named.table c.args.first c.args.boot.now c.args.drivers.now c.in_ok-all.all.items c.in_ok-all.answers.items c.requires.starts c.in_ok-all.ensures

pub close-core-requires-clause-all : goal.close-core-requires-clause-all
close-core-requires-clause-all g c =
    drivers_all g.N.Named.table c.args.first c.args.boot.now c.args.drivers.now c.in_ok-all.all.items c.in_ok-all.answers.items c.requires.starts c.in_ok-all.ensures

pub returns : goal.returns
returns g c =
    has_run g.N.Named.table c.args.first c.args.boot.now c.args.drivers.now c.in_ok-all.all.items c.in_ok-all.answers.items c.requires.starts c.in_ok-all.ensures c.close-core.result.core record {
      opened = c.close-core.ensures.opened;
      start = c.close-core.ensures.start;
      seen = c.close-core.ensures.seen;
      mine = c.close-core.ensures.mine;
      numbers = c.close-core.ensures.numbers;
      quiet = c.close-core.ensures.quiet;
      legal = c.close-core.ensures.legal;
    }
