use Rattle.std.proofs.Common.{arith}
use Rattle.std.proofs.lemmas.Grind.{common_steps}
use Rattle.std.proofs.lemmas.List.Elements.{recursion_from_All}
use Rattle.nr_classwrite.specs.Fits.{EntryFits}
use Rattle.nr_classwrite.proofs.Ranges.{one_more}
use Rattle.nr_classwrite.proofs.write.pool.put_pool.Goals as goal

pub loop-entry-preserved : goal.loop-entry-preserved
loop-entry-preserved c = record {
  text = grind (arith, common_steps);
  fits = one_more EntryFits c.args.pool.now c.loop-entry.entry-index c.entry-item.result c.loop-entry-test.true c.entry-item.is c.in_ok-put_entry.ensures.fits c.loop-entry.invariant.fits;
}

pub returns-clause-fits : goal.returns-clause-fits
returns-clause-fits c = recursion_from_All EntryFits c.args.pool.now (λ k d lt. c.loop-entry.invariant.fits k d (omega (arith, c.loop-entry-test.false)))
