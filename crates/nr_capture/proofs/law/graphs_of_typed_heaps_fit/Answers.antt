use Rattle.nr_capture.proofs.Fits.{pictured_fits}
use Rattle.nr_capture.proofs.law.graphs_of_typed_heaps_fit.Goals as goal

pub returns : goal.returns
returns c = pictured_fits
