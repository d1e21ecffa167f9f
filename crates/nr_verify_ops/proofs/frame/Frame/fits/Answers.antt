use Rattle.std.proofs.Common.{◌∙◌, sym}
use Rattle.nr_types.proofs.Padding.{map_fits}
use Rattle.nr_verify_ops.proofs.frame.Frame.fits.Goals as goal

pub returns : goal.returns
returns c = c.fits_map.ensures ∙ sym (map_fits c.args.p.now c.args.self.now c.args.method.now c.args.map.now)
