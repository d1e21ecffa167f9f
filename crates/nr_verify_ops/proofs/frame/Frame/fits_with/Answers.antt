use Rattle.std.proofs.Common.{◌∙◌, ◌∷◌, [], sym}
use Rattle.nr_verify_ops.specs.Answers.{with_operands}
use Rattle.nr_types.proofs.Padding.{map_fits}
use Rattle.nr_verify_ops.proofs.frame.Frame.fits_with.Goals as goal

pub returns : goal.returns
returns c = c.fits_map_with.ensures ∙ sym (map_fits c.args.p.now (with_operands c.args.self.now (c.args.t ∷ [])) c.args.method.now c.args.map.now)
