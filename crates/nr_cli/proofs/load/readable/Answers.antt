use Rattle.nr_cli.proofs.Fields as fields
use Rattle.nr_cli.proofs.load.readable.Goals as goal

pub returns-clause-readable : goal.returns-clause-readable
returns-clause-readable c = fields.readable _ c.args.bytes.now c.requires.reads c.requires.bodies c.parts.ensures.formed c.parts.ensures.bounds c.parts.ensures.texts
