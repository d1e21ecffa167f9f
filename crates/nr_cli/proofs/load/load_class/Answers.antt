use Rattle.nr_cli.proofs.Files.{loaded}
use Rattle.nr_cli.proofs.load.load_class.Goals as goal

pub returns-in-Ok-clause-class : goal.returns-in-Ok-clause-class
returns-in-Ok-clause-class g c = λ tells.
    loaded c.args.path.now _ c.in-Ok.bytes c.deref.result.now c.load_bytes.result (c.in-Ok.ensures.bytes tells) c.deref.ensures.value c.load_bytes.ensures.class
