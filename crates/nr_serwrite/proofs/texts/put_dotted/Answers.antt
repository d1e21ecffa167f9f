use Rattle.nr_serwrite.proofs.Dotted.{whole_dotted}
use Rattle.nr_serwrite.proofs.texts.put_dotted.Goals as goal

pub returns : goal.returns
returns c = whole_dotted c.loop-byte.out c.args.out.now c.args.text.now c.loop-byte.byte-index c.loop-byte.invariant c.loop-byte-test.false
