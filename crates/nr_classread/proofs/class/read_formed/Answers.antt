use Rattle.std.proofs.Common.{arith}
use Rattle.nr_classread.proofs.Classes.{is_within}
use Rattle.nr_classread.proofs.class.read_formed.Goals as goal

pub from_parts-requires : goal.from_parts-requires
from_parts-requires c = is_within c.args.bytes.now c.in_ok-parts.parts (λ i. omega (arith, c.type_inv.bytes i)) c.in_ok-parts.ensures
