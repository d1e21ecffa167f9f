use Rattle.std.proofs.Common.{refl}
use Rattle.nr_serread.proofs.Keeping.{still_fits}
use Rattle.nr_serread.proofs.content.read_array.Goals as goal

pub open_node-requires : goal.open_node-requires
open_node-requires c = still_fits c.args.w.now _ _ _ _ _ _ _ _ refl refl c.in_ok-kind.ensures c.requires
