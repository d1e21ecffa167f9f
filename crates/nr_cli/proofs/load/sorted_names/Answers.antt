use Rattle.nr_cli.proofs.Orders as orders
use Rattle.nr_cli.proofs.load.sorted_names.Goals as goal

pub returns-clause-names : goal.returns-clause-names
returns-clause-names g c = λ tells.
    orders.sorted_names _ c.in_ok-names.names.items c.sort.new.self.items (c.in_ok-names.ensures.names tells) c.in_ok-sort.ensures.permutation c.in_ok-sort.ensures.sorted
