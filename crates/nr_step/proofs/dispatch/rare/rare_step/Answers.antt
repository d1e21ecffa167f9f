use Rattle.std.proofs.Common.{rules}
use Rattle.nr_step.specs.Codes.{IsNoneOf, rare}
use Rattle.nr_step.proofs.Codes.{other_code}
use Rattle.nr_step.proofs.dispatch.rare.rare_step.Goals as goal

pub unreachable-requires : goal.unreachable-requires
unreachable-requires c =
    let none : IsNoneOf rare c.args.i.now.row.code = search rules in
    other_code c.args.i.now.row c.requires.site.1.row c.requires.rare none
