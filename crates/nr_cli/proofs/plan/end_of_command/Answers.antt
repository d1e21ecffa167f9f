use Rattle.nr_cli.proofs.Counts.{rose_before}
use Rattle.nr_cli.proofs.Listed.{sorted_paths}
use Rattle.nr_cli.proofs.plan.end_of_command.Goals as goal

pub returns-in-Ok-clause-cause : goal.returns-in-Ok-clause-cause
returns-in-Ok-clause-cause g c = λ folder.
    rose_before _ _ _ c.in-Ok.ensures.cause.later
    (c.end_of_paths.ensures.cause
    (λ tells.
    let own = sorted_paths c.args.command.now.dir.now (g.F.Folder.files c.args.folder.now) in
    let names = c.in-Ok.ensures.names tells in
    let files = c.in-Ok.ensures.files tells in
    cc (own, names, files, c.deref.ensures.value))
    folder)
