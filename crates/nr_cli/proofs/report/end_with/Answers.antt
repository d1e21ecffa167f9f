use Rattle.std.proofs.Common.{◌∙◌, subst}
use Rattle.std.proofs.lemmas.List.{append-nil}
use Rattle.nr_outside.specs.Bytes.{AddsPart}
use Rattle.nr_cli.specs.Ending.{printed_of, result_of}
use Rattle.nr_cli.proofs.Parts.{longer}
use Rattle.nr_cli.proofs.report.end_with.Goals as goal

pub returns-in-Err-clause-part : goal.returns-in-Err-clause-part
returns-in-Err-clause-part g c = λ tells.
    longer (g.O.Sink.bytes c.args.out.now) (g.O.Sink.bytes c.put_all-in-Err.new.out) (printed_of c.args.end.now) (result_of c.args.end.now)
    (subst (AddsPart (g.O.Sink.bytes c.args.out.now) (g.O.Sink.bytes c.put_all-in-Err.new.out)) (append-nil c.printed-in-Err.result.now ∙ c.printed-in-Err.ensures)
    (c.put_all-in-Err.ensures.part tells))
