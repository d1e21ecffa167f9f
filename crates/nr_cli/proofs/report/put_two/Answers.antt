use Rattle.nr_cli.proofs.Parts.{later, longer}
use Rattle.nr_cli.proofs.report.put_two.Goals as goal

pub returns-in_err-put-clause-part : goal.returns-in_err-put-clause-part
returns-in_err-put-clause-part g c = λ tells.
    longer (g.S.Sink.bytes c.args.sink.now) (g.S.Sink.bytes c.put.new.sink) c.args.first.now c.args.second.now (c.put.ensures.part tells)

pub returns-clause-part : goal.returns-clause-part
returns-clause-part g c = λ tells.
    later (g.S.Sink.bytes c.args.sink.now) (g.S.Sink.bytes c.put.new.sink) (g.S.Sink.bytes c.put-2.new.sink) c.args.first.now c.args.second.now
    (c.in_ok-put.ensures.ok tells) (c.put-2.ensures.part tells)
