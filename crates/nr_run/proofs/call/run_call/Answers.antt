use Rattle.std.proofs.Common.{◌≡◌, ◌+◌, Some, Err, sym, ap, subst, ◌∙◌}
use Rattle.std.specs.Prelude.{IsSome, reverse}
use Rattle.nr_linked.specs.declared.program.tables.ProgramTables.{ProgramTables}
use Rattle.nr_linked.specs.Facts.{ProgramFacts}
use Rattle.nr_model.specs.Belonging.{Belong}
use Rattle.nr_model.specs.Types.{argument_tys}
use Rattle.nr_machine.specs.Executions.{Stands}
use Rattle.nr_run.specs.declared.ran.Ran.{Ran}
use Rattle.nr_run.specs.Runs.{CallEnds, CallStops, int_kind}
use Rattle.nr_run.proofs.Lasts.{call_ends, call_stops, deep_ends, entry, goes, stops_at_once, told}
use Rattle.nr_run.proofs.call.run_call.Goals as goal

pub returns-in-Err-TooDeep-clause-ends : goal.returns-in-Err-TooDeep-clause-ends
returns-in-Err-TooDeep-clause-ends c = λ some.
    let i = entry c.args.p.now c.args.method (λ i. IsSome i.body × Belong c.args.p.now c.args.heap.now.objects (argument_tys i) (reverse c.args.args.now)) c.requires.method in
    subst (CallEnds c.args.p.now c.args.heap.now.objects c.args.method (reverse c.args.args.now) c.args.budget) (sym c.ended_at_once.ensures)
    (deep_ends c.args.p.now c.args.heap.now.objects c.args.method (reverse c.args.args.now) c.args.budget i.0 i.1
    (c.start.ensures.too_deep (c.in-Err-TooDeep.is ∙ ap Err c.in-Err-TooDeep.field-0-is)))

pub returns-in-Err-TooDeep-clause-stops : goal.returns-in-Err-TooDeep-clause-stops
returns-in-Err-TooDeep-clause-stops c =
    let i = entry c.args.p.now c.args.method (λ i. IsSome i.body × Belong c.args.p.now c.args.heap.now.objects (argument_tys i) (reverse c.args.args.now)) c.requires.method in
    subst (λ (r : Ran). CallStops c.args.p.now c.args.heap.now.objects c.args.method (reverse c.args.args.now) c.args.budget r.printed) (sym c.ended_at_once.ensures)
    (stops_at_once c.args.p.now c.args.heap.now.objects c.args.method (reverse c.args.args.now) c.args.budget i.0 i.1)

pub returns-in-Err-NoMemory-clause-stops : goal.returns-in-Err-NoMemory-clause-stops
returns-in-Err-NoMemory-clause-stops c =
    let i = entry c.args.p.now c.args.method (λ i. IsSome i.body × Belong c.args.p.now c.args.heap.now.objects (argument_tys i) (reverse c.args.args.now)) c.requires.method in
    subst (λ (r : Ran). CallStops c.args.p.now c.args.heap.now.objects c.args.method (reverse c.args.args.now) c.args.budget r.printed) (sym c.ended_at_once-in-Err-NoMemory.ensures)
    (stops_at_once c.args.p.now c.args.heap.now.objects c.args.method (reverse c.args.args.now) c.args.budget i.0 i.1)

pub end_told-end-requires : goal.end_told-end-requires
end_told-end-requires c =
    let budget = c.from-budget.result in
    let facts : ProgramFacts c.args.p.now = subst (λ (q : ProgramTables). ProgramFacts q) c.program.ensures.program c.tables-facts.ensures.facts in
    let goes_on = goes c.args.p.now c.args.heap.now.objects c.args.method (reverse c.args.args.now) budget (budget + 1) c.in-Ok.machine c.turn-answer.new.self c.turn-answer.result c.turn-answer.new.heap.objects
    c.in-Ok.ensures.started c.turn-answer.ensures.turned in
    told c.args.p.now c.args.method (reverse c.args.args.now) budget c.args.heap.now.objects c.turn-answer.new.heap.objects c.in-Ok.machine c.turn-answer.new.self c.turn-answer.result
    c.in-Ok.ensures.started goes_on facts.typing
    (c.turn-answer.ensures.stands (Some int_kind) (subst (λ k. Stands k c.args.heap.now.objects c.in-Ok.machine) c.requires.int c.in-Ok.ensures.stands))

pub returns-in-Ok-of-clause-ends : goal.returns-in-Ok-of-clause-ends
returns-in-Ok-of-clause-ends c = λ some.
    let budget = c.from-budget.result in
    let goes_on = goes c.args.p.now c.args.heap.now.objects c.args.method (reverse c.args.args.now) budget (budget + 1) c.in-Ok.machine c.turn-answer.new.self c.turn-answer.result c.turn-answer.new.heap.objects
    c.in-Ok.ensures.started c.turn-answer.ensures.turned in
    let printed : c.turn-answer.new.self.printed ≡ c.in-Ok-of.printed = cc (c.output.ensures, c.in-Ok-of.ensures) in
    subst (λ bytes. CallEnds c.args.p.now c.args.heap.now.objects c.args.method (reverse c.args.args.now) c.args.budget (record { end = c.end_told-end.result; printed = bytes })) printed
    (subst (λ b. CallEnds c.args.p.now c.args.heap.now.objects c.args.method (reverse c.args.args.now) b (record { end = c.end_told-end.result; printed = c.turn-answer.new.self.printed })) c.from-budget.ensures
    (call_ends c.args.p.now c.args.method (reverse c.args.args.now) budget c.args.heap.now.objects c.turn-answer.new.heap.objects c.in-Ok.machine c.turn-answer.new.self c.turn-answer.result
    c.in-Ok.ensures.started goes_on c.in-Ok.ensures.room c.end_told-end.result c.end_told-end.ensures some))

pub returns-in-Ok-of-clause-stops : goal.returns-in-Ok-of-clause-stops
returns-in-Ok-of-clause-stops c =
    let budget = c.from-budget.result in
    let goes_on = goes c.args.p.now c.args.heap.now.objects c.args.method (reverse c.args.args.now) budget (budget + 1) c.in-Ok.machine c.turn-answer.new.self c.turn-answer.result c.turn-answer.new.heap.objects
    c.in-Ok.ensures.started c.turn-answer.ensures.turned in
    let printed : c.turn-answer.new.self.printed ≡ c.in-Ok-of.printed = cc (c.output.ensures, c.in-Ok-of.ensures) in
    subst (CallStops c.args.p.now c.args.heap.now.objects c.args.method (reverse c.args.args.now) c.args.budget) printed
    (subst (λ b. CallStops c.args.p.now c.args.heap.now.objects c.args.method (reverse c.args.args.now) b c.turn-answer.new.self.printed) c.from-budget.ensures
    (call_stops c.args.p.now c.args.method (reverse c.args.args.now) budget c.args.heap.now.objects c.turn-answer.new.heap.objects c.in-Ok.machine c.turn-answer.new.self c.turn-answer.result
    c.in-Ok.ensures.started goes_on c.in-Ok.ensures.room))

pub returns-clause-stops : goal.returns-clause-stops
returns-clause-stops c =
    let i = entry c.args.p.now c.args.method (λ i. IsSome i.body × Belong c.args.p.now c.args.heap.now.objects (argument_tys i) (reverse c.args.args.now)) c.requires.method in
    subst (λ (r : Ran). CallStops c.args.p.now c.args.heap.now.objects c.args.method (reverse c.args.args.now) c.args.budget r.printed) (sym c.ended_at_once-in-Err.ensures)
    (stops_at_once c.args.p.now c.args.heap.now.objects c.args.method (reverse c.args.args.now) c.args.budget i.0 i.1)
