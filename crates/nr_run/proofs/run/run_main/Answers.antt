use Rattle.std.proofs.Common.{◌∷◌, [], sym, subst}
use Rattle.std.specs.Prelude.{IsSome, IsSomeAnd}
use Rattle.nr_linked.specs.declared.program.tables.ProgramTables.{ProgramTables}
use Rattle.nr_linked.specs.Facts.{ProgramFacts}
use Rattle.nr_linked.specs.Programs.{method_at}
use Rattle.nr_model.specs.declared.value.Value.TheVariants.{Ref}
use Rattle.nr_model.specs.Belonging.{Belong}
use Rattle.nr_model.specs.Heaps.{Heap}
use Rattle.nr_model.specs.TypedHeaps.{TypedHeap}
use Rattle.nr_model.specs.Types.{argument_tys}
use Rattle.nr_run.specs.Runs.{CallEnds, CallStops, first_args, first_heap}
use Rattle.nr_run.proofs.Lasts.{stops_at_once}
use Rattle.nr_run.proofs.Renamed.{call_ends_over, call_stops_over}
use Rattle.nr_run.proofs.Starts.{can_call, gives_int, lone_typed}
use Rattle.nr_run.proofs.run.run_main.Goals as goal

pub run_call-requires-clause-method : goal.run_call-requires-clause-method
run_call-requires-clause-method c =
    let facts : ProgramFacts c.args.p.now = subst (λ (q : ProgramTables). ProgramFacts q) c.program.ensures.program c.tables-facts.ensures.facts in
    subst (λ (h : Heap). IsSomeAnd (method_at c.args.p.now c.args.main) (λ i. IsSome i.body × Belong c.args.p.now h (argument_tys i) (Ref c.in-Ok.name ∷ []))) (sym c.in-Ok.ensures)
    (can_call c.args.p.now c.in-Ok.name c.args.ints.now facts.linked c.args.main c.requires.main)

pub run_call-requires-clause-int : goal.run_call-requires-clause-int
run_call-requires-clause-int c =
    let facts : ProgramFacts c.args.p.now = subst (λ (q : ProgramTables). ProgramFacts q) c.program.ensures.program c.tables-facts.ensures.facts in
    gives_int c.args.p.now c.in-Ok.name c.args.ints.now facts.linked c.args.main c.requires.main

pub run_call-requires-clause-heap : goal.run_call-requires-clause-heap
run_call-requires-clause-heap c = subst (λ (h : Heap). TypedHeap c.args.p.now h) (sym c.in-Ok.ensures) (lone_typed c.args.p.now c.in-Ok.name c.args.ints.now)

pub returns-in-Ok-clause-ends : goal.returns-in-Ok-clause-ends
returns-in-Ok-clause-ends c = λ some.
    call_ends_over c.args.p.now c.args.main c.in-Ok.name 0 c.args.budget c.args.ints.now c.run_call.result
    (subst (λ (h : Heap). CallEnds c.args.p.now h c.args.main (Ref c.in-Ok.name ∷ []) c.args.budget c.run_call.result) c.in-Ok.ensures (c.run_call.ensures.ends some))

pub returns-in-Ok-clause-stops : goal.returns-in-Ok-clause-stops
returns-in-Ok-clause-stops c =
    call_stops_over c.args.p.now c.args.main c.in-Ok.name 0 c.args.budget c.args.ints.now c.run_call.result.printed
    (subst (λ (h : Heap). CallStops c.args.p.now h c.args.main (Ref c.in-Ok.name ∷ []) c.args.budget c.run_call.result.printed) c.in-Ok.ensures c.run_call.ensures.stops)

pub returns-in-Err-clause-stops : goal.returns-in-Err-clause-stops
returns-in-Err-clause-stops c =
    subst (λ bytes. CallStops c.args.p.now (first_heap c.args.ints.now) c.args.main first_args c.args.budget bytes) (sym c.new.ensures)
    (stops_at_once c.args.p.now (first_heap c.args.ints.now) c.args.main first_args c.args.budget c.requires.main.info c.requires.main.is_info)
