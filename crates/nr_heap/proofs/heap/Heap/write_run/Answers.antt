use Rattle.std.proofs.Common.{◌≡◌, arith, length, ◌≤◌, ◌+◌, ◌∙◌, ap, sym, take, get_or}
use Rattle.std.specs.Prelude.{pos}
use Rattle.std.specs.List.{All}
use Rattle.std.specs.FinMap.{get}
use Rattle.std.proofs.lemmas.List.{length-take-le, take_more}
use Rattle.std.proofs.lemmas.List.Elements.{All-get_or}
use Rattle.nr_model.specs.declared.value.Value.TheVariants.{Int}
use Rattle.nr_model.specs.Heaps.{Obj}
use Rattle.nr_model.specs.Scripts.{with_slot}
use Rattle.nr_heap.specs.Contents.{Keeps, with_run}
use Rattle.nr_heap.proofs.Runs.{run_in, run_length_is, run_of_object, some_at, some_held, some_told, with_more_run, with_no_run}
use Rattle.nr_heap.proofs.Views.{contents, few_slots}
use Rattle.nr_heap.proofs.heap.Heap.write_run.Goals as goal

pub loop-i-init : goal.loop-i-init
loop-i-init c =
    let q = some_held (λ o. c.args.start + length c.args.values.now ≤ length o.slots) (get c.args.self.now.objects c.args.r) c.requires.run in
    some_told _ _ q.0 q.1 (ap (λ h. contents h c.args.self.now.spare) (sym (with_no_run c.args.self.now.objects c.args.r q.0 c.args.start q.1)))

pub overflow_cast-i : goal.overflow_cast-i
overflow_cast-i c = record { fits = omega (arith, few_slots c.self.inside c.args.self.now c.self.view_is c.self.invariant c.args.r (c.args.start + length c.args.values.now) c.requires.run) }

pub overflow_add-start : goal.overflow_add-start
overflow_add-start c = record { fits = omega (arith, few_slots c.self.inside c.args.self.now c.self.view_is c.self.invariant c.args.r (c.args.start + length c.args.values.now) c.requires.run) }

pub set_slot-requires-clause-slot : goal.set_slot-requires-clause-slot
set_slot-requires-clause-slot c =
    let q = some_held (λ o. c.args.start + length c.args.values.now ≤ length o.slots) (get c.args.self.now.objects c.args.r) c.requires.run in
    let i = some_at (λ o. c.loop-i.self ≡ contents (with_run c.args.self.now.objects c.args.r o c.args.start (take c.loop-i.i c.args.values.now)) c.args.self.now.spare) _ q.0 q.1 c.loop-i.invariant in
    let n : length (take c.loop-i.i c.args.values.now) ≡ c.loop-i.i = length-take-le c.loop-i.i c.args.values.now (omega arith) in
    some_told _ _ _ (ap (λ h. get h.objects c.args.r) i ∙ run_of_object c.args.self.now.objects c.args.r q.0 c.args.start (take c.loop-i.i c.args.values.now))
    (omega (arith, q.2, n, run_length_is c.args.self.now.objects c.args.r q.0 c.args.start (take c.loop-i.i c.args.values.now) (omega (arith, n, q.2))))

pub set_slot-requires-clause-keeps : goal.set_slot-requires-clause-keeps
set_slot-requires-clause-keeps c =
    let q = some_held (λ o. All (Keeps o.kind) c.args.values.now) (get c.args.self.now.objects c.args.r) c.requires.keeps in
    let i = some_at (λ o. c.loop-i.self ≡ contents (with_run c.args.self.now.objects c.args.r o c.args.start (take c.loop-i.i c.args.values.now)) c.args.self.now.spare) _ q.0 q.1 c.loop-i.invariant in
    some_told _ _ _ (ap (λ h. get h.objects c.args.r) i ∙ run_of_object c.args.self.now.objects c.args.r q.0 c.args.start (take c.loop-i.i c.args.values.now))
    (All-get_or (Keeps q.0.kind) c.args.values.now c.loop-i.i (Int (pos 0)) (omega arith) q.2)

pub loop-i-preserved : goal.loop-i-preserved
loop-i-preserved c =
    let old = c.args.self.now in
    let vs = take c.loop-i.i c.args.values.now in
    let v = get_or c.args.values.now c.loop-i.i (Int (pos 0)) in
    let q = some_held (λ o. c.args.start + length c.args.values.now ≤ length o.slots) (get old.objects c.args.r) c.requires.run in
    let o : Obj = record q.0 { slots = run_in q.0.slots c.args.start vs } in
    let i = some_at (λ o. c.loop-i.self ≡ contents (with_run old.objects c.args.r o c.args.start vs) old.spare) _ q.0 q.1 c.loop-i.invariant in
    let n : length vs ≡ c.loop-i.i = length-take-le c.loop-i.i c.args.values.now (omega arith) in
    let s = some_at (λ o. c.set_slot.new.self ≡ contents (with_slot c.loop-i.self.objects c.args.r o (c.args.start + c.loop-i.i) v) c.loop-i.self.spare) _ o
    (ap (λ h. get h.objects c.args.r) i ∙ run_of_object old.objects c.args.r q.0 c.args.start vs) c.set_slot.ensures in
    some_told _ _ q.0 q.1
    (s ∙ ap (λ h. contents (with_slot h.objects c.args.r o (c.args.start + c.loop-i.i) v) h.spare) i
    ∙ ap (λ h. contents h old.spare) (with_more_run old.objects c.args.r q.0 c.args.start vs v (c.args.start + c.loop-i.i) (omega (arith, n)) (omega (arith, q.2)))
    ∙ ap (λ vs. contents (with_run old.objects c.args.r q.0 c.args.start vs) old.spare) (sym (take_more c.args.values.now c.loop-i.i (Int (pos 0)) (omega arith))))
