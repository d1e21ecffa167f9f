use Rattle.std.proofs.Common.{◌≡◌, ◌∷◌, ◌+◌, ◌<◌, ◌∙◌, length, suc, arith, sym, subst, ap}
use Rattle.std.specs.Prelude.{Some, None, slice_get, slice_index_or}
use Rattle.nr_prog.specs.declared.body.instruction.Instr.{Instr}
use Rattle.nr_prog.specs.declared.body.whole.Body.{Body}
use Rattle.nr_linked.specs.declared.program.tables.MethodInfo.{MethodInfo}
use Rattle.nr_linked.specs.declared.program.tables.Resolved.{Resolved}
use Rattle.nr_linked.specs.declared.program.tables.Resolved.TheVariants.{Nothing}
use Rattle.nr_linked.specs.Programs.{method_at}
use Rattle.nr_step.specs.declared.flow.Flow.TheVariants as flows
use Rattle.nr_step.specs.Flows.{Went}
use Rattle.nr_step.specs.Instructions.{doing}
use Rattle.nr_step.specs.Windows.{window}
use Rattle.nr_machine.specs.declared.stack.Frame.{Frame as CodeFrame}
use Rattle.nr_machine.specs.Stays.{Stayed, frame_with}
use Rattle.nr_machine.proofs.InFrame.{IsAt, site_facts}
use Rattle.nr_machine.proofs.Places.{offset_of}
use Rattle.nr_machine.proofs.Rising.{read_there}
use Rattle.nr_machine.proofs.Staying.{Staying, all_made, branch_on, branch_there, can_do, found_within, leaves_frame, leaves_so, next_on, place_within, starts, stack_is, depth_fits}
use Rattle.nr_machine.proofs.stack.stay.stay_in_frame.Goals as goal
use Rattle.nr_machine.proofs.stack.stay.stay_in_frame.Goals.{in-Next, in-Branch}

pub loop-made-init : goal.loop-made-init
loop-made-init c = (c.requires.same, starts c.args.program.now c.requires.facts c.args.heap.now.objects c.args.frame.now c.args.locals.now c.args.stack.now c.requires.placed c.requires.room c.cells-before.ensures.few c.requires.stands)

pub bounds-code-frame : goal.bounds-code-frame
bounds-code-frame c =
    let P = c.args.program.now in
    let facts = c.requires.facts in
    let h0 = c.args.heap.now.objects in
    let f0 : CodeFrame = c.args.frame.now in
    let ls0 = c.args.locals.now in
    let st0 = c.args.stack.now in
    let made = c.loop-made.made in
    let h = c.loop-made.heap.objects in
    let f : CodeFrame = c.loop-made.frame in
    let ls = c.loop-made.locals in
    let st = c.loop-made.stack in
    let own : MethodInfo = c.method-own.result.now in
    let body : Body = c.in-Some.body in
    let is_b : own.body ≡ Some body = c.in-Some.is in
    let s : Staying P h0 f0 ls0 st0 made h f ls st = c.loop-made.invariant.1 in
    let is_m : method_at P f.method ≡ Some own = ap (method_at P) s.method ∙ c.method-own.ensures in
    subst (λ is. f.instr < length is) (sym c.as_slice-code.ensures) (place_within P facts h0 f0 ls0 st0 made h f ls st s own body is_m is_b)

pub bounds-found-frame : goal.bounds-found-frame
bounds-found-frame c =
    let P = c.args.program.now in
    let facts = c.requires.facts in
    let h0 = c.args.heap.now.objects in
    let f0 : CodeFrame = c.args.frame.now in
    let ls0 = c.args.locals.now in
    let st0 = c.args.stack.now in
    let made = c.loop-made.made in
    let h = c.loop-made.heap.objects in
    let f : CodeFrame = c.loop-made.frame in
    let ls = c.loop-made.locals in
    let st = c.loop-made.stack in
    let own : MethodInfo = c.method-own.result.now in
    let body : Body = c.in-Some.body in
    let is_b : own.body ≡ Some body = c.in-Some.is in
    let s : Staying P h0 f0 ls0 st0 made h f ls st = c.loop-made.invariant.1 in
    let is_m : method_at P f.method ≡ Some own = ap (method_at P) s.method ∙ c.method-own.ensures in
    subst (λ is. f.instr < length is) (sym c.as_slice-found.ensures) (found_within P facts h0 f0 ls0 st0 made h f ls st s own body is_m is_b)

pub step-flow-requires-clause-site : goal.step-flow-requires-clause-site
step-flow-requires-clause-site c =
    let P = c.args.program.now in
    let facts = c.requires.facts in
    let h0 = c.args.heap.now.objects in
    let f0 : CodeFrame = c.args.frame.now in
    let ls0 = c.args.locals.now in
    let st0 = c.args.stack.now in
    let made = c.loop-made.made in
    let h = c.loop-made.heap.objects in
    let f : CodeFrame = c.loop-made.frame in
    let ls = c.loop-made.locals in
    let st = c.loop-made.stack in
    let own : MethodInfo = c.method-own.result.now in
    let body : Body = c.in-Some.body in
    let is_b : own.body ≡ Some body = c.in-Some.is in
    let s : Staying P h0 f0 ls0 st0 made h f ls st = c.loop-made.invariant.1 in
    let is_m : method_at P f.method ≡ Some own = ap (method_at P) s.method ∙ c.method-own.ensures in
    let x : Instr = c.index-code-frame.result in
    let r : Resolved = slice_index_or c.as_slice-found.result.now f.instr Nothing in
    let l : f.instr < length body.instrs = place_within P facts h0 f0 ls0 st0 made h f ls st s own body is_m is_b in
    let is_x : slice_get body.instrs f.instr ≡ Some x = read_there body.instrs f.instr x x l (c.index-code-frame.is ∙ ap (λ is. slice_index_or is f.instr x) c.as_slice-code.ensures) in
    let is_r : slice_get own.resolved f.instr ≡ Some r = read_there own.resolved f.instr Nothing r (found_within P facts h0 f0 ls0 st0 made h f ls st s own body is_m is_b) (ap (λ rs. slice_index_or rs f.instr Nothing) c.as_slice-found.ensures) in
    (offset_of body.instrs (suc f.instr), site_facts P facts f own body is_m is_b x r is_x is_r)

pub step-flow-requires-clause-room : goal.step-flow-requires-clause-room
step-flow-requires-clause-room c =
    let P = c.args.program.now in
    let facts = c.requires.facts in
    let h0 = c.args.heap.now.objects in
    let f0 : CodeFrame = c.args.frame.now in
    let ls0 = c.args.locals.now in
    let st0 = c.args.stack.now in
    let made = c.loop-made.made in
    let h = c.loop-made.heap.objects in
    let f : CodeFrame = c.loop-made.frame in
    let ls = c.loop-made.locals in
    let st = c.loop-made.stack in
    let own : MethodInfo = c.method-own.result.now in
    let body : Body = c.in-Some.body in
    let is_b : own.body ≡ Some body = c.in-Some.is in
    let s : Staying P h0 f0 ls0 st0 made h f ls st = c.loop-made.invariant.1 in
    let is_m : method_at P f.method ≡ Some own = ap (method_at P) s.method ∙ c.method-own.ensures in
    depth_fits P facts h0 f0 ls0 st0 made h f ls st s own body is_m is_b

pub step-flow-requires-clause-can : goal.step-flow-requires-clause-can
step-flow-requires-clause-can c =
    let P = c.args.program.now in
    let facts = c.requires.facts in
    let h0 = c.args.heap.now.objects in
    let f0 : CodeFrame = c.args.frame.now in
    let ls0 = c.args.locals.now in
    let st0 = c.args.stack.now in
    let made = c.loop-made.made in
    let h = c.loop-made.heap.objects in
    let f : CodeFrame = c.loop-made.frame in
    let ls = c.loop-made.locals in
    let st = c.loop-made.stack in
    let own : MethodInfo = c.method-own.result.now in
    let body : Body = c.in-Some.body in
    let is_b : own.body ≡ Some body = c.in-Some.is in
    let s : Staying P h0 f0 ls0 st0 made h f ls st = c.loop-made.invariant.1 in
    let is_m : method_at P f.method ≡ Some own = ap (method_at P) s.method ∙ c.method-own.ensures in
    let x : Instr = c.index-code-frame.result in
    let r : Resolved = slice_index_or c.as_slice-found.result.now f.instr Nothing in
    let l : f.instr < length body.instrs = place_within P facts h0 f0 ls0 st0 made h f ls st s own body is_m is_b in
    let is_x : slice_get body.instrs f.instr ≡ Some x = read_there body.instrs f.instr x x l (c.index-code-frame.is ∙ ap (λ is. slice_index_or is f.instr x) c.as_slice-code.ensures) in
    let is_r : slice_get own.resolved f.instr ≡ Some r = read_there own.resolved f.instr Nothing r (found_within P facts h0 f0 ls0 st0 made h f ls st s own body is_m is_b) (ap (λ rs. slice_index_or rs f.instr Nothing) c.as_slice-found.ensures) in
    can_do P facts h0 f0 ls0 st0 made h f ls st s own body is_m is_b x r is_x is_r

pub place_at-frame-requires-clause-there : goal.place_at-frame-requires-clause-there
place_at-frame-requires-clause-there c =
    let P = c.args.program.now in
    let facts = c.requires.facts in
    let h0 = c.args.heap.now.objects in
    let f0 : CodeFrame = c.args.frame.now in
    let ls0 = c.args.locals.now in
    let st0 = c.args.stack.now in
    let made = c.loop-made.made in
    let h = c.loop-made.heap.objects in
    let f : CodeFrame = c.loop-made.frame in
    let ls = c.loop-made.locals in
    let st = c.loop-made.stack in
    let own : MethodInfo = c.method-own.result.now in
    let body : Body = c.in-Some.body in
    let is_b : own.body ≡ Some body = c.in-Some.is in
    let s : Staying P h0 f0 ls0 st0 made h f ls st = c.loop-made.invariant.1 in
    let is_m : method_at P f.method ≡ Some own = ap (method_at P) s.method ∙ c.method-own.ensures in
    let x : Instr = c.index-code-frame.result in
    let r : Resolved = slice_index_or c.as_slice-found.result.now f.instr Nothing in
    let l : f.instr < length body.instrs = place_within P facts h0 f0 ls0 st0 made h f ls st s own body is_m is_b in
    let is_x : slice_get body.instrs f.instr ≡ Some x = read_there body.instrs f.instr x x l (c.index-code-frame.is ∙ ap (λ is. slice_index_or is f.instr x) c.as_slice-code.ensures) in
    let is_r : slice_get own.resolved f.instr ≡ Some r = read_there own.resolved f.instr Nothing r (found_within P facts h0 f0 ls0 st0 made h f ls st s own body is_m is_b) (ap (λ rs. slice_index_or rs f.instr Nothing) c.as_slice-found.ensures) in
    let told = c.step-flow.new.told in
    let k = c.step-flow.new.heap.objects in
    let ls2 = c.step-flow.new.locals in
    let st2 = c.step-flow.new.stack in
    let d = c.step-flow.new.depth in
    let as_long : length st2 ≡ length st = c.step-flow.auto.stack in
    let few = c.cells-cells.ensures.few in
    let went : Went flows.Branch P (doing P own x r) (window h ls st f.depth) told (window k ls2 st2 d) = c.in-Branch.ensures.went in
    let there = branch_there P facts h0 f0 ls0 st0 made h f ls st s own body is_m is_b x r is_x is_r told k ls2 st2 d as_long c.step-flow.ensures.room few went in
    (there.0, subst (λ is. IsAt is there.0 told.number) (sym c.as_slice-code.ensures) there.1)

pub returns-in_default-flow : goal.returns-in_default-flow
returns-in_default-flow c =
    let P = c.args.program.now in
    let facts = c.requires.facts in
    let h0 = c.args.heap.now.objects in
    let f0 : CodeFrame = c.args.frame.now in
    let ls0 = c.args.locals.now in
    let st0 = c.args.stack.now in
    let made = c.loop-made.made in
    let h = c.loop-made.heap.objects in
    let f : CodeFrame = c.loop-made.frame in
    let ls = c.loop-made.locals in
    let st = c.loop-made.stack in
    let own : MethodInfo = c.method-own.result.now in
    let body : Body = c.in-Some.body in
    let is_b : own.body ≡ Some body = c.in-Some.is in
    let s : Staying P h0 f0 ls0 st0 made h f ls st = c.loop-made.invariant.1 in
    let is_m : method_at P f.method ≡ Some own = ap (method_at P) s.method ∙ c.method-own.ensures in
    let x : Instr = c.index-code-frame.result in
    let r : Resolved = slice_index_or c.as_slice-found.result.now f.instr Nothing in
    let l : f.instr < length body.instrs = place_within P facts h0 f0 ls0 st0 made h f ls st s own body is_m is_b in
    let is_x : slice_get body.instrs f.instr ≡ Some x = read_there body.instrs f.instr x x l (c.index-code-frame.is ∙ ap (λ is. slice_index_or is f.instr x) c.as_slice-code.ensures) in
    let is_r : slice_get own.resolved f.instr ≡ Some r = read_there own.resolved f.instr Nothing r (found_within P facts h0 f0 ls0 st0 made h f ls st s own body is_m is_b) (ap (λ rs. slice_index_or rs f.instr Nothing) c.as_slice-found.ensures) in
    let told = c.step-flow.new.told in
    let k = c.step-flow.new.heap.objects in
    let ls2 = c.step-flow.new.locals in
    let st2 = c.step-flow.new.stack in
    let d = c.step-flow.new.depth in
    let as_long : length st2 ≡ length st = c.step-flow.auto.stack in
    let few = c.cells-cells.ensures.few in
    let flow = c.step-flow.result in
    let left = leaves_frame flow c.in_default-flow.not-Next c.in_default-flow.not-Branch in
    record {
      same = c.step-flow.ensures.same ∙ c.loop-made.invariant.0 ∙ sym c.requires.same;
      placed = record { method = own; body = body; is_method = is_m; is_body = is_b; instr = l; depth = omega (arith, as_long, c.step-flow.ensures.room, stack_is P facts h0 f0 ls0 st0 made h f ls st s own body is_m is_b) };
      method = s.method;
      few = omega (arith, c.loop-made-test.true);
      stayed = λ below deep. leaves_so P facts h0 f0 ls0 st0 made h f ls st s own body is_m is_b x r is_x is_r told k ls2 st2 d as_long c.step-flow.ensures.room few flow left c.step-flow.ensures.went c.args.steps c.loop-made-test.true below deep;
    }

pub loop-made-preserved : goal.loop-made-preserved
loop-made-preserved c =
    let P = c.args.program.now in
    let facts = c.requires.facts in
    let h0 = c.args.heap.now.objects in
    let f0 : CodeFrame = c.args.frame.now in
    let ls0 = c.args.locals.now in
    let st0 = c.args.stack.now in
    let made = c.loop-made.made in
    let h = c.loop-made.heap.objects in
    let f : CodeFrame = c.loop-made.frame in
    let ls = c.loop-made.locals in
    let st = c.loop-made.stack in
    let own : MethodInfo = c.method-own.result.now in
    let body : Body = c.in-Some.body in
    let is_b : own.body ≡ Some body = c.in-Some.is in
    let s : Staying P h0 f0 ls0 st0 made h f ls st = c.loop-made.invariant.1 in
    let is_m : method_at P f.method ≡ Some own = ap (method_at P) s.method ∙ c.method-own.ensures in
    let x : Instr = c.index-code-frame.result in
    let r : Resolved = slice_index_or c.as_slice-found.result.now f.instr Nothing in
    let l : f.instr < length body.instrs = place_within P facts h0 f0 ls0 st0 made h f ls st s own body is_m is_b in
    let is_x : slice_get body.instrs f.instr ≡ Some x = read_there body.instrs f.instr x x l (c.index-code-frame.is ∙ ap (λ is. slice_index_or is f.instr x) c.as_slice-code.ensures) in
    let is_r : slice_get own.resolved f.instr ≡ Some r = read_there own.resolved f.instr Nothing r (found_within P facts h0 f0 ls0 st0 made h f ls st s own body is_m is_b) (ap (λ rs. slice_index_or rs f.instr Nothing) c.as_slice-found.ensures) in
    let told = c.step-flow.new.told in
    let k = c.step-flow.new.heap.objects in
    let ls2 = c.step-flow.new.locals in
    let st2 = c.step-flow.new.stack in
    let d = c.step-flow.new.depth in
    let as_long : length st2 ≡ length st = c.step-flow.auto.stack in
    let few = c.cells-cells.ensures.few in (
      c.step-flow.ensures.same ∙ c.loop-made.invariant.0,
      elim c.match-flow.branch [
        | in-Next w ↦ subst (λ (g : CodeFrame). Staying P h0 f0 ls0 st0 (made + 1) k g ls2 st2) (sym w.frame-is) (next_on P facts h0 f0 ls0 st0 made h f ls st s own body is_m is_b x r is_x is_r told k ls2 st2 d as_long c.step-flow.ensures.room few w.in-Next.ensures.went)
        | in-Branch w ↦ subst (λ (g : CodeFrame). Staying P h0 f0 ls0 st0 (made + 1) k g ls2 st2) (sym w.frame-is) (branch_on P facts h0 f0 ls0 st0 made h f ls st s own body is_m is_b x r is_x is_r told k ls2 st2 d as_long c.step-flow.ensures.room few w.place_at-frame.result (subst (λ is. IsAt is w.place_at-frame.result told.number) c.as_slice-code.ensures w.place_at-frame.ensures) w.in-Branch.ensures.went)
      ],
    )

pub returns-clause-stayed : goal.returns-clause-stayed
returns-clause-stayed c =
    let P = c.args.program.now in
    let h0 = c.args.heap.now.objects in
    let f0 : CodeFrame = c.args.frame.now in
    let ls0 = c.args.locals.now in
    let st0 = c.args.stack.now in
    let k = c.loop-made.heap.objects in
    let f : CodeFrame = c.loop-made.frame in
    let all : c.loop-made.made ≡ c.args.steps = omega (arith, c.loop-made.auto.made-end, c.loop-made-test.false) in
    λ below deep. subst (λ n. Stayed P n h0 (frame_with P f0 ls0 st0 ∷ below) n None c.loop-made.told k (frame_with P f c.loop-made.locals c.loop-made.stack ∷ below)) all
    (all_made P c.requires.facts h0 f0 ls0 st0 c.loop-made.made k f c.loop-made.locals c.loop-made.stack c.loop-made.invariant.1 c.loop-made.told below deep)
