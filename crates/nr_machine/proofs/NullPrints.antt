-- print([C)V of null: the throw.
use Rattle.std.proofs.Common.{◌≡◌, ℕ, ◌<◌, ◌≤◌, List, [], ◌∷◌, refl, sym, ap, subst, ◌∙◌}
use Rattle.std.specs.Prelude.{Option, Some, IsSomeAnd}
use Rattle.nr_linked.specs.declared.program.built_in.BuiltIn.TheVariants.{NullPointerException}
use Rattle.nr_linked.specs.declared.program.tables.MethodInfo.{MethodInfo}
use Rattle.nr_linked.specs.declared.program.tables.ProgramTables.{ProgramTables}
use Rattle.nr_linked.specs.Programs.{method_at}
use Rattle.nr_linked.specs.Sites.{Site, site_at}
use Rattle.nr_model.specs.declared.value.Value.{Value}
use Rattle.nr_model.specs.declared.value.Value.TheVariants.{Null}
use Rattle.nr_model.specs.CallRules.{print_chars}
use Rattle.nr_model.specs.Heaps.{Heap, cells}
use Rattle.nr_model.specs.Outcomes.{max_cells}
use Rattle.nr_model.specs.Scripts.{Ending, Runs, Script, Threw, Within}
use Rattle.nr_model.specs.States.{Frame}
use Rattle.nr_model.specs.Steps.{within}
use Rattle.nr_model.specs.Throws.{onward, throw_new}
use Rattle.nr_step.specs.declared.flow.Flow.{Flow}
use Rattle.nr_step.specs.declared.flow.Flow.TheVariants as flows
use Rattle.nr_step.specs.declared.flow.Told.{Told}
use Rattle.nr_step.specs.Flows.{TakesCells, ThrewNew, Went}
use Rattle.nr_step.specs.Instructions.{doing}
use Rattle.nr_machine.specs.declared.stack.print.Printing.TheVariants as printings
use Rattle.nr_machine.specs.CallStacks.{OnRunning}
use Rattle.nr_machine.specs.Prints.{PrintsBy}
use Rattle.nr_machine.specs.Stays.{FrameWent, Leaves, LeavesFrame}

module _ (P : ProgramTables) (own : MethodInfo) (site : Site) (f : Frame) (h : Heap) (us : List Value) (top : f.operands ≡ Null ∷ us)
    (does : (n : Option ℕ) → doing P own site.instr site.resolved n ≡ print_chars P (onward n)) where
  abbrev w : Within
  w = within h f

  -- it does what the throw does
  throws : (n : Option ℕ) (e : Ending) (u : Within) → Runs (throw_new P NullPointerException) w e u → Runs (doing P own site.instr site.resolved n) w e u
  throws n e u r =
      subst (λ sc. Runs sc w e u) (sym (does n))
      (subst (λ vs. Runs (print_chars P (onward n)) (record w { operands = vs }) e u) (sym top) (subst (λ vs. Runs (throw_new P NullPointerException) (record w { operands = vs }) e u) top r))

  thrown : (n : Option ℕ) (e : Ending) (u : Within) → Runs (doing P own site.instr site.resolved n) w e u → Runs (throw_new P NullPointerException) w e u
  thrown n e u r =
      subst (λ vs. Runs (throw_new P NullPointerException) (record w { operands = vs }) e u) (sym top)
      (subst (λ vs. Runs (print_chars P (onward n)) (record w { operands = vs }) e u) top (subst (λ sc. Runs sc w e u) (does n) r))

  went_null : (flow : Flow) (told : Told) (j : Heap) → ThrewNew flow (throw_new P NullPointerException) w told j → Went flow P (doing P own site.instr site.resolved) w told (within j f)
  went_null flows.Throw told j x = (refl, λ n. (x.0, throws n (Threw told.number) x.0 x.1, x.2, x.3))
  went_null flows.NoMemory told j x = (ap (λ h. within h f) x.0, λ n e u r. x.1 e u (thrown n e u r))
  went_null flows.Full told j x = (ap (λ h. within h f) x.0, (x.1, λ n e u r. x.2 e u (thrown n e u r)))
  went_null flows.Next told j x = absurd x
  went_null flows.Branch told j x = absurd x
  went_null flows.Invoke told j x = absurd x
  went_null flows.Print told j x = absurd x
  went_null flows.Return told j x = absurd x
  went_null flows.ReturnTop told j x = absurd x

leaves_threw : (flow : Flow) (sc : Script) (w : Within) (told : Told) (j : Heap) → ThrewNew flow sc w told j → LeavesFrame flow
leaves_threw flows.Next sc w told j x = x
leaves_threw flows.Branch sc w told j x = x
leaves_threw flow sc w told j x = tt

pub null_leaves : (P : ProgramTables) (h k j : Heap) (fs : List Frame) (flow : Flow) (told : Told) → cells k ≤ max_cells → PrintsBy P h k printings.Chars fs → OnRunning fs (λ f below. (us : List Value) × (f.operands ≡ Null ∷ us))
    → ((w : Within) → w.heap ≡ k → ThrewNew flow (throw_new P NullPointerException) w told j) → Leaves P fs flow told h j
null_leaves P h k j [] flow told few q top x = absurd top
null_leaves P h k j (f ∷ below) flow told few q top x =
    let own : MethodInfo = q.1.0 in
    let site : Site = q.1.1 in
    let y = x (within h f) q.0 in
    let went = went_null P own site f h top.0 top.1 q.1.4 flow told j y in
    let at : IsSomeAnd (site_at own f.offset) (λ s. Went flow P (doing P own s.instr s.resolved) (within h f) told (within j f)) = subst (λ o. IsSomeAnd o (λ (s : Site). Went flow P (doing P own s.instr s.resolved) (within h f) told (within j f))) (sym q.1.3) went in
    record {
      few = subst (λ k. cells k ≤ max_cells) (sym q.0) few;
      leaves = leaves_threw flow (throw_new P NullPointerException) (within h f) told j y;
      went = subst (λ o. IsSomeAnd o (λ (i : MethodInfo). IsSomeAnd (site_at i f.offset) (λ (s : Site). Went flow P (doing P i s.instr s.resolved) (within h f) told (within j f)))) (sym q.1.2) at;
    }

pub threw_so : (flow : Flow) (sc : Script) (w : Within) (told : Told) (j : Heap) → ThrewNew flow sc w told j → (flow ≡ flows.Throw → ⊥) → (flow ≡ flows.NoMemory → ⊥) → (flow ≡ flows.Full → ⊥) → ⊥
threw_so flows.Throw sc w told j x a b c = a refl
threw_so flows.NoMemory sc w told j x a b c = b refl
threw_so flows.Full sc w told j x a b c = c refl
threw_so flow sc w told j x a b c = x
