-- The first frame of a run.
use Rattle.std.proofs.Common.{◌≡◌, ℕ, ◌+◌, ◌≤◌, List, [], ◌∷◌, ◌++◌, length, refl, sym, ap, subst, ◌∙◌, arith}
use Rattle.std.specs.Prelude.{Some, All, IsSomeAnd, reverse}
use Rattle.std.proofs.lemmas.List.{reverse-reverse}
use Rattle.nr_prog.specs.declared.body.whole.Body.{Body}
use Rattle.nr_prog.specs.Offsets.{StandInOrder}
use Rattle.nr_linked.specs.declared.program.tables.MethodInfo.{MethodInfo}
use Rattle.nr_linked.specs.declared.program.tables.ProgramTables.{ProgramTables}
use Rattle.nr_linked.specs.Facts.{ProgramFacts}
use Rattle.nr_linked.specs.Programs.{method_at}
use Rattle.nr_model.specs.declared.value.Value.{Value}
use Rattle.nr_model.specs.Outcomes.{max_value_slots}
use Rattle.nr_model.specs.Steps.{first_frame, spread}
use Rattle.nr_machine.specs.CallStacks.{CanBegin, IsPlaced, IsStack, frame_of, frames_of, slots_of}
use Rattle.nr_machine.proofs.Windows.{frames_more}
use Rattle.nr_machine.proofs.Tops.{all_one}
use Rattle.nr_machine.proofs.Calls.{some_both, some_first}
use Rattle.nr_machine.proofs.Enters.{entry_is, entry_of, first_sized, first_values, slots_of_method}

module _ (P : ProgramTables) (facts : ProgramFacts P) (m : ℕ) (i : MethodInfo) (is_m : method_at P m ≡ Some i) (args : List Value) (can : CanBegin P m args) where
  same : can.method ≡ i
  same = some_both can.is_method is_m

  is_body : i.body ≡ Some can.body
  is_body = subst (λ (i : MethodInfo). i.body ≡ Some can.body) same can.is_body

  laid : StandInOrder can.body.instrs
  laid = (facts.laid_out m i can.body is_m is_body).order

  fits : length (spread args) ≤ i.max_locals
  fits = subst (λ (i : MethodInfo). length (spread args) ≤ i.max_locals) same can.fits

  values_sized : length (first_values i (spread args)) ≡ slots_of P m
  values_sized = first_sized P m i can.body is_m is_body laid (spread args) fits

  pub begun_stack : i.max_locals + i.max_stack ≤ max_value_slots → IsStack P (entry_of m ∷ []) (first_values i (spread args))
  begun_stack few = record {
    placed = all_one (IsPlaced P) (entry_of m)
        (record { method = i; body = can.body; is_method = is_m; is_body = is_body; instr = some_first can.body.instrs laid; depth = omega arith });
    sized = omega (arith, values_sized);
    few_frames = omega arith;
    few_values = omega (arith, values_sized, slots_of_method P m i is_m, few);
  }

  pub begun_frames : IsSomeAnd (method_at P m) (λ j. frames_of P (entry_of m ∷ []) (first_values i (spread args)) ≡ first_frame j m (reverse args) ∷ [])
  begun_frames =
      let r : reverse (reverse args) ≡ args = reverse-reverse args in
      let e : frame_of P (entry_of m) (first_values i (spread args)) ≡ first_frame i m (reverse args)
      = ap (λ us. frame_of P (entry_of m) (first_values i (spread us))) (sym r)
      ∙ entry_is P m i can.body is_m is_body laid (reverse args) (subst (λ us. length (spread us) ≤ i.max_locals) (sym r) fits) in
      subst (λ o. IsSomeAnd o (λ j. frames_of P (entry_of m ∷ []) (first_values i (spread args)) ≡ first_frame j m (reverse args) ∷ [])) (sym is_m)
      (frames_more P [] (entry_of m) [] (first_values i (spread args)) refl values_sized ∙ ap (λ f. f ∷ []) e)
