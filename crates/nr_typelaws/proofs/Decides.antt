-- No check of any method fails exactly where the program is well typed.
use Rattle.std.proofs.Common.{◌≡◌, ℕ, List, refl, sym, ap, subst, ◌∙◌}
use Rattle.std.specs.Prelude.{Option, Some, None}
use Rattle.std.specs.Option.{option_map_or}
use Rattle.nr_prog.specs.declared.body.whole.Body.{Body}
use Rattle.nr_linked.specs.declared.program.tables.MethodInfo.{MethodInfo}
use Rattle.nr_linked.specs.declared.program.tables.ProgramTables.{ProgramTables}
use Rattle.nr_linked.specs.Programs.{method_at}
use Rattle.nr_linked.specs.TypingFaults.{MethodFault, first_in}
use Rattle.nr_linked.specs.WellTyped.{MethodTyped, WellTyped}
use Rattle.nr_linked.specs.Layout.{IsLaidOut}
use Rattle.nr_typelaws.specs.Faultless.{HasNoFault}
use Rattle.nr_typelaws.specs.Frames.{frames_in, frames_of}
use Rattle.nr_typelaws.proofs.Sound.{passes_typed}
use Rattle.nr_typelaws.proofs.Complete.{typed_passes}

module _ (P : ProgramTables) (laid : IsLaidOut P) where
  these_frames : (n : ℕ) (m : MethodInfo) (body : Body) → method_at P n ≡ Some m → m.body ≡ Some body → frames_in P m body ≡ frames_of P n
  these_frames n m body e f =
      sym (ap (λ o. option_map_or (λ (m : MethodInfo). option_map_or (frames_in P m) m.body Rattle.std.proofs.Common.[]) o Rattle.std.proofs.Common.[]) e
      ∙ ap (λ o. option_map_or (frames_in P m) o Rattle.std.proofs.Common.[]) f)

  pub sound : HasNoFault P → WellTyped P
  sound none = record {
    frames = frames_of P;
    methods = λ n m body e f. subst (λ fs. MethodTyped P m body fs) (these_frames n m body e f)
        (passes_typed P m body f (laid n m body e f) (sym (ap (λ o. option_map_or (first_in P m) o None) f) ∙ none n m e));
  }

  pub complete : WellTyped P → HasNoFault P
  complete typed n m e = by_body m.body refl
    where
      by_body : (o : Option Body) → m.body ≡ o → ◌≡◌ {A = Option MethodFault} (option_map_or (first_in P m) o None) None
      by_body None f = refl
      by_body (Some body) f = typed_passes P m (typed.frames n) body (typed.methods n m body e f) f (laid n m body e f)
