-- Where the machine asks, its instruction calls.
use Rattle.std.proofs.Common.{◌≡◌, ℕ, List, [], ◌∷◌, refl, sym, ap, ap₂, subst, ◌∙◌}
use Rattle.std.specs.Prelude.{Option, Some, None, is_some, if◌then◌else◌}
use Rattle.nr_linked.specs.declared.program.built_in.BuiltIn.TheVariants.{AbstractMethodError}
use Rattle.nr_linked.specs.declared.program.tables.MethodInfo.{MethodInfo}
use Rattle.nr_linked.specs.declared.program.tables.ProgramTables.{ProgramTables}
use Rattle.nr_linked.specs.Programs.{method_at}
use Rattle.nr_linked.specs.Sites.{Site, site_at}
use Rattle.nr_model.specs.Asks.{Asks}
use Rattle.nr_model.specs.CallRules.{built_in_rule}
use Rattle.nr_model.specs.Heaps.{Heap, on_some}
use Rattle.nr_model.specs.Rules.{invoke_rule, rule, script}
use Rattle.nr_model.specs.Scripts.{Call, Called, Ending, Runs, Within}
use Rattle.nr_model.specs.States.{Frame, Running, State}
use Rattle.nr_model.specs.Throws.{onward, throw_new, with_found}
use Rattle.nr_machine.specs.Stays.{running}
use Rattle.nr_machine.proofs.Calls.{some_both}

pub calls_method : (P : ProgramTables) (service : Option ℕ) (s : State) (a : Asks P service s) → script P a.caller a.site ≡ Call a.method
calls_method P service s a =
    ap (λ f. rule f P a.caller a.site.instr.row a.site.instr.args a.site.resolved (onward a.site.next)) a.family
    ∙ ap₂ (λ code found. invoke_rule P a.caller code found (onward a.site.next)) a.code a.found
    ∙ ap (λ o. with_found o (λ i. if is_some i.body then Call a.method
    else on_some (built_in_rule P i (onward a.site.next)) (throw_new P AbstractMethodError) (λ rule. rule))) a.called
    ∙ ap (λ b. if b then Call a.method else on_some (built_in_rule P a.info (onward a.site.next)) (throw_new P AbstractMethodError) (λ rule. rule)) a.has_code

first_of_frames : (f g : Frame) (fs gs : List Frame) → Running (f ∷ fs) ≡ Running (g ∷ gs) → f ≡ g
first_of_frames f g fs gs e = cc

module _ (P : ProgramTables) (f : Frame) (fs : List Frame) (own : MethodInfo) (site : Site) (is_m : method_at P f.method ≡ Some own) (is_s : site_at own f.offset ≡ Some site)
    (service : Option ℕ) (h : Heap) (printed : List ℕ) (a : Asks P service (running h (f ∷ fs) printed)) where
  same_frame : a.frame ≡ f
  same_frame = sym (first_of_frames f a.frame fs a.below a.running)

  pub same_caller : a.caller ≡ own
  same_caller = some_both a.calling (ap (λ (g : Frame). method_at P g.method) same_frame ∙ is_m)

  pub same_site : a.site ≡ site
  same_site = some_both a.standing (ap₂ (λ (i : MethodInfo) (g : Frame). site_at i g.offset) same_caller same_frame ∙ is_s)

  -- each of its runs is a call of the method
  pub asks_calls : (e : Ending) (u w : Within) → Runs (script P own site) w e u → (e ≡ Called a.method) × (u ≡ w)
  asks_calls e u w r = subst (λ sc. Runs sc w e u) (sym (ap₂ (script P) same_caller same_site) ∙ calls_method P service (running h (f ∷ fs) printed) a) r
