-- What exception handlers and frame maps of methods name.
use Rattle.std.proofs.Common.{◌≡◌, List, [], map, refl, sym, ap, ◌∙◌}
use Rattle.std.specs.Prelude.{All, Option, Some, None}
use Rattle.std.specs.Option.{option_map_or, option_or}
use Rattle.std.proofs.lemmas.List.Elements.{All-nil}
use Rattle.nr_prog.specs.declared.body.whole.Body.{Body}
use Rattle.nr_prog.specs.declared.parts.ClassParts.{ClassParts}
use Rattle.nr_linked.specs.declared.program.tables.MethodInfo.{MethodInfo}
use Rattle.nr_linked.specs.declared.program.tables.ProgramTables.{ProgramTables}
use Rattle.nr_linked.specs.Linked.{handlers_of}
use Rattle.nr_linkrules.specs.Completion.{caught, frame_of}
use Rattle.nr_linkrules.specs.Faults.{first_of}
use Rattle.nr_linkrules.specs.SiteRules.{around_fault, handler_fault, map_fault, pool_of}
use Rattle.nr_link.specs.declared.around.Around.{Around}
use Rattle.nr_link.specs.Around.{IsCatchNamed}
use Rattle.nr_link.specs.Coded.{IsCoded, read_class}
use Rattle.nr_link.specs.Completing.{around_of}
use Rattle.nr_link.proofs.CodedMethods.{names_in}

module _ (P : ProgramTables) (i : MethodInfo) where
  pub handlers_named : (parts : ClassParts) → IsCoded P i → Some parts ≡ read_class P i.«class» → All (IsCatchNamed parts.pool) (handlers_of i)
  handlers_named parts coded read = of_body i.body refl
    where
      of_body : (o : Option Body) → i.body ≡ o → All (IsCatchNamed parts.pool) (option_map_or (λ (b : Body). b.handlers) o [])
      of_body None is = All-nil (IsCatchNamed parts.pool)
      of_body (Some b) is = (names_in P i parts b coded read is).handlers

  pub no_around_fault : i.body ≡ None → around_fault P i ≡ None
  unfolding around_fault first_of
  no_around_fault none =
      ap (λ (o : Option Body). option_or (first_of (handler_fault P (pool_of P i)) (option_map_or (λ (b : Body). b.handlers) o [])) (first_of (map_fault P) (option_map_or (λ (b : Body). b.maps) o []))) none

  abbrev around_for : Option Body → Around
  around_for o = record { catches = map (caught P (pool_of P i)) (option_map_or (λ (b : Body). b.handlers) o []); maps = map (frame_of P) (option_map_or (λ (b : Body). b.maps) o []) }

  pub nothing_around : (around : Around) → around.catches ≡ [] → around.maps ≡ [] → i.body ≡ None → around ≡ around_of P i
  nothing_around around c m none = (λ j. record { catches = c j; maps = m j }) ∙ sym (ap around_for none)
