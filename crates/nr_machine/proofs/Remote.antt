-- The running frame's instruction, where it calls a remote method of the service.
use Rattle.std.proofs.Common.{◌≡◌, ℕ, suc, ◌+◌, ◌<◌, ◌≤◌, List, [], ◌∷◌, ◌++◌, length, refl, sym, ap, ap₂, subst, ◌∙◌, Bool, true, false, arith, nat_le, T}
use Rattle.std.specs.Prelude.{Option, Some, None, is_some, slice_get, ◌==◌, if◌then◌else◌}
use Rattle.std.proofs.lemmas.Bool.{le-leb}
use Rattle.std.proofs.Math.Facts.{yes_leb}
use Rattle.nr_optable.specs.Rows.{all_rows}
use Rattle.nr_optable.specs.declared.table.Family.TheVariants.{F32}
use Rattle.nr_prog.specs.declared.body.instruction.Instr.{Instr}
use Rattle.nr_prog.specs.declared.body.whole.Body.{Body}
use Rattle.nr_linked.specs.declared.program.built_in.BuiltIn.TheVariants.{AbstractMethodError}
use Rattle.nr_linked.specs.declared.program.tables.MethodInfo.{MethodInfo}
use Rattle.nr_linked.specs.declared.program.tables.ProgramTables.{ProgramTables}
use Rattle.nr_linked.specs.declared.program.tables.Resolved.{Resolved}
use Rattle.nr_linked.specs.declared.program.tables.Resolved.TheVariants as resolved
use Rattle.nr_linked.specs.Facts.{ProgramFacts}
use Rattle.nr_linked.specs.Programs.{method_at}
use Rattle.nr_linked.specs.Sites.{Site, site_at}
use Rattle.nr_model.specs.declared.value.Value.{Value}
use Rattle.nr_model.specs.Asks.{Asks, is_remote}
use Rattle.nr_model.specs.CallRules.{built_in_rule, operands_of}
use Rattle.nr_model.specs.Heaps.{Heap, on_some}
use Rattle.nr_model.specs.Rules.{invoke_rule, rule, script}
use Rattle.nr_model.specs.Scripts.{Call, Called, Runs}
use Rattle.nr_model.specs.States.{Frame, Running}
use Rattle.nr_model.specs.Steps.{within}
use Rattle.nr_model.specs.Throws.{onward, throw_new, with_found}
use Rattle.nr_step.proofs.Families.{AllOf, family_by}
use Rattle.nr_machine.specs.declared.stack.Frame.{Frame as CodeFrame}
use Rattle.nr_machine.specs.CallStacks.{IsPlaced, IsStack, frame_of, frames_of}
use Rattle.nr_machine.specs.Stays.{FramesStand, running}
use Rattle.nr_machine.proofs.AskedScripts.{same_caller, same_site}
use Rattle.nr_machine.proofs.Calls.{some_both}
use Rattle.nr_machine.proofs.InFrame.{site, site_facts, site_is}
use Rattle.nr_machine.proofs.Leading.{leads_on}
use Rattle.nr_machine.proofs.Standing.{can_enter}
use Rattle.nr_machine.proofs.Stays.{stands_on}
use Rattle.nr_machine.proofs.Tops.{placed}
use Rattle.nr_machine.proofs.Tops as tops
use Rattle.nr_machine.proofs.Windows.{below, window}

calls : AllOf (λ c. c == 184) F32
unfolding all_rows
calls = refl

pub none_not : {X : Type 0} (x : X) → ◌≡◌ {A = Option X} None (Some x) → ⊥
none_not x e = cc

pub no_false : (b : Bool) → b ≡ false → b ≡ true → ⊥
no_false b p q = cc

-- what holds where it asks
pub record Named (P : ProgramTables) (service : Option ℕ) (x : Instr) (r : Resolved) (m : ℕ) : Type 0 where
  pub code : x.row.code ≡ 184
  pub named : ℕ
  pub found : r ≡ resolved.Method m named
  pub info : MethodInfo
  pub called : method_at P m ≡ Some info
  pub has_code : is_some info.body ≡ true
  pub remote : is_remote service info ≡ true

module _ (P : ProgramTables) (facts : ProgramFacts P) (fs : List CodeFrame) (vs : List Value) (st : IsStack P fs vs) (gs : List CodeFrame) (g : CodeFrame) (e : fs ≡ gs ++ g ∷ []) (own : MethodInfo) (body : Body)
    (is_m : method_at P g.method ≡ Some own) (is_b : own.body ≡ Some body) (x : Instr) (r : Resolved) (is_x : slice_get body.instrs g.instr ≡ Some x) (is_r : slice_get own.resolved g.instr ≡ Some r) (service : Option ℕ) where
  abbrev f : Frame
  f = frame_of P g (window P g vs)

  abbrev others : List Frame
  others = frames_of P gs (below P g vs)

  abbrev here : Site
  here = site P facts g own body is_m is_b x r is_x is_r

  here_is : site_at own f.offset ≡ Some here
  here_is = site_is P facts g own body is_m is_b x r is_x is_r

  pub named_so : (h : Heap) (printed : List ℕ) (a : Asks P service (running h (frames_of P fs vs) printed)) → Named P service x r a.method
  named_so h printed a =
      let b : Asks P service (running h (f ∷ others) printed) = record {
        frame = a.frame;
        below = a.below;
        running = sym (ap (λ fs. Running fs) (tops.running P fs vs st gs g e)) ∙ a.running;
        caller = a.caller;
        calling = a.calling;
        site = a.site;
        standing = a.standing;
        family = a.family;
        code = a.code;
        method = a.method;
        named = a.named;
        found = a.found;
        info = a.info;
        called = a.called;
        has_code = a.has_code;
        remote = a.remote;
        enough = a.enough;
      } in
      let s : a.site ≡ here = same_site P f others own here is_m here_is service h printed b in
      record {
        code = sym (ap (λ (s : Site). s.instr.row.code) s) ∙ a.code;
        named = a.named;
        found = sym (ap (λ (s : Site). s.resolved) s) ∙ a.found;
        info = a.info;
        called = a.called;
        has_code = a.has_code;
        remote = a.remote;
      }

  module _ (m : ℕ) (n : Named P service x r m) where
    family : x.row.family ≡ F32
    family = family_by (λ c. c == 184) F32 calls 184 x.row (record { listed = (site_facts P facts g own body is_m is_b x r is_x is_r).row; code = n.code }) refl

    calls_it : script P own here ≡ Call m
    calls_it =
        ap (λ f. rule f P own x.row x.args r (onward here.next)) family
        ∙ ap₂ (λ code found. invoke_rule P own code found (onward here.next)) n.code n.found
        ∙ ap (λ o. with_found o (λ i. if is_some i.body then Call m else on_some (built_in_rule P i (onward here.next)) (throw_new P AbstractMethodError) (λ rule. rule))) n.called
        ∙ ap (λ b. if b then Call m else on_some (built_in_rule P n.info (onward here.next)) (throw_new P AbstractMethodError) (λ rule. rule)) n.has_code

    -- its arguments are there
    enough : (h : Heap) → FramesStand P h (frames_of P fs vs) → operands_of n.info ≤ length f.operands
    enough h stand =
        let up = stands_on P fs vs st gs g e h stand in
        let on = leads_on P facts.typing up.0 up.1 h f others up.2 own here is_m here_is (Called m) (within h f) (subst (λ sc. Runs sc (within h f) (Called m) (within h f)) (sym calls_it) (refl, refl)) in
        let can = can_enter P up.0.frames h up.1 m f others on.control on.stands on.is_after in
        subst (λ (i : MethodInfo). operands_of i ≤ length f.operands) (some_both can.is_method n.called) can.enough

    is_le : (a b : ℕ) → a ≤ b → nat_le a b ≡ true
    is_le a b l = by (nat_le a b) (yes_leb l)
      where
        by : (z : Bool) → T z → z ≡ true
        by true p = refl
        by false p = absurd p

    pub asks_so : (h0 : Heap) → FramesStand P h0 (frames_of P fs vs) → (h : Heap) (printed : List ℕ) → (a : Asks P service (running h (frames_of P fs vs) printed)) × (a.method ≡ m)
    asks_so h0 stand h printed = (
      record {
        frame = f;
        below = others;
        running = ap (λ fs. Running fs) (tops.running P fs vs st gs g e);
        caller = own;
        calling = is_m;
        site = here;
        standing = here_is;
        family = family;
        code = n.code;
        method = m;
        named = n.named;
        found = n.found;
        info = n.info;
        called = n.called;
        has_code = n.has_code;
        remote = n.remote;
        enough = is_le (operands_of n.info) (length f.operands) (enough h0 stand);
      },
      refl,
    )
