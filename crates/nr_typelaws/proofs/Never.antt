-- In a program whose instructions suit their rows no fault says that one doesn't.
use Rattle.std.proofs.Common.{◌≡◌, ℕ, suc, List, [], ◌∷◌, length, refl, sym, ap, subst, ◌∙◌, Bool, true, false, arith, ◌⊎◌, inl, inr, nat_le}
use Rattle.std.specs.Prelude.{Option, Some, None, IsTrue, if◌then◌else◌}
use Rattle.std.specs.Option.{option_map_or, option_and_then}
use Rattle.nr_prog.specs.declared.body.instruction.Instr.{Instr}
use Rattle.nr_prog.specs.declared.body.whole.Body.{Body}
use Rattle.nr_prog.specs.declared.member.Handler.{Handler}
use Rattle.nr_linked.specs.declared.program.kind.Kind.{Kind}
use Rattle.nr_linked.specs.declared.program.tables.MethodInfo.{MethodInfo}
use Rattle.nr_linked.specs.declared.program.tables.ProgramTables.{ProgramTables}
use Rattle.nr_linked.specs.declared.program.tables.Resolved.{Resolved}
use Rattle.nr_linked.specs.declared.typing.fault.OpFault.TheVariants.{LocalRange}
use Rattle.nr_linked.specs.Handlers.{covers}
use Rattle.nr_linked.specs.Programs.{method_at}
use Rattle.nr_linked.specs.Sites.{Site, first_offset, site_among, site_at}
use Rattle.nr_linked.specs.TypingFrames.{TypeFrame, frame_fits, entry_frame, places_of}
use Rattle.nr_linked.specs.TypingChecks.{Checked, Leaves, Refused, NoRule}
use Rattle.nr_linked.specs.TypingRules.{type_op}
use Rattle.nr_linked.specs.TypingFaults.{MethodFault, Op, NoMap, MapMismatch, FallsOff, HandlerMismatch, Unsuited, Passed, Passes, Fails, demand, frame_here, is_handled, check_site, check_handlers, check_rule, check_branch, check_branches, check_end, then_rest, first_among, first_in, first_fault}
use Rattle.nr_linked.specs.WellTyped.{catchers, falls_through, targets_of, map_at}
use Rattle.nr_linked.specs.Layout.{MethodLaidOut, IsLaidOut}
use Rattle.nr_linked.specs.Suited.{is_suited, IsSuited}
use Rattle.nr_typelaws.proofs.Passing.{none_some, some_same}
use Rattle.nr_typelaws.proofs.Sound.{this_one, other_one, site_above, Behind, behind, all_rise}
use Rattle.nr_typelaws.proofs.Suited.{Speaks, speaks}

pub data Plain : MethodFault → Type 0 where
  plain_op : {at : ℕ} {e : Rattle.nr_linked.specs.declared.typing.fault.OpFault.OpFault} → Plain (Op at e)
  plain_map : {at : ℕ} → Plain (NoMap at)
  plain_mismatch : {at : ℕ} → Plain (MapMismatch at)
  plain_off : {at : ℕ} → Plain (FallsOff at)
  plain_handler : {at n : ℕ} → Plain (HandlerMismatch at n)

-- it passes, or its fault is plain
pub data Sound : Passed → Type 0 where
  passes : {f : Option TypeFrame} → Sound (Passes f)
  fails : {e : MethodFault} → Plain e → Sound (Fails e)

on_demand : (c : Bool) (e : MethodFault) (k : Passed) → Plain e → Sound k → Sound (demand c e k)
on_demand true e k p s = s
on_demand false e k p s = fails p

on_here : (P : ProgramTables) (at : ℕ) (g c : Option TypeFrame) (k : TypeFrame → Passed) → ((f : TypeFrame) → Sound (k f)) → Sound (frame_here P at g c k)
on_here P at None None k s = fails plain_map
on_here P at None (Some f) k s = s f
on_here P at (Some g) None k s = s g
on_here P at (Some g) (Some f) k s = on_demand (frame_fits P f g) _ (k g) plain_mismatch (s g)

on_handlers : (P : ProgramTables) (m : MethodInfo) (at : ℕ) (f : TypeFrame) (n : ℕ) (es : List (Handler × Option Kind)) (next : Passed) → Sound next → Sound (check_handlers P m at f n es next)
on_handlers P m at f n [] next s = s
on_handlers P m at f n (e ∷ es) next s = by_range (covers e.0 at) (on_handlers P m at f (suc n) es next s)
  where
    by_range : (z : Bool) → Sound (check_handlers P m at f (suc n) es next)
        → Sound (if z then demand (is_handled P m f e.0 e.1) (HandlerMismatch at n) (check_handlers P m at f (suc n) es next) else check_handlers P m at f (suc n) es next)
    by_range true r = on_demand (is_handled P m f e.0 e.1) _ _ plain_handler r
    by_range false r = r

on_rule : (at : ℕ) (c : Checked) (k : TypeFrame → Passed) → Speaks c → ((f : TypeFrame) → Sound (k f)) → Sound (check_rule at c k)
on_rule at (Leaves f) k p s = s f
on_rule at (Refused e) k p s = fails plain_op
on_rule at NoRule k p s = absurd (p.not_none refl)

on_branch : (P : ProgramTables) (f : TypeFrame) (t : ℕ) (o : Option TypeFrame) (next : Passed) → Sound next → Sound (check_branch P f t o next)
on_branch P f t None next s = fails plain_map
on_branch P f t (Some g) next s = on_demand (frame_fits P f g) _ next plain_mismatch s

on_branches : (P : ProgramTables) (m : MethodInfo) (f : TypeFrame) (ts : List ℕ) (next : Passed) → Sound next → Sound (check_branches P m f ts next)
on_branches P m f [] next s = s
on_branches P m f (t ∷ ts) next s = on_branch P f t (map_at m t) _ (on_branches P m f ts next s)

on_end : (at : ℕ) (z : Bool) (next : Option ℕ) (f : TypeFrame) → Sound (check_end at z next f)
on_end at true None f = fails plain_off
on_end at true (Some n) f = passes
on_end at false next f = passes

module _ (P : ProgramTables) (m : MethodInfo) where
  on_site : (s : Site) (comes : Option TypeFrame) → IsTrue (is_suited P s) → Sound (check_site P m s comes)
  on_site s comes p = on_here P s.instr.at (map_at m s.instr.at) comes _ (λ f.
      on_handlers P m s.instr.at f 0 (catchers m) _ (on_rule s.instr.at (type_op P m s f) _ (speaks s.instr.row.family P m s f p) (λ g.
      on_branches P m g (targets_of s.instr.args) _ (on_end s.instr.at (falls_through s.instr.row.family) s.next g))))

  on_rest : (p : Passed) (k : Option TypeFrame → Option MethodFault) (e : MethodFault) → Sound p → then_rest p k ≡ Some e → Plain e ⊎ ((f : Option TypeFrame) × (k f ≡ Some e))
  on_rest (Passes f) k e s q = inr (f, q)
  on_rest (Fails x) k e (fails p) q = inl (subst Plain (some_same q) p)

  walk : (is : List Instr) (rs : List Resolved) (comes : Option TypeFrame) (e : MethodFault) → length rs ≡ length is → Behind is
      → ((at : ℕ) (s : Site) → site_among is rs at ≡ Some s → IsTrue (is_suited P s)) → first_among P m is rs comes ≡ Some e → Plain e
  walk [] rs comes e l up suited q = absurd (none_some q)
  walk (i ∷ is) [] comes e l up suited q = absurd (omega (arith, l))
  walk (i ∷ is) (r ∷ rs) comes e l up suited q =
      let s : Site = record { instr = i; resolved = r; next = first_offset is } in
      elim (on_rest (check_site P m s comes) (λ f. first_among P m is rs f) e (on_site s comes (suited i.at s (this_one i.at s (site_among is rs i.at)))) q) [
        | inl p ↦ p
        | inr x ↦ walk is rs x.0 e (omega (arith, l)) (behind i.at is up) (λ at s e. suited at s (other_one i.at at _ s (site_among is rs at) (site_above i.at is rs at s up e) e)) x.1
      ]

  pub plain_fault : (body : Body) → m.body ≡ Some body → MethodLaidOut m body → ((at : ℕ) (s : Site) → site_at m at ≡ Some s → IsTrue (is_suited P s)) → (e : MethodFault) → first_fault P m ≡ Some e → Plain e
  plain_fault body is_body laid suited e q = by_places (nat_le (places_of P m) m.max_locals) (sym (ap (λ o. option_map_or (first_in P m) o None) is_body) ∙ q)
    where
      by_places : (z : Bool) → (if z then first_among P m body.instrs m.resolved (Some (entry_frame P m)) else Some (Op 0 (LocalRange m.max_locals))) ≡ Some e → Plain e
      by_places true q = walk body.instrs m.resolved (Some (entry_frame P m)) e laid.one_each (all_rise body.instrs laid.order)
          (λ at s e. suited at s (ap (λ o. option_and_then (λ (body : Body). site_among body.instrs m.resolved at) o) is_body ∙ e)) q
      by_places false q = subst Plain (some_same q) plain_op

not_unsuited : (at : ℕ) → Plain (Unsuited at) → ⊥
not_unsuited at p = elim p [ ]

pub never_unsuited : (P : ProgramTables) → IsLaidOut P → IsSuited P → (n : ℕ) (m : MethodInfo) (at : ℕ) → method_at P n ≡ Some m → first_fault P m ≡ Some (Unsuited at) → ⊥
never_unsuited P laid suited n m at is q = by_body m.body refl
  where
    by_body : (o : Option Body) → m.body ≡ o → ⊥
    by_body None e = absurd (none_some (sym (ap (λ o. option_map_or (first_in P m) o None) e) ∙ q))
    by_body (Some body) e = not_unsuited at (plain_fault P m body e (laid n m body is e) (λ at s here. suited n m at s is here) (Unsuited at) q)
