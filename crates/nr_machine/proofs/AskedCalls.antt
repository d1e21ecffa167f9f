-- What the running frame calls, and with which arguments.
use Rattle.std.proofs.Common.{◌≡◌, ℕ, zero, suc, ◌+◌, ◌-◌, ◌<◌, ◌≤◌, List, [], ◌∷◌, ◌++◌, length, take, drop, get_or, refl, sym, ap, subst, ◌∙◌, arith}
use Rattle.std.specs.Prelude.{Option, Some, reverse, slice_get, slice_index_or}
use Rattle.std.specs.Option.{option_map_or}
use Rattle.std.proofs.lemmas.List.{length-append, length-drop}
use Rattle.nr_linked.specs.declared.program.tables.MethodInfo.{MethodInfo}
use Rattle.nr_linked.specs.declared.program.tables.ProgramTables.{ProgramTables}
use Rattle.nr_linked.specs.declared.program.tables.Resolved.{Resolved}
use Rattle.nr_linked.specs.declared.program.tables.Resolved.TheVariants as resolved
use Rattle.nr_linked.specs.Facts.{ProgramFacts}
use Rattle.nr_linked.specs.Programs.{method_at}
use Rattle.nr_linked.specs.Sites.{Site, site_at}
use Rattle.nr_model.specs.declared.value.Value.{Value}
use Rattle.nr_model.specs.States.{Frame}
use Rattle.nr_step.specs.Windows.{top_first}
use Rattle.nr_machine.specs.declared.stack.Frame.{Frame as CodeFrame}
use Rattle.nr_machine.specs.CallStacks.{IsCallOf, IsLast, IsPlaced, IsStack, OnRunning, frame_of, frames_of, locals_of, offset_at, slots_of}
use Rattle.nr_machine.proofs.Lists.{drop_drop, take_top, top_length}
use Rattle.nr_machine.proofs.Windows.{slots_more, window, window_sized}
use Rattle.nr_machine.proofs.Tops.{on_running, placed, say_running, sized}
use Rattle.nr_machine.proofs.Calls.{Ended, nothing, ended_by, ended, some_both}
use Rattle.nr_machine.proofs.Catching.{placed_within}
use Rattle.nr_machine.proofs.Enters.{slots_of_method}
use Rattle.nr_machine.proofs.Places.{found, resolved_there, site_is, entry_at}

-- ---- the last entry of a list

read_seam : {X : Type 0} (xs : List X) (y d : X) → slice_index_or (xs ++ y ∷ []) (length xs) d ≡ y
read_seam [] y d = refl
read_seam (x ∷ xs) y d = read_seam xs y d

pub last_read : {X : Type 0} (xs : List X) (n : ℕ) (x : X) → 0 < length xs → n ≡ length xs - 1 → x ≡ slice_index_or xs n x → IsLast xs x
last_read {X = X} xs n x l e r = by xs refl (ended xs)
  where
    by : (zs : List X) → xs ≡ zs → Ended zs → IsLast xs x
    by zs e' nothing = absurd (omega (arith, l, ap length e'))
    by zs e' (ended_by ys y) =
        let m : n ≡ length ys = omega (arith, e, ap length e', length-append ys (y ∷ [])) in
        let same : x ≡ y = r ∙ ap (λ xs. slice_index_or xs n x) e' ∙ ap (λ k. slice_index_or (ys ++ y ∷ []) k x) m ∙ read_seam ys y x in
        (ys, e' ∙ ap (λ z. ys ++ z ∷ []) (sym same))

-- what is read within a list, whatever else would be
pub read_default : {X : Type 0} (xs : List X) (i : ℕ) (d : X) → i < length xs → slice_get xs i ≡ Some (slice_index_or xs i d)
read_default [] i d l = absurd (omega (arith, l))
read_default (x ∷ xs) zero d l = refl
read_default (x ∷ xs) (suc i) d l = read_default xs i d (omega (arith, l))

module _ (P : ProgramTables) (fs : List CodeFrame) (vs : List Value) (st : IsStack P fs vs) (gs : List CodeFrame) (g : CodeFrame) (e : fs ≡ gs ++ g ∷ []) (own : MethodInfo) (is_own : method_at P g.method ≡ Some own) where
  at : IsPlaced P g
  at = placed P fs vs st gs g e

  own_is : at.method ≡ own
  own_is = some_both at.is_method is_own

  -- ---- the method that is called

  module _ (facts : ProgramFacts P) (m : ℕ) (call : IsCallOf P (frame_of P g (window P g vs)) m) where
    pub resolved_within : g.instr < length own.resolved
    resolved_within = subst (λ (i : MethodInfo). g.instr < length i.resolved) own_is (resolved_there P g.method at.method at.body at.is_method at.is_body facts g.instr at.instr)

    site_same : call.site.resolved ≡ found P g.method at.method at.body at.is_method at.is_body facts g.instr at.instr
    site_same =
        let c : call.caller ≡ at.method = some_both call.is_caller at.is_method in
        ap (λ (s : Site). s.resolved) (some_both (subst (λ (i : MethodInfo). site_at i (offset_at P g.method g.instr) ≡ Some call.site) c call.is_site)
        (site_is P g.method at.method at.body at.is_method at.is_body facts g.instr at.instr))

    pub resolved_is : (r : Resolved) → slice_get own.resolved g.instr ≡ Some r → r ≡ resolved.Method m call.named
    resolved_is r q =
        let there = (entry_at at.method.resolved g.instr (resolved_there P g.method at.method at.body at.is_method at.is_body facts g.instr at.instr)).1 in
        some_both q (subst (λ (i : MethodInfo). slice_get i.resolved g.instr ≡ Some (found P g.method at.method at.body at.is_method at.is_body facts g.instr at.instr)) own_is there)
        ∙ sym site_same ∙ call.found

  -- ---- its arguments

  slots : slots_of P g.method ≡ own.max_locals + own.max_stack
  slots = slots_of_method P g.method own is_own

  locals : locals_of P g.method ≡ own.max_locals
  locals = ap (λ o. option_map_or (λ (i : MethodInfo). i.max_locals) o 0) is_own

  abbrev stack : List Value
  stack = drop (locals_of P g.method) (window P g vs)

  stack_sized : length stack ≡ own.max_stack
  stack_sized = omega (arith, slots, locals, length-drop (locals_of P g.method) (window P g vs), window_sized P gs g vs (sized P fs vs st gs g e))

  pub own_values : own.max_stack ≤ length vs
  own_values = omega (arith, slots, sized P fs vs st gs g e, slots_more P gs g)

  pub room : g.depth ≤ own.max_stack
  room = subst (λ (i : MethodInfo). g.depth ≤ i.max_stack) own_is at.depth

  pub few_operands : (n : ℕ) → OnRunning (frames_of P fs vs) (λ f others. n ≤ length f.operands) → n ≤ g.depth
  few_operands n q = omega (arith, on_running P fs vs st gs g e (λ f others. n ≤ length f.operands) q, top_length stack g.depth)

  pub topmost : (n : ℕ) → n ≤ g.depth → (us : List Value) → us ≡ take n (drop (length vs - own.max_stack + (g.depth - n)) vs)
      → OnRunning (frames_of P fs vs) (λ f others. reverse (take n f.operands) ≡ us)
  topmost n l us q =
      let d : g.depth ≡ g.depth - n + n = omega (arith, l) in
      let k : length vs - slots_of P g.method + locals_of P g.method + (g.depth - n) ≡ length vs - own.max_stack + (g.depth - n) = omega (arith, slots, locals, sized P fs vs st gs g e, slots_more P gs g) in
      say_running P fs vs st gs g e (λ f others. reverse (take n f.operands) ≡ us)
      (ap (λ d. reverse (take n (top_first stack d))) d
      ∙ take_top stack n (g.depth - n) (omega (arith, stack_sized, d, room))
      ∙ ap (λ xs. take n (drop (g.depth - n) xs)) (drop_drop (locals_of P g.method) (length vs - slots_of P g.method) vs)
      ∙ ap (take n) (drop_drop (g.depth - n) (length vs - slots_of P g.method + locals_of P g.method) vs)
      ∙ ap (λ k. take n (drop k vs)) k ∙ sym q)

pub same_method : (m c n d : ℕ) → resolved.Method m c ≡ resolved.Method n d → m ≡ n
same_method m c n d e = cc
