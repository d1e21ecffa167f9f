-- What the code of a call relies on, and that the stack is one afterwards.
use Rattle.std.proofs.Common.{◌≡◌, ℕ, zero, suc, ◌+◌, ◌-◌, ◌<◌, ◌≤◌, List, [], ◌∷◌, ◌++◌, length, take, drop, refl, sym, ap, subst, subst₂, ◌∙◌, arith, true, false, nat_le, inl, inr}
use Rattle.std.specs.Prelude.{◌⊎◌, Bool, Option, Some, All, reverse, if◌then◌else◌}
use Rattle.std.specs.Option.{option_map_or}
use Rattle.std.proofs.lemmas.Bool.Decides.{leb_tells}
use Rattle.std.proofs.lemmas.List.{length-append}
use Rattle.std.proofs.lemmas.Option.{slice_get_within}
use Rattle.nr_prog.specs.declared.body.instruction.Instr.{Instr}
use Rattle.nr_prog.specs.declared.body.whole.Body.{Body}
use Rattle.nr_prog.specs.Members.{is_static}
use Rattle.nr_prog.specs.Offsets.{StandInOrder}
use Rattle.nr_linked.specs.declared.program.tables.MethodInfo.{MethodInfo}
use Rattle.nr_linked.specs.declared.program.tables.ProgramTables.{ProgramTables}
use Rattle.nr_linked.specs.Facts.{ProgramFacts}
use Rattle.nr_linked.specs.Programs.{method_at}
use Rattle.nr_model.specs.declared.value.Value.{Value}
use Rattle.nr_model.specs.CallRules.{operands_of}
use Rattle.nr_model.specs.Outcomes.{is_too_deep, max_frames, max_value_slots}
use Rattle.nr_model.specs.States.{Control}
use Rattle.nr_model.specs.Steps.{entered, spread}
use Rattle.nr_machine.specs.declared.stack.Frame.{Frame as CodeFrame}
use Rattle.nr_machine.specs.CallStacks.{CanEnter, all_slots, frame_of, frames_of, locals_of, slots_of, IsPlaced, IsStack, OnRunning}
use Rattle.nr_machine.proofs.Lists.{top_length}
use Rattle.nr_machine.proofs.Windows.{slots_more, window}
use Rattle.nr_machine.proofs.Tops.{all_more, placed, others_placed, sized, count, on_running, say_running, some_frame}
use Rattle.nr_machine.proofs.Enters.{entry_of, first_values, first_sized, args_are, entered_limits}

pub some_both : {X : Type 0} {x y : X} {o : Option X} → o ≡ Some x → o ≡ Some y → x ≡ y
some_both p q = cc

pub some_first : (is : List Instr) → StandInOrder is → 0 < length is
some_first [] laid = absurd laid
some_first (i ∷ is) laid = omega arith

pub few_operands : (i : MethodInfo) → operands_of i ≤ length i.params + 1
few_operands i = by (is_static i.flags)
  where
    by : (b : Bool) → (if b then length i.params else suc (length i.params)) ≤ length i.params + 1
    by true = omega arith
    by false = omega arith

pub in_range : (P : ProgramTables) (m : ℕ) (i : MethodInfo) → method_at P m ≡ Some i → m < length P.methods
in_range P m i e = slice_get_within P.methods m i e

module _ (P : ProgramTables) (facts : ProgramFacts P) (fs : List CodeFrame) (vs : List Value) (st : IsStack P fs vs) (gs : List CodeFrame) (g : CodeFrame) (e : fs ≡ gs ++ g ∷ [])
    (m : ℕ) (i : MethodInfo) (is_m : method_at P m ≡ Some i) (own : MethodInfo) (is_own : method_at P g.method ≡ Some own) (can : CanEnter P m (frame_of P g (window P g vs))) where
  same : can.method ≡ i
  same = some_both can.is_method is_m

  pub is_body : i.body ≡ Some can.body
  is_body = subst (λ (i : MethodInfo). i.body ≡ Some can.body) same can.is_body

  pub laid : StandInOrder can.body.instrs
  laid = (facts.laid_out m i can.body is_m is_body).order

  pub few_params : length i.params ≤ 254
  few_params = (facts.methods m i is_m).few_params

  same_place : (placed P fs vs st gs g e).method ≡ own
  same_place = some_both (placed P fs vs st gs g e).is_method is_own

  pub room : g.depth ≤ own.max_stack
  room = subst (λ (i : MethodInfo). g.depth ≤ i.max_stack) same_place (placed P fs vs st gs g e).depth

  pub enough : operands_of i ≤ g.depth
  enough = omega (arith, subst (λ i. operands_of i ≤ length (frame_of P g (window P g vs)).operands) same can.enough, top_length (drop (locals_of P g.method) (window P g vs)) g.depth)

  pub own_values : own.max_stack ≤ length vs
  own_values =
      let s : slots_of P g.method ≡ own.max_locals + own.max_stack = ap (λ o. option_map_or (λ (i : MethodInfo). i.max_locals + i.max_stack) o 0) is_own in
      omega (arith, s, sized P fs vs st gs g e, slots_more P gs g)

  module _ (n kept : ℕ) (n_is : operands_of i ≡ n) (depth : g.depth ≡ kept + n) where
    pub before : length vs - own.max_stack + kept + n ≤ length vs
    before = omega (arith, own_values, room, depth)

    pub fits : length (spread (take n (drop (length vs - own.max_stack + kept) vs))) ≤ i.max_locals
    fits = subst (λ us. length (spread us) ≤ i.max_locals)
        (args_are P m i can.body is_m is_body laid gs g own is_own vs (sized P fs vs st gs g e) n kept n_is depth room)
        (subst (λ i. length (spread (reverse (take (operands_of i) (frame_of P g (window P g vs)).operands))) ≤ i.max_locals) same can.fits)

    pub stays_stack : length fs + 1 ≤ max_frames → i.max_locals + i.max_stack + length vs ≤ max_value_slots
        → IsStack P ((gs ++ record g { depth = kept } ∷ []) ++ entry_of m ∷ []) (vs ++ first_values i (spread (take n (drop (length vs - own.max_stack + kept) vs))))
    stays_stack few_frames few_values =
        let zs = first_values i (spread (take n (drop (length vs - own.max_stack + kept) vs))) in
        let z : length zs ≡ slots_of P m = first_sized P m i can.body is_m is_body laid (spread (take n (drop (length vs - own.max_stack + kept) vs))) fits in
        let s : slots_of P m ≡ i.max_locals + i.max_stack = ap (λ o. option_map_or (λ (i : MethodInfo). i.max_locals + i.max_stack) o 0) is_m in
        let old = placed P fs vs st gs g e in
        record {
          placed = all_more (IsPlaced P) (gs ++ record g { depth = kept } ∷ []) (entry_of m)
              (all_more (IsPlaced P) gs (record g { depth = kept }) (others_placed P fs vs st gs g e)
              (record { method = old.method; body = old.body; is_method = old.is_method; is_body = old.is_body; instr = old.instr; depth = omega (arith, old.depth, depth) }))
              (record { method = i; body = can.body; is_method = is_m; is_body = is_body; instr = some_first can.body.instrs laid; depth = omega arith });
          sized = omega (arith, length-append vs zs, z, slots_more P (gs ++ record g { depth = kept } ∷ []) (entry_of m), slots_more P gs (record g { depth = kept }), slots_more P gs g, sized P fs vs st gs g e);
          few_frames = omega (arith, few_frames, count P fs vs st gs g e, length-append (gs ++ record g { depth = kept } ∷ []) (entry_of m ∷ []), length-append gs (record g { depth = kept } ∷ []));
          few_values = omega (arith, few_values, length-append vs zs, z, s);
        }

-- ---- the test of the limits

pub not_over : (a x : ℕ) → (a < x → ⊥) → x ≤ a
not_over a x other = by (leb_tells x a)
  where
    by : ((nat_le x a ≡ true) × (x ≤ a)) ⊎ ((nat_le x a ≡ false) × (a < x)) → x ≤ a
    by (inl l) = l.1
    by (inr l) = absurd (other l.1)

pub neither : (a x b y : ℕ) → ((a < x) ⊎ (b < y) → false ≡ true) → (x ≤ a) × (y ≤ b)
neither a x b y over = (not_over a x (λ l. bad (over (inl l))), not_over b y (λ l. bad (over (inr l))))
  where
    bad : false ≡ true → ⊥
    bad e = cc

-- a list has a last entry, if it has one
pub data Ended {X : Type 0} : List X → Type 0 where
  nothing : Ended []
  ended_by : (xs : List X) (x : X) → Ended (xs ++ x ∷ [])

pub ended : {X : Type 0} (xs : List X) → Ended xs
ended [] = nothing
ended {X = X} (x ∷ xs) = more xs (ended xs)
  where
    more : (xs : List X) → Ended xs → Ended (x ∷ xs)
    more xs nothing = ended_by [] x
    more xs (ended_by ys y) = ended_by (x ∷ ys) y

-- a call passes a limit where it has no room
pub passes : (P : ProgramTables) (facts : ProgramFacts P) (fs : List CodeFrame) (vs : List Value) (st : IsStack P fs vs) (m : ℕ) (i : MethodInfo) (is_m : method_at P m ≡ Some i)
    → OnRunning (frames_of P fs vs) (λ f below. CanEnter P m f)
    → (max_frames < length fs + 1) ⊎ (max_value_slots < i.max_locals + i.max_stack + length vs)
    → OnRunning (frames_of P fs vs) (λ f below. (c : Control) → entered P m f below ≡ Some c → is_too_deep P c ≡ true)
passes P facts fs vs st m i is_m can over = by fs refl (ended fs)
  where
    over_of : (a b x y : ℕ) → a ≡ b → x ≡ y → (max_frames < a) ⊎ (max_value_slots < x) → (max_frames < b) ⊎ (max_value_slots < y)
    over_of a b x y e f o = subst₂ (λ a x. (max_frames < a) ⊎ (max_value_slots < x)) e f o

    by : (xs : List CodeFrame) → fs ≡ xs → Ended xs → OnRunning (frames_of P fs vs) (λ f below. (c : Control) → entered P m f below ≡ Some c → is_too_deep P c ≡ true)
    by xs e nothing = absurd (some_frame P fs vs (λ f below. CanEnter P m f) e can)
    by xs e (ended_by gs g) =
        let at = placed P fs vs st gs g e in
        let one = on_running P fs vs st gs g e (λ f below. CanEnter P m f) can in
        let l = enough P facts fs vs st gs g e m i is_m at.method at.is_method one in
        let body_is = is_body P facts fs vs st gs g e m i is_m at.method at.is_method one in
        let s : slots_of P m ≡ i.max_locals + i.max_stack = ap (λ o. option_map_or (λ (i : MethodInfo). i.max_locals + i.max_stack) o 0) is_m in
        say_running P fs vs st gs g e (λ f below. (c : Control) → entered P m f below ≡ Some c → is_too_deep P c ≡ true)
        (λ c en. entered_limits P m i one.body is_m body_is (laid P facts fs vs st gs g e m i is_m at.method at.is_method one) gs g at.method at.is_method vs (sized P fs vs st gs g e)
        (operands_of i) (g.depth - operands_of i) refl (omega (arith, l)) at.depth c en
        (over_of (length fs + 1) (length gs + 2) (i.max_locals + i.max_stack + length vs) (slots_of P m + length vs) (omega (arith, count P fs vs st gs g e)) (omega (arith, s)) over))
