-- The first check of a method that fails: instructions by their offsets, and the checks of each in the order of the text
-- (the order is the project's own; JVM Specification 4.10.1.6 goes through the instructions in the same way).
use Rattle.std.specs.Prelude.{ℕ, suc, List, [], ◌∷◌, Bool, true, false, ◌&&◌, nat_le, Option, Some, None, if◌then◌else◌}
use Rattle.std.specs.Option.{option_map_or}
use Rattle.nr_prog.specs.declared.body.instruction.Instr.{Instr}
use Rattle.nr_prog.specs.declared.body.whole.Body.{Body}
use Rattle.nr_prog.specs.declared.member.Handler.{Handler}
use Rattle.nr_linked.specs.declared.program.kind.Kind.{Kind}
use Rattle.nr_linked.specs.declared.program.tables.MethodInfo.{MethodInfo}
use Rattle.nr_linked.specs.declared.program.tables.ProgramTables.{ProgramTables}
use Rattle.nr_linked.specs.declared.program.tables.Resolved.{Resolved}
use Rattle.nr_linked.specs.declared.typing.fault.OpFault.{OpFault}
use Rattle.nr_linked.specs.declared.typing.fault.OpFault.TheVariants.{LocalRange}
use Rattle.nr_linked.specs.Sites.{Site, first_offset}
use Rattle.nr_linked.specs.TypingFrames.{TypeFrame, frame_fits, places_of, entry_frame}
use Rattle.nr_linked.specs.TypingChecks.{Checked, Leaves, Refused, NoRule}
use Rattle.nr_linked.specs.TypingRules.{type_op}
use Rattle.nr_linked.specs.WellTyped.{map_at, targets_of, falls_through, is_catchable, catchers, handler_frame}
use Rattle.nr_linked.specs.Handlers.{covers}

pub data MethodFault : Type 0 where
  -- the rule of the instruction at the offset
  Op : ℕ → OpFault → MethodFault
  -- no frame map is at the offset where there must be one
  NoMap : ℕ → MethodFault
  -- the frame that comes to the offset doesn't fit the frame map there
  MapMismatch : ℕ → MethodFault
  -- control falls through from the last instruction, which stands at the offset
  FallsOff : ℕ → MethodFault
  -- the frame of the instruction at the offset doesn't suit the handler of this number
  HandlerMismatch : ℕ → ℕ → MethodFault
  -- the instruction's operands or what linking found don't suit its row; never in a linked program
  Unsuited : ℕ → MethodFault

-- the frame with which control falls through to the next instruction, if it does; or the first check that fails
pub data Passed : Type 0 where
  Passes : Option TypeFrame → Passed
  Fails : MethodFault → Passed

abbrev pub demand : Bool → MethodFault → Passed → Passed
demand true fault k = k
demand false fault k = Fails fault

-- 1. the frame at the offset, from what comes to it
abbrev pub frame_here : ProgramTables → ℕ → Option TypeFrame → Option TypeFrame → (TypeFrame → Passed) → Passed
frame_here P at None None k = Fails (NoMap at)
frame_here P at None (Some f) k = k f
frame_here P at (Some g) None k = k g
frame_here P at (Some g) (Some f) k = demand (frame_fits P f g) (MapMismatch at) (k g)

abbrev pub is_fit : ProgramTables → TypeFrame → Option TypeFrame → Bool
is_fit P f None = false
is_fit P f (Some g) = frame_fits P f g

-- 2. the handlers, by their numbers
abbrev pub is_handled : ProgramTables → MethodInfo → TypeFrame → Handler → Option Kind → Bool
is_handled P m f h k = is_catchable P k && (nat_le 1 m.max_stack && is_fit P (handler_frame P k f) (map_at m h.handler))

abbrev pub check_handlers : ProgramTables → MethodInfo → ℕ → TypeFrame → ℕ → List (Handler × Option Kind) → Passed → Passed
check_handlers P m at f n [] next = next
check_handlers P m at f n (e ∷ es) next =
    if covers e.0 at then demand (is_handled P m f e.0 e.1) (HandlerMismatch at n) (check_handlers P m at f (suc n) es next)
    else check_handlers P m at f (suc n) es next

-- 3. the instruction's own rule
abbrev pub check_rule : ℕ → Checked → (TypeFrame → Passed) → Passed
check_rule at (Leaves f) k = k f
check_rule at (Refused fault) k = Fails (Op at fault)
check_rule at NoRule k = Fails (Unsuited at)

-- 4. the branches
abbrev pub check_branch : ProgramTables → TypeFrame → ℕ → Option TypeFrame → Passed → Passed
check_branch P f t None next = Fails (NoMap t)
check_branch P f t (Some g) next = demand (frame_fits P f g) (MapMismatch t) next

abbrev pub check_branches : ProgramTables → MethodInfo → TypeFrame → List ℕ → Passed → Passed
check_branches P m f [] next = next
check_branches P m f (t ∷ ts) next = check_branch P f t (map_at m t) (check_branches P m f ts next)

-- 5. the last instruction
abbrev pub check_end : ℕ → Bool → Option ℕ → TypeFrame → Passed
check_end at true None f = Fails (FallsOff at)
check_end at true (Some next) f = Passes (Some f)
check_end at false next f = Passes None

-- the checks of the instruction at a site, from the frame with which control falls through to it, if it does
abbrev pub check_site : ProgramTables → MethodInfo → Site → Option TypeFrame → Passed
check_site P m s comes = frame_here P s.instr.at (map_at m s.instr.at) comes (λ f.
    check_handlers P m s.instr.at f 0 (catchers m) (check_rule s.instr.at (type_op P m s f) (λ g.
    check_branches P m g (targets_of s.instr.args) (check_end s.instr.at (falls_through s.instr.row.family) s.next g))))

abbrev pub then_rest : Passed → (Option TypeFrame → Option MethodFault) → Option MethodFault
then_rest (Fails fault) k = Some fault
then_rest (Passes f) k = k f

abbrev pub first_among : ProgramTables → MethodInfo → List Instr → List Resolved → Option TypeFrame → Option MethodFault
first_among P m [] rs comes = None
first_among P m (i ∷ is) [] comes = Some (Unsuited i.at)
first_among P m (i ∷ is) (r ∷ rs) comes =
    then_rest (check_site P m (record { instr = i; resolved = r; next = first_offset is }) comes) (λ f. first_among P m is rs f)

-- of the method with this code: the check of its places comes before the others
abbrev pub first_in : ProgramTables → MethodInfo → Body → Option MethodFault
first_in P m body =
    if nat_le (places_of P m) m.max_locals then first_among P m body.instrs m.resolved (Some (entry_frame P m))
    else Some (Op 0 (LocalRange m.max_locals))

-- the first check of the method that fails; a method without code has no fault
abbrev pub first_fault : ProgramTables → MethodInfo → Option MethodFault
first_fault P m = option_map_or (first_in P m) m.body None
