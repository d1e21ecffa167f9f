-- Steps and runs (JVM Specification 2.6, 2.10, 6.5). A step is one instruction, with the search for a handler where it
-- throws. No step leads on from an end.
use Rattle.std.specs.Prelude.{◌≡◌, ℕ, zero, suc, ◌-◌, Bool, true, ◌&&◌, List, [], ◌∷◌, ◌++◌, length, reverse, take, drop, replicate, Option, Some, None, IsSomeAnd, nat_le, if◌then◌else◌}
use Rattle.std.specs.Option.{option_map, option_and_then}
use Rattle.std.specs.FinMap.{get}
use Rattle.nr_prog.specs.declared.member.Handler.{Handler}
use Rattle.nr_linked.specs.declared.program.kind.Kind.{Kind}
use Rattle.nr_linked.specs.declared.program.tables.MethodInfo.{MethodInfo}
use Rattle.nr_linked.specs.declared.program.tables.ProgramTables.{ProgramTables}
use Rattle.nr_linked.specs.Handlers.{covers}
use Rattle.nr_linked.specs.Programs.{method_at}
use Rattle.nr_linked.specs.Sites.{site_at}
use Rattle.nr_linked.specs.Subtypes.{is_sub}
use Rattle.nr_model.specs.declared.value.Value.{Value}
use Rattle.nr_model.specs.declared.value.Value.TheVariants.{Long, Null, Ref}
use Rattle.nr_model.specs.Heaps.{Heap, on_some}
use Rattle.nr_model.specs.Scripts.{Script, Within, Ending, GoesTo, Threw, Gave, Called, Runs}
use Rattle.nr_model.specs.CallRules.{operands_of}
use Rattle.nr_model.specs.Rules.{script}
use Rattle.nr_model.specs.States.{Frame, Control, Running, Returned, Thrown, State}

-- ---- throws (2.10, 4.7.3 exception_table): to the first handler in the table's order

abbrev pub catches : ProgramTables → Kind → Option Kind → Bool
catches P kind None = true
catches P kind (Some c) = is_sub P kind c

-- where the first handler begins that covers the offset and catches the kind; the handlers with what they catch
abbrev pub first_handler : ProgramTables → ℕ → Kind → List Handler → List (Option Kind) → Option ℕ
first_handler P offset kind (h ∷ hs) (c ∷ cs) =
    if covers h offset && catches P kind c then Some h.handler else first_handler P offset kind hs cs
first_handler P offset kind hs cs = None

abbrev pub handler_at : ProgramTables → ℕ → ℕ → Kind → Option ℕ
handler_at P m offset kind = option_and_then (λ i.
    option_and_then (λ body. first_handler P offset kind body.handlers i.catches) i.body) (method_at P m)

-- what a throw of v, an object of this kind, leaves of the frames: the topmost that handles it goes on there with v alone
abbrev pub unwound : ProgramTables → Kind → Value → List Frame → Control
unwound P kind v [] = Thrown v
unwound P kind v (f ∷ fs) = on_some (handler_at P f.method f.offset kind) (unwound P kind v fs)
    (λ t. Running (record f { offset = t; operands = v ∷ [] } ∷ fs))

-- ---- returns (2.6.4): the frame below goes on at its next instruction, with the result

abbrev pub next_offset : ProgramTables → ℕ → ℕ → Option ℕ
next_offset P m offset = option_and_then (λ s. s.next) (option_and_then (λ i. site_at i offset) (method_at P m))

abbrev pub with_result : Option Value → List Value → List Value
with_result None vs = vs
with_result (Some v) vs = v ∷ vs

abbrev pub given : ProgramTables → Option Value → List Frame → Option Control
given P v [] = Some (Returned v)
given P v (f ∷ fs) = option_map (λ t.
    Running (record f { offset = t; operands = with_result v f.operands } ∷ fs)) (next_offset P f.method f.offset)

-- ---- calls (2.6.1): the arguments become the first locals

-- a long takes two locals
abbrev pub spread : List Value → List Value
spread [] = []
spread (Long n ∷ vs) = Long n ∷ Null ∷ spread vs
spread (v ∷ vs) = v ∷ spread vs

-- the locals at the start, of arguments that stand the last first
abbrev pub first_locals : MethodInfo → List Value → List Value
first_locals i args = let placed = spread (reverse args) in placed ++ replicate (i.max_locals - length placed) Null

abbrev pub first_frame : MethodInfo → ℕ → List Value → Frame
first_frame i m args = record { method = m; offset = 0; locals = first_locals i args; operands = [] }

-- a call of method m by the topmost frame
abbrev pub entered : ProgramTables → ℕ → Frame → List Frame → Option Control
entered P m f fs = option_and_then (λ i. if nat_le (operands_of i) (length f.operands)
    then Some (Running (first_frame i m (take (operands_of i) f.operands)
    ∷ record f { operands = drop (operands_of i) f.operands } ∷ fs))
    else None) (method_at P m)

-- ---- steps

-- what the instruction at the offset of the method does
abbrev pub script_at : ProgramTables → ℕ → ℕ → Option Script
script_at P m offset = option_and_then (λ i. option_map (script P i) (site_at i offset)) (method_at P m)

abbrev pub within : Heap → Frame → Within
within h f = record { heap = h; locals = f.locals; operands = f.operands; printed = [] }

-- what the ending of an instruction of frame f, above fs, leaves, if there is a rule
abbrev pub after : ProgramTables → Ending → Within → Frame → List Frame → Option Control
after P (GoesTo t) w f fs = Some (Running (record f { offset = t; locals = w.locals; operands = w.operands } ∷ fs))
after P (Threw a) w f fs = option_map (λ o. unwound P o.kind (Ref a) (f ∷ fs)) (get w.heap a)
after P (Gave v) w f fs = given P v fs
after P (Called m) w f fs = entered P m (record f { locals = w.locals; operands = w.operands }) fs

-- an instruction of frame f, above fs, that does what the script says
pub record StepBy (P : ProgramTables) (sc : Script) (f : Frame) (fs : List Frame) (s t : State) : Type 0 where
  pub ending : Ending
  pub left : Within
  pub runs : Runs sc (within s.heap f) ending left
  pub control : after P ending left f fs ≡ Some t.control
  pub heap : t.heap ≡ left.heap
  pub printed : t.printed ≡ s.printed ++ left.printed

abbrev pub StepOf : ProgramTables → Control → State → State → Type 0
StepOf P (Running (f ∷ fs)) s t = IsSomeAnd (script_at P f.method f.offset) (λ sc. StepBy P sc f fs s t)
StepOf P c s t = ⊥

abbrev pub Step : ProgramTables → State → State → Type 0
Step P s t = StepOf P s.control s t

-- n steps lead from s to t
abbrev pub Run : ProgramTables → State → ℕ → State → Type 0
Run P s zero t = t ≡ s
Run P s (suc n) t = (m : State) × Step P s m × Run P m n t
