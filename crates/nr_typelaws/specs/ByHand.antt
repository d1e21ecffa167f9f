-- Faults of small methods, worked out by hand: the first check that fails, with its offset, depth and types.
use Rattle.std.specs.Prelude.{◌≡◌, ℕ, pos, List, [], ◌∷◌, map, false, Option, Some, None, codes}
use Rattle.std.specs.Option.{option_map_or}
use Rattle.nr_optable.specs.declared.table.Row.{Row}
use Rattle.nr_optable.specs.declared.table.Family.TheVariants.{F1}
use Rattle.nr_optable.specs.declared.table.Shape.TheVariants.{Plain}
use Rattle.nr_optable.specs.Rows.{none, op}
use Rattle.nr_prog.specs.declared.body.instruction.Args.{Args}
use Rattle.nr_prog.specs.declared.body.instruction.Args.TheVariants as args
use Rattle.nr_prog.specs.declared.body.instruction.Instr.{Instr}
use Rattle.nr_prog.specs.declared.member.Handler.{Handler}
use Rattle.nr_prog.specs.BodyOperands.{row_of}
use Rattle.nr_linked.specs.declared.program.kind.Base.TheVariants as bases
use Rattle.nr_linked.specs.declared.program.kind.Kind.{Kind}
use Rattle.nr_linked.specs.declared.program.tables.MethodInfo.{MethodInfo}
use Rattle.nr_linked.specs.declared.program.tables.ProgramTables.{ProgramTables}
use Rattle.nr_linked.specs.declared.program.tables.Resolved.{Resolved}
use Rattle.nr_linked.specs.declared.program.tables.Resolved.TheVariants as resolved
use Rattle.nr_linked.specs.declared.program.types.VFrame.{VFrame}
use Rattle.nr_linked.specs.declared.program.types.VType.{VType}
use Rattle.nr_linked.specs.declared.program.types.VType.TheVariants.{Top, Int, Long, Null, Uninit, UninitThis, Class}
use Rattle.nr_linked.specs.declared.typing.fault.OpFault.TheVariants.{NeedsKind, StackShort, StackOver, LocalRange, NeedsInit, ReturnKind}
use Rattle.nr_linked.specs.declared.typing.fault.Wanted.TheVariants as wanted
use Rattle.nr_linked.specs.TypingFaults.{MethodFault, Op, NoMap, MapMismatch, FallsOff, HandlerMismatch, first_fault}

-- ---- methods

-- an instruction at an offset, with its code, its operands and what was found for it
abbrev Step : Type 0
Step = Instr × Resolved

abbrev row_at : ℕ → Row
row_at code = option_map_or (λ r. r) (row_of code) (op code F1 Plain none none)

abbrev at : ℕ → ℕ → Step
at offset code = (record { at = offset; row = row_at code; args = args.Empty }, resolved.Nothing)

abbrev at_with : ℕ → ℕ → Args → Step
at_with offset code a = (record { at = offset; row = row_at code; args = a }, resolved.Nothing)

abbrev at_found : ℕ → ℕ → Args → Resolved → Step
at_found offset code a found = (record { at = offset; row = row_at code; args = a }, found)

abbrev int : Kind
int = record { dims = 0; base = bases.Int }

abbrev long : Kind
long = record { dims = 0; base = bases.Long }

abbrev ints : Kind
ints = record { dims = 1; base = bases.Int }

abbrev object : Kind
object = record { dims = 0; base = bases.Object 0 }

abbrev throwable : Kind
throwable = record { dims = 0; base = bases.Object 2 }

abbrev exception : Kind
exception = record { dims = 0; base = bases.Object 3 }

-- a frame map at an offset
abbrev frame : ℕ → List VType → List VType → ℕ × VFrame
frame offset locals stack = (offset, record { locals = locals; stack = stack; this_uninit = false })

-- a handler for offsets from the first to before the second, and what it catches
abbrev handler : ℕ → ℕ → ℕ → Option Kind → Handler × Option Kind
handler from to target kind = (record { start = from; end = to; handler = target; catch_type = 0 }, kind)

-- a static method of java/lang/Object: parameters, result, places of the stack and of local variables, code, handlers and
-- frame maps
abbrev method : List Kind → Option Kind → ℕ → ℕ → List Step → List (Handler × Option Kind) → List (ℕ × VFrame) → MethodInfo
method params result stack locals steps handlers maps = record {
  «class» = 0;
  name = codes "f";
  desc = [];
  flags = 8;
  params = params;
  result = result;
  max_stack = stack;
  max_locals = locals;
  body = Some (record { instrs = map (λ s. s.0) steps; handlers = map (λ h. h.0) handlers; maps = [] });
  resolved = map (λ s. s.1) steps;
  catches = map (λ h. h.1) handlers;
  maps = maps;
}

-- the same as an initialiser of java/lang/Exception
abbrev initialiser : ℕ → ℕ → List Step → MethodInfo
initialiser stack locals steps = record (method [] None stack locals steps [] []) { «class» = 3; name = codes "<init>"; flags = 0 }

-- with no parameters, no result, handlers or frame maps
abbrev code : ℕ → ℕ → List Step → MethodInfo
code stack locals steps = method [] None stack locals steps [] []

-- ---- the table

unfoldable pub cases : List (MethodInfo × Option MethodFault)
cases =
    -- 2 + 3
    (method [] (Some int) 2 0 (at 0 5 ∷ at 1 6 ∷ at 2 96 ∷ at 3 172 ∷ []) [] [], None) ∷
    -- iadd on an empty stack
    (method [] (Some int) 2 0 (at 0 96 ∷ at 1 96 ∷ at 2 96 ∷ at 3 172 ∷ []) [] [], Some (Op 0 (StackShort 0))) ∷
    -- iadd on one int
    (method [] (Some int) 2 0 (at 0 5 ∷ at 1 96 ∷ at 2 172 ∷ []) [] [], Some (Op 1 (StackShort 1))) ∷
    -- two ints in one place
    (code 1 0 (at 0 3 ∷ at 1 3 ∷ at 2 177 ∷ []), Some (Op 1 StackOver)) ∷
    -- a long takes two places
    (code 1 0 (at 0 9 ∷ at 1 177 ∷ []), Some (Op 0 StackOver)) ∷
    -- null where the second int of iadd is
    (code 2 0 (at 0 1 ∷ at 1 3 ∷ at 2 96 ∷ at 3 177 ∷ []), Some (Op 2 (NeedsKind 1 (wanted.Type Int) Null))) ∷
    -- null where its first is
    (code 2 0 (at 0 3 ∷ at 1 1 ∷ at 2 96 ∷ at 3 177 ∷ []), Some (Op 2 (NeedsKind 0 (wanted.Type Int) Null))) ∷
    -- an int where ladd takes a long
    (code 4 0 (at 0 9 ∷ at 1 3 ∷ at 2 97 ∷ at 3 177 ∷ []), Some (Op 2 (NeedsKind 0 (wanted.Type Long) Int))) ∷
    -- iload_0 of no local variable
    (code 1 0 (at 0 26 ∷ at 1 177 ∷ []), Some (Op 0 (LocalRange 0))) ∷
    -- the second place of a long counts
    (code 2 1 (at 0 30 ∷ at 1 177 ∷ []), Some (Op 0 (LocalRange 0))) ∷
    -- istore_0, before its operand is looked at
    (code 0 0 (at 0 59 ∷ at 1 177 ∷ []), Some (Op 0 (LocalRange 0))) ∷
    -- a long parameter in one place
    (method (long ∷ []) None 1 1 (at 0 177 ∷ []) [] [], Some (Op 0 (LocalRange 1))) ∷
    -- wide iload
    (code 1 1 (at_with 0 196 (args.Wide 21 300) ∷ at 4 177 ∷ []), Some (Op 0 (LocalRange 300))) ∷
    -- a local variable that nothing wrote
    (code 1 1 (at 0 26 ∷ at 1 177 ∷ []), Some (Op 0 (NeedsKind 0 (wanted.Type Int) Top))) ∷
    -- aload_0 of an int
    (method (int ∷ []) None 1 1 (at 0 42 ∷ at 1 177 ∷ []) [] [], Some (Op 0 (NeedsKind 0 wanted.AnyReference Int))) ∷
    -- iinc of a long
    (method (long ∷ []) None 1 2 (at_with 0 132 (args.Inc 0 (pos 1)) ∷ at 3 177 ∷ []) [] [], Some (Op 0 (NeedsKind 0 (wanted.Type Int) Long))) ∷
    -- a store into one half of a long ends it
    (method (long ∷ []) None 2 2 (at 0 3 ∷ at 1 60 ∷ at 2 30 ∷ at 3 177 ∷ []) [] [], Some (Op 2 (NeedsKind 0 (wanted.Type Long) Top))) ∷
    -- lload_1 in the midst of a long
    (method (long ∷ []) None 2 3 (at 0 31 ∷ at 1 177 ∷ []) [] [], Some (Op 0 (NeedsKind 0 (wanted.Type Long) Top))) ∷
    -- pop of a long
    (code 2 0 (at 0 9 ∷ at 1 87 ∷ at 2 177 ∷ []), Some (Op 1 (NeedsKind 0 (wanted.Type Top) Long))) ∷
    -- swap with a long below
    (code 3 0 (at 0 9 ∷ at 1 3 ∷ at 2 95 ∷ at 3 177 ∷ []), Some (Op 2 (NeedsKind 1 (wanted.Type Top) Long))) ∷
    -- dup2 of one int
    (code 4 0 (at 0 3 ∷ at 1 92 ∷ at 2 177 ∷ []), Some (Op 1 (StackShort 1))) ∷
    -- dup2 of a long
    (code 4 0 (at 0 9 ∷ at 1 92 ∷ at 2 88 ∷ at 3 88 ∷ at 4 177 ∷ []), None) ∷
    -- return in a method of an int
    (method [] (Some int) 1 0 (at 0 177 ∷ []) [] [], Some (Op 0 ReturnKind)) ∷
    -- ireturn in a method of nothing, before its operand is looked at
    (code 1 0 (at 0 172 ∷ []), Some (Op 0 ReturnKind)) ∷
    -- areturn in a method of an int
    (method [] (Some int) 1 0 (at 0 1 ∷ at 1 176 ∷ []) [] [], Some (Op 1 ReturnKind)) ∷
    -- a long returned as an int
    (method [] (Some int) 2 0 (at 0 9 ∷ at 1 172 ∷ []) [] [], Some (Op 1 (NeedsKind 0 (wanted.Type Int) Long))) ∷
    -- null returned as an object
    (method [] (Some object) 1 0 (at 0 1 ∷ at 1 176 ∷ []) [] [], None) ∷
    -- nop at the end
    (code 1 0 (at 0 0 ∷ []), Some (FallsOff 0)) ∷
    -- iconst_0 at the end
    (code 1 0 (at 0 0 ∷ at 1 3 ∷ []), Some (FallsOff 1)) ∷
    -- code behind a return without a frame map
    (code 1 0 (at 0 177 ∷ at 1 177 ∷ []), Some (NoMap 1)) ∷
    -- a branch to an offset without a frame map
    (code 1 0 (at_with 0 167 (args.Branch 3) ∷ at 3 177 ∷ []), Some (NoMap 3)) ∷
    -- of a switch the default first
    (code 1 0 (at 0 3 ∷ at_with 1 170 (args.Switch 40 (pos 0) (36 ∷ [])) ∷ at 36 177 ∷ at 40 177 ∷ []), Some (NoMap 40)) ∷
    -- one operand falls through to a frame without
    (method [] None 1 0 (at 0 3 ∷ at 1 177 ∷ []) [] (frame 1 [] [] ∷ []), Some (MapMismatch 1)) ∷
    -- one operand branches to a frame without
    (method [] None 1 0 (at 0 3 ∷ at_with 1 167 (args.Branch 0) ∷ []) [] (frame 0 [] [] ∷ []), Some (MapMismatch 0)) ∷
    -- nothing in a local variable where an int is wanted
    (method [] None 1 1 (at 0 177 ∷ []) [] (frame 0 (Int ∷ []) [] ∷ []), Some (MapMismatch 0)) ∷
    -- a long on the stack where Top is wanted
    (method [] None 2 0 (at 0 9 ∷ at 1 177 ∷ []) [] (frame 1 [] (Top ∷ []) ∷ []), Some (MapMismatch 1)) ∷
    -- a long in a local variable where Top is wanted
    (method (long ∷ []) None 1 2 (at 0 177 ∷ []) [] (frame 0 (Top ∷ []) [] ∷ []), None) ∷
    -- a frame map with more places than the method
    (method [] None 1 1 (at 0 0 ∷ at 1 177 ∷ []) [] (frame 1 (Top ∷ Top ∷ Top ∷ []) [] ∷ []), None) ∷
    -- a handler of all
    (method [] None 1 0 (at 0 177 ∷ at 1 191 ∷ []) (handler 0 1 1 None ∷ []) (frame 1 [] (Class throwable ∷ []) ∷ []), None) ∷
    -- no frame map at the handler
    (method [] None 1 0 (at 0 177 ∷ []) (handler 0 1 0 None ∷ []) [], Some (HandlerMismatch 0 0)) ∷
    -- no place for what is caught
    (method [] None 0 0 (at 0 177 ∷ at 1 177 ∷ []) (handler 0 1 1 None ∷ []) (frame 1 [] (Class throwable ∷ []) ∷ []), Some (HandlerMismatch 0 0)) ∷
    -- what is caught is no throwable
    (method [] None 1 0 (at 0 177 ∷ at 1 177 ∷ []) (handler 0 1 1 (Some object) ∷ []) (frame 1 [] (Class object ∷ []) ∷ []), Some (HandlerMismatch 0 0)) ∷
    -- a handler's frame with an int
    (method [] None 1 0 (at 0 177 ∷ at 1 177 ∷ []) (handler 0 1 1 None ∷ []) (frame 1 [] (Int ∷ []) ∷ []), Some (HandlerMismatch 0 0)) ∷
    -- the second handler
    (method [] None 1 0 (at 0 177 ∷ at 1 191 ∷ []) (handler 0 1 1 (Some exception) ∷ handler 0 1 0 None ∷ []) (frame 1 [] (Class throwable ∷ []) ∷ []), Some (HandlerMismatch 0 1)) ∷
    -- a handler of no offset
    (method [] None 1 0 (at 0 0 ∷ at 1 177 ∷ []) (handler 0 0 0 None ∷ []) [], None) ∷
    -- new with its own object on the stack
    (method [] None 2 0 (at 0 177 ∷ at_found 1 187 (args.Pool 1) (resolved.Kind object) ∷ at 4 177 ∷ []) [] (frame 1 [] (Uninit 1 ∷ []) ∷ []), Some (Op 1 NeedsInit)) ∷
    -- a return in an initialiser before `this` is initialised
    (initialiser 1 1 (at 0 177 ∷ []), Some (Op 0 NeedsInit)) ∷
    -- the initialiser of another class
    (code 1 0 (at_found 0 187 (args.Pool 1) (resolved.Kind exception) ∷ at_found 3 183 (args.Pool 2) (resolved.Method 0 0) ∷ at 6 177 ∷ []), Some (Op 3 (NeedsKind 0 (wanted.Type (Class object)) (Uninit 0)))) ∷
    -- new java/lang/Object
    (code 1 0 (at_found 0 187 (args.Pool 1) (resolved.Kind object) ∷ at_found 3 183 (args.Pool 2) (resolved.Method 0 0) ∷ at 6 177 ∷ []), None) ∷
    -- the initialiser of no direct superclass
    (initialiser 1 1 (at 0 42 ∷ at_found 1 183 (args.Pool 2) (resolved.Method 0 0) ∷ at 4 177 ∷ []), Some (Op 1 (NeedsKind 0 (wanted.Type (Class object)) UninitThis))) ∷
    -- arraylength of an int
    (code 1 0 (at 0 3 ∷ at 1 190 ∷ at 2 177 ∷ []), Some (Op 1 (NeedsKind 0 wanted.AnyReference Int))) ∷
    -- baload of an array of ints
    (method (ints ∷ []) None 2 1 (at 0 42 ∷ at 1 3 ∷ at 2 51 ∷ at 3 177 ∷ []) [] [], Some (Op 2 (NeedsKind 1 (wanted.Type (Class (record { dims = 1; base = bases.Byte }))) (Class ints)))) ∷
    -- aaload of null
    (code 2 0 (at 0 1 ∷ at 1 3 ∷ at 2 50 ∷ at 3 87 ∷ at 4 177 ∷ []), None) ∷
    -- athrow of an object
    (method (object ∷ []) None 1 1 (at 0 42 ∷ at 1 191 ∷ []) [] [], Some (Op 1 (NeedsKind 0 (wanted.Type (Class throwable)) (Class object)))) ∷
    -- checkcast of an int
    (code 1 0 (at 0 3 ∷ at_found 1 192 (args.Pool 1) (resolved.Kind object) ∷ at 4 177 ∷ []), Some (Op 1 (NeedsKind 0 wanted.AnyReference Int))) ∷
    []

-- in the program each method has this as its first fault
abbrev pub AreTold : ProgramTables → List (MethodInfo × Option MethodFault) → Type 0
AreTold P [] = Unit {0}
AreTold P (c ∷ cs) = (first_fault P c.0 ≡ c.1) × AreTold P cs
