-- Types of local variables and operands, and frames of them: JVM Specification 4.10.1.2 to 4.10.1.4, without float and
-- double.
use Rattle.std.specs.Prelude.{ℕ, zero, suc, ◌+◌, List, [], ◌∷◌, reverse, Bool, true, false, not, ◌&&◌, ◌||◌, ◌==◌, if◌then◌else◌}
use Rattle.nr_linked.specs.declared.program.kind.Base.{Base}
use Rattle.nr_linked.specs.declared.program.kind.Base.TheVariants as bases
use Rattle.nr_linked.specs.declared.program.kind.Kind.{Kind}
use Rattle.nr_linked.specs.declared.program.built_in.BuiltIn.TheVariants as built_ins
use Rattle.nr_linked.specs.declared.program.tables.ProgramTables.{ProgramTables}
use Rattle.nr_linked.specs.declared.program.tables.MethodInfo.{MethodInfo}
use Rattle.nr_linked.specs.declared.program.types.VFrame.{VFrame}
use Rattle.nr_linked.specs.declared.program.types.VType.{VType}
use Rattle.nr_linked.specs.declared.program.types.VType.TheVariants.{Top, Int, Long, Null, UninitThis, Uninit, Class}
use Rattle.nr_prog.specs.Members.{is_static}
use Rattle.nr_linked.specs.Initialisers.{is_initialiser}
use Rattle.nr_linked.specs.Kinds.{class_kind, is_reference}
use Rattle.nr_linked.specs.BuiltIns.{built_in}
use Rattle.nr_linked.specs.Subtypes.{is_assignable}

-- The types at an instruction, the topmost operand first. A long is one operand; in the local variables it takes two
-- places, of which the second is Top.
pub record TypeFrame : Type 0 where
  pub locals : List VType
  pub operands : List VType
  -- `this` isn't yet initialised (flagThisUninit)
  pub this_uninit : Bool

-- a frame map's frame has the topmost operand last
abbrev pub turned : VFrame → TypeFrame
turned f = record { locals = f.locals; operands = reverse f.stack; this_uninit = f.this_uninit }

-- ---- types of values

abbrev pub of_base : Base → VType
of_base bases.Long = Long
of_base base = Int

-- boolean, byte, char and short are int
abbrev pub of_kind : Kind → VType
of_kind k = if is_reference k then Class k else of_base k.base

abbrev pub is_int : VType → Bool
is_int Int = true
is_int t = false

abbrev pub is_long : VType → Bool
is_long Long = true
is_long t = false

abbrev pub is_null : VType → Bool
is_null Null = true
is_null t = false

-- null, or a reference to an initialised object
abbrev pub is_initialised : VType → Bool
is_initialised Null = true
is_initialised (Class k) = true
is_initialised t = false

-- also to one that isn't initialised
abbrev pub is_any_reference : VType → Bool
is_any_reference UninitThis = true
is_any_reference (Uninit n) = true
is_any_reference t = is_initialised t

-- ---- what goes where another type is wanted (4.10.1.2)

abbrev pub is_type_assignable : ProgramTables → VType → VType → Bool
is_type_assignable P t Top = true
is_type_assignable P Int Int = true
is_type_assignable P Long Long = true
is_type_assignable P Null Null = true
is_type_assignable P Null (Class k) = true
is_type_assignable P UninitThis UninitThis = true
is_type_assignable P (Uninit n) (Uninit m) = n == m
is_type_assignable P (Class j) (Class k) = is_assignable P j k
is_type_assignable P t u = false

-- the same for operands, where a long goes for a long alone: an operand of type Top is one place, and a long is two
-- (the project's own way to say that 4.10.1.2 gives each long two entries)
abbrev pub is_operand_assignable : ProgramTables → VType → VType → Bool
is_operand_assignable P Long Top = false
is_operand_assignable P t u = is_type_assignable P t u

-- ---- frames that fit (4.10.1.3, 4.10.1.4: frameIsAssignable)

-- place by place; places past the listed ones are Top
abbrev pub locals_fit : ProgramTables → List VType → List VType → Bool
locals_fit P ts [] = true
locals_fit P [] (u ∷ us) = is_type_assignable P Top u && locals_fit P [] us
locals_fit P (t ∷ ts) (u ∷ us) = is_type_assignable P t u && locals_fit P ts us

-- place by place, in stacks of one length
abbrev pub operands_fit : ProgramTables → List VType → List VType → Bool
operands_fit P [] [] = true
operands_fit P (t ∷ ts) (u ∷ us) = is_operand_assignable P t u && operands_fit P ts us
operands_fit P ts us = false

abbrev pub frame_fits : ProgramTables → TypeFrame → TypeFrame → Bool
frame_fits P f g =
    locals_fit P f.locals g.locals && (operands_fit P f.operands g.operands && (not f.this_uninit || g.this_uninit))

-- ---- places

-- a long counts two
abbrev pub size_of : VType → ℕ
size_of Long = 2
size_of t = 1

abbrev pub total_size : List VType → ℕ
total_size [] = 0
total_size (t ∷ ts) = size_of t + total_size ts

-- in local variables (2.6.1)
abbrev pub in_places : List VType → List VType
in_places [] = []
in_places (Long ∷ ts) = Long ∷ Top ∷ in_places ts
in_places (t ∷ ts) = t ∷ in_places ts

-- at least so many places
abbrev pub padded : ℕ → List VType → List VType
padded zero ts = ts
padded (suc n) [] = Top ∷ padded n []
padded (suc n) (t ∷ ts) = t ∷ padded n ts

-- ---- the frame at a method's entry (4.10.1.6: methodInitialStackFrame)

-- `this` comes uninitialised: in an initialiser of a class other than java/lang/Object
abbrev pub comes_uninit : ProgramTables → MethodInfo → Bool
comes_uninit P m = is_initialiser m && not (m.«class» == built_in P built_ins.Object)

abbrev pub this_type : ProgramTables → MethodInfo → VType
this_type P m = if comes_uninit P m then UninitThis else Class (class_kind m.«class»)

abbrev pub of_kinds : List Kind → List VType
of_kinds [] = []
of_kinds (k ∷ ks) = of_kind k ∷ of_kinds ks

-- `this`, if there is one, and the parameters
abbrev pub argument_types : ProgramTables → MethodInfo → List VType
argument_types P m = if is_static m.flags then of_kinds m.params else this_type P m ∷ of_kinds m.params

-- how many places the descriptor takes, with the receiver's
abbrev pub places_of : ProgramTables → MethodInfo → ℕ
places_of P m = total_size (argument_types P m)

abbrev pub entry_frame : ProgramTables → MethodInfo → TypeFrame
entry_frame P m = record {
  locals = padded m.max_locals (in_places (argument_types P m));
  operands = [];
  this_uninit = not (is_static m.flags) && comes_uninit P m;
}
