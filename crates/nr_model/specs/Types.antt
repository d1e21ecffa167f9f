-- Types of values: what a local variable, an operand or a slot of an object may hold.
use Rattle.std.specs.Prelude.{ℕ, zero, suc, List, [], ◌∷◌, ◌++◌, reverse, if◌then◌else◌}
use Rattle.nr_linked.specs.declared.program.kind.Base.{Base}
use Rattle.nr_linked.specs.declared.program.kind.Base.TheVariants as bases
use Rattle.nr_linked.specs.declared.program.kind.Kind.{Kind}
use Rattle.nr_linked.specs.declared.program.tables.MethodInfo.{MethodInfo}
use Rattle.nr_linked.specs.declared.program.types.VType.{VType}
use Rattle.nr_linked.specs.declared.program.types.VType.TheVariants as types
use Rattle.nr_prog.specs.Members.{is_static}
use Rattle.nr_linked.specs.Kinds.{class_kind, is_reference}
use Rattle.nr_linked.specs.TypingCalls.{class_made_at}
use Rattle.nr_model.specs.Heaps.{on_some}

pub data Ty : Type 0 where
  Anything : Ty  -- what a local variable of type Top holds
  Word : Ty  -- what an operand of type Top is: anything but a long
  AnInt : Ty
  Small : Base → Ty  -- an int in the range of the primitive type
  ALong : Ty
  JustNull : Ty
  Nullable : Kind → Ty  -- null, or a reference to an object that goes where the kind is wanted
  Object : Kind → Ty  -- such a reference
  Just : Kind → Ty  -- a reference to an object of just this kind
  Exact : Kind → ℕ → Ty  -- the same with so many slots

-- ---- of kinds

abbrev pub of_base : Base → Ty
of_base bases.Long = ALong
of_base base = AnInt

-- what an argument or a result of the kind is; small ones aren't narrowed
abbrev pub kind_ty : Kind → Ty
kind_ty k = if is_reference k then Nullable k else of_base k.base

abbrev pub kind_tys : List Kind → List Ty
kind_tys [] = []
kind_tys (k ∷ ks) = kind_ty k ∷ kind_tys ks

-- what the arguments of a call of the method are, the last first, and the receiver after them
abbrev pub argument_tys : MethodInfo → List Ty
argument_tys t = kind_tys (reverse t.params) ++ (if is_static t.flags then [] else Object (class_kind t.«class») ∷ [])

abbrev pub kept_base : Base → Ty
kept_base bases.Long = ALong
kept_base bases.Int = AnInt
kept_base base = Small base

-- what a slot of the kind holds
abbrev pub kept_ty : Kind → Ty
kept_ty k = if is_reference k then Nullable k else kept_base k.base

-- ---- of the verifier's types, in a method

-- what the verifier's type means, where `top` is what Top means. An object that isn't initialised is of just the class
-- that its `new` makes, and `this` is of the method's class or one below it.
abbrev pub ty_of : Ty → MethodInfo → VType → Ty
ty_of top m types.Top = top
ty_of top m types.Int = AnInt
ty_of top m types.Long = ALong
ty_of top m types.Null = JustNull
ty_of top m types.UninitThis = Object (class_kind m.«class»)
ty_of top m (types.Uninit n) = on_some (class_made_at m n) JustNull (λ c. Just (class_kind c))
ty_of top m (types.Class k) = Nullable k

abbrev pub operand_tys : MethodInfo → List VType → List Ty
operand_tys m [] = []
operand_tys m (t ∷ ts) = ty_of Word m t ∷ operand_tys m ts

-- of the first n places; places past the listed ones hold anything
abbrev pub local_tys : MethodInfo → ℕ → List VType → List Ty
local_tys m zero ts = []
local_tys m (suc n) [] = Anything ∷ local_tys m n []
local_tys m (suc n) (t ∷ ts) = ty_of Anything m t ∷ local_tys m n ts
