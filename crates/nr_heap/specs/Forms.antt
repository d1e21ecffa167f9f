-- How slots stand in words of 64 bits. (The project's own layout.)
use Rattle.std.specs.Prelude.{◌≡◌, ℕ, zero, suc, ◌+◌, ◌-◌, ◌^◌, ◌/◌, ◌%◌, ◌<◌, pos, List, [], ◌∷◌, FitsSigned, Option, if◌then◌else◌}
use Rattle.std.specs.Int.{w8, w16, w32, w64, cast_signed, cast_unsigned}
use Rattle.std.specs.Option.{option_map}
use Rattle.nr_linked.specs.declared.program.kind.Base.{Base}
use Rattle.nr_linked.specs.declared.program.kind.Base.TheVariants as bases
use Rattle.nr_linked.specs.declared.program.kind.Kind.{Kind}
use Rattle.nr_linked.specs.Kinds.{element_of, is_array}
use Rattle.nr_model.specs.declared.value.Value.{Value}
use Rattle.nr_model.specs.declared.value.Value.TheVariants as values
use Rattle.nr_model.specs.Belonging.{InRange}
use Rattle.nr_model.specs.Scripts.{OnInt, OnLong, OnReference}
use Rattle.nr_heap.specs.declared.form.Form.{Form}
use Rattle.nr_heap.specs.declared.form.Form.TheVariants as forms

-- ---- forms

abbrev pub form_of_base : Base → Form
form_of_base bases.Bool = forms.Bool
form_of_base bases.Byte = forms.Byte
form_of_base bases.Char = forms.Char
form_of_base bases.Short = forms.Short
form_of_base bases.Int = forms.Int
form_of_base bases.Long = forms.Long
form_of_base (bases.Object c) = forms.Reference

-- the form of a slot of the kind
abbrev pub form_of : Kind → Form
form_of k = if is_array k then forms.Reference else form_of_base k.base

-- the form of an array's elements; none for an object, each of whose slots has its own
abbrev pub elements_form : Kind → Option Form
elements_form k = option_map form_of (element_of k)

-- the form in which the value stands in a word alone
abbrev pub form_of_value : Value → Form
form_of_value (values.Int n) = forms.Int
form_of_value (values.Long n) = forms.Long
form_of_value v = forms.Reference

-- the bits of a slot
abbrev pub bits : Form → ℕ
bits forms.Bool = 8
bits forms.Byte = 8
bits forms.Char = 16
bits forms.Short = 16
bits forms.Int = 32
bits forms.Long = 64
bits forms.Reference = 64

-- the slots of a word
abbrev pub per_word : Form → ℕ
per_word forms.Bool = 8
per_word forms.Byte = 8
per_word forms.Char = 4
per_word forms.Short = 4
per_word forms.Int = 2
per_word forms.Long = 1
per_word forms.Reference = 1

-- ---- values

-- 0 is null, and any other number is one more than a name
abbrev pub reference : ℕ → Value
reference zero = values.Null
reference (suc a) = values.Ref (a % 2 ^ 32)

-- the value that the lowest bits of n stand for
abbrev pub value_in : Form → ℕ → Value
value_in forms.Bool n = values.Int (pos (n % 2 ^ 8))
value_in forms.Byte n = values.Int (cast_signed w8 (n % 2 ^ 8))
value_in forms.Char n = values.Int (pos (n % 2 ^ 16))
value_in forms.Short n = values.Int (cast_signed w16 (n % 2 ^ 16))
value_in forms.Int n = values.Int (cast_signed w32 (n % 2 ^ 32))
value_in forms.Long n = values.Long (cast_signed w64 (n % 2 ^ 64))
value_in forms.Reference n = reference (n % 2 ^ 64)

-- what stands for the value
abbrev pub bits_of : Value → ℕ
bits_of (values.Int n) = cast_unsigned w32 n
bits_of (values.Long n) = cast_unsigned w64 n
bits_of values.Null = 0
bits_of (values.Ref a) = a + 1

abbrev pub lanes : Form → ℕ → ℕ → List Value
lanes f zero w = []
lanes f (suc n) w = value_in f w ∷ lanes f n (w / 2 ^ bits f)

-- the values of a word, those of the lowest bits first
unfoldable pub values_in : Form → ℕ → List Value
values_in f w = lanes f (per_word f) w

-- the words that n slots take
abbrev pub words_for : Form → ℕ → ℕ
words_for f n = (n + (per_word f - 1)) / per_word f

-- ---- what a slot can hold

-- a slot of the form can hold the value
abbrev pub Holds : Form → Value → Type 0
Holds forms.Bool v = OnInt v (InRange bases.Bool)
Holds forms.Byte v = OnInt v (InRange bases.Byte)
Holds forms.Char v = OnInt v (InRange bases.Char)
Holds forms.Short v = OnInt v (InRange bases.Short)
Holds forms.Int v = OnInt v (λ n. Unit {0})
Holds forms.Long v = OnLong v (λ n. Unit {0})
Holds forms.Reference v = OnReference v (λ a. Unit {0})

-- the numbers of the code's types
abbrev pub IsSized : Value → Type 0
IsSized (values.Int n) = FitsSigned w32 n
IsSized (values.Long n) = FitsSigned w64 n
IsSized values.Null = Unit {0}
IsSized (values.Ref a) = a < 2 ^ 32
