-- Descriptors as texts. JVM Specification 4.3.2 and 4.3.3, of which the project leaves out the types
-- float and double.
use Rattle.std.specs.Prelude.{◌≡◌, ℕ, ◌≤◌, List, ◌++◌, ◌==◌, if◌then◌else◌, Option, Some, None, IfSome, replicate, sum_by, codes}
use Rattle.std.specs.List.{AllByRecursion, flat_map}
use Rattle.nr_base.specs.Grammar.{Grammar}
use Rattle.nr_base.specs.ModifiedUtf8.{IsModifiedUtf8}
use Rattle.nr_base.specs.LegalNames.{IsClassName}
use Rattle.nr_base.specs.declared.desc.types.DescBase.{DescBase}
use Rattle.nr_base.specs.declared.desc.types.DescBase.TheVariants as bases
use Rattle.nr_base.specs.declared.desc.types.Desc.{Desc}
use Rattle.nr_base.specs.declared.desc.types.MethodDesc.{MethodDesc}

abbrev pub base_text : DescBase → List ℕ
base_text bases.Bool = codes "Z"
base_text bases.Byte = codes "B"
base_text bases.Char = codes "C"
base_text bases.Short = codes "S"
base_text bases.Int = codes "I"
base_text bases.Long = codes "J"
base_text (bases.Object name) = codes "L" ++ name ++ codes ";"

-- a `[` for each dimension, and the type of the elements
abbrev pub desc_text : Desc → List ℕ
desc_text d = replicate d.dims 0x5B ++ base_text d.base

-- the class that is named has a legal name
abbrev pub IsBase : DescBase → Type 0
IsBase (bases.Object name) = IsModifiedUtf8 name × IsClassName name
IsBase base = Unit {0}

-- the class that is named has a name in modified UTF-8, legal or not, as each descriptor of the program
abbrev pub HasName : DescBase → Type 0
HasName (bases.Object name) = IsModifiedUtf8 name
HasName base = Unit {0}

abbrev pub IsDesc : Desc → Type 0
IsDesc d = (d.dims ≤ 255) × IsBase d.base

-- the text of a descriptor
abbrev pub desc : Grammar Desc
desc d text = IsDesc d × (text ≡ desc_text d)

abbrev pub result_text : Option Desc → List ℕ
result_text None = codes "V"
result_text (Some d) = desc_text d

abbrev pub method_text : MethodDesc → List ℕ
method_text m = codes "(" ++ flat_map desc_text m.params ++ codes ")" ++ result_text m.result

-- how many slots a value of the type takes: two for a long
abbrev pub slots_of : Desc → ℕ
slots_of d = if d.dims == 0 then base_slots d.base else 1
  where
    base_slots : DescBase → ℕ
    base_slots bases.Long = 2
    base_slots base = 1

abbrev pub slots : List Desc → ℕ
slots params = sum_by slots_of params

abbrev pub IsMethodDesc : MethodDesc → Type 0
IsMethodDesc m = AllByRecursion IsDesc m.params × IfSome m.result IsDesc × (slots m.params ≤ 254)

-- each class that is named has a name in modified UTF-8
abbrev pub HasNames : MethodDesc → Type 0
HasNames m = AllByRecursion (λ d. HasName d.base) m.params × IfSome m.result (λ d. HasName d.base)

-- the text of a method's descriptor
abbrev pub method_desc : Grammar MethodDesc
method_desc m text = IsMethodDesc m × (text ≡ method_text m)
