-- The same as tests, by reading: they tell the first fault. Of a text of bytes, as each text of a class file is, a test
-- holds exactly where the text is legal.
use Rattle.std.specs.Prelude.{ℕ, List, Bool, false, ◌&&◌, is_ok, is_none, Result, Ok, Err}
use Rattle.nr_base.specs.Names.{is_name}
use Rattle.nr_base.specs.LegalNames.{class_from, is_unqualified, is_method_name}
use Rattle.nr_base.specs.DescReading.{desc_of, method_of}
use Rattle.nr_base.specs.declared.desc.fault.DescFault.{DescFault}
use Rattle.nr_base.specs.declared.desc.types.MethodDesc.{MethodDesc}

-- a class: unqualified names with `/` between
unfoldable pub is_class_text : List ℕ → Bool
is_class_text bytes = is_name bytes && class_from false bytes

-- a field: an unqualified name
unfoldable pub is_field_text : List ℕ → Bool
is_field_text bytes = is_name bytes && is_unqualified bytes

-- a method: an unqualified name without `<` and `>`, or `<init>` or `<clinit>`
unfoldable pub is_method_text : List ℕ → Bool
is_method_text bytes = is_name bytes && is_method_name bytes

-- a field's descriptor
unfoldable pub is_field_desc : List ℕ → Bool
is_field_desc bytes = is_ok (desc_of bytes)

-- a method's descriptor
unfoldable pub is_method_desc : List ℕ → Bool
is_method_desc bytes = is_ok (method_of bytes)

abbrev pub returns_nothing : Result MethodDesc DescFault → Bool
returns_nothing (Ok desc) = is_none desc.result
returns_nothing (Err fault) = false

-- the descriptor of a method that returns nothing
unfoldable pub is_void_desc : List ℕ → Bool
is_void_desc bytes = returns_nothing (method_of bytes)
