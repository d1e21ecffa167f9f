-- What texts spell, each read as a name, as a class and as a descriptor. An entry of the constant pool is read once, and
-- the rules look there.
use Rattle.std.specs.Prelude.{ℕ, zero, suc, List, map, slice_get, Bool, Option, Some, None, Result, Ok, Err, is_none, ◌==◌, if◌then◌else◌}
use Rattle.std.specs.Option.{option_map}
use Rattle.nr_base.specs.Names.{is_name}
use Rattle.nr_base.specs.Descs.{slots}
use Rattle.nr_base.specs.DescReading.{desc_of, method_of}
use Rattle.nr_base.specs.declared.desc.fault.DescFault.{DescFault}
use Rattle.nr_base.specs.declared.desc.types.Desc.{Desc}
use Rattle.nr_base.specs.declared.desc.types.MethodDesc.{MethodDesc}
use Rattle.nr_prog.specs.declared.pool.PoolEntry.{PoolEntry}
use Rattle.nr_prog.specs.declared.text.MethodForm.{MethodForm}
use Rattle.nr_prog.specs.declared.text.TextForm.{TextForm}
use Rattle.nr_prog.specs.Pool.{text_in, text_at}
use Rattle.nr_prog.specs.LegalTests.{is_class_text, is_field_text, is_method_text, is_method_desc, is_void_desc}
use Rattle.nr_prog.specs.BodyNames.{object}
use Rattle.nr_prog.specs.BodyMaps.{type_of}

-- ---- classes

abbrev pub array_in : Result Desc DescFault → Option Desc
array_in (Ok d) = if d.dims == 0 then None else Some d
array_in (Err e) = None

-- the class or the array that the bytes name
unfoldable pub class_desc : List ℕ → Option Desc
class_desc bytes = if is_class_text bytes then Some (object bytes) else array_in (desc_of bytes)

-- ---- descriptors

abbrev pub dims_in : Result Desc DescFault → Option ℕ
dims_in (Ok d) = Some d.dims
dims_in (Err e) = None

abbrev pub method_form : Result MethodDesc DescFault → Option MethodForm
method_form (Ok m) = Some (record { slots = slots m.params; void = is_none m.result; params = map type_of m.params })
method_form (Err e) = None

-- whether a method of this descriptor returns nothing, where it is one
abbrev pub void_of : List ℕ → Option Bool
void_of bytes = if is_method_desc bytes then Some (is_void_desc bytes) else None

-- ---- texts

unfoldable pub form_of : List ℕ → TextForm
form_of bytes = record {
  name = is_name bytes;
  class_name = is_class_text bytes;
  field_name = is_field_text bytes;
  method_name = is_method_text bytes;
  dims = dims_in (desc_of bytes);
  class = class_desc bytes;
  method = method_form (method_of bytes);
}

-- of the entry's text, where it has one
abbrev pub form_in : PoolEntry → Option TextForm
form_in e = option_map form_of (text_in e)

-- of each entry, by its place
abbrev pub forms_of : List PoolEntry → List (Option TextForm)
forms_of pool = map form_in pool

-- of the text at the index, where one stands there
unfoldable pub form_at : List PoolEntry → ℕ → Option TextForm
form_at pool index = option_map form_of (text_at pool index)

abbrev pub given : Option (Option TextForm) → Option TextForm
given None = None
given (Some form) = form

-- the same, from the list of what each entry's text spells
abbrev pub listed_form : List (Option TextForm) → ℕ → Option TextForm
listed_form forms zero = None
listed_form forms (suc place) = given (slice_get forms place)
