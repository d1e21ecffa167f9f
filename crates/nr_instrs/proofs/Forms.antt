-- What the texts that entries name spell, as a class keeps it, tells each test.
use Rattle.std.proofs.Common.{◌≡◌, ℕ, Bool, false, not, ◌&&◌, List, Option, Some, None, Result, Ok, Err, refl, sym, ap, ◌∙◌}
use Rattle.std.specs.Option.{option_map_or}
use Rattle.nr_base.specs.Names.{is_name}
use Rattle.nr_base.specs.DescReading.{desc_of, method_of}
use Rattle.nr_base.specs.declared.desc.fault.DescFault.{DescFault}
use Rattle.nr_base.specs.declared.desc.types.Desc.{Desc}
use Rattle.nr_base.specs.declared.desc.types.MethodDesc.{MethodDesc}
use Rattle.nr_prog.specs.declared.pool.PoolEntry.{PoolEntry}
use Rattle.nr_prog.specs.declared.pool.PoolEntry.TheVariants.{Class, NameAndType}
use Rattle.nr_prog.specs.declared.text.TextForm.{TextForm}
use Rattle.nr_prog.specs.Pool.{entry_at}
use Rattle.nr_prog.specs.Members.{spells}
use Rattle.nr_prog.specs.BodyNames.{class_text_in, class_text_at, desc_text_in, desc_text_at}
use Rattle.nr_prog.specs.TextForms.{class_desc, dims_in, method_form, form_of, form_at}
use Rattle.nr_prog.proofs.FormTests.{part}
use Rattle.nr_instrs.specs.NameTests.{names_class, names_class_by, is_full, is_component, has_dims, is_array, takes, is_counted, class_desc_at}
use Rattle.nr_instrs.specs.NameForms.{class_form_in, class_form_at, desc_form_in, desc_form_at, full_in, reaches, counts}

-- ---- by a part of what was read

module _ {A : Type 0} (g : TextForm → A) (test : List ℕ → A) (d : A) (same : (bytes : List ℕ) → g (form_of bytes) ≡ test bytes) (pool : List PoolEntry) where
  class_by : (o : Option PoolEntry) → option_map_or g (option_map_or (class_form_in pool) o None) d ≡ option_map_or test (option_map_or (class_text_in pool) o None) d
  class_by (Some (Class name)) = part g test d same pool name
  class_by (Some e) = refl
  class_by None = refl

  class_part : (index : ℕ) → option_map_or g (class_form_at pool index) d ≡ option_map_or test (class_text_at pool index) d
  unfolding class_form_at class_text_at
  class_part index = class_by (entry_at pool index)

  desc_by : (o : Option PoolEntry) → option_map_or g (option_map_or (desc_form_in pool) o None) d ≡ option_map_or test (option_map_or (desc_text_in pool) o None) d
  desc_by (Some (NameAndType name desc)) = part g test d same pool desc
  desc_by (Some e) = refl
  desc_by None = refl

  desc_part : (index : ℕ) → option_map_or g (desc_form_at pool index) d ≡ option_map_or test (desc_text_at pool index) d
  unfolding desc_form_at desc_text_at
  desc_part index = desc_by (entry_at pool index)

told : (g : TextForm → Bool) (test : List ℕ → Bool) → ((bytes : List ℕ) → g (form_of bytes) ≡ test bytes) → (pool : List PoolEntry) (index : ℕ) (f : TextForm) → class_form_at pool index ≡ Some f → g f ≡ names_class_by test pool index
unfolding names_class_by
told g test same pool index f e = sym (ap (λ o. option_map_or g o false) e) ∙ class_part g test false same pool index

untold : (g : TextForm → Bool) (test : List ℕ → Bool) → ((bytes : List ℕ) → g (form_of bytes) ≡ test bytes) → (pool : List PoolEntry) (index : ℕ) → class_form_at pool index ≡ None → false ≡ names_class_by test pool index
unfolding names_class_by
untold g test same pool index e = sym (ap (λ o. option_map_or g o false) e) ∙ class_part g test false same pool index

-- ---- names

name_same : (bytes : List ℕ) → (form_of bytes).name ≡ is_name bytes
unfolding form_of
name_same bytes = refl

pub name_told : (pool : List PoolEntry) (index : ℕ) (f : TextForm) → class_form_at pool index ≡ Some f → f.name ≡ names_class pool index
name_told = told (λ f. f.name) is_name name_same

pub name_untold : (pool : List PoolEntry) (index : ℕ) → class_form_at pool index ≡ None → false ≡ names_class pool index
name_untold = untold (λ f. f.name) is_name name_same

pub text_told : (pool : List PoolEntry) (index : ℕ) (f : TextForm) → form_at pool index ≡ Some f → f.name ≡ spells is_name pool index
unfolding spells
text_told pool index f e = sym (ap (λ o. option_map_or (λ (f : TextForm). f.name) o false) e) ∙ part (λ (f : TextForm). f.name) is_name false name_same pool index

pub text_untold : (pool : List PoolEntry) (index : ℕ) → form_at pool index ≡ None → false ≡ spells is_name pool index
unfolding spells
text_untold pool index e = sym (ap (λ o. option_map_or (λ (f : TextForm). f.name) o false) e) ∙ part (λ (f : TextForm). f.name) is_name false name_same pool index

-- ---- arrays

fulls : (r : Result Desc DescFault) → full_in (dims_in r) ≡ is_full r
fulls (Ok d) = refl
fulls (Err e) = refl

abbrev component : TextForm → Bool
component f = f.name && not (full_in f.dims)

component_same : (bytes : List ℕ) → component (form_of bytes) ≡ is_component bytes
unfolding form_of is_component
component_same bytes = ap (λ b. is_name bytes && not b) (fulls (desc_of bytes))

pub component_told : (pool : List PoolEntry) (index : ℕ) (f : TextForm) → class_form_at pool index ≡ Some f → (f.name && not (full_in f.dims)) ≡ names_class_by is_component pool index
component_told = told component is_component component_same

pub component_untold : (pool : List PoolEntry) (index : ℕ) → class_form_at pool index ≡ None → false ≡ names_class_by is_component pool index
component_untold = untold component is_component component_same

reached : (n : ℕ) (r : Result Desc DescFault) → reaches n (dims_in r) ≡ has_dims n r
reached n (Ok d) = refl
reached n (Err e) = refl

array_same : (n : ℕ) (bytes : List ℕ) → reaches n (form_of bytes).dims ≡ is_array n bytes
unfolding form_of is_array
array_same n bytes = reached n (desc_of bytes)

pub array_told : (n : ℕ) (pool : List PoolEntry) (index : ℕ) (f : TextForm) → class_form_at pool index ≡ Some f → reaches n f.dims ≡ names_class_by (is_array n) pool index
array_told n = told (λ f. reaches n f.dims) (is_array n) (array_same n)

pub array_untold : (n : ℕ) (pool : List PoolEntry) (index : ℕ) → class_form_at pool index ≡ None → false ≡ names_class_by (is_array n) pool index
array_untold n = untold (λ f. reaches n f.dims) (is_array n) (array_same n)

-- ---- descriptors of methods

counted : (count : ℕ) (r : Result MethodDesc DescFault) → counts count (method_form r) ≡ takes count r
counted count (Ok m) = refl
counted count (Err e) = refl

counted_same : (count : ℕ) (bytes : List ℕ) → counts count (form_of bytes).method ≡ is_counted count bytes
unfolding form_of is_counted
counted_same count bytes = counted count (method_of bytes)

pub counted_told : (count : ℕ) (pool : List PoolEntry) (index : ℕ) (f : TextForm) → desc_form_at pool index ≡ Some f → counts count f.method ≡ option_map_or (is_counted count) (desc_text_at pool index) false
counted_told count pool index f e =
    sym (ap (λ o. option_map_or (λ (f : TextForm). counts count f.method) o false) e)
    ∙ desc_part (λ (f : TextForm). counts count f.method) (is_counted count) false (counted_same count) pool index

pub counted_untold : (count : ℕ) (pool : List PoolEntry) (index : ℕ) → desc_form_at pool index ≡ None → false ≡ option_map_or (is_counted count) (desc_text_at pool index) false
counted_untold count pool index e =
    sym (ap (λ o. option_map_or (λ (f : TextForm). counts count f.method) o false) e)
    ∙ desc_part (λ (f : TextForm). counts count f.method) (is_counted count) false (counted_same count) pool index

-- ---- classes as types

class_same : (bytes : List ℕ) → (form_of bytes).class ≡ class_desc bytes
unfolding form_of
class_same bytes = refl

pub class_told : (pool : List PoolEntry) (index : ℕ) (f : TextForm) → class_form_at pool index ≡ Some f → f.class ≡ class_desc_at pool index
unfolding class_desc_at
class_told pool index f e =
    sym (ap (λ o. option_map_or (λ (f : TextForm). f.class) o None) e) ∙ class_part (λ (f : TextForm). f.class) class_desc None class_same pool index

pub class_untold : (pool : List PoolEntry) (index : ℕ) → class_form_at pool index ≡ None → None ≡ class_desc_at pool index
unfolding class_desc_at
class_untold pool index e =
    sym (ap (λ o. option_map_or (λ (f : TextForm). f.class) o None) e) ∙ class_part (λ (f : TextForm). f.class) class_desc None class_same pool index
