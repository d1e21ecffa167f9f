-- What a text spells, as it was read, tells each rule's test.
use Rattle.std.proofs.Common.{◌≡◌, ℕ, zero, suc, Bool, false, cond, List, Option, Some, None, Result, Ok, Err, refl, sym, ap, ◌∙◌}
use Rattle.std.specs.Prelude.{is_ok, is_some, slice_get}
use Rattle.std.specs.Option.{option_map, option_map_or}
use Rattle.std.proofs.lemmas.Option.{slice_get-map}
use Rattle.nr_base.specs.DescReading.{desc_of, method_of}
use Rattle.nr_base.specs.declared.desc.fault.DescFault.{DescFault}
use Rattle.nr_base.specs.declared.desc.types.Desc.{Desc}
use Rattle.nr_base.specs.declared.desc.types.MethodDesc.{MethodDesc}
use Rattle.nr_prog.specs.declared.pool.PoolEntry.{PoolEntry}
use Rattle.nr_prog.specs.declared.text.MethodForm.{MethodForm}
use Rattle.nr_prog.specs.declared.text.TextForm.{TextForm}
use Rattle.nr_prog.specs.Pool.{text_in, text_at}
use Rattle.nr_prog.specs.LegalTests.{is_class_text, is_field_text, is_method_text, is_field_desc, is_method_desc, returns_nothing, is_void_desc}
use Rattle.nr_prog.specs.Members.{spells}
use Rattle.nr_prog.specs.TextForms.{dims_in, method_form, form_of, form_in, forms_of, form_at, given, listed_form, void_of}

-- ---- what was read, by a part of it

by_part : {A : Type 0} (g : TextForm → A) (test : List ℕ → A) (d : A) → ((bytes : List ℕ) → g (form_of bytes) ≡ test bytes) → (o : Option (List ℕ)) → option_map_or g (option_map form_of o) d ≡ option_map_or test o d
by_part g test d same (Some bytes) = same bytes
by_part g test d same None = refl

pub part : {A : Type 0} (g : TextForm → A) (test : List ℕ → A) (d : A) → ((bytes : List ℕ) → g (form_of bytes) ≡ test bytes) → (pool : List PoolEntry) (index : ℕ) → option_map_or g (form_at pool index) d ≡ option_map_or test (text_at pool index) d
unfolding form_at
part g test d same pool index = by_part g test d same (text_at pool index)

told : (g : TextForm → Bool) (test : List ℕ → Bool) → ((bytes : List ℕ) → g (form_of bytes) ≡ test bytes) → (pool : List PoolEntry) (index : ℕ) (f : TextForm) → form_at pool index ≡ Some f → g f ≡ spells test pool index
unfolding spells
told g test same pool index f e = sym (ap (λ o. option_map_or g o false) e) ∙ part g test false same pool index

untold : (g : TextForm → Bool) (test : List ℕ → Bool) → ((bytes : List ℕ) → g (form_of bytes) ≡ test bytes) → (pool : List PoolEntry) (index : ℕ) → form_at pool index ≡ None → false ≡ spells test pool index
unfolding spells
untold g test same pool index e = sym (ap (λ o. option_map_or g o false) e) ∙ part g test false same pool index

class_same : (bytes : List ℕ) → (form_of bytes).class_name ≡ is_class_text bytes
unfolding form_of
class_same bytes = refl

pub class_told : (pool : List PoolEntry) (index : ℕ) (f : TextForm) → form_at pool index ≡ Some f → f.class_name ≡ spells is_class_text pool index
class_told = told (λ f. f.class_name) is_class_text class_same

pub class_untold : (pool : List PoolEntry) (index : ℕ) → form_at pool index ≡ None → false ≡ spells is_class_text pool index
class_untold = untold (λ f. f.class_name) is_class_text class_same

field_same : (bytes : List ℕ) → (form_of bytes).field_name ≡ is_field_text bytes
unfolding form_of
field_same bytes = refl

pub field_told : (pool : List PoolEntry) (index : ℕ) (f : TextForm) → form_at pool index ≡ Some f → f.field_name ≡ spells is_field_text pool index
field_told = told (λ f. f.field_name) is_field_text field_same

pub field_untold : (pool : List PoolEntry) (index : ℕ) → form_at pool index ≡ None → false ≡ spells is_field_text pool index
field_untold = untold (λ f. f.field_name) is_field_text field_same

method_same : (bytes : List ℕ) → (form_of bytes).method_name ≡ is_method_text bytes
unfolding form_of
method_same bytes = refl

pub method_told : (pool : List PoolEntry) (index : ℕ) (f : TextForm) → form_at pool index ≡ Some f → f.method_name ≡ spells is_method_text pool index
method_told = told (λ f. f.method_name) is_method_text method_same

pub method_untold : (pool : List PoolEntry) (index : ℕ) → form_at pool index ≡ None → false ≡ spells is_method_text pool index
method_untold = untold (λ f. f.method_name) is_method_text method_same

-- ---- descriptors

some_dims : (r : Result Desc DescFault) → is_some (dims_in r) ≡ is_ok r
some_dims (Ok d) = refl
some_dims (Err e) = refl

desc_same : (bytes : List ℕ) → is_some (form_of bytes).dims ≡ is_field_desc bytes
unfolding form_of is_field_desc
desc_same bytes = some_dims (desc_of bytes)

pub desc_told : (pool : List PoolEntry) (index : ℕ) (f : TextForm) → form_at pool index ≡ Some f → is_some f.dims ≡ spells is_field_desc pool index
desc_told = told (λ f. is_some f.dims) is_field_desc desc_same

pub desc_untold : (pool : List PoolEntry) (index : ℕ) → form_at pool index ≡ None → false ≡ spells is_field_desc pool index
desc_untold = untold (λ f. is_some f.dims) is_field_desc desc_same

abbrev void_in : Option MethodForm → Option Bool
void_in m = option_map (λ m. m.void) m

voids : (r : Result MethodDesc DescFault) → void_in (method_form r) ≡ cond (is_ok r) (Some (returns_nothing r)) None
voids (Ok m) = refl
voids (Err e) = refl

void_same : (bytes : List ℕ) → void_in (form_of bytes).method ≡ void_of bytes
unfolding form_of is_method_desc is_void_desc
void_same bytes = voids (method_of bytes)

void_part : (pool : List PoolEntry) (index : ℕ) → option_map_or (λ f. void_in f.method) (form_at pool index) None ≡ option_map_or void_of (text_at pool index) None
void_part pool index = part (λ f. void_in f.method) void_of None void_same pool index

pub void_told : (pool : List PoolEntry) (index : ℕ) (f : TextForm) (m : MethodForm) → form_at pool index ≡ Some f → f.method ≡ Some m → Some m.void ≡ option_map_or void_of (text_at pool index) None
void_told pool index f m e is = sym (ap void_in is) ∙ sym (ap (λ o. option_map_or (λ (f : TextForm). void_in f.method) o None) e) ∙ void_part pool index

pub void_missed : (pool : List PoolEntry) (index : ℕ) (f : TextForm) → form_at pool index ≡ Some f → f.method ≡ None → None ≡ option_map_or void_of (text_at pool index) None
void_missed pool index f e is = sym (ap void_in is) ∙ sym (ap (λ o. option_map_or (λ (f : TextForm). void_in f.method) o None) e) ∙ void_part pool index

pub void_untold : (pool : List PoolEntry) (index : ℕ) → form_at pool index ≡ None → None ≡ option_map_or void_of (text_at pool index) None
void_untold pool index e = sym (ap (λ o. option_map_or (λ (f : TextForm). void_in f.method) o None) e) ∙ void_part pool index

-- ---- the list of what all texts spell

forms_in : (o : Option PoolEntry) → given (option_map form_in o) ≡ option_map form_of (option_map_or text_in o None)
forms_in (Some e) = refl
forms_in None = refl

pub listed_at : (pool : List PoolEntry) (index : ℕ) → listed_form (forms_of pool) index ≡ form_at pool index
unfolding form_at text_at
listed_at pool zero = refl
listed_at pool (suc i) = ap given (slice_get-map form_in pool i) ∙ forms_in (slice_get pool i)
