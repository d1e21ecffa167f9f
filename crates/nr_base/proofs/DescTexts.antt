-- The texts of descriptors are modified UTF-8.
use Rattle.std.proofs.Common.{◌≡◌, ℕ, zero, suc, ◌≤◌, List, [], ◌∷◌, ◌++◌, Option, Some, None, refl, sym, ap, subst, ◌∙◌, append_assoc, arith}
use Rattle.std.specs.Prelude.{IfSome, replicate, codes}
use Rattle.std.specs.List.{AllByRecursion, flat_map}
use Rattle.nr_base.specs.ModifiedUtf8.{unit_bytes, IsUnit, IsModifiedUtf8}
use Rattle.nr_base.specs.Descs.{base_text, desc_text, HasName, IsBase, IsDesc, desc, result_text, method_text, HasNames, method_desc}
use Rattle.nr_base.specs.declared.desc.types.DescBase.{DescBase}
use Rattle.nr_base.specs.declared.desc.types.DescBase.TheVariants as bases
use Rattle.nr_base.specs.declared.desc.types.Desc.{Desc}
use Rattle.nr_base.specs.declared.desc.types.MethodDesc.{MethodDesc}
use Rattle.nr_base.proofs.Units.{one_bytes}

-- ---- texts

empty : IsModifiedUtf8 []
empty = record { units = []; each = tt; spelled = refl }

-- one unit of one byte before a text
before : (c : ℕ) (text : List ℕ) → 1 ≤ c → c ≤ 0x7F → IsModifiedUtf8 text → IsModifiedUtf8 (c ∷ text)
before c text low high m = record {
  units = c ∷ m.units;
  each = ((omega arith, omega arith), m.each);
  spelled = ap (λ z. c ∷ z) m.spelled ∙ ap (λ z. z ++ flat_map unit_bytes m.units) (sym (one_bytes c low high));
}

units_of_both : (us vs : List ℕ) → AllByRecursion IsUnit us → AllByRecursion IsUnit vs → AllByRecursion IsUnit (us ++ vs)
units_of_both [] vs a b = b
units_of_both (u ∷ us) vs a b = (a.0, units_of_both us vs a.1 b)

bytes_of_both : (us vs : List ℕ) → flat_map unit_bytes us ++ flat_map unit_bytes vs ≡ flat_map unit_bytes (us ++ vs)
bytes_of_both [] vs = refl
bytes_of_both (u ∷ us) vs = append_assoc (unit_bytes u) (flat_map unit_bytes us) (flat_map unit_bytes vs) ∙ ap (λ z. unit_bytes u ++ z) (bytes_of_both us vs)

pub both : (a b : List ℕ) → IsModifiedUtf8 a → IsModifiedUtf8 b → IsModifiedUtf8 (a ++ b)
both a b m n = record {
  units = m.units ++ n.units;
  each = units_of_both m.units n.units m.each n.each;
  spelled = ap (λ z. z ++ b) m.spelled ∙ ap (λ z. flat_map unit_bytes m.units ++ z) n.spelled ∙ bytes_of_both m.units n.units;
}

-- ---- types

base_utf : (b : DescBase) → HasName b → IsModifiedUtf8 (base_text b)
base_utf bases.Bool h = before 0x5A [] (omega arith) (omega arith) empty
base_utf bases.Byte h = before 0x42 [] (omega arith) (omega arith) empty
base_utf bases.Char h = before 0x43 [] (omega arith) (omega arith) empty
base_utf bases.Short h = before 0x53 [] (omega arith) (omega arith) empty
base_utf bases.Int h = before 0x49 [] (omega arith) (omega arith) empty
base_utf bases.Long h = before 0x4A [] (omega arith) (omega arith) empty
base_utf (bases.Object name) h = before 0x4C (name ++ 0x3B ∷ []) (omega arith) (omega arith) (both name (0x3B ∷ []) h (before 0x3B [] (omega arith) (omega arith) empty))

brackets : (n : ℕ) (text : List ℕ) → IsModifiedUtf8 text → IsModifiedUtf8 (replicate n 0x5B ++ text)
brackets zero text m = m
brackets (suc n) text m = before 0x5B (replicate n 0x5B ++ text) (omega arith) (omega arith) (brackets n text m)

pub desc_text_utf : (d : Desc) → HasName d.base → IsModifiedUtf8 (desc_text d)
desc_text_utf d h = brackets d.dims (base_text d.base) (base_utf d.base h)

has_name : (b : DescBase) → IsBase b → HasName b
has_name (bases.Object name) is = is.0
has_name bases.Bool is = tt
has_name bases.Byte is = tt
has_name bases.Char is = tt
has_name bases.Short is = tt
has_name bases.Int is = tt
has_name bases.Long is = tt

pub desc_utf : (d : Desc) (text : List ℕ) → desc d text → IsModifiedUtf8 text
desc_utf d text g = subst IsModifiedUtf8 (sym g.1) (desc_text_utf d (has_name d.base g.0.1))

-- ---- methods

params_utf : (ds : List Desc) → AllByRecursion (λ d. HasName d.base) ds → IsModifiedUtf8 (flat_map desc_text ds)
params_utf [] all = empty
params_utf (d ∷ ds) all = both (desc_text d) (flat_map desc_text ds) (desc_text_utf d all.0) (params_utf ds all.1)

result_utf : (r : Option Desc) → IfSome r (λ d. HasName d.base) → IsModifiedUtf8 (result_text r)
result_utf None h = before 0x56 [] (omega arith) (omega arith) empty
result_utf (Some d) h = desc_text_utf d h

pub method_text_utf : (m : MethodDesc) → HasNames m → IsModifiedUtf8 (method_text m)
method_text_utf m h =
    let opened = before 0x28 (flat_map desc_text m.params) (omega arith) (omega arith) (params_utf m.params h.0) in
    let close = before 0x29 [] (omega arith) (omega arith) empty in
    both (codes "(" ++ flat_map desc_text m.params ++ codes ")") (result_text m.result) (both (codes "(" ++ flat_map desc_text m.params) (codes ")") opened close) (result_utf m.result h.1)

params_named : (ds : List Desc) → AllByRecursion IsDesc ds → AllByRecursion (λ d. HasName d.base) ds
params_named [] all = tt
params_named (d ∷ ds) all = (has_name d.base all.0.1, params_named ds all.1)

result_named : (r : Option Desc) → IfSome r IsDesc → IfSome r (λ d. HasName d.base)
result_named None is = tt
result_named (Some d) is = has_name d.base is.1

pub method_utf : (m : MethodDesc) (text : List ℕ) → method_desc m text → IsModifiedUtf8 text
method_utf m text g = subst IsModifiedUtf8 (sym g.1) (method_text_utf m (params_named m.params g.0.0, result_named m.result g.0.1))
