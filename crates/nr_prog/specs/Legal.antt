-- Texts that are legal names and descriptors: JVM Specification 4.2.1, 4.2.2, 4.3.2 and 4.3.3. Each is in modified
-- UTF-8 (4.4.7). That U+0000 and the types float and double are left out is the project's own rule.
use Rattle.std.specs.Prelude.{◌≡◌, List, ℕ, IsTrue, None}
use Rattle.nr_base.specs.ModifiedUtf8.{IsModifiedUtf8}
use Rattle.nr_base.specs.LegalNames.{IsClassName, is_unqualified, is_method_name}
use Rattle.nr_base.specs.Descs.{desc, method_desc}
use Rattle.nr_base.specs.declared.desc.types.Desc.{Desc}
use Rattle.nr_base.specs.declared.desc.types.MethodDesc.{MethodDesc}

-- a class: unqualified names with `/` between
abbrev pub IsClassText : List ℕ → Type 0
IsClassText text = IsModifiedUtf8 text × IsClassName text

-- a field: an unqualified name
abbrev pub IsFieldText : List ℕ → Type 0
IsFieldText text = IsModifiedUtf8 text × IsTrue (is_unqualified text)

-- a method: an unqualified name without `<` and `>`, or `<init>` or `<clinit>`
abbrev pub IsMethodText : List ℕ → Type 0
IsMethodText text = IsModifiedUtf8 text × IsTrue (is_method_name text)

-- a field's descriptor
abbrev pub IsFieldDesc : List ℕ → Type 0
IsFieldDesc text = (d : Desc) × desc d text

-- a method's descriptor
abbrev pub IsMethodDesc : List ℕ → Type 0
IsMethodDesc text = (m : MethodDesc) × method_desc m text

-- the descriptor of a method that returns nothing
abbrev pub IsVoidDesc : List ℕ → Type 0
IsVoidDesc text = (m : MethodDesc) × method_desc m text × (m.result ≡ None)
