-- Class files as text: JVM Specification 4.1.
use Rattle.std.specs.Prelude.{◌≡◌, ℕ, List}
use Rattle.std.specs.Int.{Width, w16, w32, to_be_bytes}
use Rattle.nr_base.specs.Grammar.{Grammar, give, Then, Times}
use Rattle.nr_prog.specs.declared.parts.ClassParts.{ClassParts}
use Rattle.nr_prog.specs.Form.{IsFormed}
use Rattle.nr_classread.specs.Numbers.{u2}
use Rattle.nr_classread.specs.PoolText.{pool, list}
use Rattle.nr_classread.specs.AttributeText.{IsIgnored}
use Rattle.nr_classread.specs.MemberText.{field, method}

-- one number and no other
abbrev pub fixed : Width → ℕ → Grammar (Unit {0})
fixed w n x text = text ≡ to_be_bytes w n

abbrev pub magic : Grammar (Unit {0})
magic = fixed w32 0xCAFEBABE

-- minor_version 0 and major_version 50
abbrev pub version : Grammar (Unit {0})
version = Then (fixed w16 0) (λ minor. fixed w16 50)

-- constant_pool, access_flags, this_class, super_class, interfaces, fields, methods, each list behind its count
abbrev pub parts : Grammar ClassParts
parts =
    Then pool (λ entries. Then u2 (λ flags. Then u2 (λ this. Then u2 (λ super.
    Then (list u2) (λ interfaces. Then (list (field entries)) (λ fields. Then (list (method entries)) (λ methods.
    give (record { pool = entries; flags = flags; this_class = this; super_class = super; interfaces = interfaces; fields = fields; methods = methods }))))))))

-- an attribute of the class, which is skipped
abbrev pub ignored : Unit {0} → Grammar (Unit {0})
ignored s t text = IsIgnored text

-- magic, version, the parts, attributes_count, attributes, and nothing behind the last one
abbrev pub class_file : Grammar ClassParts
class_file =
    Then magic (λ m. Then version (λ v. Then parts (λ c.
    Then u2 (λ count. Then (Times ignored count tt) (λ attributes. give c)))))

-- the bytes are the file of these parts, and the parts keep the form
abbrev pub ReadsAs : List ℕ → ClassParts → Type 0
ReadsAs bytes c = class_file c bytes × IsFormed c
