-- What a class file has no room or no name for: the counts and names of JVM Specification 4. That the first one in
-- the order of the file is told is the project's own rule.
use Rattle.std.specs.Prelude.{◌≡◌, ℕ, ◌+◌, ◌*◌, List, [], ◌∷◌, length, Bool, true, false, Option, Some, None, Result, Ok, Err, nat_lt, ◌==◌, if◌then◌else◌}
use Rattle.std.specs.Bool.{MatchBool}
use Rattle.std.specs.Option.{option_or}
use Rattle.nr_prog.specs.declared.member.Field.{Field}
use Rattle.nr_prog.specs.declared.member.Method.{Method}
use Rattle.nr_prog.specs.declared.member.Code.{Code}
use Rattle.nr_prog.specs.declared.parts.ClassParts.{ClassParts}
use Rattle.nr_classwrite.specs.Names.{names_of}
use Rattle.nr_classwrite.specs.declared.names.AttrNames.{AttrNames}
use Rattle.nr_classwrite.specs.declared.fault.Part.{Part}
use Rattle.nr_classwrite.specs.declared.fault.Part.TheVariants as parts
use Rattle.nr_classwrite.specs.declared.fault.AttrName.{AttrName}
use Rattle.nr_classwrite.specs.declared.fault.AttrName.TheVariants as attributes
use Rattle.nr_classwrite.specs.declared.fault.WriteFault.{WriteFault}
use Rattle.nr_classwrite.specs.declared.fault.WriteFault.TheVariants as faults

-- want of memory may come at any time
abbrev pub is_free : WriteFault → Bool
is_free faults.NoMemory = true
is_free e = false

-- a call answers Ok where there is no fault, and else the fault, or want of memory
abbrev pub IsAnswer : {A : Type 0} → Result A WriteFault → Option WriteFault → Type 0
IsAnswer (Ok x) fault = fault ≡ None
IsAnswer (Err e) fault = MatchBool (is_free e) (Unit {0}) (fault ≡ Some e)

-- ---- names of attributes (4.7)

-- the attribute's name is needed
abbrev pub no_name : AttrName → Option ℕ → Option WriteFault
no_name name None = Some (faults.NoAttrName name)
no_name name (Some index) = None

-- ---- counts

-- a part has so many items, and its count says at most so many
abbrev pub too_long : Part → ℕ → ℕ → Option WriteFault
too_long part most count = if nat_lt most count then Some (faults.TooLong part count) else None

-- the first fault of a list's items
unfoldable pub first_fault : {A : Type 0} → (A → Option WriteFault) → List A → Option WriteFault
first_fault fault [] = None
first_fault fault (x ∷ xs) = option_or (fault x) (first_fault fault xs)

-- ---- fields (4.5)

-- a constant value is an attribute
abbrev pub field_fault : AttrNames → Field → Option WriteFault
field_fault names f = if f.constant == 0 then None else no_name attributes.ConstantValue names.constant

-- ---- code (4.7.3)

-- frame maps are an attribute: u2 name, u4 length, and their bytes
abbrev pub maps_len : Option (List ℕ) → ℕ
maps_len None = 0
maps_len (Some maps) = 6 + length maps

-- max_stack, max_locals, code_length, code, exception_table_length, handlers, attributes_count, attributes
abbrev pub contents_len : Code → ℕ
contents_len code = 2 + 2 + 4 + length code.bytes + 2 + 8 * length code.handlers + 2 + maps_len code.maps

abbrev pub maps_fault : AttrNames → Option (List ℕ) → Option WriteFault
maps_fault names None = None
maps_fault names (Some maps) = no_name attributes.StackMapTable names.maps

unfoldable pub code_fault : AttrNames → Code → Option WriteFault
code_fault names code =
    option_or (no_name attributes.Code names.code)
    (option_or (too_long parts.Attributes 4294967295 (contents_len code))
    (option_or (too_long parts.Code 4294967295 (length code.bytes))
    (option_or (too_long parts.Handlers 65535 (length code.handlers))
    (maps_fault names code.maps))))

-- ---- methods (4.6)

abbrev pub attribute_fault : AttrNames → Option Code → Option WriteFault
attribute_fault names None = None
attribute_fault names (Some code) = code_fault names code

abbrev pub method_fault : AttrNames → Method → Option WriteFault
method_fault names m = attribute_fault names m.code

-- ---- the file (4.1)

unfoldable pub class_fault : ClassParts → Option WriteFault
class_fault c =
    option_or (too_long parts.Pool 65534 (length c.pool))
    (option_or (too_long parts.Interfaces 65535 (length c.interfaces))
    (option_or (too_long parts.Fields 65535 (length c.fields))
    (option_or (first_fault (field_fault (names_of c.pool)) c.fields)
    (option_or (too_long parts.Methods 65535 (length c.methods))
    (first_fault (method_fault (names_of c.pool)) c.methods)))))
