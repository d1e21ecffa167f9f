-- What is written of a class is the text of its file.
use Rattle.std.proofs.Common.{◌≡◌, ℕ, ◌+◌, ◌<◌, ◌^◌, Bool, true, false, cond, eqb, List, [], ◌∷◌, ◌++◌, length, Option, Some, None, Ok, refl, sym, ap, subst, ◌∙◌, append_assoc, arith}
use Rattle.std.specs.Prelude.{codes, All}
use Rattle.std.specs.List.{AllByRecursion, flat_map}
use Rattle.std.specs.Option.{option_or}
use Rattle.std.proofs.lemmas.List.{append-nil}
use Rattle.std.proofs.lemmas.List.Elements.{All-head, All-tail}
use Rattle.nr_base.specs.Reader.{map_fault}
use Rattle.nr_base.proofs.Laws.{whole_only}
use Rattle.nr_base.proofs.Lists.{made}
use Rattle.nr_prog.specs.declared.pool.PoolEntry.{PoolEntry}
use Rattle.nr_prog.specs.declared.member.Field.{Field}
use Rattle.nr_prog.specs.declared.member.Code.{Code}
use Rattle.nr_prog.specs.declared.member.Method.{Method}
use Rattle.nr_prog.specs.declared.parts.ClassParts.{ClassParts}
use Rattle.nr_prog.specs.Form.{IsFormed, class_or}
use Rattle.nr_prog.proofs.FormLaw.{of_formed}
use Rattle.nr_classread.specs.declared.fault.ClassFault.TheVariants as reading
use Rattle.nr_classread.specs.Faults.{of_form}
use Rattle.nr_classread.specs.Numbers.{u2}
use Rattle.nr_classread.specs.PoolText.{pool}
use Rattle.nr_classread.specs.MemberText.{field, method}
use Rattle.nr_classread.specs.ClassText.{magic, version, parts, class_file, ReadsAs}
use Rattle.nr_classread.specs.ClassReading.{formed, class_of}
use Rattle.nr_classread.proofs.Files.{file_law}
use Rattle.nr_classwrite.specs.declared.fault.Part.TheVariants as counted
use Rattle.nr_classwrite.specs.declared.fault.WriteFault.{WriteFault}
use Rattle.nr_classwrite.specs.declared.fault.AttrName.{AttrName}
use Rattle.nr_classwrite.specs.declared.fault.AttrName.TheVariants as attributes
use Rattle.nr_classwrite.specs.Names.{index_in, names_of}
use Rattle.nr_classwrite.specs.Faults.{no_name, too_long, contents_len, first_fault, field_fault, maps_fault, code_fault, attribute_fault, method_fault, class_fault}
use Rattle.nr_classwrite.specs.Text.{two, four, entry_text, pool_text, list_text, field_text, method_text, class_text}
use Rattle.nr_classwrite.specs.Fits.{IndexFits, FieldFits, MethodFits, IsRoomy, PartsFit, HasCounts}
use Rattle.nr_classwrite.proofs.Room.{neither}
use Rattle.nr_classwrite.proofs.Found.{index_names, index_short}
use Rattle.nr_classwrite.proofs.Places.{pool_entries}
use Rattle.nr_classwrite.proofs.Members.{joined, two_spelled, list_spelled, IsIndex, NeedsMaps, NeedsNames, field_spelled, method_spelled}

-- ---- names that are needed are there

is_index : (which : AttrName) (es : List PoolEntry) (known : List ℕ) (o : Option ℕ) → index_in es known ≡ o → no_name which o ≡ None → length es < 2 ^ 16 → IsIndex es known o
is_index which es known None e h few = absurd cc
is_index which es known (Some i) e h few = record { named = index_names es known i e; fits = index_short es known i few e }

abbrev NeedsConstant : List PoolEntry → Field → Type 0
NeedsConstant es f = eqb f.constant 0 ≡ false → IsIndex es (codes "ConstantValue") (index_in es (codes "ConstantValue"))

needs_constant : (es : List PoolEntry) (f : Field) (b : Bool) → eqb f.constant 0 ≡ b → length es < 2 ^ 16 → cond b None (no_name attributes.ConstantValue (index_in es (codes "ConstantValue"))) ≡ None → NeedsConstant es f
needs_constant es f true h few none = λ e. let clash : true ≡ false = sym h ∙ e in absurd cc
needs_constant es f false h few none = λ e. is_index attributes.ConstantValue es (codes "ConstantValue") (index_in es (codes "ConstantValue")) refl none few

needs_maps : (es : List PoolEntry) (maps : Option (List ℕ)) → length es < 2 ^ 16 → maps_fault (names_of es) maps ≡ None → NeedsMaps es (names_of es) maps
needs_maps es None few none = tt
needs_maps es (Some maps) few none = is_index attributes.StackMapTable es (codes "StackMapTable") (index_in es (codes "StackMapTable")) refl none few

needs_names : (es : List PoolEntry) (code : Option Code) → length es < 2 ^ 16 → attribute_fault (names_of es) code ≡ None → NeedsNames es (names_of es) code
unfolding code_fault
needs_names es None few none = tt
needs_names es (Some code) few none =
    let a = neither (no_name attributes.Code (index_in es (codes "Code"))) (option_or (too_long counted.Attributes 4294967295 (contents_len code)) (option_or (too_long counted.Code 4294967295 (length code.bytes)) (option_or (too_long counted.Handlers 65535 (length code.handlers)) (maps_fault (names_of es) code.maps)))) none in
    let b = neither (too_long counted.Attributes 4294967295 (contents_len code)) (option_or (too_long counted.Code 4294967295 (length code.bytes)) (option_or (too_long counted.Handlers 65535 (length code.handlers)) (maps_fault (names_of es) code.maps))) a.1 in
    let c = neither (too_long counted.Code 4294967295 (length code.bytes)) (option_or (too_long counted.Handlers 65535 (length code.handlers)) (maps_fault (names_of es) code.maps)) b.1 in
    let d = neither (too_long counted.Handlers 65535 (length code.handlers)) (maps_fault (names_of es) code.maps) c.1 in
    (is_index attributes.Code es (codes "Code") (index_in es (codes "Code")) refl a.0 few, needs_maps es code.maps few d.1)

-- ---- members that have all that they need

abbrev FieldReady : List PoolEntry → Field → Type 0
FieldReady es f = FieldFits f × NeedsConstant es f

fields_ready : (es : List PoolEntry) (fs : List Field) → length es < 2 ^ 16 → first_fault (field_fault (names_of es)) fs ≡ None → AllByRecursion FieldFits fs → AllByRecursion (FieldReady es) fs
unfolding first_fault
fields_ready es [] few none fits = tt
fields_ready es (f ∷ fs) few none fits =
    let n = neither (field_fault (names_of es) f) (first_fault (field_fault (names_of es)) fs) none in
    ((fits.0, needs_constant es f (eqb f.constant 0) refl few n.0), fields_ready es fs few n.1 fits.1)

record MethodReady (es : List PoolEntry) (m : Method) : Type 0 where
  fits : MethodFits m
  room : IsRoomy m.code
  names : NeedsNames es (names_of es) m.code

methods_ready : (es : List PoolEntry) (ms : List Method) → length es < 2 ^ 16 → first_fault (method_fault (names_of es)) ms ≡ None → AllByRecursion MethodFits ms → All (λ m. IsRoomy m.code) ms → AllByRecursion (MethodReady es) ms
unfolding first_fault
methods_ready es [] few none fits room = tt
methods_ready es (m ∷ ms) few none fits room =
    let n = neither (method_fault (names_of es) m) (first_fault (method_fault (names_of es)) ms) none in (
      record { fits = fits.0; room = All-head (λ m. IsRoomy m.code) m ms room; names = needs_names es m.code few n.0 },
      methods_ready es ms few n.1 fits.1 (All-tail (λ m. IsRoomy m.code) m ms room),
    )

-- ---- the file

record MembersReady (c : ClassParts) : Type 0 where
  fields : AllByRecursion (FieldReady c.pool) c.fields
  methods : AllByRecursion (MethodReady c.pool) c.methods

-- the faults of the file from one part on
abbrev of_methods : ClassParts → Option WriteFault
of_methods c = first_fault (method_fault (names_of c.pool)) c.methods

abbrev of_method_count : ClassParts → Option WriteFault
of_method_count c = option_or (too_long counted.Methods 65535 (length c.methods)) (of_methods c)

abbrev of_fields : ClassParts → Option WriteFault
of_fields c = option_or (first_fault (field_fault (names_of c.pool)) c.fields) (of_method_count c)

abbrev of_field_count : ClassParts → Option WriteFault
of_field_count c = option_or (too_long counted.Fields 65535 (length c.fields)) (of_fields c)

abbrev of_interface_count : ClassParts → Option WriteFault
of_interface_count c = option_or (too_long counted.Interfaces 65535 (length c.interfaces)) (of_field_count c)

members_ready : (c : ClassParts) → class_fault c ≡ None → HasCounts c → PartsFit c → MembersReady c
unfolding class_fault
members_ready c none has fits =
    let a = neither (too_long counted.Pool 65534 (length c.pool)) (of_interface_count c) none in
    let b = neither (too_long counted.Interfaces 65535 (length c.interfaces)) (of_field_count c) a.1 in
    let f = neither (too_long counted.Fields 65535 (length c.fields)) (of_fields c) b.1 in
    let g = neither (first_fault (field_fault (names_of c.pool)) c.fields) (of_method_count c) f.1 in
    let m = neither (too_long counted.Methods 65535 (length c.methods)) (of_methods c) g.1 in
    let few : length c.pool < 2 ^ 16 = omega (arith, has.pool) in
    record {
      fields = fields_ready c.pool c.fields few g.0 fits.fields;
      methods = methods_ready c.pool c.methods few m.1 fits.methods has.code;
    }

front_spelled : version tt (two 0 ++ two 50)
unfolding two
front_spelled = joined tt (two 0) (two 50) refl refl

magic_spelled : magic tt (four 0xCAFEBABE)
unfolding four
magic_spelled = refl

pool_spelled : (c : ClassParts) → IsFormed c → HasCounts c → PartsFit c → pool c.pool (pool_text c.pool)
pool_spelled c formed has fits =
    joined (length c.pool + 1) (two (length c.pool + 1)) (flat_map entry_text c.pool) (two_spelled (length c.pool + 1) has.pool)
    (omega arith, pool_entries c.pool formed.entries has.texts fits.pool)

parts_text : ClassParts → List ℕ
parts_text c =
    pool_text c.pool ++ (two c.flags ++ (two c.this_class ++ (two c.super_class ++ (list_text two c.interfaces
    ++ (list_text (field_text (names_of c.pool)) c.fields ++ list_text (method_text (names_of c.pool)) c.methods)))))

parts_spelled : (c : ClassParts) → IsFormed c → HasCounts c → PartsFit c → MembersReady c → parts c (parts_text c)
unfolding parts_text
parts_spelled c formed has fits ready =
    joined c.pool (pool_text c.pool) _ (pool_spelled c formed has fits)
    (joined c.flags (two c.flags) _ (two_spelled c.flags fits.flags)
    (joined c.this_class (two c.this_class) _ (two_spelled c.this_class fits.this)
    (joined c.super_class (two c.super_class) _ (two_spelled c.super_class fits.above)
    (joined c.interfaces (list_text two c.interfaces) _ (list_spelled u2 two IndexFits two_spelled c.interfaces has.interfaces fits.interfaces)
    (joined c.fields (list_text (field_text (names_of c.pool)) c.fields) _
    (list_spelled (field c.pool) (field_text (names_of c.pool)) (FieldReady c.pool) (λ f r. field_spelled c.pool (names_of c.pool) f r.0 r.1) c.fields has.fields ready.fields)
    (made c.methods (list_text (method_text (names_of c.pool)) c.methods)
    (list_spelled (method c.pool) (method_text (names_of c.pool)) (MethodReady c.pool) (λ m r. method_spelled c.pool (names_of c.pool) m r.fits r.room r.names) c.methods has.methods ready.methods)))))))

regrouped : (m v p fl th su i f me e : List ℕ) → (m ++ v) ++ (p ++ ((fl ++ (th ++ (su ++ i))) ++ (f ++ (me ++ e)))) ≡ m ++ (v ++ ((p ++ (fl ++ (th ++ (su ++ (i ++ (f ++ me)))))) ++ (e ++ [])))
regrouped m v p fl th su i f me e = simp (append_assoc, append-nil) refl

file_spelled : (c : ClassParts) → IsFormed c → HasCounts c → PartsFit c → MembersReady c → class_file c (class_text c)
unfolding parts_text
file_spelled c formed has fits ready =
    let fields : List ℕ = list_text (field_text (names_of c.pool)) c.fields in
    subst (λ z. class_file c z) (sym (regrouped (four 0xCAFEBABE) (two 0 ++ two 50) (pool_text c.pool) (two c.flags) (two c.this_class) (two c.super_class) (list_text two c.interfaces)
    (list_text (field_text (names_of c.pool)) c.fields) (list_text (method_text (names_of c.pool)) c.methods) (two 0)))
    (joined tt (four 0xCAFEBABE) _ magic_spelled
    (joined tt (two 0 ++ two 50) _ front_spelled
    (joined c (parts_text c) _ (parts_spelled c formed has fits ready)
    (joined 0 (two 0) [] (two_spelled 0 (omega arith)) (joined tt [] [] (refl, refl) (refl, refl))))))

pub class_spelled : (c : ClassParts) → IsFormed c → HasCounts c → PartsFit c → class_fault c ≡ None → ReadsAs (class_text c) c
class_spelled c formed has fits none = (file_spelled c formed has fits (members_ready c none has fits), formed)

-- what spells a class is read as it
pub class_back : (bytes : List ℕ) (c : ClassParts) → ReadsAs bytes c → class_of bytes ≡ Ok c
class_back bytes c g = ap formed (whole_only reading.Trailing file_law bytes c g.0) ∙ ap (λ z. map_fault of_form (class_or c z)) (of_formed c g.1)
