-- Reading class files, as it is defined, takes no memory.
use Rattle.std.proofs.Common.{◌≡◌, ℕ, ◌+◌, Bool, true, false, cond, List, [], ◌∷◌, Option, Some, None, Result, Ok, Err, refl, ap, eqb}
use Rattle.std.specs.Option.{option_or}
use Rattle.nr_base.specs.Reader.{Reader, map_fault}
use Rattle.nr_prog.specs.declared.pool.PoolEntry.{PoolEntry}
use Rattle.nr_prog.specs.declared.member.Field.{Field}
use Rattle.nr_prog.specs.declared.member.Method.{Method}
use Rattle.nr_prog.specs.declared.parts.ClassParts.{ClassParts}
use Rattle.nr_prog.specs.declared.fault.FormFault.{FormFault}
use Rattle.nr_prog.specs.declared.fault.FormFault.TheVariants as form
use Rattle.nr_prog.specs.Faults.{unless, first_fault}
use Rattle.nr_prog.specs.LegalTests.{is_field_text, is_method_text, is_field_desc, is_method_desc}
use Rattle.nr_prog.specs.Members.{is_profile_method, has_its_code}
use Rattle.nr_prog.specs.Form.{class_or}
use Rattle.nr_prog.specs.Rules.{entry_fault, pool_fault, class_fault, super_fault, classes_fault, name_fault, desc_fault, doubled_fault, constant_fault, field_fault, fields_fault, body_fault, method_fault, methods_fault, form_fault}
use Rattle.nr_classread.specs.declared.fault.ClassFault.{ClassFault}
use Rattle.nr_classread.specs.declared.fault.ClassFault.TheVariants as faults
use Rattle.nr_classread.specs.Faults.{of_form}
use Rattle.nr_classread.specs.Numbers.{u1_at, u2_at, u4_at, u8_at, bytes_at}
use Rattle.nr_classread.specs.PoolReading.{utf8_at, pair_at, body_at, entry_at, next_at, pool_at, list_at}
use Rattle.nr_classread.specs.AttributeReading.{skip_at, attribute_at, ignored_at}
use Rattle.nr_classread.specs.MemberReading.{index_at, field_at, handler_at, kept_at, code_contents_at, whole_code_at, method_at}
use Rattle.nr_classread.specs.ClassReading.{magic_at, version_at, parts_at, file_at, parts_of, formed, class_of}
use Rattle.nr_cli.proofs.Readers.{Avoids, Never, ok_avoids, err_avoids, pure_never, refuse_never, bind_never, choose_never, from_never, with_fault_never, times_never, onto_never, sized_never, whole_avoids}

abbrev No : {A : Type 0} → Reader ClassFault A → Type 0
No r = Never faults.NoMemory r

u1_never : No u1_at
u1_never = with_fault_never _ _ _ (λ g e. absurd cc)

u2_never : No u2_at
u2_never = with_fault_never _ _ _ (λ g e. absurd cc)

u4_never : No u4_at
u4_never = with_fault_never _ _ _ (λ g e. absurd cc)

u8_never : No u8_at
u8_never = with_fault_never _ _ _ (λ g e. absurd cc)

bytes_never : (n : ℕ) → No (bytes_at n)
bytes_never n = with_fault_never _ _ _ (λ g e. absurd cc)

-- ---- the constant pool

utf8_never : No utf8_at
unfolding utf8_at
utf8_never = from_never _ (λ at. bind_never _ u2_never (λ len. with_fault_never _ _ _ (λ g e. absurd cc)))

pair_never : No pair_at
unfolding pair_at
pair_never = bind_never _ u2_never (λ a. bind_never _ u2_never (λ b. pure_never _ _))

body_never : (at tag : ℕ) → No (body_at at tag)
unfolding body_at
body_never at tag =
    choose_never _ _ (bind_never _ utf8_never (λ x. pure_never _ _))
    (choose_never _ _ (bind_never _ u4_never (λ x. pure_never _ _))
    (choose_never _ _ (bind_never _ u4_never (λ x. pure_never _ _))
    (choose_never _ _ (bind_never _ u8_never (λ x. pure_never _ _))
    (choose_never _ _ (bind_never _ u8_never (λ x. pure_never _ _))
    (choose_never _ _ (bind_never _ u2_never (λ x. pure_never _ _))
    (choose_never _ _ (bind_never _ u2_never (λ x. pure_never _ _))
    (choose_never _ _ (bind_never _ pair_never (λ x. pure_never _ _))
    (choose_never _ _ (bind_never _ pair_never (λ x. pure_never _ _))
    (choose_never _ _ (bind_never _ pair_never (λ x. pure_never _ _))
    (choose_never _ _ (bind_never _ pair_never (λ x. pure_never _ _))
    (refuse_never _ _ (λ e. absurd cc))))))))))))

entry_never : No entry_at
unfolding entry_at
entry_never = from_never _ (λ at. bind_never _ u1_never (λ tag. body_never at tag))

next_never : (s : List PoolEntry × Bool) → No (next_at s)
unfolding next_at
next_never s = choose_never _ _ (pure_never _ _) (bind_never _ entry_never (λ x. pure_never _ _))

pool_never : No pool_at
unfolding pool_at
pool_never = bind_never _ u2_never (λ count. bind_never _ (times_never _ next_never _ _) (λ s. pure_never _ _))

list_never : {A : Type 0} {r : Reader ClassFault A} → No r → No (list_at r)
unfolding list_at
list_never rs = bind_never _ u2_never (λ count. times_never _ (onto_never _ rs) _ _)

-- ---- attributes and members

skip_never : No skip_at
unfolding skip_at
skip_never = bind_never _ u4_never (λ len. bind_never _ (bytes_never len) (λ skipped. pure_never _ _))

attribute_never : {A : Type 0} (pool : List PoolEntry) (known : List ℕ) (contents_at : ℕ → ℕ → Reader ClassFault A) → ((at len : ℕ) → No (contents_at at len)) → (seen : Option A) → No (attribute_at pool known contents_at seen)
unfolding attribute_at
attribute_never pool known contents_at each seen = from_never _ (λ at. bind_never _ u2_never (λ name.
    choose_never _ _
    (choose_never _ _ (refuse_never _ _ (λ e. absurd cc)) (bind_never _ u4_never (λ len. bind_never _ (each at len) (λ x. pure_never _ _))))
    (bind_never _ skip_never (λ skipped. pure_never _ _))))

ignored_never : (s : Unit {0}) → No (ignored_at s)
unfolding ignored_at
ignored_never s = bind_never _ u2_never (λ name. skip_never)

index_never : (at len : ℕ) → No (index_at at len)
index_never at len = sized_never _ _ _ (λ e. absurd cc) u2_never

field_never : (pool : List PoolEntry) → No (field_at pool)
unfolding field_at
field_never pool =
    bind_never _ u2_never (λ flags. bind_never _ u2_never (λ name. bind_never _ u2_never (λ desc. bind_never _ u2_never (λ count.
    bind_never _ (times_never _ (attribute_never pool _ index_at index_never) _ _) (λ constant. pure_never _ _)))))

handler_never : No handler_at
unfolding handler_at
handler_never = bind_never _ u2_never (λ start. bind_never _ u2_never (λ end. bind_never _ u2_never (λ handler. bind_never _ u2_never (λ catch. pure_never _ _))))

contents_never : (pool : List PoolEntry) → No (code_contents_at pool)
unfolding code_contents_at
contents_never pool =
    bind_never _ u2_never (λ stack. bind_never _ u2_never (λ locals. bind_never _ u4_never (λ len. bind_never _ (bytes_never len) (λ bytes.
    bind_never _ (list_never handler_never) (λ handlers. bind_never _ u2_never (λ count.
    bind_never _ (times_never _ (attribute_never pool _ kept_at (λ at len. bytes_never len)) _ _) (λ maps. pure_never _ _)))))))

code_never : (pool : List PoolEntry) (at len : ℕ) → No (whole_code_at pool at len)
code_never pool at len = sized_never _ _ _ (λ e. absurd cc) (contents_never pool)

method_never : (pool : List PoolEntry) → No (method_at pool)
unfolding method_at
method_never pool =
    bind_never _ u2_never (λ flags. bind_never _ u2_never (λ name. bind_never _ u2_never (λ desc. bind_never _ u2_never (λ count.
    bind_never _ (times_never _ (attribute_never pool _ (whole_code_at pool) (code_never pool)) _ _) (λ code. pure_never _ _)))))

-- ---- files

magic_never : No magic_at
unfolding magic_at
magic_never = bind_never _ u4_never (λ magic. choose_never _ _ (pure_never _ _) (refuse_never _ _ (λ e. absurd cc)))

version_never : No version_at
unfolding version_at
version_never = bind_never _ u2_never (λ minor. bind_never _ u2_never (λ major. choose_never _ _ (pure_never _ _) (refuse_never _ _ (λ e. absurd cc))))

parts_never : No parts_at
unfolding parts_at
parts_never =
    bind_never _ pool_never (λ pool. bind_never _ u2_never (λ flags. bind_never _ u2_never (λ this. bind_never _ u2_never (λ super.
    bind_never _ (list_never u2_never) (λ interfaces. bind_never _ (list_never (field_never pool)) (λ fields. bind_never _ (list_never (method_never pool)) (λ methods.
    pure_never _ _)))))))

file_never : No file_at
unfolding file_at
file_never =
    bind_never _ magic_never (λ magic. bind_never _ version_never (λ version. bind_never _ parts_never (λ parts. bind_never _ u2_never (λ count.
    bind_never _ (times_never _ ignored_never _ _) (λ attributes. pure_never _ _)))))

-- ---- the form

-- no fault is want of memory
record Free (o : Option FormFault) : Type 0 where
  free : o ≡ Some form.NoMemory → ⊥

unless_free : (b : Bool) (f : FormFault) → (f ≡ form.NoMemory → ⊥) → Free (unless b f)
unless_free true f ne = record { free = λ e. absurd cc }
unless_free false f ne = record { free = λ e. ne cc }

or_free : (a b : Option FormFault) → Free a → Free b → Free (option_or a b)
or_free None b good bs = bs
or_free (Some f) b good bs = record { free = λ e. good.free cc }

first_free : {X : Type 0} (fault : ℕ → X → Option FormFault) → ((n : ℕ) (x : X) → Free (fault n x)) → (n : ℕ) (xs : List X) → Free (first_fault fault n xs)
unfolding first_fault
first_free fault each n [] = record { free = λ e. absurd cc }
first_free fault each n (x ∷ xs) = or_free (fault n x) (first_fault fault (n + 1) xs) (each n x) (first_free fault each (n + 1) xs)

pool_free : (pool : List PoolEntry) → Free (pool_fault pool)
unfolding pool_fault
pool_free pool = first_free (entry_fault pool) (λ n e. unless_free _ _ (λ is. absurd cc)) 0 pool

class_free : (pool : List PoolEntry) (index : ℕ) → Free (class_fault pool index)
unfolding class_fault
class_free pool index = unless_free _ _ (λ is. absurd cc)

super_free : (pool : List PoolEntry) (index : ℕ) → Free (super_fault pool index)
unfolding super_fault
super_free pool index =
    elim (eqb index 0) as (λ b. Free (cond b (Some (form.PoolKind 0)) (class_fault pool index))) [ true ↦ record { free = λ e. absurd cc } | false ↦ class_free pool index ]

classes_free : (pool : List PoolEntry) (this above : ℕ) (interfaces : List ℕ) → Free (classes_fault pool this above interfaces)
unfolding classes_fault
classes_free pool this above interfaces =
    or_free _ _ (class_free pool this) (or_free _ _ (super_free pool above) (first_free (λ place. class_fault pool) (λ n index. class_free pool index) 0 interfaces))

name_free : (is_legal : List ℕ → Bool) (pool : List PoolEntry) (index : ℕ) → Free (name_fault is_legal pool index)
unfolding name_fault
name_free is_legal pool index = unless_free _ _ (λ is. absurd cc)

desc_free : (is_legal : List ℕ → Bool) (pool : List PoolEntry) (index : ℕ) → Free (desc_fault is_legal pool index)
unfolding desc_fault
desc_free is_legal pool index = unless_free _ _ (λ is. absurd cc)

doubled_free : (earlier : List ℕ → List ℕ → Bool) (pool : List PoolEntry) (name desc : ℕ) → Free (doubled_fault earlier pool name desc)
unfolding doubled_fault
doubled_free earlier pool name desc = unless_free _ _ (λ is. absurd cc)

constant_free : (pool : List PoolEntry) (desc constant : ℕ) → Free (constant_fault pool desc constant)
unfolding constant_fault
constant_free pool desc constant = unless_free _ _ (λ is. absurd cc)

field_free : (pool : List PoolEntry) (earlier : List ℕ → List ℕ → Bool) (f : Field) → Free (field_fault pool earlier f)
unfolding field_fault
field_free pool earlier f =
    or_free _ _ (name_free is_field_text pool f.name) (or_free _ _ (desc_free is_field_desc pool f.desc)
    (or_free _ _ (doubled_free earlier pool f.name f.desc) (constant_free pool f.desc f.constant)))

fields_free : (pool : List PoolEntry) (fields : List Field) → Free (fields_fault pool fields)
unfolding fields_fault
fields_free pool fields = first_free _ (λ n f. field_free pool _ f) 0 fields

body_free : (pool : List PoolEntry) (place : ℕ) (m : Method) → Free (body_fault pool place m)
unfolding body_fault
body_free pool place m =
    or_free (unless (is_profile_method pool m) (form.OutOfProfile place)) (unless (has_its_code m) (form.CodePresence place))
    (unless_free _ _ (λ is. absurd cc)) (unless_free _ _ (λ is. absurd cc))

method_free : (pool : List PoolEntry) (earlier : List ℕ → List ℕ → Bool) (place : ℕ) (m : Method) → Free (method_fault pool earlier place m)
unfolding method_fault
method_free pool earlier place m =
    or_free _ _ (name_free is_method_text pool m.name) (or_free _ _ (desc_free is_method_desc pool m.desc)
    (or_free _ _ (doubled_free earlier pool m.name m.desc) (body_free pool place m)))

methods_free : (pool : List PoolEntry) (methods : List Method) → Free (methods_fault pool methods)
unfolding methods_fault
methods_free pool methods = first_free _ (λ n m. method_free pool _ n m) 0 methods

form_free : (c : ClassParts) → Free (form_fault c)
unfolding form_fault
form_free c = or_free _ _ (pool_free c.pool) (or_free _ _ (classes_free c.pool c.this_class c.super_class c.interfaces) (or_free _ _ (fields_free c.pool c.fields) (methods_free c.pool c.methods)))

of_form_never : (f : FormFault) → (f ≡ form.NoMemory → ⊥) → of_form f ≡ faults.NoMemory → ⊥
of_form_never form.NoMemory ne e = ne refl
of_form_never (form.PoolKind n) ne e = absurd cc
of_form_never (form.BadName n) ne e = absurd cc
of_form_never (form.BadDesc n) ne e = absurd cc
of_form_never (form.Doubled n) ne e = absurd cc
of_form_never (form.CodePresence n) ne e = absurd cc
of_form_never (form.OutOfProfile n) ne e = absurd cc

or_avoids : (c : ClassParts) (o : Option FormFault) → Free o → Avoids faults.NoMemory (map_fault of_form (class_or c o))
or_avoids c None os = ok_avoids _ c
or_avoids c (Some f) os = err_avoids _ _ (of_form_never f (λ e. os.free (ap Some e)))

formed_avoids : (r : Result ClassParts ClassFault) → Avoids faults.NoMemory r → Avoids faults.NoMemory (formed r)
formed_avoids (Ok c) rs = or_avoids c (form_fault c) (form_free c)
formed_avoids (Err f) rs = rs

pub class_avoids : (bytes : List ℕ) → Avoids faults.NoMemory (class_of bytes)
class_avoids bytes = formed_avoids (parts_of bytes) (whole_avoids _ _ (λ at e. absurd cc) file_never bytes)
