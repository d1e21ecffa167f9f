-- A link fault of the definition is never want of memory.
use Rattle.std.proofs.Common.{ℕ, ◌+◌, Bool, true, false, List, [], ◌∷◌, Option, Some, None, Result, Ok, Err}
use Rattle.std.specs.Prelude.{codes, not, ◌&&◌, ◌||◌, ◌==◌, if◌then◌else◌}
use Rattle.std.specs.Option.{option_and_then, option_map_or, option_or}
use Rattle.nr_optable.specs.declared.table.Family.{Family}
use Rattle.nr_optable.specs.declared.table.Family.TheVariants.{F8, F30, F31, F32, F33, F34, F37}
use Rattle.nr_base.specs.declared.desc.types.DescBase.{DescBase}
use Rattle.nr_base.specs.declared.desc.types.DescBase.TheVariants as bases
use Rattle.nr_prog.specs.declared.body.frame_map.MapType.{MapType}
use Rattle.nr_prog.specs.declared.body.frame_map.MapType.TheVariants as map_types
use Rattle.nr_prog.specs.declared.body.loaded.Loaded.{Loaded}
use Rattle.nr_prog.specs.declared.member.Handler.{Handler}
use Rattle.nr_prog.specs.declared.parts.ClassParts.{ClassParts}
use Rattle.nr_prog.specs.declared.pool.PoolEntry.{PoolEntry}
use Rattle.nr_prog.specs.declared.pool.PoolEntry.TheVariants.{FieldRef, Integer, InterfaceMethodRef, Long, MethodRef}
use Rattle.nr_instrs.specs.Checks.{then_on}
use Rattle.nr_linked.specs.declared.program.kind.Kind.{Kind}
use Rattle.nr_linked.specs.declared.program.tables.ClassInfo.{ClassInfo}
use Rattle.nr_linked.specs.declared.program.tables.MethodInfo.{MethodInfo}
use Rattle.nr_linked.specs.declared.program.tables.ProgramTables.{ProgramTables}
use Rattle.nr_linked.specs.declared.program.tables.Resolved.{Resolved}
use Rattle.nr_linked.specs.declared.program.tables.Resolved.TheVariants as resolved
use Rattle.nr_linked.specs.Kinds.{class_in, is_array}
use Rattle.nr_linked.specs.Linked.{instrs_of}
use Rattle.nr_linked.specs.Programs.{class_named, is_interface, method_at, methods_of}
use Rattle.nr_links.specs.Rules.{has_interface_members}
use Rattle.nr_prog.specs.declared.member.Field.{Field}
use Rattle.nr_prog.specs.declared.member.Method.{Method}
use Rattle.nr_linked.specs.Selection.{static_named, with_body}
use Rattle.nr_linked.specs.TypingFacts.{is_makeable}
use Rattle.nr_links.specs.Found.{index_in}
use Rattle.nr_links.specs.Named.{name_text_at}
use Rattle.nr_links.specs.Resolution.{class_with_members, resolved_slot}
use Rattle.nr_prog.specs.BodyNames.{desc_text_at}
use Rattle.nr_prog.specs.Pool.{entry_at}
use Rattle.nr_prog.specs.TextForms.{class_desc}
use Rattle.nr_linkrules.specs.declared.fault.LinkFault.{LinkFault}
use Rattle.nr_linkrules.specs.declared.fault.LinkFault.TheVariants as faults
use Rattle.nr_linkrules.specs.ClassRules as rules
use Rattle.nr_linkrules.specs.Faults.{first_numbered, first_of, unless}
use Rattle.nr_linkrules.specs.Layout.{kind_of, laid_out}
use Rattle.nr_linkrules.specs.LinkFaults.{Rule, classes_fault, code_faults, first_class_fault, link_fault, on_loaded}
use Rattle.nr_linkrules.specs.Mains.{main_in, main_of}
use Rattle.nr_linkrules.specs.Outline.{outline, some_text}
use Rattle.nr_linkrules.specs.SiteRules as sites
use Rattle.nr_linkrules.specs.SiteRules.{Finding, Place, fault_of, instr_found, or_fault, place_in, pool_of}

abbrev pub IsOwnFault : LinkFault → Type 0
IsOwnFault faults.NoMemory = ⊥
IsOwnFault fault = Unit {0}

abbrev pub IsOwnOption : Option LinkFault → Type 0
IsOwnOption None = Unit {0}
IsOwnOption (Some fault) = IsOwnFault fault

abbrev pub IsOwnFinding : {A : Type 0} → Result A LinkFault → Type 0
IsOwnFinding (Ok x) = Unit {0}
IsOwnFinding (Err fault) = IsOwnFault fault

-- ---- checks

unless_own : (test : Bool) (fault : LinkFault) → IsOwnFault fault → IsOwnOption (unless test fault)
unless_own true fault own = tt
unless_own false fault own = own

or_own : (a b : Option LinkFault) → IsOwnOption a → IsOwnOption b → IsOwnOption (option_or a b)
or_own None b own other = other
or_own (Some f) b own other = own

first_own : {X : Type 0} (f : X → Option LinkFault) → ((x : X) → IsOwnOption (f x)) → (xs : List X) → IsOwnOption (first_of f xs)
unfolding first_of
first_own f each [] = tt
first_own f each (x ∷ xs) = or_own (f x) (first_of f xs) (each x) (first_own f each xs)

numbered_own : {X : Type 0} (f : ℕ → X → Option LinkFault) → ((n : ℕ) (x : X) → IsOwnOption (f n x)) → (n : ℕ) (xs : List X) → IsOwnOption (first_numbered f n xs)
unfolding first_numbered
numbered_own f each n [] = tt
numbered_own f each n (x ∷ xs) = or_own (f n x) (first_numbered f (n + 1) xs) (each n x) (numbered_own f each (n + 1) xs)

on_some_own : {X : Type 0} (f : X → Option LinkFault) (o : Option X) → ((x : X) → IsOwnOption (f x)) → IsOwnOption (option_map_or f o None)
on_some_own f None each = tt
on_some_own f (Some x) each = each x

-- ---- findings

or_fault_own : {A : Type 0} (fault : LinkFault) (found : Option A) → IsOwnFault fault → IsOwnFinding (or_fault fault found)
or_fault_own fault None own = own
or_fault_own fault (Some x) own = tt

then_own : {A B : Type 0} (r : Result A LinkFault) (f : A → Result B LinkFault) → IsOwnFinding r → ((x : A) → IsOwnFinding (f x)) → IsOwnFinding (then_on r f)
then_own (Ok x) f own later = later x
then_own (Err fault) f own later = own

of_own : {A : Type 0} (r : Result A LinkFault) → IsOwnFinding r → IsOwnOption (fault_of r)
of_own (Ok x) own = tt
of_own (Err fault) own = own

by_own : {A : Type 0} (b : Bool) (x y : Result A LinkFault) → IsOwnFinding x → IsOwnFinding y → IsOwnFinding (if b then x else y)
by_own true x y own other = own
by_own false x y own other = other

-- ---- classes

list_own : (classes : List Loaded) → IsOwnOption (rules.list_fault classes)
unfolding rules.list_fault
list_own classes =
    or_own _ _ (unless_own _ _ tt)
    (or_own _ _ (first_own _ (λ l. unless_own _ _ tt) classes) (numbered_own _ (λ n l. unless_own _ _ tt) 0 classes))

known_own : (P : ProgramTables) (name : List ℕ) → IsOwnOption (rules.known_fault P name)
unfolding rules.known_fault
known_own P name = unless_own (rules.is_known P name) (faults.NoClass name) tt

above_own : (P : ProgramTables) (c : ℕ) (e : ClassInfo) (parts : ClassParts) → IsOwnOption (rules.above_fault P c e parts)
unfolding rules.above_fault rules.named_above_fault
above_own P c e parts =
    let kinds = unless (rules.has_kinds_above P c e) (faults.SuperKind e.name) in
    let final = unless (not (rules.has_final_above P e)) (faults.FinalSuper e.name) in
    or_own (rules.named_above_fault P parts) (option_or kinds final)
    (or_own (rules.named_fault P parts.pool parts.super_class) (first_of (rules.named_fault P parts.pool) parts.interfaces)
    (known_own P _) (first_own (rules.named_fault P parts.pool) (λ i. known_own P _) parts.interfaces))
    (or_own kinds final (unless_own (rules.has_kinds_above P c e) (faults.SuperKind e.name) tt)
    (unless_own (not (rules.has_final_above P e)) (faults.FinalSuper e.name) tt))

cycle_own : (P : ProgramTables) (c : ℕ) (e : ClassInfo) (parts : ClassParts) → IsOwnOption (rules.cycle_fault P c e parts)
unfolding rules.cycle_fault
cycle_own P c e parts = unless_own _ _ tt

override_own : (P : ProgramTables) (name : List ℕ) (m : ℕ) → IsOwnOption (rules.override_fault P name m)
unfolding rules.override_fault
override_own P name m =
    on_some_own (λ (i : MethodInfo). unless (not (rules.hides_final P i)) (faults.FinalOverride name (rules.method_name i))) (method_at P m)
    (λ i. unless_own (not (rules.hides_final P i)) (faults.FinalOverride name (rules.method_name i)) tt)

base_own : (P : ProgramTables) (base : DescBase) → IsOwnOption (rules.base_fault P base)
base_own P (bases.Object name) = known_own P name
base_own P bases.Bool = tt
base_own P bases.Byte = tt
base_own P bases.Char = tt
base_own P bases.Short = tt
base_own P bases.Int = tt
base_own P bases.Long = tt

field_own : (P : ProgramTables) (pool : List PoolEntry) (desc : ℕ) → IsOwnOption (rules.field_fault P pool desc)
unfolding rules.field_fault
field_own P pool desc = first_own (rules.desc_fault P) (λ d. base_own P d.base) _

method_own : (P : ProgramTables) (pool : List PoolEntry) (desc : ℕ) → IsOwnOption (rules.method_fault P pool desc)
unfolding rules.method_fault
method_own P pool desc = first_own (rules.desc_fault P) (λ d. base_own P d.base) _

members_own : (P : ProgramTables) (c : ℕ) (e : ClassInfo) (parts : ClassParts) → IsOwnOption (rules.members_fault P c e parts)
unfolding rules.members_fault
members_own P c e parts =
    let initialiser = unless (rules.has_no_initialiser parts) (faults.Initialiser e.name) in
    let member = unless (not (is_interface P c) || has_interface_members parts) (faults.InterfaceMember e.name) in
    let over = first_of (rules.override_fault P e.name) (methods_of P c) in
    let of_fields = first_of (λ (f : Field). rules.field_fault P parts.pool f.desc) parts.fields in
    let of_methods = first_of (λ (m : Method). rules.method_fault P parts.pool m.desc) parts.methods in
    or_own initialiser (option_or member (option_or over (option_or of_fields of_methods)))
    (unless_own (rules.has_no_initialiser parts) (faults.Initialiser e.name) tt)
    (or_own member (option_or over (option_or of_fields of_methods))
    (unless_own (not (is_interface P c) || has_interface_members parts) (faults.InterfaceMember e.name) tt)
    (or_own over (option_or of_fields of_methods) (first_own (rules.override_fault P e.name) (override_own P e.name) (methods_of P c))
    (or_own of_fields of_methods
    (first_own (λ (f : Field). rules.field_fault P parts.pool f.desc) (λ f. field_own P parts.pool f.desc) parts.fields)
    (first_own (λ (m : Method). rules.method_fault P parts.pool m.desc) (λ m. method_own P parts.pool m.desc) parts.methods))))

each_class : (rule : Rule) (P : ProgramTables) → ((c : ℕ) (e : ClassInfo) (parts : ClassParts) → IsOwnOption (rule c e parts)) → IsOwnOption (first_class_fault rule P)
unfolding first_class_fault
each_class rule P each = numbered_own (on_loaded rule) (λ c e. on_some_own (rule c e) e.read (λ parts. each c e parts)) 0 P.classes

classes_own : (P : ProgramTables) → IsOwnOption (classes_fault P)
unfolding classes_fault
classes_own P =
    or_own _ _ (each_class (rules.above_fault P) P (above_own P))
    (or_own _ _ (each_class (rules.cycle_fault P) P (cycle_own P)) (each_class (rules.members_fault P) P (members_own P)))

-- ---- code

kind_own : (P : ProgramTables) (bytes : List ℕ) → IsOwnFinding (sites.kind_named P bytes)
unfolding sites.kind_named
kind_own P bytes =
    or_fault_own (faults.NoClass (sites.class_named_by bytes)) (option_and_then (kind_of P) (class_desc bytes)) tt

slot_own : (P : ProgramTables) (p : Place) (name desc : List ℕ) (k : Kind) → IsOwnFinding (sites.slot_found P p name desc k)
slot_own P p name desc k =
    then_own (or_fault (sites.no_field p) (class_with_members P k)) (sites.slot_in P p name desc)
    (or_fault_own (sites.no_field p) (class_with_members P k) tt)
    (λ c. then_own (or_fault (sites.no_field p) (resolved_slot P c name desc)) (λ s. Ok (resolved.Slot c s))
    (or_fault_own (sites.no_field p) (resolved_slot P c name desc) tt) (λ s. tt))

method_found_own : (P : ProgramTables) (p : Place) (code : ℕ) (name desc : List ℕ) (k : Kind) → IsOwnFinding (sites.method_found P p code name desc k)
method_found_own P p code name desc k =
    then_own (or_fault (sites.no_method p) (class_with_members P k)) (sites.method_in P p code name desc k)
    (or_fault_own (sites.no_method p) (class_with_members P k) tt)
    (λ c. then_own (or_fault (sites.no_method p) (sites.method_of P k name desc c)) (sites.callable P p code c)
    (or_fault_own (sites.no_method p) (sites.method_of P k name desc c) tt)
    (λ m. by_own (option_map_or (sites.can_call P p.own code c) (method_at P m) false) (Ok (resolved.Method m c))
    (Err (faults.MemberKind p.class_name p.method p.at)) tt tt))

on_member_own : (P : ProgramTables) (pool : List PoolEntry) (search_in : sites.Search) → ((name desc : List ℕ) (k : Kind) → IsOwnFinding (search_in name desc k)) → («class» member : ℕ) → IsOwnFinding (sites.on_member P pool search_in «class» member)
on_member_own P pool search_in each «class» member =
    let name = some_text (name_text_at pool member) in
    let desc = some_text (desc_text_at pool member) in
    then_own (sites.kind_at P pool «class») (search_in name desc) (kind_own P (sites.class_bytes pool «class»)) (λ k. each name desc k)

member_own : (P : ProgramTables) (pool : List PoolEntry) (search_in : sites.Search) → ((name desc : List ℕ) (k : Kind) → IsOwnFinding (search_in name desc k)) → (e : PoolEntry) → IsOwnFinding (sites.by_member P pool search_in e)
member_own P pool search_in each (FieldRef «class» member) = on_member_own P pool search_in each «class» member
member_own P pool search_in each (MethodRef «class» member) = on_member_own P pool search_in each «class» member
member_own P pool search_in each (InterfaceMethodRef «class» member) = on_member_own P pool search_in each «class» member
member_own P pool search_in each e = tt

constant_own : (e : PoolEntry) → IsOwnFinding (sites.constant_found e)
constant_own (Integer n) = tt
constant_own (Long n) = tt
constant_own e = tt

entry_own : (next : PoolEntry → Finding Resolved) (o : Option PoolEntry) (r : Resolved) → ((e : PoolEntry) → IsOwnFinding (next e)) → IsOwnFinding (option_map_or next o (Ok r))
entry_own next None r each = tt
entry_own next (Some e) r each = each e

family_own : (P : ProgramTables) (p : Place) (pool : List PoolEntry) (code index : ℕ) (family : Family) → IsOwnFinding (sites.found_by P p pool code index family)
family_own P p pool code index F8 = entry_own sites.constant_found (entry_at pool index) resolved.Nothing constant_own
family_own P p pool code index F30 = entry_own (sites.by_member P pool (sites.slot_found P p)) (entry_at pool index) resolved.Nothing (member_own P pool (sites.slot_found P p) (slot_own P p))
family_own P p pool code index F31 = entry_own (sites.by_member P pool (sites.slot_found P p)) (entry_at pool index) resolved.Nothing (member_own P pool (sites.slot_found P p) (slot_own P p))
family_own P p pool code index F32 = entry_own (sites.by_member P pool (sites.method_found P p code)) (entry_at pool index) resolved.Nothing (member_own P pool (sites.method_found P p code) (method_found_own P p code))
family_own P p pool code index F33 =
    then_own (sites.kind_at P pool index) (sites.made_found P p) (kind_own P (sites.class_bytes pool index))
    (λ k. by_own (not (is_array k) && option_map_or (is_makeable P) (class_in k.base) false) (Ok (resolved.Kind k))
    (Err (faults.NotMakeable p.class_name p.method p.at)) tt tt)
family_own P p pool code index F34 = then_own (sites.kind_at P pool index) (λ k. Ok (resolved.Kind k)) (kind_own P (sites.class_bytes pool index)) (λ k. tt)
family_own P p pool code index F37 = then_own (sites.kind_at P pool index) (λ k. Ok (resolved.Kind k)) (kind_own P (sites.class_bytes pool index)) (λ k. tt)
family_own P p pool code index family = tt

index_own : (f : ℕ → Finding Resolved) (o : Option ℕ) (r : Resolved) → ((i : ℕ) → IsOwnFinding (f i)) → IsOwnFinding (option_map_or f o (Ok r))
index_own f None r each = tt
index_own f (Some i) r each = each i

code_own : (P : ProgramTables) (i : MethodInfo) → IsOwnOption (sites.code_fault P i)
unfolding sites.code_fault sites.instr_found
code_own P i =
    first_own (λ n. fault_of (instr_found P (place_in P i) (pool_of P i) n)) (λ n.
    of_own (instr_found P (place_in P i) (pool_of P i) n)
    (index_own (λ index. sites.found_by P (place_in P i n.at) (pool_of P i) n.row.code index n.row.family) (index_in n.args) resolved.Nothing
    (λ index. family_own P (place_in P i n.at) (pool_of P i) n.row.code index n.row.family))) (instrs_of i)

handler_own : (P : ProgramTables) (pool : List PoolEntry) (h : Handler) → IsOwnOption (sites.handler_fault P pool h)
unfolding sites.handler_fault
handler_own P pool h = by_zero (h.catch_type == 0)
  where
    by_zero : (b : Bool) → IsOwnOption (if b then None else fault_of (sites.kind_at P pool h.catch_type))
    by_zero true = tt
    by_zero false = of_own (sites.kind_at P pool h.catch_type) (kind_own P (sites.class_bytes pool h.catch_type))

type_own : (P : ProgramTables) (t : MapType) → IsOwnOption (sites.type_fault P t)
type_own P (map_types.Object d) = base_own P d.base
type_own P t = tt

around_own : (P : ProgramTables) (i : MethodInfo) → IsOwnOption (sites.around_fault P i)
unfolding sites.around_fault sites.map_fault
around_own P i =
    or_own _ _ (first_own _ (handler_own P _) _) (first_own _ (λ f. first_own (sites.type_fault P) (type_own P) _) _)

codes_own : (P : ProgramTables) → IsOwnOption (code_faults P)
unfolding code_faults
codes_own P = or_own _ _ (first_own (sites.code_fault P) (code_own P) P.methods) (first_own (sites.around_fault P) (around_own P) P.methods)

-- ---- the whole, and the look-up

pub links_own : (classes : List Loaded) → IsOwnOption (link_fault classes)
unfolding link_fault
links_own classes =
    or_own _ _ (list_own classes)
    (or_own _ _ (classes_own (outline classes)) (codes_own (laid_out (outline classes))))

pub main_own : (P : ProgramTables) (name : List ℕ) → IsOwnFinding (main_of P name)
unfolding main_of
main_own P name =
    then_own (or_fault (faults.NoClass name) (class_named P name)) (main_in P name)
    (or_fault_own (faults.NoClass name) (class_named P name) tt)
    (λ c. or_fault_own (faults.NoMain name) (option_and_then (with_body P) (static_named P c (codes "main") (codes "([I)I"))) tt)
