-- The example's classes link to its tables.
use Rattle.std.proofs.Common.{◌≡◌, ℕ, zero, suc, ◌+◌, false, List, [], ◌∷◌, refl, subst, inl, lit≤, arith, Bool, not, ◌&&◌}
use Rattle.std.specs.Prelude.{Option, Some, None, All, IsTrue, slice_get, slice_index_or, codes, nat_lt}
use Rattle.std.specs.List.{list_all}
use Rattle.std.proofs.lemmas.Bool.{and_parts, both_ways, ltb-true, not-true}
use Rattle.std.proofs.lemmas.List.Elements.{All-nil}
use Rattle.std.proofs.lemmas.Option.{same_Some}
use Rattle.nr_base.specs.Descs.{desc, method_desc}
use Rattle.nr_base.specs.declared.desc.types.DescBase.TheVariants as desc_bases
use Rattle.nr_base.specs.declared.desc.types.MethodDesc.{MethodDesc}
use Rattle.nr_prog.specs.declared.body.loaded.Loaded.{Loaded}
use Rattle.nr_prog.specs.declared.body.whole.Body.{Body}
use Rattle.nr_prog.specs.declared.member.Method.{Method}
use Rattle.nr_prog.specs.declared.parts.ClassParts.{ClassParts}
use Rattle.nr_linked.specs.declared.program.tables.ClassInfo.{ClassInfo}
use Rattle.nr_linked.specs.declared.program.tables.MethodInfo.{MethodInfo}
use Rattle.nr_linked.specs.declared.program.tables.Resolved.TheVariants as resolved
use Rattle.nr_prog.specs.BodyNames.{class_text_at, desc_text_at}
use Rattle.nr_prog.specs.Legal.{IsClassText}
use Rattle.nr_prog.specs.Members.{is_in, is_spelled, spells}
use Rattle.nr_prog.specs.Form.{Spells}
use Rattle.nr_prog.specs.Pool.{text_at}
use Rattle.nr_linked.specs.declared.program.types.VType.TheVariants.{Class}
use Rattle.nr_linked.specs.BuiltIns.{built_in_class}
use Rattle.nr_linked.specs.BuiltInTables.{built_in_info, built_in_infos, built_in_method, built_in_methods}
use Rattle.nr_linked.specs.Kinds.{class_kind}
use Rattle.nr_linked.specs.KindTexts.{kind_desc}
use Rattle.nr_linked.specs.Programs.{class_at, method_at}
use Rattle.nr_linked.specs.Subtypes.{Above, IsDirectlyAbove, is_above, itself}
use Rattle.nr_linked.proofs.LegalTexts.{legal}
use Rattle.nr_links.specs.Example.{face_method, a_info, a_init, a_loaded, a_m, a_main, a_methods, a_parts, a_pool, face_info, face_loaded, face_m, face_parts, init_body, int_kind, loaded, m_body, main_body, main_map, slot, tables}
use Rattle.nr_links.specs.Entries.{IsClassAs, IsFrameOf, IsMethodAs}
use Rattle.nr_links.specs.Found.{IsCallFound, IsMadeFound, IsSlotFound}
use Rattle.nr_links.specs.Links.{Links}
use Rattle.nr_links.specs.Named.{NamesKind}
use Rattle.nr_links.specs.Rules.{KeepsRules, SaysKind, is_final}
use Rattle.nr_links.proofs.ExampleTables.{linked, supers}
use Rattle.nr_linked.proofs.Listed.{AtEach, at_place, listed_all}
use Rattle.nr_links.proofs.Reaching.{direct_step, steps_up}

-- ---- names

pub legal_a : IsClassText (codes "A")
legal_a = legal (codes "A") refl refl

pub legal_face : IsClassText (codes "Face")
legal_face = legal (codes "Face") refl refl

pub legal_object : IsClassText (codes "java/lang/Object")
legal_object = legal (codes "java/lang/Object") refl refl

pub legal_throwable : IsClassText (codes "java/lang/Throwable")
legal_throwable = legal (codes "java/lang/Throwable") refl refl

names_a : NamesKind tables a_pool 2 (class_kind 0)
unfolding tables class_text_at text_at built_in_infos
names_a = record { text = inl (refl, legal_a); known = refl }

names_object : NamesKind tables a_pool 4 (class_kind 2)
unfolding tables class_text_at text_at built_in_infos built_in_info built_in_class
names_object = record { text = inl (refl, legal_object); known = refl }

names_face : NamesKind tables a_pool 6 (class_kind 1)
unfolding tables class_text_at text_at built_in_infos
names_face = record { text = inl (refl, legal_face); known = refl }

names_throwable : NamesKind tables a_pool 22 (class_kind 4)
unfolding tables class_text_at text_at built_in_infos built_in_info built_in_class
names_throwable = record { text = inl (refl, legal_throwable); known = refl }

-- ---- methods

unfoldable pub int_desc : MethodDesc
int_desc = record { params = []; result = Some (record { dims = 0; base = desc_bases.Int }) }

pub is_int_desc : method_desc int_desc (codes "()I")
unfolding int_desc
is_int_desc = ((tt, (lit≤ tt, tt), lit≤ tt), refl)

pub is_void_desc : method_desc (record { params = []; result = None }) (codes "()V")
is_void_desc = ((tt, tt, lit≤ tt), refl)

calls_object : IsCallFound tables 0 183 a_pool 4 13 (resolved.Method 4 2)
unfolding tables text_at desc_text_at built_in_infos built_in_info built_in_class built_in_methods built_in_method
calls_object = record {
  kind = class_kind 2;
  name = codes "<init>";
  desc = codes "()V";
  names = record { kind = names_object; named = refl; described = refl };
  holder = 2;
  holds = refl;
  method = 4;
  resolves = refl;
  callee = _;
  is_callee = refl;
  no_array = λ p. refl;
  can_call = record { names = refl; static = refl; initialiser = λ p. refl; above = λ p q. absurd cc };
  found = refl;
}

calls_init : IsCallFound tables 0 183 a_pool 2 13 (resolved.Method 0 0)
unfolding tables text_at desc_text_at built_in_infos built_in_info built_in_class built_in_methods built_in_method
calls_init = record {
  kind = class_kind 0;
  name = codes "<init>";
  desc = codes "()V";
  names = record { kind = names_a; named = refl; described = refl };
  holder = 0;
  holds = refl;
  method = 0;
  resolves = refl;
  callee = _;
  is_callee = refl;
  no_array = λ p. refl;
  can_call = record { names = refl; static = refl; initialiser = λ p. refl; above = λ p q. itself };
  found = refl;
}

calls_m : IsCallFound tables 0 185 a_pool 6 18 (resolved.Method 3 1)
unfolding tables text_at desc_text_at built_in_infos built_in_info built_in_class built_in_methods built_in_method
calls_m = record {
  kind = class_kind 1;
  name = codes "m";
  desc = codes "()I";
  names = record { kind = names_face; named = refl; described = refl };
  holder = 1;
  holds = refl;
  method = 3;
  resolves = refl;
  callee = _;
  is_callee = refl;
  no_array = λ p. refl;
  can_call = record { names = refl; static = refl; initialiser = λ p. absurd cc; above = λ p q. absurd (omega (arith, p)) };
  found = refl;
}

gets_v : IsSlotFound tables a_pool 2 9 (resolved.Slot 0 0)
unfolding tables text_at desc_text_at built_in_infos built_in_info built_in_class built_in_methods built_in_method is_in is_spelled spells
gets_v = record {
  kind = class_kind 0;
  name = codes "v";
  desc = codes "I";
  names = record { kind = names_a; named = refl; described = refl };
  holder = 0;
  holds = refl;
  slot = 0;
  resolves = refl;
  found = refl;
}

makes_a : IsMadeFound tables a_pool 2 (resolved.Kind (class_kind 0))
unfolding tables
makes_a = record { made = 0; names = names_a; makeable = refl; found = refl }

init_as : IsMethodAs tables 0 a_pool (slice_index_or a_methods 0 face_method) (Some init_body) a_init
init_as = record {
  says = record { params = []; result = None };
  spelled = is_void_desc;
  params = refl;
  result = refl;
  body = refl;
  max_stack = refl;
  max_locals = refl;
  resolved = (refl, (calls_object, (refl, tt)));
  catches = tt;
  maps = tt;
}

m_as : IsMethodAs tables 0 a_pool (slice_index_or a_methods 1 face_method) (Some m_body) a_m
unfolding int_desc
m_as = record {
  says = int_desc;
  spelled = is_int_desc;
  params = refl;
  result = refl;
  body = refl;
  max_stack = refl;
  max_locals = refl;
  resolved = (refl, (gets_v, (refl, tt)));
  catches = tt;
  maps = tt;
}

main_frame : IsFrameOf tables main_map (13, record { locals = []; stack = Class (class_kind 4) ∷ []; this_uninit = false })
unfolding tables built_in_infos built_in_info built_in_class
main_frame = record { at = refl; locals = []; are_locals = refl; in_places = refl; stack = refl; this_uninit = refl }

main_as : IsMethodAs tables 0 a_pool (slice_index_or a_methods 2 face_method) (Some main_body) a_main
unfolding int_desc
main_as = record {
  says = int_desc;
  spelled = is_int_desc;
  params = refl;
  result = refl;
  body = refl;
  max_stack = refl;
  max_locals = refl;
  resolved = (makes_a, (refl, (calls_init, (calls_m, (refl, (refl, (refl, (refl, tt))))))));
  catches = (names_throwable, tt);
  maps = (main_frame, tt);
}

face_as : IsMethodAs tables 1 face_parts.pool face_method None face_m
unfolding int_desc
face_as = record {
  says = int_desc;
  spelled = is_int_desc;
  params = refl;
  result = refl;
  body = refl;
  max_stack = refl;
  max_locals = refl;
  resolved = tt;
  catches = tt;
  maps = tt;
}

-- ---- classes

pub all_of_one : {X : Type 0} (Q : X → Type 0) (x : X) → Q x → All Q (x ∷ [])
all_of_one Q x q zero d l = q
all_of_one Q x q (suc k) d l = absurd (omega arith)

-- what holds of an entry holds of the one that stands there
of_entry : {X : Type 0} (P : X → Type 0) (x y : X) → Some x ≡ Some y → P x → P y
of_entry P x y e p = subst P (same_Some x y e) p

MethodAt : ℕ → ClassParts → List (Option Body) → ℕ → ℕ → Method → Type 0
MethodAt c parts bodies first n m = (decoded : Option Body) (i : MethodInfo) → slice_get bodies n ≡ Some decoded → method_at tables (first + n) ≡ Some i → IsMethodAs tables c parts.pool m decoded i

method_here : (c : ℕ) (parts : ClassParts) (m : Method) (b decoded : Option Body) (i j : MethodInfo) → IsMethodAs tables c parts.pool m b i → Some b ≡ Some decoded → Some i ≡ Some j → IsMethodAs tables c parts.pool m decoded j
method_here c parts m b decoded i j said e f =
    of_entry (λ j. IsMethodAs tables c parts.pool m decoded j) i j f (of_entry (λ b. IsMethodAs tables c parts.pool m b i) b decoded e said)

a_methods_as : AtEach (MethodAt 0 a_parts a_loaded.bodies 0) a_methods
unfolding MethodAt tables
a_methods_as = (
  λ d j e f. method_here 0 a_parts _ _ d a_init j init_as e f,
  (λ d j e f. method_here 0 a_parts _ _ d a_m j m_as e f, (λ d j e f. method_here 0 a_parts _ _ d a_main j main_as e f, tt)),
)

face_methods_as : AtEach (MethodAt 1 face_parts face_loaded.bodies 3) face_parts.methods
unfolding MethodAt tables
face_methods_as = (λ d j e f. method_here 1 face_parts _ _ d face_m j face_as e f, tt)

a_as : IsClassAs tables loaded 0 a_loaded a_info
unfolding MethodAt loaded
a_as = record {
  read = refl;
  slots = all_of_one (λ s. desc (kind_desc tables s.kind) s.desc) slot ((lit≤ tt, tt), refl);
  rising = refl;
  first_method = refl;
  methods = λ n m d i at body entry. at_place (MethodAt 0 a_parts a_loaded.bodies 0) a_methods n m a_methods_as at d i body entry;
}

face_as_class : IsClassAs tables loaded 1 face_loaded face_info
unfolding MethodAt loaded
face_as_class = record {
  read = refl;
  slots = All-nil (λ s. desc (kind_desc tables s.kind) s.desc);
  rising = refl;
  first_method = refl;
  methods = λ n m d i at body entry. at_place (MethodAt 1 face_parts face_loaded.bodies 3) face_parts.methods n m face_methods_as at d i body entry;
}

-- ---- the rules

passes_at : {X : Type 0} (f : X → Bool) (xs : List X) (k : ℕ) (x : X) → IsTrue (list_all f xs) → slice_get xs k ≡ Some x → IsTrue (f x)
passes_at f [] k x p e = absurd cc
passes_at f (y ∷ xs) zero x p e = of_entry (λ x. IsTrue (f x)) y x e (and_parts (f y) (list_all f xs) p).0
passes_at f (y ∷ xs) (suc k) x p e = passes_at f xs k x (and_parts (f y) (list_all f xs) p).1 e

none_final : IsTrue (list_all (λ (i : MethodInfo). not (is_final i.flags)) tables.methods)
unfolding tables built_in_methods built_in_method built_in_class
none_final = refl

not_final : (m : ℕ) (i : MethodInfo) → method_at tables m ≡ Some i → is_final i.flags ≡ false
not_final m i e = not-true (is_final i.flags) (passes_at (λ (i : MethodInfo). not (is_final i.flags)) tables.methods m i none_final e)

-- nothing that stands directly above c has c above it
no_cycle : (c : ℕ) → IsTrue (list_all (λ d. nat_lt d 24 && not (is_above tables d c)) (steps_up tables c)) → (d : ℕ) → IsDirectlyAbove tables c d → Above tables d c → ⊥
no_cycle c check d step above =
    let one = and_parts (nat_lt d 24) (not (is_above tables d c)) (listed_all (λ d. nat_lt d 24 && not (is_above tables d c)) d (steps_up tables c) (direct_step (class_at tables c) d step) check) in
    both_ways (is_above tables d c) (not-true (is_above tables d c) one.1) ((supers d (ltb-true d 24 one.0) c).1 above)

a_rules : KeepsRules tables 0 a_info a_parts
unfolding tables text_at spells built_in_infos built_in_info built_in_class
a_rules = record {
  reserved = refl;
  final_super = refl;
  cycle = no_cycle 0 refl;
  initialiser = refl;
  interface_members = λ p. absurd cc;
  final_override = λ n m i over is is_over own one other above apart. not_final m over is_over;
  fields = all_of_one (λ f. Spells (SaysKind tables) a_pool f.desc) (record { flags = 0; name = 7; desc = 8; constant = 0 }) (int_kind, refl, ((lit≤ tt, tt), refl));
}

face_rules : KeepsRules tables 1 face_info face_parts
unfolding tables text_at spells built_in_infos built_in_info built_in_class
face_rules = record {
  reserved = refl;
  final_super = refl;
  cycle = no_cycle 1 refl;
  initialiser = refl;
  interface_members = λ p. refl;
  final_override = λ n m i over is is_over own one other above apart. not_final m over is_over;
  fields = All-nil (λ f. Spells (SaysKind tables) face_parts.pool f.desc);
}

-- ---- the whole

EntryAt : ℕ → Loaded → Type 0
EntryAt c l = (e : ClassInfo) → class_at tables c ≡ Some e → IsClassAs tables loaded c l e × KeepsRules tables c e l.«class»

each_entry : AtEach EntryAt loaded
unfolding EntryAt loaded tables
each_entry = (
  λ e is. of_entry (λ e. IsClassAs tables loaded 0 a_loaded e × KeepsRules tables 0 e a_parts) a_info e is (a_as, a_rules),
  (λ e is. of_entry (λ e. IsClassAs tables loaded 1 face_loaded e × KeepsRules tables 1 e face_parts) face_info e is (face_as_class, face_rules), tt),
)

pub links : Links loaded tables
unfolding EntryAt loaded tables built_in_infos built_in_methods built_in_class
links = record {
  linked = linked;
  class_count = refl;
  method_count = refl;
  entries = λ c l e at is. (at_place EntryAt loaded c l each_entry at e is).0;
  rules = λ c l e at is. (at_place EntryAt loaded c l each_entry at e is).1;
}
