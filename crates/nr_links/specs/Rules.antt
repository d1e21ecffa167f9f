-- The rules of linking on a class: JVM Specification 5.3.5, 5.4.2, 4.1 and 4.6, and the project's own profile.
use Rattle.std.specs.Prelude.{◌≡◌, ℕ, List, Bool, false, not, ◌&&◌, ◌||◌, Some, All, IsTrue, codes, nat_eq}
use Rattle.std.specs.List.{list_all, starts_with}
use Rattle.std.specs.Str.{bytes_eq}
use Rattle.std.specs.Option.{option_map_or}
use Rattle.nr_prog.specs.declared.member.Method.{Method}
use Rattle.nr_prog.specs.declared.parts.ClassParts.{ClassParts}
use Rattle.nr_prog.specs.declared.pool.PoolEntry.{PoolEntry}
use Rattle.nr_linked.specs.declared.program.kind.Kind.{Kind}
use Rattle.nr_linked.specs.declared.program.tables.ClassInfo.{ClassInfo}
use Rattle.nr_linked.specs.declared.program.tables.MethodInfo.{MethodInfo}
use Rattle.nr_linked.specs.declared.program.tables.ProgramTables.{ProgramTables}
use Rattle.nr_base.specs.Descs.{desc}
use Rattle.nr_prog.specs.Form.{Spells}
use Rattle.nr_prog.specs.Members.{has_flag, is_abstract, is_static, spells}
use Rattle.nr_linked.specs.KindTexts.{kind_desc}
use Rattle.nr_linked.specs.Linked.{is_kind_in}
use Rattle.nr_linked.specs.Programs.{class_at, is_interface, method_at}
use Rattle.nr_linked.specs.Selection.{is_public, is_selectable}
use Rattle.nr_linked.specs.Subtypes.{Above, IsDirectlyAbove}

-- a final class or method (tables 4.1-A and 4.6-A)
abbrev pub is_final : ℕ → Bool
is_final flags = has_flag 0x0010 flags

abbrev pub is_final_class : ProgramTables → ℕ → Bool
is_final_class P c = option_map_or (λ e. is_final e.flags) (class_at P c) false

-- names that the built-in classes have: the project's own rule, after 5.3.5's for `java`
abbrev pub is_reserved : List ℕ → Bool
is_reserved name = starts_with nat_eq name (codes "java/") || starts_with nat_eq name (codes "nrmi/")

abbrev pub is_class_initialiser : List PoolEntry → Method → Bool
is_class_initialiser pool m = spells (bytes_eq (codes "<clinit>")) pool m.name

-- the descriptor says a kind of the program
abbrev pub SaysKind : ProgramTables → List ℕ → Type 0
SaysKind P text = (k : Kind) × IsTrue (is_kind_in P k) × desc (kind_desc P k) text

-- the fields of an interface are static, and its methods public and abstract (4.5, 4.6)
abbrev pub has_interface_members : ClassParts → Bool
has_interface_members parts =
    list_all (λ f. is_static f.flags) parts.fields && list_all (λ m. is_public m.flags && is_abstract m.flags) parts.methods

-- Class c, with this entry and these parts of its file. That each class comes once, that there are at most 1,024, and that the
-- superclass and the superinterfaces are a class and interfaces of the program is said by `Linked`.
pub record KeepsRules (P : ProgramTables) (c : ℕ) (e : ClassInfo) (parts : ClassParts) : Type 0 where
  pub reserved : is_reserved e.name ≡ false
  -- its superclass isn't final (5.3.5, 4.1)
  pub final_super : option_map_or (is_final_class P) e.super_class false ≡ false
  -- it isn't above itself (5.3.5: ClassCircularityError)
  pub cycle : (d : ℕ) → IsDirectlyAbove P c d → Above P d c → ⊥
  -- no class initialiser is declared (the project's own profile)
  pub initialiser : IsTrue (list_all (λ m. not (is_class_initialiser parts.pool m)) parts.methods)
  pub interface_members : IsTrue (is_interface P c) → IsTrue (has_interface_members parts)
  -- No method that is neither static nor private has the name and the descriptor of such a method of a class above, where
  -- that is final (5.4.2, 4.6).
  pub final_override : (n m : ℕ) (i over : MethodInfo) → method_at P n ≡ Some i → method_at P m ≡ Some over → i.«class» ≡ c
      → IsTrue (is_selectable i.name i.desc i) → IsTrue (is_selectable i.name i.desc over)
      → Above P c over.«class» → (over.«class» ≡ c → ⊥) → is_final over.flags ≡ false
  -- the class in the descriptor of each field is one of the program (5.4.3.1)
  pub fields : All (λ f. Spells (SaysKind P) parts.pool f.desc) parts.fields
