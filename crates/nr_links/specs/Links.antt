-- The tables of the program that some loaded classes make together: JVM Specification 5.3.5, 5.4.2 and 5.4.3. That all of it
-- is done at once before a run, and that missing classes and members are refused there, is the project's own rule.
use Rattle.std.specs.Prelude.{◌≡◌, ℕ, ◌+◌, List, length, Some, slice_get}
use Rattle.nr_prog.specs.declared.body.loaded.Loaded.{Loaded}
use Rattle.nr_linked.specs.declared.program.tables.ClassInfo.{ClassInfo}
use Rattle.nr_linked.specs.declared.program.tables.ProgramTables.{ProgramTables}
use Rattle.nr_prog.specs.BodyText.{HasBodies}
use Rattle.nr_prog.specs.Form.{IsFormed, IsWithinBounds}
use Rattle.nr_linked.specs.BuiltIns.{built_in_count}
use Rattle.nr_linked.specs.Linked.{Linked, built_in_method_count}
use Rattle.nr_linked.specs.Programs.{class_at}
use Rattle.nr_links.specs.Entries.{IsClassAs, method_count}
use Rattle.nr_links.specs.Rules.{KeepsRules}

-- the classes that were loaded, in their order, link to these tables
pub record Links (classes : List Loaded) (P : ProgramTables) : Type 0 where
  -- The tables are laid out as those of a program: each class once, at most 1,024 that were loaded, the built-in ones last;
  -- superclasses are classes and superinterfaces are interfaces; entries, slots and methods are those of the class files.
  pub linked : Linked P
  pub class_count : length P.classes ≡ length classes + built_in_count
  pub method_count : length P.methods ≡ method_count classes + built_in_method_count
  -- each class comes from its file
  pub entries : (c : ℕ) (l : Loaded) (e : ClassInfo) → slice_get classes c ≡ Some l → class_at P c ≡ Some e → IsClassAs P classes c l e
  -- and keeps the rules of linking
  pub rules : (c : ℕ) (l : Loaded) (e : ClassInfo) → slice_get classes c ≡ Some l → class_at P c ≡ Some e → KeepsRules P c e l.«class»

-- a class with the form and the bounds of a class file, and the code that its methods spell
pub record IsDecoded (l : Loaded) : Type 0 where
  pub formed : IsFormed l.«class»
  pub bounds : IsWithinBounds l.«class»
  pub bodies : HasBodies l.«class» l.bodies
