-- The outline of a program: what the class files say of classes and methods, with the numbers of the superclasses and
-- superinterfaces that they name, before any rule of linking was looked at. It is a program's tables without what linking
-- finds: no slots, no list of what stands above, no kinds. A superclass or an interface that isn't known is left out; rules
-- ask about those only where all are known.
use Rattle.std.specs.Prelude.{ℕ, ◌+◌, List, [], ◌∷◌, ◌++◌, length, map, Option, Some, None}
use Rattle.std.specs.List.{flat_map, position, zip}
use Rattle.std.specs.Str.{bytes_eq}
use Rattle.std.specs.Option.{option_and_then, option_map_or, option_to_list}
use Rattle.nr_prog.specs.declared.body.loaded.Loaded.{Loaded}
use Rattle.nr_prog.specs.declared.body.whole.Body.{Body}
use Rattle.nr_prog.specs.declared.member.Method.{Method}
use Rattle.nr_prog.specs.declared.parts.ClassParts.{ClassParts}
use Rattle.nr_prog.specs.declared.pool.PoolEntry.{PoolEntry}
use Rattle.nr_linked.specs.declared.program.tables.ClassInfo.{ClassInfo}
use Rattle.nr_linked.specs.declared.program.tables.MethodInfo.{MethodInfo}
use Rattle.nr_linked.specs.declared.program.tables.ProgramTables.{ProgramTables}
use Rattle.nr_prog.specs.BodyNames.{class_text_at}
use Rattle.nr_prog.specs.Pool.{text_at}
use Rattle.nr_linked.specs.BuiltIns.{built_in_class}
use Rattle.nr_linked.specs.BuiltInTables.{built_in_infos, built_in_methods, built_ins}
use Rattle.nr_links.specs.Entries.{local_places, method_count, stack_places}

abbrev pub some_text : Option (List ℕ) → List ℕ
some_text t = option_map_or (λ text. text) t []

-- ---- names

-- the name of a class file's class
abbrev pub own_name : ClassParts → List ℕ
own_name c = some_text (class_text_at c.pool c.this_class)

-- the names of the classes that were loaded, by their numbers
abbrev pub own_names : List Loaded → List (List ℕ)
own_names classes = map (λ l. own_name l.«class») classes

-- the names of all classes, by their numbers: those that were loaded, then the built-in ones
abbrev pub names_of : List Loaded → List (List ℕ)
names_of classes = own_names classes ++ map (λ b. (built_in_class b).name) built_ins

-- the number of the first class of this name
abbrev pub number_in : List (List ℕ) → List ℕ → Option ℕ
number_in names name = position (λ n. bytes_eq n name) names

-- the number of the class that the index of a constant pool names
abbrev pub class_number : List (List ℕ) → List PoolEntry → ℕ → Option ℕ
class_number names pool index = option_and_then (number_in names) (class_text_at pool index)

-- ---- classes

-- a class, whose first method has this number
unfoldable pub outline_class : List (List ℕ) → ℕ → ClassParts → ClassInfo
outline_class names first c = record {
  name = own_name c;
  flags = c.flags;
  super_class = class_number names c.pool c.super_class;
  interfaces = flat_map (λ i. option_to_list (class_number names c.pool i)) c.interfaces;
  supers = [];
  slots = [];
  first_method = first;
  methods = length c.methods;
  read = Some c;
}

unfoldable pub outline_classes : List (List ℕ) → ℕ → List Loaded → List ClassInfo
outline_classes names first [] = []
outline_classes names first (l ∷ ls) =
    outline_class names first l.«class» ∷ outline_classes names (first + length l.«class».methods) ls

-- ---- methods

-- a method of class c, with its decoded code
unfoldable pub outline_method : ℕ → List PoolEntry → Method × Option Body → MethodInfo
outline_method c pool m = record {
  «class» = c;
  name = some_text (text_at pool m.0.name);
  desc = some_text (text_at pool m.0.desc);
  flags = m.0.flags;
  params = [];
  result = None;
  max_stack = stack_places m.0.code;
  max_locals = local_places m.0.code;
  body = m.1;
  resolved = [];
  catches = [];
  maps = [];
}

-- the methods of the classes, the first of which has number c
unfoldable pub outline_methods : ℕ → List Loaded → List MethodInfo
outline_methods c [] = []
outline_methods c (l ∷ ls) =
    map (outline_method c l.«class».pool) (zip l.«class».methods l.bodies) ++ outline_methods (c + 1) ls

-- ---- the whole

-- the entry of a class that was loaded without what linking finds; that of a built-in class as it is
unfoldable pub bare_class : ClassInfo → ClassInfo
bare_class e = option_map_or (λ parts. record e { supers = []; slots = [] }) e.read e

-- the entry of a method without what linking finds
unfoldable pub bare_method : MethodInfo → MethodInfo
bare_method i = record i { params = []; result = None; resolved = []; catches = []; maps = [] }

unfoldable pub outline : List Loaded → ProgramTables
outline classes = record {
  classes = outline_classes (names_of classes) 0 classes ++ built_in_infos (length classes) (method_count classes);
  methods = outline_methods 0 classes ++ built_in_methods (length classes);
}
