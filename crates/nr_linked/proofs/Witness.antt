-- The facts of a linked program can be met: by the program of the built-in classes alone.
use Rattle.std.proofs.Common.{◌≡◌, ℕ, zero, suc, true, false, List, [], ◌∷◌, ◌++◌, refl, sym, ap, subst, lit<, lit≤, not, ◌&&◌}
use Rattle.std.specs.Prelude.{Some, None, slice_get, is_some, is_none, ◌==◌, IsTrue}
use Rattle.std.specs.List.{list_all, list_any}
use Rattle.std.specs.Option.{option_map_or}
use Rattle.nr_linked.specs.declared.program.built_in.BuiltIn.{BuiltIn}
use Rattle.nr_linked.specs.declared.program.built_in.BuiltIn.TheVariants.{Object, Cloneable, Throwable, Exception, Error, RuntimeException, ArithmeticException, ArrayStoreException, ClassCastException, IllegalArgumentException, IllegalStateException, IndexOutOfBoundsException, NegativeArraySizeException, NullPointerException, ArrayIndexOutOfBoundsException, LinkageError, IncompatibleClassChangeError, AbstractMethodError, Serializable, Restorable, Out, RemoteFault}
use Rattle.nr_linked.specs.declared.program.tables.ProgramTables.{ProgramTables}
use Rattle.nr_linked.specs.BuiltIns.{BuiltInMethod, built_in, built_in_class, number}
use Rattle.nr_linked.specs.BuiltInTables.{built_in_info, built_in_infos, built_in_method, built_in_methods, built_in_tables}
use Rattle.nr_linked.specs.KindTexts.{signature_text}
use Rattle.nr_linked.specs.Linked.{IsClassLinked, IsMethodLinked, Linked, declared, inherited_slots, is_kind_in, is_loaded, is_method_of, is_super_in, own_slots}
use Rattle.nr_prog.specs.Members.{is_abstract}
use Rattle.nr_linked.specs.Programs.{class_named, is_interface, methods_of, superclasses}
use Rattle.nr_linked.proofs.BuiltInsAbove.{supers}

-- ---- what holds at each place of a list

abbrev AtEach : {X : Type 0} → (ℕ → X → Type 0) → List X → Type 0
AtEach P [] = Unit {0}
AtEach P (x ∷ xs) = P 0 x × AtEach (λ k. P (suc k)) xs

at_place : {X : Type 0} (P : ℕ → X → Type 0) (xs : List X) (k : ℕ) (x : X) → AtEach P xs → slice_get xs k ≡ Some x → P k x
at_place P [] k x all e = absurd (cc)
at_place P (y ∷ xs) zero x all e = let same : y ≡ x = cc in subst (P 0) same all.0
at_place P (y ∷ xs) (suc k) x all e = at_place (λ k. P (suc k)) xs k x all.1 e

-- ---- each class

abbrev Tables : ProgramTables
Tables = built_in_tables

class_linked : (b : BuiltIn) → let e = built_in_info 0 0 b in
    class_named Tables e.name ≡ Some (number b)
    → is_some e.read ≡ is_loaded Tables (number b)
    → is_none e.super_class ≡ (number b == built_in Tables Object)
    → IsTrue (option_map_or (is_super_in Tables (number b)) e.super_class true)
    → IsTrue (list_all (is_interface Tables) e.interfaces)
    → IsTrue (list_any (λ d. d == built_in Tables Object) (superclasses Tables (number b)))
    → e.slots ≡ inherited_slots Tables e ++ own_slots Tables e
    → IsTrue (list_all (λ s. s.declared_in == number b) (own_slots Tables e))
    → IsTrue (list_all (is_method_of Tables (number b)) (methods_of Tables (number b)))
    → IsClassLinked Tables (number b) e
unfolding built_in_info
class_linked b name read root super_class interfaces ends inherited own methods = record {
  name = name;
  read = read;
  read_as = tt;
  root = root;
  super_class = super_class;
  interfaces = interfaces;
  ends = ends;
  supers = supers b;
  inherited = inherited;
  own = own;
  slots = refl;
  few_slots = lit< tt;
  methods = methods;
}

each_class : AtEach (IsClassLinked Tables) (built_in_tables.classes)
unfolding built_in_tables built_in_infos built_in_class built_in_info built_in_methods built_in_method
each_class = (
  class_linked Object refl refl refl refl refl refl refl refl refl,
  (
    class_linked Cloneable refl refl refl refl refl refl refl refl refl,
    (
      class_linked Throwable refl refl refl refl refl refl refl refl refl,
      (
        class_linked Exception refl refl refl refl refl refl refl refl refl,
        (
          class_linked Error refl refl refl refl refl refl refl refl refl,
          (
            class_linked RuntimeException refl refl refl refl refl refl refl refl refl,
            (
              class_linked ArithmeticException refl refl refl refl refl refl refl refl refl,
              (
                class_linked ArrayStoreException refl refl refl refl refl refl refl refl refl,
                (
                  class_linked ClassCastException refl refl refl refl refl refl refl refl refl,
                  (
                    class_linked IllegalArgumentException refl refl refl refl refl refl refl refl refl,
                    (
                      class_linked IllegalStateException refl refl refl refl refl refl refl refl refl,
                      (
                        class_linked IndexOutOfBoundsException refl refl refl refl refl refl refl refl refl,
                        (
                          class_linked NegativeArraySizeException refl refl refl refl refl refl refl refl refl,
                          (
                            class_linked NullPointerException refl refl refl refl refl refl refl refl refl,
                            (
                              class_linked ArrayIndexOutOfBoundsException refl refl refl refl refl refl refl refl refl,
                              (
                                class_linked LinkageError refl refl refl refl refl refl refl refl refl,
                                (
                                  class_linked IncompatibleClassChangeError refl refl refl refl refl refl refl refl refl,
                                  (
                                    class_linked AbstractMethodError refl refl refl refl refl refl refl refl refl,
                                    (
                                      class_linked Serializable refl refl refl refl refl refl refl refl refl,
                                      (
                                        class_linked Restorable refl refl refl refl refl refl refl refl refl,
                                        (
                                          class_linked Out refl refl refl refl refl refl refl refl refl,
                                          (
                                            class_linked RemoteFault refl refl refl refl refl refl refl refl refl,
                                            tt,
                                          ),
                                        ),
                                      ),
                                    ),
                                  ),
                                ),
                              ),
                            ),
                          ),
                        ),
                      ),
                    ),
                  ),
                ),
              ),
            ),
          ),
        ),
      ),
    ),
  ),
)

-- ---- each method

method_linked : (c m : ℕ) (i : BuiltInMethod) → declared Tables c i.name i.desc ≡ Some m → i.desc ≡ signature_text Tables i.params None
    → IsTrue (list_all (is_kind_in Tables) i.params) → is_loaded Tables c ≡ false → IsMethodLinked Tables m (built_in_method c i)
unfolding built_in_method
method_linked c m i alone desc params built_in = record {
  alone = alone;
  desc = desc;
  params = params;
  result = refl;
  body = ap (λ l. l && not (is_abstract i.flags)) (sym built_in);
  one_each = refl;
  resolved = refl;
  one_catch_each = refl;
  catches = refl;
  offsets = refl;
  maps = refl;
}

each_method : AtEach (IsMethodLinked Tables) built_in_tables.methods
unfolding built_in_tables built_in_infos built_in_class built_in_info built_in_methods built_in_method
each_method = (
  method_linked 0 0 _ refl refl refl refl,
  (
    method_linked 2 1 _ refl refl refl refl,
    (
      method_linked 3 2 _ refl refl refl refl,
      (
        method_linked 4 3 _ refl refl refl refl,
        (
          method_linked 5 4 _ refl refl refl refl,
          (
            method_linked 6 5 _ refl refl refl refl,
            (
              method_linked 7 6 _ refl refl refl refl,
              (
                method_linked 8 7 _ refl refl refl refl,
                (
                  method_linked 9 8 _ refl refl refl refl,
                  (
                    method_linked 10 9 _ refl refl refl refl,
                    (
                      method_linked 11 10 _ refl refl refl refl,
                      (
                        method_linked 12 11 _ refl refl refl refl,
                        (
                          method_linked 13 12 _ refl refl refl refl,
                          (
                            method_linked 14 13 _ refl refl refl refl,
                            (
                              method_linked 15 14 _ refl refl refl refl,
                              (
                                method_linked 16 15 _ refl refl refl refl,
                                (
                                  method_linked 17 16 _ refl refl refl refl,
                                  (
                                    method_linked 20 17 _ refl refl refl refl,
                                    (
                                      method_linked 20 18 _ refl refl refl refl,
                                      (
                                        method_linked 20 19 _ refl refl refl refl,
                                        (
                                          method_linked 20 20 _ refl refl refl refl,
                                          (
                                            method_linked 20 21 _ refl refl refl refl,
                                            (
                                              method_linked 21 22 _ refl refl refl refl,
                                              tt,
                                            ),
                                          ),
                                        ),
                                      ),
                                    ),
                                  ),
                                ),
                              ),
                            ),
                          ),
                        ),
                      ),
                    ),
                  ),
                ),
              ),
            ),
          ),
        ),
      ),
    ),
  ),
)

pub linked : Linked built_in_tables
unfolding built_in_tables built_in_infos built_in_class built_in_info built_in_methods built_in_method
linked = record {
  few_classes = lit≤ tt;
  few_methods = lit< tt;
  built_ins = refl;
  built_in_methods = refl;
  classes = λ c e is. at_place (IsClassLinked Tables) built_in_tables.classes c e each_class is;
  methods = λ m i is. at_place (IsMethodLinked Tables) built_in_tables.methods m i each_method is;
}
