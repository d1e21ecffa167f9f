-- The entries of the built-in classes and of their methods, in the tables of a program.
use Rattle.std.proofs.Common.{◌≡◌, ℕ, ◌+◌, ◌-◌, ◌≤◌, Bool, false, map, refl, sym, ap, ◌∙◌, arith}
use Rattle.std.specs.Prelude.{Some, IsTrue, slice_get}
use Rattle.std.specs.List.{list_all}
use Rattle.std.specs.Option.{option_map}
use Rattle.std.proofs.lemmas.Bool.{le-ltb, ltb-false}
use Rattle.std.proofs.lemmas.Option.{slice_get-map}
use Rattle.nr_linked.specs.declared.program.built_in.BuiltIn.{BuiltIn}
use Rattle.nr_linked.specs.declared.program.built_in.BuiltIn.TheVariants.{Object, Cloneable, Throwable, Exception, Error, RuntimeException, ArithmeticException, ArrayStoreException, ClassCastException, IllegalArgumentException, IllegalStateException, IndexOutOfBoundsException, NegativeArraySizeException, NullPointerException, ArrayIndexOutOfBoundsException, LinkageError, IncompatibleClassChangeError, AbstractMethodError, Serializable, Restorable, Out, RemoteFault}
use Rattle.nr_linked.specs.declared.program.tables.ClassInfo.{ClassInfo}
use Rattle.nr_linked.specs.declared.program.tables.MethodInfo.{MethodInfo}
use Rattle.nr_linked.specs.declared.program.tables.ProgramTables.{ProgramTables}
use Rattle.nr_linked.specs.BuiltIns.{BuiltInMethod, built_in, built_in_class, number}
use Rattle.nr_linked.specs.BuiltInTables.{built_in_info, built_in_infos, built_in_method, built_in_methods, built_ins}
use Rattle.nr_linked.specs.Linked.{Linked, first_built_in, first_built_in_method, is_loaded}
use Rattle.nr_linked.specs.Programs.{class_at, method_at}
use Rattle.nr_linked.proofs.Elements.{get_dropped, get_flat, get_mapped, passes_at}

abbrev pub info_of : ProgramTables → BuiltIn → ClassInfo
info_of P b = built_in_info (first_built_in P) (first_built_in_method P) b

pub listed : (b : BuiltIn) → slice_get built_ins (number b) ≡ Some b
listed Object = refl
listed Cloneable = refl
listed Throwable = refl
listed Exception = refl
listed Error = refl
listed RuntimeException = refl
listed ArithmeticException = refl
listed ArrayStoreException = refl
listed ClassCastException = refl
listed IllegalArgumentException = refl
listed IllegalStateException = refl
listed IndexOutOfBoundsException = refl
listed NegativeArraySizeException = refl
listed NullPointerException = refl
listed ArrayIndexOutOfBoundsException = refl
listed LinkageError = refl
listed IncompatibleClassChangeError = refl
listed AbstractMethodError = refl
listed Serializable = refl
listed Restorable = refl
listed Out = refl
listed RemoteFault = refl

numbered : (f m : ℕ) (b : BuiltIn) → slice_get (built_in_infos f m) (number b) ≡ Some (built_in_info f m b)
unfolding built_in_infos
numbered f m b = slice_get-map (built_in_info f m) built_ins (number b) ∙ ap (option_map (built_in_info f m)) (listed b)

-- the entry of a built-in class
pub built_in_at : (P : ProgramTables) → Linked P → (b : BuiltIn) → class_at P (built_in P b) ≡ Some (info_of P b)
built_in_at P linked b =
    sym (get_dropped P.classes (first_built_in P) (number b))
    ∙ ap (λ es. slice_get es (number b)) linked.built_ins
    ∙ numbered (first_built_in P) (first_built_in_method P) b

-- an entry past those of the loaded classes
pub of_built_in : (P : ProgramTables) → Linked P → (c : ℕ) (e : ClassInfo) → class_at P c ≡ Some e → is_loaded P c ≡ false → (b : BuiltIn) × (e ≡ info_of P b)
unfolding built_in_infos
of_built_in P linked c e is past =
    let over : first_built_in P ≤ c = ltb-false c (first_built_in P) past in
    let same : first_built_in P + (c - first_built_in P) ≡ c = omega (arith, over) in
    let here = sym (ap (λ es. slice_get es (c - first_built_in P)) linked.built_ins) ∙ get_dropped P.classes (first_built_in P) (c - first_built_in P) ∙ ap (slice_get P.classes) same ∙ is in
    let r = get_mapped (built_in_info (first_built_in P) (first_built_in_method P)) built_ins (c - first_built_in P) e here in
    (r.0, r.2)

-- an entry past those of the methods of loaded classes
pub record BuiltInEntry (P : ProgramTables) (i : MethodInfo) : Type 0 where
  pub holder : BuiltIn
  pub method : BuiltInMethod
  pub place : ℕ
  pub declares : slice_get (built_in_class holder).methods place ≡ Some method
  pub is : i ≡ built_in_method (first_built_in P + number holder) method

pub of_built_in_method : (P : ProgramTables) → Linked P → (n : ℕ) (i : MethodInfo) → method_at P n ≡ Some i → first_built_in_method P ≤ n → BuiltInEntry P i
unfolding built_in_methods
of_built_in_method P linked n i is over =
    let f = first_built_in P in
    let k = n - first_built_in_method P in
    let same : first_built_in_method P + k ≡ n = omega (arith, over) in
    let here = sym (ap (λ is. slice_get is k) linked.built_in_methods) ∙ get_dropped P.methods (first_built_in_method P) k ∙ ap (slice_get P.methods) same ∙ is in
    let r = get_flat (λ b. map (built_in_method (f + number b)) (built_in_class b).methods) built_ins k i here in
    let m = get_mapped (built_in_method (f + number r.1)) (built_in_class r.1).methods r.2 i r.4 in
    record { holder = r.1; method = m.0; place = r.2; declares = m.1; is = m.2 }

pub not_loaded : (P : ProgramTables) (b : BuiltIn) → is_loaded P (built_in P b) ≡ false
not_loaded P b = le-ltb (built_in P b) (first_built_in P) (omega arith)

-- ---- facts of all of them

pub on_all : (f : BuiltIn → Bool) → IsTrue (list_all f built_ins) → (b : BuiltIn) → IsTrue (f b)
on_all f p b = passes_at f built_ins (number b) b p (listed b)
