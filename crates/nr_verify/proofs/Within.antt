-- The class of a method is one of the program's.
use Rattle.std.proofs.Common.{◌≡◌, ℕ, ◌<◌, List, [], ◌∷◌, length, find, refl, sym, ap, ◌∙◌, Bool}
use Rattle.std.specs.Prelude.{Option, Some, None}
use Rattle.std.specs.Option.{option_map_or}
use Rattle.std.specs.List.{range_with_len}
use Rattle.std.proofs.lemmas.Option.{slice_get_within}
use Rattle.nr_linked.specs.declared.program.tables.ClassInfo.{ClassInfo}
use Rattle.nr_linked.specs.declared.program.tables.MethodInfo.{MethodInfo}
use Rattle.nr_linked.specs.declared.program.tables.ProgramTables.{ProgramTables}
use Rattle.nr_linked.specs.Linked.{Linked, declared}
use Rattle.nr_linked.specs.Programs.{class_at, method_at, methods_of}

found_none : (f : ℕ → Bool) (xs : List ℕ) → xs ≡ [] → find f xs ≡ None
found_none f [] e = refl
found_none f (x ∷ xs) e = absurd cc

pub class_within : (P : ProgramTables) → Linked P → (n : ℕ) (m : MethodInfo) → method_at P n ≡ Some m → m.«class» < length P.classes
class_within P linked n m is = by_class (class_at P m.«class») refl
  where
    by_class : (o : Option ClassInfo) → class_at P m.«class» ≡ o → m.«class» < length P.classes
    by_class None e =
        let nothing : methods_of P m.«class» ≡ [] = ap (λ o. option_map_or (λ (e : ClassInfo). range_with_len e.first_method e.methods) o []) e in
        let none : declared P m.«class» m.name m.desc ≡ None = found_none _ (methods_of P m.«class») nothing in
        let alone = sym none ∙ (linked.methods n m is).alone in
        absurd cc
    by_class (Some x) e = slice_get_within P.classes m.«class» x e
