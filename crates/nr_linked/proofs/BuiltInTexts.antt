-- The texts of the built-in classes and the bounds of their methods.
use Rattle.std.proofs.Common.{◌≡◌, ℕ, Bool, false, length, refl, arith, ◌&&◌}
use Rattle.std.specs.Prelude.{Some, IsTrue, slice_get, nat_le, nat_lt}
use Rattle.std.specs.List.{list_all}
use Rattle.std.proofs.lemmas.Bool.{and_parts, leb-true, ltb-true}
use Rattle.nr_base.specs.LegalNames.{class_from}
use Rattle.nr_linked.specs.declared.program.built_in.BuiltIn.{BuiltIn}
use Rattle.nr_linked.specs.BuiltIns.{BuiltInMethod, built_in_class}
use Rattle.nr_linked.specs.BuiltInTables.{built_in_info, built_in_method, built_ins}
use Rattle.nr_linked.specs.Facts.{ClassTexts, MethodBounds}
use Rattle.nr_linked.proofs.BuiltInEntries.{on_all}
use Rattle.nr_linked.proofs.Elements.{passes_at}
use Rattle.nr_linked.proofs.LegalTexts.{is_plain, legal}

abbrev is_legal : BuiltIn → Bool
is_legal b = is_plain (built_in_class b).name && (class_from false (built_in_class b).name && nat_lt (length (built_in_class b).name) 65536)

all_legal : IsTrue (list_all is_legal built_ins)
unfolding built_in_class
all_legal = refl

abbrev is_bounded : BuiltInMethod → Bool
is_bounded m = nat_lt (length m.name) 65536 && (nat_lt (length m.desc) 65536 && nat_le (length m.params) 254)

all_bounded : IsTrue (list_all (λ b. list_all is_bounded (built_in_class b).methods) built_ins)
unfolding built_in_class
all_bounded = refl

pub built_in_texts : (f m : ℕ) (b : BuiltIn) → ClassTexts (built_in_info f m b)
unfolding built_in_info
built_in_texts f m b =
    let p = and_parts (is_plain (built_in_class b).name) _ (on_all is_legal all_legal b) in
    let q = and_parts (class_from false (built_in_class b).name) _ p.1 in
    record {
      name = legal (built_in_class b).name p.0 q.0;
      short_name = ltb-true (length (built_in_class b).name) 65536 q.1;
      slot_names = λ i d l. absurd (omega arith);
      slot_descs = λ i d l. absurd (omega arith);
    }

method_bounds : (c : ℕ) (m : BuiltInMethod) → IsTrue (is_bounded m) → MethodBounds (built_in_method c m)
unfolding built_in_method
method_bounds c m p =
    let q = and_parts (nat_lt (length m.name) 65536) _ p in
    let r = and_parts (nat_lt (length m.desc) 65536) _ q.1 in
    record {
      short_name = ltb-true (length m.name) 65536 q.0;
      short_desc = ltb-true (length m.desc) 65536 r.0;
      few_params = leb-true (length m.params) 254 r.1;
      few_handlers = omega arith;
    }

pub built_in_bounds : (b : BuiltIn) (k : ℕ) (m : BuiltInMethod) (c : ℕ) → slice_get (built_in_class b).methods k ≡ Some m → MethodBounds (built_in_method c m)
built_in_bounds b k m c at = method_bounds c m (passes_at is_bounded (built_in_class b).methods k m (on_all (λ b. list_all is_bounded (built_in_class b).methods) all_bounded b) at)
