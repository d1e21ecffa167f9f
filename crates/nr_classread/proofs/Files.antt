-- The laws of fields, methods and class files.
use Rattle.std.proofs.Common.{◌≡◌, ℕ, ◌<◌, ◌^◌, Bool, true, false, eqb, List, [], ◌++◌, length, Option, None, refl, sym, ap, ◌∙◌, arith}
use Rattle.std.specs.Prelude.{codes, ◌&&◌}
use Rattle.std.specs.Int.{w16, w32, to_be_bytes}
use Rattle.std.proofs.lemmas.Bool.{eqb-true}
use Rattle.std.proofs.lemmas.List.{append-nil}
use Rattle.nr_base.specs.Grammar.{Sized}
use Rattle.nr_base.proofs.Laws.{Reads, give_law, none_law, then_law, pick_law, times_law, sized_law, same_law}
use Rattle.nr_base.proofs.Lists.{picked}
use Rattle.nr_prog.specs.declared.pool.PoolEntry.{PoolEntry}
use Rattle.nr_prog.specs.declared.member.Code.{Code}
use Rattle.nr_classread.specs.declared.fault.ClassFault.TheVariants as faults
use Rattle.nr_classread.specs.MemberText.{constant_value, field, handler, kept, stack_map_table, code_contents, code, method}
use Rattle.nr_classread.specs.MemberReading.{constant_value_at, field_at, handler_at, kept_at, stack_map_table_at, code_contents_at, code_at, method_at}
use Rattle.nr_classread.specs.ClassText.{magic, version, parts, ignored, class_file}
use Rattle.nr_classread.specs.ClassReading.{magic_at, version_at, parts_at, file_at}
use Rattle.nr_classread.proofs.Pools.{two_law, four_law, bytes_law, list_law, pool_law}
use Rattle.nr_classread.proofs.Attributes.{attribute_law, ignored_law}

constant_value_law : (es : List PoolEntry) (seen : Option ℕ) → Reads (constant_value_at es seen) (constant_value es seen)
constant_value_law es = attribute_law es (codes "ConstantValue") (λ at len. sized_law len (faults.AttrLength at) two_law)

field_law : (es : List PoolEntry) → Reads (field_at es) (field es)
unfolding field_at
field_law es = then_law two_law (λ flags. then_law two_law (λ name. then_law two_law (λ desc. then_law two_law (λ count.
    then_law (times_law (constant_value_at es) (constant_value es) (constant_value_law es) count None) (λ constant. give_law _)))))

handler_law : Reads handler_at handler
unfolding handler_at
handler_law = then_law two_law (λ start. then_law two_law (λ end. then_law two_law (λ handler. then_law two_law (λ catch. give_law _))))

kept_law : (at len : ℕ) → Reads (kept_at at len) (Sized len kept)
kept_law at len = same_law (bytes_law len) (λ bytes t g. (g.1, ap length g.1 ∙ g.0)) (λ bytes t g. (sym (ap length g.0) ∙ g.1, g.0))

stack_map_table_law : (es : List PoolEntry) (seen : Option (List ℕ)) → Reads (stack_map_table_at es seen) (stack_map_table es seen)
stack_map_table_law es = attribute_law es (codes "StackMapTable") kept_law

code_contents_law : (es : List PoolEntry) → Reads (code_contents_at es) (code_contents es)
unfolding code_contents_at
code_contents_law es = then_law two_law (λ stack. then_law two_law (λ locals. then_law four_law (λ len. then_law (bytes_law len) (λ bytes.
    then_law (list_law handler_law) (λ handlers. then_law two_law (λ count.
    then_law (times_law (stack_map_table_at es) (stack_map_table es) (stack_map_table_law es) count None) (λ maps. give_law _)))))))

code_law : (es : List PoolEntry) (seen : Option Code) → Reads (code_at es seen) (code es seen)
code_law es = attribute_law es (codes "Code") (λ at len. sized_law len (faults.AttrLength at) (code_contents_law es))

method_law : (es : List PoolEntry) → Reads (method_at es) (method es)
unfolding method_at
method_law es = then_law two_law (λ flags. then_law two_law (λ name. then_law two_law (λ desc. then_law two_law (λ count.
    then_law (times_law (code_at es) (code es) (code_law es) count None) (λ code. give_law _)))))

-- ---- the file

magic_fits : 0xCAFEBABE < 256 ^ 4
magic_fits = omega arith

magic_law : Reads magic_at magic
unfolding magic_at
magic_law = same_law (then_law four_law (λ m. pick_law (eqb m 0xCAFEBABE) (give_law tt) (none_law faults.BadMagic)))
    (λ x text t. picked (eqb t.value 0xCAFEBABE) _ _ x t.back t.second
    (λ is g. t.whole ∙ ap (λ z. t.front ++ z) g.1 ∙ append-nil t.front ∙ t.first.1 ∙ ap (to_be_bytes w32) (eqb-true t.value 0xCAFEBABE is))
    (λ no g. absurd g))
    (λ x text e. record { value = 0xCAFEBABE; front = text; back = []; first = (magic_fits, e); second = (refl, refl); whole = sym (append-nil text) })

both : (a b : Bool) → (a && b) ≡ true → (a ≡ true) × (b ≡ true)
both true true e = (refl, refl)
both true false e = absurd cc
both false b e = absurd cc

version_law : Reads version_at version
unfolding version_at
version_law = same_law (then_law two_law (λ minor. then_law two_law (λ major. pick_law (eqb minor 0 && eqb major 50) (give_law tt) (none_law (faults.Version minor major)))))
    (λ x text t. let u = t.second in picked (eqb t.value 0 && eqb u.value 50) _ _ x u.back u.second
    (λ are g. let e = both (eqb t.value 0) (eqb u.value 50) are in
    record {
      value = tt;
      front = t.front;
      back = t.back;
      first = t.first.1 ∙ ap (to_be_bytes w16) (eqb-true t.value 0 e.0);
      second = u.whole ∙ ap (λ z. u.front ++ z) g.1 ∙ append-nil u.front ∙ u.first.1 ∙ ap (to_be_bytes w16) (eqb-true u.value 50 e.1);
      whole = t.whole;
    })
    (λ no g. absurd g))
    (λ x text t. record {
      value = 0;
      front = t.front;
      back = t.back;
      first = (omega arith, t.first);
      second = record { value = 50; front = t.back; back = []; first = (omega arith, t.second); second = (refl, refl); whole = sym (append-nil t.back) };
      whole = t.whole;
    })

parts_law : Reads parts_at parts
unfolding parts_at
parts_law = then_law pool_law (λ es. then_law two_law (λ flags. then_law two_law (λ this. then_law two_law (λ super.
    then_law (list_law two_law) (λ interfaces. then_law (list_law (field_law es)) (λ fields. then_law (list_law (method_law es)) (λ methods. give_law _)))))))

pub file_law : Reads file_at class_file
unfolding file_at
file_law = then_law magic_law (λ m. then_law version_law (λ v. then_law parts_law (λ c. then_law two_law (λ count.
    then_law (times_law _ ignored ignored_law count tt) (λ attributes. give_law c)))))
