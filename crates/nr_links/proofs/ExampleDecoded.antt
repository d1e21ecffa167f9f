-- The example's classes have the form of class files, and their bodies are those that their code spells.
use Rattle.std.proofs.Common.{◌≡◌, ℕ, zero, suc, ◌<◌, ◌≤◌, ◌^◌, List, [], ◌∷◌, length, refl, inl, inr, lit<, lit≤, arith}
use Rattle.std.specs.Prelude.{Some, None, All, AllPairs, IsTrue, nat_le, slice_index_or, codes}
use Rattle.std.specs.List.{list_all}
use Rattle.std.proofs.lemmas.Bool.{and_parts, leb-true}
use Rattle.std.proofs.lemmas.List.Elements.{All-from_recursion, All-nil}
use Rattle.nr_base.specs.declared.desc.types.Desc.{Desc}
use Rattle.nr_base.specs.declared.desc.types.DescBase.TheVariants as desc_bases
use Rattle.nr_base.specs.declared.desc.types.MethodDesc.{MethodDesc}
use Rattle.nr_optable.specs.Rows.{all_rows}
use Rattle.nr_optable.specs.declared.table.Row.{Row}
use Rattle.nr_prog.specs.declared.body.instruction.Args.TheVariants.{Empty, Pool}
use Rattle.nr_prog.specs.declared.body.frame_map.MapType.TheVariants as map_types
use Rattle.nr_prog.specs.declared.member.Field.{Field}
use Rattle.nr_prog.specs.declared.member.Method.{Method}
use Rattle.nr_prog.specs.declared.pool.PoolEntry.{PoolEntry}
use Rattle.nr_prog.specs.BodyMaps.{IsEntry, IsMapped, at_entry, frame, frame_types, with_map}
use Rattle.nr_prog.specs.BodyNames.{class_text_at, desc_text_at}
use Rattle.nr_prog.specs.BodyStarts.{is_start}
use Rattle.nr_prog.specs.BodyText.{HasTargets, IsBody, IsHandler, IsInstr}
use Rattle.nr_prog.specs.Form.{AreApart, IsFieldFormed, IsFormed, IsInitialiser, IsMethodFormed, IsWithinBounds, Spells, handler_count}
use Rattle.nr_prog.specs.Legal.{IsClassText, IsMethodText}
use Rattle.nr_prog.specs.Members.{has_its_code, is_constant_formed, is_plain, spells}
use Rattle.nr_prog.specs.Pool.{entry_at, is_entry_formed, text_at, text_len}
use Rattle.nr_linked.proofs.LegalTexts.{legal}
use Rattle.nr_links.specs.Example.{code_of, main_code, a_loaded, a_methods, a_parts, a_pool, aload_0, dup, face_loaded, face_method, face_parts, getfield, handler, init_body, instr, invokeinterface, invokespecial, ireturn, loaded, m_body, main_body, new_, pop, return_, iconst_0}
use Rattle.nr_links.specs.Links.{IsDecoded}
use Rattle.nr_links.proofs.ExampleLinks.{all_of_one, int_desc, is_int_desc, is_void_desc, legal_a, legal_face, legal_object, legal_throwable}
use Rattle.nr_linked.proofs.Listed.{AtEach, at_place}

-- ---- the constant pools

FormedAt : List PoolEntry → ℕ → PoolEntry → Type 0
FormedAt pool k e = IsTrue (is_entry_formed pool (suc k) e)

pool_formed : (pool : List PoolEntry) → AtEach (FormedAt pool) pool → (index : ℕ) (e : PoolEntry) → entry_at pool index ≡ Some e → IsTrue (is_entry_formed pool index e)
unfolding FormedAt
pool_formed pool all zero e at = absurd cc
pool_formed pool all (suc i) e at = at_place (FormedAt pool) pool i e all at

a_pool_formed : AtEach (FormedAt a_pool) a_pool
unfolding FormedAt is_entry_formed
a_pool_formed = (refl, (refl, (refl, (refl, (refl, (refl, (refl, (refl, (refl, (refl, (refl, (refl, (refl, (refl, (refl, (refl, (refl, (refl, (refl, (refl, (refl, (refl, tt))))))))))))))))))))))

face_pool_formed : AtEach (FormedAt face_parts.pool) face_parts.pool
unfolding FormedAt is_entry_formed
face_pool_formed = (refl, (refl, (refl, (refl, (refl, (refl, tt))))))

-- ---- members

method_text : (text : List ℕ) → IsClassText text → IsTrue (Rattle.nr_base.specs.LegalNames.is_method_name text) → IsMethodText text
method_text text c p = (c.0, p)

legal_init : IsClassText (codes "<init>")
legal_init = legal (codes "<init>") refl refl

legal_m : IsClassText (codes "m")
legal_m = legal (codes "m") refl refl

legal_main : IsClassText (codes "main")
legal_main = legal (codes "main") refl refl

legal_v : IsClassText (codes "v")
legal_v = legal (codes "v") refl refl

field_formed : IsFieldFormed a_pool (record { flags = 0; name = 7; desc = 8; constant = 0 })
unfolding text_at is_constant_formed
field_formed = record { name = (legal_v.0, refl); desc = (record { dims = 0; base = desc_bases.Int }, ((lit≤ tt, tt), refl)); constant = refl }

void_desc : MethodDesc
void_desc = record { params = []; result = None }

init_formed : IsMethodFormed a_pool (slice_index_or a_methods 0 face_method)
unfolding text_at is_plain has_its_code
init_formed = record {
  name = method_text (codes "<init>") legal_init refl;
  desc = (record { params = []; result = None }, is_void_desc);
  plain = refl;
  initialiser = λ e. record { not_static = refl; not_abstract = refl; void = (record { params = []; result = None }, is_void_desc, refl) };
  code = refl;
}

m_formed : IsMethodFormed a_pool (slice_index_or a_methods 1 face_method)
unfolding text_at is_plain has_its_code
m_formed = record { name = method_text (codes "m") legal_m refl; desc = (int_desc, is_int_desc); plain = refl; initialiser = λ e. absurd cc; code = refl }

main_formed : IsMethodFormed a_pool (slice_index_or a_methods 2 face_method)
unfolding text_at is_plain has_its_code
main_formed = record { name = method_text (codes "main") legal_main refl; desc = (int_desc, is_int_desc); plain = refl; initialiser = λ e. absurd cc; code = refl }

face_method_formed : IsMethodFormed face_parts.pool face_method
unfolding text_at is_plain has_its_code
face_method_formed = record { name = method_text (codes "m") legal_m refl; desc = (int_desc, is_int_desc); plain = refl; initialiser = λ e. absurd cc; code = refl }

-- the pairs of a list of at most three
no_pairs : {X : Type 0} (R : X → X → Type 0) (xs : List X) → length xs ≤ 1 → AllPairs R xs
no_pairs R xs few i j d l m = absurd (omega (arith, few, l, m))

apart : AllPairs (λ (m n : Method). AreApart a_pool m.name m.desc n.name n.desc) a_methods
unfolding text_at
apart zero (suc zero) d l m = λ p. absurd cc
apart zero (suc (suc zero)) d l m = λ p. absurd cc
apart (suc zero) (suc (suc zero)) d l m = λ p. absurd cc
apart i (suc (suc (suc j))) d l m = absurd (omega (arith, m))
apart i zero d l m = absurd (omega (arith, l))
apart (suc i) (suc zero) d l m = absurd (omega (arith, l))
apart (suc (suc i)) (suc (suc zero)) d l m = absurd (omega (arith, l))

a_formed : IsFormed a_parts
unfolding text_at
a_formed = record {
  entries = pool_formed a_pool a_pool_formed;
  this = legal_a;
  above = legal_object;
  interfaces = all_of_one (Rattle.nr_prog.specs.Form.NamesClass a_pool) 6 legal_face;
  fields = all_of_one (IsFieldFormed a_pool) (record { flags = 0; name = 7; desc = 8; constant = 0 }) field_formed;
  apart_fields = no_pairs (λ (f g : Field). AreApart a_pool f.name f.desc g.name g.desc) a_parts.fields (lit≤ tt);
  methods = All-from_recursion (IsMethodFormed a_pool) a_methods (init_formed, (m_formed, (main_formed, tt)));
  apart_methods = apart;
}

face_formed : IsFormed face_parts
unfolding text_at
face_formed = record {
  entries = pool_formed face_parts.pool face_pool_formed;
  this = legal_face;
  above = legal_object;
  interfaces = All-nil (Rattle.nr_prog.specs.Form.NamesClass face_parts.pool);
  fields = All-nil (IsFieldFormed face_parts.pool);
  apart_fields = no_pairs (λ (f g : Field). AreApart face_parts.pool f.name f.desc g.name g.desc) face_parts.fields (lit≤ tt);
  methods = all_of_one (IsMethodFormed face_parts.pool) face_method face_method_formed;
  apart_methods = no_pairs (λ (m n : Method). AreApart face_parts.pool m.name m.desc n.name n.desc) face_parts.methods (lit≤ tt);
}

-- ---- instructions

-- one without operands
bare : (at : ℕ) (r : Row) → Rattle.nr_prog.specs.BodyOperands.row_of r.code ≡ Some r → Rattle.nr_prog.specs.BodyOperands.operands a_pool r at r.shape Empty [] → IsInstr a_pool at (instr at r Empty) (r.code ∷ [])
bare at r listed plain = record { placed = refl; listed = listed; spelled = ([], refl, plain) }

-- one with an index below 256
indexed : (at : ℕ) (r : Row) (index : ℕ) → Rattle.nr_prog.specs.BodyOperands.row_of r.code ≡ Some r → Rattle.nr_prog.specs.BodyOperands.operands a_pool r at r.shape (Pool index) (0 ∷ index ∷ []) → IsInstr a_pool at (instr at r (Pool index)) (r.code ∷ 0 ∷ index ∷ [])
indexed at r index listed plain = record { placed = refl; listed = listed; spelled = (0 ∷ index ∷ [], refl, plain) }

calls_14 : IsInstr a_pool 1 (instr 1 invokespecial (Pool 14)) (0xB7 ∷ 0 ∷ 14 ∷ [])
unfolding all_rows text_at class_text_at
calls_14 = indexed 1 invokespecial 14 refl (record { value = 14; front = 0 ∷ 14 ∷ []; back = []; first = (lit< tt, refl); second = (legal_object.0, (refl, refl)); whole = refl })

gets_10 : IsInstr a_pool 1 (instr 1 getfield (Pool 10)) (0xB4 ∷ 0 ∷ 10 ∷ [])
unfolding all_rows text_at class_text_at
gets_10 = indexed 1 getfield 10 refl (record { value = 10; front = 0 ∷ 10 ∷ []; back = []; first = (lit< tt, refl); second = (legal_a.0, (refl, refl)); whole = refl })

makes_2 : IsInstr a_pool 0 (instr 0 new_ (Pool 2)) (0xBB ∷ 0 ∷ 2 ∷ [])
unfolding all_rows text_at class_text_at
makes_2 = indexed 0 new_ 2 refl (record { value = 2; front = 0 ∷ 2 ∷ []; back = []; first = (lit< tt, refl); second = (legal_a.0, (refl, refl)); whole = refl })

calls_15 : IsInstr a_pool 4 (instr 4 invokespecial (Pool 15)) (0xB7 ∷ 0 ∷ 15 ∷ [])
unfolding all_rows text_at class_text_at
calls_15 = indexed 4 invokespecial 15 refl (record { value = 15; front = 0 ∷ 15 ∷ []; back = []; first = (lit< tt, refl); second = (legal_a.0, (refl, refl)); whole = refl })

calls_19 : IsInstr a_pool 7 (instr 7 invokeinterface (Pool 19)) (0xB9 ∷ 0 ∷ 19 ∷ 1 ∷ 0 ∷ [])
unfolding all_rows text_at class_text_at desc_text_at int_desc
calls_19 = record {
  placed = refl;
  listed = refl;
  spelled = (
    0 ∷ 19 ∷ 1 ∷ 0 ∷ [],
    refl,
    record {
      value = 19;
      front = 0 ∷ 19 ∷ [];
      back = 1 ∷ 0 ∷ [];
      first = (lit< tt, refl);
      second = record {
        value = 1;
        front = 1 ∷ [];
        back = 0 ∷ [];
        first = (lit< tt, refl);
        second = record {
          value = 0;
          front = 0 ∷ [];
          back = [];
          first = (lit< tt, refl);
          second = (((legal_face.0, (int_desc, is_int_desc, refl)), refl), (refl, refl));
          whole = refl;
        };
        whole = refl;
      };
      whole = refl;
    },
  );
}

-- ---- bodies

init_is : IsBody a_parts (slice_index_or a_methods 0 face_method) (code_of 1 1 (0x2A ∷ 0xB7 ∷ 0 ∷ 14 ∷ 0xB1 ∷ []) [] None) init_body
unfolding all_rows is_start
init_is = record {
  instrs = (_, _, bare 0 aload_0 refl (refl, refl), (_, _, calls_14, (_, _, bare 4 return_ refl (refl, refl), refl, refl), refl), refl);
  targets = All-from_recursion (HasTargets init_body.instrs) init_body.instrs (refl, (refl, (refl, tt)));
  handlers = refl;
  ranges = All-nil (IsHandler a_pool 5 init_body.instrs);
  maps = refl;
}

m_is : IsBody a_parts (slice_index_or a_methods 1 face_method) (code_of 1 1 (0x2A ∷ 0xB4 ∷ 0 ∷ 10 ∷ 0xAC ∷ []) [] None) m_body
unfolding all_rows is_start
m_is = record {
  instrs = (_, _, bare 0 aload_0 refl (refl, refl), (_, _, gets_10, (_, _, bare 4 ireturn refl (refl, refl), refl, refl), refl), refl);
  targets = All-from_recursion (HasTargets m_body.instrs) m_body.instrs (refl, (refl, (refl, tt)));
  handlers = refl;
  ranges = All-nil (IsHandler a_pool 5 m_body.instrs);
  maps = refl;
}

handler_is : IsHandler a_pool 16 main_body.instrs handler
unfolding is_start text_at class_text_at
handler_is = record { start = refl; end = inl refl; order = lit< tt; handler = refl; catches = inr legal_throwable.0 }

main_entry : IsEntry a_parts (slice_index_or a_methods 2 face_method) []
unfolding class_text_at text_at spells int_desc
main_entry = record { this = record { dims = 0; base = desc_bases.Object (codes "A") }; desc = int_desc; class = inl (refl, legal_a); spelled = is_int_desc; are = refl }

caught : Desc
caught = record { dims = 0; base = desc_bases.Object (codes "java/lang/Throwable") }

main_types : frame_types a_pool main_body.instrs 77 [] ([], map_types.Object caught ∷ []) (7 ∷ 0 ∷ 22 ∷ [])
unfolding class_text_at text_at caught
main_types = record {
  value = map_types.Object caught;
  front = 7 ∷ 0 ∷ 22 ∷ [];
  back = [];
  first = record {
    value = 7;
    front = 7 ∷ [];
    back = 0 ∷ 22 ∷ [];
    first = (lit< tt, refl);
    second = record { value = 22; front = 0 ∷ 22 ∷ []; back = []; first = (lit< tt, refl); second = (caught, inl (refl, legal_throwable), (refl, refl)); whole = refl };
    whole = refl;
  };
  second = (refl, refl);
  whole = refl;
}

main_frames : frame a_pool main_body.instrs (at_entry []) (with_map [] 13 ([], map_types.Object caught ∷ [])) (0x4D ∷ 7 ∷ 0 ∷ 22 ∷ [])
unfolding is_start
main_frames = record {
  value = 0x4D;
  front = 0x4D ∷ [];
  back = 7 ∷ 0 ∷ 22 ∷ [];
  first = (lit< tt, refl);
  second = (
    (refl, lit≤ tt),
    record {
      value = 13;
      front = [];
      back = 7 ∷ 0 ∷ 22 ∷ [];
      first = (refl, refl);
      second = (refl, record { value = ([], map_types.Object caught ∷ []); front = 7 ∷ 0 ∷ 22 ∷ []; back = []; first = main_types; second = (refl, refl); whole = refl });
      whole = refl;
    },
  );
  whole = refl;
}

main_maps : IsMapped a_parts (slice_index_or a_methods 2 face_method) main_body.instrs (Some (0 ∷ 1 ∷ 0x4D ∷ 7 ∷ 0 ∷ 22 ∷ [])) main_body.maps
unfolding caught
main_maps = (
  [],
  with_map [] 13 ([], map_types.Object caught ∷ []),
  main_entry,
  record {
    value = 1;
    front = 0 ∷ 1 ∷ [];
    back = 0x4D ∷ 7 ∷ 0 ∷ 22 ∷ [];
    first = (lit< tt, refl);
    second = record { value = with_map [] 13 ([], map_types.Object caught ∷ []); front = 0x4D ∷ 7 ∷ 0 ∷ 22 ∷ []; back = []; first = main_frames; second = (refl, refl); whole = refl };
    whole = refl;
  },
  refl,
)

main_is : IsBody a_parts (slice_index_or a_methods 2 face_method) main_code main_body
unfolding all_rows is_start
main_is = record {
  instrs = (_, _, makes_2, (_, _, bare 3 dup refl (refl, refl), (_, _, calls_15, (_, _, calls_19, (_, _, bare 12 ireturn refl (refl, refl), (_, _, bare 13 pop refl (refl, refl), (_, _, bare 14 iconst_0 refl (refl, refl), (_, _, bare 15 ireturn refl (refl, refl), refl, refl), refl), refl), refl), refl), refl), refl), refl);
  targets = All-from_recursion (HasTargets main_body.instrs) main_body.instrs (refl, (refl, (refl, (refl, (refl, (refl, (refl, (refl, tt))))))));
  handlers = refl;
  ranges = all_of_one (IsHandler a_pool 16 main_body.instrs) handler handler_is;
  maps = main_maps;
}

-- ---- the classes

-- a test of each element
by_test : {X : Type 0} (f : X → ℕ) (n : ℕ) (xs : List X) → IsTrue (list_all (λ x. nat_le (f x) n) xs) → All (λ x. f x ≤ n) xs
by_test f n [] p i d l = absurd (omega arith)
by_test f n (x ∷ xs) p zero d l = leb-true (f x) n (and_parts (nat_le (f x) n) (list_all (λ x. nat_le (f x) n) xs) p).0
by_test f n (x ∷ xs) p (suc i) d l = by_test f n xs (and_parts (nat_le (f x) n) (list_all (λ x. nat_le (f x) n) xs) p).1 i d (omega arith)

short_texts : (pool : List PoolEntry) → All (λ e. text_len e ≤ 65535) pool → All (λ e. text_len e < 2 ^ 16) pool
short_texts pool all i d l = let few = all i d l in omega (arith, few)

a_bounds : IsWithinBounds a_parts
a_bounds = record {
  pool = lit< tt;
  texts = short_texts a_pool (by_test text_len 65535 a_pool refl);
  methods = lit≤ tt;
  handlers = by_test (λ (m : Method). handler_count m.code) 65536 a_methods refl;
}

face_bounds : IsWithinBounds face_parts
face_bounds = record {
  pool = lit< tt;
  texts = short_texts face_parts.pool (by_test text_len 65535 face_parts.pool refl);
  methods = lit≤ tt;
  handlers = by_test (λ (m : Method). handler_count m.code) 65536 face_parts.methods refl;
}

decoded_a : IsDecoded a_loaded
decoded_a = record { formed = a_formed; bounds = a_bounds; bodies = ((init_body, refl, init_is), ((m_body, refl, m_is), ((main_body, refl, main_is), tt))) }

decoded_face : IsDecoded face_loaded
decoded_face = record { formed = face_formed; bounds = face_bounds; bodies = (refl, tt) }

pub decoded : All IsDecoded loaded
unfolding loaded
decoded = All-from_recursion IsDecoded (a_loaded ∷ face_loaded ∷ []) (decoded_a, (decoded_face, tt))
