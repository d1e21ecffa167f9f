-- Classes as types, and the frame at a method's entry.
use Rattle.std.proofs.Common.{◌≡◌, ℕ, cond, List, [], ◌∷◌, ◌++◌, map, Option, Some, None, Ok, inl, refl, sym, ap, subst, ◌∙◌}
use Rattle.std.specs.Prelude.{IsSomeAnd}
use Rattle.std.specs.Option.{option_map_or}
use Rattle.std.specs.List.{All}
use Rattle.nr_base.specs.Grammar.{IsBytes, give}
use Rattle.nr_base.specs.Descs.{desc, method_desc}
use Rattle.nr_base.specs.DescReading.{method_of}
use Rattle.nr_base.specs.declared.desc.types.Desc.{Desc}
use Rattle.nr_base.specs.declared.desc.types.MethodDesc.{MethodDesc}
use Rattle.nr_base.proofs.Laws.{Reads, give_law, none_law, same_law}
use Rattle.nr_prog.specs.declared.pool.PoolEntry.{PoolEntry}
use Rattle.nr_prog.specs.declared.pool.PoolEntry.TheVariants.{Class}
use Rattle.nr_prog.specs.declared.member.Method.{Method}
use Rattle.nr_prog.specs.declared.parts.ClassParts.{ClassParts}
use Rattle.nr_prog.specs.declared.body.frame_map.MapType.{MapType}
use Rattle.nr_prog.specs.declared.body.frame_map.MapType.TheVariants as types
use Rattle.nr_prog.specs.Pool.{IsText, entry_at, text_at}
use Rattle.nr_prog.specs.Members.{is_static}
use Rattle.nr_prog.specs.Legal.{IsClassText, IsMethodDesc}
use Rattle.nr_prog.specs.Form.{IsFormed, IsMethodFormed, NamesClass}
use Rattle.nr_prog.specs.Form as form
use Rattle.nr_prog.specs.BodyNames.{class_text_in, class_text_at, NamesClassBy, object, IsClassOf}
use Rattle.nr_prog.specs.BodyMaps.{class_type, type_of, this_type, receiver, IsEntry}
use Rattle.nr_prog.proofs.LegalLaws.{of_class, method_only}
use Rattle.nr_prog.specs.TextForms.{class_desc}
use Rattle.nr_instrs.specs.NameTests.{class_desc_at}
use Rattle.nr_instrs.proofs.ClassDescs.{class_desc_is, class_desc_of}
use Rattle.nr_code.specs.MapReading.{class_given, types_of, params_of, receiver_of, entry_of}
use Rattle.nr_instrs.proofs.Facts.{class_bytes}

-- ---- the class that an index names

-- what is found exactly where P holds of it
pub record Finds (o : Option Desc) (P : Desc → Type 0) : Type 0 where
  pub is : (d : Desc) → o ≡ Some d → P d
  pub of : (d : Desc) → P d → o ≡ Some d

finds_in : (o : Option (List ℕ)) → ((t : List ℕ) → o ≡ Some t → IsBytes t) → Finds (option_map_or class_desc o None) (λ d. IsSomeAnd o (λ bytes. IsClassOf bytes d))
finds_in (Some t) fits = record { is = λ d e. class_desc_is t d (fits t refl) e; of = λ d h. class_desc_of t d h }
finds_in None fits = record { is = λ d e. absurd cc; of = λ d h. absurd h }

pub finds : (pool : List PoolEntry) (index : ℕ) → All IsText pool → Finds (class_desc_at pool index) (λ d. NamesClassBy (λ bytes. IsClassOf bytes d) pool index)
unfolding class_desc_at
finds pool index all = finds_in (class_text_at pool index) (λ t e. class_bytes pool index t all e)

given_law : (at : ℕ) (o : Option Desc) (P : Desc → Type 0) → Finds o P → Reads (class_given at o) (λ t text. (d : Desc) × P d × give (types.Object d) t text)
unfolding class_given
given_law at None P f = same_law (none_law _) (λ x t g. absurd g) (λ x t g. let e = f.of g.0 g.1 in absurd cc)
given_law at (Some d) P f = same_law (give_law (types.Object d)) (λ x t g. (d, f.is d refl, g)) (λ x t g. let e = f.of g.0 g.1 in let is : d ≡ g.0 = cc in subst (λ z. give (types.Object z) x t) (sym is) g.2)

pub class_type_law : (pool : List PoolEntry) (at index : ℕ) → All IsText pool → Reads (class_given at (class_desc_at pool index)) (class_type pool index)
class_type_law pool at index all = given_law at (class_desc_at pool index) (λ d. NamesClassBy (λ bytes. IsClassOf bytes d) pool index) (finds pool index all)

-- ---- the frame at entry

entry_at_once : (c : ClassParts) (m : Method) (this : Desc) (text : List ℕ) (md : MethodDesc) → class_desc_at c.pool c.this_class ≡ Some this → text_at c.pool m.desc ≡ Some text → method_of text ≡ Ok md
    → entry_of c m ≡ receiver c m this ++ map type_of md.params
unfolding entry_of receiver_of params_of
entry_at_once c m this text md named there reads =
    ap (λ o. cond (is_static m.flags) [] (option_map_or (λ d. this_type c m d ∷ []) o []) ++ option_map_or (λ t. types_of (method_of t)) (text_at c.pool m.desc) []) named
    ∙ ap (λ o. receiver c m this ++ option_map_or (λ t. types_of (method_of t)) o []) there
    ∙ ap (λ r. receiver c m this ++ types_of r) reads

some_of : {A : Type 0} (P : A → Type 0) (o : Option A) → IsSomeAnd o P → (x : A) × (o ≡ Some x) × P x
some_of P (Some x) h = (x, refl, h)
some_of P None h = absurd h

text_in_class : (pool : List PoolEntry) (o : Option PoolEntry) → IsSomeAnd o (form.IsClassOf pool) → (t : List ℕ) × (option_map_or (class_text_in pool) o None ≡ Some t) × IsClassText t
text_in_class pool (Some (Class name)) h = some_of IsClassText (text_at pool name) h
text_in_class pool (Some e) h = absurd h
text_in_class pool None h = absurd h

own_text : (pool : List PoolEntry) (index : ℕ) → NamesClass pool index → (t : List ℕ) × (class_text_at pool index ≡ Some t) × IsClassText t
unfolding class_text_at
own_text pool index h = text_in_class pool (entry_at pool index) h

put_in : {A : Type 0} (P : A → Type 0) (o : Option A) (x : A) → o ≡ Some x → P x → IsSomeAnd o P
put_in P o x e h = subst (λ o. IsSomeAnd o P) (sym e) h

pub entry_is : (c : ClassParts) (m : Method) → IsFormed c → All IsText c.pool → IsMethodFormed c.pool m → IsEntry c m (entry_of c m)
entry_is c m formed all method =
    let own = own_text c.pool c.this_class formed.this in
    let of_class : IsClassOf own.0 (object own.0) = inl (refl, own.2) in
    let names = put_in (λ bytes. IsClassOf bytes (object own.0)) (class_text_at c.pool c.this_class) own.0 own.1 of_class in
    let d = some_of IsMethodDesc (text_at c.pool m.desc) method.desc in
    record {
      this = object own.0;
      desc = d.2.0;
      class = names;
      spelled = put_in (method_desc d.2.0) (text_at c.pool m.desc) d.0 d.1 d.2.1;
      are = entry_at_once c m (object own.0) d.0 d.2.0 ((finds c.pool c.this_class all).of (object own.0) names) d.1 (method_only d.0 d.2.0 d.2.1);
    }

pub entry_of_is : (c : ClassParts) (m : Method) (locals : List MapType) → All IsText c.pool → IsEntry c m locals → locals ≡ entry_of c m
entry_of_is c m locals all e =
    let d = some_of (method_desc e.desc) (text_at c.pool m.desc) e.spelled in
    e.are ∙ sym (entry_at_once c m e.this d.0 e.desc ((finds c.pool c.this_class all).of e.this e.class) d.1 (method_only d.0 e.desc d.2))
