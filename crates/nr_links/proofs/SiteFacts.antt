-- Each instruction has the facts that typing takes of it.
use Rattle.std.proofs.Common.{◌≡◌, ℕ, zero, suc, ◌≤◌, inl, inr, true, false, List, [], ◌∷◌, ◌++◌, length, replicate, refl, sym, ap, subst, ◌∙◌, arith}
use Rattle.std.specs.Prelude.{Option, Some, None, IsTrue, IsSomeAnd}
use Rattle.std.specs.Option.{option_map_or}
use Rattle.std.proofs.lemmas.Bool.{eqb-true, ltb-true, or_right}
use Rattle.std.proofs.lemmas.Option.{same_Some}
use Rattle.nr_base.specs.LegalNames.{class_from}
use Rattle.nr_base.specs.declared.desc.types.Desc.{Desc}
use Rattle.nr_base.specs.Descs.{base_text, desc}
use Rattle.nr_base.proofs.ClassNames.{class_only}
use Rattle.nr_optable.specs.declared.table.Family.{Family}
use Rattle.nr_optable.specs.declared.table.Family.TheVariants.{F8, F32, F33, F34}
use Rattle.nr_optable.specs.declared.table.Kinds.{Kinds}
use Rattle.nr_optable.specs.declared.table.Kinds.TheVariants.{Letters}
use Rattle.nr_optable.specs.declared.table.Letter.{Letter}
use Rattle.nr_optable.specs.declared.table.Letter.TheVariants.{I, J}
use Rattle.nr_optable.specs.declared.table.Row.{Row}
use Rattle.nr_optable.specs.Rows.{all_rows}
use Rattle.nr_prog.specs.declared.body.instruction.Args.TheVariants.{Dims}
use Rattle.nr_prog.specs.declared.body.instruction.Instr.{Instr}
use Rattle.nr_prog.specs.declared.pool.PoolEntry.{PoolEntry}
use Rattle.nr_prog.specs.declared.pool.PoolEntry.TheVariants.{Integer, InterfaceMethodRef, Long, MethodRef}
use Rattle.nr_prog.specs.BodyNames.{IsArrayOf, IsClassOf, IsComponent, IsConstant, IsUsed, class_text_at, is_of_long}
use Rattle.nr_prog.specs.BodyOperands.{operands, row_of}
use Rattle.nr_prog.specs.Legal.{IsClassText}
use Rattle.nr_prog.specs.Pool.{entry_at}
use Rattle.nr_linked.specs.declared.program.kind.Base.{Base}
use Rattle.nr_linked.specs.declared.program.kind.Base.TheVariants as bases
use Rattle.nr_linked.specs.declared.program.kind.Kind.{Kind}
use Rattle.nr_linked.specs.declared.program.tables.ProgramTables.{ProgramTables}
use Rattle.nr_linked.specs.declared.program.tables.Resolved.{Resolved}
use Rattle.nr_linked.specs.declared.program.tables.Resolved.TheVariants as resolved
use Rattle.nr_linked.proofs.Components.{components_same}
use Rattle.nr_linked.specs.Kinds.{class_in, class_kind}
use Rattle.nr_linked.specs.KindTexts.{kind_desc}
use Rattle.nr_linked.specs.Linked.{Linked, is_class_in, is_kind_in}
use Rattle.nr_linked.specs.Subtypes.{admits_arrays, admits_any, is_above, is_assignable, is_base_assignable}
use Rattle.nr_linked.specs.TypingChecks.{letters_of}
use Rattle.nr_linked.specs.TypingFacts.{has_constant, is_constant, is_makeable, is_shaped}
use Rattle.nr_links.specs.Found.{IsCallFound, IsConstantFound, IsFound, IsFoundAt, IsFoundBy, IsMethodFound, index_in}
use Rattle.nr_links.specs.Named.{NamesKind}
use Rattle.nr_links.proofs.Descriptors.{one_desc}
use Rattle.nr_links.proofs.Instructions.{HasText, is_pool_shape, constant_row, counts, dims_shape, is_one_constant, mul_row, row_listed, shaped, uses}
use Rattle.nr_linked.proofs.Elements.{get_below, some_of}
use Rattle.nr_linked.proofs.Ascents.{itself_above}

-- ---- a kind of the program goes where it is wanted itself

base_itself : (P : ProgramTables) → Linked P → (b : Base) → IsTrue (option_map_or (is_class_in P) (class_in b) true) → IsTrue (is_base_assignable P b b)
base_itself P linked (bases.Object c) p =
    let e = get_below P.classes c (ltb-true c (length P.classes) p) in
    or_right (admits_any P c) (is_above P c c) (itself_above P linked c e.0 e.1)
base_itself P linked bases.Bool p = refl
base_itself P linked bases.Byte p = refl
base_itself P linked bases.Char p = refl
base_itself P linked bases.Short p = refl
base_itself P linked bases.Int p = refl
base_itself P linked bases.Long p = refl

pub kind_itself : (P : ProgramTables) → Linked P → (k : Kind) → IsTrue (is_kind_in P k) → IsTrue (is_assignable P k k)
kind_itself P linked k p = components_same (is_base_assignable P) (admits_arrays P) k.dims k.base k.dims k.base refl ∙ base_itself P linked k.base p

-- ---- what an index names

-- the name of a class is no array's descriptor
bracket : (b : List ℕ) (n : ℕ) → 1 ≤ n → IsTrue (class_from false (replicate n 0x5B ++ b)) → ⊥
bracket b zero l p = omega arith
bracket b (suc n) l p = cc

pub array_name : (d : Desc) (bytes : List ℕ) → desc d bytes → 1 ≤ d.dims → IsClassText bytes → ⊥
array_name d bytes is l name = bracket (base_text d.base) d.dims l (subst (λ t. IsTrue (class_from false t)) is.1 (class_only bytes name.1))

-- the kind that is named has the dimensions of the array's descriptor
array_named : (P : ProgramTables) (pool : List PoolEntry) (index n : ℕ) (k : Kind) → NamesKind P pool index k → IsSomeAnd (class_text_at pool index) (IsArrayOf n) → (1 ≤ n) × (n ≤ k.dims)
array_named P pool index n k named array = of_text (class_text_at pool index) named.text array
  where
    of_text : (o : Option (List ℕ)) → IsSomeAnd o (λ bytes. IsClassOf bytes (kind_desc P k)) → IsSomeAnd o (IsArrayOf n) → (1 ≤ n) × (n ≤ k.dims)
    of_text None c a = absurd c
    of_text (Some bytes) (inl c) a = let l = a.2 in let m = a.3 in absurd (array_name a.0 bytes a.1 (omega (arith, l, m)) c.1)
    of_text (Some bytes) (inr c) a =
        let same = ap (λ (d : Desc). d.dims) (one_desc a.0 (kind_desc P k) bytes a.1 c.0) in
        let m = a.3 in
        (a.2, omega (arith, m, same))

component_named : (P : ProgramTables) (pool : List PoolEntry) (index : ℕ) (k : Kind) → NamesKind P pool index k → IsSomeAnd (class_text_at pool index) IsComponent → k.dims ≤ 254
component_named P pool index k named component = of_text (class_text_at pool index) named.text component
  where
    of_text : (o : Option (List ℕ)) → IsSomeAnd o (λ bytes. IsClassOf bytes (kind_desc P k)) → IsSomeAnd o IsComponent → k.dims ≤ 254
    of_text None c a = absurd c
    of_text (Some bytes) (inl c) a = let none = ap (λ (d : Desc). d.dims) c.0 in omega (arith, none)
    of_text (Some bytes) (inr c) a = let few = c.0.0.0 in less k.dims few (a.1 (kind_desc P k) c.0)
      where
        less : (n : ℕ) → n ≤ 255 → (n ≡ 255 → ⊥) → n ≤ 254
        less n l apart = grind arith

-- ---- what was found

-- where a class was found, an index names it
kind_found : (P : ProgramTables) (own : ℕ) (pool : List PoolEntry) (i : Instr) (k : Kind) → IsFound P own pool i (resolved.Kind k) → (index : ℕ) × (index_in i.args ≡ Some index) × IsFoundBy P own i.row.code pool index (resolved.Kind k) i.row.family
kind_found P own pool i k f = of_option (index_in i.args) refl f
  where
    of_option : (o : Option ℕ) → index_in i.args ≡ o → IsFoundAt P own pool i (resolved.Kind k) o → (index : ℕ) × (index_in i.args ≡ Some index) × IsFoundBy P own i.row.code pool index (resolved.Kind k) i.row.family
    of_option None e f = absurd cc
    of_option (Some index) e f = (index, e, f)

same_kind : (j k : Kind) → resolved.Kind j ≡ resolved.Kind k → j ≡ k
same_kind j k e = cc

pub made : (P : ProgramTables) (own : ℕ) (pool : List PoolEntry) (i : Instr) (k : Kind) → IsFound P own pool i (resolved.Kind k) → i.row.family ≡ F33 → (c : ℕ) × (k ≡ class_kind c) × IsTrue (is_makeable P c)
made P own pool i k f e =
    let r = kind_found P own pool i k f in
    let m = subst (IsFoundBy P own i.row.code pool r.0 (resolved.Kind k)) e r.2 in
    (m.made, same_kind k (class_kind m.made) m.found, m.makeable)

-- the kind that an instruction of arrays names
array_found : (P : ProgramTables) (own : ℕ) (pool : List PoolEntry) (i : Instr) (k : Kind) (index : ℕ) → IsFound P own pool i (resolved.Kind k) → i.row.family ≡ F34 → index_in i.args ≡ Some index → NamesKind P pool index k
array_found P own pool i k index f e named =
    let r = kind_found P own pool i k f in
    let same : r.0 ≡ index = same_Some r.0 index (sym r.1 ∙ named) in
    let m = subst (IsFoundBy P own i.row.code pool r.0 (resolved.Kind k)) e r.2 in
    subst (λ n. NamesKind P pool n k) same (subst (NamesKind P pool r.0) (sym (same_kind k m.kind m.found)) m.names)

pub dimensions : (P : ProgramTables) (own : ℕ) (pool : List PoolEntry) (i : Instr) (index n : ℕ) (k : Kind) → HasText pool i → IsFound P own pool i (resolved.Kind k) → i.args ≡ Dims index n → (1 ≤ n) × (n ≤ k.dims)
dimensions P own pool i index n k t f e =
    let operands_text = t.2.spelled.2 in
    let shape = dims_shape i.row.shape index n (subst (λ a. IsTrue (is_shaped i.row.shape a)) e (shaped pool i.row t.0 i.row.shape i.args t.2.spelled.0 operands_text)) in
    let c = counts pool i.row t.0 i.args t.2.spelled.0 (subst (λ s. operands pool i.row t.0 s i.args t.2.spelled.0) shape operands_text) in
    let both = sym e ∙ c.is in
    let same_index : c.index ≡ index = cc in
    let same_count : c.count ≡ n = cc in
    let named = array_found P own pool i k index f (mul_row i.row (row_listed pool i t) shape) (ap index_in e) in
    array_named P pool index n k named (subst (λ n. IsSomeAnd (class_text_at pool index) (IsArrayOf n)) same_count (subst (λ m. IsSomeAnd (class_text_at pool m) (IsArrayOf c.count)) same_index c.named))

row_189 : (r : Row) → row_of 189 ≡ Some r → (r.family ≡ F34) × IsTrue (is_pool_shape r.shape)
unfolding all_rows
row_189 r e = let p = same_Some _ r e in (sym (ap (λ (r : Row). r.family) p), sym (ap (λ (r : Row). is_pool_shape r.shape) p))

pub elements : (P : ProgramTables) (own : ℕ) (pool : List PoolEntry) (i : Instr) (k : Kind) → HasText pool i → IsFound P own pool i (resolved.Kind k) → i.row.code ≡ 189 → k.dims ≤ 254
elements P own pool i k t f e =
    let r = row_189 i.row (subst (λ c. row_of c ≡ Some i.row) e t.2.listed) in
    let u = uses pool i.row t.0 i.row.shape i.args t.2.spelled.0 r.1 t.2.spelled.2 in
    component_named P pool u.index k (array_found P own pool i k u.index f r.0 (ap index_in u.is)) (subst (λ g. IsUsed pool g i.row.pushes u.index) r.0 u.used)

-- ---- constants

one_constant : (pool : List PoolEntry) (kinds : Kinds) (e : PoolEntry) (r : Resolved) → IsTrue (is_one_constant kinds) → IsConstant pool (is_of_long kinds) e → IsConstantFound r e → IsTrue (is_constant (letters_of kinds) r)
one_constant pool (Letters n I second third) (Integer v) r p c f =
    subst (λ n. IsTrue (is_constant (letters_of (Letters n I second third)) r)) (sym (eqb-true n 1 p)) (subst (λ r. IsTrue (is_constant (I ∷ []) r)) (sym f) refl)
one_constant pool (Letters n J second third) (Long v) r p c f =
    subst (λ n. IsTrue (is_constant (letters_of (Letters n J second third)) r)) (sym (eqb-true n 1 p)) (subst (λ r. IsTrue (is_constant (J ∷ []) r)) (sym f) refl)
one_constant pool (Letters n I second third) (Long v) r p c f = absurd c.0
one_constant pool (Letters n J second third) (Integer v) r p c f = absurd c.0
one_constant pool (Letters n I second third) e r p c f = absurd f
one_constant pool (Letters n J second third) e r p c f = absurd f
one_constant pool kinds e r p c f = absurd cc

constant_of : (P : ProgramTables) (own : ℕ) (pool : List PoolEntry) (i : Instr) (r : Resolved) → HasText pool i → IsFound P own pool i r → i.row.family ≡ F8 → IsTrue (is_constant (letters_of i.row.pushes) r)
constant_of P own pool i r t f e =
    let fit = constant_row i.row (row_listed pool i t) e in
    let u = uses pool i.row t.0 i.row.shape i.args t.2.spelled.0 fit.0 t.2.spelled.2 in
    let by = subst (IsFoundBy P own i.row.code pool u.index r) e (subst (λ o. IsFoundAt P own pool i r o) (ap index_in u.is) f) in
    let used = subst (λ g. IsUsed pool g i.row.pushes u.index) e u.used in
    let a = some_of (IsConstantFound r) (entry_at pool u.index) by in
    let b = some_of (IsConstant pool (is_of_long i.row.pushes)) (entry_at pool u.index) used in
    one_constant pool i.row.pushes a.0 r fit.1 (subst (IsConstant pool (is_of_long i.row.pushes)) (same_Some b.0 a.0 (sym b.1 ∙ a.1)) b.2) a.2

by_family : (f : Family) (ls : List Letter) (r : Resolved) → (f ≡ F8 → IsTrue (is_constant ls r)) → IsTrue (has_constant f ls r)
by_family F8 ls r h = h refl
by_family f ls r h = refl

pub constant : (P : ProgramTables) (own : ℕ) (pool : List PoolEntry) (i : Instr) (r : Resolved) → HasText pool i → IsFound P own pool i r → IsTrue (has_constant i.row.family (letters_of i.row.pushes) r)
constant P own pool i r t f = by_family i.row.family (letters_of i.row.pushes) r (constant_of P own pool i r t f)

-- ---- calls

pub record Called (P : ProgramTables) (own code : ℕ) (pool : List PoolEntry) (r : Resolved) : Type 0 where
  pub named : ℕ
  pub member : ℕ
  pub call : IsCallFound P own code pool named member r

entry_called : (P : ProgramTables) (own code : ℕ) (pool : List PoolEntry) (r : Resolved) (e : PoolEntry) → IsMethodFound P own code pool r e → Called P own code pool r
entry_called P own code pool r (MethodRef named member) f = record { named = named; member = member; call = f }
entry_called P own code pool r (InterfaceMethodRef named member) f = record { named = named; member = member; call = f }
entry_called P own code pool r e f = absurd f

pub called : (P : ProgramTables) (own : ℕ) (pool : List PoolEntry) (i : Instr) (n c : ℕ) → IsFound P own pool i (resolved.Method n c) → i.row.family ≡ F32 → Called P own i.row.code pool (resolved.Method n c)
called P own pool i n c f e = of_option (index_in i.args) f
  where
    of_option : (o : Option ℕ) → IsFoundAt P own pool i (resolved.Method n c) o → Called P own i.row.code pool (resolved.Method n c)
    of_option None f = absurd cc
    of_option (Some index) f =
        let by = subst (IsFoundBy P own i.row.code pool index (resolved.Method n c)) e f in
        let r = some_of (IsMethodFound P own i.row.code pool (resolved.Method n c)) (entry_at pool index) by in
        entry_called P own i.row.code pool (resolved.Method n c) r.0 r.2
