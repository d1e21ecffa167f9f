-- What the rules on instructions give is what linking finds, for each instruction that a text of code spells.
use Rattle.std.proofs.Common.{◌≡◌, ℕ, zero, suc, Bool, true, false, List, [], ◌∷◌, refl, sym, ap, subst, ◌∙◌, arith, ◌&&◌, ◌||◌, not}
use Rattle.std.specs.Prelude.{All, Option, Some, None, Ok, Err, IsTrue, IsSomeAnd, Contains, if◌then◌else◌, nat_lt}
use Rattle.std.specs.List.{list_all}
use Rattle.std.specs.Option.{option_map_or}
use Rattle.std.proofs.lemmas.Bool.{and_parts, ltb-false}
use Rattle.std.proofs.lemmas.Option.{same_Some}
use Rattle.nr_optable.specs.declared.table.Family.{Family}
use Rattle.nr_optable.specs.declared.table.Family.TheVariants.{F8, F30, F31, F32, F33, F34, F37}
use Rattle.nr_optable.specs.declared.table.Kinds.{Kinds}
use Rattle.nr_optable.specs.declared.table.Row.{Row}
use Rattle.nr_optable.specs.declared.table.Shape.{Shape}
use Rattle.nr_optable.specs.declared.table.Shape.TheVariants as shapes
use Rattle.nr_optable.specs.Rows.{all_rows}
use Rattle.nr_prog.specs.declared.body.instruction.Args.{Args}
use Rattle.nr_prog.specs.declared.body.instruction.Args.TheVariants.{Dims, Pool}
use Rattle.nr_prog.specs.declared.body.instruction.Instr.{Instr}
use Rattle.nr_prog.specs.declared.pool.PoolEntry.{PoolEntry}
use Rattle.nr_prog.specs.declared.pool.PoolEntry.TheVariants.{FieldRef, Integer, InterfaceMethodRef, Long, MethodRef}
use Rattle.nr_prog.specs.BodyNames.{IsArrayOf, IsConstant, IsFieldRef, IsInterfaceRef, IsKept, IsMethodRef, IsUsed, class_text_at, is_of_long}
use Rattle.nr_prog.specs.BodyOperands.{operands}
use Rattle.nr_prog.specs.Pool.{IsText, entry_at, is_class, is_entry_formed, is_name_and_type, names}
use Rattle.nr_instrs.specs.Checks.{then_on}
use Rattle.nr_linked.specs.declared.program.kind.Base.{Base}
use Rattle.nr_linked.specs.declared.program.kind.Base.TheVariants as bases
use Rattle.nr_linked.specs.declared.program.kind.Kind.{Kind}
use Rattle.nr_linked.specs.declared.program.tables.ClassInfo.{ClassInfo}
use Rattle.nr_linked.specs.declared.program.tables.ProgramTables.{ProgramTables}
use Rattle.nr_linked.specs.declared.program.tables.Resolved.{Resolved}
use Rattle.nr_linked.specs.declared.program.tables.Resolved.TheVariants as resolved
use Rattle.nr_linked.specs.Kinds.{class_in, class_kind, is_array}
use Rattle.nr_linked.specs.Linked.{Linked}
use Rattle.nr_linked.specs.Programs.{class_at}
use Rattle.nr_linked.specs.TypingFacts.{is_makeable, is_shaped}
use Rattle.nr_links.specs.Found.{IsConstantFound, IsFieldFound, IsFound, IsFoundAt, IsFoundBy, IsKindFound, IsMadeFound, IsMethodFound, index_in}
use Rattle.nr_links.specs.Named.{NamesKind}
use Rattle.nr_links.proofs.Instructions.{HasText, counts, dims_shape, mul_row, row_listed, shaped, uses}
use Rattle.nr_linked.proofs.Elements.{some_of}
use Rattle.nr_linkrules.specs.declared.fault.LinkFault.{LinkFault}
use Rattle.nr_linkrules.specs.SiteRules.{Finding, Place, by_member, constant_found, found_by, instr_found, kind_at, made_found, method_found, slot_found}
use Rattle.nr_linkrules.proofs.Given.{call_is, first_then, slot_is}
use Rattle.nr_linkrules.proofs.Naming.{kind_is_named}

-- ---- what an index of the pool names, by the family of its instruction

abbrev IsCallRef : PoolEntry → Type 0
IsCallRef (MethodRef named member) = Unit {0}
IsCallRef (InterfaceMethodRef named member) = Unit {0}
IsCallRef e = ⊥

abbrev NamesClass : List PoolEntry → ℕ → Type 0
NamesClass pool index = IsSomeAnd (class_text_at pool index) (λ bytes. Unit {0})

abbrev Needed : List PoolEntry → Family → ℕ → Type 0
Needed pool F8 index = IsSomeAnd (entry_at pool index) IsKept
Needed pool F30 index = IsSomeAnd (entry_at pool index) (IsFieldRef pool)
Needed pool F31 index = IsSomeAnd (entry_at pool index) (IsFieldRef pool)
Needed pool F32 index = IsSomeAnd (entry_at pool index) IsCallRef
Needed pool F33 index = NamesClass pool index
Needed pool F34 index = NamesClass pool index
Needed pool F37 index = NamesClass pool index
Needed pool family index = Unit {0}

weaker : {X : Type 0} (A B : X → Type 0) (o : Option X) → ((x : X) → A x → B x) → IsSomeAnd o A → IsSomeAnd o B
weaker A B None h p = absurd p
weaker A B (Some x) h p = h x p

kept : (pool : List PoolEntry) (b : Bool) (e : PoolEntry) → IsConstant pool b e → IsKept e
kept pool true e p = p.1
kept pool false e p = p.1

of_method : (pool : List PoolEntry) (e : PoolEntry) → IsMethodRef pool e → IsCallRef e
of_method pool (MethodRef named member) p = tt
of_method pool e p = absurd p

of_interface : (pool : List PoolEntry) (count : ℕ) (e : PoolEntry) → IsInterfaceRef pool count e → IsCallRef e
of_interface pool count (InterfaceMethodRef named member) p = tt
of_interface pool count e p = absurd p

from_used : (pool : List PoolEntry) (f : Family) (pushes : Kinds) (index : ℕ) → IsUsed pool f pushes index → Needed pool f index
from_used pool F8 pushes index u = weaker (IsConstant pool (is_of_long pushes)) IsKept (entry_at pool index) (kept pool (is_of_long pushes)) u
from_used pool F30 pushes index u = u
from_used pool F31 pushes index u = u
from_used pool F32 pushes index u = weaker (IsMethodRef pool) IsCallRef (entry_at pool index) (of_method pool) u
from_used pool F33 pushes index u = weaker _ (λ bytes. Unit {0}) (class_text_at pool index) (λ x p. tt) u
from_used pool F34 pushes index u = weaker _ (λ bytes. Unit {0}) (class_text_at pool index) (λ x p. tt) u
from_used pool F37 pushes index u = weaker _ (λ bytes. Unit {0}) (class_text_at pool index) (λ x p. tt) u
from_used pool f pushes index u = tt

-- ---- invokeinterface alone has its shape

abbrev is_itf : Shape → Bool
is_itf shapes.Itf = true
is_itf shape = false

abbrev is_F32 : Family → Bool
is_F32 F32 = true
is_F32 family = false

rows_fit : IsTrue (list_all (λ (r : Row). not (is_itf r.shape) || is_F32 r.family) all_rows)
unfolding all_rows
rows_fit = refl

contains_passes : (f : Row → Bool) (rs : List Row) (r : Row) → IsTrue (list_all f rs) → Contains rs r → IsTrue (f r)
contains_passes f [] r p (k, l, e) = absurd (omega arith)
contains_passes f (x ∷ rs) r p (zero, l, e) = subst (λ r. IsTrue (f r)) e (and_parts (f x) (list_all f rs) p).0
contains_passes f (x ∷ rs) r p (suc k, l, e) = contains_passes f rs r (and_parts (f x) (list_all f rs) p).1 (k, omega arith, e)

of_F32 : (f : Family) → is_F32 f ≡ true → f ≡ F32
of_F32 F32 p = refl
of_F32 f p = absurd cc

itf_row : (r : Row) → Contains all_rows r → r.shape ≡ shapes.Itf → r.family ≡ F32
itf_row r c e = of_F32 r.family (implied (is_itf r.shape) (is_F32 r.family) (contains_passes (λ (r : Row). not (is_itf r.shape) || is_F32 r.family) all_rows r rows_fit c) (ap is_itf e))
  where
    implied : (a b : Bool) → (not a || b) ≡ true → a ≡ true → b ≡ true
    implied true b p q = p
    implied false b p q = absurd cc

-- ---- what the text of an instruction says of its index

record Uses (pool : List PoolEntry) (a : Args) : Type 0 where
  index : ℕ
  is : a ≡ Pool index
  named : IsSomeAnd (entry_at pool index) IsCallRef

calls : (pool : List PoolEntry) (r : Row) (at : ℕ) (a : Args) (text : List ℕ) → operands pool r at shapes.Itf a text → Uses pool a
calls pool r at a text g = record {
  index = g.value;
  is = g.second.second.second.1.0;
  named = weaker (IsInterfaceRef pool g.second.value) IsCallRef (entry_at pool g.value) (of_interface pool g.second.value) g.second.second.second.0.0;
}

same_index : (a : Args) (m n : ℕ) → a ≡ Pool m → index_in a ≡ Some n → m ≡ n
same_index a m n e f = same_Some m n (sym (ap index_in e) ∙ f)

-- the other shapes have no index
abbrev has_index : Shape → Bool
has_index shapes.P1 = true
has_index shapes.P2 = true
has_index shapes.Itf = true
has_index shapes.Mul = true
has_index shape = false

pool_shape : (shape : Shape) (index : ℕ) → IsTrue (is_shaped shape (Pool index)) → has_index shape ≡ true
pool_shape shapes.P1 index p = refl
pool_shape shapes.P2 index p = refl
pool_shape shapes.Itf index p = refl
pool_shape shape index p = absurd cc

no_index : (shape : Shape) (a : Args) (index : ℕ) → IsTrue (is_shaped shape a) → has_index shape ≡ false → index_in a ≡ Some index → ⊥
no_index shape (Pool n) index p none e = let has = pool_shape shape n p in absurd cc
no_index shape (Dims n count) index p none e = let has = ap has_index (dims_shape shape n count p) in absurd cc
no_index shape a index p none e = absurd cc

by_shape : (pool : List PoolEntry) (i : Instr) (at : ℕ) (text : List ℕ) (index : ℕ) (shape : Shape) → i.row.shape ≡ shape → Contains all_rows i.row → operands pool i.row at shape i.args text → index_in i.args ≡ Some index → Needed pool i.row.family index
by_shape pool i at text index shapes.P1 s c g e =
    let u = uses pool i.row at shapes.P1 i.args text refl g in
    subst (Needed pool i.row.family) (same_index i.args u.index index u.is e) (from_used pool i.row.family i.row.pushes u.index u.used)
by_shape pool i at text index shapes.P2 s c g e =
    let u = uses pool i.row at shapes.P2 i.args text refl g in
    subst (Needed pool i.row.family) (same_index i.args u.index index u.is e) (from_used pool i.row.family i.row.pushes u.index u.used)
by_shape pool i at text index shapes.Itf s c g e =
    let u = calls pool i.row at i.args text g in
    subst (λ f. Needed pool f index) (sym (itf_row i.row c s)) (subst (λ n. IsSomeAnd (entry_at pool n) IsCallRef) (same_index i.args u.index index u.is e) u.named)
by_shape pool i at text index shapes.Mul s c g e =
    let u = counts pool i.row at i.args text g in
    let same : u.index ≡ index = same_Some u.index index (sym (ap index_in u.is) ∙ e) in
    subst (λ f. Needed pool f index) (sym (mul_row i.row c s)) (subst (NamesClass pool) same (weaker (IsArrayOf u.count) (λ bytes. Unit {0}) (class_text_at pool u.index) (λ x p. tt) u.named))
by_shape pool i at text index shape s c g e = absurd (no_index shape i.args index (shaped pool i.row at shape i.args text g) refl e)

pub needed : (pool : List PoolEntry) (i : Instr) (index : ℕ) → HasText pool i → index_in i.args ≡ Some index → Needed pool i.row.family index
needed pool i index t e = by_shape pool i t.0 t.2.spelled.0 index i.row.shape refl (row_listed pool i t) t.2.spelled.2 e

-- ---- what is given is found

module _ (pool : List PoolEntry) (formed : (index : ℕ) (e : PoolEntry) → entry_at pool index ≡ Some e → IsTrue (is_entry_formed pool index e)) (all : All IsText pool)
    (P : ProgramTables) (linked : Linked P) (own : ℕ) (entry : ClassInfo) (own_is : class_at P own ≡ Some entry) where
  -- a reference to a member names a class and a name with a descriptor
  abbrev is_member_formed : PoolEntry → Bool
  is_member_formed (FieldRef named member) = names is_class pool named && names is_name_and_type pool member
  is_member_formed (MethodRef named member) = names is_class pool named && names is_name_and_type pool member
  is_member_formed (InterfaceMethodRef named member) = names is_class pool named && names is_name_and_type pool member
  is_member_formed e = true

  given : {A : Type 0} (x y : A) → ◌≡◌ {A = Finding A} (Ok x) (Ok y) → x ≡ y
  given x y e = cc

  member_formed : (index : ℕ) (e : PoolEntry) → entry_at pool index ≡ Some e → IsTrue (is_member_formed e)
  unfolding is_entry_formed
  member_formed index (FieldRef named member) at = formed index (FieldRef named member) at
  member_formed index (MethodRef named member) at = formed index (MethodRef named member) at
  member_formed index (InterfaceMethodRef named member) at = formed index (InterfaceMethodRef named member) at
  member_formed index e at = refl

  constant_is : (r : Resolved) (o : Option PoolEntry) → IsSomeAnd o IsKept → option_map_or constant_found o (Ok resolved.Nothing) ≡ Ok r → IsSomeAnd o (IsConstantFound r)
  constant_is r None p e = absurd p
  constant_is r (Some (Integer n)) p e = sym (given (resolved.Int n) r e)
  constant_is r (Some (Long n)) p e = sym (given (resolved.Long n) r e)
  constant_is r (Some x) p e = absurd p

  field_is : (p : Place) (here : p.own ≡ own) (index : ℕ) (r : Resolved) (o : Option PoolEntry) → entry_at pool index ≡ o → IsSomeAnd o (IsFieldRef pool) → option_map_or (by_member P pool (slot_found P p)) o (Ok resolved.Nothing) ≡ Ok r → IsSomeAnd o (IsFieldFound P pool r)
  field_is p here index r None at h e = absurd h
  field_is p here index r (Some (FieldRef named member)) at h e =
      let both = and_parts (names is_class pool named) (names is_name_and_type pool member) (member_formed index (FieldRef named member) at) in
      slot_is pool formed P linked own entry own_is all p here named member r both.0 both.1 e
  field_is p here index r (Some x) at h e = absurd h

  method_is : (p : Place) (here : p.own ≡ own) (code index : ℕ) (r : Resolved) (o : Option PoolEntry) → entry_at pool index ≡ o → IsSomeAnd o IsCallRef → option_map_or (by_member P pool (method_found P p code)) o (Ok resolved.Nothing) ≡ Ok r → IsSomeAnd o (IsMethodFound P own code pool r)
  method_is p here code index r None at h e = absurd h
  method_is p here code index r (Some (MethodRef named member)) at h e =
      let both = and_parts (names is_class pool named) (names is_name_and_type pool member) (member_formed index (MethodRef named member) at) in
      call_is pool formed P linked own entry own_is all p here code named member r both.0 both.1 e
  method_is p here code index r (Some (InterfaceMethodRef named member)) at h e =
      let both = and_parts (names is_class pool named) (names is_name_and_type pool member) (member_formed index (InterfaceMethodRef named member) at) in
      call_is pool formed P linked own entry own_is all p here code named member r both.0 both.1 e
  method_is p here code index r (Some x) at h e = absurd h

  -- ---- classes and arrays

  names_kind : (index : ℕ) (k : Kind) → NamesClass pool index → kind_at P pool index ≡ Ok k → NamesKind P pool index k
  names_kind index k h e = let t = some_of (λ bytes. Unit {0}) (class_text_at pool index) h in kind_is_named P pool all index t.0 k t.1 e

  kind_is : (index : ℕ) (r : Resolved) → NamesClass pool index → ◌≡◌ {A = Finding Resolved} (then_on (kind_at P pool index) (λ k. Ok (resolved.Kind k))) (Ok r) → IsKindFound P pool index r
  kind_is index r h e =
      let k = first_then (kind_at P pool index) (λ k. Ok (resolved.Kind k)) r e in
      record { kind = k.0; names = names_kind index k.0 h k.1; found = sym (given (resolved.Kind k.0) r k.2) }

  -- a kind that is no array and whose class can have objects is that class
  made_class : (k : Kind) → (not (is_array k) && option_map_or (is_makeable P) (class_in k.base) false) ≡ true → (c : ℕ) × (k ≡ class_kind c) × IsTrue (is_makeable P c)
  made_class k p =
      let both = and_parts (not (is_array k)) _ p in
      let b = of_base k.base both.1 in
      (b.0, (λ i. record { dims = no_dims k.dims both.0 i; base = b.1 i }), b.2)
    where
      of_not : (b : Bool) → not b ≡ true → b ≡ false
      of_not true p = absurd cc
      of_not false p = refl

      no_dims : (d : ℕ) → not (nat_lt 0 d) ≡ true → d ≡ 0
      no_dims d p = let le = ltb-false 0 d (of_not (nat_lt 0 d) p) in omega (arith, le)

      of_base : (b : Base) → option_map_or (is_makeable P) (class_in b) false ≡ true → (c : ℕ) × (b ≡ bases.Object c) × IsTrue (is_makeable P c)
      of_base (bases.Object c) p = (c, refl, p)
      of_base b p = absurd cc

  by_test : {A : Type 0} (b : Bool) (x y : A) (f : LinkFault) → ◌≡◌ {A = Finding A} (if b then Ok x else Err f) (Ok y) → (b ≡ true) × (x ≡ y)
  by_test true x y f e = (refl, cc)
  by_test false x y f e = absurd cc

  made_is : (p : Place) (index : ℕ) (r : Resolved) → NamesClass pool index → then_on (kind_at P pool index) (made_found P p) ≡ Ok r → IsMadeFound P pool index r
  made_is p index r h e =
      let k = first_then (kind_at P pool index) (made_found P p) r e in
      let test = by_test (not (is_array k.0) && option_map_or (is_makeable P) (class_in k.0.base) false) (resolved.Kind k.0) r _ k.2 in
      let c = made_class k.0 test.0 in
      record {
        made = c.0;
        names = subst (NamesKind P pool index) c.1 (names_kind index k.0 h k.1);
        makeable = c.2;
        found = sym test.1 ∙ ap (λ k. resolved.Kind k) c.1;
      }

  -- ---- each instruction

  found_is_by : (p : Place) (here : p.own ≡ own) (code index : ℕ) (r : Resolved) (f : Family) → Needed pool f index → found_by P p pool code index f ≡ Ok r → IsFoundBy P own code pool index r f
  found_is_by p here code index r F8 h e = constant_is r (entry_at pool index) h e
  found_is_by p here code index r F30 h e = field_is p here index r (entry_at pool index) refl h e
  found_is_by p here code index r F31 h e = field_is p here index r (entry_at pool index) refl h e
  found_is_by p here code index r F32 h e = method_is p here code index r (entry_at pool index) refl h e
  found_is_by p here code index r F33 h e = made_is p index r h e
  found_is_by p here code index r F34 h e = kind_is index r h e
  found_is_by p here code index r F37 h e = kind_is index r h e
  found_is_by p here code index r family h e = sym (given resolved.Nothing r e)

  pub given_is_found : (place : ℕ → Place) → ((at : ℕ) → (place at).own ≡ own) → (i : Instr) (r : Resolved) → HasText pool i → instr_found P place pool i ≡ Ok r → IsFound P own pool i r
  unfolding instr_found
  given_is_found place here i r t e = of_option (index_in i.args) refl e
    where
      of_option : (o : Option ℕ) → index_in i.args ≡ o → option_map_or (λ index. found_by P (place i.at) pool i.row.code index i.row.family) o (Ok resolved.Nothing) ≡ Ok r → IsFoundAt P own pool i r o
      of_option None is e = sym (given resolved.Nothing r e)
      of_option (Some index) is e = found_is_by (place i.at) (here i.at) i.row.code index r i.row.family (needed pool i index t is) e
