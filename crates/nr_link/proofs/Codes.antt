-- The methods of an outline have the code that their class files have.
use Rattle.std.proofs.Common.{◌≡◌, ℕ, suc, ◌+◌, ◌⊎◌, inl, inr, Bool, true, false, not, ◌||◌, List, [], ◌∷◌, ◌++◌, length, map, refl, sym, ap, subst, ◌∙◌, arith}
use Rattle.std.specs.Prelude.{All, Option, Some, None, IfSome, IsSomeAnd, IsTrue, Contains, slice_get}
use Rattle.std.specs.List.{flat_map, list_all, zip}
use Rattle.std.proofs.lemmas.List.Elements.{All-append, All-cons, All-contains, All-nil}
use Rattle.std.proofs.lemmas.Bool.{and_parts}
use Rattle.std.proofs.lemmas.Option.{same_Some}
use Rattle.nr_base.specs.ModifiedUtf8.{IsModifiedUtf8}
use Rattle.nr_base.proofs.DescTexts.{desc_utf}
use Rattle.nr_optable.specs.declared.table.Family.{Family}
use Rattle.nr_optable.specs.declared.table.Family.TheVariants.{F30, F31, F32, F33, F34, F37}
use Rattle.nr_optable.specs.declared.table.Kinds.{Kinds}
use Rattle.nr_optable.specs.declared.table.Row.{Row}
use Rattle.nr_optable.specs.declared.table.Shape.{Shape}
use Rattle.nr_optable.specs.declared.table.Shape.TheVariants as shapes
use Rattle.nr_optable.specs.Rows.{all_rows}
use Rattle.nr_prog.specs.declared.body.instruction.Args.{Args}
use Rattle.nr_prog.specs.declared.body.instruction.Args.TheVariants.{Dims, Pool}
use Rattle.nr_prog.specs.declared.body.instruction.Instr.{Instr}
use Rattle.nr_prog.specs.declared.body.loaded.Loaded.{Loaded}
use Rattle.nr_prog.specs.declared.body.whole.Body.{Body}
use Rattle.nr_prog.specs.declared.member.Code.{Code}
use Rattle.nr_prog.specs.declared.member.Handler.{Handler}
use Rattle.nr_prog.specs.declared.member.Method.{Method}
use Rattle.nr_prog.specs.declared.parts.ClassParts.{ClassParts}
use Rattle.nr_prog.specs.declared.pool.PoolEntry.{PoolEntry}
use Rattle.nr_prog.specs.declared.pool.PoolEntry.TheVariants.{FieldRef, InterfaceMethodRef, MethodRef}
use Rattle.nr_prog.specs.BodyNames.{IsArrayOf, IsComponent, IsFieldRef, IsInterfaceRef, IsMethodRef, IsUsed, NamesAnyClass, NamesClassBy, class_text_at}
use Rattle.nr_prog.specs.BodyOperands.{operands}
use Rattle.nr_prog.specs.BodyText.{BodyFor, EachBody, IsBody, IsHandler, instrs}
use Rattle.nr_prog.specs.Pool.{entry_at}
use Rattle.nr_linked.specs.declared.program.tables.MethodInfo.{MethodInfo}
use Rattle.nr_linked.specs.declared.program.tables.ProgramTables.{ProgramTables}
use Rattle.nr_linked.specs.BuiltIns.{built_in_class, number}
use Rattle.nr_linked.specs.BuiltInTables.{built_in_method, built_in_methods, built_ins}
use Rattle.nr_linked.specs.TypingFacts.{is_shaped}
use Rattle.nr_links.specs.Found.{index_in}
use Rattle.nr_links.specs.Links.{IsDecoded}
use Rattle.nr_links.proofs.Instructions.{HasText, counts, dims_shape, mul_row, row_listed, shaped, uses}
use Rattle.nr_linkrules.specs.Outline.{outline_method, outline_methods}
use Rattle.nr_link.specs.Coded.{HasNamesIn, IsCoded, read_class}
use Rattle.nr_link.specs.Naming.{HasNames, IsMemberNamed, IsNamedBy}

-- ---- the entry that an instruction names

weaker : {X : Type 0} (A B : X → Type 0) (o : Option X) → ((x : X) → A x → B x) → IsSomeAnd o A → IsSomeAnd o B
weaker A B None h p = absurd p
weaker A B (Some x) h p = h x p

at_least : {X : Type 0} (A B : X → Type 0) (o : Option X) → ((x : X) → A x → B x) → IsSomeAnd o A → IfSome o B
at_least A B None h p = absurd p
at_least A B (Some x) h p = h x p

of_field : (pool : List PoolEntry) (e : PoolEntry) → IsFieldRef pool e → IsMemberNamed pool e
of_field pool (FieldRef named member) p = p
of_field pool e p = absurd p

of_method : (pool : List PoolEntry) (e : PoolEntry) → IsMethodRef pool e → IsMemberNamed pool e
of_method pool (MethodRef named member) p = p
of_method pool e p = absurd p

of_interface : (pool : List PoolEntry) (count : ℕ) (e : PoolEntry) → IsInterfaceRef pool count e → IsMemberNamed pool e
of_interface pool count (InterfaceMethodRef named member) p = p.0
of_interface pool count e p = absurd p

from_used : (pool : List PoolEntry) (f : Family) (pushes : Kinds) (index : ℕ) → IsUsed pool f pushes index → IsNamedBy pool index f
from_used pool F30 pushes index u = at_least (IsFieldRef pool) (IsMemberNamed pool) (entry_at pool index) (of_field pool) u
from_used pool F31 pushes index u = at_least (IsFieldRef pool) (IsMemberNamed pool) (entry_at pool index) (of_field pool) u
from_used pool F32 pushes index u = at_least (IsMethodRef pool) (IsMemberNamed pool) (entry_at pool index) (of_method pool) u
from_used pool F33 pushes index u = u
from_used pool F34 pushes index u = weaker IsComponent IsModifiedUtf8 (class_text_at pool index) (λ bytes p. p.0) u
from_used pool F37 pushes index u = u
from_used pool f pushes index u = tt

-- ---- invokeinterface alone has its shape

abbrev is_itf : Shape → Bool
is_itf shapes.Itf = true
is_itf shape = false

abbrev is_F32 : Family → Bool
is_F32 F32 = true
is_F32 family = false

abbrev is_row_fit : Row → Bool
is_row_fit r = not (is_itf r.shape) || is_F32 r.family

rows_fit : IsTrue (list_all is_row_fit all_rows)
unfolding all_rows
rows_fit = refl

each_fits : (rs : List Row) → IsTrue (list_all is_row_fit rs) → All (λ r. IsTrue (is_row_fit r)) rs
each_fits [] p = All-nil (λ (r : Row). IsTrue (is_row_fit r))
each_fits (r ∷ rs) p =
    let both = and_parts (is_row_fit r) (list_all is_row_fit rs) p in
    All-cons (λ (r : Row). IsTrue (is_row_fit r)) r rs both.0 (each_fits rs both.1)

itf_row : (r : Row) → Contains all_rows r → r.shape ≡ shapes.Itf → r.family ≡ F32
itf_row r c e = of_F32 r.family (implied (is_itf r.shape) (is_F32 r.family) (All-contains (λ (r : Row). IsTrue (is_row_fit r)) all_rows r (each_fits all_rows rows_fit) c) (ap is_itf e))
  where
    implied : (a b : Bool) → (not a || b) ≡ true → a ≡ true → b ≡ true
    implied true b p q = p
    implied false b p q = absurd cc

    of_F32 : (f : Family) → is_F32 f ≡ true → f ≡ F32
    of_F32 F32 p = refl
    of_F32 f p = absurd cc

-- ---- what the text of an instruction says of its index

same_index : (a : Args) (m n : ℕ) → a ≡ Pool m → index_in a ≡ Some n → m ≡ n
same_index a m n e f = same_Some m n (sym (ap index_in e) ∙ f)

-- the other shapes have no index
abbrev has_index : Shape → Bool
has_index shapes.P1 = true
has_index shapes.P2 = true
has_index shapes.Itf = true
has_index shapes.Mul = true
has_index shape = false

pool_shape : (shape : Shape) (index : ℕ) → IsTrue (is_shaped shape (Pool index)) → has_index shape ≡ true
pool_shape shapes.P1 index p = refl
pool_shape shapes.P2 index p = refl
pool_shape shapes.Itf index p = refl
pool_shape shape index p = absurd cc

no_index : (shape : Shape) (a : Args) (index : ℕ) → IsTrue (is_shaped shape a) → has_index shape ≡ false → index_in a ≡ Some index → ⊥
no_index shape (Pool n) index p none e = let has = pool_shape shape n p in absurd cc
no_index shape (Dims n count) index p none e = let has = ap has_index (dims_shape shape n count p) in absurd cc
no_index shape a index p none e = absurd cc

of_array : (count : ℕ) (bytes : List ℕ) → IsArrayOf count bytes → IsModifiedUtf8 bytes
of_array count bytes h = desc_utf h.0 bytes h.1

by_shape : (pool : List PoolEntry) (i : Instr) (at : ℕ) (text : List ℕ) (index : ℕ) (shape : Shape) → i.row.shape ≡ shape → Contains all_rows i.row → operands pool i.row at shape i.args text → index_in i.args ≡ Some index → IsNamedBy pool index i.row.family
by_shape pool i at text index shapes.P1 s c g e =
    let u = uses pool i.row at shapes.P1 i.args text refl g in
    subst (λ n. IsNamedBy pool n i.row.family) (same_index i.args u.index index u.is e) (from_used pool i.row.family i.row.pushes u.index u.used)
by_shape pool i at text index shapes.P2 s c g e =
    let u = uses pool i.row at shapes.P2 i.args text refl g in
    subst (λ n. IsNamedBy pool n i.row.family) (same_index i.args u.index index u.is e) (from_used pool i.row.family i.row.pushes u.index u.used)
by_shape pool i at text index shapes.Itf s c g e =
    let named = at_least (IsInterfaceRef pool g.second.value) (IsMemberNamed pool) (entry_at pool g.value) (of_interface pool g.second.value) g.second.second.second.0.0 in
    subst (IsNamedBy pool index) (sym (itf_row i.row c s))
    (subst (λ n. IfSome (entry_at pool n) (IsMemberNamed pool)) (same_index i.args g.value index g.second.second.second.1.0 e) named)
by_shape pool i at text index shapes.Mul s c g e =
    let u = counts pool i.row at i.args text g in
    let same : u.index ≡ index = same_Some u.index index (sym (ap index_in u.is) ∙ e) in
    subst (IsNamedBy pool index) (sym (mul_row i.row c s)) (subst (NamesAnyClass pool) same (weaker (IsArrayOf u.count) IsModifiedUtf8 (class_text_at pool u.index) (of_array u.count) u.named))
by_shape pool i at text index shape s c g e = absurd (no_index shape i.args index (shaped pool i.row at shape i.args text g) refl e)

has_names : (pool : List PoolEntry) (i : Instr) → HasText pool i → HasNames pool i
has_names pool i t = of_index (index_in i.args) refl
  where
    of_index : (o : Option ℕ) → index_in i.args ≡ o → IfSome o (λ index. IsNamedBy pool index i.row.family)
    of_index None e = tt
    of_index (Some index) e = by_shape pool i t.0 t.2.spelled.0 index i.row.shape refl (row_listed pool i t) t.2.spelled.2 e

all_have_names : (pool : List PoolEntry) (at : ℕ) (is : List Instr) (text : List ℕ) → instrs pool at is text → All (HasNames pool) is
all_have_names pool at [] text h = All-nil (HasNames pool)
all_have_names pool at (i ∷ more) text h =
    All-cons (HasNames pool) i more (has_names pool i (at, h.0, h.2)) (all_have_names pool (at + length h.0) more h.1 h.3)

-- ---- methods

body_named : (c : ClassParts) (m : Method) (code : Code) (b : Body) → IsBody c m code b → HasNamesIn b c
body_named c m code b h = record {
  instrs = all_have_names c.pool 0 b.instrs code.bytes h.instrs;
  handlers = subst (All (λ (h : Handler). (h.catch_type ≡ 0) ⊎ NamesAnyClass c.pool h.catch_type)) (sym h.handlers) (λ k d lt. (h.ranges k d lt).catches);
}

module _ (P : ProgramTables) where
  one_coded : (own : ℕ) (c : ClassParts) (m : Method) (b : Option Body) → BodyFor c m m.code b → read_class P own ≡ Some c → IsCoded P (outline_method own c.pool (m, b))
  unfolding outline_method
  one_coded own c m b h read = of_code m.code h
    where
      of_code : (o : Option Code) → BodyFor c m o b → IfSome b (λ b. IsSomeAnd (read_class P own) (HasNamesIn b))
      of_code None h = subst (λ o. IfSome o (λ (b : Body). IsSomeAnd (read_class P own) (HasNamesIn b))) (sym h) tt
      of_code (Some code) h =
          subst (λ o. IfSome o (λ (b : Body). IsSomeAnd (read_class P own) (HasNamesIn b))) (sym h.1)
          (subst (λ o. IsSomeAnd o (HasNamesIn h.0)) (sym read) (body_named c m code h.0 h.2))

  class_coded : (own : ℕ) (c : ClassParts) (ms : List Method) (bs : List (Option Body)) → EachBody c ms bs → read_class P own ≡ Some c → All (IsCoded P) (map (outline_method own c.pool) (zip ms bs))
  class_coded own c [] [] h read = All-nil (IsCoded P)
  class_coded own c [] (b ∷ bs) h read = absurd h
  class_coded own c (m ∷ ms) [] h read = absurd h
  class_coded own c (m ∷ ms) (b ∷ bs) h read =
      All-cons (IsCoded P) (outline_method own c.pool (m, b)) (map (outline_method own c.pool) (zip ms bs)) (one_coded own c m b h.0 read) (class_coded own c ms bs h.1 read)

  pub all_coded : (own : ℕ) (ls : List Loaded) → All IsDecoded ls → ((k : ℕ) (l : Loaded) → slice_get ls k ≡ Some l → read_class P (own + k) ≡ Some l.«class») → All (IsCoded P) (outline_methods own ls)
  unfolding outline_methods
  all_coded own [] all read = All-nil (IsCoded P)
  all_coded own (l ∷ ls) all read =
      let here : own + 0 ≡ own = omega arith in
      All-append (IsCoded P) (map (outline_method own l.«class».pool) (zip l.«class».methods l.bodies)) (outline_methods (own + 1) ls)
      (class_coded own l.«class» l.«class».methods l.bodies (all 0 l (omega arith)).bodies (subst (λ n. read_class P n ≡ Some l.«class») here (read 0 l refl)))
      (all_coded (own + 1) ls (λ k d lt. all (suc k) d (omega (arith, lt))) (λ k m at.
      let there : own + suc k ≡ own + 1 + k = omega arith in subst (λ n. read_class P n ≡ Some m.«class») there (read (suc k) m at)))
