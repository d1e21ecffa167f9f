-- The instructions of a method by the text of its code: their rows and their operands.
use Rattle.std.proofs.Common.{◌≡◌, ℕ, zero, suc, ◌+◌, Bool, true, false, List, [], ◌∷◌, length, cond, find, refl, sym, ap, subst, arith, not, ◌&&◌, ◌||◌}
use Rattle.std.specs.Prelude.{Option, Some, None, Contains, IsTrue, nat_eq, ◌==◌, if◌then◌else◌}
use Rattle.std.specs.List.{AllZip, list_all}
use Rattle.std.proofs.lemmas.Bool.{and_parts}
use Rattle.std.proofs.lemmas.Option.{same_Some}
use Rattle.nr_optable.specs.declared.table.Family.{Family}
use Rattle.nr_optable.specs.declared.table.Family.TheVariants.{F8, F34}
use Rattle.nr_optable.specs.declared.table.Kinds.{Kinds}
use Rattle.nr_optable.specs.declared.table.Kinds.TheVariants.{Letters}
use Rattle.nr_optable.specs.declared.table.Letter.TheVariants.{I, J}
use Rattle.nr_optable.specs.declared.table.Row.{Row}
use Rattle.nr_optable.specs.declared.table.Shape.{Shape}
use Rattle.nr_optable.specs.declared.table.Shape.TheVariants.{Plain, L1, S1, S2, P1, P2, B2, B4, Inc as IncShape, Prim as PrimShape, Itf, Mul, Tab, Look as LookShape, Wide as WideShape}
use Rattle.nr_optable.specs.Rows.{all_rows}
use Rattle.nr_prog.specs.declared.body.instruction.Args.{Args}
use Rattle.nr_prog.specs.declared.body.instruction.Args.TheVariants.{Pool, Prim, Dims}
use Rattle.nr_prog.specs.declared.body.instruction.Instr.{Instr}
use Rattle.nr_prog.specs.declared.pool.PoolEntry.{PoolEntry}
use Rattle.nr_prog.specs.BodyNames.{IsArrayOf, IsUsed, NamesClassBy}
use Rattle.nr_prog.specs.BodyOperands.{operands, shape_of, widened}
use Rattle.nr_prog.specs.BodyText.{IsInstr, instrs}
use Rattle.nr_linked.specs.declared.program.tables.Resolved.{Resolved}
use Rattle.nr_linked.specs.Sites.{Site, first_offset, site_among}
use Rattle.nr_linked.specs.TypingFacts.{is_shaped}

-- ---- the site among instructions

pub found_at : (R : Instr → Resolved → Type 0) (is : List Instr) (rs : List Resolved) → AllZip R is rs → (at : ℕ) (s : Site) → site_among is rs at ≡ Some s → R s.instr s.resolved
found_at R [] rs all at s e = absurd cc
found_at R (i ∷ is) [] all at s e = absurd cc
found_at R (i ∷ is) (r ∷ rs) all at s e = cases (i.at == at) all.0 (λ e. found_at R is rs all.1 at s e) e
  where
    cases : (b : Bool) → R i r → (site_among is rs at ≡ Some s → R s.instr s.resolved)
        → (if b then Some (record { instr = i; resolved = r; next = first_offset is }) else site_among is rs at) ≡ Some s → R s.instr s.resolved
    cases true here rest e = subst (λ (s : Site). R s.instr s.resolved) (same_Some (record { instr = i; resolved = r; next = first_offset is }) s e) here
    cases false here rest e = rest e

pub passes_found : (f : Resolved → Bool) (is : List Instr) (rs : List Resolved) → IsTrue (list_all f rs) → (at : ℕ) (s : Site) → site_among is rs at ≡ Some s → IsTrue (f s.resolved)
passes_found f [] rs all at s e = absurd cc
passes_found f (i ∷ is) [] all at s e = absurd cc
passes_found f (i ∷ is) (r ∷ rs) all at s e = let both = and_parts (f r) (list_all f rs) all in cases (i.at == at) both.0 (λ e. passes_found f is rs both.1 at s e) e
  where
    cases : (b : Bool) → IsTrue (f r) → (site_among is rs at ≡ Some s → IsTrue (f s.resolved))
        → (if b then Some (record { instr = i; resolved = r; next = first_offset is }) else site_among is rs at) ≡ Some s → IsTrue (f s.resolved)
    cases true here rest e = subst (λ (s : Site). IsTrue (f s.resolved)) (same_Some (record { instr = i; resolved = r; next = first_offset is }) s e) here
    cases false here rest e = rest e

-- some text is the instruction's
abbrev pub HasText : List PoolEntry → Instr → Type 0
HasText pool i = (at : ℕ) × (text : List ℕ) × IsInstr pool at i text

pub text_at_site : (pool : List PoolEntry) (start : ℕ) (is : List Instr) (rs : List Resolved) (text : List ℕ) → instrs pool start is text → (at : ℕ) (s : Site) → site_among is rs at ≡ Some s → HasText pool s.instr
text_at_site pool start [] rs text all at s e = absurd cc
text_at_site pool start (i ∷ is) [] text all at s e = absurd cc
text_at_site pool start (i ∷ is) (r ∷ rs) text all at s e = cases (i.at == at) (start, all.0, all.2) (λ e. text_at_site pool (start + length all.0) is rs all.1 all.3 at s e) e
  where
    cases : (b : Bool) → HasText pool i → (site_among is rs at ≡ Some s → HasText pool s.instr)
        → (if b then Some (record { instr = i; resolved = r; next = first_offset is }) else site_among is rs at) ≡ Some s → HasText pool s.instr
    cases true here rest e = subst (λ (s : Site). HasText pool s.instr) (same_Some (record { instr = i; resolved = r; next = first_offset is }) s e) here
    cases false here rest e = rest e

-- ---- rows

find_row : (f : Row → Bool) (rs : List Row) (r : Row) → find f rs ≡ Some r → Contains rs r
find_row f [] r e = absurd cc
find_row f (x ∷ rs) r e = cases (f x) (λ e. find_row f rs r e) e
  where
    cases : (b : Bool) → (find f rs ≡ Some r → Contains rs r) → cond b (Some x) (find f rs) ≡ Some r → Contains (x ∷ rs) r
    cases true rest e = (0, omega arith, same_Some x r e)
    cases false rest e = let c = rest e in (suc c.0, omega (arith, c.1), c.2)

pub row_listed : (pool : List PoolEntry) (i : Instr) → HasText pool i → Contains all_rows i.row
row_listed pool i t = find_row (λ r. r.code == i.row.code) all_rows i.row t.2.listed

contains_passes : (f : Row → Bool) (rs : List Row) (r : Row) → IsTrue (list_all f rs) → Contains rs r → IsTrue (f r)
contains_passes f [] r p (k, l, e) = absurd (omega arith)
contains_passes f (x ∷ rs) r p (zero, l, e) = subst (λ r. IsTrue (f r)) e (and_parts (f x) (list_all f rs) p).0
contains_passes f (x ∷ rs) r p (suc k, l, e) = contains_passes f rs r (and_parts (f x) (list_all f rs) p).1 (k, omega arith, e)

-- ---- operands are those of the shape

widened_shaped : (code : ℕ) (o : Option Shape) (a : Args) (text : List ℕ) → widened code o a text → IsTrue (is_shaped WideShape a)
widened_shaped code None a text g = absurd g
widened_shaped code (Some L1) a text g = subst (λ a. IsTrue (is_shaped WideShape a)) (sym g.second.0) refl
widened_shaped code (Some IncShape) a text g = subst (λ a. IsTrue (is_shaped WideShape a)) (sym g.second.second.0) refl
widened_shaped code (Some shape) a text g = absurd g

pub shaped : (pool : List PoolEntry) (r : Row) (at : ℕ) (shape : Shape) (a : Args) (text : List ℕ) → operands pool r at shape a text → IsTrue (is_shaped shape a)
shaped pool r at Plain a text g = subst (λ a. IsTrue (is_shaped Plain a)) (sym g.0) refl
shaped pool r at L1 a text g = subst (λ a. IsTrue (is_shaped L1 a)) (sym g.second.0) refl
shaped pool r at S1 a text g = subst (λ a. IsTrue (is_shaped S1 a)) (sym g.second.0) refl
shaped pool r at S2 a text g = subst (λ a. IsTrue (is_shaped S2 a)) (sym g.second.0) refl
shaped pool r at P1 a text g = subst (λ a. IsTrue (is_shaped P1 a)) (sym g.second.1.0) refl
shaped pool r at P2 a text g = subst (λ a. IsTrue (is_shaped P2 a)) (sym g.second.1.0) refl
shaped pool r at B2 a text g = subst (λ a. IsTrue (is_shaped B2 a)) (sym g.second.0) refl
shaped pool r at B4 a text g = subst (λ a. IsTrue (is_shaped B4 a)) (sym g.second.0) refl
shaped pool r at IncShape a text g = subst (λ a. IsTrue (is_shaped IncShape a)) (sym g.second.second.0) refl
shaped pool r at PrimShape a text g = subst (λ a. IsTrue (is_shaped PrimShape a)) (sym g.second.1.0) refl
shaped pool r at Itf a text g = subst (λ a. IsTrue (is_shaped Itf a)) (sym g.second.second.second.1.0) refl
shaped pool r at Mul a text g = subst (λ a. IsTrue (is_shaped Mul a)) (sym g.second.second.1.0) refl
shaped pool r at Tab a text g = subst (λ a. IsTrue (is_shaped Tab a)) (sym g.second.second.second.second.1.second.0) refl
shaped pool r at LookShape a text g = subst (λ a. IsTrue (is_shaped LookShape a)) (sym g.second.second.second.1.second.1.0) refl
shaped pool r at WideShape a text g = widened_shaped g.value (shape_of g.value) a g.back g.second

-- ---- what an index names

pub record Uses (pool : List PoolEntry) (r : Row) (a : Args) : Type 0 where
  pub index : ℕ
  pub is : a ≡ Pool index
  pub used : IsUsed pool r.family r.pushes index

abbrev pub is_pool_shape : Shape → Bool
is_pool_shape P1 = true
is_pool_shape P2 = true
is_pool_shape shape = false

pub uses : (pool : List PoolEntry) (r : Row) (at : ℕ) (shape : Shape) (a : Args) (text : List ℕ) → IsTrue (is_pool_shape shape) → operands pool r at shape a text → Uses pool r a
uses pool r at P1 a text p g = record { index = g.value; is = g.second.1.0; used = g.second.0 }
uses pool r at P2 a text p g = record { index = g.value; is = g.second.1.0; used = g.second.0 }
uses pool r at shape a text p g = absurd cc

-- multianewarray
pub record Counts (pool : List PoolEntry) (a : Args) : Type 0 where
  pub index : ℕ
  pub count : ℕ
  pub is : a ≡ Dims index count
  pub named : NamesClassBy (IsArrayOf count) pool index

pub counts : (pool : List PoolEntry) (r : Row) (at : ℕ) (a : Args) (text : List ℕ) → operands pool r at Mul a text → Counts pool a
counts pool r at a text g = record { index = g.value; count = g.second.value; is = g.second.second.1.0; named = g.second.second.0 }

abbrev pub is_mul : Shape → Bool
is_mul Mul = true
is_mul shape = false

-- no other shape has counts
pub dims_shape : (shape : Shape) (i n : ℕ) → IsTrue (is_shaped shape (Dims i n)) → shape ≡ Mul
dims_shape Mul i n p = refl
dims_shape shape i n p = absurd cc

-- ---- facts of the table of instructions

abbrev is_F8 : Family → Bool
is_F8 F8 = true
is_F8 family = false

abbrev is_F34 : Family → Bool
is_F34 F34 = true
is_F34 family = false

abbrev pub is_one_constant : Kinds → Bool
is_one_constant (Letters n I second third) = nat_eq n 1
is_one_constant (Letters n J second third) = nat_eq n 1
is_one_constant kinds = false

abbrev is_row_fit : Row → Bool
is_row_fit r = (not (is_F8 r.family) || (is_pool_shape r.shape && is_one_constant r.pushes)) && (not (is_mul r.shape) || is_F34 r.family)

rows_fit : IsTrue (list_all is_row_fit all_rows)
unfolding all_rows
rows_fit = refl

implied : (b c : Bool) → (not b || c) ≡ true → b ≡ true → c ≡ true
implied true c p q = p
implied false c p q = absurd cc

pub constant_row : (r : Row) → Contains all_rows r → r.family ≡ F8 → IsTrue (is_pool_shape r.shape) × IsTrue (is_one_constant r.pushes)
constant_row r c e =
    let fit = and_parts (not (is_F8 r.family) || (is_pool_shape r.shape && is_one_constant r.pushes)) _ (contains_passes is_row_fit all_rows r rows_fit c) in
    and_parts (is_pool_shape r.shape) (is_one_constant r.pushes) (implied (is_F8 r.family) _ fit.0 (ap is_F8 e))

of_F34 : (f : Family) → is_F34 f ≡ true → f ≡ F34
of_F34 F34 p = refl
of_F34 f p = absurd cc

pub mul_row : (r : Row) → Contains all_rows r → r.shape ≡ Mul → r.family ≡ F34
mul_row r c e =
    let fit = and_parts (not (is_F8 r.family) || (is_pool_shape r.shape && is_one_constant r.pushes)) _ (contains_passes is_row_fit all_rows r rows_fit c) in
    of_F34 r.family (implied (is_mul r.shape) (is_F34 r.family) fit.1 (ap is_mul e))
