-- Instructions that are read and settled are those that the code spells, and each of those is read.
use Rattle.std.proofs.Common.{◌≡◌, ℕ, ◌+◌, ◌<◌, Bool, true, false, cond, ◌||◌, eqb, ltb, List, [], ◌∷◌, ◌++◌, map, length, Option, Some, None, Ok, IsTrue, refl, sym, ap, subst, ◌∙◌, inl, inr, arith}
use Rattle.std.specs.Prelude.{find, ◌⊎◌}
use Rattle.std.specs.List.{AllByRecursion, list_any, list_all}
use Rattle.std.proofs.lemmas.Bool.{eqb-true, ltb-true}
use Rattle.std.proofs.lemmas.List.{append-nil}
use Rattle.nr_base.specs.Grammar.{tagged}
use Rattle.nr_base.proofs.ClassNames.{both_true, and_true}
use Rattle.nr_base.proofs.Laws.{ok_is}
use Rattle.nr_base.proofs.Lists.{leaf, made}
use Rattle.nr_base.proofs.Numbers.{byte_alone}
use Rattle.nr_optable.specs.Rows.{all_rows}
use Rattle.nr_optable.specs.declared.table.Row.{Row}
use Rattle.nr_optable.specs.declared.table.Shape.{Shape}
use Rattle.nr_optable.specs.declared.table.Shape.TheVariants as shapes
use Rattle.nr_prog.specs.declared.pool.PoolEntry.{PoolEntry}
use Rattle.nr_prog.specs.declared.body.instruction.Args.{Args}
use Rattle.nr_prog.specs.declared.body.instruction.Instr.{Instr}
use Rattle.nr_prog.specs.BodyOperands.{row_of, plain, widened, shape_of, operands}
use Rattle.nr_prog.specs.BodyStarts.{is_start, targets_of}
use Rattle.nr_prog.specs.BodyText.{IsInstr, instrs}
use Rattle.nr_instrs.specs.declared.raw.Operands.{Operands}
use Rattle.nr_instrs.specs.declared.raw.Operands.TheVariants as raw
use Rattle.nr_instrs.specs.declared.raw.RawInstr.{RawInstr}
use Rattle.nr_instrs.specs.Checks.{starts_of, is_among, settled_args, settled}
use Rattle.nr_instrs.proofs.Raws.{raw_operands, given, raw_instr}
use Rattle.nr_instrs.proofs.Texts.{HasPos, args_of, to_operands, of_operands}
use Rattle.nr_instrs.proofs.Settling.{Maps, then_ok, then_gives, AllIn, AreBelow, HasNone, args_are, args_give}
use Rattle.nr_instrs.proofs.ToEnd.{EachAt}
use Rattle.nr_instrs.proofs.Orders.{IsPlacedBy}

-- ---- instructions without a branch have no target

none_widened : (code : ℕ) (shape : Option Shape) (a : Args) (text : List ℕ) → widened code shape a text → targets_of a ≡ []
none_widened code (Some shapes.L1) a text g = ap targets_of g.second.0
none_widened code (Some shapes.Inc) a text g = ap targets_of g.second.second.0
none_widened code shape a text g = absurd g

none_plain : (pool : List PoolEntry) (r : Row) (shape : Shape) (a : Args) (text : List ℕ) → plain pool r shape a text → targets_of a ≡ []
none_plain pool r shapes.L1 a text g = ap targets_of g.second.0
none_plain pool r shapes.S1 a text g = ap targets_of g.second.0
none_plain pool r shapes.S2 a text g = ap targets_of g.second.0
none_plain pool r shapes.P1 a text g = ap targets_of g.second.1.0
none_plain pool r shapes.P2 a text g = ap targets_of g.second.1.0
none_plain pool r shapes.Inc a text g = ap targets_of g.second.second.0
none_plain pool r shapes.Prim a text g = ap targets_of g.second.1.0
none_plain pool r shapes.Itf a text g = ap targets_of g.second.second.second.1.0
none_plain pool r shapes.Mul a text g = ap targets_of g.second.second.1.0
none_plain pool r shapes.Wide a text g = none_widened g.value (shape_of g.value) a g.back g.second
none_plain pool r shape a text g = ap targets_of g.0

has_none : (pool : List PoolEntry) (r : Row) (at : ℕ) (shape : Shape) (o : Operands) (text : List ℕ) → raw_operands pool r at shape o text → HasNone o
has_none pool r at shapes.B2 o text g = subst HasNone (sym g.second.0) tt
has_none pool r at shapes.B4 o text g = subst HasNone (sym g.second.0) tt
has_none pool r at shapes.Tab o text g = subst HasNone (sym g.second.second.second.second.1.second.0) tt
has_none pool r at shapes.Look o text g = subst HasNone (sym g.second.second.second.1.second.1.0) tt
has_none pool r at shape o text g = let l = leaf {f = raw.Plain} g in subst HasNone (sym l.1) (none_plain pool r shape l.0 text l.2)

-- ---- rows

chosen : (b : Bool) (x r : Row) (rest : Option Row) → cond b (Some x) rest ≡ Some r → ((b ≡ true) × (x ≡ r)) ⊎ (rest ≡ Some r)
chosen true x r rest e = inl (refl, cc)
chosen false x r rest e = inr e

code_is : (code : ℕ) (rows : List Row) (r : Row) → find (λ x. eqb x.code code) rows ≡ Some r → r.code ≡ code
code_is code [] r e = absurd cc
code_is code (x ∷ rows) r e =
    elim (chosen (eqb x.code code) x r (find (λ y. eqb y.code code) rows) e) [
      | inl h ↦ sym (ap (λ (z : Row). z.code) h.1) ∙ eqb-true x.code code h.0
      | inr h ↦ code_is code rows r h
    ]

row_is : (o : Option Row) (r : Row) (text : List ℕ) → given o r text → (o ≡ Some r) × (text ≡ [])
row_is None r text g = absurd g
row_is (Some x) r text g = (ap (λ z. Some z) (sym g.0), g.1)

passes : (p : Row → Bool) (code : ℕ) (rows : List Row) (r : Row) → find (λ x. eqb x.code code) rows ≡ Some r → list_all p rows ≡ true → p r ≡ true
passes p code [] r e h = absurd cc
passes p code (x ∷ rows) r e h =
    let b = both_true (p x) (list_all p rows) h in
    elim (chosen (eqb x.code code) x r (find (λ y. eqb y.code code) rows) e) [
      | inl k ↦ subst (λ (z : Row). p z ≡ true) k.1 b.0
      | inr k ↦ passes p code rows r k b.1
    ]

codes_fit : list_all (λ (r : Row). ltb r.code 256) all_rows ≡ true
unfolding all_rows
codes_fit = refl

code_below : (r : Row) → row_of r.code ≡ Some r → r.code < 256
code_below r e = ltb-true r.code 256 (passes (λ (x : Row). ltb x.code 256) r.code all_rows r e codes_fit)

-- ---- one instruction

abbrev pub made_of : RawInstr → Instr
made_of i = record { at = i.at; row = i.row; args = args_of i.operands }

record Parts (pool : List PoolEntry) (at : ℕ) (i : RawInstr) (text : List ℕ) : Type 0 where
  row : Row
  operands : Operands
  rest : List ℕ
  is : i ≡ record { at = at; row = row; operands = operands }
  listed : row_of row.code ≡ Some row
  spelled : raw_operands pool row at row.shape operands rest
  whole : text ≡ row.code ∷ rest

parts : (pool : List PoolEntry) (at : ℕ) (i : RawInstr) (text : List ℕ) → raw_instr pool at i text → Parts pool at i text
parts pool at i text t =
    let u = t.first in
    let r = row_is (row_of u.value) t.value u.back u.second in
    let code = code_is u.value all_rows t.value r.0 in
    let l = leaf {f = λ o. record { at = at; row = t.value; operands = o }} t.second in
    record {
      row = t.value;
      operands = l.0;
      rest = t.back;
      is = l.1;
      listed = ap row_of code ∙ r.0;
      spelled = l.2;
      whole = t.whole ∙ ap (λ z. z ++ t.back) (u.whole ∙ ap (λ z. u.front ++ z) r.1 ∙ append-nil u.front ∙ u.first.1 ∙ byte_alone u.value u.first.0 ∙ ap (λ c. c ∷ []) (sym code));
    }

pub record Found (pool : List PoolEntry) (starts : List ℕ) (at : ℕ) (i : RawInstr) (j : Instr) (text : List ℕ) : Type 0 where
  pub spelled : IsInstr pool at j text
  pub all : AllIn starts (targets_of j.args)
  pub same : i.at ≡ j.at

instr_found : (pool : List PoolEntry) (starts : List ℕ) (at : ℕ) (i : RawInstr) (j : Instr) (text : List ℕ) → raw_instr pool at i text → settled starts i ≡ Ok j → Found pool starts at i j text
unfolding settled
instr_found pool starts at i j text g e =
    let p = parts pool at i text g in
    let a = then_ok (settled_args starts i.at i.operands) (λ args. Ok (record { at = i.at; row = i.row; args = args })) j e in
    let is = ok_is (record { at = i.at; row = i.row; args = a.value }) j a.gave in
    let ops : i.operands ≡ p.operands = ap (λ (z : RawInstr). z.operands) p.is in
    let s = args_are starts i.at i.operands a.value (subst HasNone (sym ops) (has_none pool p.row at p.row.shape p.operands p.rest p.spelled)) a.was in
    let spelled : operands pool p.row at p.row.shape a.value p.rest = subst (λ z. operands pool p.row at p.row.shape z p.rest) (sym (s.is ∙ ap args_of ops)) (to_operands pool p.row at p.row.shape p.operands p.rest p.spelled (subst HasPos ops s.is_pos)) in
    let row : i.row ≡ p.row = ap (λ (z : RawInstr). z.row) p.is in
    subst (λ (z : Instr). Found pool starts at i z text) is (record {
      spelled = record {
        placed = ap (λ (z : RawInstr). z.at) p.is;
        listed = subst (λ (z : Row). row_of z.code ≡ Some z) (sym row) p.listed;
        spelled = subst (λ (z : Row). tagged z.code (operands pool z at z.shape) a.value text) (sym row) (p.rest, p.whole, spelled);
      };
      all = s.all;
      same = refl;
    })

-- what was read of an instruction
pub record WasInstr (pool : List PoolEntry) (at : ℕ) (j : Instr) (text : List ℕ) : Type 0 where
  pub raw : RawInstr
  pub spelled : raw_instr pool at raw text
  pub is_pos : HasPos raw.operands
  pub is : j ≡ made_of raw

was_instr : (pool : List PoolEntry) (at : ℕ) (j : Instr) (text : List ℕ) → IsInstr pool at j text → WasInstr pool at j text
was_instr pool at j text g =
    let lt = code_below j.row g.listed in
    let o = of_operands pool j.row at j.row.shape j.args g.spelled.0 g.spelled.2 in
    record {
      raw = record { at = at; row = j.row; operands = o.raw };
      spelled = record {
        value = j.row;
        front = j.row.code ∷ [];
        back = g.spelled.0;
        first = record { value = j.row.code; front = j.row.code ∷ []; back = []; first = (lt, sym (byte_alone j.row.code lt)); second = subst (λ o. given o j.row []) (sym g.listed) (refl, refl); whole = refl };
        second = made {f = λ z. record { at = at; row = j.row; operands = z }} o.raw g.spelled.0 o.text_of;
        whole = g.spelled.1;
      };
      is_pos = o.is_pos;
      is = ap (λ n. record { at = n; row = j.row; args = j.args }) g.placed ∙ ap (λ a. record { at = at; row = j.row; args = a }) o.is;
    }

settles : (starts : List ℕ) (i : RawInstr) → AreBelow starts → HasPos i.operands → AllIn starts (targets_of (args_of i.operands)) → settled starts i ≡ Ok (made_of i)
unfolding settled
settles starts i below is all = then_gives (settled_args starts i.at i.operands) _ (args_of i.operands) (made_of i) (args_give starts i.at i.operands below is all) refl

-- ---- all instructions

abbrev pub starts_in : List Instr → List ℕ
starts_in is = map (λ i. i.at) is

any_at : (t : ℕ) (is : List Instr) → list_any (λ n. eqb n t) (starts_in is) ≡ list_any (λ i. eqb i.at t) is
any_at t [] = refl
any_at t (i ∷ is) = ap (λ b. eqb i.at t || b) (any_at t is)

pub start_is : (is : List Instr) (starts : List ℕ) (t : ℕ) → starts ≡ starts_in is → is_among starts t ≡ is_start is t
unfolding is_among is_start
start_is is starts t e = ap (λ s. list_any (λ n. eqb n t) s) e ∙ any_at t is

pub to_all : (is : List Instr) (starts : List ℕ) (ts : List ℕ) → starts ≡ starts_in is → AllIn starts ts → IsTrue (list_all (is_start is) ts)
to_all is starts [] e h = refl
to_all is starts (t ∷ ts) e h = and_true (is_start is t) (list_all (is_start is) ts) (sym (start_is is starts t e) ∙ h.0) (to_all is starts ts e h.1)

pub of_all : (is : List Instr) (starts : List ℕ) (ts : List ℕ) → starts ≡ starts_in is → IsTrue (list_all (is_start is) ts) → AllIn starts ts
of_all is starts [] e h = tt
of_all is starts (t ∷ ts) e h = let b = both_true (is_start is t) (list_all (is_start is) ts) h in (start_is is starts t e ∙ b.0, of_all is starts ts e b.1)

pub record AllFound (pool : List PoolEntry) (starts : List ℕ) (at : ℕ) (raws : List RawInstr) (is : List Instr) (text : List ℕ) : Type 0 where
  pub spelled : instrs pool at is text
  pub all : AllByRecursion (λ (i : Instr). AllIn starts (targets_of i.args)) is
  pub same : starts_of raws ≡ starts_in is

pub all_found : (pool : List PoolEntry) (starts : List ℕ) (at : ℕ) (raws : List RawInstr) (is : List Instr) (text : List ℕ) → EachAt (raw_instr pool) at raws text → Maps (settled starts) raws is → AllFound pool starts at raws is text
all_found pool starts at [] [] text g m = record { spelled = g; all = tt; same = refl }
all_found pool starts at [] (j ∷ is) text g m = absurd m
all_found pool starts at (i ∷ raws) [] text g m = absurd m
all_found pool starts at (i ∷ raws) (j ∷ is) text g m =
    let one = instr_found pool starts at i j g.0 g.2 m.0 in
    let more = all_found pool starts (at + length g.0) raws is g.1 g.3 m.1 in
    record {
      spelled = (g.0, g.1, one.spelled, more.spelled, g.4);
      all = (one.all, more.all);
      same = ap (λ n. n ∷ starts_of raws) one.same ∙ ap (λ ns. j.at ∷ ns) more.same;
    }

-- ---- each knows its offset

pub raw_placed : (pool : List PoolEntry) → IsPlacedBy (λ (i : RawInstr). i.at) (raw_instr pool)
raw_placed pool at i text g = let p = parts pool at i text g in (ap (λ (z : RawInstr). z.at) p.is, omega (arith, ap length p.whole))

-- ---- all instructions, the other way round

pub record AllRead (pool : List PoolEntry) (at : ℕ) (is : List Instr) (text : List ℕ) : Type 0 where
  pub raws : List RawInstr
  pub spelled : EachAt (raw_instr pool) at raws text
  pub is_pos : AllByRecursion (λ (i : RawInstr). HasPos i.operands) raws
  pub are : is ≡ map made_of raws

pub all_read : (pool : List PoolEntry) (at : ℕ) (is : List Instr) (text : List ℕ) → instrs pool at is text → AllRead pool at is text
all_read pool at [] text g = record { raws = []; spelled = g; is_pos = tt; are = refl }
all_read pool at (j ∷ is) text g =
    let one = was_instr pool at j g.0 g.2 in
    let more = all_read pool (at + length g.0) is g.1 g.3 in
    record {
      raws = one.raw ∷ more.raws;
      spelled = (g.0, g.1, one.spelled, more.spelled, g.4);
      is_pos = (one.is_pos, more.is_pos);
      are = ap (λ i. i ∷ is) one.is ∙ ap (λ s. made_of one.raw ∷ s) more.are;
    }

pub all_settle : (starts : List ℕ) (raws : List RawInstr) → AreBelow starts → AllByRecursion (λ (i : RawInstr). HasPos i.operands) raws → AllByRecursion (λ (i : RawInstr). AllIn starts (targets_of (args_of i.operands))) raws → Maps (settled starts) raws (map made_of raws)
all_settle starts [] below is all = tt
all_settle starts (i ∷ raws) below is all = (settles starts i below is.0 all.0, all_settle starts raws below is.1 all.1)
