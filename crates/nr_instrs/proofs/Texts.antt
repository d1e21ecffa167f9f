-- An instruction's text is that of the instruction as it is read, where no target lies before the code.
use Rattle.std.proofs.Common.{◌≡◌, ℕ, zero, suc, ℤ, pos, nat_abs, ◌+ℤ◌, List, [], ◌∷◌, ◌++◌, length, refl, sym, ap, subst, ◌∙◌}
use Rattle.std.specs.Int.{Width, w16, w32}
use Rattle.nr_base.specs.Grammar.{give, Then, Times, Each}
use Rattle.nr_base.proofs.Lists.{leaf, made}
use Rattle.nr_optable.specs.declared.table.Row.{Row}
use Rattle.nr_optable.specs.declared.table.Shape.{Shape}
use Rattle.nr_optable.specs.declared.table.Shape.TheVariants as shapes
use Rattle.nr_prog.specs.declared.pool.PoolEntry.{PoolEntry}
use Rattle.nr_prog.specs.declared.body.instruction.Args.{Args}
use Rattle.nr_prog.specs.declared.body.instruction.Args.TheVariants as args
use Rattle.nr_prog.specs.BodyOperands.{target, table, pair, lookup, plain, operands}
use Rattle.nr_instrs.specs.declared.raw.Operands.{Operands}
use Rattle.nr_instrs.specs.declared.raw.Operands.TheVariants as raw
use Rattle.nr_instrs.proofs.Raws.{raw_target, raw_table, raw_pair, raw_lookup, raw_jump, raw_plain, raw_operands}

-- ---- targets that don't lie before the code

abbrev pub IsPos : ℤ → Type 0
IsPos z = z ≡ pos (nat_abs z)

abbrev pub AllPos : List ℤ → Type 0
AllPos [] = Unit {0}
AllPos (z ∷ zs) = IsPos z × AllPos zs

abbrev pub offsets : List ℤ → List ℕ
offsets [] = []
offsets (z ∷ zs) = nat_abs z ∷ offsets zs

abbrev pub from_start : List ℕ → List ℤ
from_start [] = []
from_start (t ∷ ts) = pos t ∷ from_start ts

abbrev pub HasPos : Operands → Type 0
HasPos (raw.Plain a) = Unit {0}
HasPos (raw.Branch z) = IsPos z
HasPos (raw.Switch other low zs) = IsPos other × AllPos zs
HasPos (raw.Look other keys zs) = IsPos other × AllPos zs

abbrev pub args_of : Operands → Args
args_of (raw.Plain a) = a
args_of (raw.Branch z) = args.Branch (nat_abs z)
args_of (raw.Switch other low zs) = args.Switch (nat_abs other) low (offsets zs)
args_of (raw.Look other keys zs) = args.Look (nat_abs other) keys (offsets zs)

offsets_from : (ts : List ℕ) → offsets (from_start ts) ≡ ts
offsets_from [] = refl
offsets_from (t ∷ ts) = ap (λ z. t ∷ z) (offsets_from ts)

from_pos : (ts : List ℕ) → AllPos (from_start ts)
from_pos [] = tt
from_pos (t ∷ ts) = (refl, from_pos ts)

length_offsets : (zs : List ℤ) → length (offsets zs) ≡ length zs
length_offsets [] = refl
length_offsets (z ∷ zs) = ap suc (length_offsets zs)

length_from : (ts : List ℕ) → length (from_start ts) ≡ length ts
length_from [] = refl
length_from (t ∷ ts) = ap suc (length_from ts)

offsets_push : (zs : List ℤ) (z : ℤ) → offsets (zs ++ z ∷ []) ≡ offsets zs ++ nat_abs z ∷ []
offsets_push [] z = refl
offsets_push (y ∷ zs) z = ap (λ s. nat_abs y ∷ s) (offsets_push zs z)

from_push : (ts : List ℕ) (t : ℕ) → from_start (ts ++ t ∷ []) ≡ from_start ts ++ pos t ∷ []
from_push [] t = refl
from_push (u ∷ ts) t = ap (λ s. pos u ∷ s) (from_push ts t)

pos_front : (zs : List ℤ) (z : ℤ) → AllPos (zs ++ z ∷ []) → AllPos zs × IsPos z
pos_front [] z h = (tt, h.0)
pos_front (y ∷ zs) z h = let more = pos_front zs z h.1 in ((h.0, more.0), more.1)

-- ---- a target

to_target : (w : Width) (at : ℕ) (z : ℤ) (text : List ℕ) → raw_target w at z text → IsPos z → target w at (nat_abs z) text
to_target w at z text g is = let l = leaf {f = λ offset. pos at +ℤ offset} g in (l.0, sym l.1 ∙ is, l.2)

of_target : (w : Width) (at to : ℕ) (text : List ℕ) → target w at to text → raw_target w at (pos to) text
of_target w at to text g = subst (λ z. raw_target w at z text) g.1 (made {f = λ offset. pos at +ℤ offset} g.0 text g.2)

to_targets : (w : Width) (at : ℕ) (zs : List ℤ) (text : List ℕ) → Each (raw_target w at) zs text → AllPos zs → Each (target w at) (offsets zs) text
to_targets w at [] text g is = g
to_targets w at (z ∷ zs) text g is = (g.0, g.1, to_target w at z g.0 g.2 is.0, to_targets w at zs g.1 g.3 is.1, g.4)

of_targets : (w : Width) (at : ℕ) (ts : List ℕ) (text : List ℕ) → Each (target w at) ts text → Each (raw_target w at) (from_start ts) text
of_targets w at [] text g = g
of_targets w at (t ∷ ts) text g = (g.0, g.1, of_target w at t g.0 g.2, of_targets w at ts g.1 g.3, g.4)

-- ---- tableswitch

to_table : (at : ℕ) (r : Operands) (text : List ℕ) → raw_table at r text → HasPos r → table at (args_of r) text
to_table at r text g is =
    let o = g.second in let l = o.second in let h = l.second in let all = h.second.1 in
    let p : HasPos (raw.Switch o.value l.value all.value) = subst HasPos all.second.0 is in
    subst (λ (z : Operands). table at (args_of z) text) (sym all.second.0)
    (record {
      value = g.value;
      front = g.front;
      back = g.back;
      first = g.first;
      whole = g.whole;
      second = record {
        value = nat_abs o.value;
        front = o.front;
        back = o.back;
        first = to_target w32 at o.value o.front o.first p.0;
        whole = o.whole;
        second = record {
          value = l.value;
          front = l.front;
          back = l.back;
          first = l.first;
          whole = l.whole;
          second = record {
            value = h.value;
            front = h.front;
            back = h.back;
            first = h.first;
            whole = h.whole;
            second = (
              h.second.0,
              record {
                value = offsets all.value;
                front = all.front;
                back = all.back;
                whole = all.whole;
                first = (length_offsets all.value ∙ all.first.0, to_targets w32 at all.value all.front all.first.1 p.1);
                second = (refl, all.second.1);
              },
            );
          };
        };
      };
    })

-- what is read of an instruction's operands
pub record WasRead (G : Operands → List ℕ → Type 0) (a : Args) (text : List ℕ) : Type 0 where
  pub raw : Operands
  pub text_of : G raw text
  pub is_pos : HasPos raw
  pub is : a ≡ args_of raw

of_table : (at : ℕ) (a : Args) (text : List ℕ) → table at a text → WasRead (raw_table at) a text
of_table at a text g =
    let o = g.second in let l = o.second in let h = l.second in let all = h.second.1 in
    record {
      raw = raw.Switch (pos o.value) l.value (from_start all.value);
      is_pos = (refl, from_pos all.value);
      is = all.second.0 ∙ ap (λ ts. args.Switch o.value l.value ts) (sym (offsets_from all.value));
      text_of = record {
        value = g.value;
        front = g.front;
        back = g.back;
        first = g.first;
        whole = g.whole;
        second = record {
          value = pos o.value;
          front = o.front;
          back = o.back;
          first = of_target w32 at o.value o.front o.first;
          whole = o.whole;
          second = record {
            value = l.value;
            front = l.front;
            back = l.back;
            first = l.first;
            whole = l.whole;
            second = record {
              value = h.value;
              front = h.front;
              back = h.back;
              first = h.first;
              whole = h.whole;
              second = (
                h.second.0,
                record {
                  value = from_start all.value;
                  front = all.front;
                  back = all.back;
                  whole = all.whole;
                  first = (length_from all.value ∙ all.first.0, of_targets w32 at all.value all.front all.first.1);
                  second = (refl, all.second.1);
                },
              );
            };
          };
        };
      };
    }

-- ---- lookupswitch

abbrev Pairs : Type 0
Pairs = List ℤ × List ℤ

abbrev Settled : Type 0
Settled = List ℤ × List ℕ

front_pos : (at k : ℕ) (s t : Pairs) (text : List ℕ) → Times (raw_pair at) k s t text → AllPos t.1 → AllPos s.1
front_pos at zero s t text g is = subst (λ (z : Pairs). AllPos z.1) g.0 is
front_pos at (suc k) s t text g is =
    let u = g.first.second in
    let all : AllPos g.value.1 = front_pos at k g.value t g.back g.second is in
    (pos_front s.1 u.value (subst (λ (z : Pairs). AllPos z.1) u.second.0 all)).0

abbrev of_pairs : Pairs → Settled
of_pairs s = (s.0, offsets s.1)

to_pair : (at : ℕ) (s t : Pairs) (text : List ℕ) → raw_pair at s t text → AllPos t.1 → pair at (of_pairs s) (of_pairs t) text
to_pair at s t text g is =
    let u = g.second in
    let p = pos_front s.1 u.value (subst (λ (z : Pairs). AllPos z.1) u.second.0 is) in
    record {
      value = g.value;
      front = g.front;
      back = g.back;
      first = g.first;
      whole = g.whole;
      second = record {
        value = nat_abs u.value;
        front = u.front;
        back = u.back;
        first = to_target w32 at u.value u.front u.first p.1;
        whole = u.whole;
        second = (ap of_pairs u.second.0 ∙ ap (λ z. (s.0 ++ g.value ∷ [], z)) (offsets_push s.1 u.value), u.second.1);
      };
    }

to_pairs : (at k : ℕ) (s t : Pairs) (text : List ℕ) → Times (raw_pair at) k s t text → AllPos t.1 → Times (pair at) k (of_pairs s) (of_pairs t) text
to_pairs at zero s t text g is = (ap of_pairs g.0, g.1)
to_pairs at (suc k) s t text g is =
    record {
      value = of_pairs g.value;
      front = g.front;
      back = g.back;
      whole = g.whole;
      first = to_pair at s g.value g.front g.first (front_pos at k g.value t g.back g.second is);
      second = to_pairs at k g.value t g.back g.second is;
    }

abbrev to_raw : Settled → Pairs
to_raw s = (s.0, from_start s.1)

of_pair : (at : ℕ) (s t : Settled) (text : List ℕ) → pair at s t text → raw_pair at (to_raw s) (to_raw t) text
of_pair at s t text g =
    let u = g.second in
    record {
      value = g.value;
      front = g.front;
      back = g.back;
      first = g.first;
      whole = g.whole;
      second = record {
        value = pos u.value;
        front = u.front;
        back = u.back;
        first = of_target w32 at u.value u.front u.first;
        whole = u.whole;
        second = (ap to_raw u.second.0 ∙ ap (λ z. (s.0 ++ g.value ∷ [], z)) (from_push s.1 u.value), u.second.1);
      };
    }

of_all_pairs : (at k : ℕ) (s t : Settled) (text : List ℕ) → Times (pair at) k s t text → Times (raw_pair at) k (to_raw s) (to_raw t) text
of_all_pairs at zero s t text g = (ap to_raw g.0, g.1)
of_all_pairs at (suc k) s t text g =
    record {
      value = to_raw g.value;
      front = g.front;
      back = g.back;
      whole = g.whole;
      first = of_pair at s g.value g.front g.first;
      second = of_all_pairs at k g.value t g.back g.second;
    }

to_lookup : (at : ℕ) (r : Operands) (text : List ℕ) → raw_lookup at r text → HasPos r → lookup at (args_of r) text
to_lookup at r text g is =
    let o = g.second in let n = o.second in let all = n.second.1 in let end = all.second.1 in
    let p : HasPos (raw.Look o.value all.value.0 all.value.1) = subst HasPos end.0 is in
    subst (λ (z : Operands). lookup at (args_of z) text) (sym end.0)
    (record {
      value = g.value;
      front = g.front;
      back = g.back;
      first = g.first;
      whole = g.whole;
      second = record {
        value = nat_abs o.value;
        front = o.front;
        back = o.back;
        first = to_target w32 at o.value o.front o.first p.0;
        whole = o.whole;
        second = record {
          value = n.value;
          front = n.front;
          back = n.back;
          first = n.first;
          whole = n.whole;
          second = (
            n.second.0,
            record {
              value = of_pairs all.value;
              front = all.front;
              back = all.back;
              whole = all.whole;
              first = to_pairs at n.value ([], []) all.value all.front all.first p.1;
              second = (all.second.0, (refl, end.1));
            },
          );
        };
      };
    })

of_lookup : (at : ℕ) (a : Args) (text : List ℕ) → lookup at a text → WasRead (raw_lookup at) a text
of_lookup at a text g =
    let o = g.second in let n = o.second in let all = n.second.1 in let end = all.second.1 in
    record {
      raw = raw.Look (pos o.value) all.value.0 (from_start all.value.1);
      is_pos = (refl, from_pos all.value.1);
      is = end.0 ∙ ap (λ ts. args.Look o.value all.value.0 ts) (sym (offsets_from all.value.1));
      text_of = record {
        value = g.value;
        front = g.front;
        back = g.back;
        first = g.first;
        whole = g.whole;
        second = record {
          value = pos o.value;
          front = o.front;
          back = o.back;
          first = of_target w32 at o.value o.front o.first;
          whole = o.whole;
          second = record {
            value = n.value;
            front = n.front;
            back = n.back;
            first = n.first;
            whole = n.whole;
            second = (
              n.second.0,
              record {
                value = to_raw all.value;
                front = all.front;
                back = all.back;
                whole = all.whole;
                first = of_all_pairs at n.value ([], []) all.value all.front all.first;
                second = (all.second.0, (refl, end.1));
              },
            );
          };
        };
      };
    }

-- ---- all operands

to_jump : (w : Width) (at : ℕ) (r : Operands) (text : List ℕ) → raw_jump w at r text → HasPos r → Then (target w at) (λ to. give (args.Branch to)) (args_of r) text
to_jump w at r text g is =
    let l = leaf {f = raw.Branch} g in
    let p : HasPos (raw.Branch l.0) = subst HasPos l.1 is in
    subst (λ (z : Operands). Then (target w at) (λ to. give (args.Branch to)) (args_of z) text) (sym l.1) (made {f = args.Branch} (nat_abs l.0) text (to_target w at l.0 text l.2 p))

of_jump : (w : Width) (at : ℕ) (a : Args) (text : List ℕ) → Then (target w at) (λ to. give (args.Branch to)) a text → WasRead (raw_jump w at) a text
of_jump w at a text g =
    let l = leaf {f = args.Branch} g in
    record { raw = raw.Branch (pos l.0); text_of = made {f = raw.Branch} (pos l.0) text (of_target w at l.0 text l.2); is_pos = refl; is = l.1 }

to_plain : (pool : List PoolEntry) (r : Row) (shape : Shape) (o : Operands) (text : List ℕ) → raw_plain pool r shape o text → plain pool r shape (args_of o) text
to_plain pool r shape o text g = let l = leaf {f = raw.Plain} g in subst (λ (z : Operands). plain pool r shape (args_of z) text) (sym l.1) l.2

of_plain : (pool : List PoolEntry) (r : Row) (shape : Shape) (a : Args) (text : List ℕ) → plain pool r shape a text → WasRead (raw_plain pool r shape) a text
of_plain pool r shape a text g = record { raw = raw.Plain a; text_of = made {f = raw.Plain} a text g; is_pos = tt; is = refl }

pub to_operands : (pool : List PoolEntry) (r : Row) (at : ℕ) (shape : Shape) (o : Operands) (text : List ℕ) → raw_operands pool r at shape o text → HasPos o → operands pool r at shape (args_of o) text
to_operands pool r at shapes.B2 o text g is = to_jump w16 at o text g is
to_operands pool r at shapes.B4 o text g is = to_jump w32 at o text g is
to_operands pool r at shapes.Tab o text g is = to_table at o text g is
to_operands pool r at shapes.Look o text g is = to_lookup at o text g is
to_operands pool r at shape o text g is = to_plain pool r shape o text g

pub of_operands : (pool : List PoolEntry) (r : Row) (at : ℕ) (shape : Shape) (a : Args) (text : List ℕ) → operands pool r at shape a text → WasRead (raw_operands pool r at shape) a text
of_operands pool r at shapes.B2 a text g = of_jump w16 at a text g
of_operands pool r at shapes.B4 a text g = of_jump w32 at a text g
of_operands pool r at shapes.Tab a text g = of_table at a text g
of_operands pool r at shapes.Look a text g = of_lookup at a text g
of_operands pool r at shape a text g = let w = of_plain pool r shape a text g in record { raw = w.raw; text_of = w.text_of; is_pos = w.is_pos; is = w.is }
