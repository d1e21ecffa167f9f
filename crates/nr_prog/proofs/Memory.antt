-- Reading, as it is defined, takes no memory: no reader of descriptors tells want of it.
use Rattle.std.proofs.Common.{◌≡◌, ℕ, zero, suc, ◌*◌, ◌+◌, ◌-◌, Bool, true, false, cond, eqb, leb, ltb, List, [], length, Result, Ok, Err}
use Rattle.std.specs.Prelude.{◌||◌}
use Rattle.nr_base.specs.Place.{Place, at_of}
use Rattle.nr_base.specs.ModifiedUtf8.{within}
use Rattle.nr_base.specs.LegalNames.{is_reserved}
use Rattle.nr_base.specs.Names.{byte_at as name_byte_at, six_bits_at, two_at, three_at, unit_at}
use Rattle.nr_base.specs.Descs.{slots}
use Rattle.nr_base.specs.DescReading.{of_short, of_name, byte_at, letter_at, class_letter_at, class_at, base_at, type_at, param_at, params_at, result_at, method_at, counted, method_of}
use Rattle.nr_base.specs.Reader.{Reader, after, bind, pure, refuse, choose, from, map_fault, with_fault, repeat, while_more, span_from, spanned, ended, whole}
use Rattle.nr_base.specs.declared.name.fault.NameFault.{NameFault}
use Rattle.nr_base.specs.declared.name.fault.NameFault.TheVariants as names
use Rattle.nr_base.specs.declared.desc.fault.DescFault.{DescFault}
use Rattle.nr_base.specs.declared.desc.fault.DescFault.TheVariants as faults
use Rattle.nr_base.specs.declared.desc.types.Desc.{Desc}
use Rattle.nr_base.specs.declared.desc.types.MethodDesc.{MethodDesc}

-- a reader never tells the fault d
record Never {A F : Type 0} (d : F) (r : Reader F A) : Type 0 where
  never : (p : Place) → r p ≡ Err d → ⊥

pure_never : {A F : Type 0} (d : F) (x : A) → Never d (pure x)
unfolding pure
pure_never d x = record { never = λ p e. absurd cc }

refuse_never : {A F : Type 0} (d f : F) → (f ≡ d → ⊥) → Never {A = A} d (refuse f)
unfolding refuse
refuse_never d f ne = record { never = λ p e. ne cc }

after_never : {A B F : Type 0} (d : F) (a : Result (A × Place) F) (f : A → Reader F B) → (a ≡ Err d → ⊥) → ((x : A) → Never d (f x)) → after a f ≡ Err d → ⊥
after_never d (Ok x) f ne fs e = (fs x.0).never x.1 e
after_never d (Err g) f ne fs e = ne cc

bind_never : {A B F : Type 0} (d : F) {r : Reader F A} {f : A → Reader F B} → Never d r → ((x : A) → Never d (f x)) → Never d (bind r f)
unfolding bind
bind_never d {r = r} {f = f} rs fs = record { never = λ p e. after_never d (r p) f (rs.never p) fs e }

choose_never : {A F : Type 0} (d : F) (b : Bool) {r s : Reader F A} → Never d r → Never d s → Never d (choose b r s)
unfolding choose
choose_never d true rs ss = record { never = rs.never }
choose_never d false rs ss = record { never = ss.never }

from_never : {A F : Type 0} (d : F) {f : ℕ → Reader F A} → ((at : ℕ) → Never d (f at)) → Never d (from f)
unfolding from
from_never d rs = record { never = λ p e. (rs (at_of p)).never p e }

mapped_never : {A E F : Type 0} (d : F) (f : E → F) (a : Result A E) → ((g : E) → a ≡ Err g → f g ≡ d → ⊥) → map_fault f a ≡ Err d → ⊥
mapped_never d f (Ok x) ne e = absurd cc
mapped_never d f (Err g) ne e = ne g (λ i. Err g) cc

with_fault_never : {A E F : Type 0} (d : F) (f : E → F) {r : Reader E A} → ((p : Place) (g : E) → r p ≡ Err g → f g ≡ d → ⊥) → Never d (with_fault f r)
unfolding with_fault
with_fault_never d f {r = r} ne = record { never = λ p e. mapped_never d f (r p) (ne p) e }

repeat_never : {S F : Type 0} (d : F) (step : S → Reader F (Bool × S)) → ((s : S) → Never d (step s)) → (k : ℕ) (s : S) → Never d (repeat step k s)
unfolding repeat
repeat_never d step steps zero s = bind_never d (steps s) (λ x. pure_never d x.1)
repeat_never d step steps (suc k) s = bind_never d (steps s) (λ x. choose_never d x.0 (repeat_never d step steps k x.1) (pure_never d x.1))

while_never : {S F : Type 0} (d : F) (step : S → Reader F (Bool × S)) → ((s : S) → Never d (step s)) → (s : S) → Never d (while_more step s)
unfolding while_more
while_never d step steps s = record { never = λ p e. (repeat_never d step steps (length p.rest) s).never p e }

span_never : {A F : Type 0} (d : F) (before : List ℕ) (a : Result (A × Place) F) → (a ≡ Err d → ⊥) → span_from before a ≡ Err d → ⊥
span_never d before (Ok x) ne e = absurd cc
span_never d before (Err g) ne e = ne cc

spanned_never : {A F : Type 0} (d : F) {r : Reader F A} → Never d r → Never d (spanned r)
unfolding spanned
spanned_never d {r = r} rs = record { never = λ p e. span_never d p.rest (r p) (rs.never p) e }

-- ---- units of names

name_byte_never : (at : ℕ) → Never names.NoMemory (name_byte_at at)
unfolding name_byte_at
name_byte_never at = with_fault_never _ (λ _. names.BadUtf at) (λ p g was e. absurd cc)

six_never : (at : ℕ) → Never names.NoMemory (six_bits_at at)
unfolding six_bits_at
six_never at = bind_never _ (name_byte_never at) (λ b. choose_never _ (within 0x80 0xBF b) (pure_never _ (b - 0x80)) (refuse_never _ _ (λ e. absurd cc)))

which_never : (b : Bool) (at : ℕ) → (cond b (names.ZeroChar at) (names.BadUtf at)) ≡ names.NoMemory → ⊥
which_never true at e = absurd cc
which_never false at e = absurd cc

two_never : (at high : ℕ) → Never names.NoMemory (two_at at high)
unfolding two_at
two_never at high = bind_never _ (six_never at) (λ low. choose_never _ (leb 0x80 (high * 64 + low)) (pure_never _ _) (refuse_never _ _ (which_never (eqb (high * 64 + low) 0) at)))

three_never : (at high : ℕ) → Never names.NoMemory (three_at at high)
unfolding three_at
three_never at high = bind_never _ (six_never at) (λ middle. bind_never _ (six_never at) (λ low. choose_never _ (leb 0x800 ((high * 64 + middle) * 64 + low)) (pure_never _ _) (refuse_never _ _ (λ e. absurd cc))))

unit_never : Never names.NoMemory unit_at
unfolding unit_at
unit_never = from_never _ (λ at. bind_never _ (name_byte_never at) (λ first.
    choose_never _ (within 1 0x7F first) (pure_never _ first)
    (choose_never _ (within 0xC0 0xDF first) (two_never at (first - 0xC0))
    (choose_never _ (within 0xE0 0xEF first) (three_never at (first - 0xE0)) (refuse_never _ _ (λ e. absurd cc))))))

-- ---- descriptors

byte_never : Never faults.NoMemory byte_at
unfolding byte_at
byte_never = with_fault_never _ of_short (λ p g was e. absurd cc)

of_name_never : (p : Place) (g : NameFault) → unit_at p ≡ Err g → of_name g ≡ faults.NoMemory → ⊥
of_name_never p (names.BadUtf at) was e = absurd cc
of_name_never p (names.ZeroChar at) was e = absurd cc
of_name_never p names.NoMemory was e = unit_never.never p was

letter_never : Never faults.NoMemory letter_at
unfolding letter_at
letter_never = with_fault_never _ of_name of_name_never

class_letter_never : (begun : Bool) → Never faults.NoMemory (class_letter_at begun)
unfolding class_letter_at
class_letter_never begun = from_never _ (λ at. bind_never _ letter_never (λ letter.
    choose_never _ (eqb letter 0x3B) (choose_never _ begun (pure_never _ _) (refuse_never _ _ (λ e. absurd cc)))
    (choose_never _ (eqb letter 0x2F) (choose_never _ begun (pure_never _ _) (refuse_never _ _ (λ e. absurd cc)))
    (choose_never _ (is_reserved letter) (refuse_never _ _ (λ e. absurd cc)) (pure_never _ _)))))

class_never : Never faults.NoMemory class_at
unfolding class_at
class_never = bind_never _ (spanned_never _ (while_never _ class_letter_at class_letter_never false)) (λ text. pure_never _ _)

base_never : (at letter : ℕ) → Never faults.NoMemory (base_at at letter)
unfolding base_at
base_never at letter =
    choose_never _ (eqb letter 0x5A) (pure_never _ _)
    (choose_never _ (eqb letter 0x42) (pure_never _ _)
    (choose_never _ (eqb letter 0x43) (pure_never _ _)
    (choose_never _ (eqb letter 0x53) (pure_never _ _)
    (choose_never _ (eqb letter 0x49) (pure_never _ _)
    (choose_never _ (eqb letter 0x4A) (pure_never _ _)
    (choose_never _ (eqb letter 0x4C) (bind_never _ class_never (λ name. pure_never _ _))
    (choose_never _ (eqb letter 0x46 || eqb letter 0x44) (refuse_never _ _ (λ e. absurd cc)) (refuse_never _ _ (λ e. absurd cc)))))))))

type_never : (left at letter : ℕ) → Never faults.NoMemory (type_at left at letter)
unfolding type_at
type_never zero at letter = choose_never _ (eqb letter 0x5B) (refuse_never _ _ (λ e. absurd cc)) (bind_never _ (base_never at letter) (λ base. pure_never _ _))
type_never (suc k) at letter = choose_never _ (eqb letter 0x5B)
    (from_never _ (λ next. bind_never _ byte_never (λ l. type_never k next l)))
    (bind_never _ (base_never at letter) (λ base. pure_never _ _))

param_never : (params : List Desc) → Never faults.NoMemory (param_at params)
unfolding param_at
param_never params = from_never _ (λ at. bind_never _ byte_never (λ letter.
    choose_never _ (eqb letter 0x29) (pure_never _ _) (bind_never _ (type_never 255 at letter) (λ d. pure_never _ _))))

params_never : Never faults.NoMemory params_at
unfolding params_at
params_never = while_never _ param_at param_never []

result_never : Never faults.NoMemory result_at
unfolding result_at
result_never = from_never _ (λ at. bind_never _ byte_never (λ letter.
    choose_never _ (eqb letter 0x56) (pure_never _ _) (bind_never _ (type_never 255 at letter) (λ d. pure_never _ _))))

method_never : Never faults.NoMemory method_at
unfolding method_at
method_never = from_never _ (λ at. bind_never _ byte_never (λ letter.
    choose_never _ (eqb letter 0x28) (bind_never _ params_never (λ params. bind_never _ result_never (λ result. pure_never _ _))) (refuse_never _ _ (λ e. absurd cc))))

-- ---- whole descriptors of methods

ended_never : (a : Result (MethodDesc × Place) DescFault) → (a ≡ Err faults.NoMemory → ⊥) → counted (ended faults.BadDesc a) ≡ Err faults.NoMemory → ⊥
ended_never (Ok x) ne e = left_never x (eqb (length x.1.rest) 0) e
  where
    count_never : (m : MethodDesc) (b : Bool) → cond b (Err (faults.TooManyArgs (slots m.params))) (Ok m) ≡ Err faults.NoMemory → ⊥
    count_never m true e = absurd cc
    count_never m false e = absurd cc

    left_never : (x : MethodDesc × Place) (b : Bool) → counted (cond b (Ok x.0) (Err (faults.BadDesc (at_of x.1)))) ≡ Err faults.NoMemory → ⊥
    left_never x true e = count_never x.0 (ltb 254 (slots x.0.params)) e
    left_never x false e = absurd cc
ended_never (Err f) ne e = ne cc

pub method_of_never : (bytes : List ℕ) → method_of bytes ≡ Err faults.NoMemory → ⊥
unfolding whole
method_of_never bytes e = ended_never (method_at (record { total = length bytes; rest = bytes })) (method_never.never _) e
