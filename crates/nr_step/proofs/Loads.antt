-- Loads and stores of local variables: their rules, told by the code.
use Rattle.std.proofs.Common.{◌≡◌, ℕ, suc, ◌-◌, ◌%◌, ◌≤◌, ℤ, List, [], ◌∷◌, length, Option, Some, None, IsSomeAnd, refl, sym, subst, ap, ◌∙◌, Bool, true, false, not, ◌&&◌, ◌||◌, ◌==◌, nat_le, slice_get, slice_set, rules}
use Rattle.std.specs.List.{list_all}
use Rattle.std.proofs.lemmas.Bool.{eqb-true}
use Rattle.nr_optable.specs.declared.table.Family.TheVariants.{F3, F4, F9}
use Rattle.nr_optable.specs.declared.table.Letter.{Letter}
use Rattle.nr_optable.specs.declared.table.Letter.TheVariants as letters
use Rattle.nr_optable.specs.declared.table.Row.{Row}
use Rattle.nr_optable.specs.declared.table.Shape.{Shape}
use Rattle.nr_optable.specs.declared.table.Shape.TheVariants as shapes
use Rattle.nr_optable.specs.Rows.{all_rows}
use Rattle.nr_prog.specs.declared.body.instruction.Args.{Args}
use Rattle.nr_prog.specs.declared.body.instruction.Args.TheVariants as args
use Rattle.nr_prog.specs.declared.body.instruction.Instr.{Instr}
use Rattle.nr_linked.specs.declared.program.tables.MethodInfo.{MethodInfo}
use Rattle.nr_linked.specs.declared.program.tables.ProgramTables.{ProgramTables}
use Rattle.nr_linked.specs.declared.program.tables.Resolved.{Resolved}
use Rattle.nr_linked.specs.LocalNumbers.{first_load, first_store, local_of}
use Rattle.nr_linked.specs.TypingFacts.{is_shaped}
use Rattle.nr_model.specs.declared.value.Value.{Value}
use Rattle.nr_model.specs.declared.value.Value.TheVariants.{Int, Long, Null, Ref}
use Rattle.nr_model.specs.Heaps.{Heap}
use Rattle.nr_model.specs.Rules.{first_letter, inc_rule}
use Rattle.nr_model.specs.Scripts.{Ending, GoTo, GoesTo, Runs, Script, Within}
use Rattle.nr_model.specs.Throws.{onward, typed, with_found}
use Rattle.nr_model.specs.ValueRules.{increment, load, store}
use Rattle.nr_step.specs.Instructions.{CanDo, IsRowOf, doing, is_load, is_store}
use Rattle.nr_step.specs.Windows.{CanBegin, view}
use Rattle.nr_step.proofs.ConstantRules.{Pushes}
use Rattle.nr_step.proofs.Families.{AllOf, rule_by}
use Rattle.nr_step.proofs.Rows.{IsRule, both, each_row, nothing_left}

-- ---- values of a letter's type

typed_pushed : (letter : Letter) (v : Value) (n : Option ℕ) (h : Heap) (ls vs : List Value) (u : Within) (e : Ending) → Runs (typed letter (onward n)) (view h ls (v ∷ vs)) e u → length u.operands ≡ suc (length vs)
typed_pushed letters.I (Int m) n h ls vs u e r = ap (λ (u : Within). length u.operands) (nothing_left n (view h ls (Int m ∷ vs)) u e r)
typed_pushed letters.I v n h ls vs u e r = absurd r
typed_pushed letters.J (Long m) n h ls vs u e r = ap (λ (u : Within). length u.operands) (nothing_left n (view h ls (Long m ∷ vs)) u e r)
typed_pushed letters.J v n h ls vs u e r = absurd r
typed_pushed letter (Int m) n h ls vs u e r = absurd r
typed_pushed letter (Long m) n h ls vs u e r = absurd r
typed_pushed letter Null n h ls vs u e r = ap (λ (u : Within). length u.operands) (nothing_left n (view h ls (Null ∷ vs)) u e r)
typed_pushed letter (Ref a) n h ls vs u e r = ap (λ (u : Within). length u.operands) (nothing_left n (view h ls (Ref a ∷ vs)) u e r)

pub load_pushed : (letter : Letter) (i : ℕ) (h : Heap) (ls vs : List Value) → Pushes (load letter i) (view h ls vs)
load_pushed letter i h ls vs = λ n u e r. go n u e (slice_get ls i) r
  where
    go : (n : Option ℕ) (u : Within) (e : Ending) (s : Option Value) → IsSomeAnd s (λ v. Runs (typed letter (onward n)) (view h ls (v ∷ vs)) e u) → length u.operands ≡ suc (length vs)
    go n u e None r = absurd r
    go n u e (Some v) r = typed_pushed letter v n h ls vs u e r

-- what can begin can begin in another heap
typed_elsewhere : (letter : Letter) (v : Value) (k : Script) (h j : Heap) (ls vs : List Value) (u : Within) (e : Ending) → Runs (typed letter k) (view h ls (v ∷ vs)) e u
    → Runs (typed letter (GoTo 0)) (view j ls (v ∷ vs)) (GoesTo 0) (view j ls (v ∷ vs))
typed_elsewhere letters.I (Int m) k h j ls vs u e r = (refl, refl)
typed_elsewhere letters.I v k h j ls vs u e r = absurd r
typed_elsewhere letters.J (Long m) k h j ls vs u e r = (refl, refl)
typed_elsewhere letters.J v k h j ls vs u e r = absurd r
typed_elsewhere letter (Int m) k h j ls vs u e r = absurd r
typed_elsewhere letter (Long m) k h j ls vs u e r = absurd r
typed_elsewhere letter Null k h j ls vs u e r = (refl, refl)
typed_elsewhere letter (Ref a) k h j ls vs u e r = (refl, refl)

pub load_elsewhere : (letter : Letter) (i : ℕ) (h j : Heap) (ls vs : List Value) → CanBegin (load letter i) (view h ls vs) → CanBegin (load letter i) (view j ls vs)
load_elsewhere letter i h j ls vs (k, e, u, r) = let x = go (slice_get ls i) r in (GoTo 0, GoesTo 0, x.0, x.1)
  where
    go : (s : Option Value) → IsSomeAnd s (λ v. Runs (typed letter k) (view h ls (v ∷ vs)) e u) → (w : Within) × IsSomeAnd s (λ v. Runs (typed letter (GoTo 0)) (view j ls (v ∷ vs)) (GoesTo 0) w)
    go None r = absurd r
    go (Some v) r = (view j ls (v ∷ vs), typed_elsewhere letter v k h j ls vs u e r)

-- ---- the same of stores

pub store_elsewhere : (letter : Letter) (i : ℕ) (h j : Heap) (ls vs : List Value) → CanBegin (store letter i) (view h ls vs) → CanBegin (store letter i) (view j ls vs)
store_elsewhere letter i h j ls vs (k, e, u, r) = let x = go letter vs r in (GoTo 0, GoesTo 0, x.0, x.1)
  where
    go : (letter : Letter) (vs : List Value) → Runs (store letter i k) (view h ls vs) e u → (w : Within) × Runs (store letter i (GoTo 0)) (view j ls vs) (GoesTo 0) w
    go letters.I [] r = absurd r
    go letters.I (Int m ∷ vs) r = (view j (slice_set ls i (Int m)) vs, (r.0, (refl, refl)))
    go letters.I (v ∷ vs) r = absurd r
    go letters.J [] r = absurd r
    go letters.J (Long m ∷ vs) r = (view j (slice_set ls i (Long m)) vs, (r.0, (refl, refl)))
    go letters.J (v ∷ vs) r = absurd r
    go letter [] r = absurd r
    go letter (Int m ∷ vs) r = absurd r
    go letter (Long m ∷ vs) r = absurd r
    go letter (Null ∷ vs) r = (view j (slice_set ls i Null) vs, (r.0, (refl, refl)))
    go letter (Ref a ∷ vs) r = (view j (slice_set ls i (Ref a)) vs, (r.0, (refl, refl)))

-- ---- by the operand

all_loads : AllOf is_load F3
unfolding all_rows
all_loads = refl

all_stores : AllOf is_store F4
unfolding all_rows
all_stores = refl

abbrev pub letter_loaded : Instr → Letter
letter_loaded i = first_letter i.row.pushes

abbrev pub letter_stored : Instr → Letter
letter_stored i = first_letter i.row.pops

pub load_rule : (P : ProgramTables) (own : MethodInfo) (i : Instr) (found : Resolved) (code n : ℕ) → IsRowOf code i.row → is_load code ≡ true → i.args ≡ args.Local n → IsRule P own i found (load (letter_loaded i) n)
load_rule P own i found code n r s a = λ k.
    rule_by is_load F3 all_loads P own i found code r s k ∙ ap (λ a. with_found (local_of (first_load (letter_loaded i)) i.row.code a) (λ n. load (letter_loaded i) n (onward k))) a

pub store_rule : (P : ProgramTables) (own : MethodInfo) (i : Instr) (found : Resolved) (code n : ℕ) → IsRowOf code i.row → is_store code ≡ true → i.args ≡ args.Local n → IsRule P own i found (store (letter_stored i) n)
store_rule P own i found code n r s a = λ k.
    rule_by is_store F4 all_stores P own i found code r s k ∙ ap (λ a. with_found (local_of (first_store (letter_stored i)) i.row.code a) (λ n. store (letter_stored i) n (onward k))) a

abbrev is_one_local : Shape → Bool
is_one_local shapes.L1 = true
is_one_local shape = false

one_local : (s : Shape) (a : Args) → is_one_local s ≡ true → is_shaped s a ≡ true → (n : ℕ) × (a ≡ args.Local n)
one_local shapes.L1 (args.Local n) p q = (n, refl)
one_local shapes.L1 a p q = absurd cc
one_local s a p q = absurd cc

shaped_so : list_all (λ (r : Row). not (is_load r.code || is_store r.code) || is_one_local r.shape) all_rows ≡ true
unfolding all_rows
shaped_so = refl

or_left : (b c : Bool) → b ≡ true → (b || c) ≡ true
or_left true c e = refl
or_left false c e = absurd cc

or_right : (b c : Bool) → c ≡ true → (b || c) ≡ true
or_right true c e = refl
or_right false c e = e

local_by : (code : ℕ) (i : Instr) → IsRowOf code i.row → (is_load code || is_store code) ≡ true → is_shaped i.row.shape i.args ≡ true → (n : ℕ) × (i.args ≡ args.Local n)
local_by code i r s q =
    one_local i.row.shape i.args (each_row (λ r. is_load r.code || is_store r.code) (λ r. is_one_local r.shape) shaped_so i.row r.listed (ap (λ c. is_load c || is_store c) r.code ∙ s)) q

pub load_local : (code : ℕ) (i : Instr) → IsRowOf code i.row → is_load code ≡ true → is_shaped i.row.shape i.args ≡ true → (n : ℕ) × (i.args ≡ args.Local n)
load_local code i r s q = local_by code i r (or_left (is_load code) (is_store code) s) q

pub store_local : (code : ℕ) (i : Instr) → IsRowOf code i.row → is_store code ≡ true → is_shaped i.row.shape i.args ≡ true → (n : ℕ) × (i.args ≡ args.Local n)
store_local code i r s q = local_by code i r (or_right (is_load code) (is_store code) s) q

-- ---- by the code

between : (a b n : ℕ) → a ≤ n → n ≤ b → (nat_le a n && nat_le n b) ≡ true
between a b n l h = search rules

abbrev is_plain : Shape → Bool
is_plain shapes.Plain = true
is_plain shape = false

plain_args : (s : Shape) (a : Args) → is_plain s ≡ true → is_shaped s a ≡ true → a ≡ args.Empty
plain_args shapes.Plain args.Empty p q = refl
plain_args shapes.Plain a p q = absurd cc
plain_args s a p q = absurd cc

abbrev numbered_load : ℕ → Bool
numbered_load c = nat_le 26 c && nat_le c 45

numbered_loads : AllOf numbered_load F3
unfolding all_rows
numbered_loads = refl

load_numbers : list_all (λ (r : Row). not (numbered_load r.code) || (is_plain r.shape && r.code - first_load (first_letter r.pushes) == (r.code - 26) % 4)) all_rows ≡ true
unfolding all_rows
load_numbers = refl

pub numbered_load_rule : (P : ProgramTables) (own : MethodInfo) (i : Instr) (found : Resolved) (code n : ℕ) → IsRowOf code i.row → 26 ≤ code → code ≤ 45 → is_shaped i.row.shape i.args ≡ true → n ≡ (code - 26) % 4
    → IsRule P own i found (load (letter_loaded i) n)
numbered_load_rule P own i found code n r l h q e = λ k.
    let t : numbered_load code ≡ true = between 26 45 code l h in
    let b = each_row (λ r. numbered_load r.code) (λ r. is_plain r.shape && r.code - first_load (first_letter r.pushes) == (r.code - 26) % 4) load_numbers i.row r.listed (ap numbered_load r.code ∙ t) in
    let p = both (is_plain i.row.shape) (i.row.code - first_load (letter_loaded i) == (i.row.code - 26) % 4) b in
    rule_by numbered_load F3 numbered_loads P own i found code r t k
    ∙ ap (λ a. with_found (local_of (first_load (letter_loaded i)) i.row.code a) (λ n. load (letter_loaded i) n (onward k))) (plain_args i.row.shape i.args p.0 q)
    ∙ ap (λ n. load (letter_loaded i) n (onward k)) (eqb-true (i.row.code - first_load (letter_loaded i)) ((i.row.code - 26) % 4) p.1 ∙ ap (λ c. (c - 26) % 4) r.code ∙ sym e)

abbrev numbered_store : ℕ → Bool
numbered_store c = nat_le 59 c && nat_le c 78

numbered_stores : AllOf numbered_store F4
unfolding all_rows
numbered_stores = refl

store_numbers : list_all (λ (r : Row). not (numbered_store r.code) || (is_plain r.shape && r.code - first_store (first_letter r.pops) == (r.code - 59) % 4)) all_rows ≡ true
unfolding all_rows
store_numbers = refl

pub numbered_store_rule : (P : ProgramTables) (own : MethodInfo) (i : Instr) (found : Resolved) (code n : ℕ) → IsRowOf code i.row → 59 ≤ code → code ≤ 78 → is_shaped i.row.shape i.args ≡ true → n ≡ (code - 59) % 4
    → IsRule P own i found (store (letter_stored i) n)
numbered_store_rule P own i found code n r l h q e = λ k.
    let t : numbered_store code ≡ true = between 59 78 code l h in
    let b = each_row (λ r. numbered_store r.code) (λ r. is_plain r.shape && r.code - first_store (first_letter r.pops) == (r.code - 59) % 4) store_numbers i.row r.listed (ap numbered_store r.code ∙ t) in
    let p = both (is_plain i.row.shape) (i.row.code - first_store (letter_stored i) == (i.row.code - 59) % 4) b in
    rule_by numbered_store F4 numbered_stores P own i found code r t k
    ∙ ap (λ a. with_found (local_of (first_store (letter_stored i)) i.row.code a) (λ n. store (letter_stored i) n (onward k))) (plain_args i.row.shape i.args p.0 q)
    ∙ ap (λ n. store (letter_stored i) n (onward k)) (eqb-true (i.row.code - first_store (letter_stored i)) ((i.row.code - 59) % 4) p.1 ∙ ap (λ c. (c - 59) % 4) r.code ∙ sym e)

-- ---- iinc

increments : AllOf (λ c. c == 132) F9
unfolding all_rows
increments = refl

pub iinc_is : (P : ProgramTables) (own : MethodInfo) (i : Instr) (found : Resolved) → IsRowOf 132 i.row → (n : Option ℕ) → doing P own i found n ≡ inc_rule i.args (onward n)
iinc_is P own i found r n = rule_by (λ c. c == 132) F9 increments P own i found 132 r refl n

to_inc : (a : Args) (k : Script) (w u : Within) (e : Ending) → Runs (inc_rule a k) w e u → (n : ℕ) × (by : ℤ) × (a ≡ args.Inc n by)
to_inc (args.Inc n by) k w u e r = (n, by, refl)
to_inc a k w u e r = absurd r

pub inc_there : (P : ProgramTables) (own : MethodInfo) (i : Instr) (found : Resolved) (w : Within) (room : ℕ) → IsRowOf 132 i.row → CanDo P own i found w room → (n : ℕ) × (by : ℤ) × (i.args ≡ args.Inc n by)
inc_there P own i found w room r can = to_inc i.args (onward can.next) w can.left can.ending (subst (λ sc. Runs sc w can.ending can.left) (iinc_is P own i found r can.next) can.runs)

pub iinc_rule : (P : ProgramTables) (own : MethodInfo) (i : Instr) (found : Resolved) (n : ℕ) (by : ℤ) → IsRowOf 132 i.row → i.args ≡ args.Inc n by → IsRule P own i found (increment n by)
iinc_rule P own i found n by r a = λ k. iinc_is P own i found r k ∙ ap (λ a. inc_rule a (onward k)) a
