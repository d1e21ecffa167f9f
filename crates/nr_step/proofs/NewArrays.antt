-- New arrays, and lengths of arrays.
use Rattle.std.proofs.Common.{◌≡◌, ℕ, ◌+◌, ◌<◌, ◌≤◌, ◌^◌, ℤ, pos, negsuc, List, [], ◌∷◌, length, replicate, Option, Some, None, IsSomeAnd, refl, sym, subst, ap, ◌∙◌, Bool, true, false, ◌==◌, ◌||◌, not, cond, slice_get, arith, to_z, w32}
use Rattle.std.specs.List.{list_all}
use Rattle.std.specs.FinMap.{entries, find, get, get-entries}
use Rattle.std.specs.Ordering.{is_eq, nat_cmp}
use Rattle.std.proofs.lemmas.Int.{ints}
use Rattle.nr_optable.specs.declared.table.Family.TheVariants.{F34, F35}
use Rattle.nr_optable.specs.declared.table.Row.{Row}
use Rattle.nr_optable.specs.declared.table.Shape.{Shape}
use Rattle.nr_optable.specs.declared.table.Shape.TheVariants as shapes
use Rattle.nr_optable.specs.Rows.{all_rows}
use Rattle.nr_prog.specs.declared.body.instruction.Args.{Args}
use Rattle.nr_prog.specs.declared.body.instruction.Args.TheVariants as args
use Rattle.nr_prog.specs.declared.body.instruction.Instr.{Instr}
use Rattle.nr_linked.specs.declared.program.built_in.BuiltIn.TheVariants.{NegativeArraySizeException}
use Rattle.nr_linked.specs.declared.program.kind.Base.{Base}
use Rattle.nr_linked.specs.declared.program.kind.Kind.{Kind}
use Rattle.nr_linked.specs.ArrayKinds.{primitive_of}
use Rattle.nr_linked.specs.declared.program.tables.MethodInfo.{MethodInfo}
use Rattle.nr_linked.specs.declared.program.tables.ProgramTables.{ProgramTables}
use Rattle.nr_linked.specs.declared.program.tables.Resolved.{Resolved}
use Rattle.nr_linked.specs.declared.program.tables.Resolved.TheVariants as resolved
use Rattle.nr_linked.specs.Kinds.{array_of, is_array}
use Rattle.nr_linked.specs.TypingFacts.{SiteFacts, is_shaped}
use Rattle.nr_model.specs.declared.value.Value.{Value}
use Rattle.nr_model.specs.declared.value.Value.TheVariants.{Int, Ref}
use Rattle.nr_model.specs.Heaps.{Heap, Obj, cells, cells_of, total_cells}
use Rattle.nr_model.specs.Outcomes.{max_cells}
use Rattle.nr_model.specs.ArrayRules.{make_array, new_array}
use Rattle.nr_model.specs.Rules.{array_rule}
use Rattle.nr_model.specs.Scripts.{AskKind, Drop, Ending, PlainInt, Push, Runs, Script, Within}
use Rattle.nr_model.specs.Throws.{not_null, onward, throw_new, which, with_found, zero_of}
use Rattle.nr_heap.specs.Contents.{Contents, HasMade, array_with, reached}
use Rattle.nr_step.specs.declared.flow.Flow.{Flow}
use Rattle.nr_step.specs.declared.flow.Flow.TheVariants as flows
use Rattle.nr_step.specs.declared.flow.Told.{Told}
use Rattle.nr_step.specs.Elements.{count_of}
use Rattle.nr_step.specs.Flows.{Doing, ThrewNew, Went}
use Rattle.nr_step.specs.Instructions.{CanDo, IsRowOf, doing, site_of}
use Rattle.nr_step.specs.Windows.{CanBegin, Leads, reference_to, view}
use Rattle.nr_step.proofs.Families.{AllOf, rule_by}
use Rattle.nr_step.proofs.Going.{went_by, went_thrown}
use Rattle.nr_step.proofs.Making.{fills_made, made_leads, none_made}
use Rattle.nr_step.proofs.Objects.{first_is, pass, passed, some_map}
use Rattle.nr_step.proofs.Rows.{IsRule, each_row}
use Rattle.nr_step.proofs.Tops.{run_off, run_on}

-- ---- arraylength

lengths : AllOf (λ c. c == 190) F35
unfolding all_rows
lengths = refl

-- what is asked of an array
abbrev pub asks_length : Script → Script
asks_length k = AskKind 0 (λ kind n. which (is_array kind) (Drop 0 (Push (PlainInt (pos n)) k)))

pub length_is : (P : ProgramTables) (own : MethodInfo) (i : Instr) (found : Resolved) → IsRowOf 190 i.row → IsRule P own i found (λ k. not_null P 0 (asks_length k))
length_is P own i found r = λ n. rule_by (λ c. c == 190) F35 lengths P own i found 190 r refl n

pub array_there : (P : ProgramTables) (a : ℕ) (h : Heap) (ls vs : List Value) → CanBegin (λ k. not_null P 0 (asks_length k)) (view h ls vs) → slice_get vs 0 ≡ Some (reference_to (Some a)) → IsSomeAnd (get h a) (λ o. is_array o.kind ≡ true)
array_there P a h ls vs (k, e, u, r) top =
    let f = first_is vs (Some a) top in
    some_map (get h a) (λ o. Runs (which (is_array o.kind) (Drop 0 (Push (PlainInt (pos (length o.slots))) k))) (view h ls (Ref a ∷ f.0)) e u) (λ o. is_array o.kind ≡ true)
    (run_off (not_null P 0 (asks_length k)) h ls vs (Ref a ∷ f.0) e u f.1 r) (λ o r. (passed (is_array o.kind) (Drop 0 (Push (PlainInt (pos (length o.slots))) k)) (view h ls (Ref a ∷ f.0)) u e r).0)

-- the number that len_of gave
pub length_seen : (h : Heap) (a : ℕ) (r : Option ℕ) (n : ℕ) → IsSomeAnd (get h a) (λ o. is_array o.kind ≡ true) → IsSomeAnd (get h a) (λ o. r ≡ cond (is_array o.kind) (Some (length o.slots)) None) → r ≡ Some n
    → IsSomeAnd (get h a) (λ o. length o.slots ≡ n)
length_seen h a r n s t q = go (get h a) s t
  where
    go : (g : Option Obj) → IsSomeAnd g (λ o. is_array o.kind ≡ true) → IsSomeAnd g (λ o. r ≡ cond (is_array o.kind) (Some (length o.slots)) None) → IsSomeAnd g (λ o. length o.slots ≡ n)
    go None s t = absurd s
    go (Some o) s t = let e : r ≡ Some (length o.slots) = t ∙ ap (λ b. cond b (Some (length o.slots)) None) s in cc

pub is_there : (h : Heap) (a : ℕ) (r : Option ℕ) → IsSomeAnd (get h a) (λ o. is_array o.kind ≡ true) → IsSomeAnd (get h a) (λ o. r ≡ cond (is_array o.kind) (Some (length o.slots)) None) → (n : ℕ) × (r ≡ Some n)
is_there h a r s t = go (get h a) s t
  where
    go : (g : Option Obj) → IsSomeAnd g (λ o. is_array o.kind ≡ true) → IsSomeAnd g (λ o. r ≡ cond (is_array o.kind) (Some (length o.slots)) None) → (n : ℕ) × (r ≡ Some n)
    go None s t = absurd s
    go (Some o) s t = (length o.slots, t ∙ ap (λ b. cond b (Some (length o.slots)) None) s)

pub length_leads : (P : ProgramTables) (a n : ℕ) (h : Heap) (ls vs us new : List Value) (x : Value) → slice_get vs 0 ≡ Some (reference_to (Some a)) → IsSomeAnd (get h a) (λ o. is_array o.kind ≡ true)
    → IsSomeAnd (get h a) (λ o. length o.slots ≡ n) → vs ≡ x ∷ us → new ≡ Int (pos n) ∷ us → Leads (λ k. not_null P 0 (asks_length k)) (view h ls vs) (view h ls new)
length_leads P a n h ls vs us new x top s t taken put = λ k e u r.
    let f = first_is vs (Some a) top in
    let q : us ≡ f.0 = tails x us (Ref a) f.0 (sym taken ∙ f.1) in
    run_on (not_null P 0 (asks_length k)) h ls vs (Ref a ∷ f.0) e u f.1 (go k e u f.0 (get h a) s t (run_off k h ls new (Int (pos n) ∷ f.0) e u (put ∙ ap (λ us. Int (pos n) ∷ us) q) r))
  where
    tails : (x : Value) (us : List Value) (y : Value) (ws : List Value) → x ∷ us ≡ y ∷ ws → us ≡ ws
    tails x us y ws e = cc

    go : (k : Script) (e : Ending) (u : Within) (us : List Value) (g : Option Obj) → IsSomeAnd g (λ o. is_array o.kind ≡ true) → IsSomeAnd g (λ o. length o.slots ≡ n) → Runs k (view h ls (Int (pos n) ∷ us)) e u
        → IsSomeAnd g (λ o. Runs (which (is_array o.kind) (Drop 0 (Push (PlainInt (pos (length o.slots))) k))) (view h ls (Ref a ∷ us)) e u)
    go k e u us None s t r = absurd s
    go k e u us (Some o) s t r =
        pass (is_array o.kind) (Drop 0 (Push (PlainInt (pos (length o.slots))) k)) (view h ls (Ref a ∷ us)) u e s (omega arith, subst (λ n. Runs k (view h ls (Int (pos n) ∷ us)) e u) (sym t) r)

-- an object's cells are some of the heap's
held_cells : (a : ℕ) (o : Obj) (es : List (ℕ × Obj)) → find nat_cmp a es ≡ Some o → cells_of o ≤ total_cells es
held_cells a o [] q = absurd cc
held_cells a o (e ∷ es) q = by (is_eq (nat_cmp a e.0)) q (held_cells a o es)
  where
    some_eq : {X : Type 0} {x y : X} → Some x ≡ Some y → x ≡ y
    some_eq e = cc

    by : (b : Bool) → cond b (Some e.1) (find nat_cmp a es) ≡ Some o → (find nat_cmp a es ≡ Some o → cells_of o ≤ total_cells es) → cells_of o ≤ cells_of e.1 + total_cells es
    by true q f = omega (arith, ap cells_of (some_eq q))
    by false q f = omega (arith, f q)

pub few_slots : (h : Heap) (a n : ℕ) → cells h ≤ max_cells → IsSomeAnd (get h a) (λ o. length o.slots ≡ n) → n < 2 ^ 31
few_slots h a n l s = go (get h a) refl s
  where
    go : (g : Option Obj) → get h a ≡ g → IsSomeAnd g (λ o. length o.slots ≡ n) → n < 2 ^ 31
    go None q s = absurd s
    go (Some o) q s = let c : cells_of o ≤ cells h = held_cells a o (entries h) (sym (get-entries h a) ∙ q) in omega (arith, c, l, s)

pub small : (n : ℕ) → n < 2 ^ 31 → to_z w32 n ≡ pos n
small n l = grind (arith, ints)

-- ---- new arrays

pub negative_thrown : (flow : Flow) (P : ProgramTables) (S : Doing) (e : Kind) (n : ℕ) (h j : Heap) (ls vs us : List Value) (told : Told) → vs ≡ Int (negsuc n) ∷ us → ((n : Option ℕ) → S n ≡ new_array P e (onward n))
    → ((w : Within) → w.heap ≡ h → ThrewNew flow (throw_new P NegativeArraySizeException) w told j) → Went flow P S (view h ls vs) told (view j ls vs)
negative_thrown flow P S e n h j ls vs us told is same x =
    went_by flow P S (λ n. new_array P e (onward n)) (view h ls vs) told (view j ls vs) same
    (went_thrown flow P (λ n. new_array P e (onward n)) (throw_new P NegativeArraySizeException) (view h ls vs) (view h ls us) told j refl refl
    (λ m en u r. run_on (new_array P e (onward m)) h ls vs (Int (negsuc n) ∷ us) en u is r)
    (λ m en u r. run_off (new_array P e (onward m)) h ls vs (Int (negsuc n) ∷ us) en u is r)
    (x (view h ls us) refl))

pub array_leads : (P : ProgramTables) (e : Kind) (n : ℕ) (old new : Contents) (name : ℕ) (ls vs us ws : List Value) → vs ≡ Int (pos n) ∷ us → HasMade old new name (array_with e n) → ws ≡ Ref name ∷ us
    → Leads (new_array P e) (view old.objects ls vs) (view new.objects ls ws)
array_leads P e n old new name ls vs us ws is m put = λ k en u r.
    run_on (new_array P e k) old.objects ls vs (Int (pos n) ∷ us) en u is (made_leads (array_of e) (replicate n (zero_of e)) old new name ls us ws m put k en u r)

pub array_fills : (P : ProgramTables) (S : Doing) (e : Kind) (n : ℕ) (h j : Heap) (ls vs us : List Value) (told : Told) → vs ≡ Int (pos n) ∷ us → ((n : Option ℕ) → S n ≡ new_array P e (onward n))
    → j ≡ h → told.cells ≡ reached h (array_with e n) → max_cells < told.cells → Went flows.Full P S (view h ls vs) told (view j ls vs)
array_fills P S e n h j ls vs us told is same kept q many =
    let x = fills_made P (λ n2. make_array e n (onward n2)) (array_of e) (replicate n (zero_of e)) h j ls us told (λ n. refl) kept q many in
    went_by flows.Full P S (λ n. new_array P e (onward n)) (view h ls vs) told (view j ls vs) same
    (ap (λ h. view h ls vs) kept, (many, λ m en u r. x.1.1 m en u (run_off (new_array P e (onward m)) h ls vs (Int (pos n) ∷ us) en u is r)))

pub array_unmade : (P : ProgramTables) (S : Doing) (e : Kind) (n : ℕ) (h j : Heap) (ls vs us : List Value) (told : Told) → vs ≡ Int (pos n) ∷ us → ((n : Option ℕ) → S n ≡ new_array P e (onward n)) → j ≡ h
    → reached h (array_with e n) ≤ max_cells → Went flows.NoMemory P S (view h ls vs) told (view j ls vs)
array_unmade P S e n h j ls vs us told is same kept few =
    let x = none_made P (λ n2. make_array e n (onward n2)) (array_of e) (replicate n (zero_of e)) h j ls us told (λ n. refl) kept few in
    went_by flows.NoMemory P S (λ n. new_array P e (onward n)) (view h ls vs) told (view j ls vs) same
    (ap (λ h. view h ls vs) kept, λ m en u r. x.1 m en u (run_off (new_array P e (onward m)) h ls vs (Int (pos n) ∷ us) en u is r))

-- ---- anewarray

arrays : AllOf (λ c. c == 189) F34
unfolding all_rows
arrays = refl

abbrev is_P2 : Shape → Bool
is_P2 shapes.P2 = true
is_P2 shape = false

pub pool_arg : (s : Shape) (a : Args) → is_P2 s ≡ true → is_shaped s a ≡ true → (n : ℕ) × (a ≡ args.Pool n)
pool_arg shapes.P2 (args.Pool n) p q = (n, refl)
pool_arg shapes.P2 a p q = absurd cc
pool_arg s a p q = absurd cc

pub a_count : (z : ℤ) (n : ℕ) → count_of z ≡ Some n → z ≡ pos n
a_count (pos m) n q = ap pos (some_eq q)
  where
    some_eq : Some m ≡ Some n → m ≡ n
    some_eq e = cc
a_count (negsuc m) n q = absurd cc

pub no_count : (z : ℤ) → count_of z ≡ None → (n : ℕ) × (z ≡ negsuc n)
no_count (pos m) q = absurd cc
no_count (negsuc m) q = (m, refl)

pool_shapes : list_all (λ (r : Row). not (r.code == 189) || is_P2 r.shape) all_rows ≡ true
unfolding all_rows
pool_shapes = refl

pub pool_there : (P : ProgramTables) (own : ℕ) (i : Instr) (found : Resolved) (n : Option ℕ) → IsRowOf 189 i.row → SiteFacts P own (site_of i found n) → (m : ℕ) × (i.args ≡ args.Pool m)
pool_there P own i found n r site = pool_arg i.row.shape i.args (each_row (λ r. r.code == 189) (λ r. is_P2 r.shape) pool_shapes i.row r.listed (ap (λ c. c == 189) r.code)) site.shaped

pub anewarray_is : (P : ProgramTables) (own : MethodInfo) (i : Instr) (found : Resolved) (m : ℕ) → IsRowOf 189 i.row → i.args ≡ args.Pool m → (n : Option ℕ) → doing P own i found n ≡ array_rule P (args.Pool m) found (onward n)
anewarray_is P own i found m r a n = rule_by (λ c. c == 189) F34 arrays P own i found 189 r refl n ∙ ap (λ a. array_rule P a found (onward n)) a

pub anewarray_rule : (P : ProgramTables) (own : MethodInfo) (i : Instr) (found : Resolved) (m : ℕ) (e : Kind) → IsRowOf 189 i.row → i.args ≡ args.Pool m → found ≡ resolved.Kind e → IsRule P own i found (new_array P e)
anewarray_rule P own i found m e r a f = λ n. anewarray_is P own i found m r a n ∙ ap (λ f. array_rule P (args.Pool m) f (onward n)) f

a_kind : (P : ProgramTables) (m : ℕ) (found : Resolved) (k : Script) (w u : Within) (e : Ending) → Runs (array_rule P (args.Pool m) found k) w e u → (j : Kind) × (found ≡ resolved.Kind j)
a_kind P m (resolved.Kind j) k w u e r = (j, refl)
a_kind P m found k w u e r = absurd r

pub element_found : (P : ProgramTables) (own : MethodInfo) (i : Instr) (found : Resolved) (m : ℕ) (w : Within) (room : ℕ) → IsRowOf 189 i.row → i.args ≡ args.Pool m → CanDo P own i found w room → (j : Kind) × (found ≡ resolved.Kind j)
element_found P own i found m w room r a can =
    a_kind P m found (onward can.next) w can.left can.ending (subst (λ sc. Runs sc w can.ending can.left) (anewarray_is P own i found m r a can.next) can.runs)

-- ---- newarray

primitives : AllOf (λ c. c == 188) F34
unfolding all_rows
primitives = refl

abbrev is_Prim : Shape → Bool
is_Prim shapes.Prim = true
is_Prim shape = false

prim_arg : (s : Shape) (a : Args) → is_Prim s ≡ true → is_shaped s a ≡ true → (n : ℕ) × (a ≡ args.Prim n)
prim_arg shapes.Prim (args.Prim n) p q = (n, refl)
prim_arg shapes.Prim a p q = absurd cc
prim_arg s a p q = absurd cc

prim_shapes : list_all (λ (r : Row). not (r.code == 188) || is_Prim r.shape) all_rows ≡ true
unfolding all_rows
prim_shapes = refl

pub prim_there : (P : ProgramTables) (own : ℕ) (i : Instr) (found : Resolved) (n : Option ℕ) → IsRowOf 188 i.row → SiteFacts P own (site_of i found n) → (m : ℕ) × (i.args ≡ args.Prim m)
prim_there P own i found n r site = prim_arg i.row.shape i.args (each_row (λ r. r.code == 188) (λ r. is_Prim r.shape) prim_shapes i.row r.listed (ap (λ c. c == 188) r.code)) site.shaped

newarray_is : (P : ProgramTables) (own : MethodInfo) (i : Instr) (found : Resolved) (m : ℕ) → IsRowOf 188 i.row → i.args ≡ args.Prim m → (n : Option ℕ) → doing P own i found n ≡ array_rule P (args.Prim m) found (onward n)
newarray_is P own i found m r a n = rule_by (λ c. c == 188) F34 primitives P own i found 188 r refl n ∙ ap (λ a. array_rule P a found (onward n)) a

abbrev pub primitive_kind : Base → Kind
primitive_kind base = record { dims = 0; base = base }

pub newarray_rule : (P : ProgramTables) (own : MethodInfo) (i : Instr) (found : Resolved) (m : ℕ) (b : Base) → IsRowOf 188 i.row → i.args ≡ args.Prim m → primitive_of m ≡ Some b → IsRule P own i found (new_array P (primitive_kind b))
newarray_rule P own i found m b r a f = λ n. newarray_is P own i found m r a n ∙ ap (λ o. with_found o (λ base. new_array P (primitive_kind base) (onward n))) f

a_primitive : (P : ProgramTables) (o : Option Base) (k : Script) (w u : Within) (e : Ending) → Runs (with_found o (λ base. new_array P (primitive_kind base) k)) w e u → (b : Base) × (o ≡ Some b)
a_primitive P None k w u e r = absurd r
a_primitive P (Some b) k w u e r = (b, refl)

pub primitive_found : (P : ProgramTables) (own : MethodInfo) (i : Instr) (found : Resolved) (m : ℕ) (w : Within) (room : ℕ) → IsRowOf 188 i.row → i.args ≡ args.Prim m → CanDo P own i found w room → (b : Base) × (primitive_of m ≡ Some b)
primitive_found P own i found m w room r a can =
    a_primitive P (primitive_of m) (onward can.next) w can.left can.ending (subst (λ sc. Runs sc w can.ending can.left) (newarray_is P own i found m r a can.next) can.runs)
