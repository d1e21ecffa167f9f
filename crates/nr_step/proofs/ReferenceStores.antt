-- Stores of references into arrays.
use Rattle.std.proofs.Common.{◌≡◌, ◌<◌, ℕ, zero, suc, ℤ, List, [], ◌∷◌, length, Option, Some, None, IsSomeAnd, MatchBool, refl, sym, subst, ap, ◌∙◌, Bool, true, false, not, ◌||◌, ◌==◌, cond, slice_get, arith, ◌-◌}
use Rattle.std.specs.List.{list_all}
use Rattle.std.specs.FinMap.{get}
use Rattle.nr_optable.specs.declared.table.Family.TheVariants.{F11}
use Rattle.nr_optable.specs.declared.table.Letter.{Letter}
use Rattle.nr_optable.specs.declared.table.Letter.TheVariants as letters
use Rattle.nr_optable.specs.declared.table.Row.{Row}
use Rattle.nr_optable.specs.Rows.{all_rows}
use Rattle.nr_prog.specs.declared.body.instruction.Instr.{Instr}
use Rattle.nr_linked.specs.declared.program.built_in.BuiltIn.TheVariants.{ArrayStoreException}
use Rattle.nr_linked.specs.declared.program.kind.Kind.{Kind}
use Rattle.nr_linked.specs.declared.program.tables.MethodInfo.{MethodInfo}
use Rattle.nr_linked.specs.declared.program.tables.ProgramTables.{ProgramTables}
use Rattle.nr_linked.specs.declared.program.tables.Resolved.{Resolved}
use Rattle.nr_linked.specs.ArrayKinds.{References}
use Rattle.nr_linked.specs.Kinds.{element_of}
use Rattle.nr_linked.specs.Subtypes.{is_sub}
use Rattle.nr_model.specs.declared.value.Value.{Value}
use Rattle.nr_model.specs.declared.value.Value.TheVariants.{Int, Long, Null, Ref}
use Rattle.nr_model.specs.Belonging.{IfName}
use Rattle.nr_model.specs.Heaps.{Heap, Obj, on_some}
use Rattle.nr_model.specs.ArrayRules.{array_store, storable}
use Rattle.nr_model.specs.Rules.{third_letter}
use Rattle.nr_model.specs.Scripts.{AskKind, Drop, Ending, IsIn, OnObject, OnReference, Pick, PopInt, Runs, Script, Within, WriteSlot, is_null, with_slot}
use Rattle.nr_model.specs.Throws.{onward, throw_new}
use Rattle.nr_heap.specs.Contents.{IsOfBase, IsOfKind}
use Rattle.nr_step.specs.declared.flow.Flow.{Flow}
use Rattle.nr_step.specs.declared.flow.Told.{Told}
use Rattle.nr_step.specs.Elements.{may_stand, place_of}
use Rattle.nr_step.specs.Flows.{Doing, ThrewNew, Went}
use Rattle.nr_step.specs.Instructions.{IsRowOf}
use Rattle.nr_step.specs.Windows.{CanBegin, IntOnTop, Leads, ReferenceAt, reference_to, top_first, view}
use Rattle.nr_step.proofs.ArrayRules.{IsArrayOf, place_there}
use Rattle.nr_step.proofs.ArrayStores.{Over, at_element, element_array, element_asks, in_from, in_to}
use Rattle.nr_step.proofs.Asks.{in_use}
use Rattle.nr_step.proofs.Families.{AllOf, rule_by}
use Rattle.nr_step.proofs.Going.{went_by, went_thrown}
use Rattle.nr_step.proofs.Objects.{asks_null}
use Rattle.nr_step.proofs.Rows.{IsRule, each_row}
use Rattle.nr_step.proofs.Tops.{run_off, run_on}

-- ---- the rule

reference_stores : AllOf (λ c. c == 83) F11
unfolding all_rows
reference_stores = refl

abbrev is_A : Letter → Bool
is_A letters.A = true
is_A letter = false

of_A : (l : Letter) → is_A l ≡ true → l ≡ letters.A
of_A letters.A p = refl
of_A l p = absurd cc

reference_letters : list_all (λ (r : Row). not (r.code == 83) || is_A (third_letter r.pops)) all_rows ≡ true
unfolding all_rows
reference_letters = refl

-- what is done at the place
abbrev pub kept_reference : ProgramTables → Script → Kind → ℕ → Script
kept_reference P s e j = storable P e (Drop 1 (WriteSlot j s))

abbrev pub reference_stored : ProgramTables → Script → Script
reference_stored P k = Pick 1 (PopInt (λ i. at_element P 2 References i (kept_reference P k)))

pub reference_store_rule : (P : ProgramTables) (own : MethodInfo) (i : Instr) (found : Resolved) → IsRowOf 83 i.row → IsRule P own i found (reference_stored P)
reference_store_rule P own i found r = λ n.
    rule_by (λ c. c == 83) F11 reference_stores P own i found 83 r refl n
    ∙ ap (λ l. array_store P l i.row.code (onward n)) (of_A (third_letter i.row.pops) (each_row (λ r. r.code == 83) (λ r. is_A (third_letter r.pops)) reference_letters i.row r.listed (ap (λ c. c == 83) r.code)))
    ∙ ap (λ c. array_store P letters.A c (onward n)) r.code

-- ---- the value and the index, which stay on top

pub reference_over : (P : ProgramTables) (v : Value) (i : ℤ) (vs us rest : List Value) → vs ≡ v ∷ us → us ≡ Int i ∷ rest → Over (reference_stored P) vs vs (λ s. at_element P 2 References i (kept_reference P s))
reference_over P v i vs us rest p q = λ s h ls e u.
    let is : vs ≡ v ∷ Int i ∷ rest = p ∙ ap (λ us. v ∷ us) q in (
      λ r. run_on (at_element P 2 References i (kept_reference P s)) h ls vs (v ∷ Int i ∷ rest) e u is (run_off (reference_stored P s) h ls vs (v ∷ Int i ∷ rest) e u is r),
      λ r. run_on (reference_stored P s) h ls vs (v ∷ Int i ∷ rest) e u is (run_off (at_element P 2 References i (kept_reference P s)) h ls vs (v ∷ Int i ∷ rest) e u is r),
    )

pub value_there : (P : ProgramTables) (h : Heap) (ls s : List Value) (d : ℕ) → CanBegin (reference_stored P) (view h ls (top_first s d)) → 0 < d
value_there P h ls s d (k, e, u, r) =
    let l = in_use s d 1 (λ x. Runs (PopInt (λ i. at_element P 2 References i (kept_reference P k))) (view h ls (x ∷ top_first s d)) e u) r in
    omega (arith, l)

pub index_there : (P : ProgramTables) (v : Value) (h : Heap) (ls vs us : List Value) → CanBegin (reference_stored P) (view h ls vs) → vs ≡ v ∷ us → IntOnTop us
index_there P v h ls vs us (k, e, u, r) is = by us (run_off (reference_stored P k) h ls vs (v ∷ us) e u is r)
  where
    by : (us : List Value) → Runs (reference_stored P k) (view h ls (v ∷ us)) e u → IntOnTop us
    by [] r = absurd r
    by (Int n ∷ us) r = tt
    by (Long n ∷ us) r = absurd r
    by (Null ∷ us) r = absurd r
    by (Ref a ∷ us) r = absurd r

-- what is left once the index is known
abbrev pub stored_at : ProgramTables → ℤ → Script → Script
stored_at P i k = at_element P 2 References i (kept_reference P k)

pub index_begins : (P : ProgramTables) (v : Value) (i : ℤ) (h : Heap) (ls vs us rest : List Value) → CanBegin (reference_stored P) (view h ls vs) → vs ≡ v ∷ us → us ≡ Int i ∷ rest → CanBegin (stored_at P i) (view h ls vs)
index_begins P v i h ls vs us rest (k, e, u, r) p q = (k, e, u, (reference_over P v i vs us rest p q k h ls e u).0 r)

-- the reference below the value and the index
pub array_asks : (P : ProgramTables) (v : Value) (i : ℤ) (h : Heap) (ls vs us rest : List Value) → CanBegin (stored_at P i) (view h ls vs) → vs ≡ v ∷ us → us ≡ Int i ∷ rest → ReferenceAt rest 0
array_asks P v i h ls vs us rest (k, e, u, r) p q =
    subst (λ o. IsSomeAnd o (λ v. OnReference v (λ r. Unit {0}))) (ap (λ vs. slice_get vs 2) (p ∙ ap (λ us. v ∷ us) q)) (element_asks P 2 References i (kept_reference P k) h ls vs e u r)

pub array_at : (P : ProgramTables) (i : ℤ) (a : ℕ) (h : Heap) (ls vs : List Value) → CanBegin (stored_at P i) (view h ls vs) → slice_get vs 2 ≡ Some (reference_to (Some a)) → IsArrayOf h a References
array_at P i a h ls vs (k, e, u, r) t = element_array P 2 References i (kept_reference P k) a h ls vs e u t r

pub array_below : (v : Value) (i : ℤ) (vs us rest : List Value) (x : Option Value) → vs ≡ v ∷ us → us ≡ Int i ∷ rest → slice_get rest 0 ≡ x → slice_get vs 2 ≡ x
array_below v i vs us rest x p q t = ap (λ vs. slice_get vs 2) (p ∙ ap (λ us. v ∷ us) q) ∙ t

-- ---- whether the value may stand there

-- the object is there, if it is one
abbrev pub IsThere : Heap → Option ℕ → Type 0
IsThere h r = IfName r (λ a. IsSomeAnd (get h a) (λ o. Unit {0}))

-- what is done, by the test
abbrev pub by_test : ProgramTables → Bool → Script → Script
by_test P b k = cond b k (throw_new P ArrayStoreException)

abbrev asks : ProgramTables → Kind → Script → Within → Ending → Within → Value → Type 0
asks P e k w en u v = OnReference v (λ r. Runs (cond (is_null r) k (AskKind 0 (λ kind n. by_test P (is_sub P kind e) k))) w en u)

abbrev tests : ProgramTables → Kind → Script → Within → Ending → Within → Value → Type 0
tests P e k w en u v = OnObject w.heap v (λ a o. Runs (by_test P (is_sub P o.kind e) k) w en u)

pub storable_to : (P : ProgramTables) (e : Kind) (k : Script) (r : Option ℕ) (h : Heap) (ls vs : List Value) (en : Ending) (u : Within) → slice_get vs 0 ≡ Some (reference_to r) → IsThere h r
    → Runs (by_test P (may_stand P h e r) k) (view h ls vs) en u → Runs (storable P e k) (view h ls vs) en u
storable_to P e k None h ls vs en u top there x = subst (λ s. IsSomeAnd s (asks P e k (view h ls vs) en u)) (sym top) x
storable_to P e k (Some a) h ls vs en u top there x =
    subst (λ s. IsSomeAnd s (asks P e k (view h ls vs) en u)) (sym top) (subst (λ s. IsSomeAnd s (tests P e k (view h ls vs) en u)) (sym top) (go (get h a) there x))
  where
    go : (g : Option Obj) → IsSomeAnd g (λ o. Unit {0}) → Runs (by_test P (on_some g false (λ o. is_sub P o.kind e)) k) (view h ls vs) en u → IsSomeAnd g (λ o. Runs (by_test P (is_sub P o.kind e) k) (view h ls vs) en u)
    go None t x = absurd t
    go (Some o) t x = x

pub storable_from : (P : ProgramTables) (e : Kind) (k : Script) (r : Option ℕ) (h : Heap) (ls vs : List Value) (en : Ending) (u : Within) → slice_get vs 0 ≡ Some (reference_to r)
    → Runs (storable P e k) (view h ls vs) en u → IsThere h r × Runs (by_test P (may_stand P h e r) k) (view h ls vs) en u
storable_from P e k None h ls vs en u top x = (tt, subst (λ s. IsSomeAnd s (asks P e k (view h ls vs) en u)) top x)
storable_from P e k (Some a) h ls vs en u top x =
    go (get h a) (subst (λ s. IsSomeAnd s (tests P e k (view h ls vs) en u)) top (subst (λ s. IsSomeAnd s (asks P e k (view h ls vs) en u)) top x))
  where
    go : (g : Option Obj) → IsSomeAnd g (λ o. Runs (by_test P (is_sub P o.kind e) k) (view h ls vs) en u)
        → IsSomeAnd g (λ o. Unit {0}) × Runs (by_test P (on_some g false (λ o. is_sub P o.kind e)) k) (view h ls vs) en u
    go None x = absurd x
    go (Some o) x = (tt, x)

-- ---- at the place

-- what has been found: the array and the place
pub record AtPlace (P : ProgramTables) (h : Heap) (ls vs : List Value) (i : ℤ) (a j : ℕ) : Type 0 where
  pub array : IsArrayOf h a References
  pub named : slice_get vs 2 ≡ Some (reference_to (Some a))
  pub place : place_of i (length array.object.slots) ≡ Some j
  pub begun : CanBegin (stored_at P i) (view h ls vs)

pub value_asks : (P : ProgramTables) (h : Heap) (ls vs : List Value) (i : ℤ) (a j : ℕ) → AtPlace P h ls vs i a j → ReferenceAt vs 0
value_asks P h ls vs i a j x =
    asks_null 0 (λ null. cond null (Drop 1 (WriteSlot j x.begun.0)) (AskKind 0 (λ kind n. by_test P (is_sub P kind x.array.element) (Drop 1 (WriteSlot j x.begun.0))))) h ls vs x.begun.1 x.begun.2
    (in_from P 2 References i (kept_reference P x.begun.0) a j h ls vs x.begun.1 x.begun.2 x.named x.array x.place x.begun.3)

pub value_is_there : (P : ProgramTables) (h : Heap) (ls vs : List Value) (i : ℤ) (a j : ℕ) (r : Option ℕ) → AtPlace P h ls vs i a j → slice_get vs 0 ≡ Some (reference_to r) → IsThere h r
value_is_there P h ls vs i a j r x top =
    (storable_from P x.array.element (Drop 1 (WriteSlot j x.begun.0)) r h ls vs x.begun.1 x.begun.2 top
    (in_from P 2 References i (kept_reference P x.begun.0) a j h ls vs x.begun.1 x.begun.2 x.named x.array x.place x.begun.3)).0

-- the kind of the elements, as the code makes it
abbrev pub below_kind : Kind → Kind
below_kind k = record { dims = k.dims - 1; base = k.base }

element_is : (k e : Kind) → element_of k ≡ Some e → e ≡ below_kind k
element_is k e q = by k.dims q
  where
    some_eq : {X : Type 0} {a b : X} → Some a ≡ Some b → a ≡ b
    some_eq e = cc

    by : (d : ℕ) → element_of (record k { dims = d }) ≡ Some e → e ≡ record { dims = d - 1; base = k.base }
    by zero q = absurd cc
    by (suc d) q = let n : d ≡ suc d - 1 = omega arith in sym (some_eq q) ∙ ap (λ (d : ℕ). record { dims = d; base = k.base }) n

pub element_below : (h : Heap) (a : ℕ) (y : IsArrayOf h a References) (k : Kind) → IsSomeAnd (get h a) (λ o. o.kind ≡ k) → y.element ≡ below_kind k
element_below h a y k s = element_is y.object.kind y.element y.has ∙ ap (λ (k : Kind). below_kind k) (subst (λ g. IsSomeAnd g (λ o. o.kind ≡ k)) y.there s)

pub store_refused : (flow : Flow) (P : ProgramTables) (S : Doing) (h j : Heap) (ls vs us rest : List Value) (v : Value) (i : ℤ) (a p : ℕ) (r : Option ℕ) (y : IsArrayOf h a References) (told : Told) → vs ≡ v ∷ us → us ≡ Int i ∷ rest
    → slice_get vs 2 ≡ Some (reference_to (Some a)) → place_of i (length y.object.slots) ≡ Some p → slice_get vs 0 ≡ Some (reference_to r) → IsThere h r → may_stand P h y.element r ≡ false
    → ((n : Option ℕ) → S n ≡ reference_stored P (onward n)) → ((w : Within) → w.heap ≡ h → ThrewNew flow (throw_new P ArrayStoreException) w told j) → Went flow P S (view h ls vs) told (view j ls vs)
store_refused flow P S h j ls vs us rest v i a p r y told tv ti named within top there refused same x =
    let k : Option ℕ → Script = λ n. Drop 1 (WriteSlot p (onward n)) in
    let over = reference_over P v i vs us rest tv ti in
    went_by flow P S (λ n. reference_stored P (onward n)) (view h ls vs) told (view j ls vs) same
    (went_thrown flow P (λ n. reference_stored P (onward n)) (throw_new P ArrayStoreException) (view h ls vs) (view h ls vs) told j refl refl
    (λ n e u z. (over (onward n) h ls e u).1 (in_to P 2 References i (kept_reference P (onward n)) a p h ls vs e u named y within
    (storable_to P y.element (k n) r h ls vs e u top there (subst (λ b. Runs (by_test P b (k n)) (view h ls vs) e u) (sym refused) z))))
    (λ n e u z. subst (λ b. Runs (by_test P b (k n)) (view h ls vs) e u) refused
    (storable_from P y.element (k n) r h ls vs e u top (in_from P 2 References i (kept_reference P (onward n)) a p h ls vs e u named y within ((over (onward n) h ls e u).0 z))).1)
    (x (view h ls vs) refl))

pub reference_kept : (h : Heap) (a : ℕ) (y : IsArrayOf h a References) (v : Value) (vs us : List Value) (r : Option ℕ) → vs ≡ v ∷ us → slice_get vs 0 ≡ Some (reference_to r) → IsOfKind y.element v
reference_kept h a y v vs us r tv top =
    subst (λ b. MatchBool b (OnReference v (λ a. Unit {0})) (IsOfBase y.element.base v)) (sym y.fits) (subst (λ v. OnReference v (λ a. Unit {0})) (sym is) (any r))
  where
    is : v ≡ reference_to r
    is = some_eq (sym (ap (λ vs. slice_get vs 0) tv) ∙ top)
      where
        some_eq : {X : Type 0} {a b : X} → Some a ≡ Some b → a ≡ b
        some_eq e = cc

    any : (r : Option ℕ) → OnReference (reference_to r) (λ a. Unit {0})
    any None = tt
    any (Some a) = tt

pub reference_leads : (P : ProgramTables) (h new : Heap) (ls vs us rest after : List Value) (x v : Value) (i : ℤ) (a j : ℕ) (r : Option ℕ) (y : IsArrayOf h a References) → vs ≡ v ∷ us → us ≡ Int i ∷ rest → rest ≡ x ∷ after
    → slice_get vs 2 ≡ Some (reference_to (Some a)) → place_of i (length y.object.slots) ≡ Some j → slice_get vs 0 ≡ Some (reference_to r) → IsThere h r → may_stand P h y.element r ≡ true
    → IsSomeAnd (get h a) (λ o. new ≡ with_slot h a o j v) → Leads (reference_stored P) (view h ls vs) (view new ls after)
reference_leads P h new ls vs us rest after x v i a j r y tv ti taken named within top there stands written = λ s e u z.
    let first : x ≡ Ref a = some_eq (sym (ap (λ vs. slice_get vs 2) (tv ∙ ap (λ us. v ∷ us) (ti ∙ ap (λ us. Int i ∷ us) taken))) ∙ named) in
    let same : vs ≡ v ∷ Int i ∷ Ref a ∷ after = tv ∙ ap (λ us. v ∷ us) (ti ∙ ap (λ us. Int i ∷ us) (taken ∙ ap (λ x. x ∷ after) first)) in
    let is : new ≡ with_slot h a y.object j v = subst (λ g. IsSomeAnd g (λ o. new ≡ with_slot h a o j v)) y.there written in
    let go : Runs (WriteSlot j s) (view h ls (v ∷ Ref a ∷ after)) e u =
    subst (λ g. IsSomeAnd g (λ o. IsIn j o.slots × Runs s (view (with_slot h a o j v) ls after) e u)) (sym y.there)
    (place_there i (length y.object.slots) j within, subst (λ h. Runs s (view h ls after) e u) is z) in
    let below : Runs (Drop 1 (WriteSlot j s)) (view h ls vs) e u = run_on (Drop 1 (WriteSlot j s)) h ls vs (v ∷ Int i ∷ Ref a ∷ after) e u same (two v (Int i) (Ref a ∷ after), go) in
    ((reference_over P v i vs us rest tv ti) s h ls e u).1
    (in_to P 2 References i (kept_reference P s) a j h ls vs e u named y within
    (storable_to P y.element (Drop 1 (WriteSlot j s)) r h ls vs e u top there (subst (λ b. Runs (by_test P b (Drop 1 (WriteSlot j s))) (view h ls vs) e u) (sym stands) below)))
  where
    some_eq : {X : Type 0} {a b : X} → Some a ≡ Some b → a ≡ b
    some_eq e = cc

    two : (x y : Value) (vs : List Value) → IsIn 1 (x ∷ y ∷ vs)
    two x y vs = omega arith
