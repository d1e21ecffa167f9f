-- Instructions on arrays: what their rules ask of the operands and of the heap.
use Rattle.std.proofs.Common.{◌≡◌, ℕ, zero, suc, ◌<◌, ℤ, pos, negsuc, List, ◌∷◌, length, Option, Some, None, IsSomeAnd, refl, sym, subst, ap, ◌∙◌, Bool, true, false, cond, slice_get, nat_lt, ltb-true, rules}
use Rattle.std.specs.FinMap.{get}
use Rattle.nr_optable.specs.declared.table.Family.TheVariants.{F10}
use Rattle.nr_optable.specs.Rows.{all_rows}
use Rattle.nr_prog.specs.declared.body.instruction.Instr.{Instr}
use Rattle.nr_linked.specs.declared.program.built_in.BuiltIn.TheVariants.{ArrayIndexOutOfBoundsException, NullPointerException}
use Rattle.nr_linked.specs.declared.program.kind.Kind.{Kind}
use Rattle.nr_linked.specs.declared.program.tables.MethodInfo.{MethodInfo}
use Rattle.nr_linked.specs.declared.program.tables.ProgramTables.{ProgramTables}
use Rattle.nr_linked.specs.declared.program.tables.Resolved.{Resolved}
use Rattle.nr_linked.specs.ArrayKinds.{Elements, elements_of, is_element}
use Rattle.nr_linked.specs.Kinds.{element_of, is_array}
use Rattle.nr_model.specs.declared.value.Value.{Value}
use Rattle.nr_model.specs.declared.value.Value.TheVariants.{Int, Ref}
use Rattle.nr_model.specs.Heaps.{Heap, Obj, on_some}
use Rattle.nr_model.specs.ArrayRules.{array_load}
use Rattle.nr_model.specs.Scripts.{AskKind, Ending, OnObject, OnReference, OnTop, PopInt, ReadSlot, Runs, Script, Within, is_null}
use Rattle.nr_model.specs.Throws.{at_index, not_null, onward, throw_new, which, with_found}
use Rattle.nr_step.specs.declared.flow.Flow.{Flow}
use Rattle.nr_step.specs.declared.flow.Told.{Told}
use Rattle.nr_step.specs.Elements.{place_of}
use Rattle.nr_step.specs.Flows.{Doing, ThrewNew, Went}
use Rattle.nr_step.specs.Instructions.{IsRowOf, is_array_load}
use Rattle.nr_step.specs.Windows.{CanBegin, IntOnTop, Leads, ReferenceAt, reference_to, view}
use Rattle.nr_step.proofs.Families.{AllOf, rule_by}
use Rattle.nr_step.proofs.Going.{went_by, went_thrown}
use Rattle.nr_step.proofs.Objects.{asks_null, first_is, pass, passed, some_map}
use Rattle.nr_step.proofs.Rows.{IsRule}
use Rattle.nr_step.proofs.Tops.{int_top, run_off, run_on, takes_int}

-- ---- a test for null at a depth

abbrev tests_null : ProgramTables → Script → Heap → List Value → List Value → Ending → Within → Value → Type 0
tests_null P k h ls vs e u v = OnReference v (λ r. Runs (cond (is_null r) (throw_new P NullPointerException) k) (view h ls vs) e u)

pub null_to : (P : ProgramTables) (d : ℕ) (k : Script) (h : Heap) (ls vs : List Value) (e : Ending) (u : Within) → slice_get vs d ≡ Some (reference_to None)
    → Runs (throw_new P NullPointerException) (view h ls vs) e u → Runs (not_null P d k) (view h ls vs) e u
null_to P d k h ls vs e u top r = subst (λ s. IsSomeAnd s (tests_null P k h ls vs e u)) (sym top) r

pub null_from : (P : ProgramTables) (d : ℕ) (k : Script) (h : Heap) (ls vs : List Value) (e : Ending) (u : Within) → slice_get vs d ≡ Some (reference_to None)
    → Runs (not_null P d k) (view h ls vs) e u → Runs (throw_new P NullPointerException) (view h ls vs) e u
null_from P d k h ls vs e u top r = subst (λ s. IsSomeAnd s (tests_null P k h ls vs e u)) top r

pub name_to : (P : ProgramTables) (d a : ℕ) (k : Script) (h : Heap) (ls vs : List Value) (e : Ending) (u : Within) → slice_get vs d ≡ Some (reference_to (Some a))
    → Runs k (view h ls vs) e u → Runs (not_null P d k) (view h ls vs) e u
name_to P d a k h ls vs e u top r = subst (λ s. IsSomeAnd s (tests_null P k h ls vs e u)) (sym top) r

pub name_from : (P : ProgramTables) (d a : ℕ) (k : Script) (h : Heap) (ls vs : List Value) (e : Ending) (u : Within) → slice_get vs d ≡ Some (reference_to (Some a))
    → Runs (not_null P d k) (view h ls vs) e u → Runs k (view h ls vs) e u
name_from P d a k h ls vs e u top r = subst (λ s. IsSomeAnd s (tests_null P k h ls vs e u)) top r

-- ---- an array of these elements

pub record IsArrayOf (h : Heap) (a : ℕ) (el : Elements) : Type 0 where
  pub object : Obj
  pub there : get h a ≡ Some object
  pub element : Kind
  pub has : element_of object.kind ≡ Some element
  pub fits : is_element el element ≡ true

-- what is done with the array
abbrev pub on_array : ℕ → Elements → (ℕ → Kind → Script) → Script
on_array d el k = AskKind d (λ kind n. with_found (element_of kind) (λ e. which (is_element el e) (k n e)))

abbrev tests_element : Elements → (ℕ → Kind → Script) → Heap → List Value → List Value → Ending → Within → Obj → Type 0
tests_element el k h ls vs e u o = Runs (with_found (element_of o.kind) (λ x. which (is_element el x) (k (length o.slots) x))) (view h ls vs) e u

pub array_to : (d a : ℕ) (el : Elements) (k : ℕ → Kind → Script) (h : Heap) (ls vs : List Value) (e : Ending) (u : Within) → slice_get vs d ≡ Some (reference_to (Some a)) → (x : IsArrayOf h a el)
    → Runs (k (length x.object.slots) x.element) (view h ls vs) e u → Runs (on_array d el k) (view h ls vs) e u
array_to d a el k h ls vs e u top x r =
    subst (λ s. IsSomeAnd s (λ v. OnObject h v (λ a o. tests_element el k h ls vs e u o))) (sym top)
    (subst (λ g. IsSomeAnd g (tests_element el k h ls vs e u)) (sym x.there)
    (subst (λ s. Runs (with_found s (λ y. which (is_element el y) (k (length x.object.slots) y))) (view h ls vs) e u) (sym x.has)
    (pass (is_element el x.element) (k (length x.object.slots) x.element) (view h ls vs) u e x.fits r)))

pub record InArray (h : Heap) (a : ℕ) (el : Elements) (k : ℕ → Kind → Script) (w u : Within) (e : Ending) : Type 0 where
  pub array : IsArrayOf h a el
  pub runs : Runs (k (length array.object.slots) array.element) w e u

pub array_from : (d a : ℕ) (el : Elements) (k : ℕ → Kind → Script) (h : Heap) (ls vs : List Value) (e : Ending) (u : Within) → slice_get vs d ≡ Some (reference_to (Some a))
    → Runs (on_array d el k) (view h ls vs) e u → InArray h a el k (view h ls vs) u e
array_from d a el k h ls vs e u top r =
    named (get h a) refl (subst (λ s. IsSomeAnd s (λ v. OnObject h v (λ a o. tests_element el k h ls vs e u o))) top r)
  where
    element : (o : Obj) → get h a ≡ Some o → (s : Option Kind) → element_of o.kind ≡ s → Runs (with_found s (λ y. which (is_element el y) (k (length o.slots) y))) (view h ls vs) e u → InArray h a el k (view h ls vs) u e
    element o q None p r = absurd r
    element o q (Some y) p r =
        let t = passed (is_element el y) (k (length o.slots) y) (view h ls vs) u e r in
        record { array = record { object = o; there = q; element = y; has = p; fits = t.0 }; runs = t.1 }

    named : (g : Option Obj) → get h a ≡ g → IsSomeAnd g (tests_element el k h ls vs e u) → InArray h a el k (view h ls vs) u e
    named None q r = absurd r
    named (Some o) q r = element o q (element_of o.kind) refl r

-- the same run elsewhere: an object has one entry
same_object : (h : Heap) (a : ℕ) (el : Elements) (x y : IsArrayOf h a el) → x.object ≡ y.object
same_object h a el x y = let p = x.there in let q = y.there in cc

pub run_in : (h : Heap) (a : ℕ) (el : Elements) (k : ℕ → Kind → Script) (w u : Within) (e : Ending) (x y : IsArrayOf h a el) → Runs (k (length x.object.slots) x.element) w e u → Runs (k (length y.object.slots) y.element) w e u
run_in h a el k w u e x y r =
    let o = same_object h a el x y in
    let s : x.element ≡ y.element = same_element o in
    subst (λ z. Runs (k (length y.object.slots) z) w e u) s (subst (λ o. Runs (k (length o.slots) x.element) w e u) o r)
  where
    same_element : x.object ≡ y.object → x.element ≡ y.element
    same_element o = let p : element_of x.object.kind ≡ element_of y.object.kind = ap (λ (o : Obj). element_of o.kind) o in let q = x.has in let t = y.has in cc

-- ---- the index

pub index_by : (P : ProgramTables) (n : ℕ) (i : ℤ) (k : ℕ → Script) → at_index P n i k ≡ on_some (place_of i n) (throw_new P ArrayIndexOutOfBoundsException) k
index_by P n (pos i) k = by (nat_lt i n)
  where
    by : (b : Bool) → cond b (k i) (throw_new P ArrayIndexOutOfBoundsException) ≡ on_some (cond b (Some i) None) (throw_new P ArrayIndexOutOfBoundsException) k
    by true = refl
    by false = refl
index_by P n (negsuc i) k = refl

pub index_in : (P : ProgramTables) (n : ℕ) (i : ℤ) (j : ℕ) (k : ℕ → Script) → place_of i n ≡ Some j → at_index P n i k ≡ k j
index_in P n i j k q = index_by P n i k ∙ ap (λ o. on_some o (throw_new P ArrayIndexOutOfBoundsException) k) q

pub index_out : (P : ProgramTables) (n : ℕ) (i : ℤ) (k : ℕ → Script) → place_of i n ≡ None → at_index P n i k ≡ throw_new P ArrayIndexOutOfBoundsException
index_out P n i k q = index_by P n i k ∙ ap (λ o. on_some o (throw_new P ArrayIndexOutOfBoundsException) k) q

pub place_there : (i : ℤ) (n j : ℕ) → place_of i n ≡ Some j → j < n
place_there (pos i) n j q = by (nat_lt i n) refl q
  where
    by : (b : Bool) → nat_lt i n ≡ b → cond b (Some i) None ≡ Some j → j < n
    by true t q = subst (λ i. i < n) (some_eq q) (ltb-true i n t)
      where
        some_eq : Some i ≡ Some j → i ≡ j
        some_eq e = cc
    by false t q = absurd cc
place_there (negsuc i) n j q = absurd cc

-- ---- its length

array_has : (k e : Kind) → element_of k ≡ Some e → is_array k ≡ true
array_has k e q = by k.dims q
  where
    above : (d : ℕ) → nat_lt 0 (suc d) ≡ true
    above d = search rules

    by : (d : ℕ) → element_of (record k { dims = d }) ≡ Some e → nat_lt 0 d ≡ true
    by zero q = absurd cc
    by (suc d) q = above d

pub held : (h : Heap) (a : ℕ) (el : Elements) → IsArrayOf h a el → (Q : Obj → Type 0) → (x : IsArrayOf h a el) → Q x.object → IsSomeAnd (get h a) Q
held h a el y Q x q = subst (λ g. IsSomeAnd g Q) (sym x.there) q

pub len_is : (h : Heap) (a : ℕ) (el : Elements) (x : IsArrayOf h a el) (r : Option ℕ) → IsSomeAnd (get h a) (λ o. r ≡ cond (is_array o.kind) (Some (length o.slots)) None) → r ≡ Some (length x.object.slots)
len_is h a el x r s =
    let q : r ≡ cond (is_array x.object.kind) (Some (length x.object.slots)) None = subst (λ g. IsSomeAnd g (λ o. r ≡ cond (is_array o.kind) (Some (length o.slots)) None)) x.there s in
    q ∙ ap (λ b. cond b (Some (length x.object.slots)) None) (array_has x.object.kind x.element x.has)

-- ---- loads

loads : AllOf is_array_load F10
unfolding all_rows
loads = refl

-- what is left at an index
abbrev pub reads_at : ProgramTables → Elements → ℤ → Script → Script
reads_at P el i k = not_null P 0 (on_array 0 el (λ n e. at_index P n i (λ j. ReadSlot j k)))

abbrev pub loads_of : ProgramTables → Elements → Script → Script
loads_of P el k = PopInt (λ i. reads_at P el i k)

pub load_rule : (P : ProgramTables) (own : MethodInfo) (i : Instr) (found : Resolved) (code : ℕ) (el : Elements) → IsRowOf code i.row → is_array_load code ≡ true → elements_of code ≡ Some el → IsRule P own i found (loads_of P el)
load_rule P own i found code el r s q = λ n.
    rule_by is_array_load F10 loads P own i found code r s n ∙ ap (λ c. array_load P c (onward n)) r.code ∙ ap (λ o. PopInt (λ i. with_found o (λ el. reads_at P el i (onward n)))) q

pub record LoadBegins (P : ProgramTables) (el : Elements) (h : Heap) (ls vs : List Value) (i : ℤ) : Type 0 where
  pub rest : List Value
  pub is : vs ≡ Int i ∷ rest
  pub after : Script
  pub ending : Ending
  pub left : Within
  pub runs : Runs (reads_at P el i after) (view h ls rest) ending left

pub load_begins : (P : ProgramTables) (el : Elements) (h : Heap) (ls vs : List Value) (i : ℤ) → CanBegin (loads_of P el) (view h ls vs) → OnTop vs (λ v us. v ≡ Int i) → LoadBegins P el h ls vs i
load_begins P el h ls vs i (k, e, u, r) top =
    let t = takes_int (λ i. reads_at P el i k) h ls vs e u r in
    let q : Int t.number ≡ Int i = subst (λ vs. OnTop vs (λ v us. v ≡ Int i)) t.is top in
    let same : t.number ≡ i = cc in
    record { rest = t.rest; is = t.is ∙ ap (λ n. Int n ∷ t.rest) same; after = k; ending = e; left = u; runs = subst (λ i. Runs (reads_at P el i k) (view h ls t.rest) e u) same t.runs }

pub load_top : (P : ProgramTables) (el : Elements) (h : Heap) (ls vs : List Value) → CanBegin (loads_of P el) (view h ls vs) → IntOnTop vs
load_top P el h ls vs (k, e, u, r) = int_top (λ i. reads_at P el i k) h ls vs e u r

pub load_reference : (P : ProgramTables) (el : Elements) (h : Heap) (ls vs : List Value) (i : ℤ) → LoadBegins P el h ls vs i → ReferenceAt vs 1
load_reference P el h ls vs i b =
    subst (λ vs. ReferenceAt vs 1) (sym b.is) (asks_null 0 (λ null. cond null (throw_new P NullPointerException) (on_array 0 el (λ n e. at_index P n i (λ j. ReadSlot j b.after)))) h ls b.rest b.ending b.left b.runs)

pub rest_top : (vs rest : List Value) (v x : Value) → vs ≡ v ∷ rest → slice_get vs 1 ≡ Some x → slice_get rest 0 ≡ Some x
rest_top vs rest v x is top = subst (λ vs. slice_get vs 1 ≡ Some x) is top

pub load_array : (P : ProgramTables) (el : Elements) (h : Heap) (ls vs : List Value) (i : ℤ) (a : ℕ) → (b : LoadBegins P el h ls vs i) → slice_get vs 1 ≡ Some (reference_to (Some a)) → IsArrayOf h a el
load_array P el h ls vs i a b top =
    let t = rest_top vs b.rest (Int i) (reference_to (Some a)) b.is top in
    (array_from 0 a el (λ n e. at_index P n i (λ j. ReadSlot j b.after)) h ls b.rest b.ending b.left t
    (name_from P 0 a (on_array 0 el (λ n e. at_index P n i (λ j. ReadSlot j b.after))) h ls b.rest b.ending b.left t b.runs)).array

pub load_null : (flow : Flow) (P : ProgramTables) (S : Doing) (el : Elements) (h j : Heap) (ls vs rest : List Value) (i : ℤ) (told : Told) → vs ≡ Int i ∷ rest → slice_get vs 1 ≡ Some (reference_to None)
    → ((n : Option ℕ) → S n ≡ loads_of P el (onward n)) → ((w : Within) → w.heap ≡ h → ThrewNew flow (throw_new P NullPointerException) w told j) → Went flow P S (view h ls vs) told (view j ls vs)
load_null flow P S el h j ls vs rest i told is top same x =
    let t = rest_top vs rest (Int i) (reference_to None) is top in
    let k : Option ℕ → Script = λ n. on_array 0 el (λ m e. at_index P m i (λ j. ReadSlot j (onward n))) in
    went_by flow P S (λ n. loads_of P el (onward n)) (view h ls vs) told (view j ls vs) same
    (went_thrown flow P (λ n. loads_of P el (onward n)) (throw_new P NullPointerException) (view h ls vs) (view h ls rest) told j refl refl
    (λ n e u r. run_on (loads_of P el (onward n)) h ls vs (Int i ∷ rest) e u is (null_to P 0 (k n) h ls rest e u t r))
    (λ n e u r. null_from P 0 (k n) h ls rest e u t (run_off (loads_of P el (onward n)) h ls vs (Int i ∷ rest) e u is r))
    (x (view h ls rest) refl))

pub load_out : (flow : Flow) (P : ProgramTables) (S : Doing) (el : Elements) (h j : Heap) (ls vs rest : List Value) (i : ℤ) (a : ℕ) (told : Told) → vs ≡ Int i ∷ rest → slice_get vs 1 ≡ Some (reference_to (Some a))
    → (y : IsArrayOf h a el) → place_of i (length y.object.slots) ≡ None
    → ((n : Option ℕ) → S n ≡ loads_of P el (onward n)) → ((w : Within) → w.heap ≡ h → ThrewNew flow (throw_new P ArrayIndexOutOfBoundsException) w told j) → Went flow P S (view h ls vs) told (view j ls vs)
load_out flow P S el h j ls vs rest i a told is top y out same x =
    let t = rest_top vs rest (Int i) (reference_to (Some a)) is top in
    let k : Option ℕ → ℕ → Kind → Script = λ n m e. at_index P m i (λ j. ReadSlot j (onward n)) in
    let o : (n : Option ℕ) → k n (length y.object.slots) y.element ≡ throw_new P ArrayIndexOutOfBoundsException = λ n. index_out P (length y.object.slots) i (λ j. ReadSlot j (onward n)) out in
    went_by flow P S (λ n. loads_of P el (onward n)) (view h ls vs) told (view j ls vs) same
    (went_thrown flow P (λ n. loads_of P el (onward n)) (throw_new P ArrayIndexOutOfBoundsException) (view h ls vs) (view h ls rest) told j refl refl
    (λ n e u r. run_on (loads_of P el (onward n)) h ls vs (Int i ∷ rest) e u is (name_to P 0 a (on_array 0 el (k n)) h ls rest e u t
    (array_to 0 a el (k n) h ls rest e u t y (subst (λ sc. Runs sc (view h ls rest) e u) (sym (o n)) r))))
    (λ n e u r. let z = array_from 0 a el (k n) h ls rest e u t (name_from P 0 a (on_array 0 el (k n)) h ls rest e u t (run_off (loads_of P el (onward n)) h ls vs (Int i ∷ rest) e u is r)) in
    subst (λ sc. Runs sc (view h ls rest) e u) (o n) (run_in h a el (k n) (view h ls rest) u e z.array y z.runs))
    (x (view h ls rest) refl))

pub load_leads : (P : ProgramTables) (el : Elements) (h : Heap) (ls vs rest us new : List Value) (i : ℤ) (a j : ℕ) (v x : Value) → vs ≡ Int i ∷ rest → slice_get vs 1 ≡ Some (reference_to (Some a))
    → (y : IsArrayOf h a el) → place_of i (length y.object.slots) ≡ Some j → IsSomeAnd (get h a) (λ o. slice_get o.slots j ≡ Some v) → rest ≡ x ∷ us → new ≡ v ∷ us
    → Leads (loads_of P el) (view h ls vs) (view h ls new)
load_leads P el h ls vs rest us new i a j v x is top y within value taken put = λ k e u r.
    let t = rest_top vs rest (Int i) (reference_to (Some a)) is top in
    let f = first_is rest (Some a) t in
    let same : rest ≡ Ref a ∷ us = f.1 ∙ ap (λ us. Ref a ∷ us) (tails (Ref a) f.0 x us (sym f.1 ∙ taken)) in
    run_on (loads_of P el k) h ls vs (Int i ∷ rest) e u is
    (name_to P 0 a (on_array 0 el (λ n e. at_index P n i (λ j. ReadSlot j k))) h ls rest e u t
    (array_to 0 a el (λ n e. at_index P n i (λ j. ReadSlot j k)) h ls rest e u t y
    (subst (λ sc. Runs sc (view h ls rest) e u) (sym (index_in P (length y.object.slots) i j (λ j. ReadSlot j k) within))
    (run_on (ReadSlot j k) h ls rest (Ref a ∷ us) e u same
    (some_map (get h a) (λ o. slice_get o.slots j ≡ Some v) (λ o. IsSomeAnd (slice_get o.slots j) (λ v. Runs k (view h ls (v ∷ us)) e u)) value
    (λ o q. subst (λ g. IsSomeAnd g (λ v. Runs k (view h ls (v ∷ us)) e u)) (sym q) (run_off k h ls new (v ∷ us) e u put r)))))))
  where
    tails : (x : Value) (us : List Value) (y : Value) (ws : List Value) → x ∷ us ≡ y ∷ ws → us ≡ ws
    tails x us y ws e = cc

-- what stands below the topmost operand
pub below_top : (vs us ws : List Value) (v w : Value) → vs ≡ v ∷ us → vs ≡ w ∷ ws → us ≡ ws
below_top vs us ws v w p q = let e : v ∷ us ≡ w ∷ ws = sym p ∙ q in cc

pub same_number : (r : Option ℕ) (m n : ℕ) → r ≡ Some m → r ≡ Some n → m ≡ n
same_number r m n p q = cc
