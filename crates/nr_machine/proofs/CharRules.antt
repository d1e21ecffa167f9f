-- print([C)V: the units of an array.
use Rattle.std.proofs.Common.{◌≡◌, ℕ, zero, suc, ◌+◌, ◌<◌, ◌≤◌, List, [], ◌∷◌, ◌++◌, length, take, drop, refl, sym, ap, ap₂, subst, ◌∙◌, Bool, true, false, arith, map, nat_le, nat_lt, inl, inr, rules}
use Rattle.std.proofs.lemmas.Bool.Decides.{leb_tells}
use Rattle.std.specs.Prelude.{◌⊎◌, ℤ, Option, Some, None, IsSomeAnd, IsTrue, slice_get, slice_index_or}
use Rattle.std.specs.FinMap.{get}
use Rattle.std.proofs.lemmas.List.{append-nil}
use Rattle.std.proofs.lemmas.Option.{slice_get_within}
use Rattle.nr_optable.specs.Arithmetic.{to_char}
use Rattle.nr_linked.specs.ArrayKinds.{is_base}
use Rattle.nr_linked.specs.declared.program.kind.Base.{Base}
use Rattle.nr_linked.specs.declared.program.kind.Base.TheVariants as bases
use Rattle.nr_linked.specs.declared.program.kind.Kind.{Kind}
use Rattle.nr_linked.specs.declared.program.tables.MethodInfo.{MethodInfo}
use Rattle.nr_linked.specs.declared.program.tables.ProgramTables.{ProgramTables}
use Rattle.nr_linked.specs.Facts.{ProgramFacts}
use Rattle.nr_linked.specs.Kinds.{element_of, is_array}
use Rattle.nr_linked.specs.Sites.{Site}
use Rattle.nr_model.specs.declared.value.Value.{Value}
use Rattle.nr_model.specs.declared.value.Value.TheVariants.{Int, Long, Null, Ref}
use Rattle.nr_model.specs.CallRules.{print_chars, with_units}
use Rattle.nr_model.specs.Heaps.{Heap, Obj}
use Rattle.nr_model.specs.Printing.{bytes_of_units}
use Rattle.nr_model.specs.Rules.{script}
use Rattle.nr_model.specs.Scripts.{Drop, Ending, GoesTo, OnInt, Print, Runs, Script, Within}
use Rattle.nr_model.specs.States.{Frame}
use Rattle.nr_model.specs.Steps.{within}
use Rattle.nr_model.specs.Throws.{onward, which, with_found}
use Rattle.nr_machine.specs.declared.stack.print.Printing.TheVariants as printings
use Rattle.nr_machine.specs.CallStacks.{OnRunning}
use Rattle.nr_machine.specs.Prints.{AreInts, PrintsBy, PrintsText, printing_rule, unit_of, units_of}
use Rattle.nr_machine.specs.Stays.{FramesStand}
use Rattle.nr_machine.proofs.Leading.{some_run}
use Rattle.nr_machine.proofs.Printed.{goes_to, on_at}
use Rattle.nr_machine.proofs.Starting.{some_and}

-- ---- the units below a place

upto : (vs : List Value) (i : ℕ) (v : Value) → slice_get vs i ≡ Some v → (us : List ℕ) → units_of (take (suc i) vs) ++ us ≡ units_of (take i vs) ++ (unit_of v ∷ us)
upto [] i v e us = absurd cc
upto (x ∷ vs) zero v e us = let q : x ≡ v = cc in ap (λ v. unit_of v ∷ us) q
upto (x ∷ vs) (suc i) v e us = ap (λ ys. unit_of x ∷ ys) (upto vs i v e us)

module _ (h : Heap) (ls : List Value) (a : ℕ) (us : List Value) (o : Obj) (there : get h a ≡ Some o) where
  abbrev w : Within
  w = record { heap = h; locals = ls; operands = Ref a ∷ us; printed = [] }

  abbrev Reads : ℕ → (ℤ → Script) → Ending → Within → Obj → Type 0
  Reads i f e u o = IsSomeAnd (slice_get o.slots i) (λ x. OnInt x (λ n. Runs (f n) w e u))

  int_there : (x : Value) (Q : ℤ → Type 0) → OnInt x Q → (n : ℤ) × (x ≡ Int n) × Q n
  int_there (Int n) Q q = (n, refl, q)
  int_there (Long n) Q q = absurd q
  int_there Null Q q = absurd q
  int_there (Ref b) Q q = absurd q

  below_more : (vs : List Value) (i : ℕ) (n : ℤ) → slice_get vs i ≡ Some (Int n) → ((j : ℕ) → j < i → (n : ℤ) × (slice_get vs j ≡ Some (Int n))) → (j : ℕ) → j < suc i → (n : ℤ) × (slice_get vs j ≡ Some (Int n))
  below_more vs i n e f j l = by (leb_tells (suc j) i)
    where
      by : ((nat_le (suc j) i ≡ true) × (suc j ≤ i)) ⊎ ((nat_le (suc j) i ≡ false) × (i < suc j)) → (n : ℤ) × (slice_get vs j ≡ Some (Int n))
      by (inl m) = f j (omega (arith, m.1))
      by (inr m) = let s : j ≡ i = omega (arith, m.1, l) in (n, ap (slice_get vs) s ∙ e)

  units_down : (i : ℕ) (bs : List ℕ) (k : List ℕ → Script) (e : Ending) (u : Within) → Runs (with_units i bs k) w e u
      → ((j : ℕ) → j < i → (n : ℤ) × (slice_get o.slots j ≡ Some (Int n))) × Runs (k (units_of (take i o.slots) ++ bs)) w e u
  units_down zero bs k e u r = (λ j l. absurd (omega (arith, l)), r)
  units_down (suc i) bs k e u r =
      let q : Reads i (λ n. with_units i (to_char n ∷ bs) k) e u o = subst (λ g. IsSomeAnd g (Reads i (λ n. with_units i (to_char n ∷ bs) k) e u)) there r in
      let x = some_and (slice_get o.slots i) (λ x. OnInt x (λ n. Runs (with_units i (to_char n ∷ bs) k) w e u)) q in
      let n = int_there x.0 (λ n. Runs (with_units i (to_char n ∷ bs) k) w e u) x.2 in
      let is : slice_get o.slots i ≡ Some (Int n.0) = x.1 ∙ ap Some n.1 in
      let rest = units_down i (to_char n.0 ∷ bs) k e u n.2 in
      (below_more o.slots i n.0 is rest.0, subst (λ ys. Runs (k ys) w e u) (sym (upto o.slots i (Int n.0) is bs)) rest.1)

  units_up : (i : ℕ) (bs : List ℕ) (k : List ℕ → Script) (e : Ending) (u : Within) → ((j : ℕ) → j < i → (n : ℤ) × (slice_get o.slots j ≡ Some (Int n))) → Runs (k (units_of (take i o.slots) ++ bs)) w e u → Runs (with_units i bs k) w e u
  units_up zero bs k e u f r = r
  units_up (suc i) bs k e u f r =
      let n = f i (omega arith) in
      let rest : Runs (with_units i (to_char n.0 ∷ bs) k) w e u = units_up i (to_char n.0 ∷ bs) k e u (λ j l. f j (omega (arith, l))) (subst (λ ys. Runs (k ys) w e u) (upto o.slots i (Int n.0) n.1 bs) r) in
      subst (λ g. IsSomeAnd g (Reads i (λ n. with_units i (to_char n ∷ bs) k) e u)) (sym there)
      (subst (λ s. IsSomeAnd s (λ x. OnInt x (λ n. Runs (with_units i (to_char n ∷ bs) k) w e u))) (sym n.1) rest)

  take_all : (vs : List Value) → take (length vs) vs ≡ vs
  take_all [] = refl
  take_all (v ∷ vs) = ap (λ vs. v ∷ vs) (take_all vs)

  all_units : units_of (take (length o.slots) o.slots) ++ [] ≡ units_of o.slots
  all_units = append-nil (units_of (take (length o.slots) o.slots)) ∙ ap units_of (take_all o.slots)

  -- the array's kind passes
  passed : (kind : Option Kind) (n : ℕ) (k : Script) (e : Ending) (u : Within) → Runs (with_found kind (λ x. which (is_base bases.Char x) k)) w e u → (x : Kind) × (kind ≡ Some x) × (is_base bases.Char x ≡ true) × Runs k w e u
  passed None n k e u r = absurd r
  passed (Some x) n k e u r = by (is_base bases.Char x) refl r
    where
      by : (b : Bool) → is_base bases.Char x ≡ b → Runs (which b k) w e u → (y : Kind) × (Some x ≡ Some y) × (is_base bases.Char y ≡ true) × Runs k w e u
      by true p r = (x, refl, p, r)
      by false p r = absurd r

  passes : (kind : Option Kind) (x : Kind) (k : Script) (e : Ending) (u : Within) → kind ≡ Some x → is_base bases.Char x ≡ true → Runs k w e u → Runs (with_found kind (λ x. which (is_base bases.Char x) k)) w e u
  passes kind x k e u p q r = subst (λ o. Runs (with_found o (λ x. which (is_base bases.Char x) k)) w e u) (sym p) (subst (λ b. Runs (which b k) w e u) (sym q) r)

  module _ (P : ProgramTables) (n : Option ℕ) where
    abbrev last : List ℕ → Script
    last bs = Drop 0 (Print (bytes_of_units bs) (onward n))

    abbrev inner : Obj → Script
    inner o = with_found (element_of o.kind) (λ e. which (is_base bases.Char e) (with_units (length o.slots) [] last))

    chars_run : (e : Ending) (u : Within) → Runs (print_chars P (onward n)) w e u → AreInts o.slots × (x : Kind) × (element_of o.kind ≡ Some x) × (t : ℕ) × (n ≡ Some t)
        × Runs (print_chars P (onward n)) w (GoesTo t) (record w { operands = us; printed = bytes_of_units (units_of o.slots) })
    chars_run e u r =
        let q : Runs (inner o) w e u = subst (λ g. IsSomeAnd g (λ o. Runs (inner o) w e u)) there r in
        let p = passed (element_of o.kind) 0 (with_units (length o.slots) [] last) e u q in
        let d = units_down (length o.slots) [] last e u p.3 in
        let t = goes_to n _ u e d.1.1 in
        let v : Within = record w { operands = us; printed = bytes_of_units (units_of o.slots) } in
        let end : Runs (last (units_of (take (length o.slots) o.slots) ++ [])) w (GoesTo t.0) v
        = subst (λ bs. Runs (last bs) w (GoesTo t.0) v) (sym all_units) (omega arith, on_at n t.0 v t.1) in
        let back : Runs (inner o) w (GoesTo t.0) v = passes (element_of o.kind) p.0 (with_units (length o.slots) [] last) (GoesTo t.0) v p.1 p.2 (units_up (length o.slots) [] last (GoesTo t.0) v d.0 end) in
        (d.0, p.0, p.1, t.0, t.1, subst (λ g. IsSomeAnd g (λ o. Runs (inner o) w (GoesTo t.0) v)) (sym there) back)

-- ---- the running frame

module _ (P : ProgramTables) (facts : ProgramFacts P) (h k : Heap) where
  object_there : (n : Option ℕ) (ls us : List Value) (a : ℕ) (e : Ending) (u : Within) → Runs (print_chars P (onward n)) (record { heap = h; locals = ls; operands = Ref a ∷ us; printed = [] }) e u → (o : Obj) × (get h a ≡ Some o)
  object_there n ls us a e u r =
      let w : Within = record { heap = h; locals = ls; operands = Ref a ∷ us; printed = [] } in
      let x = some_and (get h a) (λ o. Runs (with_found (element_of o.kind) (λ e. which (is_base bases.Char e) (with_units (length o.slots) [] (λ bs. Drop 0 (Print (bytes_of_units bs) (onward n)))))) w e u) r in
      (x.0, x.1)

  some_ref : (n : Option ℕ) (ls vs : List Value) (e : Ending) (u : Within) → Runs (print_chars P (onward n)) (record { heap = h; locals = ls; operands = vs; printed = [] }) e u → 1 ≤ length vs
  some_ref n ls [] e u r = absurd r
  some_ref n ls (v ∷ vs) e u r = omega arith

  pub some_array : (fs : List Frame) → FramesStand P h fs → PrintsBy P h k printings.Chars fs → OnRunning fs (λ f below. 1 ≤ length f.operands)
  some_array [] stand q = q.1
  some_array (f ∷ below) stand q =
      let r = some_run P facts.typing stand.0 stand.1 h f below stand.2 q.1.0 q.1.1 q.1.2 q.1.3 in
      some_ref q.1.1.next f.locals f.operands r.0 r.1 (subst (λ sc. Runs sc (within h f) r.0 r.1) (q.1.4 q.1.1.next) r.2)

  pub prints_chars : (fs : List Frame) → FramesStand P h fs → PrintsBy P h k printings.Chars fs → (a : ℕ) → OnRunning fs (λ f below. (us : List Value) × (f.operands ≡ Ref a ∷ us))
      → (o : Obj) × (get h a ≡ Some o) × AreInts o.slots × (x : Kind) × (element_of o.kind ≡ Some x) × PrintsText P h k (bytes_of_units (units_of o.slots)) 1 fs
  prints_chars [] stand q a top = absurd top
  prints_chars (f ∷ below) stand q a top =
      let own : MethodInfo = q.1.0 in
      let site : Site = q.1.1 in
      let r = some_run P facts.typing stand.0 stand.1 h f below stand.2 own site q.1.2 q.1.3 in
      let w = λ (vs : List Value). record (within h f) { operands = vs } in
      let run : Runs (print_chars P (onward site.next)) (w (Ref a ∷ top.0)) r.0 r.1 = subst (λ vs. Runs (print_chars P (onward site.next)) (w vs) r.0 r.1) top.1 (subst (λ sc. Runs sc (within h f) r.0 r.1) (q.1.4 q.1.1.next) r.2) in
      let o = object_there site.next f.locals top.0 a r.0 r.1 run in
      let x = chars_run h f.locals a top.0 o.0 o.1 P site.next r.0 r.1 run in
      let bs = bytes_of_units (units_of o.0.slots) in
      let y : Runs (script P own site) (within h f) (GoesTo x.3) (record (within h f) { operands = drop 1 f.operands; printed = bs })
      = subst (λ vs. Runs (script P own site) (w vs) (GoesTo x.3) (record (within h f) { operands = drop 1 vs; printed = bs })) (sym top.1)
      (subst (λ sc. Runs sc (w (Ref a ∷ top.0)) (GoesTo x.3) (record (within h f) { operands = top.0; printed = bs })) (sym (q.1.4 q.1.1.next)) x.5) in
      (o.0, o.1, x.0, x.1, x.2, (q.0, (own, site, x.3, q.1.2, q.1.3, x.4, omega (arith, ap length top.1), y)))

  only_refs : (n : Option ℕ) (ls us : List Value) (v : Value) (e : Ending) (u : Within) → Runs (print_chars P (onward n)) (record { heap = h; locals = ls; operands = v ∷ us; printed = [] }) e u
      → (v ≡ Null → ⊥) → ((a : ℕ) → v ≡ Ref a → ⊥) → ⊥
  only_refs n ls us (Int x) e u r p q = r
  only_refs n ls us (Long x) e u r p q = r
  only_refs n ls us Null e u r p q = p refl
  only_refs n ls us (Ref a) e u r p q = q a refl

  pub no_other : (fs : List Frame) → FramesStand P h fs → PrintsBy P h k printings.Chars fs → (v : Value) → OnRunning fs (λ f below. (us : List Value) × (f.operands ≡ v ∷ us)) → (v ≡ Null → ⊥) → ((a : ℕ) → v ≡ Ref a → ⊥) → ⊥
  no_other [] stand q v top a b = top
  no_other (f ∷ below) stand q v top a b =
      let r = some_run P facts.typing stand.0 stand.1 h f below stand.2 q.1.0 q.1.1 q.1.2 q.1.3 in
      only_refs q.1.1.next f.locals top.0 v r.0 r.1 (subst (λ vs. Runs (print_chars P (onward q.1.1.next)) (record (within h f) { operands = vs }) r.0 r.1) top.1 (subst (λ sc. Runs sc (within h f) r.0 r.1) (q.1.4 q.1.1.next) r.2)) a b

is_array_of : (kind x : Kind) → element_of kind ≡ Some x → IsTrue (is_array kind)
is_array_of kind x e = by kind.dims kind.base e
  where
    by : (d : ℕ) (b : Base) → element_of (record { dims = d; base = b }) ≡ Some x → IsTrue (nat_lt 0 d)
    by zero b e = absurd cc
    by (suc d) b e = search rules

module _ (P : ProgramTables) (facts : ProgramFacts P) (h k : Heap) (fs : List Frame) (stand : FramesStand P h fs) (q : PrintsBy P h k printings.Chars fs) (a : ℕ) (top : OnRunning fs (λ f below. (us : List Value) × (f.operands ≡ Ref a ∷ us))) where
  -- the array that it prints
  pub printed_array : (o : Obj) × (get k a ≡ Some o) × IsTrue (is_array o.kind) × AreInts o.slots × PrintsText P h k (bytes_of_units (units_of o.slots)) 1 fs
  printed_array =
      let x = prints_chars P facts h k fs stand q a top in
      (x.0, ap (λ h. get h a) (sym q.0) ∙ x.1, is_array_of x.0.kind x.3 x.4, x.2, x.5)

  pub array_there : IsSomeAnd (get k a) (λ o. IsTrue (is_array o.kind) × AreInts o.slots)
  array_there = let x = printed_array in subst (λ o. IsSomeAnd o (λ o. IsTrue (is_array o.kind) × AreInts o.slots)) (sym x.1) (x.2, x.3)

  pub array_text : (text : List ℕ) → IsSomeAnd (get k a) (λ o. text ≡ bytes_of_units (units_of o.slots)) → PrintsText P h k text 1 fs
  array_text text t =
      let x = printed_array in
      let e : text ≡ bytes_of_units (units_of x.0.slots) = subst (λ o. IsSomeAnd o (λ o. text ≡ bytes_of_units (units_of o.slots))) x.1 t in
      subst (λ bs. PrintsText P h k bs 1 fs) (sym e) x.4

  pub array_some : IsSomeAnd (get k a) (λ o. 0 < length (bytes_of_units (units_of o.slots))) → 0 < length (bytes_of_units (units_of printed_array.0.slots))
  array_some t = subst (λ o. IsSomeAnd o (λ o. 0 < length (bytes_of_units (units_of o.slots)))) printed_array.1 t
