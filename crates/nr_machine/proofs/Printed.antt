-- What a method of nrmi/Out does where the frames stand.
use Rattle.std.proofs.Common.{◌≡◌, ℕ, zero, suc, ◌+◌, ◌<◌, ◌≤◌, List, [], ◌∷◌, ◌++◌, length, drop, refl, sym, ap, ap₂, subst, ◌∙◌, Bool, true, false, arith, cond}
use Rattle.std.specs.Prelude.{Option, Some, None, IsSomeAnd, codes}
use Rattle.std.specs.Fmt.{signed_decimal}
use Rattle.std.specs.Option.{option_map}
use Rattle.nr_optable.specs.Arithmetic.{to_char}
use Rattle.nr_linked.specs.declared.program.tables.MethodInfo.{MethodInfo}
use Rattle.nr_linked.specs.declared.program.tables.ProgramTables.{ProgramTables}
use Rattle.nr_linked.specs.Facts.{ProgramFacts}
use Rattle.nr_linked.specs.Programs.{method_at}
use Rattle.nr_linked.specs.Selection.{is_called}
use Rattle.nr_linked.specs.Sites.{Site, site_at}
use Rattle.nr_model.specs.declared.value.Value.{Value}
use Rattle.nr_model.specs.declared.value.Value.TheVariants.{Int, Long, Null, Ref}
use Rattle.nr_model.specs.CallRules.{out_rule, print_chars}
use Rattle.nr_model.specs.Heaps.{Heap}
use Rattle.nr_model.specs.Printing.{bytes_of_units}
use Rattle.nr_model.specs.Rules.{script}
use Rattle.nr_model.specs.Scripts.{Ending, GoesTo, PopInt, PopLong, Print, Runs, Script, Within}
use Rattle.nr_model.specs.States.{Frame}
use Rattle.nr_model.specs.Steps.{within}
use Rattle.nr_model.specs.Throws.{onward}
use Rattle.nr_step.specs.declared.flow.Flow.TheVariants as flows
use Rattle.nr_step.specs.declared.flow.Told.{Told}
use Rattle.nr_step.specs.Instructions.{doing}
use Rattle.nr_machine.specs.declared.stack.print.Printing.{Printing}
use Rattle.nr_machine.specs.declared.stack.print.Printing.TheVariants as printings
use Rattle.nr_machine.specs.CallStacks.{OnRunning}
use Rattle.nr_machine.specs.Prints.{IsPrinted, IsSingle, PrintsBy, PrintsText, printing_of, printing_rule, text_of}
use Rattle.nr_machine.specs.Stays.{FramesStand, Leaves}
use Rattle.nr_machine.proofs.Leading.{some_run}
use Rattle.nr_machine.proofs.Settling.{At, at_frame}
use Rattle.nr_machine.proofs.Starting.{some_and}

some_eq : {X : Type 0} {a b : X} → Some a ≡ Some b → a ≡ b
some_eq e = cc

-- ---- which of them it is

by_tests : (a b c d e : Bool) (r1 r2 r3 r4 r5 : Script) (p1 p2 p3 p4 p5 : Printing) (f : Printing → Script) → f p1 ≡ r1 → f p2 ≡ r2 → f p3 ≡ r3 → f p4 ≡ r4 → f p5 ≡ r5
    → cond a (Some r1) (cond b (Some r2) (cond c (Some r3) (cond d (Some r4) (cond e (Some r5) None)))) ≡ option_map f (cond a (Some p1) (cond b (Some p2) (cond c (Some p3) (cond d (Some p4) (cond e (Some p5) None)))))
by_tests true b c d e r1 r2 r3 r4 r5 p1 p2 p3 p4 p5 f q1 q2 q3 q4 q5 = ap Some (sym q1)
by_tests false true c d e r1 r2 r3 r4 r5 p1 p2 p3 p4 p5 f q1 q2 q3 q4 q5 = ap Some (sym q2)
by_tests false false true d e r1 r2 r3 r4 r5 p1 p2 p3 p4 p5 f q1 q2 q3 q4 q5 = ap Some (sym q3)
by_tests false false false true e r1 r2 r3 r4 r5 p1 p2 p3 p4 p5 f q1 q2 q3 q4 q5 = ap Some (sym q4)
by_tests false false false false true r1 r2 r3 r4 r5 p1 p2 p3 p4 p5 f q1 q2 q3 q4 q5 = ap Some (sym q5)
by_tests false false false false false r1 r2 r3 r4 r5 p1 p2 p3 p4 p5 f q1 q2 q3 q4 q5 = refl

rule_is : (P : ProgramTables) (i : MethodInfo) (k : Script) → out_rule P i k ≡ option_map (λ p. printing_rule P p k) (printing_of i)
rule_is P i k =
    by_tests (is_called (codes "print") (codes "([C)V") i) (is_called (codes "print") (codes "(C)V") i) (is_called (codes "print") (codes "(I)V") i) (is_called (codes "print") (codes "(J)V") i) (is_called (codes "line") (codes "()V") i)
    (print_chars P k) (PopInt (λ u. Print (bytes_of_units (to_char u ∷ [])) k)) (PopInt (λ n. Print (signed_decimal n) k)) (PopLong (λ n. Print (signed_decimal n) k)) (Print (10 ∷ []) k)
    printings.Chars printings.Char printings.Int printings.Long printings.Line (λ p. printing_rule P p k) refl refl refl refl refl

mapped : (o : Option Printing) (f : Printing → Script) (sc : Script) → option_map f o ≡ Some sc → (p : Printing) × (o ≡ Some p) × (f p ≡ sc)
mapped None f sc e = absurd cc
mapped (Some p) f sc e = (p, refl, cc)

same_heap : (f : Frame) (h k : Heap) → within k f ≡ within h f → h ≡ k
same_heap f h k e = sym (ap (λ (w : Within). w.heap) e)

module _ (P : ProgramTables) (h k : Heap) (told : Told) where
  -- the method that was told
  pub told_there : (fs : List Frame) → Leaves P fs flows.Print told h k → (i : MethodInfo) × (p : Printing) × (method_at P told.number ≡ Some i) × (printing_of i ≡ Some p)
  told_there [] l = absurd l.went
  told_there (f ∷ below) l =
      let at = at_frame flows.Print P h told k f l.went in
      let m = some_and (method_at P told.number) (λ i. (n : Option ℕ) → out_rule P i (onward n) ≡ Some (doing P at.own at.site.instr at.site.resolved n)) at.went.1 in
      let p = mapped (printing_of m.0) (λ p. printing_rule P p (onward at.site.next)) (script P at.own at.site) (sym (rule_is P m.0 (onward at.site.next)) ∙ m.2 at.site.next) in
      (m.0, p.0, m.1, p.1)

  pub prints_by : (fs : List Frame) → Leaves P fs flows.Print told h k → (i : MethodInfo) (p : Printing) → method_at P told.number ≡ Some i → printing_of i ≡ Some p → PrintsBy P h k p fs
  prints_by [] l i p e q = absurd l.went
  prints_by (f ∷ below) l i p e q =
      let at = at_frame flows.Print P h told k f l.went in
      let m : (n : Option ℕ) → out_rule P i (onward n) ≡ Some (doing P at.own at.site.instr at.site.resolved n)
      = subst (λ o. IsSomeAnd o (λ i. (n : Option ℕ) → out_rule P i (onward n) ≡ Some (doing P at.own at.site.instr at.site.resolved n))) e at.went.1 in
      let r = λ (n : Option ℕ). some_eq (sym (ap (option_map (λ p. printing_rule P p (onward n))) q) ∙ (sym (rule_is P i (onward n)) ∙ m n)) in
      (same_heap f h k at.went.0, (at.own, at.site, at.is_method, at.is_site, λ n. sym (r n)))

-- ---- what it prints

pub goes_to : (o : Option ℕ) (w u : Within) (e : Ending) → Runs (onward o) w e u → (t : ℕ) × (o ≡ Some t)
goes_to None w u e r = absurd r
goes_to (Some t) w u e r = (t, refl)

pub on_at : (o : Option ℕ) (t : ℕ) (w : Within) → o ≡ Some t → Runs (onward o) w (GoesTo t) w
on_at o t w e = subst (λ o. Runs (onward o) w (GoesTo t) w) (sym e) (refl, refl)

module _ (P : ProgramTables) (o : Option ℕ) (h : Heap) (ls : List Value) where
  abbrev w_of : List Value → List ℕ → Within
  w_of vs bs = record { heap = h; locals = ls; operands = vs; printed = bs }

  -- of the topmost operand
  single_run : (p : Printing) (v : Value) (us : List Value) (u : Within) (e : Ending) → IsSingle p → Runs (printing_rule P p (onward o)) (w_of (v ∷ us) []) e u
      → IsPrinted p v × (t : ℕ) × (o ≡ Some t) × Runs (printing_rule P p (onward o)) (w_of (v ∷ us) []) (GoesTo t) (w_of us (text_of p v))
  single_run printings.Chars v us u e s r = absurd s
  single_run printings.Line v us u e s r = absurd s
  single_run printings.Char (Int n) us u e s r = let t = goes_to o _ u e r in (tt, t.0, t.1, on_at o t.0 _ t.1)
  single_run printings.Char (Long n) us u e s r = absurd r
  single_run printings.Char Null us u e s r = absurd r
  single_run printings.Char (Ref a) us u e s r = absurd r
  single_run printings.Int (Int n) us u e s r = let t = goes_to o _ u e r in (tt, t.0, t.1, on_at o t.0 _ t.1)
  single_run printings.Int (Long n) us u e s r = absurd r
  single_run printings.Int Null us u e s r = absurd r
  single_run printings.Int (Ref a) us u e s r = absurd r
  single_run printings.Long (Long n) us u e s r = let t = goes_to o _ u e r in (tt, t.0, t.1, on_at o t.0 _ t.1)
  single_run printings.Long (Int n) us u e s r = absurd r
  single_run printings.Long Null us u e s r = absurd r
  single_run printings.Long (Ref a) us u e s r = absurd r

  single_some : (p : Printing) (vs : List Value) (u : Within) (e : Ending) → IsSingle p → Runs (printing_rule P p (onward o)) (w_of vs []) e u → 1 ≤ length vs
  single_some p (v ∷ vs) u e s r = omega arith
  single_some printings.Chars [] u e s r = absurd s
  single_some printings.Line [] u e s r = absurd s
  single_some printings.Char [] u e s r = absurd r
  single_some printings.Int [] u e s r = absurd r
  single_some printings.Long [] u e s r = absurd r

module _ (P : ProgramTables) (facts : ProgramFacts P) (h k : Heap) where
  pub some_operand : (fs : List Frame) → FramesStand P h fs → (p : Printing) → IsSingle p → PrintsBy P h k p fs → OnRunning fs (λ f below. 1 ≤ length f.operands)
  some_operand [] stand p s q = q.1
  some_operand (f ∷ below) stand p s q =
      let r = some_run P facts.typing stand.0 stand.1 h f below stand.2 q.1.0 q.1.1 q.1.2 q.1.3 in
      single_some P q.1.1.next h f.locals p f.operands r.1 r.0 s (subst (λ sc. Runs sc (within h f) r.0 r.1) (q.1.4 q.1.1.next) r.2)

  pub prints_single : (fs : List Frame) → FramesStand P h fs → (p : Printing) → IsSingle p → PrintsBy P h k p fs → (v : Value) → OnRunning fs (λ f below. (us : List Value) × (f.operands ≡ v ∷ us)) → IsPrinted p v × PrintsText P h k (text_of p v) 1 fs
  prints_single [] stand p s q v top = absurd top
  prints_single (f ∷ below) stand p s q v top =
      let own : MethodInfo = q.1.0 in
      let site : Site = q.1.1 in
      let r = some_run P facts.typing stand.0 stand.1 h f below stand.2 own site q.1.2 q.1.3 in
      let w = λ (vs : List Value). record (within h f) { operands = vs } in
      let x = single_run P site.next h f.locals p v top.0 r.1 r.0 s (subst (λ vs. Runs (printing_rule P p (onward site.next)) (w vs) r.0 r.1) top.1 (subst (λ sc. Runs sc (within h f) r.0 r.1) (q.1.4 q.1.1.next) r.2)) in
      let y : Runs (script P own site) (within h f) (GoesTo x.1) (record (within h f) { operands = drop 1 f.operands; printed = text_of p v })
      = subst (λ vs. Runs (script P own site) (w vs) (GoesTo x.1) (record (within h f) { operands = drop 1 vs; printed = text_of p v })) (sym top.1)
      (subst (λ sc. Runs sc (w (v ∷ top.0)) (GoesTo x.1) (record (within h f) { operands = top.0; printed = text_of p v })) (sym (q.1.4 q.1.1.next)) x.3) in
      (x.0, (q.0, (own, site, x.1, q.1.2, q.1.3, x.2, omega (arith, ap length top.1), y)))

  pub prints_line : (fs : List Frame) → FramesStand P h fs → PrintsBy P h k printings.Line fs → PrintsText P h k (10 ∷ []) 0 fs
  prints_line [] stand q = absurd q.1
  prints_line (f ∷ below) stand q =
      let own : MethodInfo = q.1.0 in
      let site : Site = q.1.1 in
      let r = some_run P facts.typing stand.0 stand.1 h f below stand.2 own site q.1.2 q.1.3 in
      let t = goes_to site.next _ r.1 r.0 (subst (λ sc. Runs sc (within h f) r.0 r.1) (q.1.4 q.1.1.next) r.2) in
      (q.0, (own, site, t.0, q.1.2, q.1.3, t.1, omega arith, subst (λ sc. Runs sc (within h f) (GoesTo t.0) (record (within h f) { printed = 10 ∷ [] })) (sym (q.1.4 q.1.1.next)) (on_at site.next t.0 _ t.1)))

pub single_of : (p : Printing) → (p ≡ printings.Chars → ⊥) → (p ≡ printings.Line → ⊥) → IsSingle p
single_of printings.Chars a b = a refl
single_of printings.Line a b = b refl
single_of p a b = tt

pub none_printing : (i : MethodInfo) (p : Printing) → printing_of i ≡ Some p → None ≡ printing_of i → ⊥
none_printing i p e q = absurd (bad (q ∙ e))
  where
    bad : ◌≡◌ {A = Option Printing} None (Some p) → ⊥
    bad e = cc
