-- The site of an instruction of a method.
use Rattle.std.proofs.Common.{◌≡◌, ℕ, refl, sym, ap, subst, ◌∙◌}
use Rattle.std.specs.Prelude.{Option, Some, None, Err, IsSomeAnd, IsTrue}
use Rattle.std.specs.Option.{IfSome, option_and_then, option_map}
use Rattle.nr_optable.specs.declared.table.Family.{Family}
use Rattle.nr_prog.specs.declared.body.instruction.Instr.{Instr}
use Rattle.nr_prog.specs.declared.body.whole.Body.{Body}
use Rattle.nr_prog.specs.Offsets.{IsInOrder}
use Rattle.nr_prog.proofs.Offsets.{standing_in_order}
use Rattle.nr_linked.specs.declared.program.tables.MethodInfo.{MethodInfo}
use Rattle.nr_linked.specs.declared.program.tables.ProgramTables.{ProgramTables}
use Rattle.nr_linked.specs.declared.program.tables.Resolved.{Resolved}
use Rattle.nr_linked.specs.Facts.{ProgramFacts}
use Rattle.nr_linked.specs.Programs.{method_at}
use Rattle.nr_linked.specs.Sites.{Site, site_at}
use Rattle.nr_linked.specs.Suited.{is_suited}
use Rattle.nr_linked.specs.TypingFrames.{TypeFrame}
use Rattle.nr_linked.specs.TypingChecks.{Checked}
use Rattle.nr_verify_ops.specs.Answers.{IsTyped, IsTypedWith}
use Rattle.nr_verify_ops.specs.declared.error.OpError.{OpError}
use Rattle.nr_verify_ops.specs.declared.error.OpError.TheVariants.{Fault, NoMemory}
use Rattle.nr_verify_ops.specs.Sites.{HasCodeInOrder, IsInstrOf, family_and_found}

same_some : {X : Type 0} {x y : X} → Some x ≡ Some y → x ≡ y
same_some e = cc

made : Instr → Resolved → Option ℕ → Site
made i r n = record { instr = i; resolved = r; next = n }

pub site_is : (o : Option Site) (s own : Site) (i : Instr) (family : Family) (found : Resolved) → o ≡ Some s → o ≡ Some own → own.instr ≡ i
    → Some (family, found) ≡ option_map family_and_found o → ◌≡◌ {A = Site} (record { instr = i; resolved = found; next = s.next }) s
unfolding made
site_is o s own i family found e d q r =
    let same : s ≡ own = same_some (sym e ∙ d) in
    let instr : i ≡ s.instr = sym (ap (λ (s : Site). s.instr) same ∙ q) in
    let both : (family, found) ≡ family_and_found s = same_some (r ∙ ap (λ o. option_map family_and_found o) e) in
    let here : found ≡ s.resolved = ap (λ (x : Family × Resolved). x.1) both in
    ap (λ i. made i found s.next) instr ∙ ap (λ r. made s.instr r s.next) here

pub same_error : (e : OpError) (f : TypeFrame) (c : Checked) → IsTyped {A = Unit {0}} (Err e) f c → IsTypedWith (Err e) c
same_error (Fault e) f c a = a
same_error NoMemory f c a = tt

pub is_there : (o : Option Site) (s : Site) → o ≡ Some s → None ≡ option_map family_and_found o → ⊥
is_there o s e r = none_some (r ∙ ap (λ o. option_map family_and_found o) e)
  where
    none_some : {x : Family × Resolved} → ◌≡◌ {A = Option (Family × Resolved)} None (Some x) → ⊥
    none_some e = cc

-- ---- in a program

pub in_order : (P : ProgramTables) → ProgramFacts P → (n : ℕ) (m : MethodInfo) → method_at P n ≡ Some m → HasCodeInOrder m
in_order P facts n m is = by_body m.body refl
  where
    by_body : (o : Option Body) → m.body ≡ o → IfSome o (λ body. IsInOrder body.instrs)
    by_body None e = tt
    by_body (Some body) e = standing_in_order body.instrs (facts.laid_out n m body is e).order

-- an instruction of a method
pub own_site : (P : ProgramTables) (n : ℕ) (m : MethodInfo) (i : Instr) → method_at P n ≡ Some m → IsInstrOf P n i → (s : Site) × (site_at m i.at ≡ Some s) × (s.instr ≡ i)
own_site P n m i is own = by_site (site_at m i.at) refl (subst (λ o. IsSomeAnd (option_and_then (λ (m : MethodInfo). site_at m i.at) o) (λ (s : Site). s.instr ≡ i)) is own)
  where
    by_site : (o : Option Site) → site_at m i.at ≡ o → IsSomeAnd o (λ (s : Site). s.instr ≡ i) → (s : Site) × (site_at m i.at ≡ Some s) × (s.instr ≡ i)
    by_site None e p = absurd p
    by_site (Some s) e p = (s, e, p)

pub suited_here : (P : ProgramTables) → ProgramFacts P → (n : ℕ) (m : MethodInfo) (i : Instr) (family : Family) (found : Resolved) → method_at P n ≡ Some m → IsInstrOf P n i
    → Some (family, found) ≡ option_map family_and_found (site_at m i.at) → IsTrue (is_suited P (record { instr = i; resolved = found; next = None }))
suited_here P facts n m i family found is own e =
    let o = own_site P n m i is own in
    let same = site_is (site_at m i.at) o.0 o.0 i family found o.1 o.1 o.2 e in
    subst (λ (s : Site). IsTrue (is_suited P s)) (sym same) (facts.suited n m i.at o.0 is o.1)
