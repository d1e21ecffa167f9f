-- The method that is found as `main` of a class is one with which a run can start.
use Rattle.std.proofs.Common.{◌≡◌, ℕ, Bool, true, false, List, refl, ap, subst}
use Rattle.std.specs.Prelude.{Option, Some, None, Ok, Err, IsTrue, codes, is_some, ◌&&◌, if◌then◌else◌}
use Rattle.std.specs.Option.{option_and_then, option_map_or}
use Rattle.std.specs.Str.{bytes_eq}
use Rattle.std.proofs.lemmas.Bool.{and_parts}
use Rattle.std.proofs.lemmas.Slice.Eq.{bytes_eq-Decides}
use Rattle.nr_prog.specs.Members.{is_static}
use Rattle.nr_instrs.specs.Checks.{then_on}
use Rattle.nr_linked.specs.declared.program.tables.MethodInfo.{MethodInfo}
use Rattle.nr_linked.specs.declared.program.tables.ProgramTables.{ProgramTables}
use Rattle.nr_linked.specs.Programs.{class_named, method_at, methods_of}
use Rattle.nr_linked.specs.Selection.{has_body, is_called, is_public, is_static_at, is_static_called, static_named, with_body}
use Rattle.nr_linked.proofs.Elements.{found}
use Rattle.nr_linkrules.specs.declared.fault.LinkFault.{LinkFault}
use Rattle.nr_linkrules.specs.declared.fault.LinkFault.TheVariants as faults
use Rattle.nr_linkrules.specs.Mains.{main_in, main_of}
use Rattle.nr_linkrules.specs.SiteRules.{Finding, or_fault}
use Rattle.nr_run.specs.Runs.{IsMain}

some_of : (o : Option ℕ) (fault : LinkFault) (m : ℕ) → or_fault fault o ≡ Ok m → o ≡ Some m
some_of None fault m e = absurd cc
some_of (Some k) fault m e = cc

then_of : (r : Finding ℕ) (f : ℕ → Finding ℕ) (m : ℕ) → then_on r f ≡ Ok m → (c : ℕ) × (f c ≡ Ok m)
then_of (Ok c) f m e = (c, e)
then_of (Err fault) f m e = absurd cc

module _ (P : ProgramTables) where
  body_same : (k m : ℕ) → with_body P k ≡ Some m → (k ≡ m) × IsTrue (has_body P m)
  body_same k m e = cases (has_body P k) refl e
    where
      cases : (b : Bool) → has_body P k ≡ b → (if b then Some k else None) ≡ Some m → (k ≡ m) × IsTrue (has_body P m)
      cases true is e = let same : k ≡ m = cc in (same, subst (λ n. IsTrue (has_body P n)) same is)
      cases false is e = absurd cc

  through_body : (o : Option ℕ) (m : ℕ) → option_and_then (with_body P) o ≡ Some m → (o ≡ Some m) × IsTrue (has_body P m)
  through_body None m e = absurd cc
  through_body (Some k) m e = let b = body_same k m e in (ap Some b.0, b.1)

  is_main : (m : ℕ) → IsTrue (is_static_at P (codes "main") (codes "([I)I") m) → IsTrue (has_body P m) → IsMain P m
  is_main m static body = go (method_at P m) refl static body
    where
      go : (o : Option MethodInfo) → method_at P m ≡ o → IsTrue (option_map_or (is_static_called (codes "main") (codes "([I)I")) o false) → IsTrue (option_map_or (λ i. is_some i.body) o false) → IsMain P m
      go None is static body = absurd cc
      go (Some i) is static body =
          let a = and_parts (is_public i.flags) (is_static i.flags && is_called (codes "main") (codes "([I)I") i) static in
          let b = and_parts (is_static i.flags) (is_called (codes "main") (codes "([I)I") i) a.1 in
          let c = and_parts (bytes_eq i.name (codes "main")) (bytes_eq i.desc (codes "([I)I")) b.1 in
          record {
            info = i;
            is_info = is;
            static = b.0;
            desc = (bytes_eq-Decides i.desc (codes "([I)I")).0 c.1;
            code = body;
          }

  pub found_main : (name : List ℕ) (m : ℕ) → main_of P name ≡ Ok m → IsMain P m
  unfolding main_of
  found_main name m e =
      let in_class = then_of (or_fault (faults.NoClass name) (class_named P name)) (main_in P name) m e in
      let at = through_body (static_named P in_class.0 (codes "main") (codes "([I)I")) m (some_of _ (faults.NoMain name) m in_class.1) in
      let test = (found (is_static_at P (codes "main") (codes "([I)I")) (methods_of P in_class.0) m at.0).0 in
      is_main m test at.1
