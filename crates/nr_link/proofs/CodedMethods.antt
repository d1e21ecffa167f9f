-- Methods that have their code.
use Rattle.std.proofs.Common.{◌≡◌, List, [], map, refl, sym, ap, subst}
use Rattle.std.specs.Prelude.{All, Option, Some, None, IfSome, IsSomeAnd}
use Rattle.std.specs.Option.{option_map_or}
use Rattle.std.proofs.lemmas.List.Elements.{All-nil}
use Rattle.nr_prog.specs.declared.body.whole.Body.{Body}
use Rattle.nr_prog.specs.declared.parts.ClassParts.{ClassParts}
use Rattle.nr_linked.specs.declared.program.tables.ClassInfo.{ClassInfo}
use Rattle.nr_linked.specs.declared.program.tables.MethodInfo.{MethodInfo}
use Rattle.nr_linked.specs.declared.program.tables.ProgramTables.{ProgramTables}
use Rattle.nr_linked.specs.Linked.{instrs_of}
use Rattle.nr_linked.specs.Programs.{class_at}
use Rattle.nr_linkrules.specs.Completion.{resolved_in}
use Rattle.nr_linkrules.specs.Faults.{first_of}
use Rattle.nr_linkrules.specs.SiteRules.{code_fault, pool_of}
use Rattle.nr_link.specs.Coded.{HasNamesIn, IsCoded, found_in, read_class, site_fault}
use Rattle.nr_link.specs.Naming.{HasNames}

module _ (P : ProgramTables) (i : MethodInfo) where
  -- the constant pool is that of the class that was read
  pub pool_is : (parts : ClassParts) → Some parts ≡ read_class P i.«class» → pool_of P i ≡ parts.pool
  pool_is parts e = of_entry (class_at P i.«class») e
    where
      of_read : (o : Option ClassParts) → Some parts ≡ o → option_map_or (λ (parts : ClassParts). parts.pool) o [] ≡ parts.pool
      of_read o e = ap (λ (o : Option ClassParts). option_map_or (λ (parts : ClassParts). parts.pool) o []) (sym e)

      of_entry : (o : Option ClassInfo) → Some parts ≡ Rattle.std.specs.Option.option_and_then (λ (e : ClassInfo). e.read) o → option_map_or (λ (e : ClassInfo). option_map_or (λ (parts : ClassParts). parts.pool) e.read []) o [] ≡ parts.pool
      of_entry None e = absurd cc
      of_entry (Some entry) e = of_read entry.read e

  pub names_in : (parts : ClassParts) (b : Body) → IsCoded P i → Some parts ≡ read_class P i.«class» → i.body ≡ Some b → HasNamesIn b parts
  names_in parts b coded read has =
      subst (λ o. IsSomeAnd o (HasNamesIn b)) (sym read) (subst (λ o. IfSome o (λ (b : Body). IsSomeAnd (read_class P i.«class») (HasNamesIn b))) has coded)

  pub instrs_named : (parts : ClassParts) → IsCoded P i → Some parts ≡ read_class P i.«class» → All (HasNames parts.pool) (instrs_of i)
  instrs_named parts coded read = of_body i.body refl
    where
      of_body : (o : Option Body) → i.body ≡ o → All (HasNames parts.pool) (option_map_or (λ (b : Body). b.instrs) o [])
      of_body None is = All-nil (HasNames parts.pool)
      of_body (Some b) is = (names_in parts b coded read is).instrs

  -- no class, no code
  pub no_body : IsCoded P i → None ≡ read_class P i.«class» → i.body ≡ None
  no_body coded none = of_body i.body refl coded
    where
      of_body : (o : Option Body) → i.body ≡ o → IfSome o (λ (b : Body). IsSomeAnd (read_class P i.«class») (HasNamesIn b)) → o ≡ None
      of_body None is h = refl
      of_body (Some b) is h = absurd (subst (λ o. IsSomeAnd o (HasNamesIn b)) (sym none) h)

  pub faults_are : (parts : ClassParts) → Some parts ≡ read_class P i.«class» → code_fault P i ≡ first_of (site_fault P i parts.pool) (instrs_of i)
  unfolding code_fault
  faults_are parts read = ap (λ pool. first_of (site_fault P i pool) (instrs_of i)) (pool_is parts read)

  pub resolved_are : (parts : ClassParts) → Some parts ≡ read_class P i.«class» → resolved_in P i ≡ map (found_in P i parts.pool) (instrs_of i)
  resolved_are parts read = ap (λ pool. map (found_in P i pool) (instrs_of i)) (pool_is parts read)

  pub no_code_fault : i.body ≡ None → code_fault P i ≡ None
  unfolding code_fault first_of
  no_code_fault none = ap (λ (o : Option Body). first_of (site_fault P i (pool_of P i)) (option_map_or (λ (b : Body). b.instrs) o [])) none

  pub no_code : i.body ≡ None → [] ≡ resolved_in P i
  no_code none = sym (ap (λ (o : Option Body). map (found_in P i (pool_of P i)) (option_map_or (λ (b : Body). b.instrs) o [])) none)
