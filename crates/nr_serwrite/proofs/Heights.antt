-- The superclasses that are described behind a class end.
use Rattle.std.proofs.Common.{◌≡◌, ℕ, zero, suc, ◌<◌, Bool, true, false, ◌||◌, length, refl, sym, ap, subst, ◌∙◌, arith, if◌then◌else◌}
use Rattle.std.specs.Prelude.{Option, Some, None, is_none, IsTrue, ◌==◌}
use Rattle.std.specs.List.{list_any}
use Rattle.std.specs.Option.{option_and_then, option_map_or}
use Rattle.std.proofs.lemmas.Bool.{false≢true}
use Rattle.nr_linked.specs.declared.program.built_in.BuiltIn.TheVariants.{Object}
use Rattle.nr_linked.specs.declared.program.kind.Base.{Base}
use Rattle.nr_linked.specs.declared.program.kind.Base.TheVariants as bases
use Rattle.nr_linked.specs.declared.program.kind.Kind.{Kind}
use Rattle.nr_linked.specs.declared.program.tables.ClassInfo.{ClassInfo}
use Rattle.nr_linked.specs.declared.program.tables.ProgramTables.{ProgramTables}
use Rattle.nr_linked.specs.BuiltIns.{built_in}
use Rattle.nr_linked.specs.Kinds.{class_in, class_kind, is_array}
use Rattle.nr_linked.specs.Linked.{Linked}
use Rattle.nr_linked.specs.Programs.{class_at, super_of, upward}
use Rattle.nr_model.proofs.Paths.{none_some, some_eq}
use Rattle.nr_serform.specs.Descriptions.{described_super, super_but_object, unless_object}

-- how many classes lead from the class up to java/lang/Object, of at most n
abbrev pub to_object : ProgramTables → ℕ → ℕ → ℕ
to_object P zero c = 0
to_object P (suc n) c = if c == built_in P Object then 0 else option_map_or (λ d. suc (to_object P n d)) (super_of P c) 0

-- the measure of the way up
abbrev pub height : ProgramTables → Option Kind → ℕ
height P None = 0
height P (Some k) = suc (option_map_or (to_object P (length P.classes)) (class_in k.base) 0)

module _ (P : ProgramTables) (linked : Linked P) where
  -- at most n classes lead up to java/lang/Object
  abbrev Ends : ℕ → Option ℕ → Type 0
  Ends n o = IsTrue (list_any (λ d. d == built_in P Object) (upward P n o))

  abbrev up : ℕ → Bool → Option ℕ → ℕ
  up n b o = if b then 0 else option_map_or (λ d. suc (to_object P n d)) o 0

  -- where they do, more of them change nothing
  stable : (n c : ℕ) → Ends n (Some c) → to_object P (suc n) c ≡ to_object P n c
  stable zero c e = absurd (false≢true e)
  stable (suc n) c e = by (c == built_in P Object) (super_of P c) e (λ d. stable n d)
    where
      by : (b : Bool) (o : Option ℕ) → IsTrue (b || list_any (λ d. d == built_in P Object) (upward P n o))
          → ((d : ℕ) → Ends n (Some d) → to_object P (suc n) d ≡ to_object P n d) → up (suc n) b o ≡ up n b o
      by true o e rest = refl
      by false None e rest = refl
      by false (Some d) e rest = ap suc (rest d e)

  not_root : (c d : ℕ) (e : ClassInfo) → class_at P c ≡ Some e → e.super_class ≡ Some d → (c == built_in P Object) ≡ false
  not_root c d e is u = sym (linked.classes c e is).root ∙ ap is_none u

  lower_by : (n c d : ℕ) → Ends n (Some c) → super_of P c ≡ Some d → (c == built_in P Object) ≡ false → to_object P n d < to_object P n c
  lower_by zero c d ends u below = absurd (false≢true ends)
  lower_by (suc n) c d ends u below =
      let is : to_object P (suc n) c ≡ suc (to_object P n d) = (λ i. up n (below i) (u i)) in
      let more : Ends n (Some d) = subst (λ o. IsTrue (list_any (λ d. d == built_in P Object) (upward P n o))) u
      (subst (λ b. IsTrue (b || list_any (λ d. d == built_in P Object) (upward P n (super_of P c)))) below ends) in
      let same = stable n d more in
      omega (arith, is, same)

  pub super_lower : (c d : ℕ) → super_of P c ≡ Some d → to_object P (length P.classes) d < to_object P (length P.classes) c
  super_lower c d u = by (class_at P c) refl u
    where
      by : (o : Option ClassInfo) → class_at P c ≡ o → option_and_then (λ e. e.super_class) o ≡ Some d → to_object P (length P.classes) d < to_object P (length P.classes) c
      by None is e = absurd (none_some e)
      by (Some i) is e = lower_by (length P.classes) c d (linked.classes c i is).ends u (not_root c d i is e)

  -- a superclass that is described
  unless_is : (b : Bool) (d d' : ℕ) → ◌≡◌ {A = Option ℕ} (if b then None else Some d) (Some d') → d ≡ d'
  unless_is true d d' e = absurd (none_some e)
  unless_is false d d' e = some_eq e

  but_object_is : (c d : ℕ) → super_but_object P c ≡ Some d → super_of P c ≡ Some d
  but_object_is c d e = by (super_of P c) e
    where
      by : (o : Option ℕ) → option_and_then (unless_object P) o ≡ Some d → o ≡ Some d
      by None e = e
      by (Some d') e = ap Some (unless_is (d' == built_in P Object) d' d e)

  pub super_is_lower : (k : Kind) → height P (described_super P k) < height P (Some k)
  unfolding described_super
  super_is_lower k = by (is_array k) k.base
    where
      of_class : (c : ℕ) (o : Option ℕ) → super_but_object P c ≡ o
          → height P (option_and_then (λ d. Some (class_kind d)) o) < suc (to_object P (length P.classes) c)
      of_class c None e = omega arith
      of_class c (Some d) e = let l = super_lower c d (but_object_is c d e) in omega (arith, l)

      by : (a : Bool) (b : Base) → height P (if a then None else option_and_then (λ c. option_and_then (λ d. Some (class_kind d)) (super_but_object P c)) (class_in b))
          < suc (option_map_or (to_object P (length P.classes)) (class_in b) 0)
      by true b = omega arith
      by false (bases.Object c) = of_class c (super_but_object P c) refl
      by false bases.Bool = omega arith
      by false bases.Byte = omega arith
      by false bases.Char = omega arith
      by false bases.Short = omega arith
      by false bases.Int = omega arith
      by false bases.Long = omega arith
