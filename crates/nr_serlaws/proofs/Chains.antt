-- The superclasses that are described, one after the other.
use Rattle.std.proofs.Common.{◌≡◌, ℕ, zero, suc, Bool, true, false, not, cond, ◌||◌, List, [], ◌∷◌, drop, length, Option, Some, None, refl, sym, ap, subst, ◌∙◌, if◌then◌else◌, true≢false}
use Rattle.std.specs.Prelude.{IsTrue, is_none, ◌==◌}
use Rattle.std.specs.List.{filter, list_any}
use Rattle.std.specs.Option.{option_and_then, option_map_or}
use Rattle.std.proofs.lemmas.Bool.{false≢true}
use Rattle.nr_linked.specs.declared.program.built_in.BuiltIn.TheVariants as built_ins
use Rattle.nr_linked.specs.declared.program.kind.Base.{Base}
use Rattle.nr_linked.specs.declared.program.kind.Base.TheVariants as bases
use Rattle.nr_linked.specs.declared.program.kind.Kind.{Kind}
use Rattle.nr_linked.specs.declared.program.tables.ClassInfo.{ClassInfo}
use Rattle.nr_linked.specs.declared.program.tables.ProgramTables.{ProgramTables}
use Rattle.nr_linked.specs.BuiltIns.{built_in}
use Rattle.nr_linked.specs.Kinds.{class_in, class_kind, is_array}
use Rattle.nr_linked.specs.Linked.{Linked}
use Rattle.nr_linked.specs.Programs.{class_at, super_of, upward}
use Rattle.nr_model.proofs.Paths.{none_some}
use Rattle.nr_serform.specs.Descriptions.{described_super, super_but_object, unless_object}
use Rattle.nr_serread.specs.Describing.{described_supers, supers_of_class}

-- these classes are described one after the other, the first as this kind
pub data Up (P : ProgramTables) : Option Kind → List ℕ → Type 0 where
  up_end : Up P None []
  up_more : {c : ℕ} {cs : List ℕ} → Up P (described_super P (class_kind c)) cs → Up P (Some (class_kind c)) (c ∷ cs)

abbrev is_object : ProgramTables → ℕ → Bool
is_object P d = d == built_in P built_ins.Object

abbrev but_object : ProgramTables → List ℕ → List ℕ
but_object P ds = filter (λ d. not (d == built_in P built_ins.Object)) ds

abbrev super_kind : Option ℕ → Option Kind
super_kind o = option_and_then (λ d. Some (class_kind d)) o

module _ (P : ProgramTables) (linked : Linked P) where
  described_is : (c : ℕ) → described_super P (class_kind c) ≡ super_kind (super_but_object P c)
  unfolding described_super
  described_is c = refl

  upward_none : (n : ℕ) → upward P n None ≡ []
  upward_none zero = refl
  upward_none (suc n) = refl

  -- java/lang/Object has no superclass, and no other class has none
  root_of : (c : ℕ) (e : ClassInfo) → class_at P c ≡ Some e → is_none e.super_class ≡ is_object P c
  root_of c e is = (linked.classes c e is).root

  none_is : (o : Option ℕ) → is_none o ≡ true → o ≡ None
  none_is None e = refl
  none_is (Some d) e = absurd (true≢false (sym e))

  top : (c : ℕ) → is_object P c ≡ true → super_of P c ≡ None
  top c e = by (class_at P c) refl
    where
      by : (o : Option ClassInfo) → class_at P c ≡ o → option_and_then (λ e. e.super_class) o ≡ None
      by None is = refl
      by (Some i) is = none_is i.super_class (root_of c i is ∙ e)

  not_top : (c d : ℕ) → super_of P c ≡ Some d → is_object P c ≡ false
  not_top c d up = by (class_at P c) refl up
    where
      by : (o : Option ClassInfo) → class_at P c ≡ o → option_and_then (λ e. e.super_class) o ≡ Some d → is_object P c ≡ false
      by None is up = absurd (none_some up)
      by (Some i) is up = sym (root_of c i is) ∙ ap is_none up

  abbrev Ends : ℕ → Option ℕ → Type 0
  Ends n o = IsTrue (list_any (λ d. d == built_in P built_ins.Object) (upward P n o))

  -- above java/lang/Object nothing is described
  over_top : (n d : ℕ) → is_object P d ≡ true → but_object P (upward P n (Some d)) ≡ []
  over_top zero d e = refl
  over_top (suc n) d e =
      ap (λ b. cond (not b) (d ∷ but_object P (upward P n (super_of P d))) (but_object P (upward P n (super_of P d)))) e
      ∙ ap (λ o. but_object P (upward P n o)) (top d e) ∙ ap (but_object P) (upward_none n)

  abbrev Above : ℕ → ℕ → Type 0
  Above n d = Up P (Some (class_kind d)) (but_object P (upward P n (Some d)))

  by_super : (n c : ℕ) → Ends (suc n) (Some c) → ((d : ℕ) → Ends n (Some d) → is_object P d ≡ false → Above n d)
      → Up P (super_kind (super_but_object P c)) (but_object P (upward P n (super_of P c)))
  by_super n c ends rest = by (super_of P c) refl
    where
      by_object : (d : ℕ) (b : Bool) → is_object P d ≡ b → Ends n (Some d) → Up P (super_kind (if b then None else Some d)) (but_object P (upward P n (Some d)))
      by_object d true e ends = subst (λ xs. Up P None xs) (sym (over_top n d e)) up_end
      by_object d false e ends = rest d ends e

      by : (o : Option ℕ) → super_of P c ≡ o → Up P (super_kind (option_and_then (unless_object P) (super_of P c))) (but_object P (upward P n (super_of P c)))
      by None e = subst (λ o. Up P (super_kind (option_and_then (unless_object P) o)) (but_object P (upward P n o))) (sym e) (subst (λ xs. Up P None (but_object P xs)) (sym (upward_none n)) up_end)
      by (Some d) e =
          let above = subst (λ b. IsTrue (b || list_any (λ d. d == built_in P built_ins.Object) (upward P n (super_of P c)))) (not_top c d e) ends in
          let more = subst (λ o. IsTrue (list_any (λ d. d == built_in P built_ins.Object) (upward P n o))) e above in
          subst (λ o. Up P (super_kind (option_and_then (unless_object P) o)) (but_object P (upward P n o))) (sym e) (by_object d (is_object P d) refl more)

  with_first : (n d : ℕ) → is_object P d ≡ false → Up P (super_kind (super_but_object P d)) (but_object P (upward P n (super_of P d))) → Above (suc n) d
  with_first n d e up =
      subst (λ b. Up P (Some (class_kind d)) (cond (not b) (d ∷ but_object P (upward P n (super_of P d))) (but_object P (upward P n (super_of P d))))) (sym e)
      (up_more (subst (λ o. Up P o (but_object P (upward P n (super_of P d)))) (sym (described_is d)) up))

  chain : (n c : ℕ) → Ends (suc n) (Some c) → Up P (super_kind (super_but_object P c)) (but_object P (upward P n (super_of P c)))
  chain zero c ends = by_super zero c ends (λ d more e. absurd (false≢true more))
  chain (suc n) c ends = by_super (suc n) c ends (λ d more e. with_first n d e (chain n d more))

  -- ---- a class, and an array, which has none

  of_class : (c : ℕ) → Up P (super_kind (super_but_object P c)) (supers_of_class P c)
  of_class c = by (class_at P c) refl
    where
      by_count : (n : ℕ) → length P.classes ≡ n → Ends n (Some c) → Up P (super_kind (super_but_object P c)) (but_object P (drop 1 (upward P n (Some c))))
      by_count zero e ends = absurd (false≢true ends)
      by_count (suc n) e ends = chain n c ends

      nothing : (n : ℕ) → super_of P c ≡ None → but_object P (drop 1 (upward P n (Some c))) ≡ []
      nothing zero e = refl
      nothing (suc n) e = ap (λ o. but_object P (upward P n o)) e ∙ ap (but_object P) (upward_none n)

      by : (o : Option ClassInfo) → class_at P c ≡ o → Up P (super_kind (super_but_object P c)) (supers_of_class P c)
      by None is =
          let up : super_of P c ≡ None = ap (λ o. option_and_then (λ e. e.super_class) o) is in
          subst (λ xs. Up P (super_kind (super_but_object P c)) xs) (sym (nothing (length P.classes) up))
          (subst (λ o. Up P (super_kind (option_and_then (unless_object P) o)) []) (sym up) up_end)
      by (Some i) is = by_count (length P.classes) refl (linked.classes c i is).ends

  pub ups : (kind : Kind) → Up P (described_super P kind) (described_supers P kind)
  unfolding described_super described_supers
  ups kind = by (is_array kind) kind.base
    where
      by : (b : Bool) (base : Base) → Up P (if b then None else option_and_then (λ c. option_and_then (λ d. Some (class_kind d)) (super_but_object P c)) (class_in base)) (if b then [] else option_map_or (supers_of_class P) (class_in base) [])
      by true base = up_end
      by false (bases.Object c) = of_class c
      by false bases.Bool = up_end
      by false bases.Byte = up_end
      by false bases.Char = up_end
      by false bases.Short = up_end
      by false bases.Int = up_end
      by false bases.Long = up_end
