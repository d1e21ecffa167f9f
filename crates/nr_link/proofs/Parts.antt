-- The first fault of a list by its parts.
use Rattle.std.proofs.Common.{◌≡◌, List, [], ◌∷◌, ◌++◌, refl, sym, ap, ◌∙◌}
use Rattle.std.specs.Prelude.{Option, Some, None}
use Rattle.std.specs.Option.{option_or}
use Rattle.nr_linkrules.specs.declared.fault.LinkFault.{LinkFault}
use Rattle.nr_linkrules.specs.Faults.{Fails, first_of}
use Rattle.nr_link.proofs.Walks.{fails_on}

or_or : (a b c : Option LinkFault) → option_or (option_or a b) c ≡ option_or a (option_or b c)
or_or None b c = refl
or_or (Some e) b c = refl

pub or_none : (a : Option LinkFault) → option_or a None ≡ a
or_none None = refl
or_none (Some e) = refl

pub first_of_both : {X : Type 0} (fault : X → Option LinkFault) (xs ys : List X) → first_of fault (xs ++ ys) ≡ option_or (first_of fault xs) (first_of fault ys)
unfolding first_of
first_of_both fault [] ys = refl
first_of_both fault (x ∷ xs) ys =
    ap (option_or (fault x)) (first_of_both fault xs ys) ∙ sym (or_or (fault x) (first_of fault xs) (first_of fault ys))

pub first_of_one : {X : Type 0} (fault : X → Option LinkFault) (x : X) → first_of fault (x ∷ []) ≡ fault x
unfolding first_of
first_of_one fault x = or_none (fault x)

pub first_of_none : {X : Type 0} (fault : X → Option LinkFault) → first_of fault [] ≡ None
unfolding first_of
first_of_none fault = refl

-- ---- a fault of one of two parts

module _ {X : Type 0} (fault : X → Option LinkFault) (e : LinkFault) (xs ys : List X) where
  pub fails_front : (zs : List X) → zs ≡ xs → Fails e (first_of fault zs) → Fails e (first_of fault (xs ++ ys))
  fails_front zs is f =
      fails_on e (first_of fault zs) (first_of fault (xs ++ ys))
      (λ some. first_of_both fault xs ys ∙ ap (λ o. option_or o (first_of fault ys)) (ap (first_of fault) (sym is) ∙ some)) f

  pub fails_back : (ws zs : List X) → ws ≡ xs → first_of fault ws ≡ None → zs ≡ ys → Fails e (first_of fault zs) → Fails e (first_of fault (xs ++ ys))
  fails_back ws zs first none is f =
      fails_on e (first_of fault zs) (first_of fault (xs ++ ys))
      (λ some. first_of_both fault xs ys ∙ ap (λ o. option_or o (first_of fault ys)) (ap (first_of fault) (sym first) ∙ none) ∙ ap (first_of fault) (sym is) ∙ some) f
