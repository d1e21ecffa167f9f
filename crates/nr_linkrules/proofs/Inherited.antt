-- Where no class stands above itself, a class has its superclass's slots first, and then those that it declares.
use Rattle.std.proofs.Common.{◌≡◌, ℕ, zero, suc, ◌+◌, ◌-◌, ◌<◌, List, [], ◌∷◌, ◌++◌, length, refl, sym, ap, subst, ◌∙◌, arith}
use Rattle.std.specs.Prelude.{Option, Some, None, reverse}
use Rattle.std.specs.List.{flat_map}
use Rattle.std.proofs.lemmas.Grind.{flat_map-append}
use Rattle.std.proofs.lemmas.List.{reverse-append}
use Rattle.nr_linked.specs.declared.program.tables.ProgramTables.{ProgramTables}
use Rattle.nr_linked.specs.Programs.{class_at, super_of, superclasses, upward}
use Rattle.nr_links.proofs.Reaching.{direct_step}
use Rattle.nr_linked.proofs.Ascents.{super_step}
use Rattle.nr_linkrules.specs.ClassRules.{is_above_itself}
use Rattle.nr_linkrules.specs.Layout.{slots_declared, slots_in}
use Rattle.nr_linkrules.specs.Reaches.{HasSteps}
use Rattle.nr_linkrules.proofs.Ranks.{rank, rank_falls, rank_short}

append_none : {X : Type 0} (xs : List X) → xs ++ [] ≡ xs
append_none [] = refl
append_none (x ∷ xs) = ap (λ ys. x ∷ ys) (append_none xs)

module _ (P : ProgramTables) (short : HasSteps P) (none : (c : ℕ) → is_above_itself P c ≡ Rattle.std.proofs.Common.false) where
  falls : (c s : ℕ) → super_of P c ≡ Some s → rank P short none s < rank P short none c
  falls c s e = rank_falls P short none c s (direct_step (class_at P c) s (super_step P c s e))

  none_up : (m : ℕ) → upward P m None ≡ []
  none_up zero = refl
  none_up (suc m) = refl

  -- more steps than the rank lead no further
  stable : (m c : ℕ) → rank P short none c < m → upward P (suc m) (Some c) ≡ upward P m (Some c)
  stable zero c lt = absurd (omega (arith, lt))
  stable (suc m) c lt = ap (λ cs. c ∷ cs) (rest (super_of P c) refl (λ s l. stable m s l))
    where
      rest : (o : Option ℕ) → super_of P c ≡ o → ((s : ℕ) → rank P short none s < m → upward P (suc m) (Some s) ≡ upward P m (Some s)) → upward P (suc m) o ≡ upward P m o
      rest None e h = sym (none_up m)
      rest (Some s) e h = let f = falls c s e in h s (omega (arith, f, lt))

  -- a class's superclasses are itself and those of its superclass
  pub further_up : (c s : ℕ) → c < length P.classes → super_of P c ≡ Some s → superclasses P c ≡ c ∷ superclasses P s
  further_up c s lt e = of_count (length P.classes) (rank_short P short none c lt)
    where
      of_count : (n : ℕ) → rank P short none c < n → upward P n (Some c) ≡ c ∷ upward P n (Some s)
      of_count zero l = absurd (omega (arith, l))
      of_count (suc n) l = let f = falls c s e in ap (λ o. c ∷ upward P n o) e ∙ ap (λ cs. c ∷ cs) (sym (stable n s (omega (arith, f, l))))

  -- its slots are those of its superclass, then those that it declares
  pub inherits : (c s : ℕ) → c < length P.classes → super_of P c ≡ Some s → slots_in P c ≡ slots_in P s ++ slots_declared P c
  unfolding slots_in
  inherits c s lt e =
      ap (λ cs. flat_map (slots_declared P) (reverse cs)) (further_up c s lt e)
      ∙ ap (flat_map (slots_declared P)) (reverse-append (c ∷ []) (superclasses P s))
      ∙ flat_map-append (slots_declared P) (reverse (superclasses P s)) (c ∷ [])
      ∙ ap (λ ss. flat_map (slots_declared P) (reverse (superclasses P s)) ++ ss) (append_none (slots_declared P c))
