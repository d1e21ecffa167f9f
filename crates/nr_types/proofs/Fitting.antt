-- Places of local variables that fit, one by one.
use Rattle.std.proofs.Common.{◌≡◌, ℕ, zero, suc, ◌+◌, ◌<◌, List, [], ◌∷◌, length, drop, get_or, refl, subst, sym, ap, ◌∙◌, Bool, true, false, ◌&&◌, arith, add-one}
use Rattle.nr_linked.specs.declared.program.tables.ProgramTables.{ProgramTables}
use Rattle.nr_linked.specs.declared.program.types.VType.{VType}
use Rattle.nr_linked.specs.declared.program.types.VType.TheVariants.{Top}
use Rattle.nr_linked.specs.TypingFrames.{is_type_assignable, locals_fit}
use Rattle.nr_linked.specs.TypingLocals.{local_type}

drop_none : (i : ℕ) → drop {A = VType} i [] ≡ []
drop_none zero = refl
drop_none (suc i) = refl

fit_step : (P : ProgramTables) (ts us : List VType) (i : ℕ) → i < length us
    → locals_fit P (drop i ts) (drop i us) ≡ (is_type_assignable P (local_type ts i) (get_or us i Top) && locals_fit P (drop (suc i) ts) (drop (suc i) us))
fit_step P ts [] i l = absurd (omega arith)
fit_step P [] (x ∷ us) zero l = refl
fit_step P (t ∷ ts) (x ∷ us) zero l = refl
fit_step P [] (x ∷ us) (suc i) l =
    subst (λ ts. locals_fit P ts (drop i us) ≡ (is_type_assignable P Top (get_or us i Top) && locals_fit P [] (drop (suc i) us))) (drop_none i)
    (subst (λ ts. locals_fit P (drop i []) (drop i us) ≡ (is_type_assignable P Top (get_or us i Top) && locals_fit P ts (drop (suc i) us))) (drop_none (suc i)) (fit_step P [] us i (omega arith)))
fit_step P (t ∷ ts) (x ∷ us) (suc i) l = fit_step P ts us i (omega arith)

module _ (P : ProgramTables) (ts us : List VType) (i : ℕ) (t : VType) (r : Bool) (here : i < length us) (typed : t ≡ local_type ts i) (tested : r ≡ is_type_assignable P t (get_or us i Top))
    (before : locals_fit P ts us ≡ locals_fit P (drop i ts) (drop i us)) where
  stepped : locals_fit P ts us ≡ (r && locals_fit P (drop (suc i) ts) (drop (suc i) us))
  stepped = before ∙ (fit_step P ts us i here ∙ ap (λ z. z && locals_fit P (drop (suc i) ts) (drop (suc i) us)) (sym (tested ∙ ap (λ t. is_type_assignable P t (get_or us i Top)) typed)))

  pub fit_stops : r ≡ false → false ≡ locals_fit P ts us
  fit_stops e = sym (stepped ∙ ap (λ z. z && locals_fit P (drop (suc i) ts) (drop (suc i) us)) e)

  pub fit_goes : r ≡ true → locals_fit P ts us ≡ locals_fit P (drop (i + 1) ts) (drop (i + 1) us)
  fit_goes e = rw add-one (stepped ∙ ap (λ z. z && locals_fit P (drop (suc i) ts) (drop (suc i) us)) e)

-- ---- the type at a place

pub local_is : (ts : List VType) (i : ℕ) → get_or ts i Top ≡ local_type ts i
local_is [] i = refl
local_is (u ∷ ts) zero = refl
local_is (u ∷ ts) (suc i) = local_is ts i
