-- Which places are usable after an instruction: not those that may hold null as well as an int, whatever they held.
use Rattle.std.proofs.Common.{◌≡◌, ℕ, zero, suc, ◌-◌, ◌≤◌, List, [], ◌∷◌, length, refl, sym, ap, subst, ◌∙◌, arith}
use Rattle.std.specs.Prelude.{pos, take, drop}
use Rattle.nr_linked.specs.declared.program.tables.MethodInfo.{MethodInfo}
use Rattle.nr_linked.specs.declared.program.tables.ProgramTables.{ProgramTables}
use Rattle.nr_linked.specs.declared.program.types.VType.{VType}
use Rattle.nr_linked.specs.TypingFrames.{TypeFrame}
use Rattle.nr_linked.specs.WellTyped.{frame_at}
use Rattle.nr_model.specs.declared.value.Value.{Value}
use Rattle.nr_model.specs.declared.value.Value.TheVariants.{Int, Null}
use Rattle.nr_model.specs.Heaps.{Heap, on_some}
use Rattle.nr_model.specs.States.{Frame}
use Rattle.nr_model.specs.CallRules.{operands_of}
use Rattle.nr_model.specs.Alike.{Like, AllLike, no_more, one_more}
use Rattle.nr_model.specs.Types.{Ty, Anything, Word, operand_tys, local_tys}
use Rattle.nr_model.specs.Belonging.{Belongs, Belong, no_place, one_place, NoLong}
use Rattle.nr_typed.specs.Standing.{Holds, Stands, Waits}
use Rattle.nr_typed.specs.Usable.{Usable, UsableLike, local_types, operand_types}
use Rattle.nr_typed.specs.Usable as usable
use Rattle.nr_typed.proofs.Typed.{lengths_ty}
use Rattle.nr_typed.proofs.Belongs.{length_operands}
use Rattle.nr_typed.proofs.Places.{both_admitted, Places, none, some}

-- c in each place that isn't usable
abbrev pub blank_one : Value → Ty → Value → Value
blank_one c Anything u = c
blank_one c Word u = c
blank_one c t u = u

abbrev pub blank : Value → List Ty → List Value → List Value
blank c (t ∷ ts) (u ∷ us) = blank_one c t u ∷ blank c ts us
blank c ts us = us

pub blank_kept : (c : Value) (t : Ty) (u : Value) → Usable t → blank_one c t u ≡ u
blank_kept c Anything u x = absurd x
blank_kept c Word u x = absurd x
blank_kept c _ u x = refl

pub blank_length : (c : Value) (ts : List Ty) (us : List Value) → length (blank c ts us) ≡ length us
blank_length c [] us = refl
blank_length c (t ∷ ts) [] = refl
blank_length c (t ∷ ts) (u ∷ us) = ap suc (blank_length c ts us)

pub blank_take : (n : ℕ) (c : Value) (ts : List Ty) (us : List Value) → take n (blank c ts us) ≡ blank c (take n ts) (take n us)
blank_take zero c [] us = refl
blank_take zero c (t ∷ ts) [] = refl
blank_take zero c (t ∷ ts) (u ∷ us) = refl
blank_take (suc n) c [] us = refl
blank_take (suc n) c (t ∷ ts) [] = refl
blank_take (suc n) c (t ∷ ts) (u ∷ us) = ap (λ vs. blank_one c t u ∷ vs) (blank_take n c ts us)

blank_nothing : (c : Value) (ts : List Ty) → blank c ts [] ≡ []
blank_nothing c [] = refl
blank_nothing c (t ∷ ts) = refl

pub blank_drop : (n : ℕ) (c : Value) (ts : List Ty) (us : List Value) → drop n (blank c ts us) ≡ blank c (drop n ts) (drop n us)
blank_drop zero c [] us = refl
blank_drop zero c (t ∷ ts) [] = refl
blank_drop zero c (t ∷ ts) (u ∷ us) = refl
blank_drop (suc n) c [] us = refl
blank_drop (suc n) c (t ∷ ts) [] = sym (blank_nothing c (drop n ts))
blank_drop (suc n) c (t ∷ ts) (u ∷ us) = blank_drop n c ts us

module _ (P : ProgramTables) where
  module _ (h : Heap) (c : Value) (short : NoLong c) where
    blank_one_ok : (t : Ty) (u : Value) → Belongs P h t u → Belongs P h t (blank_one c t u)
    blank_one_ok Anything u b = tt
    blank_one_ok Word u b = short
    blank_one_ok _ u b = b

    pub blank_ok : (ts : List Ty) (us : List Value) → Belong P h ts us → Belong P h ts (blank c ts us)
    blank_ok ts us no_place = no_place
    blank_ok ts us (one_place b bs) = one_place (blank_one_ok _ _ b) (blank_ok _ _ bs)

  module _ (R : ℕ → ℕ → Type 0) (h : Heap) where
    flow_one : (t x : Ty) (u v : Value) → (Usable t → Like R u v) → Belongs P h x (blank_one Null t u) → Belongs P h x (blank_one (Int (pos 0)) t u) → Usable x → Like R u v
    flow_one Anything x u v l p q n = absurd (both_admitted P h x p q n)
    flow_one Word x u v l p q n = absurd (both_admitted P h x p q n)
    flow_one _ x u v l p q n = l tt

    flow_by : (ts xs : List Ty) (us vs : List Value) → UsableLike R ts us vs → Belong P h xs (blank Null ts us) → Belong P h xs (blank (Int (pos 0)) ts us) → UsableLike R xs us vs
    flow_by ts xs us vs usable.no_places no_place no_place = usable.no_places
    flow_by ts xs us vs (usable.one_place l ls) (one_place p ps) (one_place q qs) = usable.one_place (flow_one _ _ _ _ l p q) (flow_by _ _ _ _ ls ps qs)

    -- what values with anything in the other places belong to
    pub flow : (ts xs : List Ty) (us vs : List Value) → UsableLike R ts us vs → ((c : Value) → NoLong c → Belong P h xs (blank c ts us)) → UsableLike R xs us vs
    flow ts xs us vs l f = flow_by ts xs us vs l (f Null tt) (f (Int (pos 0)) tt)

    pub places_usable : (ts : List Ty) (us vs : List Value) → Places P R h ts us vs → UsableLike R ts us vs
    places_usable ts us vs none = usable.no_places
    places_usable ts us vs (some b l w ps) = usable.one_place l (places_usable _ _ _ ps)

    pub alike_usable : (ts : List Ty) (us vs : List Value) → Belong P h ts us → AllLike R us vs → UsableLike R ts us vs
    alike_usable ts us vs no_place no_more = usable.no_places
    alike_usable ts us vs (one_place b bs) (one_more l ls) = usable.one_place (λ u. l) (alike_usable _ _ _ bs ls)

  pub usable_length : (R : ℕ → ℕ → Type 0) (ts : List Ty) (us vs : List Value) → UsableLike R ts us vs → length us ≡ length vs
  usable_length R ts us vs usable.no_places = refl
  usable_length R ts us vs (usable.one_place l ls) = ap suc (usable_length R _ _ _ ls)

  pub usable_take : (R : ℕ → ℕ → Type 0) (n : ℕ) (ts : List Ty) (us vs : List Value) → UsableLike R ts us vs → UsableLike R (take n ts) (take n us) (take n vs)
  usable_take R zero ts us vs usable.no_places = usable.no_places
  usable_take R (suc n) ts us vs usable.no_places = usable.no_places
  usable_take R zero ts us vs (usable.one_place l ls) = usable.no_places
  usable_take R (suc n) ts us vs (usable.one_place l ls) = usable.one_place l (usable_take R n _ _ _ ls)

  pub usable_drop : (R : ℕ → ℕ → Type 0) (n : ℕ) (ts : List Ty) (us vs : List Value) → UsableLike R ts us vs → UsableLike R (drop n ts) (drop n us) (drop n vs)
  usable_drop R zero ts us vs usable.no_places = usable.no_places
  usable_drop R (suc n) ts us vs usable.no_places = usable.no_places
  usable_drop R zero ts us vs (usable.one_place l ls) = usable.one_place l ls
  usable_drop R (suc n) ts us vs (usable.one_place l ls) = usable_drop R n _ _ _ ls

  -- ---- the types of frames that stand or wait

  module _ (frames : ℕ → List TypeFrame) (h : Heap) where
    pub local_types_of : (f : Frame) (x : Holds P frames h f) → local_types P frames f.method f.offset ≡ local_tys x.method x.method.max_locals x.types.locals
    local_types_of f x = ap (λ o. on_some o [] (λ (m : MethodInfo). on_some (frame_at m (frames f.method) f.offset) [] (λ (types : TypeFrame). local_tys m m.max_locals types.locals))) x.is_method
        ∙ ap (λ o. on_some o [] (λ (types : TypeFrame). local_tys x.method x.method.max_locals types.locals)) x.is_types

    operand_types_of : (f : Frame) (x : Holds P frames h f) (n : ℕ) → operand_types P frames f.method f.offset n ≡ operand_tys x.method (drop (length x.types.operands - n) x.types.operands)
    operand_types_of f x n = ap (λ o. on_some o [] (λ (m : MethodInfo). on_some (frame_at m (frames f.method) f.offset) [] (λ (types : TypeFrame). operand_tys m (drop (length types.operands - n) types.operands)))) x.is_method
        ∙ ap (λ o. on_some o [] (λ (types : TypeFrame). operand_tys x.method (drop (length types.operands - n) types.operands))) x.is_types

    shorter : (n : ℕ) (ts : List VType) → length (drop n ts) ≤ length ts
    shorter zero ts = omega arith
    shorter (suc n) [] = omega arith
    shorter (suc n) (t ∷ ts) = let s = shorter n ts in omega arith

    -- as many as are left when some are dropped
    left_of : (n : ℕ) (ts : List VType) → drop (length ts - length (drop n ts)) ts ≡ drop n ts
    left_of zero ts = let e : length ts - length ts ≡ 0 = omega arith in ap (λ n. drop n ts) e
    left_of (suc n) [] = refl
    left_of (suc n) (t ∷ ts) =
        let s = shorter n ts in
        let e : suc (length ts) - length (drop n ts) ≡ suc (length ts - length (drop n ts)) = omega arith in
        ap (λ n. drop n (t ∷ ts)) e ∙ left_of n ts

    left_when : (m : MethodInfo) (n : ℕ) (ts : List VType) (vs : List Value) → Belong P h (operand_tys m (drop n ts)) vs → drop (length ts - length vs) ts ≡ drop n ts
    left_when m n ts vs b = ap (λ k. drop (length ts - k) ts) (sym (lengths_ty P h _ _ b) ∙ length_operands m (drop n ts)) ∙ left_of n ts

    pub standing_types : (f : Frame) (x : Stands P frames h f) → operand_types P frames f.method f.offset (length f.operands) ≡ operand_tys x.holds.method x.holds.types.operands
    standing_types f x = operand_types_of f x.holds (length f.operands) ∙ ap (operand_tys x.holds.method) (left_when x.holds.method 0 x.holds.types.operands f.operands x.operands)

    pub waiting_types : (r : ℕ) (f : Frame) (x : Waits P frames h r f) → operand_types P frames f.method f.offset (length f.operands) ≡ operand_tys x.holds.method (drop (operands_of x.target) x.holds.types.operands)
    waiting_types r f x = operand_types_of f x.holds (length f.operands) ∙ ap (operand_tys x.holds.method) (left_when x.holds.method (operands_of x.target) x.holds.types.operands f.operands x.operands)

    -- the places of a frame hold what belongs to them
    pub record Fills (method offset : ℕ) (locals operands : List Value) : Type 0 where
      pub locals_belong : Belong P h (local_types P frames method offset) locals
      pub operands_belong : Belong P h (operand_types P frames method offset (length operands)) operands

    pub stands_fills : (f : Frame) → Stands P frames h f → Fills f.method f.offset f.locals f.operands
    stands_fills f x = record {
      locals_belong = subst (λ ts. Belong P h ts f.locals) (sym (local_types_of f x.holds)) x.holds.locals;
      operands_belong = subst (λ ts. Belong P h ts f.operands) (sym (standing_types f x)) x.operands;
    }

    pub waits_fills : (r : ℕ) (f : Frame) → Waits P frames h r f → Fills f.method f.offset f.locals f.operands
    waits_fills r f x = record {
      locals_belong = subst (λ ts. Belong P h ts f.locals) (sym (local_types_of f x.holds)) x.holds.locals;
      operands_belong = subst (λ ts. Belong P h ts f.operands) (sym (waiting_types r f x)) x.operands;
    }
