-- What stands above a class of a program: by the list that its entry keeps, and by steps.
use Rattle.std.proofs.Common.{◌≡◌, ℕ, zero, suc, ◌⊎◌, inl, length, refl, subst}
use Rattle.std.specs.Prelude.{Option, Some, None, IsTrue, IsSomeAnd, Contains, slice_get, ◌==◌}
use Rattle.std.specs.List.{list_any}
use Rattle.std.specs.Option.{option_and_then}
use Rattle.nr_linked.specs.declared.program.tables.ClassInfo.{ClassInfo}
use Rattle.nr_linked.specs.declared.program.tables.ProgramTables.{ProgramTables}
use Rattle.nr_linked.specs.Linked.{Linked}
use Rattle.nr_linked.specs.Programs.{class_at, super_of, superclasses, upward}
use Rattle.nr_linked.specs.Subtypes.{Above, IsDirectlyAbove, further, is_above, itself}
use Rattle.nr_linked.proofs.Elements.{is_some_and, passing, some_of}

-- ---- steps

pub above_trans : (P : ProgramTables) (c d e : ℕ) → Above P c d → Above P d e → Above P c e
above_trans P c d e itself rest = rest
above_trans P c d e (further {s = s} step more) rest = further step (above_trans P s d e more rest)

pub one_step : (P : ProgramTables) (c d : ℕ) → IsDirectlyAbove P c d → Above P c d
one_step P c d step = further step itself

-- a class of which something else stands above has an entry
pub has_entry : (P : ProgramTables) (c d : ℕ) (e : ClassInfo) → Above P c d → class_at P d ≡ Some e → (f : ClassInfo) × (class_at P c ≡ Some f)
has_entry P c d e itself is = (e, is)
has_entry P c d e (further {s = s} step rest) is = let r = some_of _ (class_at P c) step in (r.0, r.1)

pub step_of : (P : ProgramTables) (c s : ℕ) (e : ClassInfo) → class_at P c ≡ Some e → (e.super_class ≡ Some s) ⊎ Contains e.interfaces s → IsDirectlyAbove P c s
step_of P c s e is h = is_some_and (λ (e : ClassInfo). (e.super_class ≡ Some s) ⊎ Contains e.interfaces s) (class_at P c) e is h

pub super_step : (P : ProgramTables) (c s : ℕ) → super_of P c ≡ Some s → IsDirectlyAbove P c s
super_step P c s h = of_entry (class_at P c) h
  where
    of_entry : (o : Option ClassInfo) → option_and_then (λ e. e.super_class) o ≡ Some s → IsSomeAnd o (λ e. (e.super_class ≡ Some s) ⊎ Contains e.interfaces s)
    of_entry None h = absurd cc
    of_entry (Some e) h = inl h

-- ---- superclasses

-- what stands on the way up stands above
pub upward_above : (P : ProgramTables) (n : ℕ) (o : Option ℕ) (k d : ℕ) → slice_get (upward P n o) k ≡ Some d → (c : ℕ) × (o ≡ Some c) × Above P c d
upward_above P zero o k d e = absurd cc
upward_above P (suc n) None k d e = absurd cc
upward_above P (suc n) (Some c) zero d e = (c, refl, subst (λ d. Above P c d) (cc) itself)
upward_above P (suc n) (Some c) (suc k) d e =
    let r = upward_above P n (super_of P c) k d e in
    (c, refl, further (super_step P c r.0 r.1) r.2)

pub superclass_above : (P : ProgramTables) (c k d : ℕ) → slice_get (superclasses P c) k ≡ Some d → Above P c d
superclass_above P c k d e = let r = upward_above P (length P.classes) (Some c) k d e in subst (λ c. Above P c d) (cc) r.2

-- ---- the list

module _ (P : ProgramTables) (linked : Linked P) where
  pub up : (c d : ℕ) → IsTrue (is_above P c d) → Above P c d
  up c d p = let r = passing (λ (e : ClassInfo). list_any (λ s. s == d) e.supers) (class_at P c) p in ((linked.classes c r.0 r.1).supers d).0 p

  pub down : (c d : ℕ) (e : ClassInfo) → class_at P c ≡ Some e → Above P c d → IsTrue (is_above P c d)
  down c d e is h = ((linked.classes c e is).supers d).1 h

  pub itself_above : (c : ℕ) (e : ClassInfo) → class_at P c ≡ Some e → IsTrue (is_above P c c)
  itself_above c e is = down c c e is itself

  pub entry_of_above : (c d : ℕ) → IsTrue (is_above P c d) → (e : ClassInfo) × (class_at P c ≡ Some e)
  entry_of_above c d p = let r = passing (λ (e : ClassInfo). list_any (λ s. s == d) e.supers) (class_at P c) p in (r.0, r.1)

  pub above_above : (c d e : ℕ) → IsTrue (is_above P c d) → IsTrue (is_above P d e) → IsTrue (is_above P c e)
  above_above c d e p q = let r = entry_of_above c d p in down c e r.0 r.1 (above_trans P c d e (up c d p) (up d e q))

  pub super_above : (c d : ℕ) → super_of P c ≡ Some d → IsTrue (is_above P c d)
  super_above c d h =
      let step = super_step P c d h in
      let r = some_of _ (class_at P c) step in
      down c d r.0 r.1 (one_step P c d step)
