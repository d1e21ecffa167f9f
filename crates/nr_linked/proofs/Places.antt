-- Numbers that a look-up gives are places in the tables.
use Rattle.std.proofs.Common.{◌≡◌, ℕ, ◌<◌, ◌^◌, Bool, true, false, List, [], ◌∷◌, length, find, cond, refl, sym, ap, ◌∙◌, arith}
use Rattle.std.specs.Prelude.{Option, Some, None, slice_get}
use Rattle.std.specs.Option.{option_map_or, IfSome}
use Rattle.std.proofs.lemmas.Option.{slice_get_within}
use Rattle.nr_linked.specs.declared.program.tables.ProgramTables.{ProgramTables}
use Rattle.nr_linked.specs.declared.program.tables.ClassInfo.{ClassInfo}
use Rattle.nr_linked.specs.Facts.{ProgramFacts}
use Rattle.nr_linked.specs.Programs.{class_at}
use Rattle.nr_linked.specs.Slots.{slots_of}

-- ---- what is found passes the test

found_passes : (test : ℕ → Bool) (xs : List ℕ) (m : ℕ) → find test xs ≡ Some m → test m ≡ true
found_passes test [] m e = absurd (cc)
found_passes test (x ∷ xs) m e = at_first (test x) refl (find test xs) e (found_passes test xs m)
  where
    same : x ≡ m → test x ≡ true → test m ≡ true
    same p t = ap test (sym p) ∙ t

    at_first : (b : Bool) → test x ≡ b → (f : Option ℕ) → cond b (Some x) f ≡ Some m → (f ≡ Some m → test m ≡ true) → test m ≡ true
    at_first true t f e rest = same (cc) t
    at_first false t f e rest = rest e

-- a test of what stands at a place fails where nothing stands there
passes_within : {X : Type 0} (test : X → Bool) (xs : List X) (m : ℕ) (o : Option X) → slice_get xs m ≡ o → option_map_or test o false ≡ true → m < length xs
passes_within test xs m None e p = absurd (clash p)
  where
    clash : false ≡ true → ⊥
    clash e = cc
passes_within test xs m (Some x) e p = slice_get_within xs m x e

pub found_within : {X : Type 0} (test : X → Bool) (xs : List X) (places : List ℕ) (o : Option ℕ)
    → o ≡ find (λ m. option_map_or test (slice_get xs m) false) places → IfSome o (λ m. m < length xs)
found_within test xs places None e = tt
found_within test xs places (Some m) e =
    passes_within test xs m (slice_get xs m) refl (found_passes (λ m. option_map_or test (slice_get xs m) false) places m (sym e))

-- ---- slots

few_in : (o : Option ClassInfo) → ((e : ClassInfo) → o ≡ Some e → length e.slots < 2 ^ 32) → length (option_map_or (λ e. e.slots) o []) < 2 ^ 32
few_in None few = omega arith
few_in (Some e) few = few e refl

pub few_slots : (P : ProgramTables) (c : ℕ) → ProgramFacts P → length (slots_of P c) < 2 ^ 32
few_slots P c facts = few_in (class_at P c) (λ e is. (facts.linked.classes c e is).few_slots)
