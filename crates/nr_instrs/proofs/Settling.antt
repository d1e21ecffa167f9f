-- Targets that are settled are those that were read, and each is where an instruction starts.
use Rattle.std.proofs.Common.{◌≡◌, ℕ, suc, ◌<◌, ℤ, pos, negsuc, nat_abs, true, cond, ◌&&◌, ltb, List, [], ◌∷◌, ◌++◌, Result, Ok, Err, refl, sym, ap, subst, ◌∙◌, append_assoc}
use Rattle.std.specs.List.{AllByRecursion}
use Rattle.std.proofs.lemmas.Bool.{le-leb}
use Rattle.std.proofs.lemmas.List.{append-nil}
use Rattle.nr_base.proofs.ClassNames.{both_true, and_true}
use Rattle.nr_base.proofs.Laws.{test_ok, ok_is}
use Rattle.nr_prog.specs.declared.body.instruction.Args.{Args}
use Rattle.nr_prog.specs.declared.body.instruction.Args.TheVariants as args
use Rattle.nr_prog.specs.BodyStarts.{targets_of}
use Rattle.nr_instrs.specs.declared.raw.Operands.{Operands}
use Rattle.nr_instrs.specs.declared.raw.Operands.TheVariants as raw
use Rattle.nr_instrs.specs.declared.fault.CodeFault.TheVariants as faults
use Rattle.nr_instrs.specs.Checks.{then_on, walk, also, is_among, settled_target, settled_targets, settled_args}
use Rattle.nr_instrs.proofs.Texts.{IsPos, AllPos, offsets, HasPos, args_of}

-- ---- walks that give a list

pub record Then_ok {A B F : Type 0} (r : Result A F) (f : A → Result B F) (y : B) : Type 0 where
  pub value : A
  pub was : r ≡ Ok value
  pub gave : f value ≡ Ok y

pub then_ok : {A B F : Type 0} (r : Result A F) (f : A → Result B F) (y : B) → then_on r f ≡ Ok y → Then_ok r f y
then_ok (Ok x) f y e = record { value = x; was = refl; gave = e }
then_ok (Err d) f y e = absurd cc

pub then_gives : {A B F : Type 0} (r : Result A F) (f : A → Result B F) (x : A) (y : B) → r ≡ Ok x → f x ≡ Ok y → then_on r f ≡ Ok y
then_gives r f x y e h = ap (λ z. then_on z f) e ∙ h

-- f gives the second list of the first, item by item
abbrev pub Maps : {X Y F : Type 0} → (X → Result Y F) → List X → List Y → Type 0
Maps f [] [] = Unit {0}
Maps f (x ∷ xs) (y ∷ ys) = (f x ≡ Ok y) × Maps f xs ys
Maps f xs ys = ⊥

pub record Added {X Y F : Type 0} (f : X → Result Y F) (xs : List X) (before after : List Y) : Type 0 where
  pub items : List Y
  pub joined : after ≡ before ++ items
  pub each : Maps f xs items

pub walked : {X Y F : Type 0} (f : X → Result Y F) (xs : List X) (before after : List Y) → walk (also f) before xs ≡ Ok after → Added f xs before after
unfolding walk also
walked f [] before after e = record { items = []; joined = sym (ok_is before after e) ∙ sym (append-nil before); each = tt }
walked f (x ∷ xs) before after e =
    let a = then_ok (also f before x) (λ t. walk (also f) t xs) after e in
    let b = then_ok (f x) (λ y. Ok (before ++ y ∷ [])) a.value a.was in
    let more = walked f xs a.value after a.gave in
    record {
      items = b.value ∷ more.items;
      joined = more.joined ∙ ap (λ z. z ++ more.items) (sym (ok_is _ _ b.gave)) ∙ append_assoc before (b.value ∷ []) more.items;
      each = (b.was, more.each);
    }

pub walks : {X Y F : Type 0} (f : X → Result Y F) (xs : List X) (before ys : List Y) → Maps f xs ys → walk (also f) before xs ≡ Ok (before ++ ys)
unfolding walk also
walks f [] before [] m = ap (λ z. Ok z) (sym (append-nil before))
walks f [] before (y ∷ ys) m = absurd m
walks f (x ∷ xs) before [] m = absurd m
walks f (x ∷ xs) before (y ∷ ys) m =
    let one : also f before x ≡ Ok (before ++ y ∷ []) = then_gives (f x) (λ z. Ok (before ++ z ∷ [])) y (before ++ y ∷ []) m.0 refl in
    then_gives (also f before x) (λ t. walk (also f) t xs) (before ++ y ∷ []) (before ++ y ∷ ys) one
    (walks f xs (before ++ y ∷ []) ys m.1 ∙ ap (λ z. Ok z) (append_assoc before (y ∷ []) ys))

-- ---- one target

abbrev pub IsIn : List ℕ → ℕ → Type 0
IsIn starts t = is_among starts t ≡ true

target_is : (starts : List ℕ) (at : ℕ) (z : ℤ) (t : ℕ) → settled_target starts at z ≡ Ok t → (z ≡ pos t) × IsIn starts t
unfolding settled_target
target_is starts at (pos n) t e =
    let b = test_ok (ltb n 65536 && is_among starts n) (faults.Target at (pos n)) n t e in
    (ap pos b.1, subst (IsIn starts) b.1 (both_true (ltb n 65536) (is_among starts n) b.0).1)
target_is starts at (negsuc n) t e = absurd cc

target_of : (starts : List ℕ) (at t : ℕ) → t < 65536 → IsIn starts t → settled_target starts at (pos t) ≡ Ok t
unfolding settled_target
target_of starts at t lt here = ap (λ b. cond b (Ok t) (Err (faults.Target at (pos t)))) (and_true (ltb t 65536) (is_among starts t) (le-leb (suc t) 65536 lt) here)

abbrev pub AllIn : List ℕ → List ℕ → Type 0
AllIn starts ts = AllByRecursion (IsIn starts) ts

-- each start is an offset of code
abbrev pub AreBelow : List ℕ → Type 0
AreBelow starts = (t : ℕ) → IsIn starts t → t < 65536

settles_is : (starts : List ℕ) (at : ℕ) (z : ℤ) (t : ℕ) → settled_target starts at z ≡ Ok t → IsPos z × (t ≡ nat_abs z) × IsIn starts t
settles_is starts at z t e = let h = target_is starts at z t e in (h.0 ∙ ap pos (sym (ap nat_abs h.0)), sym (ap nat_abs h.0), h.1)

settles_of : (starts : List ℕ) (at : ℕ) (z : ℤ) → AreBelow starts → IsPos z → IsIn starts (nat_abs z) → settled_target starts at z ≡ Ok (nat_abs z)
settles_of starts at z below is here = ap (settled_target starts at) is ∙ target_of starts at (nat_abs z) (below (nat_abs z) here) here

maps_is : (starts : List ℕ) (at : ℕ) (zs : List ℤ) (ts : List ℕ) → Maps (settled_target starts at) zs ts → AllPos zs × (ts ≡ offsets zs) × AllIn starts ts
maps_is starts at [] [] m = (tt, refl, tt)
maps_is starts at [] (t ∷ ts) m = absurd m
maps_is starts at (z ∷ zs) [] m = absurd m
maps_is starts at (z ∷ zs) (t ∷ ts) m =
    let a = settles_is starts at z t m.0 in
    let b = maps_is starts at zs ts m.1 in
    ((a.0, b.0), ap (λ x. x ∷ ts) a.1 ∙ ap (λ xs. nat_abs z ∷ xs) b.1, (a.2, b.2))

maps_of : (starts : List ℕ) (at : ℕ) (zs : List ℤ) → AreBelow starts → AllPos zs → AllIn starts (offsets zs) → Maps (settled_target starts at) zs (offsets zs)
maps_of starts at [] below is all = tt
maps_of starts at (z ∷ zs) below is all = (settles_of starts at z below is.0 all.0, maps_of starts at zs below is.1 all.1)

all_is : (starts : List ℕ) (at : ℕ) (zs : List ℤ) (ts : List ℕ) → settled_targets starts at zs ≡ Ok ts → AllPos zs × (ts ≡ offsets zs) × AllIn starts ts
unfolding settled_targets
all_is starts at zs ts e =
    let a = walked (settled_target starts at) zs [] ts e in
    maps_is starts at zs ts (subst (Maps (settled_target starts at) zs) (sym a.joined) a.each)

all_of : (starts : List ℕ) (at : ℕ) (zs : List ℤ) → AreBelow starts → AllPos zs → AllIn starts (offsets zs) → settled_targets starts at zs ≡ Ok (offsets zs)
unfolding settled_targets
all_of starts at zs below is all = walks (settled_target starts at) zs [] (offsets zs) (maps_of starts at zs below is all)

-- ---- operands

-- an instruction that is read without a target has none
abbrev pub HasNone : Operands → Type 0
HasNone (raw.Plain a) = targets_of a ≡ []
HasNone o = Unit {0}

pub record IsSettled (starts : List ℕ) (o : Operands) (a : Args) : Type 0 where
  pub is_pos : HasPos o
  pub is : a ≡ args_of o
  pub all : AllIn starts (targets_of a)

pub args_are : (starts : List ℕ) (at : ℕ) (o : Operands) (a : Args) → HasNone o → settled_args starts at o ≡ Ok a → IsSettled starts o a
unfolding settled_args
args_are starts at (raw.Plain b) a none e =
    let is = ok_is b a e in
    record { is_pos = tt; is = sym is; all = subst (AllIn starts) (sym (ap targets_of (sym is) ∙ none)) tt }
args_are starts at (raw.Branch z) a none e =
    let t = then_ok (settled_target starts at z) (λ to. Ok (args.Branch to)) a e in
    let h = settles_is starts at z t.value t.was in
    let is : a ≡ args.Branch (nat_abs z) = sym (ok_is _ a t.gave) ∙ ap args.Branch h.1 in
    record { is_pos = h.0; is = is; all = subst (λ x. AllIn starts (targets_of x)) (ok_is _ a t.gave) (h.2, tt) }
args_are starts at (raw.Switch other low zs) a none e =
    let t = then_ok (settled_target starts at other) (λ o. then_on (settled_targets starts at zs) (λ ts. Ok (args.Switch o low ts))) a e in
    let u = then_ok (settled_targets starts at zs) (λ ts. Ok (args.Switch t.value low ts)) a t.gave in
    let h = settles_is starts at other t.value t.was in
    let k = all_is starts at zs u.value u.was in
    let is = ok_is _ a u.gave in
    record { is_pos = (h.0, k.0); is = sym is ∙ ap (λ o. args.Switch o low u.value) h.1 ∙ ap (λ ts. args.Switch (nat_abs other) low ts) k.1; all = subst (λ x. AllIn starts (targets_of x)) is (h.2, k.2) }
args_are starts at (raw.Look other keys zs) a none e =
    let t = then_ok (settled_target starts at other) (λ o. then_on (settled_targets starts at zs) (λ ts. Ok (args.Look o keys ts))) a e in
    let u = then_ok (settled_targets starts at zs) (λ ts. Ok (args.Look t.value keys ts)) a t.gave in
    let h = settles_is starts at other t.value t.was in
    let k = all_is starts at zs u.value u.was in
    let is = ok_is _ a u.gave in
    record { is_pos = (h.0, k.0); is = sym is ∙ ap (λ o. args.Look o keys u.value) h.1 ∙ ap (λ ts. args.Look (nat_abs other) keys ts) k.1; all = subst (λ x. AllIn starts (targets_of x)) is (h.2, k.2) }

pub args_give : (starts : List ℕ) (at : ℕ) (o : Operands) → AreBelow starts → HasPos o → AllIn starts (targets_of (args_of o)) → settled_args starts at o ≡ Ok (args_of o)
unfolding settled_args
args_give starts at (raw.Plain b) below is all = refl
args_give starts at (raw.Branch z) below is all = then_gives (settled_target starts at z) _ (nat_abs z) _ (settles_of starts at z below is all.0) refl
args_give starts at (raw.Switch other low zs) below is all =
    then_gives (settled_target starts at other) _ (nat_abs other) _ (settles_of starts at other below is.0 all.0)
    (then_gives (settled_targets starts at zs) _ (offsets zs) _ (all_of starts at zs below is.1 all.1) refl)
args_give starts at (raw.Look other keys zs) below is all =
    then_gives (settled_target starts at other) _ (nat_abs other) _ (settles_of starts at other below is.0 all.0)
    (then_gives (settled_targets starts at zs) _ (offsets zs) _ (all_of starts at zs below is.1 all.1) refl)
