-- The instruction at a place, by its offset.
use Rattle.std.proofs.Common.{◌≡◌, ℕ, zero, suc, ◌+◌, ◌<◌, ◌≤◌, List, [], ◌∷◌, length, rules, sym, subst, refl, ap, ◌∙◌, Bool, true, false, arith, cond}
use Rattle.std.specs.Prelude.{Option, Some, None, slice_get, ◌==◌}
use Rattle.std.specs.Option.{option_map, option_and_then, option_map_or}
use Rattle.nr_prog.specs.declared.body.instruction.Instr.{Instr}
use Rattle.nr_prog.specs.declared.body.whole.Body.{Body}
use Rattle.nr_prog.specs.Offsets.{RiseAbove, StandInOrder}
use Rattle.nr_linked.specs.declared.program.tables.MethodInfo.{MethodInfo}
use Rattle.nr_linked.specs.declared.program.tables.ProgramTables.{ProgramTables}
use Rattle.nr_linked.specs.declared.program.tables.Resolved.{Resolved}
use Rattle.nr_linked.specs.Facts.{ProgramFacts}
use Rattle.nr_linked.specs.Programs.{method_at}
use Rattle.nr_linked.specs.Sites.{Site, first_offset, site_among, site_at}
use Rattle.nr_model.specs.Steps.{next_offset}
use Rattle.nr_step.specs.Instructions.{site_of}
use Rattle.nr_machine.specs.CallStacks.{code_at, offset_at}

-- the offset of the instruction at a place, if there is one
abbrev pub offset_of : List Instr → ℕ → Option ℕ
offset_of is i = option_map (λ (x : Instr). x.at) (slice_get is i)

none_some : {X : Type 0} {a : X} → ◌≡◌ {A = Option X} None (Some a) → ⊥
none_some e = cc

some_eq : {X : Type 0} {a b : X} → Some a ≡ Some b → a ≡ b
some_eq e = cc

above : (low : ℕ) (is : List Instr) (i : ℕ) (x : Instr) → RiseAbove low is → slice_get is i ≡ Some x → low < x.at
above low [] i x r e = absurd (none_some e)
above low (y ∷ is) zero x r e = subst (λ x. low < x.at) (some_eq e) r.0
above low (y ∷ is) (suc i) x r e = omega (arith, r.0, above y.at is i x r.1 e)

same : (n : ℕ) → (n == n) ≡ true
same n = search rules

other : (m n : ℕ) → m < n → (m == n) ≡ false
other m n l = search rules

head_next : (is : List Instr) → first_offset is ≡ offset_of is 0
head_next [] = refl
head_next (i ∷ is) = refl

site_in : (y : Instr) (is : List Instr) (rs : List Resolved) (i : ℕ) (x : Instr) (r : Resolved) → RiseAbove y.at is → slice_get (y ∷ is) i ≡ Some x → slice_get rs i ≡ Some r
    → site_among (y ∷ is) rs x.at ≡ Some (site_of x r (offset_of (y ∷ is) (suc i)))
site_in y is [] i x r up e f = absurd (none_some f)
site_in y is (q ∷ rs) zero x r up e f =
    let ex : y ≡ x = some_eq e in
    let er : q ≡ r = some_eq f in
    subst (λ x. site_among (y ∷ is) (q ∷ rs) x.at ≡ Some (site_of x r (offset_of (y ∷ is) 1))) ex
    (subst (λ r. site_among (y ∷ is) (q ∷ rs) y.at ≡ Some (site_of y r (offset_of (y ∷ is) 1))) er
    (ap (λ b. cond b (Some (record { instr = y; resolved = q; next = first_offset is })) (site_among is rs y.at)) (same y.at) ∙ ap (λ n. Some (site_of y q n)) (head_next is)))
site_in y [] (q ∷ rs) (suc i) x r up e f = absurd (none_some e)
site_in y (z ∷ is) (q ∷ rs) (suc i) x r up e f =
    ap (λ b. cond b (Some (record { instr = y; resolved = q; next = Some z.at })) (site_among (z ∷ is) rs x.at)) (other y.at x.at (above y.at (z ∷ is) i x up e)) ∙ site_in z is rs i x r up.1 e f

pub site_by_place : (is : List Instr) (rs : List Resolved) (i : ℕ) (x : Instr) (r : Resolved) → StandInOrder is → slice_get is i ≡ Some x → slice_get rs i ≡ Some r
    → site_among is rs x.at ≡ Some (site_of x r (offset_of is (suc i)))
site_by_place [] rs i x r up e f = absurd (none_some e)
site_by_place (y ∷ is) rs i x r up e f = site_in y is rs i x r up.1 e f

-- the entry at a place within the list
pub entry_at : {X : Type 0} (xs : List X) (i : ℕ) → i < length xs → (x : X) × (slice_get xs i ≡ Some x)
entry_at [] i l = absurd (omega (arith, l))
entry_at (x ∷ xs) zero l = (x, refl)
entry_at (x ∷ xs) (suc i) l = entry_at xs i (omega (arith, l))

within_list : {X : Type 0} (xs : List X) (i : ℕ) (x : X) → slice_get xs i ≡ Some x → i < length xs
within_list [] i x e = absurd (none_some e)
within_list (y ∷ xs) zero x e = omega arith
within_list (y ∷ xs) (suc i) x e = omega (arith, within_list xs i x e)

mapped : (o : Option Instr) (t : ℕ) → option_map (λ (x : Instr). x.at) o ≡ Some t → (x : Instr) × (o ≡ Some x) × (x.at ≡ t)
mapped None t e = absurd (none_some e)
mapped (Some x) t e = (x, refl, some_eq e)

module _ (P : ProgramTables) (m : ℕ) (own : MethodInfo) (body : Body) (is_m : method_at P m ≡ Some own) (is_b : own.body ≡ Some body) where
  pub code_is : code_at P m ≡ body.instrs
  code_is = ap (λ o. option_map_or (λ (i : MethodInfo). option_map_or (λ (b : Body). b.instrs) i.body []) o []) is_m ∙ ap (λ o. option_map_or (λ (b : Body). b.instrs) o []) is_b

  pub offset_is : (i : ℕ) (x : Instr) → slice_get body.instrs i ≡ Some x → offset_at P m i ≡ x.at
  offset_is i x e = ap (λ is. option_map_or (λ (x : Instr). x.at) (slice_get is i) 0) code_is ∙ ap (λ o. option_map_or (λ (x : Instr). x.at) o 0) e

  module _ (facts : ProgramFacts P) (i : ℕ) (l : i < length body.instrs) where
    abbrev pub here : Instr
    here = (entry_at body.instrs i l).0

    here_is : slice_get body.instrs i ≡ Some here
    here_is = (entry_at body.instrs i l).1

    pub resolved_there : i < length own.resolved
    resolved_there = omega (arith, l, facts.typing.one_each m own body is_m is_b)

    abbrev pub found : Resolved
    found = (entry_at own.resolved i resolved_there).0

    pub site_is : site_at own (offset_at P m i) ≡ Some (site_of here found (offset_of body.instrs (suc i)))
    site_is =
        ap (site_at own) (offset_is i here here_is)
        ∙ ap (option_and_then (λ (b : Body). site_among b.instrs own.resolved here.at)) is_b
        ∙ site_by_place body.instrs own.resolved i here found (facts.laid_out m own body is_m is_b).order here_is (entry_at own.resolved i resolved_there).1

    next_is : next_offset P m (offset_at P m i) ≡ offset_of body.instrs (suc i)
    next_is =
        ap (λ o. option_and_then (λ (s : Site). s.next) (option_and_then (λ (w : MethodInfo). site_at w (offset_at P m i)) o)) is_m
        ∙ ap (option_and_then (λ (s : Site). s.next)) site_is

    -- the next instruction is at the next place
    pub next_place : (t : ℕ) → next_offset P m (offset_at P m i) ≡ Some t → (i + 1 < length body.instrs) × (offset_at P m (i + 1) ≡ t)
    next_place t e =
        let y = mapped (slice_get body.instrs (suc i)) t (sym next_is ∙ e) in
        let n : suc i ≡ i + 1 = omega arith in
        (omega (arith, within_list body.instrs (suc i) y.0 y.1), ap (offset_at P m) (sym n) ∙ offset_is (suc i) y.0 y.1 ∙ y.2)
