-- Handlers, and the frames that go on at them.
use Rattle.std.proofs.Common.{◌≡◌, ℕ, zero, suc, ◌+◌, ◌-◌, ◌<◌, ◌≤◌, List, [], ◌∷◌, ◌++◌, length, drop, get_or, refl, sym, ap, ap₂, subst, ◌∙◌, Bool, true, false, arith, add-one, cond, min}
use Rattle.std.specs.Prelude.{Option, Some, None, All, IsSome, IsSomeAnd, MatchOption, ◌&&◌, ◌==◌, is_some, not, position, slice_get, if◌then◌else◌}
use Rattle.std.specs.List.{position_or_len}
use Rattle.std.specs.Option.{option_and_then, option_map_or}
use Rattle.std.proofs.Math.Seq.{drop-cons}
use Rattle.std.proofs.lemmas.Bool.{eqb-true, lt-ltb}
use Rattle.std.proofs.lemmas.List.{length-append, length-drop}
use Rattle.std.proofs.lemmas.List.Quantifiers.{position-Some}
use Rattle.nr_prog.specs.declared.body.instruction.Instr.{Instr}
use Rattle.nr_prog.specs.declared.body.whole.Body.{Body}
use Rattle.nr_prog.specs.declared.member.Handler.{Handler}
use Rattle.nr_linked.specs.declared.program.kind.Kind.{Kind}
use Rattle.nr_linked.specs.declared.program.tables.MethodInfo.{MethodInfo}
use Rattle.nr_linked.specs.declared.program.tables.ProgramTables.{ProgramTables}
use Rattle.nr_linked.specs.declared.program.tables.Resolved.{Resolved}
use Rattle.nr_linked.specs.Handlers.{covers}
use Rattle.nr_linked.specs.Programs.{method_at}
use Rattle.nr_linked.specs.Sites.{Site, first_offset, site_among, site_at}
use Rattle.nr_model.specs.Steps.{catches, first_handler, handler_at}
use Rattle.nr_machine.specs.declared.stack.Frame.{Frame as CodeFrame}
use Rattle.nr_machine.specs.CallStacks.{IsPlaced, StandsAt, code_at, offset_at}
use Rattle.nr_machine.proofs.Calls.{some_both}
use Rattle.nr_machine.proofs.Places.{code_is, entry_at}

module _ (P : ProgramTables) (offset : ℕ) (kind : Kind) where
  abbrev from : List Handler → List (Option Kind) → Option ℕ
  from hs cs = first_handler P offset kind hs cs

  -- a handler that doesn't handle is passed over
  pub handler_on : (hs : List Handler) (cs : List (Option Kind)) (i : ℕ) (d : Handler) (e : Option Kind) → i < length hs → i < length cs
      → (covers (get_or hs i d) offset && catches P kind (get_or cs i e)) ≡ false → from (drop i hs) (drop i cs) ≡ from (drop (i + 1) hs) (drop (i + 1) cs)
  handler_on hs cs i d e l m no_match =
      ap₂ from (drop-cons hs i d l) (drop-cons cs i e m)
      ∙ ap (λ b. if b then Some (get_or hs i d).handler else from (drop (suc i) hs) (drop (suc i) cs)) no_match
      ∙ rw add-one refl

  pub handler_here : (hs : List Handler) (cs : List (Option Kind)) (i : ℕ) (d : Handler) (e : Option Kind) → i < length hs → i < length cs
      → (covers (get_or hs i d) offset && catches P kind (get_or cs i e)) ≡ true → from (drop i hs) (drop i cs) ≡ Some (get_or hs i d).handler
  handler_here hs cs i d e l m holds =
      ap₂ from (drop-cons hs i d l) (drop-cons cs i e m)
      ∙ ap (λ b. if b then Some (get_or hs i d).handler else from (drop (suc i) hs) (drop (suc i) cs)) holds

  none_left : (hs : List Handler) (cs : List (Option Kind)) → cs ≡ [] → from hs cs ≡ None
  none_left [] cs e = refl
  none_left (h ∷ hs) [] e = refl
  none_left (h ∷ hs) (c ∷ cs) e = absurd (bad e)
    where
      bad : c ∷ cs ≡ [] → ⊥
      bad e = cc

  pub handler_end : (hs : List Handler) (cs : List (Option Kind)) (i : ℕ) → min (length hs) (length cs) ≤ i → from (drop i hs) (drop i cs) ≡ None
  handler_end hs cs i l = by (drop i hs) (drop i cs) (length-drop i hs) (length-drop i cs)
    where
      by : (xs : List Handler) (ys : List (Option Kind)) → length xs ≡ length hs - i → length ys ≡ length cs - i → from xs ys ≡ None
      by [] ys e f = refl
      by (x ∷ xs) [] e f = refl
      by (x ∷ xs) (y ∷ ys) e f = absurd (omega (arith, e, f, l))

-- ---- the place of an instruction

module _ (t : ℕ) where
  site_there : (is : List Instr) (rs : List Resolved) → IsSome (site_among is rs t) → (i : ℕ) × (i < length is) × ((d : Instr) → ((get_or is i d).at == t) ≡ true)
  site_there [] rs s = absurd (bad s)
    where
      bad : IsSome {T = Site} None → ⊥
      bad e = cc
  site_there (i ∷ is) [] s = absurd (bad s)
    where
      bad : IsSome {T = Site} None → ⊥
      bad e = cc
  site_there (i ∷ is) (r ∷ rs) s = by (i.at == t) refl s (site_there is rs)
    where
      by : (b : Bool) → (i.at == t) ≡ b → IsSome (if b then Some (record { instr = i; resolved = r; next = first_offset is }) else site_among is rs t)
          → (IsSome (site_among is rs t) → (j : ℕ) × (j < length is) × ((d : Instr) → ((get_or is j d).at == t) ≡ true))
          → (j : ℕ) × (j < length (i ∷ is)) × ((d : Instr) → ((get_or (i ∷ is) j d).at == t) ≡ true)
      by true e s rest = (0, omega arith, λ d. e)
      by false e s rest = let p = rest s in (suc p.0, omega (arith, p.1), p.2)

  found_before : (is : List Instr) (i : ℕ) → i < length is → ((d : Instr) → ((get_or is i d).at == t) ≡ true) → position_or_len (λ x. x.at == t) is ≤ i
  found_before [] i l f = absurd (omega (arith, l))
  found_before (x ∷ is) zero l f = by (x.at == t) (f x)
    where
      by : (b : Bool) → b ≡ true → cond (not b) (1 + position_or_len (λ x. x.at == t) is) 0 ≤ 0
      by true e = omega arith
      by false e = absurd (bad e)
        where
          bad : false ≡ true → ⊥
          bad e = cc
  found_before (x ∷ is) (suc i) l f = by (x.at == t) (found_before is i (omega (arith, l)) f)
    where
      by : (b : Bool) → position_or_len (λ x. x.at == t) is ≤ i → cond (not b) (1 + position_or_len (λ x. x.at == t) is) 0 ≤ suc i
      by true p = omega arith
      by false p = omega (arith, p)

  -- where an instruction stands at the offset, its place is found
  pub place_found : (is : List Instr) (rs : List Resolved) (o : Option ℕ) → o ≡ position (λ x. x.at == t) is → IsSome (site_among is rs t)
      → (k : ℕ) × (o ≡ Some k) × (k < length is) × (option_map_or (λ (x : Instr). x.at) (slice_get is k) 0 ≡ t)
  place_found is rs o e s =
      let there = site_there is rs s in
      let n = position_or_len (λ x. x.at == t) is in
      let l : n < length is = omega (arith, found_before is there.0 there.1 there.2, there.1) in
      let q : position (λ x. x.at == t) is ≡ Some n = ap (λ b. cond b (Some n) None) (lt-ltb n (length is) l) in
      let y = entry_at is n l in
      let p = position-Some (λ x. x.at == t) is n y.0 q in
      let r : get_or is n y.0 ≡ y.0 = read_entry is n y.0 y.1 in
      (n, e ∙ q, l, ap (λ o. option_map_or (λ (x : Instr). x.at) o 0) y.1 ∙ eqb-true y.0.at t (sym (ap (λ (x : Instr). x.at == t) r) ∙ p.1))
    where
      read_entry : (xs : List Instr) (k : ℕ) (x : Instr) → slice_get xs k ≡ Some x → get_or xs k x ≡ x
      read_entry [] k x e = refl
      read_entry (y ∷ xs) zero x e = cc
      read_entry (y ∷ xs) (suc k) x e = read_entry xs k x e

-- ---- the handler of a frame's method

module _ (P : ProgramTables) (m : ℕ) (own : MethodInfo) (body : Body) (is_m : method_at P m ≡ Some own) (is_b : own.body ≡ Some body) (kind : Kind) where
  pub handlers_are : (offset : ℕ) → handler_at P m offset kind ≡ first_handler P offset kind body.handlers own.catches
  handlers_are offset =
      ap (option_and_then (λ (i : MethodInfo). option_and_then (λ (b : Body). first_handler P offset kind b.handlers i.catches) i.body)) is_m
      ∙ ap (option_and_then (λ (b : Body). first_handler P offset kind b.handlers own.catches)) is_b

  stands_among : (t : ℕ) → StandsAt P m t → IsSome (site_among body.instrs own.resolved t)
  stands_among t s =
      let a : IsSome (site_at own t) = subst (λ o. IsSomeAnd o (λ i. IsSome (site_at i t))) is_m s in
      subst (λ o. IsSome (option_and_then (λ (b : Body). site_among b.instrs own.resolved t) o)) is_b a

  -- what is answered where the handler begins at t
  pub handler_place : (offset t : ℕ) (o : Option ℕ) → handler_at P m offset kind ≡ Some t → StandsAt P m t → o ≡ position (λ (x : Instr). x.at == t) body.instrs
      → MatchOption o (handler_at P m offset kind ≡ None) (λ place. (place < length (code_at P m)) × (handler_at P m offset kind ≡ Some (offset_at P m place)))
  handler_place offset t o h s e =
      let p = place_found t body.instrs own.resolved o e (stands_among t s) in
      let c = code_is P m own body is_m is_b in
      subst (λ o. MatchOption o (handler_at P m offset kind ≡ None) (λ place. (place < length (code_at P m)) × (handler_at P m offset kind ≡ Some (offset_at P m place)))) (sym p.1) (
        subst (λ is. p.0 < length is) (sym c) p.2,
        h ∙ ap (λ t. Some t) (sym (ap (λ is. option_map_or (λ (x : Instr). x.at) (slice_get is p.0) 0) c ∙ p.3)),
      )

pub placed_within : (P : ProgramTables) (f : CodeFrame) → IsPlaced P f → (own : MethodInfo) (body : Body) → method_at P f.method ≡ Some own → own.body ≡ Some body → f.instr < length body.instrs
placed_within P f at own body is_m is_b =
    let o : at.method ≡ own = some_both at.is_method is_m in
    let b : at.body ≡ body = some_both (subst (λ (i : MethodInfo). i.body ≡ Some at.body) o at.is_body) is_b in
    subst (λ (b : Body). f.instr < length b.instrs) b at.instr
