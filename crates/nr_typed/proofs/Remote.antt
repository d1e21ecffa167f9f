-- Whether a state that stands asks.
use Rattle.std.proofs.Common.{◌≡◌, ℕ, ◌⊎◌, List, [], ◌∷◌, length, refl, sym, subst, subst₂, ◌∙◌, inl, inr, Bool, true, false, T}
use Rattle.std.specs.Prelude.{Option, Some, None, is_some, nat_le, ◌==◌}
use Rattle.std.proofs.Math.Facts.{eqb_yes, yes_eqb}
use Rattle.nr_optable.specs.declared.table.Family.{Family}
use Rattle.nr_optable.specs.declared.table.Family.TheVariants.{F32}
use Rattle.nr_linked.specs.declared.program.kind.Kind.{Kind}
use Rattle.nr_linked.specs.declared.program.tables.MethodInfo.{MethodInfo}
use Rattle.nr_linked.specs.declared.program.tables.ProgramTables.{ProgramTables}
use Rattle.nr_linked.specs.declared.program.tables.Resolved.{Resolved}
use Rattle.nr_linked.specs.declared.program.tables.Resolved.TheVariants as resolved
use Rattle.nr_linked.specs.Programs.{method_at}
use Rattle.nr_linked.specs.Sites.{Site, site_at}
use Rattle.nr_linked.specs.TypingFacts.{TypingFacts}
use Rattle.nr_linked.specs.WellTyped.{WellTyped}
use Rattle.nr_model.specs.CallRules.{operands_of}
use Rattle.nr_model.specs.States.{Frame, Control, Running, Returned, Thrown, State, IsEnd}
use Rattle.nr_model.specs.Steps.{Step}
use Rattle.nr_model.specs.Asks.{is_remote, Asks}
use Rattle.nr_typed.specs.Standing.{AllStand, ControlStands, StandsIn}
use Rattle.nr_typed.proofs.Steps.{some_both, none_some, frames}
use Rattle.nr_typed.proofs.Progress.{progress}

is_true : (b : Bool) → (b ≡ true) ⊎ (b ≡ true → ⊥)
is_true true = inl refl
is_true false = inr (λ e. cc)

is_call : (f : Family) → (f ≡ F32) ⊎ (f ≡ F32 → ⊥)
is_call F32 = inl refl
is_call f = inr (λ e. cc)

same_code : (m n : ℕ) → (m ≡ n) ⊎ (m ≡ n → ⊥)
same_code m n = elim (is_true (m == n)) [
  | inl e ↦ inl (eqb_yes (subst T (sym e) tt))
  | inr f ↦ inr (λ e. f (so (m == n) (yes_eqb e)))
]
  where
    so : (b : Bool) → T b → b ≡ true
    so true p = refl
    so false p = absurd p

-- the instruction at the site of the frame is a remote call
record Calls (P : ProgramTables) (service : Option ℕ) (f : Frame) (s : Site) : Type 0 where
  family : s.instr.row.family ≡ F32
  code : s.instr.row.code ≡ 184
  method : ℕ
  named : ℕ
  found : s.resolved ≡ resolved.Method method named
  info : MethodInfo
  called : method_at P method ≡ Some info
  has_code : is_some info.body ≡ true
  remote : is_remote service info ≡ true
  enough : nat_le (operands_of info) (length f.operands) ≡ true

module _ (P : ProgramTables) (service : Option ℕ) (f : Frame) (s : Site) where
  Whether : Type 0
  Whether = Calls P service f s ⊎ (Calls P service f s → ⊥)

  module _ (family : s.instr.row.family ≡ F32) (code : s.instr.row.code ≡ 184) (n c : ℕ) (found : s.resolved ≡ resolved.Method n c) where
    same_method : (k d : ℕ) → s.resolved ≡ resolved.Method k d → k ≡ n
    same_method k d e = cc

    of_info : (i : MethodInfo) → method_at P n ≡ Some i → (r : Calls P service f s) → r.info ≡ i
    of_info i e r = some_both (subst (λ k. method_at P k ≡ Some r.info) (same_method r.method r.named r.found) r.called) e

    by_callee : (o : Option MethodInfo) → method_at P n ≡ o → Calls P service f s ⊎ (Calls P service f s → ⊥)
    by_callee None e = inr (λ r. none_some (sym e ∙ subst (λ k. method_at P k ≡ Some r.info) (same_method r.method r.named r.found) r.called))
    by_callee (Some i) e = elim (is_true (is_some i.body)) [
      | inr z ↦ inr (λ r. z (subst (λ (i : MethodInfo). is_some i.body ≡ true) (of_info i e r) r.has_code))
      | inl x ↦ elim (is_true (is_remote service i)) [
        | inr z ↦ inr (λ r. z (subst (λ (i : MethodInfo). is_remote service i ≡ true) (of_info i e r) r.remote))
        | inl y ↦ elim (is_true (nat_le (operands_of i) (length f.operands))) [
          | inr z ↦ inr (λ r. z (subst (λ (i : MethodInfo). nat_le (operands_of i) (length f.operands) ≡ true) (of_info i e r) r.enough))
          | inl z ↦ inl (record { family = family; code = code; method = n; named = c; found = found; info = i; called = e; has_code = x; remote = y; enough = z })
        ]
      ]
    ]

  by_found : s.instr.row.family ≡ F32 → s.instr.row.code ≡ 184 → (r : Resolved) → s.resolved ≡ r → Calls P service f s ⊎ (Calls P service f s → ⊥)
  by_found x y (resolved.Method n c) e = by_callee x y n c e (method_at P n) refl
  by_found x y r e = inr (λ c. absurd (not_method c.method c.named (sym e ∙ c.found)))
    where
      not_method : (n d : ℕ) → r ≡ resolved.Method n d → ⊥
      not_method n d e = cc

  calls_or_not : Calls P service f s ⊎ (Calls P service f s → ⊥)
  calls_or_not = elim (is_call s.instr.row.family) [
    | inr z ↦ inr (λ r. z r.family)
    | inl x ↦ elim (same_code s.instr.row.code 184) [ inr z ↦ inr (λ r. z r.code) | inl y ↦ by_found x y s.resolved refl ]
  ]

module _ (P : ProgramTables) (facts : TypingFacts P) (wt : WellTyped P) (result : Option Kind) (service : Option ℕ) (s : State) where
  of_frames : (f g : Frame) (fs gs : List Frame) → s.control ≡ Running (f ∷ fs) → s.control ≡ Running (g ∷ gs) → f ≡ g
  of_frames f g fs gs e z = cc

  -- a state that stands asks, or doesn't
  pub asks_or_not : StandsIn P (frames P facts wt) result s → Asks P service s ⊎ (Asks P service s → ⊥)
  asks_or_not st = by_control s.control refl st.control
    where
      running : (f : Frame) (fs : List Frame) → s.control ≡ Running (f ∷ fs) → AllStand P (frames P facts wt) result s.heap (f ∷ fs) → Asks P service s ⊎ (Asks P service s → ⊥)
      running f fs e a = let x = a.0.holds in elim (calls_or_not P service f x.site) [
        | inl r ↦ inl (record {
          frame = f;
          below = fs;
          running = e;
          caller = x.method;
          calling = x.is_method;
          site = x.site;
          standing = x.is_site;
          family = r.family;
          code = r.code;
          method = r.method;
          named = r.named;
          found = r.found;
          info = r.info;
          called = r.called;
          has_code = r.has_code;
          remote = r.remote;
          enough = r.enough;
        })
        | inr n ↦ inr (λ r.
            let same : r.frame ≡ f = of_frames r.frame f r.below fs r.running e in
            let m : r.caller ≡ x.method = some_both r.calling (subst (λ (f : Frame). method_at P f.method ≡ Some x.method) (sym same) x.is_method) in
            let here : r.site ≡ x.site = some_both (subst₂ (λ m (f : Frame). site_at m f.offset ≡ Some r.site) m same r.standing) x.is_site in
            n (record {
              family = subst (λ (z : Site). z.instr.row.family ≡ F32) here r.family;
              code = subst (λ (z : Site). z.instr.row.code ≡ 184) here r.code;
              method = r.method;
              named = r.named;
              found = subst (λ (z : Site). z.resolved ≡ resolved.Method r.method r.named) here r.found;
              info = r.info;
              called = r.called;
              has_code = r.has_code;
              remote = r.remote;
              enough = subst (λ (f : Frame). nat_le (operands_of r.info) (length f.operands) ≡ true) same r.enough;
            }))
      ]

      by_control : (c : Control) → s.control ≡ c → ControlStands P (frames P facts wt) result s.heap s.control → Asks P service s ⊎ (Asks P service s → ⊥)
      by_control (Running []) e a = absurd (subst (ControlStands P (frames P facts wt) result s.heap) e a)
      by_control (Running (f ∷ fs)) e a = running f fs e (subst (ControlStands P (frames P facts wt) result s.heap) e a)
      by_control (Returned v) e a = inr (λ r. subst IsEnd (sym e ∙ r.running) tt)
      by_control (Thrown v) e a = inr (λ r. subst IsEnd (sym e ∙ r.running) tt)

  pub asks_or_steps : StandsIn P (frames P facts wt) result s → (IsEnd s.control → ⊥) → Asks P service s ⊎ ((Asks P service s → ⊥) × ((t : State) × Step P s t))
  asks_or_steps st ends = elim (asks_or_not st) [ inl a ↦ inl a | inr n ↦ inr (n, progress P facts wt result s st ends) ]
