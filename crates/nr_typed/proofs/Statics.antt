-- invokestatic, of methods with code and of the built-in ones: its script fits.
use Rattle.std.proofs.Common.{◌≡◌, ℕ, zero, suc, ◌≤◌, List, [], ◌∷◌, ◌++◌, length, refl, sym, ap, subst, subst₂, ◌∙◌, inl, inr, true, false, arith, T}
use Rattle.std.specs.Prelude.{ℤ, Some, None, Contains, drop, reverse, if◌then◌else◌, codes}
use Rattle.std.specs.Fmt.{signed_decimal}
use Rattle.std.proofs.lemmas.List.{append-nil}
use Rattle.nr_optable.specs.Arithmetic.{to_char}
use Rattle.nr_optable.specs.declared.table.Family.TheVariants.{F32}
use Rattle.nr_prog.specs.declared.body.whole.Body.{Body}
use Rattle.nr_linked.specs.declared.program.built_in.BuiltIn.TheVariants as built_ins
use Rattle.nr_linked.specs.declared.program.kind.Base.{Base}
use Rattle.nr_linked.specs.declared.program.kind.Base.TheVariants as bases
use Rattle.nr_linked.specs.declared.program.kind.Kind.{Kind}
use Rattle.nr_linked.specs.declared.program.tables.MethodInfo.{MethodInfo}
use Rattle.nr_linked.specs.declared.program.tables.ProgramTables.{ProgramTables}
use Rattle.nr_linked.specs.declared.program.tables.Resolved.TheVariants as resolved
use Rattle.nr_linked.specs.declared.program.types.VType.{VType}
use Rattle.nr_linked.specs.declared.program.types.VType.TheVariants as types
use Rattle.nr_linked.specs.Kinds.{class_kind, element_of}
use Rattle.nr_prog.specs.Members.{is_static}
use Rattle.nr_linked.specs.BuiltIns.{BuiltInMethod, built_in_class}
use Rattle.nr_linked.specs.Programs.{method_at}
use Rattle.nr_linked.specs.Sites.{Site}
use Rattle.nr_linked.specs.TypingFrames.{TypeFrame, of_kind, of_kinds, is_operand_assignable, operands_fit}
use Rattle.nr_linked.specs.Initialisers.{is_initialiser}
use Rattle.nr_linked.specs.TypingChecks.{Leaves, leaves_operands}
use Rattle.nr_linked.specs.TypingCalls.{with_result}
use Rattle.nr_linked.specs.ArrayKinds.{Of}
use Rattle.nr_linked.specs.TypingFacts.{TypingFacts, CallFacts}
use Rattle.nr_model.specs.Heaps.{Heap}
use Rattle.nr_model.specs.Scripts.{Script, Call, PopInt, PopLong, Drop, AskKind, Print, Within, Ending}
use Rattle.nr_model.specs.Throws.{with_found, which}
use Rattle.nr_linked.specs.ArrayKinds.{is_base}
use Rattle.nr_model.specs.Printing.{bytes_of_units}
use Rattle.nr_model.specs.CallRules.{operands_of, with_units, print_chars, out_rule, built_in_rule, call}
use Rattle.nr_model.specs.Types.{argument_tys, Ty, Word, Small, Object, Exact, kind_tys, ty_of, operand_tys, local_tys, kept_ty}
use Rattle.nr_model.specs.Belonging.{AllSharper}
use Rattle.nr_model.specs.TypedHeaps.{slot_ty}
use Rattle.nr_typed.specs.Fits.{OnAnInt, Fits}
use Rattle.nr_typed.proofs.Assigning.{trans, holds, and_both}
use Rattle.nr_typed.proofs.Belongs.{length_operands}
use Rattle.nr_typed.proofs.Owed.{Goes, Owed, go_same, over, null_throw}
use Rattle.nr_typed.proofs.Elements.{elements, is_the_base}
use Rattle.nr_typed.proofs.Objects.{on_wanted, which_fits}
use Rattle.nr_typed.proofs.Receivers.{drop_past, operands_append, arguments_ok, calls}
use Rattle.nr_typed.proofs.Calls.{Arguments, by_body, rule_cases}

abbrev kind : ℕ → Base → Kind
kind n b = record { dims = n; base = b }

module _ (P : ProgramTables) (facts : TypingFacts P) (own : MethodInfo) (F G : TypeFrame) (h0 : Heap) (Q : Ending → Within → Type 0) where
  abbrev LT : List Ty
  LT = local_tys own own.max_locals F.locals

  abbrev On : Script → Type 0
  On k = Goes P own F G h0 Q k

  module _ (s : Site) (owed : Owed P own F G h0 Q s) (k : Script) (g : On k) (us : List VType) (e : leaves_operands own F us ≡ Leaves G) where
    done : Fits P h0 Q k LT (operand_tys own us)
    done = go_same P facts own F G h0 Q k g us e

    -- the units of an array of chars
    units_fit : (i n : ℕ) → i ≤ n → (r : Kind) → ((j : ℕ) → slot_ty P r j ≡ Small bases.Char) → (vs : List ℕ) (f : List ℕ → Script) → ((ws : List ℕ) → Fits P h0 Q (f ws) LT (Exact r n ∷ operand_tys own us))
        → Fits P h0 Q (with_units i vs f) LT (Exact r n ∷ operand_tys own us)
    units_fit zero n l r slot vs f p = p vs
    units_fit (suc i) n l r slot vs f p =
        (omega arith, subst (λ t. OnAnInt t ((u : ℤ) → Fits P h0 Q (with_units i (to_char u ∷ vs) f) LT (Exact r n ∷ operand_tys own us))) (sym (slot i)) (λ u. units_fit i n (omega arith) r slot (to_char u ∷ vs) f p))

    chars_fit : (t : VType) → T (is_operand_assignable P t (types.Class (kind 1 bases.Char))) → Fits P h0 Q (print_chars P k) LT (ty_of Word own t ∷ operand_tys own us)
    chars_fit t p = on_wanted P facts own F G h0 Q (kind 1 bases.Char) t _ (λ x. Fits P h0 Q (AskKind 0 (λ a n. with_found (element_of a) (λ e. which (is_base bases.Char e) (with_units n [] (λ us. Drop 0 (Print (bytes_of_units us) k)))))) LT (x ∷ operand_tys own us)) p
        (null_throw P facts own F G h0 Q s owed _ _) (λ d q r n b z.
        let x = elements P facts (Of bases.Char) (kind 1 bases.Char) r tt (trans P facts r d (kind 1 bases.Char) b q) in
        let c = is_the_base bases.Char x.0 x.1.passes in
        subst (λ o. Fits P h0 Q (with_found o (λ e. which (is_base bases.Char e) (with_units n [] (λ us. Drop 0 (Print (bytes_of_units us) k))))) LT (Exact r n ∷ operand_tys own us)) (sym x.1.is_element_of)
        (which_fits P facts own F G h0 Q (is_base bases.Char x.0) (with_units n [] (λ us. Drop 0 (Print (bytes_of_units us) k))) LT (Exact r n ∷ operand_tys own us) x.1.passes
        (units_fit n n (omega arith) r (λ j. x.1.slot j ∙ ap kept_ty c) [] (λ us. Drop 0 (Print (bytes_of_units us) k)) (λ ws. (omega arith, done)))))

    int_fits : (f : ℤ → List ℕ) (t : VType) → T (is_operand_assignable P t types.Int) → Fits P h0 Q (PopInt (λ n. Print (f n) k)) LT (ty_of Word own t ∷ operand_tys own us)
    int_fits f types.Int p = λ n. done
    int_fits f types.Top p = absurd p
    int_fits f types.Long p = absurd p
    int_fits f types.Null p = absurd p
    int_fits f types.UninitThis p = absurd p
    int_fits f (types.Uninit n) p = absurd p
    int_fits f (types.Class c) p = absurd p

    long_fits : (f : ℤ → List ℕ) (t : VType) → T (is_operand_assignable P t types.Long) → Fits P h0 Q (PopLong (λ n. Print (f n) k)) LT (ty_of Word own t ∷ operand_tys own us)
    long_fits f types.Long p = λ n. done
    long_fits f types.Top p = absurd p
    long_fits f types.Int p = absurd p
    long_fits f types.Null p = absurd p
    long_fits f types.UninitThis p = absurd p
    long_fits f (types.Uninit n) p = absurd p
    long_fits f (types.Class c) p = absurd p

    -- one argument, or none
    one_argument : (args : List VType) (x : Kind) (sc : Script) → T (operands_fit P args (of_kinds (x ∷ []))) → ((t : VType) → T (is_operand_assignable P t (of_kind x)) → Fits P h0 Q sc LT (ty_of Word own t ∷ operand_tys own us))
        → Fits P h0 Q sc LT (operand_tys own (args ++ us))
    one_argument [] x sc p f = absurd p
    one_argument (t ∷ []) x sc p f = f t (and_both (is_operand_assignable P t (of_kind x)) true p).0
    one_argument (t ∷ u ∷ ts) x sc p f = absurd ((and_both (is_operand_assignable P t (of_kind x)) false p).1)

    no_argument : (args : List VType) (sc : Script) → T (operands_fit P args []) → Fits P h0 Q sc LT (operand_tys own us) → Fits P h0 Q sc LT (operand_tys own (args ++ us))
    no_argument [] sc p f = f
    no_argument (t ∷ ts) sc p f = absurd p

    -- the methods of nrmi/Out, by their names and descriptors
    abbrev Prints : List ℕ → List ℕ → List Kind → Type 0
    Prints name desc params = (i : MethodInfo) (r : Script) (args : List VType) → i.name ≡ name → i.desc ≡ desc → i.params ≡ params → out_rule P i k ≡ Some r → T (operands_fit P args (of_kinds (reverse i.params)))
        → Fits P h0 Q r LT (operand_tys own (args ++ us))

    prints : (name desc : List ℕ) (params : List Kind) (sc : Script) → ((i : MethodInfo) → i.name ≡ name → i.desc ≡ desc → out_rule P i k ≡ Some sc) → ((args : List VType) → T (operands_fit P args (of_kinds (reverse params))) → Fits P h0 Q sc LT (operand_tys own (args ++ us)))
        → Prints name desc params
    prints name desc params sc is f i r args n d p x fit =
        let e : sc ≡ r = some_same (sym (is i n d) ∙ x) in
        subst (λ sc. Fits P h0 Q sc LT (operand_tys own (args ++ us))) e (f args (subst (λ ps. T (operands_fit P args (of_kinds (reverse ps)))) p fit))
      where
        some_same : {x y : Script} → Some x ≡ Some y → x ≡ y
        some_same e = cc

    pub out_prints : (m : BuiltInMethod) → Contains (built_in_class built_ins.Out).methods m → Prints m.name m.desc m.params
    unfolding built_in_class
    out_prints m (zero, l, x) = subst (λ (m : BuiltInMethod). Prints m.name m.desc m.params) x (prints (codes "print") (codes "([C)V") (kind 1 bases.Char ∷ []) (print_chars P k) (λ i n d. rw (n, d) refl)
        (λ args fit. one_argument args (kind 1 bases.Char) (print_chars P k) fit chars_fit))
    out_prints m (suc zero, l, x) = subst (λ (m : BuiltInMethod). Prints m.name m.desc m.params) x (prints (codes "print") (codes "(C)V") (kind 0 bases.Char ∷ []) (PopInt (λ u. Print (bytes_of_units (to_char u ∷ [])) k)) (λ i n d. rw (n, d) refl)
        (λ args fit. one_argument args (kind 0 bases.Char) (PopInt (λ u. Print (bytes_of_units (to_char u ∷ [])) k)) fit (int_fits (λ u. bytes_of_units (to_char u ∷ [])))))
    out_prints m (suc (suc zero), l, x) = subst (λ (m : BuiltInMethod). Prints m.name m.desc m.params) x (prints (codes "print") (codes "(I)V") (kind 0 bases.Int ∷ []) (PopInt (λ n. Print (signed_decimal n) k)) (λ i n d. rw (n, d) refl)
        (λ args fit. one_argument args (kind 0 bases.Int) (PopInt (λ n. Print (signed_decimal n) k)) fit (int_fits (λ n. signed_decimal n))))
    out_prints m (suc (suc (suc zero)), l, x) = subst (λ (m : BuiltInMethod). Prints m.name m.desc m.params) x (prints (codes "print") (codes "(J)V") (kind 0 bases.Long ∷ []) (PopLong (λ n. Print (signed_decimal n) k)) (λ i n d. rw (n, d) refl)
        (λ args fit. one_argument args (kind 0 bases.Long) (PopLong (λ n. Print (signed_decimal n) k)) fit (long_fits (λ n. signed_decimal n))))
    out_prints m (suc (suc (suc (suc zero))), l, x) = subst (λ (m : BuiltInMethod). Prints m.name m.desc m.params) x (prints (codes "line") (codes "()V") [] (Print (10 ∷ []) k) (λ i n d. rw (n, d) refl)
        (λ args fit. no_argument args (Print (10 ∷ []) k) fit done))
    out_prints m (suc (suc (suc (suc (suc n)))), l, x) = absurd (omega arith)

  module _ (s : Site) (owed : Owed P own F G h0 Q s) (fam : s.instr.row.family ≡ F32) (named owner : ℕ) (rs : s.resolved ≡ resolved.Method named owner) (callee : MethodInfo) (is_callee : method_at P named ≡ Some callee)
      (a : Arguments P callee F.operands) where
    pub static_fits : (k : Script) → On k → CallFacts P own.«class» s.instr.row.code owner callee → s.instr.row.code ≡ 184 → is_static callee.flags ≡ true
        → leaves_operands own F (with_result callee.result a.rest) ≡ Leaves G → Fits P h0 Q (call P named k) LT (operand_tys own F.operands)
    static_fits k g facts_of code static e = over P facts own F G h0 Q (call P named k) F.operands (a.args ++ a.rest) a.split
        (by_body P facts own F G h0 Q s owed fam named owner rs callee is_callee a k (operand_tys own (a.args ++ a.rest)) with_code built_in_code)
      where
        count : operands_of callee ≡ length callee.params
        count = rw static refl

        with_code : (body : Body) → callee.body ≡ Some body → Fits P h0 Q (Call named) LT (operand_tys own (a.args ++ a.rest))
        with_code body is_body =
            let args : List Ty = operand_tys own a.args in
            let len : length args ≡ operands_of callee = length_operands own a.args ∙ (a.count ∙ sym count) in
            let sharp : AllSharper P args (argument_tys callee) = subst (λ z. AllSharper P args (kind_tys (reverse callee.params) ++ (if z then [] else Object (class_kind callee.«class») ∷ []))) (sym static)
            (subst (AllSharper P args) (sym (append-nil (kind_tys (reverse callee.params)))) (arguments_ok P facts own a.args (reverse callee.params) a.fit)) in
            let rest : drop (operands_of callee) F.operands ≡ a.rest = subst₂ (λ n ts. drop n ts ≡ a.rest) (a.count ∙ sym count) (sym a.split) (drop_past a.args a.rest) in
            subst (Fits P h0 Q (Call named) LT) (sym (operands_append own a.args a.rest))
            (calls P facts own F G h0 Q s owed fam named owner named callee callee body rs is_callee is_callee is_body (record { name = refl; flags = refl; params = refl; result = refl }) args a.rest len sharp rest)

        built_in_code : (r : Script) → callee.body ≡ None → built_in_rule P callee k ≡ Some r → Fits P h0 Q r LT (operand_tys own (a.args ++ a.rest))
        built_in_code r none x = elim (rule_cases P facts own F G h0 Q s owed fam named owner rs callee is_callee a k r x) [
          | inl z ↦ (let o = (facts.built_ins named callee is_callee none).out z.0 in
              let e' : leaves_operands own F a.rest ≡ Leaves G = subst (λ o. leaves_operands own F (with_result o a.rest) ≡ Leaves G) o.1 e in
              out_prints s owed k g a.rest e' o.2 o.3 callee r a.args o.4 o.5 o.6 z.1 a.fit)
          | inr z ↦ absurd (other code (facts_of.initialiser (holds (is_initialiser callee) z.0)).0)
        ]
          where
            other : s.instr.row.code ≡ 184 → s.instr.row.code ≡ 183 → ⊥
            other x y = omega arith
