-- The rules of instructions that move operands: their scripts fit.
use Rattle.std.proofs.Common.{◌≡◌, ℕ, ◌⊎◌, inl, inr, List, [], ◌∷◌, sym, ap, subst, ◌∙◌, not, arith, T}
use Rattle.std.specs.Prelude.{Option, Some, None, ◌++◌}
use Rattle.nr_linked.specs.declared.program.tables.MethodInfo.{MethodInfo}
use Rattle.nr_linked.specs.declared.program.tables.ProgramTables.{ProgramTables}
use Rattle.nr_linked.specs.declared.program.types.VType.{VType}
use Rattle.nr_linked.specs.declared.program.types.VType.TheVariants as types
use Rattle.nr_linked.specs.Kinds.{class_kind}
use Rattle.nr_linked.specs.TypingFrames.{TypeFrame, is_long}
use Rattle.nr_linked.specs.TypingChecks.{Checked, Leaves, take_single, leaves_operands}
use Rattle.nr_linked.specs.TypingMoves.{by_size, dup_rule, dup_x1_rule, dup_x2_rule, dup2_rule, dup2_x1_rule, dup2_x2_rule, swap_rule}
use Rattle.nr_linked.specs.TypingCalls.{class_made_at}
use Rattle.nr_linked.specs.TypingFacts.{TypingFacts}
use Rattle.nr_model.specs.Heaps.{Heap, on_some}
use Rattle.nr_model.specs.Scripts.{Script, Drop, Within, Ending}
use Rattle.nr_model.specs.ValueRules as scripts
use Rattle.nr_model.specs.Types.{Ty, Word, JustNull, Just, ty_of, operand_tys, local_tys}
use Rattle.nr_typed.specs.Fits.{OnSize, Fits}
use Rattle.nr_typed.proofs.Checks.{inv_single, inv_size}
use Rattle.nr_typed.proofs.Owed.{Goes, go_same, over}

module _ (P : ProgramTables) (facts : TypingFacts P) (own : MethodInfo) (F G : TypeFrame) (h0 : Heap) (Q : Ending → Within → Type 0) where
  abbrev LT : List Ty
  LT = local_tys own own.max_locals F.locals

  abbrev Fit : Script → Type 0
  Fit sc = Fits P h0 Q sc LT (operand_tys own F.operands)

  long_form : (t : VType) → T (is_long t) → (X Y : Type 0) → X → OnSize (ty_of Word own t) X Y
  long_form types.Long p X Y x = x
  long_form _ p X Y x = absurd p

  single_form : (t : VType) → T (not (is_long t)) → (X Y : Type 0) → Y → OnSize (ty_of Word own t) X Y
  single_form types.Long p X Y y = absurd p
  single_form types.Top p X Y y = y
  single_form types.Int p X Y y = y
  single_form types.Null p X Y y = y
  single_form types.UninitThis p X Y y = y
  single_form (types.Uninit n) p X Y y = made (class_made_at own n)
    where
      made : (o : Option ℕ) → OnSize (on_some o JustNull (λ c. Just (class_kind c))) X Y
      made None = y
      made (Some c) = y
  single_form (types.Class k) p X Y y = y

  module _ (k : Script) (g : Goes P own F G h0 Q k) where
    out : (us : List VType) → leaves_operands own F us ≡ Leaves G → Fits P h0 Q k LT (operand_tys own us)
    out us e = go_same P facts own F G h0 Q k g us e

    pub pop_fits : take_single 0 F.operands (λ a ts. leaves_operands own F ts) ≡ Leaves G → Fit (scripts.single 0 (Drop 0 k))
    pop_fits e =
        let r = inv_single G 0 F.operands (λ a ts. leaves_operands own F ts) e in
        over P facts own F G h0 Q (scripts.single 0 (Drop 0 k)) F.operands (r.0 ∷ r.1) r.2 (single_form r.0 r.3 _ _ (omega arith, out r.1 r.4))

    pub pop2_fits : by_size 0 F.operands (λ w ts. leaves_operands own F ts) (λ a ts. take_single 1 ts (λ b us. leaves_operands own F us)) ≡ Leaves G
        → Fit (scripts.by_size 0 (Drop 0 k) (scripts.single 1 (scripts.forget 0 2 k)))
    pop2_fits e =
        let r = inv_size G 0 F.operands (λ w ts. leaves_operands own F ts) (λ a ts. take_single 1 ts (λ b us. leaves_operands own F us)) e in
        over P facts own F G h0 Q (scripts.by_size 0 (Drop 0 k) (scripts.single 1 (scripts.forget 0 2 k))) F.operands (r.0 ∷ r.1) r.2 (cases r.0 r.1 r.3)
      where
        cases : (a : VType) (ts : List VType) → (T (is_long a) × (leaves_operands own F ts ≡ Leaves G)) ⊎ (T (not (is_long a)) × (take_single 1 ts (λ b us. leaves_operands own F us) ≡ Leaves G))
            → Fits P h0 Q (scripts.by_size 0 (Drop 0 k) (scripts.single 1 (scripts.forget 0 2 k))) LT (operand_tys own (a ∷ ts))
        cases a ts (inl x) = long_form a x.0 _ _ (omega arith, out ts x.1)
        cases a ts (inr x) =
            let r = inv_single G 1 ts (λ b us. leaves_operands own F us) x.1 in
            single_form a x.0 _ _ (subst (λ ts. Fits P h0 Q (scripts.single 1 (scripts.forget 0 2 k)) LT (operand_tys own (a ∷ ts))) (sym r.2) (single_form r.0 r.3 _ _ (omega arith, (omega arith, out r.1 r.4))))

    pub dup_fits : dup_rule own F ≡ Leaves G → Fit (scripts.dup k)
    dup_fits e =
        let r = inv_single G 0 F.operands (λ a ts. leaves_operands own F (a ∷ a ∷ ts)) e in
        over P facts own F G h0 Q (scripts.dup k) F.operands (r.0 ∷ r.1) r.2 (single_form r.0 r.3 _ _ (out (r.0 ∷ r.0 ∷ r.1) r.4))

    pub dup_x1_fits : dup_x1_rule own F ≡ Leaves G → Fit (scripts.dup_x1 k)
    dup_x1_fits e =
        let r = inv_single G 0 F.operands (λ a ts. take_single 1 ts (λ b us. leaves_operands own F (a ∷ b ∷ a ∷ us))) e in
        let q = inv_single G 1 r.1 (λ b us. leaves_operands own F (r.0 ∷ b ∷ r.0 ∷ us)) r.4 in
        over P facts own F G h0 Q (scripts.dup_x1 k) F.operands (r.0 ∷ q.0 ∷ q.1) (r.2 ∙ ap (λ ts. r.0 ∷ ts) q.2)
        (single_form r.0 r.3 _ _ (single_form q.0 q.3 _ _ (omega arith, out (r.0 ∷ q.0 ∷ r.0 ∷ q.1) q.4)))

    pub swap_fits : swap_rule own F ≡ Leaves G → Fit (scripts.swap k)
    swap_fits e =
        let r = inv_single G 0 F.operands (λ a ts. take_single 1 ts (λ b us. leaves_operands own F (b ∷ a ∷ us))) e in
        let q = inv_single G 1 r.1 (λ b us. leaves_operands own F (b ∷ r.0 ∷ us)) r.4 in
        over P facts own F G h0 Q (scripts.swap k) F.operands (r.0 ∷ q.0 ∷ q.1) (r.2 ∙ ap (λ ts. r.0 ∷ ts) q.2)
        (single_form r.0 r.3 _ _ (single_form q.0 q.3 _ _ (omega arith, out (q.0 ∷ r.0 ∷ q.1) q.4)))

    -- what follows of the operand below, by its size
    below : (a : VType) (ts : List VType) (long single : VType → List VType → Checked) (sc : Script) (d : ℕ) → by_size d ts long single ≡ Leaves G
        → ((w : VType) (us : List VType) → T (is_long w) → long w us ≡ Leaves G → Fits P h0 Q sc LT (operand_tys own (a ∷ w ∷ us)))
        → ((b : VType) (us : List VType) → T (not (is_long b)) → single b us ≡ Leaves G → Fits P h0 Q sc LT (operand_tys own (a ∷ b ∷ us)))
        → Fits P h0 Q sc LT (operand_tys own (a ∷ ts))
    below a ts long single sc d e f g =
        let r = inv_size G d ts long single e in
        subst (λ ts. Fits P h0 Q sc LT (operand_tys own (a ∷ ts))) (sym r.2) (elim r.3 [ inl x ↦ f r.0 r.1 x.0 x.1 | inr x ↦ g r.0 r.1 x.0 x.1 ])

    -- the same with an operand that isn't a long
    below_single : (xs : List VType) (ts : List VType) (single : VType → List VType → Checked) (sc : Script) (d : ℕ) → take_single d ts single ≡ Leaves G
        → ((b : VType) (us : List VType) → T (not (is_long b)) → single b us ≡ Leaves G → Fits P h0 Q sc LT (operand_tys own (xs ++ (b ∷ us))))
        → Fits P h0 Q sc LT (operand_tys own (xs ++ ts))
    below_single xs ts single sc d e g =
        let r = inv_single G d ts single e in
        subst (λ ts. Fits P h0 Q sc LT (operand_tys own (xs ++ ts))) (sym r.2) (g r.0 r.1 r.3 r.4)

    pub dup_x2_fits : dup_x2_rule own F ≡ Leaves G → Fit (scripts.dup_x2 k)
    dup_x2_fits e =
        below_single [] F.operands (λ a ts. by_size 1 ts (λ w us. leaves_operands own F (a ∷ w ∷ a ∷ us)) (λ b us. take_single 2 us (λ c vs. leaves_operands own F (a ∷ b ∷ c ∷ a ∷ vs)))) (scripts.dup_x2 k) 0 e (λ a ts p e.
        below a ts (λ w us. leaves_operands own F (a ∷ w ∷ a ∷ us)) (λ b us. take_single 2 us (λ c vs. leaves_operands own F (a ∷ b ∷ c ∷ a ∷ vs))) (scripts.dup_x2 k) 1 e
        (λ w us q e. single_form a p _ _ (long_form w q _ _ (omega arith, out (a ∷ w ∷ a ∷ us) e)))
        (λ b us q e. below_single (a ∷ b ∷ []) us (λ c vs. leaves_operands own F (a ∷ b ∷ c ∷ a ∷ vs)) (scripts.dup_x2 k) 2 e (λ c vs r e.
        single_form a p _ _ (single_form b q _ _ (single_form c r _ _ (omega arith, (omega arith, out (a ∷ b ∷ c ∷ a ∷ vs) e)))))))

    pub dup2_fits : dup2_rule own F ≡ Leaves G → Fit (scripts.dup2 k)
    dup2_fits e =
        let r = inv_size G 0 F.operands (λ w ts. leaves_operands own F (w ∷ w ∷ ts)) (λ a ts. take_single 1 ts (λ b us. leaves_operands own F (a ∷ b ∷ a ∷ b ∷ us))) e in
        over P facts own F G h0 Q (scripts.dup2 k) F.operands (r.0 ∷ r.1) r.2 (elim r.3 [
          | inl x ↦ long_form r.0 x.0 _ _ (out (r.0 ∷ r.0 ∷ r.1) x.1)
          | inr x ↦ below_single (r.0 ∷ []) r.1 (λ b us. leaves_operands own F (r.0 ∷ b ∷ r.0 ∷ b ∷ us)) (scripts.dup2 k) 1 x.1 (λ b us q e.
              single_form r.0 x.0 _ _ (single_form b q _ _ (out (r.0 ∷ b ∷ r.0 ∷ b ∷ us) e)))
        ])

    pub dup2_x1_fits : dup2_x1_rule own F ≡ Leaves G → Fit (scripts.dup2_x1 k)
    dup2_x1_fits e =
        let r = inv_size G 0 F.operands (λ w ts. take_single 1 ts (λ b us. leaves_operands own F (w ∷ b ∷ w ∷ us))) (λ a ts. take_single 1 ts (λ b us. take_single 2 us (λ c vs. leaves_operands own F (a ∷ b ∷ c ∷ a ∷ b ∷ vs)))) e in
        over P facts own F G h0 Q (scripts.dup2_x1 k) F.operands (r.0 ∷ r.1) r.2 (elim r.3 [
          | inl x ↦ below_single (r.0 ∷ []) r.1 (λ b us. leaves_operands own F (r.0 ∷ b ∷ r.0 ∷ us)) (scripts.dup2_x1 k) 1 x.1 (λ b us q e.
              long_form r.0 x.0 _ _ (single_form b q _ _ (omega arith, out (r.0 ∷ b ∷ r.0 ∷ us) e)))
          | inr x ↦ below_single (r.0 ∷ []) r.1 (λ b us. take_single 2 us (λ c vs. leaves_operands own F (r.0 ∷ b ∷ c ∷ r.0 ∷ b ∷ vs))) (scripts.dup2_x1 k) 1 x.1 (λ b us q e.
              below_single (r.0 ∷ b ∷ []) us (λ c vs. leaves_operands own F (r.0 ∷ b ∷ c ∷ r.0 ∷ b ∷ vs)) (scripts.dup2_x1 k) 2 e (λ c vs y e.
              single_form r.0 x.0 _ _ (single_form b q _ _ (single_form c y _ _ (omega arith, out (r.0 ∷ b ∷ c ∷ r.0 ∷ b ∷ vs) e)))))
        ])

    pub dup2_x2_fits : dup2_x2_rule own F ≡ Leaves G → Fit (scripts.dup2_x2 k)
    dup2_x2_fits e =
        let r = inv_size G 0 F.operands
        (λ w ts. by_size 1 ts (λ x us. leaves_operands own F (w ∷ x ∷ w ∷ us)) (λ b us. take_single 2 us (λ c vs. leaves_operands own F (w ∷ b ∷ c ∷ w ∷ vs))))
        (λ a ts. take_single 1 ts (λ b us. by_size 2 us (λ x vs. leaves_operands own F (a ∷ b ∷ x ∷ a ∷ b ∷ vs)) (λ c vs. take_single 3 vs (λ d ws. leaves_operands own F (a ∷ b ∷ c ∷ d ∷ a ∷ b ∷ ws))))) e in
        over P facts own F G h0 Q (scripts.dup2_x2 k) F.operands (r.0 ∷ r.1) r.2 (elim r.3 [ inl x ↦ of_long r.0 r.1 x.0 x.1 | inr x ↦ of_single r.0 r.1 x.0 x.1 ])
      where
        of_long : (w : VType) (ts : List VType) → T (is_long w) → by_size 1 ts (λ x us. leaves_operands own F (w ∷ x ∷ w ∷ us)) (λ b us. take_single 2 us (λ c vs. leaves_operands own F (w ∷ b ∷ c ∷ w ∷ vs))) ≡ Leaves G
            → Fits P h0 Q (scripts.dup2_x2 k) LT (operand_tys own (w ∷ ts))
        of_long w ts p e = below w ts (λ x us. leaves_operands own F (w ∷ x ∷ w ∷ us)) (λ b us. take_single 2 us (λ c vs. leaves_operands own F (w ∷ b ∷ c ∷ w ∷ vs))) (scripts.dup2_x2 k) 1 e
            (λ x us q e. long_form w p _ _ (long_form x q _ _ (omega arith, out (w ∷ x ∷ w ∷ us) e)))
            (λ b us q e. below_single (w ∷ b ∷ []) us (λ c vs. leaves_operands own F (w ∷ b ∷ c ∷ w ∷ vs)) (scripts.dup2_x2 k) 2 e (λ c vs r e.
            long_form w p _ _ (single_form b q _ _ (single_form c r _ _ (omega arith, (omega arith, out (w ∷ b ∷ c ∷ w ∷ vs) e))))))

        of_single : (a : VType) (ts : List VType) → T (not (is_long a))
            → take_single 1 ts (λ b us. by_size 2 us (λ x vs. leaves_operands own F (a ∷ b ∷ x ∷ a ∷ b ∷ vs)) (λ c vs. take_single 3 vs (λ d ws. leaves_operands own F (a ∷ b ∷ c ∷ d ∷ a ∷ b ∷ ws)))) ≡ Leaves G
            → Fits P h0 Q (scripts.dup2_x2 k) LT (operand_tys own (a ∷ ts))
        of_single a ts p e = below_single (a ∷ []) ts (λ b us. by_size 2 us (λ x vs. leaves_operands own F (a ∷ b ∷ x ∷ a ∷ b ∷ vs)) (λ c vs. take_single 3 vs (λ d ws. leaves_operands own F (a ∷ b ∷ c ∷ d ∷ a ∷ b ∷ ws)))) (scripts.dup2_x2 k) 1 e (λ b us q e.
            let r = inv_size G 2 us (λ x vs. leaves_operands own F (a ∷ b ∷ x ∷ a ∷ b ∷ vs)) (λ c vs. take_single 3 vs (λ d ws. leaves_operands own F (a ∷ b ∷ c ∷ d ∷ a ∷ b ∷ ws))) e in
            subst (λ us. Fits P h0 Q (scripts.dup2_x2 k) LT (operand_tys own (a ∷ b ∷ us))) (sym r.2) (elim r.3 [
              | inl x ↦ single_form a p _ _ (single_form b q _ _ (long_form r.0 x.0 _ _ (omega arith, out (a ∷ b ∷ r.0 ∷ a ∷ b ∷ r.1) x.1)))
              | inr x ↦ below_single (a ∷ b ∷ r.0 ∷ []) r.1 (λ d ws. leaves_operands own F (a ∷ b ∷ r.0 ∷ d ∷ a ∷ b ∷ ws)) (scripts.dup2_x2 k) 3 x.1 (λ d ws y e.
                  single_form a p _ _ (single_form b q _ _ (single_form r.0 x.0 _ _ (single_form d y _ _ (omega arith, (omega arith, out (a ∷ b ∷ r.0 ∷ d ∷ a ∷ b ∷ ws) e))))))
            ]))
