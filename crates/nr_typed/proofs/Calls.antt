-- The rules of calls: their scripts fit.
use Rattle.std.proofs.Common.{◌≡◌, ℕ, zero, suc, ◌⊎◌, List, [], ◌∷◌, ◌++◌, length, refl, sym, ap, subst, subst₂, ◌∙◌, inl, inr, Bool, true, false, not, arith, T}
use Rattle.std.specs.Prelude.{Option, Some, None, IsTrue, is_some, drop, reverse, if◌then◌else◌, ◌==◌, ◌&&◌, ◌||◌}
use Rattle.std.specs.Option.{option_and_then}
use Rattle.std.proofs.lemmas.List.{length-reverse}
use Rattle.std.proofs.Math.Facts.{eqb_yes, yes_eqb}
use Rattle.nr_optable.specs.declared.table.Family.TheVariants.{F32}
use Rattle.nr_prog.specs.declared.body.whole.Body.{Body}
use Rattle.nr_linked.specs.declared.program.built_in.BuiltIn.TheVariants as built_ins
use Rattle.nr_linked.specs.declared.program.kind.Base.{Base}
use Rattle.nr_linked.specs.declared.program.kind.Base.TheVariants as bases
use Rattle.nr_linked.specs.declared.program.kind.Kind.{Kind}
use Rattle.nr_linked.specs.declared.program.tables.MethodInfo.{MethodInfo}
use Rattle.nr_linked.specs.declared.program.tables.ProgramTables.{ProgramTables}
use Rattle.nr_linked.specs.declared.program.tables.Resolved.TheVariants as resolved
use Rattle.nr_linked.specs.declared.program.types.VType.{VType}
use Rattle.nr_linked.specs.Kinds.{class_kind, class_in}
use Rattle.nr_prog.specs.Members.{is_static}
use Rattle.nr_linked.specs.BuiltIns.{built_in}
use Rattle.nr_linked.specs.Programs.{method_at, super_of}
use Rattle.nr_linked.specs.Linked.{is_loaded}
use Rattle.nr_linked.specs.Selection.{is_private, selected}
use Rattle.nr_linked.specs.Sites.{Site}
use Rattle.nr_linked.specs.Subtypes.{admits_any, is_assignable, is_above, is_sub}
use Rattle.nr_linked.specs.TypingFrames.{TypeFrame, of_kinds, operands_fit}
use Rattle.nr_linked.specs.Initialisers.{is_initialiser}
use Rattle.nr_linked.specs.TypingChecks.{Checked, Leaves}
use Rattle.nr_linked.specs.TypingCalls.{take_arguments}
use Rattle.nr_linked.specs.TypingFacts.{TypingFacts, CallFacts}
use Rattle.nr_model.specs.Heaps.{Heap, on_some}
use Rattle.nr_model.specs.Scripts.{Script, Call, Drop, Within, Ending}
use Rattle.nr_model.specs.Throws.{throw_new, with_found}
use Rattle.nr_model.specs.CallRules.{operands_of, out_rule, built_in_rule, call, call_selected, class_of, selected_for, on_receiver, invoke_virtual, invoke_interface, invoke_special}
use Rattle.nr_model.specs.Types.{argument_tys, Ty, Object, Exact, kind_tys, operand_tys, local_tys}
use Rattle.nr_model.specs.Belonging.{one_place, Sharper, AllSharper}
use Rattle.nr_typed.specs.Fits.{Fits}
use Rattle.nr_typed.specs.Standing.{SameNameAndDescriptor}
use Rattle.nr_typed.proofs.Assigning.{above_zero, yes, holds, never, or_left, or_right, and_both, any_up, trans, class_up}
use Rattle.nr_typed.proofs.Belongs.{exact_object, length_operands}
use Rattle.nr_typed.proofs.Owed.{Owed, if_fits, throws}
use Rattle.nr_typed.proofs.Selecting.{selected_coded, selected_itself, selected_called}
use Rattle.nr_typed.proofs.Receivers.{drop_past, joined, length_more, all_before, arguments_at, arguments_ok, Receives, receiver, calls}

pub and_then_of : {X Y : Type 0} (f : X → Option Y) (o : Option X) (y : Y) → option_and_then f o ≡ Some y → (x : X) × (o ≡ Some x) × (f x ≡ Some y)
and_then_of f None y e = absurd (none_some e)
  where
    none_some : {X : Type 0} {x : X} → ◌≡◌ {A = Option X} None (Some x) → ⊥
    none_some e = cc
and_then_of f (Some x) y e = (x, refl, e)

-- the descriptor's arguments on the stack of operands that fit them
pub record Arguments (P : ProgramTables) (callee : MethodInfo) (ts : List VType) : Type 0 where
  pub args : List VType
  pub rest : List VType
  pub split : ts ≡ args ++ rest
  pub count : length args ≡ length callee.params
  pub fit : T (operands_fit P args (of_kinds (reverse callee.params)))

module _ (P : ProgramTables) (facts : TypingFacts P) where
  -- a class above that of the methods of an object or an array
  class_below : (n : ℕ) (b : Base) (d c : ℕ) → class_of P (record { dims = n; base = b }) ≡ Some d → T (is_above P d c) → T (is_assignable P (record { dims = n; base = b }) (class_kind c))
  class_below zero (bases.Object a) d c e p = or_right (admits_any P c) (is_above P a c) (subst (λ d. T (is_above P d c)) (sym (some_same e)) p)
    where
      some_same : {x y : ℕ} → Some x ≡ Some y → x ≡ y
      some_same e = cc
  class_below zero bases.Bool d c e p = absurd (cc)
  class_below zero bases.Byte d c e p = absurd (cc)
  class_below zero bases.Char d c e p = absurd (cc)
  class_below zero bases.Short d c e p = absurd (cc)
  class_below zero bases.Int d c e p = absurd (cc)
  class_below zero bases.Long d c e p = absurd (cc)
  class_below (suc n) b d c e p =
      let x : built_in P built_ins.Object ≡ d = some_same (subst (λ z. (if z then Some (built_in P built_ins.Object) else class_in b) ≡ Some d) (above_zero n) e) in
      any_up P facts (built_in P built_ins.Object) c (or_left (built_in P built_ins.Object == built_in P built_ins.Object) _ self)
      (or_right (admits_any P c) (is_above P (built_in P built_ins.Object) c) (subst (λ d. T (is_above P d c)) (sym x) p))
    where
      some_same : {x y : ℕ} → Some x ≡ Some y → x ≡ y
      some_same e = cc

      self : T (built_in P built_ins.Object == built_in P built_ins.Object)
      self = yes_eqb refl

  pub below_its_class : (k : Kind) (d c : ℕ) → class_of P k ≡ Some d → T (is_above P d c) → T (is_assignable P k (class_kind c))
  below_its_class k d c e p = class_below k.dims k.base d c e p

  module _ (own : MethodInfo) (F G : TypeFrame) (h0 : Heap) (Q : Ending → Within → Type 0) where
    abbrev LT : List Ty
    LT = local_tys own own.max_locals F.locals

    abbrev Fit : Script → Type 0
    Fit sc = Fits P h0 Q sc LT (operand_tys own F.operands)

    -- ---- what the rule took
    pub arguments_of : (callee : MethodInfo) (k : ℕ → List VType → Checked) → take_arguments P callee F.operands k ≡ Leaves G
        → (a : Arguments P callee F.operands) × (e : ℕ) × (k e a.rest ≡ Leaves G)
    arguments_of callee k e =
        let r = arguments_at P G (reverse callee.params) 0 F.operands k e in
        (record { args = r.0; rest = r.1; split = r.3; count = r.4 ∙ length-reverse callee.params; fit = r.5 }, r.2, r.6)

    some_fits : {X : Type 0} (o : Option X) (y : Script) (f : X → Script) (L us : List Ty) → Fits P h0 Q y L us → ((x : X) → o ≡ Some x → Fits P h0 Q (f x) L us) → Fits P h0 Q (on_some o y f) L us
    some_fits None y f L us p q = p
    some_fits (Some x) y f L us p q = q x refl

    module _ (s : Site) (owed : Owed P own F G h0 Q s) (fam : s.instr.row.family ≡ F32) (named owner : ℕ) (rs : s.resolved ≡ resolved.Method named owner) (callee : MethodInfo) (is_callee : method_at P named ≡ Some callee)
        (a : Arguments P callee F.operands) where
      -- ---- a call of the named method itself, if it has code

      pub by_body : (k : Script) (ts : List Ty) → ((body : Body) → callee.body ≡ Some body → Fits P h0 Q (Call named) LT ts) → ((r : Script) → callee.body ≡ None → built_in_rule P callee k ≡ Some r → Fits P h0 Q r LT ts)
          → Fits P h0 Q (call P named k) LT ts
      by_body k ts f g = subst (λ o. Fits P h0 Q (with_found o (λ i. if is_some i.body then Call named else on_some (built_in_rule P i k) (throw_new P built_ins.AbstractMethodError) (λ rule. rule))) LT ts) (sym is_callee) (cases callee.body refl)
        where
          cases : (o : Option Body) → callee.body ≡ o → Fits P h0 Q (if is_some o then Call named else on_some (built_in_rule P callee k) (throw_new P built_ins.AbstractMethodError) (λ rule. rule)) LT ts
          cases (Some body) e = f body e
          cases None e = some_fits (built_in_rule P callee k) (throw_new P built_ins.AbstractMethodError) (λ rule. rule) LT ts (throws P facts own F G h0 Q s owed built_ins.AbstractMethodError refl LT ts) (λ r x. g r e x)

      -- a built-in rule is one of nrmi/Out, or that of an initialiser
      pub rule_cases : (k r : Script) → built_in_rule P callee k ≡ Some r → ((callee.«class» ≡ built_in P built_ins.Out) × (out_rule P callee k ≡ Some r)) ⊎ (T (is_initialiser callee) × (Drop 0 k ≡ r))
      rule_cases k r e = by_class (callee.«class» == built_in P built_ins.Out) (λ p. eqb_yes p) e
        where
          init_case : (z : Bool) → (T z → T (is_initialiser callee)) → (if z then Some (Drop 0 k) else None) ≡ Some r → T (is_initialiser callee) × (Drop 0 k ≡ r)
          init_case true f e = (f tt, some_same e)
            where
              some_same : {x y : Script} → Some x ≡ Some y → x ≡ y
              some_same e = cc
          init_case false f e = absurd (none_some e)
            where
              none_some : {x : Script} → ◌≡◌ {A = Option Script} None (Some x) → ⊥
              none_some e = cc

          by_class : (z : Bool) → (T z → callee.«class» ≡ built_in P built_ins.Out) → (if z then out_rule P callee k else (if not (is_loaded P callee.«class») && is_initialiser callee then Some (Drop 0 k) else None)) ≡ Some r
              → ((callee.«class» ≡ built_in P built_ins.Out) × (out_rule P callee k ≡ Some r)) ⊎ (T (is_initialiser callee) × (Drop 0 k ≡ r))
          by_class true f e = inl (f tt, e)
          by_class false f e = inr (init_case (not (is_loaded P callee.«class») && is_initialiser callee) (λ p. (and_both (not (is_loaded P callee.«class»)) (is_initialiser callee) p).1) e)

      -- ---- a call of an instance method t on an object of kind e
      module _ (instance : is_static callee.flags ≡ false) (t : VType) (us : List VType) (rest : a.rest ≡ t ∷ us) where
        instance_operands : operands_of callee ≡ suc (length callee.params)
        instance_operands = rw instance refl

        after_arguments : drop (operands_of callee) F.operands ≡ us
        after_arguments =
            let n : operands_of callee ≡ length (a.args ++ (t ∷ [])) = instance_operands ∙ (ap suc (sym a.count) ∙ sym (length_more a.args t)) in
            let f : F.operands ≡ (a.args ++ (t ∷ [])) ++ us = a.split ∙ (ap (λ r. a.args ++ r) rest ∙ joined a.args us t) in
            subst₂ (λ n ts. drop n ts ≡ us) (sym n) (sym f) (drop_past (a.args ++ (t ∷ [])) us)

        pub call_object : (n : ℕ) (method : MethodInfo) (body : Body) → method_at P n ≡ Some method → method.body ≡ Some body → SameNameAndDescriptor callee method → (e : Kind) (c : ℕ) → T (is_assignable P e (class_kind method.«class»))
            → Fits P h0 Q (Call n) LT (operand_tys own a.args ++ (Exact e c ∷ operand_tys own us))
        call_object n method body is_method is_body same e c p =
            let args : List Ty = operand_tys own a.args ++ (Exact e c ∷ []) in
            let len : length args ≡ operands_of method = length_more (operand_tys own a.args) (Exact e c) ∙ (ap suc (length_operands own a.args ∙ a.count) ∙ (sym instance_operands ∙ same.flags)) in
            let params : AllSharper P (operand_tys own a.args) (kind_tys (reverse method.params)) = subst (λ ps. AllSharper P (operand_tys own a.args) (kind_tys (reverse ps))) same.params (arguments_ok P facts own a.args (reverse callee.params) a.fit) in
            let static : is_static method.flags ≡ false = not_static method same instance in
            let sharp : AllSharper P args (argument_tys method) = subst (λ z. AllSharper P args (kind_tys (reverse method.params) ++ (if z then [] else Object (class_kind method.«class») ∷ []))) (sym static)
            (all_before P (operand_tys own a.args) (kind_tys (reverse method.params)) (Exact e c ∷ []) (Object (class_kind method.«class») ∷ []) params (one_sharper (exact_object P facts e (class_kind method.«class») c p))) in
            subst (Fits P h0 Q (Call n) LT) (sym (joined (operand_tys own a.args) (operand_tys own us) (Exact e c)))
            (calls P facts own F G h0 Q s owed fam named owner n callee method body rs is_callee is_method is_body same args us len sharp after_arguments)
          where
            one_sharper : {x y : Ty} → Sharper P x y → AllSharper P (x ∷ []) (y ∷ [])
            one_sharper s h vs (one_place a q) = one_place (s h _ a) q

            -- both take a receiver, since both take one operand more than parameters
            not_static : (method : MethodInfo) → SameNameAndDescriptor callee method → is_static callee.flags ≡ false → is_static method.flags ≡ false
            not_static method same e = by_flag (is_static method.flags) refl
              where
                by_flag : (z : Bool) → is_static method.flags ≡ z → is_static method.flags ≡ false
                by_flag false x = x
                by_flag true x =
                    let l : length method.params ≡ suc (length callee.params) = (sym (subst (λ z. (if z then length method.params else suc (length method.params)) ≡ length method.params) (sym x) refl) ∙ sym same.flags) ∙ instance_operands in
                    let k : length callee.params ≡ length method.params = ap (λ ps. length ps) same.params in
                    absurd (omega arith)

        pub same_self : SameNameAndDescriptor callee callee
        same_self = record { name = refl; flags = refl; params = refl; result = refl }

        -- the selected method
        select_fits : (facts_of : CallFacts P own.«class» s.instr.row.code owner callee) (d : ℕ) (e : Kind) (c : ℕ) (n : ℕ) → selected P named d ≡ Some n
            → ((x : ℕ) → T (is_above P d x) → T (is_assignable P e (class_kind x))) → (IsTrue (is_private callee.flags) → T (is_assignable P e (class_kind callee.«class»)))
            → Fits P h0 Q (Call n) LT (operand_tys own a.args ++ (Exact e c ∷ operand_tys own us))
        select_fits call d e c n sel below hidden = by_flag (is_private callee.flags) refl
          where
            same_method : {x y : MethodInfo} {o : Option MethodInfo} → o ≡ Some x → o ≡ Some y → x ≡ y
            same_method e f = cc

            by_flag : (z : Bool) → is_private callee.flags ≡ z → Fits P h0 Q (Call n) LT (operand_tys own a.args ++ (Exact e c ∷ operand_tys own us))
            by_flag true p =
                let r = selected_coded P named d n sel in
                let is : method_at P n ≡ Some callee = subst (λ n. method_at P n ≡ Some callee) (selected_itself P named d n callee is_callee sel p) is_callee in
                let m : r.method ≡ callee = same_method r.is_method is in
                call_object n callee r.body is (subst (λ (m : MethodInfo). m.body ≡ Some r.body) m r.is_body) same_self e c (hidden p)
            by_flag false p =
                let r = selected_coded P named d n sel in
                let f = facts.selects named d n callee r.method is_callee instance p sel r.is_method in
                let q = selected_called P named d n callee is_callee sel p r.method r.is_method in
                call_object n r.method r.body r.is_method r.is_body (record { name = q.0; flags = subst₂ (λ x ps. operands_of callee ≡ (if x then length ps else suc (length ps))) (instance ∙ sym q.1) f.params refl; params = f.params; result = f.result }) e c (below r.method.«class» (yes (is_above P d r.method.«class») f.above))

        -- selection in the receiver's class
        selection_fits : (call : CallFacts P own.«class» s.instr.row.code owner callee) (e : Kind) (c : ℕ) → T (is_assignable P e (class_kind owner))
            → Fits P h0 Q (call_selected P (selected_for P named e)) LT (operand_tys own a.args ++ (Exact e c ∷ operand_tys own us))
        selection_fits call e c p = some_fits (selected_for P named e) (throw_new P built_ins.AbstractMethodError) Call LT (operand_tys own a.args ++ (Exact e c ∷ operand_tys own us))
            (throws P facts own F G h0 Q s owed built_ins.AbstractMethodError refl _ _) (λ n x.
            let r = and_then_of (selected P named) (class_of P e) n x in
            select_fits call r.0 e c n r.2 (λ y q. below_its_class e r.0 y r.1 q) (λ hid.
            trans P facts e (class_kind owner) (class_kind callee.«class») p (class_up P facts owner callee.«class» (yes (is_above P owner callee.«class») (call.private hid)))))

        pub virtual_fits : CallFacts P own.«class» s.instr.row.code owner callee → Receives P facts own F G h0 Q t owner → Fits P h0 Q (invoke_virtual P named) LT (operand_tys own (a.args ++ (t ∷ us)))
        virtual_fits call r = subst (λ o. Fits P h0 Q (with_found o (λ i. on_receiver P i (λ kind. call_selected P (selected_for P named kind)))) LT (operand_tys own (a.args ++ (t ∷ us)))) (sym is_callee)
            (receiver P facts own F G h0 Q s owed callee (λ kind. call_selected P (selected_for P named kind)) a.args us t owner a.count r (λ e n p. selection_fits call e n p))

        pub interface_fits : CallFacts P own.«class» s.instr.row.code owner callee → Receives P facts own F G h0 Q t owner → Fits P h0 Q (invoke_interface P named owner) LT (operand_tys own (a.args ++ (t ∷ us)))
        interface_fits call r = subst (λ o. Fits P h0 Q (with_found o (λ i. on_receiver P i (λ kind. if is_sub P kind (class_kind owner) then call_selected P (selected_for P named kind) else throw_new P built_ins.IncompatibleClassChangeError))) LT (operand_tys own (a.args ++ (t ∷ us)))) (sym is_callee)
            (receiver P facts own F G h0 Q s owed callee (λ kind. if is_sub P kind (class_kind owner) then call_selected P (selected_for P named kind) else throw_new P built_ins.IncompatibleClassChangeError) a.args us t owner a.count r (λ e n p.
            if_fits P facts own F G h0 Q (is_sub P e (class_kind owner)) (call_selected P (selected_for P named e)) (throw_new P built_ins.IncompatibleClassChangeError) LT (operand_tys own a.args ++ (Exact e n ∷ operand_tys own us))
            (λ q. selection_fits call e n p) (λ q. throws P facts own F G h0 Q s owed built_ins.IncompatibleClassChangeError refl _ _)))

        -- ---- invokespecial

        private_below : CallFacts P own.«class» s.instr.row.code owner callee → s.instr.row.code ≡ 183 → is_initialiser callee ≡ false → (e : Kind) → T (is_assignable P e (class_kind own.«class»)) → IsTrue (is_private callee.flags)
            → T (is_assignable P e (class_kind callee.«class»))
        private_below call code init e p hid =
            let u = facts.above_above own.«class» owner callee.«class» (call.ancestor code init) (call.private hid) in
            trans P facts e (class_kind own.«class») (class_kind callee.«class») p (class_up P facts own.«class» callee.«class» (yes (is_above P own.«class» callee.«class») u))

        no_built_in : is_initialiser callee ≡ false → (k r : Script) → callee.body ≡ None → built_in_rule P callee k ≡ Some r → ⊥
        no_built_in init k r none e = elim (rule_cases k r e) [
          | inl x ↦ never (is_static callee.flags) instance (yes (is_static callee.flags) ((facts.built_ins named callee is_callee none).out x.0).0)
          | inr x ↦ never (is_initialiser callee) init x.0
        ]

        pub special_fits : (k : Script) → CallFacts P own.«class» s.instr.row.code owner callee → s.instr.row.code ≡ 183 → is_initialiser callee ≡ false → Receives P facts own F G h0 Q t own.«class»
            → Fits P h0 Q (invoke_special P own.«class» named k) LT (operand_tys own (a.args ++ (t ∷ us)))
        special_fits k call code init r = subst (λ o. Fits P h0 Q (with_found o (λ i. on_receiver P i (λ kind. if is_initialiser i || is_private i.flags || i.«class» == own.«class» then Rattle.nr_model.specs.CallRules.call P named k else call_selected P (option_and_then (selected P named) (super_of P own.«class»))))) LT (operand_tys own (a.args ++ (t ∷ us)))) (sym is_callee)
            (receiver P facts own F G h0 Q s owed callee (λ kind. if is_initialiser callee || is_private callee.flags || callee.«class» == own.«class» then Rattle.nr_model.specs.CallRules.call P named k else call_selected P (option_and_then (selected P named) (super_of P own.«class»))) a.args us t own.«class» a.count r (λ e n p.
            if_fits P facts own F G h0 Q (is_initialiser callee || is_private callee.flags || callee.«class» == own.«class») (Rattle.nr_model.specs.CallRules.call P named k) (call_selected P (option_and_then (selected P named) (super_of P own.«class»))) LT (operand_tys own a.args ++ (Exact e n ∷ operand_tys own us))
            (λ z. by_body k (operand_tys own a.args ++ (Exact e n ∷ operand_tys own us))
            (λ body is_body. call_object named callee body is_callee is_body same_self e n (itself e p (one_of_three (is_initialiser callee) (is_private callee.flags) (callee.«class» == own.«class») z)))
            (λ r none x. absurd (no_built_in init k r none x)))
            (λ z. some_fits (option_and_then (selected P named) (super_of P own.«class»)) (throw_new P built_ins.AbstractMethodError) Call LT (operand_tys own a.args ++ (Exact e n ∷ operand_tys own us))
            (throws P facts own F G h0 Q s owed built_ins.AbstractMethodError refl _ _) (λ v x.
            let q = and_then_of (selected P named) (super_of P own.«class») v x in
            select_fits call q.0 e n v q.2 (λ y u.
            let w = facts.above_above own.«class» q.0 y (facts.super_above own.«class» q.0 q.1) (holds (is_above P q.0 y) u) in
            trans P facts e (class_kind own.«class») (class_kind y) p (class_up P facts own.«class» y (yes (is_above P own.«class» y) w))) (λ hid. private_below call code init e p hid)))))
          where
            one_of_three : (x y z : Bool) → T (x || y || z) → T x ⊎ (T y ⊎ T z)
            one_of_three true y z p = inl tt
            one_of_three false true z p = inr (inl tt)
            one_of_three false false true p = inr (inr tt)
            one_of_three false false false p = absurd p

            itself : (e : Kind) → T (is_assignable P e (class_kind own.«class»)) → T (is_initialiser callee) ⊎ (T (is_private callee.flags) ⊎ T (callee.«class» == own.«class»)) → T (is_assignable P e (class_kind callee.«class»))
            itself e p (inl x) = absurd (never (is_initialiser callee) init x)
            itself e p (inr (inl x)) = private_below call code init e p (holds (is_private callee.flags) x)
            itself e p (inr (inr x)) = subst (λ c. T (is_assignable P e (class_kind c))) (sym (eqb_yes x)) p
