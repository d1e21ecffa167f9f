-- Calls: the arguments on the stack, and the receiver below them.
use Rattle.std.proofs.Common.{◌≡◌, ℕ, suc, ◌≤◌, List, [], ◌∷◌, ◌++◌, length, refl, sym, ap, subst, subst₂, ◌∙◌, Bool, true, false, arith, T}
use Rattle.std.specs.Prelude.{Some, slice_get, slice_set, take, drop, if◌then◌else◌, ◌&&◌}
use Rattle.nr_optable.specs.declared.table.Family.TheVariants.{F32}
use Rattle.nr_prog.specs.declared.body.whole.Body.{Body}
use Rattle.nr_linked.specs.declared.program.built_in.BuiltIn.TheVariants as built_ins
use Rattle.nr_linked.specs.declared.program.kind.Kind.{Kind}
use Rattle.nr_linked.specs.declared.program.tables.MethodInfo.{MethodInfo}
use Rattle.nr_linked.specs.declared.program.tables.ProgramTables.{ProgramTables}
use Rattle.nr_linked.specs.declared.program.tables.Resolved.TheVariants as resolved
use Rattle.nr_linked.specs.declared.program.types.VType.{VType}
use Rattle.nr_linked.specs.declared.program.types.VType.TheVariants as types
use Rattle.nr_linked.specs.Kinds.{class_kind}
use Rattle.nr_linked.specs.Programs.{method_at}
use Rattle.nr_linked.specs.Sites.{Site}
use Rattle.nr_linked.specs.Subtypes.{is_assignable}
use Rattle.nr_linked.specs.TypingFrames.{TypeFrame, of_kind, of_kinds, is_operand_assignable, operands_fit}
use Rattle.nr_linked.specs.TypingChecks.{Checked, Leaves, take_kinds}
use Rattle.nr_linked.specs.TypingFacts.{TypingFacts}
use Rattle.nr_model.specs.declared.value.Value.{Value}
use Rattle.nr_model.specs.Heaps.{Heap}
use Rattle.nr_model.specs.Scripts.{Script, Call, AskNull, AskKind, Within, Ending}
use Rattle.nr_model.specs.Throws.{throw_new}
use Rattle.nr_model.specs.CallRules.{operands_of, on_receiver}
use Rattle.nr_model.specs.Types.{argument_tys, Ty, Word, JustNull, Nullable, Object, Just, Exact, kind_tys, ty_of, operand_tys, local_tys}
use Rattle.nr_model.specs.Belonging.{Belongs, Belong, no_place, one_place, AllSharper}
use Rattle.nr_model.specs.TypedHeaps.{Counts}
use Rattle.nr_typed.specs.Fits.{OnNullness, Fits}
use Rattle.nr_typed.specs.Standing.{SameNameAndDescriptor}
use Rattle.nr_typed.proofs.Assigning.{and_both, trans}
use Rattle.nr_typed.proofs.Belongs.{operand_ok, kind_same, length_operands}
use Rattle.nr_typed.proofs.Checks.{refused, inv_need}
use Rattle.nr_typed.proofs.Owed.{Owed, null_throw}
use Rattle.nr_typed.proofs.Objects.{on_wanted}

-- ---- lists with a place in the middle

get_mid : {X : Type 0} (xs us : List X) (x : X) → slice_get (xs ++ (x ∷ us)) (length xs) ≡ Some x
get_mid [] us x = refl
get_mid (y ∷ ys) us x = get_mid ys us x

set_mid : {X : Type 0} (xs us : List X) (x u : X) → slice_set (xs ++ (x ∷ us)) (length xs) u ≡ xs ++ (u ∷ us)
set_mid [] us x u = refl
set_mid (y ∷ ys) us x u = ap (λ zs. y ∷ zs) (set_mid ys us x u)

pub drop_past : {X : Type 0} (xs us : List X) → drop (length xs) (xs ++ us) ≡ us
drop_past [] us = refl
drop_past (y ∷ ys) us = drop_past ys us

pub joined : {X : Type 0} (xs us : List X) (x : X) → xs ++ (x ∷ us) ≡ (xs ++ (x ∷ [])) ++ us
joined [] us x = refl
joined (y ∷ ys) us x = ap (λ zs. y ∷ zs) (joined ys us x)

pub length_more : {X : Type 0} (xs : List X) (x : X) → length (xs ++ (x ∷ [])) ≡ suc (length xs)
length_more [] x = refl
length_more (y ∷ ys) x = ap suc (length_more ys x)

pub operands_append : (m : MethodInfo) (xs us : List VType) → operand_tys m (xs ++ us) ≡ operand_tys m xs ++ operand_tys m us
operands_append m [] us = refl
operands_append m (x ∷ xs) us = ap (λ zs. ty_of Word m x ∷ zs) (operands_append m xs us)

-- ---- arguments

module _ (P : ProgramTables) where
  pub all_before : (xs ys us vs : List Ty) → AllSharper P xs ys → AllSharper P us vs → AllSharper P (xs ++ us) (ys ++ vs)
  all_before xs ys us vs s t h ws q = let r = split h xs us ws q in glue h ys vs _ _ (s h _ r.0) (t h _ r.1) ws r.3
    where
      split : (h : Heap) (xs us : List Ty) (ws : List Value) → Belong P h (xs ++ us) ws → Belong P h xs (take (length xs) ws) × Belong P h us (drop (length xs) ws) × (length xs ≤ length ws) × (take (length xs) ws ++ drop (length xs) ws ≡ ws)
      split h [] us ws q = (no_place, q, omega arith, refl)
      split h (x ∷ xs) us ws (one_place {v = v} a q) = let r = split h xs us _ q in (one_place a r.0, r.1, (let l = r.2 in omega arith), ap (λ ws. v ∷ ws) r.3)

      glue : (h : Heap) (ys vs : List Ty) (cs bs : List Value) → Belong P h ys cs → Belong P h vs bs → (ws : List Value) → cs ++ bs ≡ ws → Belong P h (ys ++ vs) ws
      glue h ys vs cs bs p q ws e = subst (λ ws. Belong P h (ys ++ vs) ws) e (both h ys vs cs bs p q)
        where
          both : (h : Heap) (ys vs : List Ty) (cs bs : List Value) → Belong P h ys cs → Belong P h vs bs → Belong P h (ys ++ vs) (cs ++ bs)
          both h ys vs cs bs no_place q = q
          both h ys vs cs bs (one_place a p) q = one_place a (both h _ vs _ bs p q)

  pub parted : (h : Heap) (xs us : List Ty) (ws : List Value) → Belong P h (xs ++ us) ws → Belong P h xs (take (length xs) ws) × Belong P h us (drop (length xs) ws) × (length xs ≤ length ws)
  parted h [] us ws q = (no_place, q, omega arith)
  parted h (x ∷ xs) us ws (one_place a q) = let r = parted h xs us _ q in (one_place a r.0, r.1, let l = r.2 in omega arith)

  -- the arguments that a call takes
  pub arguments_at : (G : TypeFrame) (ks : List Kind) (d : ℕ) (ts : List VType) (k : ℕ → List VType → Checked) → take_kinds P ks d ts k ≡ Leaves G
      → (xs : List VType) × (us : List VType) × (e : ℕ) × (ts ≡ xs ++ us) × (length xs ≡ length ks) × T (operands_fit P xs (of_kinds ks)) × (k e us ≡ Leaves G)
  arguments_at G [] d ts k e = ([], ts, d, refl, refl, tt, e)
  arguments_at G (x ∷ xs) d [] k e = refused G e
  arguments_at G (x ∷ xs) d (t ∷ ts) k e =
      let n = inv_need G (is_operand_assignable P t (of_kind x)) _ _ e in
      let r = arguments_at G xs (suc d) ts k n.1 in
      (t ∷ r.0, r.1, r.2, ap (λ zs. t ∷ zs) r.3, ap suc r.4, both (is_operand_assignable P t (of_kind x)) _ n.0 r.5, r.6)
    where
      both : (a b : Bool) → T a → T b → T (a && b)
      both true b p q = q
      both false b p q = absurd p

module _ (P : ProgramTables) (facts : TypingFacts P) (own : MethodInfo) where
  pub arguments_ok : (ts : List VType) (ks : List Kind) → T (operands_fit P ts (of_kinds ks)) → AllSharper P (operand_tys own ts) (kind_tys ks)
  arguments_ok [] [] p h vs q = q
  arguments_ok (t ∷ ts) (k ∷ ks) p h vs (one_place {v = v} a q) =
      let f = and_both (is_operand_assignable P t (of_kind k)) (operands_fit P ts (of_kinds ks)) p in
      one_place (subst (λ t. Belongs P h t v) (kind_same P facts Word own k) (operand_ok P facts own h t (of_kind k) v f.0 a)) (arguments_ok ts ks f.1 h _ q)
  arguments_ok [] (k ∷ ks) p h vs q = absurd p
  arguments_ok (t ∷ ts) [] p h vs q = absurd p

  on_null_map : (x : Ty) (X A : Type 0) (Y B : Ty → Type 0) → OnNullness x X Y → (X → A) → ((u : Ty) → Y u → B u) → OnNullness x A B
  on_null_map JustNull X A Y B p f g = f p
  on_null_map (Nullable k) X A Y B p f g = (f p.0, g _ p.1)
  on_null_map (Object k) X A Y B p f g = g _ p
  on_null_map (Just k) X A Y B p f g = g _ p
  on_null_map (Exact k n) X A Y B p f g = g _ p
  on_null_map _ X A Y B p f g = absurd p

  module _ (F G : TypeFrame) (h0 : Heap) (Q : Ending → Within → Type 0) where
    abbrev LT : List Ty
    LT = local_tys own own.max_locals F.locals

    module _ (xs us : List Ty) (d : ℕ) (e : d ≡ length xs) where
      null_mid : (k : Bool → Script) (x : Ty) → OnNullness x (Fits P h0 Q (k true) LT (xs ++ (JustNull ∷ us))) (λ u. Fits P h0 Q (k false) LT (xs ++ (u ∷ us))) → Fits P h0 Q (AskNull d k) LT (xs ++ (x ∷ us))
      null_mid k x p = rw (e, get_mid xs us x) (on_null_map x _ (Fits P h0 Q (k true) LT (slice_set (xs ++ (x ∷ us)) (length xs) JustNull)) _ (λ u. Fits P h0 Q (k false) LT (slice_set (xs ++ (x ∷ us)) (length xs) u)) p
          (λ f. subst (λ ts. Fits P h0 Q (k true) LT ts) (sym (set_mid xs us x JustNull)) f) (λ u f. subst (λ ts. Fits P h0 Q (k false) LT ts) (sym (set_mid xs us x u)) f))

      kind_mid : (k : Kind → ℕ → Script) (c : Kind) → ((a : Kind) (n : ℕ) → T (is_assignable P a c) → Counts P a n → Fits P h0 Q (k a n) LT (xs ++ (Exact a n ∷ us))) → Fits P h0 Q (AskKind d k) LT (xs ++ (Object c ∷ us))
      kind_mid k c p = rw (e, get_mid xs us (Object c)) (λ a n q z. subst (λ ts. Fits P h0 Q (k a n) LT ts) (sym (set_mid xs us (Object c) (Exact a n))) (p a n q z))

      kind_just : (k : Kind → ℕ → Script) (c : Kind) → ((n : ℕ) → Counts P c n → Fits P h0 Q (k c n) LT (xs ++ (Exact c n ∷ us))) → Fits P h0 Q (AskKind d k) LT (xs ++ (Just c ∷ us))
      kind_just k c p = rw (e, get_mid xs us (Just c)) (λ n z. subst (λ ts. Fits P h0 Q (k c n) LT ts) (sym (set_mid xs us (Just c) (Exact c n))) (p n z))

    -- what a receiver is for a class: null, objects of a kind below it, or those of just such a kind
    abbrev pub Receives : VType → ℕ → Type 1
    Receives t c = (X : Type 0) (Y : Ty → Type 0) → X → ((k : Kind) → T (is_assignable P k (class_kind c)) → Y (Object k) × Y (Just k)) → OnNullness (ty_of Word own t) X Y

    pub wanted_receives : (t : VType) (c : ℕ) → T (is_operand_assignable P t (types.Class (class_kind c))) → Receives t c
    wanted_receives t c p X Y x y = on_wanted P facts own F G h0 Q (class_kind c) t X Y p x (λ k q. (y k q).0)

    module _ (s : Site) (owed : Owed P own F G h0 Q s) where
      pub receiver : (i : MethodInfo) (k : Kind → Script) (xs us : List VType) (t : VType) (c : ℕ) → length xs ≡ length i.params → Receives t c
          → ((e : Kind) (n : ℕ) → T (is_assignable P e (class_kind c)) → Fits P h0 Q (k e) LT (operand_tys own xs ++ (Exact e n ∷ operand_tys own us))) → Fits P h0 Q (on_receiver P i k) LT (operand_tys own (xs ++ (t ∷ us)))
      receiver i k xs us t c l r f =
          let d : length i.params ≡ length (operand_tys own xs) = sym (length_operands own xs ∙ l) in
          subst (λ ts. Fits P h0 Q (on_receiver P i k) LT ts) (sym (operands_append own xs (t ∷ us)))
          (null_mid (operand_tys own xs) (operand_tys own us) (length i.params) d (λ null. if null then throw_new P built_ins.NullPointerException else AskKind (length i.params) (λ kind n. k kind)) (ty_of Word own t)
          (r _ (λ u. Fits P h0 Q (AskKind (length i.params) (λ kind n. k kind)) LT (operand_tys own xs ++ (u ∷ operand_tys own us))) (null_throw P facts own F G h0 Q s owed _ _)
          (λ j p. (
            kind_mid (operand_tys own xs) (operand_tys own us) (length i.params) d (λ kind n. k kind) j (λ e n q z. f e n (trans P facts e j (class_kind c) q p)),
            kind_just (operand_tys own xs) (operand_tys own us) (length i.params) d (λ kind n. k kind) j (λ n z. f j n p),
          ))))

      -- a call of t, the method n, where `target` was named
      pub calls : s.instr.row.family ≡ F32 → (named owner n : ℕ) (target t : MethodInfo) (body : Body) → s.resolved ≡ resolved.Method named owner → method_at P named ≡ Some target
          → method_at P n ≡ Some t → t.body ≡ Some body → SameNameAndDescriptor target t → (args : List Ty) (us : List VType) → length args ≡ operands_of t → AllSharper P args (argument_tys t)
          → drop (operands_of target) F.operands ≡ us → Fits P h0 Q (Call n) LT (args ++ operand_tys own us)
      calls fam named owner n target t body rs is_target is_t is_body same args us l sharp rest w th st a q =
          let r = parted P w.heap args (operand_tys own us) w.operands q in
          owed.called fam named owner n target t body rs is_target is_t is_body same w th st a
          (subst (λ n. Belong P w.heap (argument_tys t) (take n w.operands)) l (sharp w.heap (take (length args) w.operands) r.0))
          (subst₂ (λ ts n. Belong P w.heap (operand_tys own ts) (drop n w.operands)) (sym rest) l r.1)
          (subst (λ n. n ≤ length w.operands) l r.2)
