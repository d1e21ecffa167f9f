-- The rule of multianewarray: its script fits.
use Rattle.std.proofs.Common.{◌≡◌, ℕ, zero, suc, ◌+◌, ◌≤◌, List, [], ◌∷◌, length, refl, sym, ap, subst, ◌∙◌, Bool, false, arith, T}
use Rattle.std.specs.Prelude.{if◌then◌else◌}
use Rattle.nr_linked.specs.declared.program.built_in.BuiltIn.TheVariants as built_ins
use Rattle.nr_linked.specs.declared.program.kind.Base.{Base}
use Rattle.nr_linked.specs.declared.program.kind.Kind.{Kind}
use Rattle.nr_linked.specs.declared.program.tables.MethodInfo.{MethodInfo}
use Rattle.nr_linked.specs.declared.program.tables.ProgramTables.{ProgramTables}
use Rattle.nr_linked.specs.declared.program.types.VType.{VType}
use Rattle.nr_linked.specs.declared.program.types.VType.TheVariants as types
use Rattle.nr_linked.specs.Kinds.{array_of}
use Rattle.nr_linked.specs.Sites.{Site}
use Rattle.nr_linked.specs.Subtypes.{is_assignable}
use Rattle.nr_linked.specs.TypingFrames.{TypeFrame}
use Rattle.nr_linked.specs.TypingChecks.{Checked, Leaves, take_ints, leaves_operands}
use Rattle.nr_linked.specs.TypingArrays.{made_of_counts}
use Rattle.nr_linked.specs.TypingFacts.{TypingFacts}
use Rattle.nr_model.specs.Heaps.{Heap}
use Rattle.nr_model.specs.Scripts.{Script, WriteSlot, Within, Ending}
use Rattle.nr_model.specs.Throws.{throw_new}
use Rattle.nr_model.specs.ArrayRules.{with_counts, fill, nested, new_arrays}
use Rattle.nr_model.specs.Types.{Ty, AnInt, Nullable, Exact, kept_ty, kept_base, operand_tys, local_tys}
use Rattle.nr_model.specs.Belonging.{Belongs, Sharper}
use Rattle.nr_model.specs.TypedHeaps.{slot_ty}
use Rattle.nr_typed.specs.Fits.{Fits}
use Rattle.nr_typed.proofs.Assigning.{array_reference}
use Rattle.nr_typed.proofs.Belongs.{exact_null}
use Rattle.nr_typed.proofs.Checks.{inv_int}
use Rattle.nr_typed.proofs.Owed.{Goes, Owed, go_top, if_fits, throws}
use Rattle.nr_typed.proofs.Elements.{kind_of, array_of_is}
use Rattle.nr_typed.proofs.Arrays.{make_fits, array_up}

abbrev ints : ℕ → List Ty → List Ty
ints zero us = us
ints (suc n) us = AnInt ∷ ints n us

module _ (P : ProgramTables) (facts : TypingFacts P) (own : MethodInfo) (F G : TypeFrame) (h0 : Heap) (Q : Ending → Within → Type 0) where
  abbrev LT : List Ty
  LT = local_tys own own.max_locals F.locals

  counts_at : (n d : ℕ) (ts : List VType) (k : List VType → Checked) → take_ints n d ts k ≡ Leaves G → (us : List VType) × (operand_tys own ts ≡ ints n (operand_tys own us)) × (k us ≡ Leaves G)
  counts_at zero d ts k e = (ts, refl, e)
  counts_at (suc n) d ts k e =
      let r = inv_int G d ts (λ us. take_ints n (suc d) us k) e in
      let q = counts_at n (suc d) r.0 k r.2 in
      (q.0, ap (operand_tys own) r.1 ∙ ap (λ us. AnInt ∷ us) q.1, q.2)

  module _ (s : Site) (owed : Owed P own F G h0 Q s) where
    counts_fit : (d : ℕ) (negative : Bool) (ns : List ℕ) (k : List ℕ → Script) (us : List Ty) → ((ms : List ℕ) → length ms ≡ d + length ns → Fits P h0 Q (k ms) LT us)
        → Fits P h0 Q (with_counts P d negative ns k) LT (ints d us)
    counts_fit zero negative ns k us f = if_fits P facts own F G h0 Q negative (throw_new P built_ins.NegativeArraySizeException) (k ns) LT us
        (λ p. throws P facts own F G h0 Q s owed built_ins.NegativeArraySizeException refl LT us) (λ p. f ns (omega arith))
    counts_fit (suc d) negative ns k us f = λ z. counts_fit d _ (_ ∷ ns) k us (λ ms e. f ms (omega arith))

    fill_fits : (e : Kind) (make : Script → Script) → ((m : ℕ) → Sharper P (Exact e m) (kept_ty e))
        → ((next : Script) (us : List Ty) → ((m : ℕ) → Fits P h0 Q next LT (Exact e m ∷ us)) → Fits P h0 Q (make next) LT us)
        → (i n : ℕ) → i ≤ n → (next : Script) (us : List Ty) → Fits P h0 Q next LT (Exact (array_of e) n ∷ us) → Fits P h0 Q (fill i make next) LT (Exact (array_of e) n ∷ us)
    fill_fits e make up f zero n l next us p = p
    fill_fits e make up f (suc i) n l next us p = f (WriteSlot i (fill i make next)) (Exact (array_of e) n ∷ Exact (array_of e) n ∷ us)
        (λ m. (omega arith, subst (λ a. Sharper P (Exact e m) (slot_ty P a i)) (sym (array_of_is e)) (up m), fill_fits e make up f i n (omega arith) next us p))

    array_kept : (n : ℕ) (b : Base) → T (is_assignable P (kind_of (suc n) b) (kind_of (suc n) b)) → (m : ℕ) → Sharper P (Exact (kind_of (suc n) b) m) (kept_ty (kind_of (suc n) b))
    array_kept n b p m =
        let e : kept_ty (kind_of (suc n) b) ≡ Nullable (kind_of (suc n) b) = ap (λ c. if c then Nullable (kind_of (suc n) b) else kept_base b) (array_reference n b) in
        λ h v q. subst (λ t. Belongs P h t v) (sym e) (exact_null P facts (kind_of (suc n) b) (kind_of (suc n) b) m p h v q)

    nested_fits : (d : ℕ) (b : Base) (ns : List ℕ) → 1 ≤ length ns → length ns ≤ d → T (is_assignable P (kind_of d b) (kind_of d b)) → (k : Script) (us : List Ty)
        → ((m : ℕ) → Fits P h0 Q k LT (Exact (kind_of d b) m ∷ us)) → Fits P h0 Q (nested (kind_of d b) ns k) LT us
    nested_fits d b [] l u p k us f = absurd (omega arith)
    nested_fits zero b (n ∷ ns) l u p k us f = absurd (omega arith)
    nested_fits (suc d) b (n ∷ []) l u p k us f = make_fits P facts own F G h0 Q s owed (kind_of d b) n k LT us p
        (λ m o. subst (λ a. Fits P h0 Q k LT (Exact a m ∷ us)) (sym (array_of_is (kind_of d b))) (f m))
    nested_fits (suc zero) b (n ∷ m ∷ ns) l u p k us f = absurd (omega arith)
    nested_fits (suc (suc d)) b (n ∷ m ∷ ns) l u p k us f = make_fits P facts own F G h0 Q s owed (kind_of (suc d) b) n (fill n (nested (kind_of (suc d) b) (m ∷ ns)) k) LT us p
        (λ c o. fill_fits (kind_of (suc d) b) (nested (kind_of (suc d) b) (m ∷ ns)) (array_kept d b p)
        (λ next us f. nested_fits (suc d) b (m ∷ ns) (omega arith) (omega arith) p next us f) n c o k us (subst (λ a. Fits P h0 Q k LT (Exact a c ∷ us)) (sym (array_of_is (kind_of (suc d) b))) (f c)))

    pub many_fit : (k : Script) → Goes P own F G h0 Q k → (kind : Kind) (n : ℕ) → 1 ≤ n → n ≤ kind.dims → T (is_assignable P kind kind) → made_of_counts own n kind F ≡ Leaves G
        → Fits P h0 Q (new_arrays P kind n k) LT (operand_tys own F.operands)
    many_fit k g kind n l u p e =
        let r = counts_at n 0 F.operands (λ ts. leaves_operands own F (types.Class kind ∷ ts)) e in
        subst (Fits P h0 Q (new_arrays P kind n k) LT) (sym r.1)
        (counts_fit n false [] (λ ns. nested kind ns k) (operand_tys own r.0) (λ ms z. nested_fits kind.dims kind.base ms (omega arith) (omega arith) p k (operand_tys own r.0)
        (λ m. go_top P facts own F G h0 Q k g (types.Class kind) r.0 r.2 (Exact kind m) (array_up P facts own F G h0 Q s owed kind m p))))
