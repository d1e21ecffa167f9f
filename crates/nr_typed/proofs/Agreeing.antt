-- Two runs of one script that fits its types, from places that agree where they are usable.
use Rattle.std.proofs.Common.{◌≡◌, ℕ, ◌<◌, List, ◌∷◌, ◌++◌, length, refl, sym, ap, subst, subst₂, inl, inr, Bool, true, false}
use Rattle.std.specs.Prelude.{ℤ, pos, Some, slice_set}
use Rattle.std.proofs.lemmas.List.{length-set}
use Rattle.std.specs.FinMap.{get, insert}
use Rattle.nr_linked.specs.declared.program.kind.Kind.{Kind}
use Rattle.nr_linked.specs.declared.program.tables.ProgramTables.{ProgramTables}
use Rattle.nr_model.specs.declared.value.Value.{Value}
use Rattle.nr_model.specs.declared.value.Value.TheVariants.{Int, Null, Ref}
use Rattle.nr_model.specs.Heaps.{Heap}
use Rattle.nr_model.specs.Scripts.{plain, Script, GoTo, Throw, Return, ReturnTop, Call, Stuck, Push, PopInt, PopLong, Load, Store, Pick, Drop, AskLong, AskNull, AskSame, AskKind, ReadSlot, WriteSlot, Make, Print, Within, Ending, GoesTo, Threw, Gave, Called, OnRef, is_long, is_same, is_null, new_object, with_slot, Runs}
use Rattle.nr_model.specs.Alike.{Like, like_ref, AlikeObj, no_result, one_result}
use Rattle.nr_model.proofs.Matchings.{Matched, Moved, AlikeEnding, both_go, both_threw, both_gave, both_called}
use Rattle.nr_model.proofs.Heaps.{get_same, written, made, moved_none, moved_write, moved_make, moved_then, with_new, sum_left}
use Rattle.nr_model.proofs.Pairing.{plain_like, plains_like, lengths, set_like, on_int, on_long, on_held, on_nullable, same_name_like}
use Rattle.nr_model.specs.Types.{Ty, JustNull, Exact}
use Rattle.nr_model.specs.Belonging.{Belongs, Sharper}
use Rattle.nr_model.specs.Staying.{Stays}
use Rattle.nr_model.specs.TypedHeaps.{slot_ty, TypedHeap}
use Rattle.nr_typed.specs.Fits.{OnTy, OnAnInt, OnALong, OnSize, OnNullness, OnKinds, OnExact, without_ty, Ends, EndsTop, Fits}
use Rattle.nr_typed.specs.Usable.{Usable}
use Rattle.nr_model.proofs.Staying.{stays_on, stays_write, stays_make}
use Rattle.nr_typed.proofs.Typed.{at_some, typed_write, typed_make, plain_length, form_of}
use Rattle.nr_typed.proofs.Places.{used_int, used_long, used_null, used_exact, used_kinds, by_use, both_admitted, slot_usable, same_form, both_named, both_nullable, kind_there, exact_there, at_slot, Places, some, places_on, one_like, places_set, places_without, places_sharper, at_top, at_place, places_belong}

module _ (P : ProgramTables) (h0 : Heap) (Q : Ending → Within → Type 0) (one_kind : (w : Within) → Q (Gave (Some Null)) w → Q (Gave (Some (Int (pos 0)))) w → ⊥) where
  -- what a script that goes on owes, for whatever values its types have
  abbrev pub Owing : Ending → List Ty → List Ty → Type 0
  Owing (GoesTo t) L ts = Ends P h0 Q (GoesTo t) L ts
  Owing (Called m) L ts = Ends P h0 Q (Called m) L ts
  Owing e L ts = Unit {0}

  -- where two runs stand
  pub record Beside (R : ℕ → ℕ → Type 0) (L ts : List Ty) (w1 w2 : Within) : Type 0 where
    pub typed : TypedHeap P w1.heap
    pub stays : Stays h0 w1.heap
    pub heap : Matched R w1.heap w2.heap
    pub printed : w1.printed ≡ w2.printed
    pub locals : Places P R w1.heap L w1.locals w2.locals
    pub operands : Places P R w1.heap ts w1.operands w2.operands

  -- where two runs end
  pub record Later (R : ℕ → ℕ → Type 0) (h1 h2 : Heap) (e1 e2 : Ending) (w1 w2 : Within) : Type 1 where
    pub now : ℕ → ℕ → Type 0
    pub moved : Moved R h1 h2 now w1.heap w2.heap
    pub local_tys : List Ty
    pub operand_tys : List Ty
    pub beside : Beside now local_tys operand_tys w1 w2
    pub ending : AlikeEnding now e1 e2
    pub owing : Owing e1 local_tys operand_tys

  later_first : (R S : ℕ → ℕ → Type 0) (h1 h2 k1 k2 : Heap) (e1 e2 : Ending) (w1 w2 : Within) → Moved R h1 h2 S k1 k2 → Later S k1 k2 e1 e2 w1 w2 → Later R h1 h2 e1 e2 w1 w2
  later_first R S h1 h2 k1 k2 e1 e2 w1 w2 m l = record { now = l.now; moved = moved_then R S l.now h1 h2 k1 k2 w1.heap w2.heap m l.moved; local_tys = l.local_tys; operand_tys = l.operand_tys; beside = l.beside; ending = l.ending; owing = l.owing }

  over : (R : ℕ → ℕ → Type 0) (L ts us : List Ty) (w1 w2 : Within) (vs ws : List Value) → Beside R L ts w1 w2 → Places P R w1.heap us vs ws → Beside R L us (record w1 { operands = vs }) (record w2 { operands = ws })
  over R L ts us w1 w2 vs ws s ps = record { typed = s.typed; stays = s.stays; heap = s.heap; printed = s.printed; locals = s.locals; operands = ps }

  -- what is returned is of one kind, so it is usable
  given_like : (R : ℕ → ℕ → Type 0) (L : List Ty) (t : Ty) (us : List Ty) (w1 w2 : Within) (u v : Value) → Beside R L us w1 w2 → EndsTop P h0 Q (λ v K. K (Gave (Some v))) L t us → (Usable t → Like R u v) → Like R u v
  given_like R L t us w1 w2 u v s f l = sum_left (by_use t) l (λ n.
      let a = places_belong P R w1.heap L w1.locals w2.locals s.locals in
      let b = places_belong P R w1.heap us w1.operands w2.operands s.operands in
      absurd (one_kind w1 (f w1 Null s.typed s.stays a b (n.0 w1.heap P Null tt)) (f w1 (Int (pos 0)) s.typed s.stays a b (n.0 w1.heap P (Int (pos 0)) tt))))

  thrown_like : (R : ℕ → ℕ → Type 0) (L : List Ty) (t : Ty) (us : List Ty) (w1 w2 : Within) (u v : Value) → Beside R L us w1 w2 → EndsTop P h0 Q (λ v K. OnRef v (λ a. K (Threw a))) L t us → (Usable t → Like R u v) → Like R u v
  thrown_like R L t us w1 w2 u v s f l = sum_left (by_use t) l (λ n.
      let a = places_belong P R w1.heap L w1.locals w2.locals s.locals in
      let b = places_belong P R w1.heap us w1.operands w2.operands s.operands in
      absurd (f w1 Null s.typed s.stays a b (n.0 w1.heap P Null tt)))

  -- what is written to a slot is usable
  written_like : (R : ℕ → ℕ → Type 0) (h : Heap) (t : Ty) (k : Kind) (i : ℕ) (u v : Value) → Usable (slot_ty P k i) → Sharper P t (slot_ty P k i) → (Usable t → Like R u v) → Like R u v
  written_like R h t k i u v x s l = sum_left (by_use t) l (λ n.
      absurd (both_admitted P h (slot_ty P k i) (s h Null (n.0 h P Null tt)) (s h (Int (pos 0)) (n.0 h P (Int (pos 0)) tt)) x))

  pub agreeing : (sc : Script) (R : ℕ → ℕ → Type 0) (L ts : List Ty) (w1 w2 v1 v2 : Within) (e1 e2 : Ending) → Beside R L ts w1 w2 → Fits P h0 Q sc L ts
      → Runs sc w1 e1 v1 → Runs sc w2 e2 v2 → Later R w1.heap w2.heap e1 e2 v1 v2
  agreeing (GoTo t) R L ts w1 w2 v1 v2 e1 e2 s f p q = rw (p.0, q.0, p.1, q.1) (record { now = R; moved = moved_none R _ _; local_tys = L; operand_tys = ts; beside = s; ending = both_go; owing = f })
  agreeing Throw R L ts w1 w2 v1 v2 e1 e2 s f p q =
      at_top P R w1.heap _ ts _ _ (λ t us. EndsTop P h0 Q (λ v K. OnRef v (λ a. K (Threw a))) L t us) _ _ s.operands f p q (λ t us u v xs ys b l n ps f p q.
      let s' = over R L ts us w1 w2 xs ys s ps in
      both_named P _ R u v _ _ (thrown_like R L t us (record w1 { operands = xs }) (record w2 { operands = ys }) u v s' f l) p q (λ x y e g r p q.
      rw (p.0, q.0, p.1, q.1) (record { now = R; moved = moved_none R _ _; local_tys = L; operand_tys = us; beside = s'; ending = both_threw r; owing = tt })))
  agreeing Return R L ts w1 w2 v1 v2 e1 e2 s f p q = rw (p.0, q.0, p.1, q.1) (record { now = R; moved = moved_none R _ _; local_tys = L; operand_tys = ts; beside = s; ending = both_gave no_result; owing = tt })
  agreeing ReturnTop R L ts w1 w2 v1 v2 e1 e2 s f p q =
      at_top P R w1.heap _ ts _ _ (λ t us. EndsTop P h0 Q (λ v K. K (Gave (Some v))) L t us) _ _ s.operands f p q (λ t us u v xs ys b l n ps f p q.
      let s' = over R L ts us w1 w2 xs ys s ps in
      let r = given_like R L t us (record w1 { operands = xs }) (record w2 { operands = ys }) u v s' f l in
      rw (p.0, q.0, p.1, q.1) (record { now = R; moved = moved_none R _ _; local_tys = L; operand_tys = us; beside = s'; ending = both_gave (one_result r); owing = tt }))
  agreeing (Call m) R L ts w1 w2 v1 v2 e1 e2 s f p q = rw (p.0, q.0, p.1, q.1) (record { now = R; moved = moved_none R _ _; local_tys = L; operand_tys = ts; beside = s; ending = both_called; owing = f })
  agreeing Stuck R L ts w1 w2 v1 v2 e1 e2 s f p q = absurd p
  agreeing (Push c k) R L ts w1 w2 v1 v2 e1 e2 s f p q =
      agreeing k R L (f.0 ∷ ts) _ _ v1 v2 e1 e2 (over R L ts (f.0 ∷ ts) w1 w2 _ _ s (one_like P R w1.heap f.0 ts (plain c) (plain c) _ _ (f.1 w1.heap) (plain_like R c) s.operands)) f.2 p q
  agreeing (PopInt k) R L ts w1 w2 v1 v2 e1 e2 s f p q =
      at_top P R w1.heap _ ts _ _ (λ t us. OnAnInt t ((n : ℤ) → Fits P h0 Q (k n) L us)) _ _ s.operands f p q (λ t us u v xs ys b l n ps f p q.
      let g = used_int t _ f in
      on_int R _ u v _ _ (l g.0) p q (λ n p q. agreeing (k n) R L us _ _ v1 v2 e1 e2 (over R L ts us w1 w2 xs ys s ps) (g.1 n) p q))
  agreeing (PopLong k) R L ts w1 w2 v1 v2 e1 e2 s f p q =
      at_top P R w1.heap _ ts _ _ (λ t us. OnALong t ((n : ℤ) → Fits P h0 Q (k n) L us)) _ _ s.operands f p q (λ t us u v xs ys b l n ps f p q.
      let g = used_long t _ f in
      on_long R _ u v _ _ (l g.0) p q (λ n p q. agreeing (k n) R L us _ _ v1 v2 e1 e2 (over R L ts us w1 w2 xs ys s ps) (g.1 n) p q))
  agreeing (Load i k) R L ts w1 w2 v1 v2 e1 e2 s f p q =
      at_place P R w1.heap _ L _ _ i (λ t. Fits P h0 Q k L (t ∷ ts)) _ _ s.locals f p q (λ t u v e g b l n f p q.
      agreeing k R L (t ∷ ts) _ _ v1 v2 e1 e2 (over R L ts (t ∷ ts) w1 w2 _ _ s (some b l n s.operands)) f p q)
  agreeing (Store i k) R L ts w1 w2 v1 v2 e1 e2 s f p q =
      at_top P R w1.heap _ ts _ _ (λ t us. (i < length L) × Fits P h0 Q k (slice_set L i t) us) _ _ s.operands f p q (λ t us u v xs ys b l n ps f p q.
      agreeing k R (slice_set L i t) us (record w1 { locals = slice_set w1.locals i u; operands = xs }) (record w2 { locals = slice_set w2.locals i v; operands = ys }) v1 v2 e1 e2
      (record { typed = s.typed; stays = s.stays; heap = s.heap; printed = s.printed; locals = places_set P R w1.heap L _ _ i t u v s.locals b l n; operands = ps }) f.1 p.1 q.1)
  agreeing (Pick d k) R L ts w1 w2 v1 v2 e1 e2 s f p q =
      at_place P R w1.heap _ ts _ _ d (λ t. Fits P h0 Q k L (t ∷ ts)) _ _ s.operands f p q (λ t u v e g b l n f p q.
      agreeing k R L (t ∷ ts) _ _ v1 v2 e1 e2 (over R L ts (t ∷ ts) w1 w2 _ _ s (some b l n s.operands)) f p q)
  agreeing (Drop d k) R L ts w1 w2 v1 v2 e1 e2 s f p q =
      agreeing k R L (without_ty d ts) _ _ v1 v2 e1 e2 (over R L ts (without_ty d ts) w1 w2 _ _ s (places_without P R w1.heap ts _ _ d s.operands)) f.1 p.1 q.1
  agreeing (AskLong d k) R L ts w1 w2 v1 v2 e1 e2 s f p q =
      at_place P R w1.heap _ ts _ _ d (λ t. OnSize t (Fits P h0 Q (k true) L ts) (Fits P h0 Q (k false) L ts)) _ _ s.operands f p q (λ t u v e g b l n f p q.
      agreeing (k (is_long u)) R L ts w1 w2 v1 v2 e1 e2 s (form_of P w1.heap t u (λ x. Fits P h0 Q (k x) L ts) b f) p
      (subst (λ b. Runs (k b) w2 e2 v2) (sym (same_form P w1.heap R t u v _ _ f b l n)) q))
  agreeing (AskNull d k) R L ts w1 w2 v1 v2 e1 e2 s f p q =
      at_place P R w1.heap _ ts _ _ d (λ t. OnNullness t (Fits P h0 Q (k true) L (slice_set ts d JustNull)) (λ u. Fits P h0 Q (k false) L (slice_set ts d u))) _ _ s.operands f p q (λ t u v e g b l n f p q.
      let r = l (used_null t _ _ f) in
      both_nullable P _ R w1.heap t u v (Fits P h0 Q (k true) L (slice_set ts d JustNull)) (λ u. Fits P h0 Q (k false) L (slice_set ts d u)) (λ x. Runs (k (is_null x)) w1 e1 v1) (λ x. Runs (k (is_null x)) w2 e2 v2) b f r p q
      (λ b f p q. agreeing (k true) R L (slice_set ts d JustNull) w1 w2 v1 v2 e1 e2 (over R L ts (slice_set ts d JustNull) w1 w2 _ _ s (places_sharper P R w1.heap ts _ _ d JustNull u v s.operands e g b r)) f p q)
      (λ x y z b f p q. agreeing (k false) R L (slice_set ts d x) w1 w2 v1 v2 e1 e2 (over R L ts (slice_set ts d x) w1 w2 _ _ s (places_sharper P R w1.heap ts _ _ d x u v s.operands e g b r)) f p q))
  agreeing (AskSame k) R L ts w1 w2 v1 v2 e1 e2 s f p q =
      at_top P R w1.heap _ ts _ _ (λ t us. OnTy us (λ u vs. OnNullness t (Unit {0}) (λ x. Unit {0}) × OnNullness u (Unit {0}) (λ x. Unit {0}) × ((b : Bool) → Fits P h0 Q (k b) L vs))) _ _ s.operands f p q (λ t us u v xs ys b l n ps f p q.
      at_top P R w1.heap _ us _ _ (λ u vs. OnNullness t (Unit {0}) (λ x. Unit {0}) × OnNullness u (Unit {0}) (λ x. Unit {0}) × ((b : Bool) → Fits P h0 Q (k b) L vs)) _ _ ps f p q (λ t2 us2 u2 v2' xs2 ys2 b2 l2 n2 ps2 f p q.
      on_nullable R _ u v _ _ (l (used_null t _ _ f.0)) p q (λ x y nn p q. on_nullable R _ u2 v2' _ _ (l2 (used_null t2 _ _ f.1)) p q (λ z w o p q.
      agreeing (k (is_same x z)) R L us2 (record w1 { operands = xs2 }) (record w2 { operands = ys2 }) v1 v2 e1 e2 (over R L ts us2 w1 w2 xs2 ys2 s ps2) (f.2 (is_same x z)) p
      (subst (λ b. Runs (k b) (record w2 { operands = ys2 }) e2 v2) (sym (same_name_like R _ _ s.heap x y z w nn o)) q)))))
  agreeing (AskKind d k) R L ts w1 w2 v1 v2 e1 e2 s f p q =
      at_place P R w1.heap _ ts _ _ d (λ t. OnKinds P t (λ e n. Fits P h0 Q (k e n) L (slice_set ts d (Exact e n)))) _ _ s.operands f p q (λ t u v e g b l n f p q.
      let r = l (used_kinds P t _ f) in
      both_named P _ R u v _ _ r p q (λ x y i j rxy p q. on_held R _ w1.heap w2.heap s.heap x y _ _ rxy p q (λ o c eo ec a p q.
      let fit = kind_there P w1.heap t u x o (λ e n. Fits P h0 Q (k e n) L (slice_set ts d (Exact e n))) b f i eo (s.typed.count x o eo) in
      let belongs : Belongs P w1.heap (Exact o.kind (length o.slots)) u =
      subst (Belongs P w1.heap (Exact o.kind (length o.slots))) (sym i) (at_some (get w1.heap x) o (λ p. (p.kind ≡ o.kind) × (length p.slots ≡ length o.slots)) eo (refl, refl)) in
      agreeing (k o.kind (length o.slots)) R L (slice_set ts d (Exact o.kind (length o.slots))) w1 w2 v1 v2 e1 e2
      (over R L ts (slice_set ts d (Exact o.kind (length o.slots))) w1 w2 _ _ s (places_sharper P R w1.heap ts _ _ d (Exact o.kind (length o.slots)) u v s.operands e g belongs r)) fit p
      (subst₂ (λ b n. Runs (k b n) w2 e2 v2) (sym a.kind) (sym (lengths R _ _ a.slots)) q))))
  agreeing (Print bs k) R L ts w1 w2 v1 v2 e1 e2 s f p q =
      agreeing k R L ts _ _ v1 v2 e1 e2 (record { typed = s.typed; stays = s.stays; heap = s.heap; printed = ap (λ out. out ++ bs) s.printed; locals = s.locals; operands = s.operands }) f p q
  agreeing (ReadSlot i k) R L ts w1 w2 v1 v2 e1 e2 s f p q =
      at_top P R w1.heap _ ts _ _ (λ t us. OnExact t (λ e n. (i < n) × Fits P h0 Q k L (slot_ty P e i ∷ us))) _ _ s.operands f p q (λ t us u v xs ys b l n ps f p q.
      both_named P _ R u v _ _ (l (used_exact t _ f)) p q (λ x y g j rxy p q. on_held R _ w1.heap w2.heap s.heap x y _ _ rxy p q (λ o c eo ec a p q.
      let fit = exact_there P w1.heap t u x o (λ e n. (i < n) × Fits P h0 Q k L (slot_ty P e i ∷ us)) b f g eo in
      at_slot P _ R o.slots c.slots i _ _ a.slots p q (λ z z2 ez lz p q.
      agreeing k R L (slot_ty P o.kind i ∷ us) (record w1 { operands = z ∷ xs }) (record w2 { operands = z2 ∷ ys }) v1 v2 e1 e2
      (over R L ts (slot_ty P o.kind i ∷ us) w1 w2 (z ∷ xs) (z2 ∷ ys) s (one_like P R w1.heap (slot_ty P o.kind i) us z z2 xs ys (s.typed.slots x o eo i z ez) lz ps)) fit.1 p q))))
  agreeing (WriteSlot i k) R L ts w1 w2 v1 v2 e1 e2 s f p q =
      at_top P R w1.heap _ ts _ _ (λ u us. OnTy us (λ t vs. OnExact t (λ e n. (i < n) × Sharper P u (slot_ty P e i) × Fits P h0 Q k L vs))) _ _ s.operands f p q (λ t us u v xs ys b l n ps f p q.
      at_top P R w1.heap _ us _ _ (λ t2 vs. OnExact t2 (λ e n. (i < n) × Sharper P t (slot_ty P e i) × Fits P h0 Q k L vs)) _ _ ps f p q (λ t2 us2 u2 z2 xs2 ys2 b2 l2 n2 ps2 f p q.
      both_named P _ R u2 z2 _ _ (l2 (used_exact t2 _ f)) p q (λ x y g j rxy p q. on_held R _ w1.heap w2.heap s.heap x y _ _ rxy p q (λ o c eo ec a p q.
      let fit = exact_there P w1.heap t2 u2 x o (λ e n. (i < n) × Sharper P t (slot_ty P e i) × Fits P h0 Q k L us2) b2 f g eo in
      let like = written_like R w1.heap t o.kind i u v (slot_usable P o.kind (length o.slots) i (s.typed.count x o eo) fit.0) fit.1 l in
      let st = stays_write w1.heap x o (record o { slots = slice_set o.slots i u }) eo refl (length-set o.slots i u) in
      later_first R R w1.heap w2.heap (with_slot w1.heap x o i u) (with_slot w2.heap y c i v) e1 e2 v1 v2 (moved_write R w1.heap w2.heap x y o c _ _ eo (length-set o.slots i u) ec (length-set c.slots i v) rxy)
      (agreeing k R L us2 (record w1 { heap = with_slot w1.heap x o i u; operands = xs2 }) (record w2 { heap = with_slot w2.heap y c i v; operands = ys2 }) v1 v2 e1 e2
      (record {
        typed = typed_write P w1.heap x i o u s.typed eo fit.0 (fit.1 w1.heap u b);
        stays = stays_on _ _ _ s.stays st;
        heap = written R w1.heap w2.heap s.heap x y rxy _ _ (record { kind = a.kind; slots = set_like R _ _ i u v a.slots like });
        printed = s.printed;
        locals = places_on P R R w1.heap _ st (λ x y r. r) L _ _ s.locals;
        operands = places_on P R R w1.heap _ st (λ x y r. r) us2 _ _ ps2;
      }) fit.2 p.1 q.1)))))
  agreeing (Make c cs k) R L ts w1 w2 v1 v2 e1 e2 s f p q =
      let new : AlikeObj R (new_object c cs) (new_object c cs) = record { kind = refl; slots = plains_like R cs } in
      let st = stays_make w1.heap p.0 (new_object c cs) p.1 in
      later_first R (with_new R p.0 q.0) w1.heap w2.heap _ _ e1 e2 v1 v2 (moved_make R w1.heap w2.heap s.heap p.0 q.0 p.1 q.1 _ _ new)
      (agreeing k (with_new R p.0 q.0) L (Exact c (length cs) ∷ ts) (record w1 { heap = insert w1.heap p.0 (new_object c cs); operands = Ref p.0 ∷ w1.operands }) (record w2 { heap = insert w2.heap q.0 (new_object c cs); operands = Ref q.0 ∷ w2.operands }) v1 v2 e1 e2
      (record {
        typed = typed_make P w1.heap p.0 c cs s.typed p.1 f.0 f.1;
        stays = stays_on _ _ _ s.stays st;
        heap = made R w1.heap w2.heap s.heap p.0 q.0 p.1 q.1 _ _ new;
        printed = s.printed;
        locals = places_on P R (with_new R p.0 q.0) w1.heap _ st (λ x y r. inl r) L _ _ s.locals;
        operands = one_like P (with_new R p.0 q.0) _ (Exact c (length cs)) ts (Ref p.0) (Ref q.0) _ _ (rw get_same (refl, plain_length cs)) (like_ref (inr (refl, refl))) (places_on P R (with_new R p.0 q.0) w1.heap _ st (λ x y r. inl r) ts _ _ s.operands);
      }) f.2 p.2 q.2)
