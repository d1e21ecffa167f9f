-- The first local variables of a method, from arguments that belong to its parameters.
use Rattle.std.proofs.Common.{◌≡◌, ◌≢◌, ℕ, zero, suc, ◌≤◌, List, [], ◌∷◌, ◌++◌, length, refl, sym, ap, subst, subst₂, ◌∙◌, Bool, true, false, arith, T}
use Rattle.std.specs.Prelude.{ℤ, ◌-◌, Option, Some, None, reverse, replicate, if◌then◌else◌}
use Rattle.std.proofs.lemmas.List.{reverse-append, reverse-reverse}
use Rattle.std.proofs.lemmas.Grind.{reverse_onto}
use Rattle.nr_linked.specs.declared.program.kind.Kind.{Kind}
use Rattle.nr_linked.specs.declared.program.tables.MethodInfo.{MethodInfo}
use Rattle.nr_linked.specs.declared.program.tables.ProgramTables.{ProgramTables}
use Rattle.nr_linked.specs.declared.program.types.VType.{VType}
use Rattle.nr_linked.specs.declared.program.types.VType.TheVariants as types
use Rattle.nr_linked.specs.Kinds.{class_kind}
use Rattle.nr_prog.specs.Members.{is_static}
use Rattle.nr_linked.specs.TypingFrames.{of_base, of_kind, of_kinds, total_size, in_places, padded, this_type, comes_uninit, places_of, entry_frame}
use Rattle.nr_linked.specs.TypingCalls.{class_made_at}
use Rattle.nr_linked.specs.TypingFacts.{TypingFacts}
use Rattle.nr_model.specs.declared.value.Value.{Value}
use Rattle.nr_model.specs.declared.value.Value.TheVariants.{Int, Long, Null, Ref}
use Rattle.nr_model.specs.Heaps.{Heap, on_some}
use Rattle.nr_model.specs.Steps.{spread, first_locals}
use Rattle.nr_model.specs.Types.{argument_tys, Ty, Anything, JustNull, Object, Just, kind_ty, kind_tys, ty_of, local_tys}
use Rattle.nr_model.specs.Belonging.{Belongs, Belong, no_place, one_place}
use Rattle.nr_typed.proofs.Assigning.{by_kind}
use Rattle.nr_typed.proofs.Belongs.{kind_same}

abbrev any_tys : MethodInfo → List VType → List Ty
any_tys m [] = []
any_tys m (t ∷ ts) = ty_of Anything m t ∷ any_tys m ts

-- each is a type of values of a kind, or of `this`
abbrev is_argument : VType → Bool
is_argument types.Top = false
is_argument t = true

abbrev AllArguments : List VType → Type 0
AllArguments [] = Unit {0}
AllArguments (t ∷ ts) = T (is_argument t) × AllArguments ts

-- so many values, null where none is given
abbrev filled : ℕ → List Value → List Value
filled n vs = vs ++ replicate (n - length vs) Null

filled_more : (n : ℕ) (v : Value) (vs : List Value) → filled (suc n) (v ∷ vs) ≡ v ∷ filled n vs
filled_more n v vs = let e : suc n - suc (length vs) ≡ n - length vs = omega arith in ap (λ k. v ∷ (vs ++ replicate k Null)) e

-- ---- reversed lists

reverse_more : {X : Type 0} (x : X) (xs : List X) → reverse (x ∷ xs) ≡ reverse xs ++ (x ∷ [])
reverse_more x xs = reverse_onto xs x []

module _ (P : ProgramTables) (h : Heap) where
  append_belong : (ts us : List Ty) (vs ws : List Value) → Belong P h ts vs → Belong P h us ws → Belong P h (ts ++ us) (vs ++ ws)
  append_belong ts us vs ws no_place q = q
  append_belong ts us vs ws (one_place a p) q = one_place a (append_belong _ us _ ws p q)

  reverse_belong : (ts : List Ty) (vs : List Value) → Belong P h ts vs → Belong P h (reverse ts) (reverse vs)
  reverse_belong ts vs no_place = no_place
  reverse_belong (t ∷ ts) (v ∷ vs) (one_place a p) = subst₂ (Belong P h) (sym (reverse_more t ts)) (sym (reverse_more v vs))
      (append_belong (reverse ts) (t ∷ []) (reverse vs) (v ∷ []) (reverse_belong ts vs p) (one_place a no_place))

kinds_append : (ks ls : List Kind) → kind_tys (ks ++ ls) ≡ kind_tys ks ++ kind_tys ls
kinds_append [] ls = refl
kinds_append (k ∷ ks) ls = ap (λ ts. kind_ty k ∷ ts) (kinds_append ks ls)

kinds_reverse : (ks : List Kind) → kind_tys (reverse ks) ≡ reverse (kind_tys ks)
kinds_reverse [] = refl
kinds_reverse (k ∷ ks) = ap kind_tys (reverse_more k ks) ∙ (kinds_append (reverse ks) (k ∷ []) ∙ (ap (λ ts. ts ++ (kind_ty k ∷ [])) (kinds_reverse ks) ∙ sym (reverse_more (kind_ty k) (kind_tys ks))))

-- the arguments from the first on
from_first : (ks : List Kind) (ts : List Ty) → reverse (kind_tys (reverse ks) ++ ts) ≡ reverse ts ++ kind_tys ks
from_first ks ts = reverse-append (kind_tys (reverse ks)) ts ∙ ap (λ us. reverse ts ++ us) (ap reverse (kinds_reverse ks) ∙ reverse-reverse (kind_tys ks))

module _ (P : ProgramTables) (facts : TypingFacts P) (m : MethodInfo) (h : Heap) where
  nulls : (n : ℕ) → Belong P h (local_tys m n (padded n [])) (replicate n Null)
  nulls zero = no_place
  nulls (suc n) = one_place tt (nulls n)

  uninit_long : (o : Option ℕ) (n : ℤ) → Belongs P h (on_some o JustNull (λ c. Just (class_kind c))) (Long n) → ⊥
  uninit_long None n q = q
  uninit_long (Some c) n q = q

  single : (u : VType) (v : Value) (vs : List Value) → T (is_argument u) → u ≢ types.Long → Belongs P h (ty_of Anything m u) v → spread (v ∷ vs) ≡ v ∷ spread vs
  single u (Int n) vs p d q = refl
  single u Null vs p d q = refl
  single u (Ref a) vs p d q = refl
  single types.Top (Long n) vs p d q = absurd p
  single types.Int (Long n) vs p d q = absurd q
  single types.Long (Long n) vs p d q = absurd (d refl)
  single types.Null (Long n) vs p d q = absurd q
  single types.UninitThis (Long n) vs p d q = absurd q
  single (types.Uninit i) (Long n) vs p d q = absurd (uninit_long (class_made_at m i) n q)
  single (types.Class k) (Long n) vs p d q = absurd q

  laid : (n : ℕ) (ts : List VType) (vs : List Value) → AllArguments ts → total_size ts ≤ n → Belong P h (any_tys m ts) vs → Belong P h (local_tys m n (padded n (in_places ts))) (filled n (spread vs))
  laid n [] vs p l no_place = let e : n - 0 ≡ n = omega arith in subst (λ k. Belong P h (local_tys m n (padded n [])) (replicate k Null)) (sym e) (nulls n)
  laid zero (types.Long ∷ ts) vs p l q = absurd (omega arith)
  laid (suc zero) (types.Long ∷ ts) vs p l q = absurd (omega arith)
  laid (suc (suc n)) (types.Long ∷ ts) (Long i ∷ vs) p l (one_place a q) =
      subst (Belong P h (local_tys m (suc (suc n)) (padded (suc (suc n)) (in_places (types.Long ∷ ts))))) (sym (filled_more (suc n) (Long i) (Null ∷ spread vs) ∙ ap (λ ws. Long i ∷ ws) (filled_more n Null (spread vs))))
      (one_place a (one_place tt (laid n ts vs p.1 (omega arith) q)))
  laid (suc (suc n)) (types.Long ∷ ts) (Int i ∷ vs) p l (one_place a q) = absurd a
  laid (suc (suc n)) (types.Long ∷ ts) (Null ∷ vs) p l (one_place a q) = absurd a
  laid (suc (suc n)) (types.Long ∷ ts) (Ref i ∷ vs) p l (one_place a q) = absurd a
  laid (suc n) (types.Int ∷ ts) [] p l q = elim q [ ]
  laid (suc (suc n)) (types.Long ∷ ts) [] p l q = elim q [ ]
  laid (suc n) (types.Null ∷ ts) [] p l q = elim q [ ]
  laid (suc n) (types.UninitThis ∷ ts) [] p l q = elim q [ ]
  laid (suc n) (types.Uninit i ∷ ts) [] p l q = elim q [ ]
  laid (suc n) (types.Class k ∷ ts) [] p l q = elim q [ ]
  laid zero (types.Int ∷ ts) vs p l q = absurd (omega arith)
  laid zero (types.Null ∷ ts) vs p l q = absurd (omega arith)
  laid zero (types.UninitThis ∷ ts) vs p l q = absurd (omega arith)
  laid zero (types.Uninit i ∷ ts) vs p l q = absurd (omega arith)
  laid zero (types.Class k ∷ ts) vs p l q = absurd (omega arith)
  laid n (types.Top ∷ ts) vs p l q = absurd p.0
  laid (suc n) (types.Int ∷ ts) (v ∷ vs) p l (one_place a q) = subst (Belong P h (local_tys m (suc n) (padded (suc n) (in_places (types.Int ∷ ts))))) (sym (ap (filled (suc n)) (single types.Int v vs tt int_long a) ∙ filled_more n v (spread vs))) (one_place a (laid n ts vs p.1 (omega arith) q))
    where
      int_long : types.Int ≢ types.Long
      int_long e = cc
  laid (suc n) (types.Null ∷ ts) (v ∷ vs) p l (one_place a q) = subst (Belong P h (local_tys m (suc n) (padded (suc n) (in_places (types.Null ∷ ts))))) (sym (ap (filled (suc n)) (single types.Null v vs tt null_long a) ∙ filled_more n v (spread vs))) (one_place a (laid n ts vs p.1 (omega arith) q))
    where
      null_long : types.Null ≢ types.Long
      null_long e = cc
  laid (suc n) (types.UninitThis ∷ ts) (v ∷ vs) p l (one_place a q) = subst (Belong P h (local_tys m (suc n) (padded (suc n) (in_places (types.UninitThis ∷ ts))))) (sym (ap (filled (suc n)) (single types.UninitThis v vs tt this_long a) ∙ filled_more n v (spread vs))) (one_place a (laid n ts vs p.1 (omega arith) q))
    where
      this_long : types.UninitThis ≢ types.Long
      this_long e = cc
  laid (suc n) (types.Uninit i ∷ ts) (v ∷ vs) p l (one_place a q) = subst (Belong P h (local_tys m (suc n) (padded (suc n) (in_places (types.Uninit i ∷ ts))))) (sym (ap (filled (suc n)) (single (types.Uninit i) v vs tt uninit_not a) ∙ filled_more n v (spread vs))) (one_place a (laid n ts vs p.1 (omega arith) q))
    where
      uninit_not : types.Uninit i ≢ types.Long
      uninit_not e = cc
  laid (suc n) (types.Class k ∷ ts) (v ∷ vs) p l (one_place a q) = subst (Belong P h (local_tys m (suc n) (padded (suc n) (in_places (types.Class k ∷ ts))))) (sym (ap (filled (suc n)) (single (types.Class k) v vs tt class_long a) ∙ filled_more n v (spread vs))) (one_place a (laid n ts vs p.1 (omega arith) q))
    where
      class_long : types.Class k ≢ types.Long
      class_long e = cc

  -- ---- the types of the descriptor

  kind_argument : (k : Kind) → T (is_argument (of_kind k))
  kind_argument k = by_kind (λ k. T (is_argument (of_kind k))) (λ k e. subst (λ c. T (is_argument (if c then types.Class k else of_base k.base))) (sym e) tt) tt tt tt tt tt tt k

  kinds_arguments : (ks : List Kind) → AllArguments (of_kinds ks)
  kinds_arguments [] = tt
  kinds_arguments (k ∷ ks) = (kind_argument k, kinds_arguments ks)

  kinds_belong : (ks : List Kind) (vs : List Value) → Belong P h (kind_tys ks) vs → Belong P h (any_tys m (of_kinds ks)) vs
  kinds_belong [] vs q = q
  kinds_belong (k ∷ ks) [] q = elim q [ ]
  kinds_belong (k ∷ ks) (v ∷ vs) (one_place a q) = one_place (subst (λ t. Belongs P h t v) (sym (kind_same P facts Anything m k)) a) (kinds_belong ks vs q)

  this_argument : (c : Bool) → T (is_argument (if c then types.UninitThis else types.Class (class_kind m.«class»)))
  this_argument true = tt
  this_argument false = tt

  this_belongs : (c : Bool) (v : Value) → Belongs P h (Object (class_kind m.«class»)) v → Belongs P h (ty_of Anything m (if c then types.UninitThis else types.Class (class_kind m.«class»))) v
  this_belongs true v q = q
  this_belongs false (Ref a) q = q
  this_belongs false Null q = absurd q
  this_belongs false (Int n) q = absurd q
  this_belongs false (Long n) q = absurd q

  by_flag : (z : Bool) (vs : List Value) → total_size (if z then of_kinds m.params else this_type P m ∷ of_kinds m.params) ≤ m.max_locals
      → Belong P h (kind_tys (reverse m.params) ++ (if z then [] else Object (class_kind m.«class») ∷ [])) vs
      → Belong P h (local_tys m m.max_locals (padded m.max_locals (in_places (if z then of_kinds m.params else this_type P m ∷ of_kinds m.params)))) (filled m.max_locals (spread (reverse vs)))
  by_flag true vs l q = laid m.max_locals (of_kinds m.params) (reverse vs) (kinds_arguments m.params) l
      (kinds_belong m.params (reverse vs) (subst (λ ts. Belong P h ts (reverse vs)) (from_first m.params []) (reverse_belong P h _ vs q)))
  by_flag false vs l q = laid m.max_locals (this_type P m ∷ of_kinds m.params) (reverse vs) (this_argument (comes_uninit P m), kinds_arguments m.params) l
      (this_first (reverse vs) (subst (λ ts. Belong P h ts (reverse vs)) (from_first m.params (Object (class_kind m.«class») ∷ [])) (reverse_belong P h _ vs q)))
    where
      this_first : (ws : List Value) → Belong P h (Object (class_kind m.«class») ∷ kind_tys m.params) ws → Belong P h (any_tys m (this_type P m ∷ of_kinds m.params)) ws
      this_first [] q = elim q [ ]
      this_first (w ∷ ws) (one_place a q) = one_place (this_belongs (comes_uninit P m) w a) (kinds_belong m.params ws q)

  -- the arguments, the last first, laid over the local variables, belong to the frame at the method's entry
  pub entry_ok : (vs : List Value) → places_of P m ≤ m.max_locals → Belong P h (argument_tys m) vs → Belong P h (local_tys m m.max_locals (entry_frame P m).locals) (first_locals m vs)
  entry_ok vs l q = by_flag (is_static m.flags) vs l q
