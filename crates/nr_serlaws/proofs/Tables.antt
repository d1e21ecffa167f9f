-- Handles: each thing has one, and a description gives none to an object.
use Rattle.std.proofs.Common.{◌≡◌, ℕ, zero, suc, ◌+◌, ◌-◌, ◌<◌, Bool, true, false, cond, eqb, not, ◌||◌, ◌&&◌, nat_lt, List, [], ◌∷◌, ◌++◌, length, Some, None, refl, sym, ap, subst, ◌∙◌, ◌⊎◌, inl, inr, if◌then◌else◌, true≢false, append-nil, arith}
use Rattle.std.specs.Prelude.{slice_get, ◌==◌}
use Rattle.std.specs.List.{AllByRecursion, list_any, position_or_len}
use Rattle.std.proofs.lemmas.Bool.{eq-eqb, ne_eqb, eqb-true, ltb-false}
use Rattle.std.proofs.lemmas.List.Folds.{position_or_len_push}
use Rattle.std.proofs.lemmas.Slice.Eq.{bytes_eq-Decides}
use Rattle.nr_linked.specs.declared.program.kind.Base.{Base}
use Rattle.nr_linked.specs.declared.program.kind.Base.TheVariants as bases
use Rattle.nr_linked.specs.declared.program.kind.Kind.{Kind}
use Rattle.nr_linked.specs.declared.program.tables.ProgramTables.{ProgramTables}
use Rattle.nr_linked.specs.declared.program.tables.SlotInfo.{SlotInfo}
use Rattle.nr_linked.specs.Kinds.{is_reference}
use Rattle.nr_model.proofs.Paths.{none_some, some_eq}
use Rattle.nr_serform.specs.Entries.{Entry, Class, Text, Object, is_same_base, is_same_entry, is_same_kind}
use Rattle.nr_serform.specs.Handles.{Table, entry_at, handle, has, objects}
use Rattle.nr_serform.specs.Descriptions.{described_fields, field_table, fields_table, own_table, string_table}

-- ---- the test of what is the same

same_base_itself : (b : Base) → is_same_base b b ≡ true
same_base_itself bases.Bool = refl
same_base_itself bases.Byte = refl
same_base_itself bases.Char = refl
same_base_itself bases.Short = refl
same_base_itself bases.Int = refl
same_base_itself bases.Long = refl
same_base_itself (bases.Object c) = eq-eqb c c refl

both : (a b : Bool) → a ≡ true → b ≡ true → (a && b) ≡ true
both true b x y = y
both false b x y = x

pub same_itself : (e : Entry) → is_same_entry e e ≡ true
same_itself (Class k) = both (k.dims == k.dims) (is_same_base k.base k.base) (eq-eqb k.dims k.dims refl) (same_base_itself k.base)
same_itself (Text t) = (bytes_eq-Decides t t).1 refl
same_itself (Object i) = eq-eqb i i refl

both_left : (a b : Bool) → (a && b) ≡ true → a ≡ true
both_left true b e = refl
both_left false b e = e

both_right : (a b : Bool) → (a && b) ≡ true → b ≡ true
both_right true b e = e
both_right false b e = absurd (true≢false (sym e))

same_base_is : (a b : Base) → is_same_base a b ≡ true → a ≡ b
same_base_is bases.Bool bases.Bool e = refl
same_base_is bases.Byte bases.Byte e = refl
same_base_is bases.Char bases.Char e = refl
same_base_is bases.Short bases.Short e = refl
same_base_is bases.Int bases.Int e = refl
same_base_is bases.Long bases.Long e = refl
same_base_is (bases.Object c) (bases.Object d) e = ap bases.Object (eqb-true c d e)
same_base_is a b e = absurd (true≢false (sym e))

pub same_kind_is : (k l : Kind) → is_same_kind k l ≡ true → k ≡ l
same_kind_is k l e =
    let d = eqb-true k.dims l.dims (both_left (k.dims == l.dims) (is_same_base k.base l.base) e) in
    let b = same_base_is k.base l.base (both_right (k.dims == l.dims) (is_same_base k.base l.base) e) in
    (λ i. record { dims = d i; base = b i })

-- ---- each thing has one handle

pub record Once (t : Table) : Type 0 where
  pub at : (i : ℕ) (e : Entry) → slice_get t i ≡ Some e → position_or_len (is_same_entry e) t ≡ i

pub no_handles : Once []
no_handles = record { at = λ i e h. absurd (none_some h) }

in_front : {X : Type 0} (xs : List X) (y : X) (i : ℕ) (x : X) → slice_get (xs ++ y ∷ []) i ≡ Some x → ((i < length xs) × (slice_get xs i ≡ Some x)) ⊎ ((i ≡ length xs) × (y ≡ x))
in_front [] y zero x e = inr (refl, some_eq e)
in_front [] y (suc i) x e = absurd (none_some e)
in_front (z ∷ xs) y zero x e = inl (omega arith, e)
in_front (z ∷ xs) y (suc i) x e = by (in_front xs y i x e)
  where
    by : ((i < length xs) × (slice_get xs i ≡ Some x)) ⊎ ((i ≡ length xs) × (y ≡ x)) → ((suc i < suc (length xs)) × (slice_get xs i ≡ Some x)) ⊎ ((suc i ≡ suc (length xs)) × (y ≡ x))
    by (inl a) = inl (omega (arith, a.0), a.1)
    by (inr a) = inr (ap suc a.0, a.1)

-- where nothing passes, the place is the length
past_all : {X : Type 0} (p : X → Bool) (xs : List X) → list_any p xs ≡ false → position_or_len p xs ≡ length xs
past_all p [] e = refl
past_all p (x ∷ xs) e = by (p x) e (past_all p xs)
  where
    by : (b : Bool) → (b || list_any p xs) ≡ false → (list_any p xs ≡ false → position_or_len p xs ≡ length xs) → cond (not b) (1 + position_or_len p xs) 0 ≡ suc (length xs)
    by true e rest = absurd (true≢false e)
    by false e rest = let r = rest e in omega (arith, r)

pub once_more : (t : Table) (e : Entry) → Once t → has t e ≡ false → Once (t ++ e ∷ [])
once_more t e once new = record { at = λ i x h. by i x (in_front t e i x h) }
  where
    by : (i : ℕ) (x : Entry) → ((i < length t) × (slice_get t i ≡ Some x)) ⊎ ((i ≡ length t) × (e ≡ x)) → position_or_len (is_same_entry x) (t ++ e ∷ []) ≡ i
    by i x (inl a) =
        let p = once.at i x a.1 in
        let n : eqb (position_or_len (is_same_entry x) t) (length t) ≡ false = ne_eqb _ _ (λ q. omega (arith, a.0, p, q)) in
        position_or_len_push (is_same_entry x) t e ∙ ap (λ b. cond b (length t + cond (is_same_entry x e) 0 1) (position_or_len (is_same_entry x) t)) n ∙ p
    by i x (inr a) =
        let p = past_all (is_same_entry e) t new in
        let s : is_same_entry x e ≡ true = subst (λ z. is_same_entry z e ≡ true) a.1 (same_itself e) in
        let q : position_or_len (is_same_entry x) t ≡ length t = subst (λ z. position_or_len (is_same_entry z) t ≡ length t) a.1 p in
        position_or_len_push (is_same_entry x) t e ∙ ap (λ b. cond b (length t + cond (is_same_entry x e) 0 1) (position_or_len (is_same_entry x) t)) (eq-eqb _ _ q)
        ∙ ap (λ b. length t + cond b 0 1) s ∙ omega (arith, a.0)

-- the handle that was read is the one that is spelled
pub handle_is : (t : Table) (n : ℕ) (e : Entry) → Once t → entry_at t n ≡ Some e → n ≡ handle t e
handle_is t n e once h = by (nat_lt n 0x7E0000) refl h
  where
    by : (b : Bool) → nat_lt n 0x7E0000 ≡ b → (if b then None else slice_get t (n - 0x7E0000)) ≡ Some e → n ≡ handle t e
    by true l h = absurd (none_some h)
    by false l h = let p = once.at (n - 0x7E0000) e h in omega (arith, p, ltb-false _ _ l)

-- what has a handle is in the table
pub has_at : (t : Table) (i : ℕ) (e : Entry) → slice_get t i ≡ Some e → has t e ≡ true
has_at [] i e h = absurd (none_some h)
has_at (x ∷ t) zero e h = by (is_same_entry e x) (subst (λ z. is_same_entry e z ≡ true) (sym (some_eq h)) (same_itself e))
  where
    by : (b : Bool) → b ≡ true → (b || has t e) ≡ true
    by true s = refl
    by false s = absurd (true≢false (sym s))
has_at (x ∷ t) (suc i) e h = by (is_same_entry e x) (has_at t i e h)
  where
    by : (b : Bool) → has t e ≡ true → (b || has t e) ≡ true
    by true s = refl
    by false s = s

pub has_entry : (t : Table) (n : ℕ) (e : Entry) → entry_at t n ≡ Some e → has t e ≡ true
has_entry t n e h = by (nat_lt n 0x7E0000) h
  where
    by : (b : Bool) → (if b then None else slice_get t (n - 0x7E0000)) ≡ Some e → has t e ≡ true
    by true h = absurd (none_some h)
    by false h = has_at t (n - 0x7E0000) e h

-- ---- tables that a description leaves: what was there, then classes and texts

abbrev EntryOf : (Kind → Type 0) → Entry → Type 0
EntryOf Q (Class k) = Q k
EntryOf Q (Text t) = Unit {0}
EntryOf Q (Object i) = Unit {0}

-- each thing has one handle, and something holds of each class that has one
pub record Keeps (Q : Kind → Type 0) (t : Table) : Type 0 where
  pub once : Once t
  pub classes : AllByRecursion (EntryOf Q) t

pub all_more : {X : Type 0} (Q : X → Type 0) (xs : List X) (y : X) → AllByRecursion Q xs → Q y → AllByRecursion Q (xs ++ y ∷ [])
all_more Q [] y a q = (q, tt)
all_more Q (x ∷ xs) y a q = (a.0, all_more Q xs y a.1 q)

pub all_get : {X : Type 0} (Q : X → Type 0) (xs : List X) (i : ℕ) (x : X) → AllByRecursion Q xs → slice_get xs i ≡ Some x → Q x
all_get Q [] i x a e = absurd (none_some e)
all_get Q (y ∷ ys) zero x a e = subst Q (some_eq e) a.0
all_get Q (y ∷ ys) (suc i) x a e = all_get Q ys i x a.1 e

pub keeps_more : (Q : Kind → Type 0) (t : Table) (e : Entry) → Keeps Q t → has t e ≡ false → EntryOf Q e → Keeps Q (t ++ e ∷ [])
keeps_more Q t e k new q = record { once = once_more t e k.once new; classes = all_more (EntryOf Q) t e k.classes q }

keeps_string : (Q : Kind → Type 0) (t : Table) (d : List ℕ) → Keeps Q t → Keeps Q (string_table t d)
keeps_string Q t d k = by (has t (Text d)) refl
  where
    by : (b : Bool) → has t (Text d) ≡ b → Keeps Q (if b then t else t ++ Text d ∷ [])
    by true e = k
    by false e = keeps_more Q t (Text d) k e tt

keeps_fields : (Q : Kind → Type 0) (ss : List SlotInfo) (t : Table) → Keeps Q t → Keeps Q (fields_table t ss)
keeps_fields Q [] t k = k
keeps_fields Q (s ∷ ss) t k = keeps_fields Q ss (field_table t s) (by (is_reference s.kind))
  where
    by : (b : Bool) → Keeps Q (if b then string_table t s.desc else t)
    by true = keeps_string Q t s.desc k
    by false = k

pub keeps_own : (Q : Kind → Type 0) (P : ProgramTables) (t : Table) (kind : Kind) → Keeps Q t → has t (Class kind) ≡ false → Q kind → Keeps Q (own_table P t kind)
keeps_own Q P t kind k new q = keeps_fields Q (described_fields P kind) (t ++ Class kind ∷ []) (keeps_more Q t (Class kind) k new q)

-- the class of a handle
pub class_at_handle : (Q : Kind → Type 0) (t : Table) (n : ℕ) (kind : Kind) → Keeps Q t → entry_at t n ≡ Some (Class kind) → Q kind
class_at_handle Q t n kind k h = by (nat_lt n 0x7E0000) h
  where
    by : (b : Bool) → (if b then None else slice_get t (n - 0x7E0000)) ≡ Some (Class kind) → Q kind
    by true h = absurd (none_some h)
    by false h = all_get (EntryOf Q) t (n - 0x7E0000) (Class kind) k.classes h

-- ---- objects

pub objects-append : (a b : Table) → objects (a ++ b) ≡ objects a ++ objects b
objects-append [] b = refl
objects-append (Class k ∷ a) b = objects-append a b
objects-append (Text t ∷ a) b = objects-append a b
objects-append (Object i ∷ a) b = ap (λ x. i ∷ x) (objects-append a b)

objects_string : (t : Table) (d : List ℕ) → objects (string_table t d) ≡ objects t
objects_string t d = by (has t (Text d))
  where
    by : (b : Bool) → objects (if b then t else t ++ Text d ∷ []) ≡ objects t
    by true = refl
    by false = objects-append t (Text d ∷ []) ∙ append-nil (objects t)

objects_fields : (ss : List SlotInfo) (t : Table) → objects (fields_table t ss) ≡ objects t
objects_fields [] t = refl
objects_fields (s ∷ ss) t = objects_fields ss (field_table t s) ∙ by (is_reference s.kind)
  where
    by : (b : Bool) → objects (if b then string_table t s.desc else t) ≡ objects t
    by true = objects_string t s.desc
    by false = refl

pub objects_own : (P : ProgramTables) (t : Table) (kind : Kind) → objects (own_table P t kind) ≡ objects t
objects_own P t kind = objects_fields (described_fields P kind) (t ++ Class kind ∷ []) ∙ objects-append t (Class kind ∷ []) ∙ append-nil (objects t)
