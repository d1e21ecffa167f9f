-- What indices name, as tests and as facts.
use Rattle.std.proofs.Common.{◌≡◌, ℕ, zero, suc, Bool, true, false, List, Option, Some, None, sym, subst, ◌∙◌}
use Rattle.std.specs.Prelude.{IsSomeAnd}
use Rattle.std.specs.List.{All}
use Rattle.std.specs.Option.{option_map_or}
use Rattle.std.proofs.lemmas.Option.{slice_get_within, get_or_from_slice_get}
use Rattle.nr_base.specs.Grammar.{IsBytes}
use Rattle.nr_prog.specs.declared.pool.PoolEntry.{PoolEntry}
use Rattle.nr_prog.specs.declared.pool.PoolEntry.TheVariants.{Utf8, Class}
use Rattle.nr_prog.specs.Pool.{IsText, entry_at, text_in, text_at}
use Rattle.nr_prog.specs.Members.{spells, names_class_of, is_class_named}
use Rattle.nr_prog.specs.Legal.{IsClassText}
use Rattle.nr_prog.specs.LegalTests.{is_class_text}
use Rattle.nr_prog.specs.Form.{Spells, IsClassOf, NamesClass}
use Rattle.nr_prog.proofs.Members.{spells_at}
use Rattle.nr_prog.proofs.Distinct.{has_text}
use Rattle.nr_prog.proofs.LegalLaws.{class_is, of_class}

-- ---- texts are bytes

entry_bytes : (e : PoolEntry) (t : List ℕ) → IsText e → text_in e ≡ Some t → IsBytes t
entry_bytes (Utf8 bytes) t h is = let same : bytes ≡ t = cc in subst IsBytes same h
entry_bytes e t h is = absurd cc

found_bytes : (o : Option PoolEntry) (t : List ℕ) → ((e : PoolEntry) → o ≡ Some e → IsText e) → option_map_or text_in o None ≡ Some t → IsBytes t
found_bytes (Some e) t h is = entry_bytes e t (h e (λ i. Some e)) is
found_bytes None t h is = absurd cc

entry_text : (pool : List PoolEntry) (index : ℕ) (e : PoolEntry) → All IsText pool → entry_at pool index ≡ Some e → IsText e
entry_text pool zero e all is = absurd cc
entry_text pool (suc i) e all is = subst IsText (get_or_from_slice_get pool i e e is) (all i e (slice_get_within pool i e is))

pub text_bytes : (pool : List PoolEntry) (index : ℕ) (t : List ℕ) → All IsText pool → text_at pool index ≡ Some t → IsBytes t
unfolding text_at
text_bytes pool index t all is = found_bytes (entry_at pool index) t (λ e here. entry_text pool index e all here) is

-- ---- what an index names

some_of : {A : Type 0} (P : A → Type 0) (o : Option A) → IsSomeAnd o P → (x : A) × (o ≡ Some x) × P x
some_of P (Some x) h = (x, (λ i. Some x), h)
some_of P None h = absurd h

pub text_of : (P : List ℕ → Type 0) (pool : List PoolEntry) (index : ℕ) → Spells P pool index → (t : List ℕ) × (text_at pool index ≡ Some t) × P t
text_of P pool index h = some_of P (text_at pool index) h

pub spells_is : (test : List ℕ → Bool) (P : List ℕ → Type 0) (pool : List PoolEntry) (index : ℕ) → All IsText pool
    → ((t : List ℕ) → IsBytes t → test t ≡ true → P t) → spells test pool index ≡ true → Spells P pool index
spells_is test P pool index all h e =
    let t = has_text test pool index e in
    subst (λ o. IsSomeAnd o P) (sym t.1) (h t.0 (text_bytes pool index t.0 all t.1) (sym (spells_at test pool index t.0 t.1) ∙ e))

pub of_spells : (test : List ℕ → Bool) (P : List ℕ → Type 0) (pool : List PoolEntry) (index : ℕ)
    → ((t : List ℕ) → P t → test t ≡ true) → Spells P pool index → spells test pool index ≡ true
of_spells test P pool index h s = let t = text_of P pool index s in spells_at test pool index t.0 t.1 ∙ h t.0 t.2

-- ---- classes that are named

entry_is : (pool : List PoolEntry) (e : PoolEntry) → All IsText pool → names_class_of pool e ≡ true → IsClassOf pool e
entry_is pool (Class name) all e = spells_is is_class_text IsClassText pool name all class_is e
entry_is pool x all e = absurd cc

of_entry : (pool : List PoolEntry) (e : PoolEntry) → IsClassOf pool e → names_class_of pool e ≡ true
of_entry pool (Class name) h = of_spells is_class_text IsClassText pool name of_class h
of_entry pool e h = absurd h

option_is : (pool : List PoolEntry) (o : Option PoolEntry) → All IsText pool → option_map_or (names_class_of pool) o false ≡ true → IsSomeAnd o (IsClassOf pool)
option_is pool (Some x) all e = entry_is pool x all e
option_is pool None all e = absurd cc

of_option : (pool : List PoolEntry) (o : Option PoolEntry) → IsSomeAnd o (IsClassOf pool) → option_map_or (names_class_of pool) o false ≡ true
of_option pool (Some x) h = of_entry pool x h
of_option pool None h = absurd h

pub named_is : (pool : List PoolEntry) (index : ℕ) → All IsText pool → is_class_named pool index ≡ true → NamesClass pool index
unfolding is_class_named
named_is pool index all e = option_is pool (entry_at pool index) all e

pub of_named : (pool : List PoolEntry) (index : ℕ) → NamesClass pool index → is_class_named pool index ≡ true
unfolding is_class_named
of_named pool index h = of_option pool (entry_at pool index) h
