-- Names of classes.
use Rattle.std.proofs.Common.{◌≡◌, ℕ, ◌+◌, cond, Bool, true, false, not, List, [], ◌∷◌, map, refl, sym, ap, ◌∙◌}
use Rattle.std.specs.Prelude.{Option, Some, None, IsTrue, IsSomeAnd, ◌↔◌, nat_lt}
use Rattle.std.specs.Borrow.{Bor}
use Rattle.std.specs.List.{list_any, position, position_or_len}
use Rattle.std.proofs.lemmas.List.{length-map}
use Rattle.std.proofs.lemmas.Slice.Eq.{bytes_eq-Decides}
use Rattle.nr_linked.specs.declared.program.tables.ClassInfo.{ClassInfo}
use Rattle.nr_linked.specs.declared.program.tables.ProgramTables.{ProgramTables}
use Rattle.nr_linked.specs.Programs.{class_named}
use Rattle.std.specs.Str.{bytes_eq}
use Rattle.nr_base.specs.ModifiedUtf8.{IsModifiedUtf8}
use Rattle.nr_prog.specs.declared.parts.ClassParts.{ClassParts}
use Rattle.nr_prog.specs.declared.pool.PoolEntry.{PoolEntry}
use Rattle.nr_prog.specs.declared.pool.PoolEntry.TheVariants.{Class}
use Rattle.nr_prog.specs.BodyNames.{class_text_at, class_text_in}
use Rattle.nr_prog.specs.Form.{IsClassOf, IsFormed, NamesClass}
use Rattle.nr_prog.specs.Legal.{IsClassText}
use Rattle.nr_prog.specs.Pool.{entry_at, text_at}
use Rattle.nr_linkrules.specs.Outline.{number_in, own_name, some_text}

-- an index that names a class with a legal name names it by this text
pub named : (pool : List PoolEntry) (index : ℕ) → NamesClass pool index → (text : List ℕ) × (class_text_at pool index ≡ Some text) × IsClassText text
unfolding class_text_at
named pool index h = of_entry (entry_at pool index) h
  where
    of_text : (t : Option (List ℕ)) → IsSomeAnd t IsClassText → (text : List ℕ) × (t ≡ Some text) × IsClassText text
    of_text None h = absurd h
    of_text (Some text) h = (text, refl, h)

    of_one : (e : PoolEntry) → IsClassOf pool e → (text : List ℕ) × (class_text_in pool e ≡ Some text) × IsClassText text
    of_one (Class name) h = of_text (text_at pool name) h
    of_one e h = absurd h

    of_entry : (o : Option PoolEntry) → IsSomeAnd o (IsClassOf pool) → (text : List ℕ) × (Rattle.std.specs.Option.option_map_or (class_text_in pool) o None ≡ Some text) × IsClassText text
    of_entry None h = absurd h
    of_entry (Some e) h = of_one e h

pub own_is_name : (c : ClassParts) → IsFormed c → IsModifiedUtf8 (own_name c)
own_is_name c formed =
    let n = named c.pool c.this_class formed.this in
    rw n.1 n.2.0

-- ---- sets

abbrev Key : Type 0
Key = Bor (List ℕ)

-- whether a set has a name is told by its texts
pub any_text : (name : Key) (keys : List Key) → list_any (λ (k : Key). bytes_eq name.now k.now) keys ≡ list_any (bytes_eq name.now) (map (λ (k : Key). k.now) keys)
any_text name [] = refl
any_text name (k ∷ keys) = λ i. Rattle.std.specs.Prelude.◌||◌ (bytes_eq name.now k.now) (any_text name keys i)

pub is_name_at : (pool : List PoolEntry) (index : ℕ) → NamesClass pool index → IsModifiedUtf8 (some_text (class_text_at pool index))
is_name_at pool index h = let n = named pool index h in rw n.1 n.2.0

-- ---- numbers of names

pub turned : (a b : List ℕ) → bytes_eq a b ≡ bytes_eq b a
turned a b = by_cases (bytes_eq a b) (bytes_eq b a) (bytes_eq-Decides a b) (bytes_eq-Decides b a)
  where
    by_cases : (p q : Bool) → (IsTrue p ↔ (a ≡ b)) → (IsTrue q ↔ (b ≡ a)) → p ≡ q
    by_cases true true f g = refl
    by_cases false false f g = refl
    by_cases true false f g = sym (g.1 (sym (f.0 refl)))
    by_cases false true f g = f.1 (sym (g.0 refl))

pub same_place : {X Y : Type 0} (f : X → Y) (p : X → Bool) (q : Y → Bool) → ((x : X) → p x ≡ q (f x)) → (xs : List X) → position p xs ≡ position q (map f xs)
same_place f p q same xs = λ i. cond (nat_lt (places xs i) (sym (length-map xs f) i)) (Some (places xs i)) None
  where
    places : (xs : List _) → position_or_len p xs ≡ position_or_len q (map f xs)
    places [] = refl
    places (x ∷ xs) = λ i. cond (not (same x i)) (1 + places xs i) 0

pub place_text : (name : Key) (keys : List Key) → position (λ (k : Key). bytes_eq name.now k.now) keys ≡ number_in (map (λ (k : Key). k.now) keys) name.now
place_text name keys = same_place (λ (k : Key). k.now) (λ (k : Key). bytes_eq name.now k.now) (λ n. bytes_eq n name.now) (λ k. turned name.now k.now) keys

-- ---- classes that are known

pub known_by_texts : (names : List (List ℕ)) (P : ProgramTables) (name : List ℕ) → names ≡ map (λ (e : ClassInfo). e.name) P.classes → number_in names name ≡ class_named P name
known_by_texts names P name e =
    ap (λ names. number_in names name) e
    ∙ sym (same_place (λ (e : ClassInfo). e.name) (λ (e : ClassInfo). bytes_eq e.name name) (λ n. bytes_eq n name) (λ e. refl) P.classes)
