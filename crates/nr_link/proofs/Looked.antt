-- What is kept beside the tables, and what it tells.
use Rattle.std.proofs.Common.{◌≡◌, ℕ, zero, suc, ◌+◌, ◌<◌, ◌≤◌, Bool, true, false, cond, ◌&&◌, ◌||◌, List, [], ◌∷◌, ◌++◌, length, get_or, map, find, refl, sym, ap, subst, ◌∙◌, arith}
use Rattle.std.specs.Prelude.{Option, Some, None, IfSome, is_some, slice_get, ◌==◌}
use Rattle.std.specs.List.{list_any, position, position_or_len, range_with_len}
use Rattle.std.specs.Option.{option_and_then, option_map, option_map_or}
use Rattle.std.specs.Str.{bytes_eq}
use Rattle.std.proofs.lemmas.Bool.{eq-eqb}
use Rattle.std.proofs.lemmas.Option.{same_Some, slice_get-get_or, slice_get_past}
use Rattle.std.proofs.lemmas.List.Quantifiers.{position-Some}
use Rattle.nr_prog.specs.declared.member.Field.{Field}
use Rattle.nr_prog.specs.declared.parts.ClassParts.{ClassParts}
use Rattle.nr_prog.specs.declared.pool.PoolEntry.{PoolEntry}
use Rattle.nr_prog.specs.Members.{is_in, is_spelled, spells}
use Rattle.nr_prog.specs.declared.pool.PoolEntry.TheVariants.{NameAndType}
use Rattle.nr_prog.specs.BodyNames.{desc_text_at, desc_text_in}
use Rattle.nr_prog.specs.Pool.{entry_at, text_at}
use Rattle.nr_links.specs.Named.{name_text_at, name_text_in}
use Rattle.nr_names.specs.declared.table.Key.{Key}
use Rattle.nr_names.specs.Numbers.{number_in, numbers_of}
use Rattle.nr_names.specs.Tables.{has_key, key_by, key_of}
use Rattle.nr_names.proofs.Keyed.{alike, by_numbers, has_number, key, same_number, swapped, tells}
use Rattle.nr_names.proofs.Listing.{position_first}
use Rattle.nr_names.proofs.Numbering.{same_place}
use Rattle.nr_linkrules.proofs.NameLaws.{turned}
use Rattle.nr_linked.specs.declared.program.tables.ClassInfo.{ClassInfo}
use Rattle.nr_linked.specs.declared.program.tables.MethodInfo.{MethodInfo}
use Rattle.nr_linked.specs.declared.program.tables.ProgramTables.{ProgramTables}
use Rattle.nr_linked.specs.declared.program.tables.SlotInfo.{SlotInfo}
use Rattle.nr_linked.specs.Linked.{declared}
use Rattle.nr_linked.specs.Programs.{class_at, method_at, methods_of}
use Rattle.nr_linked.specs.Selection.{is_called}
use Rattle.nr_linked.specs.Slots.{slots_of}
use Rattle.nr_links.specs.Resolution.{declares_field, has_field, is_called_at, is_slot_of}
use Rattle.nr_linked.specs.declared.program.kind.Base.TheVariants as bases
use Rattle.nr_linkrules.specs.Outline.{some_text}
use Rattle.nr_link.specs.declared.lookup.Kept.{Kept}
use Rattle.nr_link.specs.declared.lookup.Sought.{Sought}
use Rattle.nr_link.specs.Coded.{read_class}
use Rattle.nr_link.specs.Lookups.{AreKept, IsKept, IsSought, field_key, field_keys, method_key, slot_key}

-- ---- what is kept of a class

pub kept_at : (P : ProgramTables) (known : List (List ℕ)) (all : List Kept) (c : ℕ) (k : Kept) → AreKept P known all → c < length all → k ≡ get_or all c k → IsKept P known c k
kept_at P known all c k are lt is =
    subst (IsKept P known c) (sym is) (subst (λ (o : Option Kept). IfSome o (IsKept P known c)) (slice_get-get_or all c k lt) (are.each c))

pub kept_past : (P : ProgramTables) (known : List (List ℕ)) (all : List Kept) (c : ℕ) → AreKept P known all → length all ≤ c → length P.classes ≤ c
kept_past P known all c are le = omega (arith, le, are.len)

no_class : (P : ProgramTables) (c : ℕ) → length P.classes ≤ c → class_at P c ≡ None
no_class P c le = slice_get_past P.classes c le

pub no_methods : (P : ProgramTables) (test : ℕ → Bool) (c : ℕ) → length P.classes ≤ c → None ≡ find test (methods_of P c)
no_methods P test c le = sym (ap (λ (o : Option ClassInfo). find test (option_map_or (λ (e : ClassInfo). range_with_len e.first_method e.methods) o [])) (no_class P c le))

pub no_slots : (P : ProgramTables) (test : SlotInfo → Bool) (c : ℕ) → length P.classes ≤ c → None ≡ position test (slots_of P c)
no_slots P test c le = sym (ap (λ (o : Option ClassInfo). position test (option_map_or (λ (e : ClassInfo). e.slots) o [])) (no_class P c le))

pub no_read : (P : ProgramTables) (c : ℕ) → length P.classes ≤ c → read_class P c ≡ None
no_read P c le = ap (λ (o : Option ClassInfo). option_and_then (λ (e : ClassInfo). e.read) o) (no_class P c le)

-- ---- keys tell members

find_same : (p q : ℕ → Bool) (xs : List ℕ) → ((x : ℕ) → p x ≡ q x) → find p xs ≡ find q xs
find_same p q [] same = refl
find_same p q (x ∷ xs) same = λ i. cond (same x i) (Some x) (find_same p q xs same i)

module _ (known : List (List ℕ)) (name desc : List ℕ) (n d : ℕ) (named : number_in known name ≡ Some n) (described : number_in known desc ≡ Some d) where
  here : (c : ℕ) (rest : Bool) → (c == c && rest) ≡ rest
  here c rest = ap (λ b. b && rest) (eq-eqb c c refl)

  -- methods
  pub tells_method : (P : ProgramTables) (c m : ℕ) → has_key (key known name desc n d named described c) (method_key P known c m) ≡ is_called_at P name desc m
  tells_method P c m = of_entry (method_at P m)
    where
      of_entry : (o : Option MethodInfo) → has_key (key known name desc n d named described c) (option_and_then (λ (i : MethodInfo). key_of known c i.name i.desc) o) ≡ option_map_or (is_called name desc) o false
      of_entry None = refl
      of_entry (Some i) = tells known name desc n d named described c c i.name i.desc ∙ here c (bytes_eq i.name name && bytes_eq i.desc desc)

  pub tells_declared : (P : ProgramTables) (c : ℕ) → find (λ m. has_key (key known name desc n d named described c) (method_key P known c m)) (methods_of P c) ≡ declared P c name desc
  tells_declared P c = find_same (λ m. has_key (key known name desc n d named described c) (method_key P known c m)) (is_called_at P name desc) (methods_of P c) (tells_method P c)

  -- slots
  tells_slot : (holder : ℕ) (s : SlotInfo) → is_slot_of holder name desc s ≡ has_key (key known name desc n d named described holder) (slot_key known s)
  tells_slot holder s = ap (λ b. b && (bytes_eq s.name name && bytes_eq s.desc desc)) (swapped s.declared_in holder) ∙ sym (tells known name desc n d named described holder s.declared_in s.name s.desc)

  pub tells_place : (holder : ℕ) (slots : List SlotInfo) → position (has_key (key known name desc n d named described holder)) (map (slot_key known) slots) ≡ position (is_slot_of holder name desc) slots
  tells_place holder slots =
      sym (same_place (slot_key known) (is_slot_of holder name desc) (has_key (key known name desc n d named described holder)) (tells_slot holder) slots)

  -- fields
  bytes_turned : (x y : List ℕ) → bytes_eq x y ≡ bytes_eq y x
  bytes_turned = turned

  tells_text : (pool : List PoolEntry) (text : List ℕ) (number index : ℕ) → number_in known text ≡ Some number → has_number number (option_and_then (number_in known) (text_at pool index)) ≡ spells (bytes_eq text) pool index
  unfolding spells
  tells_text pool text number index e = of_text (text_at pool index)
    where
      of_text : (o : Option (List ℕ)) → has_number number (option_and_then (number_in known) o) ≡ option_map_or (bytes_eq text) o false
      of_text None = refl
      of_text (Some other) = same_number known text other number e ∙ bytes_turned other text

  tells_field : (pool : List PoolEntry) (c : ℕ) (f : Field) → has_key (key known name desc n d named described c) (field_key known c pool f) ≡ is_spelled pool name desc f.name f.desc
  unfolding is_spelled
  tells_field pool c f =
      by_numbers known name desc n d named described c c (option_and_then (number_in known) (text_at pool f.name)) (option_and_then (number_in known) (text_at pool f.desc))
      ∙ here c (has_number n (option_and_then (number_in known) (text_at pool f.name)) && has_number d (option_and_then (number_in known) (text_at pool f.desc)))
      ∙ (λ i. tells_text pool name n f.name named i && tells_text pool desc d f.desc described i)

  any_field : (pool : List PoolEntry) (c : ℕ) (fs : List Field) → list_any (has_key (key known name desc n d named described c)) (map (field_key known c pool) fs) ≡ list_any (λ f. is_spelled pool name desc f.name f.desc) fs
  any_field pool c [] = refl
  any_field pool c (f ∷ fs) = λ i. tells_field pool c f i || any_field pool c fs i

  pub tells_fields : (P : ProgramTables) (c : ℕ)
      → option_map_or (λ parts. list_any (has_key (key known name desc n d named described c)) (field_keys known c parts)) (read_class P c) false ≡ declares_field P name desc c
  unfolding is_in
  tells_fields P c = of_entry (class_at P c)
    where
      of_parts : (parts : ClassParts) → list_any (has_key (key known name desc n d named described c)) (field_keys known c parts) ≡ has_field name desc parts
      of_parts parts = any_field parts.pool c parts.fields

      of_read : (o : Option ClassParts) → option_map_or (λ parts. list_any (has_key (key known name desc n d named described c)) (field_keys known c parts)) o false ≡ option_map_or (has_field name desc) o false
      of_read None = refl
      of_read (Some parts) = of_parts parts

      of_entry : (o : Option ClassInfo) → option_map_or (λ parts. list_any (has_key (key known name desc n d named described c)) (field_keys known c parts)) (option_and_then (λ (e : ClassInfo). e.read) o) false
          ≡ option_map_or (λ (e : ClassInfo). option_map_or (has_field name desc) e.read false) o false
      of_entry None = refl
      of_entry (Some e) = of_read e.read

-- ---- what a table tells

some_place : {X : Type 0} (p : X → Bool) (xs : List X) → is_some (position p xs) ≡ list_any p xs
some_place p [] = refl
some_place p (x ∷ xs) = ap is_some (position_first p x xs) ∙ by_test (p x) (some_place p xs)
  where
    later : (o : Option ℕ) → is_some (option_map (λ i. suc i) o) ≡ is_some o
    later None = refl
    later (Some i) = refl

    by_test : (b : Bool) → is_some (position p xs) ≡ list_any p xs → is_some (cond b (Some 0) (option_map (λ i. suc i) (position p xs))) ≡ (b || list_any p xs)
    by_test true e = refl
    by_test false e = later (position p xs) ∙ e

pub any_listed : (P : ProgramTables) (known : List (List ℕ)) (c : ℕ) (k : Key) (found : Option ℕ) → found ≡ (position (has_key k) (option_map_or (field_keys known c) (read_class P c) []))
    → is_some found ≡ option_map_or (λ parts. list_any (has_key k) (field_keys known c parts)) (read_class P c) false
any_listed P known c k found e = ap is_some e ∙ of_read (read_class P c)
  where
    of_read : (o : Option ClassParts) → is_some (position (has_key k) (option_map_or (field_keys known c) o [])) ≡ option_map_or (λ parts. list_any (has_key k) (field_keys known c parts)) o false
    of_read None = refl
    of_read (Some parts) = some_place (has_key k) (field_keys known c parts)

-- ---- of a class that was read

pub numbers_here : (P : ProgramTables) (known : List (List ℕ)) (c : ℕ) (parts : ClassParts) (numbers : List (Option ℕ)) → Some parts ≡ read_class P c → numbers ≡ option_map_or (λ parts. numbers_of known parts.pool) (read_class P c) []
    → numbers ≡ numbers_of known parts.pool
numbers_here P known c parts numbers here e = e ∙ ap (λ (o : Option ClassParts). option_map_or (λ (parts : ClassParts). numbers_of known parts.pool) o []) (sym here)

-- so it stands in the table
pub read_within : (P : ProgramTables) (c : ℕ) (parts : ClassParts) → Some parts ≡ read_class P c → length P.classes ≤ c → ⊥
read_within P c parts here le = let none = no_read P c le in absurd cc

-- ---- a member that is looked for

module _ (P : ProgramTables) (known : List (List ℕ)) (s : Sought) (sought : IsSought known s) where
  abbrev Numbers : Type 0
  Numbers = Option (ℕ × ℕ)

  abbrev Told : Numbers → Type 0
  Told o = IfSome o (λ p. (number_in known s.name.now ≡ Some p.0) × (number_in known s.desc.now ≡ Some p.1))

  abbrev keyed : ℕ → Numbers → Option Key
  keyed c o = option_map (λ p. record { holder = c; name = p.0; desc = p.1 }) o

  pub declared_told : (c : ℕ) (k : Key) (found : Option ℕ) → Some k ≡ keyed c s.numbers → found ≡ find (λ m. has_key k (method_key P known c m)) (methods_of P c) → found ≡ declared P c s.name.now s.desc.now
  declared_told c k found e is = of_numbers s.numbers sought e
    where
      of_numbers : (o : Numbers) → Told o → Some k ≡ keyed c o → found ≡ declared P c s.name.now s.desc.now
      of_numbers None told e = absurd cc
      of_numbers (Some p) told e =
          is ∙ ap (λ k. find (λ m. has_key k (method_key P known c m)) (methods_of P c)) (same_Some k (record { holder = c; name = p.0; desc = p.1 }) e)
          ∙ tells_declared known s.name.now s.desc.now p.0 p.1 told.0 told.1 P c

  pub field_told : (c : ℕ) (k : Key) (found : Bool) → Some k ≡ keyed c s.numbers → found ≡ option_map_or (λ parts. list_any (has_key k) (field_keys known c parts)) (read_class P c) false
      → found ≡ declares_field P s.name.now s.desc.now c
  field_told c k found e is = of_numbers s.numbers sought e
    where
      of_numbers : (o : Numbers) → Told o → Some k ≡ keyed c o → found ≡ declares_field P s.name.now s.desc.now c
      of_numbers None told e = absurd cc
      of_numbers (Some p) told e =
          is ∙ ap (λ k. option_map_or (λ parts. list_any (has_key k) (field_keys known c parts)) (read_class P c) false) (same_Some k (record { holder = c; name = p.0; desc = p.1 }) e)
          ∙ tells_fields known s.name.now s.desc.now p.0 p.1 told.0 told.1 P c

  pub place_told : (holder : ℕ) (k : Key) (slots : List SlotInfo) (found : Option ℕ) → Some k ≡ keyed holder s.numbers → found ≡ position (has_key k) (map (slot_key known) slots)
      → found ≡ position (is_slot_of holder s.name.now s.desc.now) slots
  place_told holder k slots found e is = of_numbers s.numbers sought e
    where
      of_numbers : (o : Numbers) → Told o → Some k ≡ keyed holder o → found ≡ position (is_slot_of holder s.name.now s.desc.now) slots
      of_numbers None told e = absurd cc
      of_numbers (Some p) told e =
          is ∙ ap (λ k. position (has_key k) (map (slot_key known) slots)) (same_Some k (record { holder = holder; name = p.0; desc = p.1 }) e)
          ∙ tells_place known s.name.now s.desc.now p.0 p.1 told.0 told.1 holder slots

pub place_within : (holder : ℕ) (name desc : List ℕ) (slots : List SlotInfo) (found : Option ℕ) → found ≡ position (is_slot_of holder name desc) slots → IfSome found (λ i. i < length slots)
place_within holder name desc slots None e = tt
place_within holder name desc slots (Some i) e =
    (position-Some (is_slot_of holder name desc) slots i (record { declared_in = 0; name = []; desc = []; kind = record { dims = 0; base = bases.Bool } }) (sym e)).0

pub number_told : (known : List (List ℕ)) (pool : List PoolEntry) (index n : ℕ) → Some n ≡ option_and_then (number_in known) (text_at pool index) → number_in known (some_text (text_at pool index)) ≡ Some n
number_told known pool index n e = of_text (text_at pool index) e
  where
    of_text : (o : Option (List ℕ)) → Some n ≡ option_and_then (number_in known) o → number_in known (some_text o) ≡ Some n
    of_text None e = absurd cc
    of_text (Some text) e = sym e

-- the numbers of a member's name and of its descriptor
pub both_numbers : (known : List (List ℕ)) (pool : List PoolEntry) (member name desc m n : ℕ) → entry_at pool member ≡ Some (NameAndType name desc)
    → Some m ≡ option_and_then (number_in known) (text_at pool name) → Some n ≡ option_and_then (number_in known) (text_at pool desc)
    → (number_in known (some_text (name_text_at pool member)) ≡ Some m) × (number_in known (some_text (desc_text_at pool member)) ≡ Some n)
unfolding desc_text_at
both_numbers known pool member name desc m n e first second = (
  ap (λ (o : Option PoolEntry). number_in known (some_text (option_map_or (name_text_in pool) o None))) e ∙ number_told known pool name m first,
  ap (λ (o : Option PoolEntry). number_in known (some_text (option_map_or (desc_text_in pool) o None))) e ∙ number_told known pool desc n second,
)
