-- What stands behind the name of a description is read just as it is spelled.
use Rattle.std.proofs.Common.{◌≡◌, ℕ, ◌<◌, ◌^◌, Bool, true, false, ◌||◌, List, [], ◌∷◌, ◌++◌, length, refl, sym, ap, subst, ◌∙◌, append-nil, if◌then◌else◌, ◌==◌, arith}
use Rattle.std.specs.Int.{w16, w32, w64, to_be_bytes}
use Rattle.std.specs.List.{AllByRecursion}
use Rattle.std.specs.Option.{option_map_or}
use Rattle.std.proofs.lemmas.Bool.{eqb-true, eq-eqb}
use Rattle.nr_base.specs.Grammar.{Then, pick, give, none, number}
use Rattle.nr_base.specs.Reader.{choose}
use Rattle.nr_base.proofs.Laws.{Reads, then_law, pick_law, give_law, none_law, from_law, same_law}
use Rattle.nr_linked.specs.declared.program.kind.Base.{Base}
use Rattle.nr_linked.specs.declared.program.kind.Base.TheVariants as bases
use Rattle.nr_linked.specs.declared.program.kind.Kind.{Kind}
use Rattle.nr_linked.specs.declared.program.tables.ProgramTables.{ProgramTables}
use Rattle.nr_linked.specs.declared.program.tables.SlotInfo.{SlotInfo}
use Rattle.nr_linked.specs.Kinds.{class_in, is_array, is_reference}
use Rattle.nr_serform.specs.ClassNumbers.{class_number, utf}
use Rattle.nr_serform.specs.Descriptions.{IsNumberOf, described_fields, field_table, field_text, fields_table, fields_text, letter, own_table, string_table, string_text}
use Rattle.nr_serform.specs.Entries.{Class, Text}
use Rattle.nr_serform.specs.Handles.{Table, handle, has}
use Rattle.nr_serread.specs.declared.fault.StreamFault.TheVariants as faults
use Rattle.nr_serread.specs.Items.{Read}
use Rattle.nr_serread.specs.Describing.{string_at, field_at, fields_at, uid_at, own_at}
use Rattle.nr_serlaws.proofs.Items.{Is, pure_is, is_is, same_is, due_one, due_two, due_four, due_utf, eight_law}

pub letter_small : (k : Kind) → letter k < 256
letter_small k = by (is_array k)
  where
    of_base : (b : Base) → letter (record { dims = 0; base = b }) < 256
    of_base bases.Bool = omega arith
    of_base bases.Byte = omega arith
    of_base bases.Char = omega arith
    of_base bases.Short = omega arith
    of_base bases.Int = omega arith
    of_base bases.Long = omega arith
    of_base (bases.Object c) = omega arith

    by : (b : Bool) → (if b then 0x5B else letter (record { dims = 0; base = k.base })) < 256
    by true = omega arith
    by false = of_base k.base

-- a reader by a test, where each side has one value with one text
pub choose_is : {A : Type 0} (b : Bool) {r s : Read A} {v v' : A} {w w' : List ℕ} → Reads r (Is v w) → Reads s (Is v' w')
    → Reads (choose b r s) (Is (if b then v else v') (if b then w else w'))
unfolding choose
choose_is true rs ss = record { found = rs.found; only = rs.only }
choose_is false rs ss = record { found = ss.found; only = ss.only }

string_law : (desc : List ℕ) (table : Table) → length desc < 2 ^ 16 → Reads (string_at desc table) (Is (string_table table desc) (string_text table desc))
unfolding string_at
string_law desc table short = choose_is (has table (Text desc))
    (is_is _ true (0x71 ∷ []) (due_one 0x71 (omega arith)) (same_is refl (append-nil _) (is_is _ true (to_be_bytes w32 (handle table (Text desc))) (due_four (handle table (Text desc))) (pure_is table))))
    (is_is _ true (0x74 ∷ []) (due_one 0x74 (omega arith)) (same_is refl (append-nil _) (is_is _ true (utf desc) (due_utf desc short) (pure_is (table ++ Text desc ∷ [])))))

-- the lengths of the texts of a slot fit 16 bits
pub record IsShort (s : SlotInfo) : Type 0 where
  pub name : length s.name < 2 ^ 16
  pub desc : length s.desc < 2 ^ 16

field_law : (s : SlotInfo) (table : Table) → IsShort s → Reads (field_at s table) (Is (field_table table s) (field_text table s))
unfolding field_at
field_law s table short =
    is_is _ true (letter s.kind ∷ []) (due_one (letter s.kind) (letter_small s.kind))
    (is_is _ true (utf s.name) (due_utf s.name short.name)
    (choose_is (is_reference s.kind) (string_law s.desc table short.desc) (pure_is table)))

fields_law : (ss : List SlotInfo) (table : Table) → AllByRecursion IsShort ss → Reads (fields_at ss table) (Is (fields_table table ss) (fields_text table ss))
unfolding fields_at
fields_law [] table short = pure_is table
fields_law (s ∷ ss) table short = is_is _ (field_table table s) (field_text table s) (field_law s table short.0) (fields_law ss (field_table table s) short.1)

-- ---- the number

-- whether a number is that of the kind, by whether this is an array's and only 0 is its
abbrev pub NumberBy : ProgramTables → Kind → ℕ → Bool → Bool → Type 0
NumberBy P kind n true true = n ≡ 0
NumberBy P kind n true false = n < 2 ^ 64
NumberBy P kind n false canonical = n ≡ option_map_or (class_number P) (class_in kind.base) 0

pub record IsUid (P : ProgramTables) (kind : Kind) (n : ℕ) (text : List ℕ) : Type 0 where
  pub is_number : IsNumberOf P false kind n
  pub small : n < 2 ^ 64
  pub text_is : text ≡ to_be_bytes w64 n

abbrev uid_test : Bool → ProgramTables → Kind → ℕ → Bool
uid_test b P kind n = b || (n == option_map_or (class_number P) (class_in kind.base) 0)

number_to : (P : ProgramTables) (kind : Kind) (n : ℕ) → n < 2 ^ 64 → uid_test (is_array kind) P kind n ≡ true → IsNumberOf P false kind n
number_to P kind n small e = by (is_array kind) e
  where
    by : (b : Bool) → uid_test b P kind n ≡ true → NumberBy P kind n b false
    by true e = small
    by false e = eqb-true _ _ e

number_back : (P : ProgramTables) (kind : Kind) (n : ℕ) → IsNumberOf P false kind n → uid_test (is_array kind) P kind n ≡ true
number_back P kind n h = by (is_array kind) h
  where
    by : (b : Bool) → NumberBy P kind n b false → uid_test b P kind n ≡ true
    by true h = refl
    by false h = eq-eqb _ _ h

abbrev UidText : ProgramTables → Kind → ℕ → List ℕ → Type 0
UidText P kind = Then (number w64) (λ n. pick (uid_test (is_array kind) P kind n) (give n) none)

uid_law : (P : ProgramTables) (kind : Kind) → Reads (uid_at P kind) (IsUid P kind)
unfolding uid_at
uid_law P kind = from_law (λ at. same_law (then_law eight_law (λ n. pick_law (uid_test (is_array kind) P kind n) (give_law n) (none_law (faults.Uid at)))) to back)
  where
    picked : (b : Bool) (n m : ℕ) (t : List ℕ) → pick b (give n) none m t → (b ≡ true) × (m ≡ n) × (t ≡ [])
    picked true n m t g = (refl, g.0, g.1)
    picked false n m t g = absurd g

    to : (n : ℕ) (t : List ℕ) → UidText P kind n t → IsUid P kind n t
    to n t g =
        let k = picked (uid_test (is_array kind) P kind g.value) g.value n g.back g.second in
        let small : g.value < 2 ^ 64 = omega (arith, g.first.0) in
        record {
          is_number = subst (λ m. IsNumberOf P false kind m) (sym k.1) (number_to P kind g.value small k.0);
          small = omega (arith, small, k.1);
          text_is = g.whole ∙ (λ i. g.first.1 i ++ k.2 i) ∙ append-nil (to_be_bytes w64 g.value) ∙ ap (to_be_bytes w64) (sym k.1);
        }

    back : (n : ℕ) (t : List ℕ) → IsUid P kind n t → UidText P kind n t
    back n t h = record {
      value = n;
      front = to_be_bytes w64 n;
      back = [];
      first = (omega (arith, h.small), refl);
      second = subst (λ b. pick b (give n) none n []) (sym (number_back P kind n h.is_number)) (refl, refl);
      whole = h.text_is ∙ sym (append-nil (to_be_bytes w64 n));
    }

-- ---- the number, the flags and the fields

-- what stands behind the number
abbrev pub behind_text : ProgramTables → Table → Kind → List ℕ
behind_text P table kind = 2 ∷ (to_be_bytes w16 (length (described_fields P kind)) ++ (fields_text (table ++ Class kind ∷ []) (described_fields P kind) ++ 0x78 ∷ []))

pub record IsOwn (P : ProgramTables) (kind : Kind) (table after : Table) (text : List ℕ) : Type 0 where
  pub number : ℕ
  pub is_number : IsNumberOf P false kind number
  pub small : number < 2 ^ 64
  pub after_is : after ≡ own_table P table kind
  pub text_is : text ≡ to_be_bytes w64 number ++ behind_text P table kind

abbrev OwnText : ProgramTables → Kind → Table → Table → List ℕ → Type 0
OwnText P kind table = Then (IsUid P kind) (λ n. Is (own_table P table kind) (behind_text P table kind))

pub own_law : (P : ProgramTables) (kind : Kind) (table : Table) → AllByRecursion IsShort (described_fields P kind) → Reads (own_at P kind table) (IsOwn P kind table)
unfolding own_at
own_law P kind table short =
    same_law (then_law (uid_law P kind) (λ n.
    is_is _ true (2 ∷ []) (due_one 2 (omega arith))
    (is_is _ true (to_be_bytes w16 (length (described_fields P kind))) (due_two (length (described_fields P kind)))
    (is_is _ (own_table P table kind) (fields_text (table ++ Class kind ∷ []) (described_fields P kind)) (fields_law (described_fields P kind) (table ++ Class kind ∷ []) short)
    (is_is _ true (0x78 ∷ []) (due_one 0x78 (omega arith)) (pure_is (own_table P table kind))))))) to back
  where
    to : (after : Table) (t : List ℕ) → OwnText P kind table after t → IsOwn P kind table after t
    to after t g = record {
      number = g.value;
      is_number = g.first.is_number;
      small = g.first.small;
      after_is = g.second.value;
      text_is = g.whole ∙ (λ i. g.first.text_is i ++ g.second.whole i);
    }

    back : (after : Table) (t : List ℕ) → IsOwn P kind table after t → OwnText P kind table after t
    back after t h = record {
      value = h.number;
      front = to_be_bytes w64 h.number;
      back = behind_text P table kind;
      first = record { is_number = h.is_number; small = h.small; text_is = refl };
      second = record { value = h.after_is; whole = refl };
      whole = h.text_is;
    }
