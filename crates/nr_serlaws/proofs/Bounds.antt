-- Handles are found again, and there are few for the bytes of a text.
use Rattle.std.proofs.Common.{◌≡◌, ℕ, suc, ◌+◌, ◌-◌, ◌*◌, ◌<◌, ◌≤◌, Bool, true, false, not, cond, ◌||◌, List, [], ◌∷◌, ◌++◌, length, Option, Some, None, refl, sym, ap, ◌∙◌, if◌then◌else◌, true≢false, length-append, arith}
use Rattle.std.specs.Prelude.{slice_get}
use Rattle.std.specs.Int.{w16, w64, to_be_bytes}
use Rattle.std.specs.List.{position_or_len}
use Rattle.std.proofs.lemmas.Bool.{eqb-true, le-ltb}
use Rattle.std.proofs.lemmas.Slice.Eq.{bytes_eq-Decides}
use Rattle.nr_linked.specs.declared.program.kind.Kind.{Kind}
use Rattle.nr_linked.specs.declared.program.tables.ProgramTables.{ProgramTables}
use Rattle.nr_linked.specs.declared.program.tables.SlotInfo.{SlotInfo}
use Rattle.nr_linked.specs.Kinds.{is_reference}
use Rattle.nr_serform.specs.ClassNumbers.{utf}
use Rattle.nr_serform.specs.Descriptions.{Describes, nothing, again, anew, described_fields, field_table, field_text, fields_table, fields_text, letter, own_table, own_text, stream_name, string_table, string_text}
use Rattle.nr_serform.specs.Entries.{Entry, Class, Text, Object, is_same_entry}
use Rattle.nr_serform.specs.Handles.{Table, entry_at, handle, handle_text, has}
use Rattle.nr_serlaws.proofs.Main.{below_length}
use Rattle.nr_serlaws.proofs.Tables.{same_kind_is}

same_entry_is : (a b : Entry) → is_same_entry a b ≡ true → a ≡ b
same_entry_is (Class k) (Class l) e = ap Class (same_kind_is k l e)
same_entry_is (Text s) (Text t) e = ap Text ((bytes_eq-Decides s t).0 e)
same_entry_is (Object i) (Object j) e = ap Object (eqb-true i j e)
same_entry_is a b e = absurd (true≢false (sym e))

found_place : (t : Table) (e : Entry) → has t e ≡ true → slice_get t (position_or_len (is_same_entry e) t) ≡ Some e
found_place [] e h = absurd (true≢false (sym h))
found_place (x ∷ t) e h = by (is_same_entry e x) refl h (found_place t e)
  where
    by : (b : Bool) → is_same_entry e x ≡ b → (b || has t e) ≡ true → (has t e ≡ true → slice_get t (position_or_len (is_same_entry e) t) ≡ Some e) → slice_get (x ∷ t) (cond (not b) (1 + position_or_len (is_same_entry e) t) 0) ≡ Some e
    by true s h rest = ap Some (sym (same_entry_is e x s))
    by false s h rest =
        let one : 1 + position_or_len (is_same_entry e) t ≡ suc (position_or_len (is_same_entry e) t) = omega arith in
        ap (slice_get (x ∷ t)) one ∙ rest h

pub record Refound (t : Table) (e : Entry) : Type 0 where
  pub at : entry_at t (handle t e) ≡ Some e
  pub place : handle t e < 0x7E0000 + length t

pub refound : (t : Table) (e : Entry) → has t e ≡ true → Refound t e
refound t e h =
    let p = found_place t e h in
    let l = below_length t (position_or_len (is_same_entry e) t) e p in
    let back : handle t e - 0x7E0000 ≡ position_or_len (is_same_entry e) t = omega arith in
    record {
      at = ap (λ b. if b then None else slice_get t (handle t e - 0x7E0000)) (le-ltb (handle t e) 0x7E0000 (omega arith)) ∙ ap (slice_get t) back ∙ p;
      place = omega (arith, l);
    }

-- ---- two bytes or more for each handle

utf_long : (t : List ℕ) → 2 ≤ length (utf t)
utf_long t = omega arith

string_bound : (t : Table) (d : List ℕ) → 2 * length (string_table t d) ≤ 2 * length t + length (string_text t d)
string_bound t d = by (has t (Text d))
  where
    by : (b : Bool) → 2 * length (if b then t else t ++ Text d ∷ []) ≤ 2 * length t + length (if b then handle_text t (Text d) else 0x74 ∷ utf d)
    by true = omega arith
    by false = let l = length-append t (Text d ∷ []) in let u = utf_long d in omega (arith, l, u)

field_bound : (t : Table) (s : SlotInfo) → 2 * length (field_table t s) ≤ 2 * length t + length (field_text t s)
field_bound t s = by (is_reference s.kind)
  where
    by : (b : Bool) → 2 * length (if b then string_table t s.desc else t) ≤ 2 * length t + length (letter s.kind ∷ (utf s.name ++ (if b then string_text t s.desc else [])))
    by true = let l = length-append (utf s.name) (string_text t s.desc) in let b = string_bound t s.desc in omega (arith, l, b)
    by false = omega arith

fields_bound : (ss : List SlotInfo) (t : Table) → 2 * length (fields_table t ss) ≤ 2 * length t + length (fields_text t ss)
fields_bound [] t = omega arith
fields_bound (s ∷ ss) t =
    let f = field_bound t s in
    let r = fields_bound ss (field_table t s) in
    let l = length-append (field_text t s) (fields_text (field_table t s) ss) in
    omega (arith, f, r, l)

-- with one byte to spare
pub own_bound : (P : ProgramTables) (t : Table) (kind : Kind) (n : ℕ) → 2 * length (own_table P t kind) + 1 ≤ 2 * length t + length (own_text P t kind n)
own_bound P t kind n =
    let fs = described_fields P kind in
    let u = t ++ Class kind ∷ [] in
    let a = utf (stream_name P kind) in
    let b = to_be_bytes w64 n in
    let c = 2 ∷ to_be_bytes w16 (length fs) in
    let d = fields_text u fs in
    let f = fields_bound fs u in
    let l = length-append t (Class kind ∷ []) in
    let x = length-append (a ++ b ++ c ++ d) (0x78 ∷ []) in
    let y = length-append (a ++ b ++ c) d in
    let z = length-append (a ++ b) c in
    let w = length-append a b in
    let v = utf_long (stream_name P kind) in
    omega (arith, f, l, x, y, z, w, v)

described_bound : (P : ProgramTables) (canonical : Bool) {o : Option Kind} {t after : Table} {text : List ℕ} → Describes P canonical o t text after → 2 * length after ≤ 2 * length t + length text
described_bound P canonical (nothing e) = let l = ap length e in omega (arith, l)
described_bound P canonical (again h e) = let l = ap length e in omega (arith, l)
described_bound P canonical (anew {kind = kind} {table = t} {up = up} number h n d e) =
    let l = ap length e in
    let m = length-append (own_text P t kind number) up in
    let o = own_bound P t kind number in
    let r = described_bound P canonical d in
    omega (arith, l, m, o, r)

pub class_bound : (P : ProgramTables) (canonical : Bool) {kind : Kind} {t after : Table} {text : List ℕ} → Describes P canonical (Some kind) t text after → 2 * length after + 1 ≤ 2 * length t + length text
class_bound P canonical {t = t} (again {kind = kind} h e) = let l = ap length e in omega (arith, l)
class_bound P canonical (anew {kind = kind} {table = t} {up = up} number h n d e) =
    let l = ap length e in
    let m = length-append (own_text P t kind number) up in
    let o = own_bound P t kind number in
    let r = described_bound P canonical d in
    omega (arith, l, m, o, r)
