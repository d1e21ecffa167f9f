-- The law of the constant pool: what is read is spelled so, and what is spelled so is read.
use Rattle.std.proofs.Common.{◌≡◌, ℕ, zero, suc, ◌-◌, Bool, true, false, eqb, List, [], ◌∷◌, ◌++◌, length, refl, sym, ap, subst, ◌∙◌, append_assoc, arith}
use Rattle.std.specs.Int.{w32, w64, cast_signed}
use Rattle.std.proofs.lemmas.Bool.{eqb-true}
use Rattle.std.proofs.lemmas.List.{append-nil}
use Rattle.nr_base.specs.Grammar.{Grammar, run, give, none, Then, pick, Times}
use Rattle.nr_base.proofs.Laws.{Reads, give_law, none_law, then_law, pick_law, from_law, with_fault_law, times_law, same_law}
use Rattle.nr_base.proofs.Numbers.{u8_law, u16_law, u32_law, u64_law, run_law, byte_alone}
use Rattle.nr_base.proofs.Lists.{each_law, leaf, made, picked}
use Rattle.nr_prog.specs.declared.pool.PoolEntry.{PoolEntry}
use Rattle.nr_prog.specs.declared.pool.PoolEntry.TheVariants.{Utf8, Integer, Float, Long, Double, Class, Str, FieldRef, MethodRef, InterfaceMethodRef, NameAndType, Unused}
use Rattle.nr_prog.specs.Pool.{is_wide}
use Rattle.nr_classread.specs.declared.fault.ClassFault.TheVariants as faults
use Rattle.nr_classread.specs.Faults.{of_short}
use Rattle.nr_classread.specs.Numbers.{Read, u1, u2, u4, u8, u1_at, u2_at, u4_at, u8_at, bytes_at}
use Rattle.nr_classread.specs.PoolText.{utf8, pair, entry, entries, pool, list}
use Rattle.nr_classread.specs.PoolReading.{utf8_at, pair_at, body_at, entry_at, Entries, next_at, pool_at, list_at}

pub one_law : Reads u1_at u1
one_law = with_fault_law of_short u8_law

pub two_law : Reads u2_at u2
two_law = with_fault_law of_short u16_law

pub four_law : Reads u4_at u4
four_law = with_fault_law of_short u32_law

pub eight_law : Reads u8_at u8
eight_law = with_fault_law of_short u64_law

pub bytes_law : (n : ℕ) → Reads (bytes_at n) (run n)
bytes_law n = with_fault_law of_short (run_law n)

pub list_law : {A : Type 0} {r : Read A} {G : A → List ℕ → Type 0} → Reads r G → Reads (list_at r) (list G)
unfolding list_at
list_law rs = then_law two_law (λ count. each_law rs count)

utf8_law : Reads utf8_at utf8
unfolding utf8_at
utf8_law = from_law (λ at. then_law two_law (λ len. with_fault_law (λ s. faults.Short at) (run_law len)))

pair_law : Reads pair_at pair
unfolding pair_at
pair_law = then_law two_law (λ a. then_law two_law (λ b. give_law (a, b)))

-- ---- entries

abbrev integer : ℕ → PoolEntry
integer bits = Integer (cast_signed w32 bits)

abbrev long : ℕ → PoolEntry
long bits = Long (cast_signed w64 bits)

-- what stands behind a tag
body : ℕ → Grammar PoolEntry
body tag =
    pick (eqb tag 1) (Then utf8 (λ bytes. give (Utf8 bytes)))
    (pick (eqb tag 3) (Then u4 (λ bits. give (integer bits)))
    (pick (eqb tag 4) (Then u4 (λ bits. give (Float bits)))
    (pick (eqb tag 5) (Then u8 (λ bits. give (long bits)))
    (pick (eqb tag 6) (Then u8 (λ bits. give (Double bits)))
    (pick (eqb tag 7) (Then u2 (λ name. give (Class name)))
    (pick (eqb tag 8) (Then u2 (λ bytes. give (Str bytes)))
    (pick (eqb tag 9) (Then pair (λ p. give (FieldRef p.0 p.1)))
    (pick (eqb tag 10) (Then pair (λ p. give (MethodRef p.0 p.1)))
    (pick (eqb tag 11) (Then pair (λ p. give (InterfaceMethodRef p.0 p.1)))
    (pick (eqb tag 12) (Then pair (λ p. give (NameAndType p.0 p.1)))
    none))))))))))

body_law : (at tag : ℕ) → Reads (body_at at tag) (body tag)
unfolding body_at body
body_law at tag =
    pick_law (eqb tag 1) (then_law utf8_law (λ bytes. give_law (Utf8 bytes)))
    (pick_law (eqb tag 3) (then_law four_law (λ bits. give_law (integer bits)))
    (pick_law (eqb tag 4) (then_law four_law (λ bits. give_law (Float bits)))
    (pick_law (eqb tag 5) (then_law eight_law (λ bits. give_law (long bits)))
    (pick_law (eqb tag 6) (then_law eight_law (λ bits. give_law (Double bits)))
    (pick_law (eqb tag 7) (then_law two_law (λ name. give_law (Class name)))
    (pick_law (eqb tag 8) (then_law two_law (λ bytes. give_law (Str bytes)))
    (pick_law (eqb tag 9) (then_law pair_law (λ p. give_law (FieldRef p.0 p.1)))
    (pick_law (eqb tag 10) (then_law pair_law (λ p. give_law (MethodRef p.0 p.1)))
    (pick_law (eqb tag 11) (then_law pair_law (λ p. give_law (InterfaceMethodRef p.0 p.1)))
    (pick_law (eqb tag 12) (then_law pair_law (λ p. give_law (NameAndType p.0 p.1)))
    (none_law (faults.PoolTag at tag))))))))))))

-- the text of a tag and what stands behind it is the text of an entry
from_body : (tag : ℕ) (e : PoolEntry) (t : List ℕ) → body tag e t → entry e (tag ∷ t)
unfolding body
from_body tag e t g0 =
    picked (eqb tag 1) _ _ e t g0 (λ b g. let h = eqb-true tag 1 b in let l = leaf g in rw l.1 (t, rw h refl, l.2)) (λ b0 g1.
    picked (eqb tag 3) _ _ e t g1 (λ b g. let h = eqb-true tag 3 b in let l = leaf g in rw l.1 (l.0, refl, (t, rw h refl, l.2))) (λ b1 g2.
    picked (eqb tag 4) _ _ e t g2 (λ b g. let h = eqb-true tag 4 b in let l = leaf g in rw l.1 (t, rw h refl, l.2)) (λ b2 g3.
    picked (eqb tag 5) _ _ e t g3 (λ b g. let h = eqb-true tag 5 b in let l = leaf g in rw l.1 (l.0, refl, (t, rw h refl, l.2))) (λ b3 g4.
    picked (eqb tag 6) _ _ e t g4 (λ b g. let h = eqb-true tag 6 b in let l = leaf g in rw l.1 (t, rw h refl, l.2)) (λ b4 g5.
    picked (eqb tag 7) _ _ e t g5 (λ b g. let h = eqb-true tag 7 b in let l = leaf g in rw l.1 (t, rw h refl, l.2)) (λ b5 g6.
    picked (eqb tag 8) _ _ e t g6 (λ b g. let h = eqb-true tag 8 b in let l = leaf g in rw l.1 (t, rw h refl, l.2)) (λ b6 g7.
    picked (eqb tag 9) _ _ e t g7 (λ b g. let h = eqb-true tag 9 b in let l = leaf g in rw l.1 (t, rw h refl, l.2)) (λ b7 g8.
    picked (eqb tag 10) _ _ e t g8 (λ b g. let h = eqb-true tag 10 b in let l = leaf g in rw l.1 (t, rw h refl, l.2)) (λ b8 g9.
    picked (eqb tag 11) _ _ e t g9 (λ b g. let h = eqb-true tag 11 b in let l = leaf g in rw l.1 (t, rw h refl, l.2)) (λ b9 g10.
    picked (eqb tag 12) _ _ e t g10 (λ b g. let h = eqb-true tag 12 b in let l = leaf g in rw l.1 (t, rw h refl, l.2)) (λ b10 g11.
    absurd g11)))))))))))

to_body : (e : PoolEntry) (text : List ℕ) → entry e text → Then u1 body e text
unfolding body
to_body (Utf8 x) text g = record { value = 1; front = 1 ∷ []; back = g.0; first = (omega arith, refl); second = made x g.0 g.2; whole = g.1 }
to_body (Integer z) text g = record { value = 3; front = 3 ∷ []; back = g.2.0; first = (omega arith, refl); second = rw g.1 (made g.0 g.2.0 g.2.2); whole = g.2.1 }
to_body (Float x) text g = record { value = 4; front = 4 ∷ []; back = g.0; first = (omega arith, refl); second = made x g.0 g.2; whole = g.1 }
to_body (Long z) text g = record { value = 5; front = 5 ∷ []; back = g.2.0; first = (omega arith, refl); second = rw g.1 (made g.0 g.2.0 g.2.2); whole = g.2.1 }
to_body (Double x) text g = record { value = 6; front = 6 ∷ []; back = g.0; first = (omega arith, refl); second = made x g.0 g.2; whole = g.1 }
to_body (Class x) text g = record { value = 7; front = 7 ∷ []; back = g.0; first = (omega arith, refl); second = made x g.0 g.2; whole = g.1 }
to_body (Str x) text g = record { value = 8; front = 8 ∷ []; back = g.0; first = (omega arith, refl); second = made x g.0 g.2; whole = g.1 }
to_body (FieldRef a b) text g = record { value = 9; front = 9 ∷ []; back = g.0; first = (omega arith, refl); second = made (a, b) g.0 g.2; whole = g.1 }
to_body (MethodRef a b) text g = record { value = 10; front = 10 ∷ []; back = g.0; first = (omega arith, refl); second = made (a, b) g.0 g.2; whole = g.1 }
to_body (InterfaceMethodRef a b) text g = record { value = 11; front = 11 ∷ []; back = g.0; first = (omega arith, refl); second = made (a, b) g.0 g.2; whole = g.1 }
to_body (NameAndType a b) text g = record { value = 12; front = 12 ∷ []; back = g.0; first = (omega arith, refl); second = made (a, b) g.0 g.2; whole = g.1 }
to_body Unused text g = absurd g

entry_law : Reads entry_at entry
unfolding entry_at
entry_law = from_law (λ at. same_law (then_law one_law (λ tag. body_law at tag))
    (λ e t g. subst (λ z. entry e z) (sym (g.whole ∙ ap (λ z. z ++ g.back) (g.first.1 ∙ byte_alone g.value g.first.0))) (from_body g.value e g.back g.second))
    to_body)

-- ---- the entries one behind the other

next : Entries → Grammar Entries
next s = pick s.1 (give (s.0 ++ Unused ∷ [], false)) (Then entry (λ e. give (s.0 ++ e ∷ [], is_wide e)))

next_law : (s : Entries) → Reads (next_at s) (next s)
unfolding next_at next
next_law s = pick_law s.1 (give_law (s.0 ++ Unused ∷ [], false)) (then_law entry_law (λ e. give_law (s.0 ++ e ∷ [], is_wide e)))

-- what so many entries add to those before
record AddsEntries (k : ℕ) (xs : List PoolEntry) (b : Bool) (ys : List PoolEntry) (text : List ℕ) : Type 0 where
  items : List PoolEntry
  count : length items ≡ k
  joined : ys ≡ xs ++ items
  each : entries b items text

adds_entries : (k : ℕ) (xs : List PoolEntry) (b : Bool) (s : Entries) (text : List ℕ) → Times next k (xs, b) s text → AddsEntries k xs b s.0 text
unfolding next
adds_entries zero xs true s text t = record { items = []; count = refl; joined = ap (λ (z : Entries). z.0) t.0 ∙ sym (append-nil xs); each = t.1 }
adds_entries zero xs false s text t = record { items = []; count = refl; joined = ap (λ (z : Entries). z.0) t.0 ∙ sym (append-nil xs); each = t.1 }
adds_entries (suc k) xs true s text t =
    let more = adds_entries k (xs ++ Unused ∷ []) false s t.back (subst (λ (z : Entries). Times next k z s t.back) t.first.0 t.second) in
    record {
      items = Unused ∷ more.items;
      count = ap suc more.count;
      joined = more.joined ∙ append_assoc xs (Unused ∷ []) more.items;
      each = (refl, subst (λ z. entries false more.items z) (sym (t.whole ∙ ap (λ z. z ++ t.back) t.first.1)) more.each);
    }
adds_entries (suc k) xs false s text t =
    let one = leaf t.first in
    let more = adds_entries k (xs ++ one.0 ∷ []) (is_wide one.0) s t.back (subst (λ (z : Entries). Times next k z s t.back) one.1 t.second) in
    record {
      items = one.0 ∷ more.items;
      count = ap suc more.count;
      joined = more.joined ∙ append_assoc xs (one.0 ∷ []) more.items;
      each = (t.front, t.back, one.2, more.each, t.whole);
    }

added_entries : (xs items : List PoolEntry) (b : Bool) (text : List ℕ) → entries b items text → (c : Bool) × Times next (length items) (xs, b) (xs ++ items, c) text
unfolding next
added_entries xs [] true text e = (true, (ap (λ z. (z, true)) (append-nil xs), e))
added_entries xs [] false text e = (false, (ap (λ z. (z, false)) (append-nil xs), e))
added_entries xs (x ∷ items) true text e =
    let more = added_entries (xs ++ Unused ∷ []) items false text e.1 in
    let moved : Times next (length items) (xs ++ Unused ∷ [], false) (xs ++ x ∷ items, more.0) text = subst (λ z. Times next (length items) (xs ++ Unused ∷ [], false) (z, more.0) text) (append_assoc xs (Unused ∷ []) items ∙ ap (λ z. xs ++ z ∷ items) (sym e.0)) more.1 in
    (more.0, record { value = (xs ++ Unused ∷ [], false); front = []; back = text; first = (refl, refl); second = moved; whole = refl })
added_entries xs (x ∷ items) false text e =
    let more = added_entries (xs ++ x ∷ []) items (is_wide x) e.1 e.3 in
    (more.0, record { value = (xs ++ x ∷ [], is_wide x); front = e.0; back = e.1; first = made x e.0 e.2; second = subst (λ z. Times next (length items) (xs ++ x ∷ [], is_wide x) (z, more.0) e.1) (append_assoc xs (x ∷ []) items) more.1; whole = e.4 })

pub pool_law : Reads pool_at pool
unfolding pool_at
pool_law = same_law (then_law two_law (λ n. then_law (times_law next_at next next_law (n - 1) ([], false)) (λ s. give_law s.0)))
    (λ es t g.
    let l = leaf g.second in
    let a = adds_entries (g.value - 1) [] false l.0 g.back l.2 in
    let same : es ≡ a.items = l.1 ∙ a.joined in
    record { value = g.value; front = g.front; back = g.back; first = g.first; second = (ap length same ∙ a.count, subst (λ z. entries false z g.back) (sym same) a.each); whole = g.whole })
    (λ es t g.
    let a = added_entries [] es false g.back g.second.1 in
    record { value = g.value; front = g.front; back = g.back; first = g.first; second = made (es, a.0) g.back (subst (λ j. Times next j ([], false) (es, a.0) g.back) g.second.0 a.1); whole = g.whole })
