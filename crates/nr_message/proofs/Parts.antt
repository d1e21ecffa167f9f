-- The laws of numbers, names and streams.
use Rattle.std.proofs.Common.{◌≡◌, ℕ, ltb, List, [], ◌++◌, length, take, Ok, refl, sym, ap, subst, ◌∙◌, arith}
use Rattle.std.proofs.lemmas.List.{append-nil, nil_from_length, length-drop}
use Rattle.nr_base.specs.Place.{Place, skip}
use Rattle.nr_base.specs.Reader.{with_fault}
use Rattle.nr_base.specs.Bytes.{run_at, short_at}
use Rattle.nr_base.specs.Grammar.{IsBytes, run, give, none, Then, pick}
use Rattle.nr_base.specs.Names.{is_name}
use Rattle.nr_base.proofs.Laws.{Reads, place, guard_ok, map_fault_ok, give_law, none_law, then_law, pick_law, from_law, with_fault_law}
use Rattle.nr_base.proofs.Numbers.{u8_law, u16_law, u32_law, u64_law, run_law}
use Rattle.nr_base.proofs.Lists.{picked, picks_first}
use Rattle.nr_base.proofs.NameLaws.{legal, is_name_only}
use Rattle.nr_message.specs.Faults.{of_short}
use Rattle.nr_message.specs.declared.fault.MessageFault.TheVariants as faults
use Rattle.nr_message.specs.Text.{u1, u2, u4, u8, name, stream}
use Rattle.nr_message.specs.Reading.{u1_at, u2_at, u4_at, u8_at, bytes_at, utf_at, name_at, stream_at}
use Rattle.nr_message.proofs.Lasts.{ReadsLast, Exhausts, back_fits, same_bytes_law}

pub one_law : Reads u1_at u1
one_law = with_fault_law of_short u8_law

pub two_law : Reads u2_at u2
two_law = with_fault_law of_short u16_law

pub four_law : Reads u4_at u4
four_law = with_fault_law of_short u32_law

pub eight_law : Reads u8_at u8
eight_law = with_fault_law of_short u64_law

pub bytes_law : (n : ℕ) → Reads (bytes_at n) (run n)
bytes_law n = with_fault_law of_short (run_law n)

-- ---- names

abbrev utf : List ℕ → List ℕ → Type 0
utf = Then u2 (λ len. run len)

utf_law : Reads utf_at utf
unfolding utf_at
utf_law = from_law (λ at. then_law two_law (λ len. with_fault_law (λ s. faults.Short at) (run_law len)))

abbrev tested : List ℕ → List ℕ → Type 0
tested = Then utf (λ bytes. pick (is_name bytes) (give bytes) none)

tested_law : Reads name_at tested
unfolding name_at
tested_law = from_law (λ at. then_law utf_law (λ bytes. pick_law (is_name bytes) (give_law bytes) (none_law (faults.NameBad at))))

utf_fits : (bytes text : List ℕ) → IsBytes text → utf bytes text → IsBytes bytes
utf_fits bytes text fits t =
    subst (λ (z : List ℕ). IsBytes z) t.second.1 (back_fits t.front t.back (subst (λ (z : List ℕ). IsBytes z) t.whole fits))

to_name : (x t : List ℕ) → IsBytes t → tested x t → name x t
to_name x t fits g =
    picked (is_name g.value) _ _ x g.back g.second
    (λ yes last.
    let whole : t ≡ g.front = g.whole ∙ ap (λ (z : List ℕ). g.front ++ z) last.1 ∙ append-nil g.front in
    let spelled : utf g.value t = subst (λ (z : List ℕ). utf g.value z) (sym whole) g.first in
    rw last.0 (legal g.value (utf_fits g.value t fits spelled) yes, spelled))
    (λ no last. absurd last)

of_name : (x t : List ℕ) → name x t → tested x t
of_name x t g = record { value = x; front = t; back = []; first = g.1; second = picks_first (is_name x) _ _ x [] (is_name_only x g.0) (refl, refl); whole = sym (append-nil t) }

pub name_law : Reads name_at name
name_law = same_bytes_law tested_law to_name of_name

-- ---- streams

pub stream_exhausts : Exhausts stream_at
unfolding stream_at with_fault
stream_exhausts = record {
  nothing = λ p q x e.
      let n = length p.rest in
      let g = guard_ok (ltb (length p.rest) n) (short_at p) (take n p.rest, skip n p) (x, q) (map_fault_ok of_short (run_at n p) (x, q) e) in
      nil_from_length q.rest (omega (arith, length-drop n p.rest, ap (λ (a : List ℕ × Place). length a.1.rest) g.1));
}

pub stream_last : ReadsLast stream_at stream
unfolding stream_at
stream_last = record {
  found = λ p q x fits e.
      let a = (bytes_law (length p.rest)).found p q x fits e in
      record { text = a.text; spelled = a.spelled.1; total = a.total; rest = a.rest; fits = a.fits };
  only = λ x text total g.
      ap (λ (z : List ℕ). bytes_at (length text) (place total z)) (sym (append-nil text)) ∙ (bytes_law (length text)).only text text [] total (refl, refl) ∙ ap (λ (z : List ℕ). Ok (z, place total [])) g;
}
