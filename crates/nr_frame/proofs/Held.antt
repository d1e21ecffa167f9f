-- What a reader holds, by its buffer and where the unread bytes start.
use Rattle.std.proofs.Common.{◌≡◌, ◌≤◌, ◌+◌, ◌-◌, ◌++◌, List, ℕ, [], length, take, drop, Option, None, Some, refl, sym, ap, ◌∙◌, subst, arith, append_assoc, length-append}
use Rattle.std.specs.Prelude.{slice_index_or}
use Rattle.std.proofs.lemmas.List.{append-nil, take_rest, take_at, drop_at, take-append-drop, drop-drop, drop-append-le, length-take, length-drop}
use Rattle.std.proofs.lemmas.List.Elements.{All-nil, All-append}
use Rattle.nr_frame.specs.declared.kind.Side.{Side}
use Rattle.nr_frame.specs.declared.fault.FrameFault.{FrameFault}
use Rattle.nr_frame.specs.Headers.{frame_len, frame_of}
use Rattle.nr_frame.specs.Splits.{texts_of, IsFrame, Splits, SplitsAt, CutsOff}
use Rattle.nr_frame.specs.Reading.{Reading, IsHeld, IsFed}
use Rattle.nr_frame.proofs.Fronts.{first_of, code_range, frame_is}
use Rattle.nr_frame.proofs.Wholes.{texts_append, cut_behind, take_add}

-- the slice of the buffer from a place on
abbrev from_place : List ℕ → ℕ → List ℕ
from_place now start = take (length now - start) (drop start now)

from_is : (start : ℕ) (items now : List ℕ) → now ≡ items → from_place now start ≡ drop start items
from_is start items now e = take_rest now start ∙ ap (λ (xs : List ℕ). drop start xs) e

len_is : (start n : ℕ) (items now : List ℕ) → now ≡ items → Some n ≡ frame_len (from_place now start) → frame_len (drop start items) ≡ Some n
len_is start n items now e len = sym (len ∙ ap (λ (xs : List ℕ). frame_len xs) (from_is start items now e))

pub code_held : (side : Side) (start left n : ℕ) (items now : List ℕ) → now ≡ items → IsHeld side start left items
    → Some n ≡ frame_len (take (length now - start) (drop start now))
    → (1 ≤ slice_index_or (take (length now - start) (drop start now)) 4 0) × (slice_index_or (take (length now - start) (drop start now)) 4 0 ≤ 4)
code_held side start left n items now e held len =
    let l = len_is start n items now e len in
    rw (from_is start items now e) (code_range side (drop start items) n ((first_of side (drop start items) n held.splits l).good) l)

made_held : (side : Side) (start left : ℕ) (bytes : List ℕ) → start ≤ length bytes → (s : Splits side (drop start bytes)) → length s.rest ≡ left → IsHeld side start left bytes
made_held side start left bytes le s e = record {
  bound = omega (arith, ap length s.whole, length-append (texts_of s.texts) s.rest, length-drop start bytes);
  splits = s;
  rest_is = e;
}

pub advanced : (side : Side) (start left n r : ℕ) (items now after : List ℕ) → now ≡ items → IsHeld side start left items
    → Some n ≡ frame_len (take (length now - start) (drop start now)) → drop r after ≡ drop (start + n) items → r ≤ length after
    → IsHeld side r left after
advanced side start left n r items now after e held len rest le =
    let l = len_is start n items now e len in
    let f = first_of side (drop start items) n held.splits l in
    let same : drop r after ≡ drop n (drop start items) = rest ∙ sym (drop-drop n start items) in
    made_held side r left after le (record { texts = f.rest.texts; rest = f.rest.rest; whole = same ∙ f.rest.whole; each = f.rest.each; good = f.rest.good; partial = f.rest.partial }) (ap length f.left_is ∙ held.rest_is)

pub frame_given : (start n code : ℕ) (items now us body : List ℕ) → now ≡ items → drop start items ≡ us
    → Some n ≡ frame_len (take (length now - start) (drop start now))
    → code ≡ slice_index_or (take (length now - start) (drop start now)) 4 0
    → body ≡ take (n - 5) (drop 5 (take (length now - start) (drop start now)))
    → frame_of us ≡ Some (record { kind = code; body = body })
frame_given start n code items now us body e same len code_is body_is =
    let s : from_place now start ≡ us = from_is start items now e ∙ same in
    let c : code ≡ slice_index_or us 4 0 = code_is ∙ ap (λ (xs : List ℕ). slice_index_or xs 4 0) s in
    let b : body ≡ take (n - 5) (drop 5 us) = body_is ∙ ap (λ (xs : List ℕ). take (n - 5) (drop 5 xs)) s in
    rw (c, b) (frame_is us n (sym (len ∙ ap (λ (xs : List ℕ). frame_len xs) s)))

-- nothing is held
pub none_held : (side : Side) (items : List ℕ) → items ≡ [] → IsHeld side 0 0 items
none_held side items e = rw e (record {
  bound = omega arith;
  splits = record { texts = []; rest = []; whole = refl; each = All-nil (IsFrame side); good = refl; partial = refl };
  rest_is = refl;
})

-- ---- a piece more

-- what stands before the part of a frame
before : List ℕ → ℕ → List (List ℕ) → List ℕ
before items start texts = take start items ++ texts_of texts

-- a reader's bytes with a piece behind them
record IsMore (side : Side) (start left : ℕ) (items piece now : List ℕ) (end : ℕ) : Type 0 where
  held : IsHeld side start left items
  ext : now ≡ items ++ piece
  end_is : end ≡ length items - left

all_is : (side : Side) (start left end : ℕ) (items piece now : List ℕ) (m : IsMore side start left items piece now end)
    → now ≡ before items start m.held.splits.texts ++ (m.held.splits.rest ++ piece)
unfolding before
all_is side start left end items piece now m =
    let s = m.held.splits in
    let front : items ≡ (take start items ++ texts_of s.texts) ++ s.rest = sym (take-append-drop start items) ∙ ap (λ (xs : List ℕ). take start items ++ xs) s.whole ∙ sym (append_assoc (take start items) (texts_of s.texts) s.rest) in
    m.ext ∙ ap (λ (xs : List ℕ). xs ++ piece) front ∙ append_assoc (take start items ++ texts_of s.texts) s.rest piece

before_len : (side : Side) (start left end : ℕ) (items piece now : List ℕ) (m : IsMore side start left items piece now end)
    → length (before items start m.held.splits.texts) ≡ end
unfolding before
before_len side start left end items piece now m =
    let s = m.held.splits in
    omega (arith, m.end_is, m.held.rest_is, m.held.bound, ap length s.whole, length-append (texts_of s.texts) s.rest, length-drop start items, length-append (take start items) (texts_of s.texts), length-take start items)

tail_is : (side : Side) (start left end : ℕ) (items piece now : List ℕ) (m : IsMore side start left items piece now end)
    → from_place now end ≡ m.held.splits.rest ++ piece
tail_is side start left end items piece now m =
    take_rest now end ∙ ap (λ (xs : List ℕ). drop end xs) (all_is side start left end items piece now m)
    ∙ drop_at (before items start m.held.splits.texts) (m.held.splits.rest ++ piece) end (before_len side start left end items piece now m)

-- what is behind the frames that were given, by what was read before and what is read now
start_is : (side : Side) (start left end : ℕ) (items piece now : List ℕ) (m : IsMore side start left items piece now end)
    → drop start items ++ piece ≡ texts_of m.held.splits.texts ++ from_place now end
start_is side start left end items piece now m =
    let s = m.held.splits in
    ap (λ (xs : List ℕ). xs ++ piece) s.whole ∙ append_assoc (texts_of s.texts) s.rest piece ∙ ap (λ (xs : List ℕ). texts_of s.texts ++ xs) (sym (tail_is side start left end items piece now m))

unread_is : (side : Side) (start left end : ℕ) (items piece now : List ℕ) (m : IsMore side start left items piece now end)
    → drop start now ≡ drop start items ++ piece
unread_is side start left end items piece now m = ap (λ (xs : List ℕ). drop start xs) m.ext ∙ drop-append-le start items piece (omega (arith, m.held.bound))

more_splits : (side : Side) (start left end at : ℕ) (items piece now : List ℕ) (m : IsMore side start left items piece now end)
    → SplitsAt side (from_place now end) at → Splits side (drop start now)
more_splits side start left end at items piece now m z =
    let s = m.held.splits in
    let b : List ℕ = from_place now end in
    record {
      texts = s.texts ++ z.texts;
      rest = drop at (from_place now end);
      whole = unread_is side start left end items piece now m ∙ start_is side start left end items piece now m
          ∙ ap (λ (xs : List ℕ). texts_of s.texts ++ xs) (sym (take-append-drop at (from_place now end)) ∙ ap (λ (xs : List ℕ). xs ++ drop at (from_place now end)) z.front)
          ∙ sym (append_assoc (texts_of s.texts) (texts_of z.texts) (drop at (from_place now end)))
          ∙ ap (λ (xs : List ℕ). xs ++ drop at (from_place now end)) (sym (texts_append s.texts z.texts));
      each = All-append (IsFrame side) s.texts z.texts s.each z.each;
      good = z.good;
      partial = z.partial;
    }

pub more_held : (side : Side) (start left end at more : ℕ) (items piece now : List ℕ) → IsHeld side start left items → now ≡ items ++ piece → end ≡ length items - left
    → SplitsAt side (take (length now - end) (drop end now)) at → more ≡ length now - end - at → IsHeld side start more now
unfolding more_splits
more_held side start left end at more items piece now held ext e z is =
    let m : IsMore side start left items piece now end = record { held = held; ext = ext; end_is = e } in
    made_held side start more now (omega (arith, held.bound, ap length ext, length-append items piece)) (more_splits side start left end at items piece now m z)
    (omega (arith, is, length-drop at (from_place now end), ap length (take_rest now end), length-drop end now))

pub more_fed : (old : Reading) (side : Side) (start left end at : ℕ) (items piece now : List ℕ) (kept : Option FrameFault)
    → record { side = side; unread = drop start items; fault = kept } ≡ old → kept ≡ None → IsHeld side start left items → now ≡ items ++ piece → end ≡ length items - left
    → SplitsAt side (take (length now - end) (drop end now)) at → IsFed old piece (record { side = side; unread = drop start now; fault = kept })
more_fed old side start left end at items piece now kept view isnone held ext e z =
    let m : IsMore side start left items piece now end = record { held = held; ext = ext; end_is = e } in
    rw (← view) (record {
      same = refl;
      kept = λ f h. absurd (cc);
      taken = λ o h. unread_is side start left end items piece now m;
      splits = λ o h. more_splits side start left end at items piece now m z;
      cut = λ f o h. absurd (cc);
    })

-- ---- a broken header more

cut_is : (side : Side) (start left end at : ℕ) (items piece now new : List ℕ) (m : IsMore side start left items piece now end)
    → new ≡ take (end + at) now → drop start new ≡ texts_of m.held.splits.texts ++ take at (from_place now end)
unfolding before
cut_is side start left end at items piece now new m e =
    let s = m.held.splits in
    let x : List ℕ = take at (from_place now end) in
    let front : take end now ≡ take start items ++ texts_of s.texts
    = ap (λ (xs : List ℕ). take end xs) (all_is side start left end items piece now m) ∙ take_at (take start items ++ texts_of s.texts) (s.rest ++ piece) end (before_len side start left end items piece now m) in
    let all : new ≡ take start items ++ (texts_of s.texts ++ take at (from_place now end))
    = e ∙ take_add end at now ∙ ap (λ (xs : List ℕ). take end now ++ take at xs) (sym (take_rest now end)) ∙ ap (λ (xs : List ℕ). xs ++ take at (from_place now end)) front
    ∙ append_assoc (take start items) (texts_of s.texts) (take at (from_place now end)) in
    ap (λ (xs : List ℕ). drop start xs) all ∙ drop_at (take start items) (texts_of s.texts ++ take at (from_place now end)) start (omega (arith, length-take start items, m.held.bound))

cut_whole : (side : Side) (start left end at : ℕ) (items piece now new : List ℕ) (fault : FrameFault) (m : IsMore side start left items piece now end)
    → CutsOff side (take (length now - end) (drop end now)) (take at (take (length now - end) (drop end now))) fault
    → new ≡ take (end + at) now → CutsOff side (drop start items ++ piece) (drop start new) fault
cut_whole side start left end at items piece now new fault m cut e =
    let s = m.held.splits in
    rw (start_is side start left end items piece now m, cut_is side start left end at items piece now new m e)
    (cut_behind side s.texts (from_place now end) (take at (from_place now end)) fault s.each cut)

pub cut_held : (side : Side) (start left end at : ℕ) (items piece now new : List ℕ) (fault : FrameFault) → IsHeld side start left items → now ≡ items ++ piece → end ≡ length items - left
    → CutsOff side (take (length now - end) (drop end now)) (take at (take (length now - end) (drop end now))) fault
    → new ≡ take (end + at) now → IsHeld side start 0 new
cut_held side start left end at items piece now new fault held ext is cut e =
    let m : IsMore side start left items piece now end = record { held = held; ext = ext; end_is = is } in
    let whole = cut_whole side start left end at items piece now new fault m cut e in
    made_held side start 0 new (omega (arith, held.bound, is, ap length ext, length-append items piece, ap length e, length-take (end + at) now))
    (record { texts = whole.texts; rest = []; whole = whole.kept ∙ sym (append-nil (texts_of whole.texts)); each = whole.each; good = refl; partial = refl }) refl

pub cut_fed : (old : Reading) (side : Side) (start left end at : ℕ) (items piece now new : List ℕ) (kept : Option FrameFault) (fault : FrameFault)
    → record { side = side; unread = drop start items; fault = kept } ≡ old → kept ≡ None → IsHeld side start left items → now ≡ items ++ piece → end ≡ length items - left
    → CutsOff side (take (length now - end) (drop end now)) (take at (take (length now - end) (drop end now))) fault
    → new ≡ take (end + at) now
    → IsFed old piece (record { side = side; unread = drop start new; fault = Some fault })
cut_fed old side start left end at items piece now new kept fault view isnone held ext is cut e =
    let m : IsMore side start left items piece now end = record { held = held; ext = ext; end_is = is } in
    let cut' : CutsOff side (drop start items ++ piece) (drop start new) fault = cut_whole side start left end at items piece now new fault m cut e in
    rw (← view) (record {
      same = refl;
      kept = λ f h. absurd (cc);
      taken = λ o h. absurd (cc);
      splits = λ o h. absurd (cc);
      cut = λ f o h. let same : fault ≡ f = cc in subst (λ (g : FrameFault). CutsOff side (drop start items ++ piece) (drop start new) g) same cut';
    })
