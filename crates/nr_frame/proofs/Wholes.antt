-- Whole frames, one behind the other.
use Rattle.std.proofs.Common.{◌≡◌, ◌≤◌, ◌+◌, ◌-◌, ◌++◌, List, ℕ, [], ◌∷◌, length, take, drop, None, Some, refl, sym, ap, ◌∙◌, arith, append_assoc}
use Rattle.std.specs.Prelude.{All, IsTrue, nat_eq}
use Rattle.std.proofs.lemmas.List.{length-drop, take-append-drop, drop-take, take-take, take_rest, drop_all, append-nil}
use Rattle.std.proofs.lemmas.Grind.{common_steps, flat_map-append}
use Rattle.std.proofs.lemmas.Bool.Decides.{nat_tests}
use Rattle.std.proofs.lemmas.List.Elements.{All-append}
use Rattle.nr_frame.specs.declared.kind.Side.{Side}
use Rattle.nr_frame.specs.declared.fault.FrameFault.{FrameFault}
use Rattle.nr_frame.specs.Headers.{broken_at, frame_len}
use Rattle.nr_frame.specs.Splits.{texts_of, IsFrame, Splits, CutsOff}
use Rattle.nr_frame.proofs.Fronts.{frame_front}

-- the bytes are whole frames
pub record AreFrames (side : Side) (bytes : List ℕ) : Type 0 where
  pub texts : List (List ℕ)
  pub each : All (IsFrame side) texts
  pub whole : bytes ≡ texts_of texts

-- ---- lists of frames

pub texts_append : (xs ys : List (List ℕ)) → texts_of (xs ++ ys) ≡ texts_of xs ++ texts_of ys
texts_append xs ys = flat_map-append (λ (t : List ℕ). t) xs ys

-- more frames before a broken header
pub cut_behind : (side : Side) (texts : List (List ℕ)) (bytes front : List ℕ) (f : FrameFault) → All (IsFrame side) texts
    → CutsOff side bytes front f → CutsOff side (texts_of texts ++ bytes) (texts_of texts ++ front) f
cut_behind side texts bytes front f each cut = record {
  texts = texts ++ cut.texts;
  rest = cut.rest;
  whole = ap (λ (xs : List ℕ). texts_of texts ++ xs) cut.whole ∙ sym (append_assoc (texts_of texts) (texts_of cut.texts) cut.rest)
      ∙ ap (λ (xs : List ℕ). xs ++ cut.rest) (sym (texts_append texts cut.texts));
  each = All-append (IsFrame side) texts cut.texts each cut.each;
  broken = cut.broken;
  kept = ap (λ (xs : List ℕ). texts_of texts ++ xs) cut.kept ∙ sym (texts_append texts cut.texts);
}

-- ---- one more

pub take_add : (at n : ℕ) (bytes : List ℕ) → take (at + n) bytes ≡ take at bytes ++ take n (drop at bytes)
take_add at n bytes = sym (take-append-drop at (take (at + n) bytes)) ∙ rw (drop-take at n bytes) (grind (arith, common_steps, take-take))

pub one_more : (side : Side) (bytes : List ℕ) (at n : ℕ) → AreFrames side (take at bytes)
    → None ≡ broken_at side (take (length bytes - at) (drop at bytes)) → Some n ≡ frame_len (take (length bytes - at) (drop at bytes))
    → AreFrames side (take (at + n) bytes)
one_more side bytes at n frames good len =
    let same = take_rest bytes at in
    let frame : IsFrame side (take n (drop at bytes)) = frame_front side (drop at bytes) n (sym (rw same at good)) (sym (rw same at len)) in
    record {
      texts = frames.texts ++ take n (drop at bytes) ∷ [];
      each = All-append (IsFrame side) frames.texts (take n (drop at bytes) ∷ []) frames.each (grind (arith, common_steps, frame));
      whole = take_add at n bytes ∙ rw (flat_map-append (λ (t : List ℕ). t) frames.texts (take n (drop at bytes) ∷ [])) (grind (arith, common_steps, frames.whole));
    }

-- what stays before a broken header splits
pub cut_splits : (side : Side) (bytes front : List ℕ) (fault : FrameFault) → CutsOff side bytes front fault → Splits side front
cut_splits side bytes front fault cut = record {
  texts = cut.texts;
  rest = [];
  whole = cut.kept ∙ sym (append-nil (texts_of cut.texts));
  each = cut.each;
  good = refl;
  partial = refl;
}

pub empty_is : (n : ℕ) (xs us : List ℕ) → us ≡ drop n xs → n ≤ length xs
    → (IsTrue (nat_eq n (length xs)) → us ≡ []) × (us ≡ [] → IsTrue (nat_eq n (length xs)))
empty_is n xs us e le = (
  λ h. let all : length xs ≤ n = grind (arith, nat_tests, common_steps) in e ∙ drop_all n xs all,
  λ h. let z : length xs - n ≡ 0 = sym (length-drop n xs) ∙ ap length (sym e ∙ h) in grind (arith, nat_tests, common_steps),
)
