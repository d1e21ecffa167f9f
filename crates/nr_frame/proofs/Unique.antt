-- Bytes split into frames in one way only.
use Rattle.std.proofs.Common.{◌≡◌, ◌++◌, List, ℕ, [], ◌∷◌, length, take, None, Some, refl, sym, ap, ◌∙◌, append_assoc}
use Rattle.std.specs.Prelude.{All}
use Rattle.std.proofs.lemmas.List.{append_cancel_left, take_at}
use Rattle.std.proofs.lemmas.List.Elements.{All-head, All-tail}
use Rattle.nr_frame.specs.declared.kind.Side.{Side}
use Rattle.nr_frame.specs.declared.fault.FrameFault.{FrameFault}
use Rattle.nr_frame.specs.Headers.{broken_at, frame_len}
use Rattle.nr_frame.specs.Splits.{texts_of, IsFrame}
use Rattle.nr_frame.proofs.Fronts.{frame_len_front, broken_front}

-- no frame that the side reads is in front
pub record Stops (side : Side) (rest : List ℕ) : Type 0 where
  pub never : (n : ℕ) → broken_at side rest ≡ None → frame_len rest ≡ Some n → ⊥

pub stops_partial : (side : Side) (rest : List ℕ) → frame_len rest ≡ None → Stops side rest
stops_partial side rest e = record { never = λ n good len. cc }

pub stops_broken : (side : Side) (rest : List ℕ) (fault : FrameFault) → broken_at side rest ≡ Some fault → Stops side rest
stops_broken side rest fault e = record { never = λ n good len. cc }

-- a frame in front of such bytes can't be
no_front : (side : Side) (t more rest : List ℕ) → IsFrame side t → Stops side rest → rest ≡ t ++ more → ⊥
no_front side t more rest frame stops e =
    stops.never (length t)
    (ap (λ (xs : List ℕ). broken_at side xs) e ∙ broken_front side t more (length t) frame.whole ∙ frame.good)
    (ap (λ (xs : List ℕ). frame_len xs) e ∙ frame_len_front t more (length t) frame.whole)

same_len : (t u r s : List ℕ) → frame_len t ≡ Some (length t) → frame_len u ≡ Some (length u) → t ++ r ≡ u ++ s → length t ≡ length u
same_len t u r s whole whole' e =
    let a = frame_len_front t r (length t) whole in
    let b = frame_len_front u s (length u) whole' in
    let c : Some (length t) ≡ Some (length u) = sym a ∙ ap (λ (xs : List ℕ). frame_len xs) e ∙ b in
    cc

same_front : (t u r s : List ℕ) → length t ≡ length u → t ++ r ≡ u ++ s → t ≡ u
same_front t u r s len e =
    sym (take_at t r (length t) refl) ∙ ap (λ (xs : List ℕ). take (length t) xs) e ∙ take_at u s (length t) (sym len)

pub record AreSame (texts others : List (List ℕ)) (rest tail : List ℕ) : Type 0 where
  pub texts_are : texts ≡ others
  pub rest_is : rest ≡ tail

one_same : (t u : List ℕ) (ts us : List (List ℕ)) (r s : List ℕ) → t ≡ u → AreSame ts us r s → AreSame (t ∷ ts) (u ∷ us) r s
one_same t u ts us r s e same = let e' = same.texts_are in record { texts_are = cc; rest_is = same.rest_is }

pub unique : (side : Side) (ts us : List (List ℕ)) (r s : List ℕ) → All (IsFrame side) ts → All (IsFrame side) us
    → Stops side r → Stops side s → texts_of ts ++ r ≡ texts_of us ++ s → AreSame ts us r s
unique side [] [] r s all all' stop stop' e = record { texts_are = refl; rest_is = e }
unique side [] (u ∷ us) r s all all' stop stop' e =
    absurd (no_front side u (texts_of us ++ s) r (All-head (IsFrame side) u us all') stop (e ∙ append_assoc u (texts_of us) s))
unique side (t ∷ ts) [] r s all all' stop stop' e =
    absurd (no_front side t (texts_of ts ++ r) s (All-head (IsFrame side) t ts all) stop' (sym e ∙ append_assoc t (texts_of ts) r))
unique side (t ∷ ts) (u ∷ us) r s all all' stop stop' e =
    let f = All-head (IsFrame side) t ts all in
    let g = All-head (IsFrame side) u us all' in
    let e' : t ++ (texts_of ts ++ r) ≡ u ++ (texts_of us ++ s) = sym (append_assoc t (texts_of ts) r) ∙ e ∙ append_assoc u (texts_of us) s in
    let same : t ≡ u = same_front t u (texts_of ts ++ r) (texts_of us ++ s) (same_len t u (texts_of ts ++ r) (texts_of us ++ s) f.whole g.whole e') e' in
    let rest : texts_of ts ++ r ≡ texts_of us ++ s = append_cancel_left t (texts_of ts ++ r) (texts_of us ++ s) (e' ∙ ap (λ (xs : List ℕ). xs ++ (texts_of us ++ s)) (sym same)) in
    one_same t u ts us r s same
    (unique side ts us r s (All-tail (IsFrame side) t ts all) (All-tail (IsFrame side) u us all') stop stop' rest)
