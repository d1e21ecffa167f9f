-- What a reader has given and holds, after any events.
use Rattle.std.proofs.Common.{◌≡◌, ◌++◌, List, ℕ, [], ◌∷◌, length, drop, Option, None, Some, refl, sym, ap, ◌∙◌, subst, append_assoc}
use Rattle.std.specs.Prelude.{All}
use Rattle.std.proofs.lemmas.List.{append-nil, take-append-drop}
use Rattle.std.proofs.lemmas.List.Elements.{All-append, All-nil, All-push}
use Rattle.nr_frame.specs.declared.kind.Side.{Side}
use Rattle.nr_frame.specs.declared.fault.FrameFault.{FrameFault}
use Rattle.nr_frame.specs.Headers.{broken_at}
use Rattle.nr_frame.specs.Splits.{texts_of, IsFrame, Splits, CutsOff}
use Rattle.nr_frame.specs.Reading.{Reading, start_of, IsFed, IsGiven}
use Rattle.nr_frame.specs.Runs.{Event, fed_of, given_of, Leads, CutsAgree}
use Rattle.nr_frame.specs.Runs.Event.{Fed, Given}
use Rattle.nr_frame.proofs.Fronts.{frame_front, first_of}
use Rattle.nr_frame.proofs.Wholes.{texts_append, cut_behind, cut_splits}
use Rattle.nr_frame.proofs.Unique.{Stops, stops_partial, stops_broken, unique}

-- a reader to which `fed` was fed, and which has given the frames `texts`
pub record Past (side : Side) (fed : List ℕ) (texts : List (List ℕ)) (r : Reading) : Type 0 where
  pub side_is : r.side ≡ side
  pub each : All (IsFrame side) texts
  pub splits : Splits side r.unread
  pub open_is : r.fault ≡ None → fed ≡ texts_of texts ++ r.unread
  pub cut : (f : FrameFault) → r.fault ≡ Some f → CutsOff side fed (texts_of texts ++ r.unread) f

past_start : (side : Side) → Past side [] [] (start_of side)
past_start side = record {
  side_is = refl;
  each = All-nil (IsFrame side);
  splits = record { texts = []; rest = []; whole = refl; each = All-nil (IsFrame side); good = refl; partial = refl };
  open_is = λ h. refl;
  cut = λ f h. absurd (cc);
}

broken_more : (side : Side) (xs ys : List ℕ) (f : FrameFault) → broken_at side xs ≡ Some f → broken_at side (xs ++ ys) ≡ Some f
broken_more side [] ys f e = absurd (cc)
broken_more side (a ∷ []) ys f e = absurd (cc)
broken_more side (a ∷ b ∷ []) ys f e = absurd (cc)
broken_more side (a ∷ b ∷ c ∷ []) ys f e = absurd (cc)
broken_more side (a ∷ b ∷ c ∷ d ∷ []) ys f e = absurd (cc)
broken_more side (a ∷ b ∷ c ∷ d ∷ k ∷ rest) ys f e = e

-- more bytes behind a broken header
cut_more : (side : Side) (fed piece front : List ℕ) (f : FrameFault) → CutsOff side fed front f → CutsOff side (fed ++ piece) front f
cut_more side fed piece front f cut = record {
  texts = cut.texts;
  rest = cut.rest ++ piece;
  whole = ap (λ (xs : List ℕ). xs ++ piece) cut.whole ∙ append_assoc (texts_of cut.texts) cut.rest piece;
  each = cut.each;
  broken = broken_more side cut.rest piece f cut.broken;
  kept = cut.kept;
}

past_fed_by : (side : Side) (fed piece : List ℕ) (texts : List (List ℕ)) (r s : Reading) (before after : Option FrameFault)
    → r.fault ≡ before → s.fault ≡ after → Past side fed texts r → IsFed r piece s → Past side (fed ++ piece) texts s
past_fed_by side fed piece texts r s (Some f) after was is past step =
    let cut : CutsOff side (fed ++ piece) (texts_of texts ++ r.unread) f = cut_more side fed piece (texts_of texts ++ r.unread) f (past.cut f was) in
    let now : Past side (fed ++ piece) texts r = record {
      side_is = past.side_is;
      each = past.each;
      splits = past.splits;
      open_is = λ h. absurd (cc);
      cut = λ g h. let same : f ≡ g = cc in subst (λ (x : FrameFault). CutsOff side (fed ++ piece) (texts_of texts ++ r.unread) x) same cut;
    } in
    subst (λ (x : Reading). Past side (fed ++ piece) texts x) (sym (step.kept f was)) now
past_fed_by side fed piece texts r s None None was is past step = record {
  side_is = step.same ∙ past.side_is;
  each = past.each;
  splits = subst (λ (x : Side). Splits x s.unread) past.side_is (step.splits was is);
  open_is = λ h. ap (λ (xs : List ℕ). xs ++ piece) (past.open_is was) ∙ append_assoc (texts_of texts) r.unread piece
      ∙ ap (λ (xs : List ℕ). texts_of texts ++ xs) (sym (step.taken was is));
  cut = λ f h. absurd (cc);
}
past_fed_by side fed piece texts r s None (Some f) was is past step =
    let here : CutsOff side (r.unread ++ piece) s.unread f = subst (λ (x : Side). CutsOff x (r.unread ++ piece) s.unread f) past.side_is (step.cut f was is) in
    let all : texts_of texts ++ (r.unread ++ piece) ≡ fed ++ piece
    = sym (append_assoc (texts_of texts) r.unread piece) ∙ ap (λ (xs : List ℕ). xs ++ piece) (sym (past.open_is was)) in
    let cut : CutsOff side (fed ++ piece) (texts_of texts ++ s.unread) f
    = subst (λ (xs : List ℕ). CutsOff side xs (texts_of texts ++ s.unread) f) all (cut_behind side texts (r.unread ++ piece) s.unread f past.each here) in
    record {
      side_is = step.same ∙ past.side_is;
      each = past.each;
      splits = cut_splits side (r.unread ++ piece) s.unread f here;
      open_is = λ h. absurd (cc);
      cut = λ g h. let same : f ≡ g = cc in subst (λ (x : FrameFault). CutsOff side (fed ++ piece) (texts_of texts ++ s.unread) x) same cut;
    }

past_fed : (side : Side) (fed piece : List ℕ) (texts : List (List ℕ)) (r s : Reading) → Past side fed texts r → IsFed r piece s
    → Past side (fed ++ piece) texts s
past_fed side fed piece texts r s past step = past_fed_by side fed piece texts r s r.fault s.fault refl refl past step

past_given : (side : Side) (fed t : List ℕ) (texts : List (List ℕ)) (r s : Reading) → Past side fed texts r → IsGiven r t s
    → Past side fed (texts ++ t ∷ []) s
past_given side fed t texts r s past step =
    let first = first_of side r.unread (length t) past.splits step.first in
    let frame : IsFrame side t = subst (λ (xs : List ℕ). IsFrame side xs) (sym step.text_is) (frame_front side r.unread (length t) first.good step.first) in
    let front : r.unread ≡ t ++ drop (length t) r.unread
    = sym (take-append-drop (length t) r.unread) ∙ ap (λ (xs : List ℕ). xs ++ drop (length t) r.unread) (sym step.text_is) in
    let all : texts_of texts ++ r.unread ≡ texts_of (texts ++ t ∷ []) ++ drop (length t) r.unread
    = ap (λ (xs : List ℕ). texts_of texts ++ xs) front ∙ sym (append_assoc (texts_of texts) t (drop (length t) r.unread))
    ∙ ap (λ (xs : List ℕ). xs ++ drop (length t) r.unread) (ap (λ (xs : List ℕ). texts_of texts ++ xs) (sym (append-nil t)) ∙ sym (texts_append texts (t ∷ []))) in
    let now : Past side fed (texts ++ t ∷ []) (record r { unread = drop (length t) r.unread }) = record {
      side_is = past.side_is;
      each = All-push (IsFrame side) texts t past.each frame;
      splits = first.rest;
      open_is = λ h. past.open_is h ∙ all;
      cut = λ f h. subst (λ (xs : List ℕ). CutsOff side fed xs f) all (past.cut f h);
    } in
    subst (λ (x : Reading). Past side fed (texts ++ t ∷ []) x) (sym step.rest) now

past_run : (side : Side) (events : List Event) (fed : List ℕ) (texts : List (List ℕ)) (r s : Reading) → Past side fed texts r → Leads r events s
    → Past side (fed ++ fed_of events) (texts ++ given_of events) s
past_run side [] fed texts r s past steps =
    subst (λ (x : Reading). Past side (fed ++ []) (texts ++ []) x) (sym steps)
    (subst (λ (xs : List ℕ). Past side xs (texts ++ []) r) (sym (append-nil fed)) (subst (λ (ts : List (List ℕ)). Past side fed ts r) (sym (append-nil texts)) past))
past_run side (Fed piece ∷ events) fed texts r s past steps =
    subst (λ (xs : List ℕ). Past side xs (texts ++ given_of events) s) (append_assoc fed piece (fed_of events))
    (past_run side events (fed ++ piece) texts steps.0 s (past_fed side fed piece texts r steps.0 past steps.1) steps.2)
past_run side (Given t ∷ events) fed texts r s past steps =
    subst (λ (ts : List (List ℕ)). Past side (fed ++ fed_of events) ts s) (append_assoc texts (t ∷ []) (given_of events))
    (past_run side events fed (texts ++ t ∷ []) steps.0 s (past_given side fed t texts r steps.0 past steps.1) steps.2)

-- what stays of the bytes behind the last whole frame
abbrev pub left_of : Option FrameFault → List ℕ → List ℕ
left_of None rest = rest
left_of (Some f) rest = []

-- the one way in which bytes are read
pub record IsRead (side : Side) (fed bytes : List ℕ) (fault : Option FrameFault) : Type 0 where
  pub texts : List (List ℕ)
  pub rest : List ℕ
  pub each : All (IsFrame side) texts
  pub whole : fed ≡ texts_of texts ++ rest
  pub stops : Stops side rest
  pub fault_is : broken_at side rest ≡ fault
  pub bytes_are : bytes ≡ texts_of texts ++ left_of fault rest

read_by : (side : Side) (fed : List ℕ) (texts : List (List ℕ)) (r : Reading) (fault : Option FrameFault) → r.fault ≡ fault → Past side fed texts r
    → IsRead side fed (texts_of texts ++ r.unread) fault
read_by side fed texts r None is past =
    let all : texts_of texts ++ r.unread ≡ texts_of (texts ++ past.splits.texts) ++ past.splits.rest
    = ap (λ (xs : List ℕ). texts_of texts ++ xs) past.splits.whole ∙ sym (append_assoc (texts_of texts) (texts_of past.splits.texts) past.splits.rest)
    ∙ ap (λ (xs : List ℕ). xs ++ past.splits.rest) (sym (texts_append texts past.splits.texts)) in
    record {
      texts = texts ++ past.splits.texts;
      rest = past.splits.rest;
      each = All-append (IsFrame side) texts past.splits.texts past.each past.splits.each;
      whole = past.open_is is ∙ all;
      stops = stops_partial side past.splits.rest past.splits.partial;
      fault_is = past.splits.good;
      bytes_are = all;
    }
read_by side fed texts r (Some f) is past =
    let cut = past.cut f is in
    record {
      texts = cut.texts;
      rest = cut.rest;
      each = cut.each;
      whole = cut.whole;
      stops = stops_broken side cut.rest f cut.broken;
      fault_is = cut.broken;
      bytes_are = cut.kept ∙ sym (append-nil (texts_of cut.texts));
    }

pub record IsOne (bytes others : List ℕ) (fault other : Option FrameFault) : Type 0 where
  pub bytes_are : bytes ≡ others
  pub fault_is : fault ≡ other

read_once : (side : Side) (fed bytes others : List ℕ) (fault other : Option FrameFault) → IsRead side fed bytes fault → IsRead side fed others other
    → IsOne bytes others fault other
read_once side fed bytes others fault other one two =
    let same = unique side one.texts two.texts one.rest two.rest one.each two.each one.stops two.stops (sym one.whole ∙ two.whole) in
    let faults : fault ≡ other = sym one.fault_is ∙ ap (λ (xs : List ℕ). broken_at side xs) same.rest_is ∙ two.fault_is in
    let left : left_of fault one.rest ≡ left_of other two.rest
    = ap (λ (f : Option FrameFault). left_of f one.rest) faults ∙ ap (λ (xs : List ℕ). left_of other xs) same.rest_is in
    record {
      bytes_are = one.bytes_are ∙ ap (λ (ts : List (List ℕ)). texts_of ts ++ left_of fault one.rest) same.texts_are
          ∙ ap (λ (xs : List ℕ). texts_of two.texts ++ xs) left ∙ sym two.bytes_are;
      fault_is = faults;
    }

pub cuts_agree_lem : CutsAgree
cuts_agree_lem side one two r s leads leads' e =
    let past : Past side (fed_of one) (given_of one) r = past_run side one [] [] (start_of side) r (past_start side) leads in
    let past' : Past side (fed_of two) (given_of two) s = past_run side two [] [] (start_of side) s (past_start side) leads' in
    let read = read_by side (fed_of one) (given_of one) r r.fault refl past in
    let read' : IsRead side (fed_of one) (texts_of (given_of two) ++ s.unread) s.fault
    = subst (λ (xs : List ℕ). IsRead side xs (texts_of (given_of two) ++ s.unread) s.fault) (sym e) (read_by side (fed_of two) (given_of two) s s.fault refl past') in
    let same = read_once side (fed_of one) _ _ r.fault s.fault read read' in
    record {
      bytes = same.bytes_are;
      fault = same.fault_is;
      frames = λ none none'. (unique side (given_of one) (given_of two) r.unread s.unread past.each past'.each
          (stops_partial side r.unread none) (stops_partial side s.unread none') same.bytes_are).texts_are;
    }
