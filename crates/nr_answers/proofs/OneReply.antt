-- A request has one reply, where a text spells one graph and a graph has one canonical text.
use Rattle.std.proofs.Common.{◌≡◌, ◌<◌, ◌≤◌, ◌^◌, ◌∙◌, ℕ, List, inl, length, map, refl, sym, ap, subst, subst₂, arith}
use Rattle.std.specs.Prelude.{Option, Some}
use Rattle.std.specs.List.{zip}
use Rattle.nr_base.specs.declared.result_word.ResultWord.{ResultWord}
use Rattle.nr_linked.specs.declared.program.tables.ProgramTables.{ProgramTables}
use Rattle.nr_linked.specs.Facts.{ProgramFacts}
use Rattle.nr_linked.specs.KindTexts.{class_name}
use Rattle.nr_model.specs.declared.value.Value.{Value}
use Rattle.nr_model.specs.declared.value.Value.TheVariants.{Ref}
use Rattle.nr_model.specs.Alike.{AlikeControl, AlikeResult, AllLike, Like, both_return, both_run, both_throw, like_int, like_long, like_null, like_ref, no_more, no_result, one_more, one_result}
use Rattle.nr_model.specs.Outcomes.{Ended, Fate}
use Rattle.nr_model.specs.Pairs.{PairedStates, StartOf}
use Rattle.nr_model.specs.States.{Control, Returned, Thrown}
use Rattle.nr_model.proofs.Kept.{PairsOf, start_pair, states_match}
use Rattle.nr_model.proofs.Matchings.{AlikeState}
use Rattle.nr_model.proofs.Paths.{none_some, some_eq}
use Rattle.nr_message.specs.declared.message.ReplyBody.TheVariants.{Returned as ReturnedBody}
use Rattle.nr_message.specs.declared.serve_fault.ServeFault.{ServeFault}
use Rattle.nr_message.specs.declared.serve_fault.ServeFault.TheVariants as serve
use Rattle.nr_message.specs.Writing.{reply_text}
use Rattle.nr_graph.specs.declared.graph.Graph.{Graph}
use Rattle.nr_graph.specs.Listing.{Lists, Picked}
use Rattle.nr_graph.specs.Pictures.{FirstUnsendable}
use Rattle.nr_graph.proofs.Along.{along_listed}
use Rattle.nr_graph.proofs.Partners.{picture_too}
use Rattle.nr_graph.proofs.Pictured.{one_picture}
use Rattle.nr_graph.proofs.Walks.{one_refused}
use Rattle.nr_serform.specs.Streams.{IsCanonical}
use Rattle.nr_answers.specs.Answers.{AnswersOutcome, Replies, RequestOutcome, Return, back_text, class_of, max_body, refusal_text, refused, returned, run, stop_fault, stopped, thrown, too_long, unsendable}
use Rattle.nr_answers.specs.Once.{HasOneText, IsAnsweredOnce, SpellsOneGraph}
use Rattle.nr_answers.specs.Requests.{Accepted, Request, request_number}
use Rattle.nr_answers.specs.Returns.{Shipment, result_root, roots_of, word_of}
use Rattle.nr_answers.proofs.OneList.{both_like, one_rising, picked_long, picks_like}
use Rattle.nr_answers.proofs.OneRefusal.{class_like, pictured_not_refused, unsendable_like}
use Rattle.nr_answers.proofs.OneRequest.{one_refusal, refused_accepted, same_graph}
use Rattle.nr_answers.proofs.OneRun.{one_length, one_outcome}

-- ---- ends

no_stop : (fate : Fate) (f : ServeFault) → stop_fault fate ≡ Some f → fate ≡ Ended → ⊥
no_stop fate f e ended = none_some (sym (ap stop_fault ended) ∙ e)

thrown_returned : (R : ℕ → ℕ → Type 0) (c d : Control) (u : Value) (v : Option Value) → AlikeControl R c d → c ≡ Thrown u → d ≡ Returned v → ⊥
thrown_returned R c d u v (both_run a) e f = cc
thrown_returned R c d u v (both_return a) e f = cc
thrown_returned R c d u v (both_throw a) e f = cc

returned_thrown : (R : ℕ → ℕ → Type 0) (c d : Control) (u : Option Value) (v : Value) → AlikeControl R c d → c ≡ Returned u → d ≡ Thrown v → ⊥
returned_thrown R c d u v (both_run a) e f = cc
returned_thrown R c d u v (both_return a) e f = cc
returned_thrown R c d u v (both_throw a) e f = cc

returned_like : (R : ℕ → ℕ → Type 0) (u v : Option Value) → AlikeControl R (Returned u) (Returned v) → AlikeResult R u v
returned_like R u v (both_return l) = l

thrown_like : (R : ℕ → ℕ → Type 0) (u v : Value) → AlikeControl R (Thrown u) (Thrown v) → Like R u v
thrown_like R u v (both_throw l) = l

ref_like : (R : ℕ → ℕ → Type 0) (x y : ℕ) → Like R (Ref x) (Ref y) → R x y
ref_like R x y (like_ref r) = r

root_like : (R : ℕ → ℕ → Type 0) (u v : Option Value) → AlikeResult R u v → AllLike R (result_root u) (result_root v)
root_like R u v no_result = no_more
root_like R u v (one_result like_int) = no_more
root_like R u v (one_result like_long) = no_more
root_like R u v (one_result like_null) = one_more like_null no_more
root_like R u v (one_result (like_ref r)) = one_more (like_ref r) no_more

word_like : (R : ℕ → ℕ → Type 0) (u v : Option Value) → AlikeResult R u v → word_of u ≡ word_of v
word_like R u v no_result = refl
word_like R u v (one_result like_int) = refl
word_like R u v (one_result like_long) = refl
word_like R u v (one_result like_null) = refl
word_like R u v (one_result (like_ref r)) = refl

abbrev body_of : ℕ → List ℕ → ResultWord → ℕ → List ℕ → List ℕ
body_of number printed word count stream = reply_text (record { number = number; body = ReturnedBody printed word count stream })

one_body : (number : ℕ) (printed printed' : List ℕ) (word word' : ResultWord) (count count' : ℕ) (stream stream' : List ℕ) → printed ≡ printed' → word ≡ word'
    → count ≡ count' → stream ≡ stream' → body_of number printed word count stream ≡ body_of number printed' word' count' stream'
one_body number printed printed' word word' count count' stream stream' a b c d =
    ap (λ (x : List ℕ). body_of number x word count stream) a ∙ ap (λ (x : ResultWord). body_of number printed' x count stream) b
    ∙ ap (λ (x : ℕ). body_of number printed' word' x stream) c ∙ ap (λ (x : List ℕ). body_of number printed' word' count' x) d

module _ (P : ProgramTables) (facts : ProgramFacts P) (one : SpellsOneGraph P) (alone : HasOneText P) (service : ℕ) (body : List ℕ)
    (short : (q : Request P service body) → length q.call.stream < 2 ^ 32) where
  module _ (r p : Accepted P service body) (o : RequestOutcome P r) (q : RequestOutcome P p) where
    outcomes : (o.steps ≡ q.steps) × (o.fate ≡ q.fate) × PairedStates (zip o.entered.names q.entered.names) o.state q.state
    outcomes = one_outcome P facts one service 1 body short r p o q

    abbrev R : ℕ → ℕ → Type 0
    R = PairsOf (zip o.entered.names q.entered.names) o.state q.state outcomes.2

    level : AlikeState R o.state q.state
    level = states_match (zip o.entered.names q.entered.names) o.state q.state outcomes.2

    graphs : r.graph ≡ p.graph
    graphs = same_graph P service body one short r.request p.request r.graph p.graph r.spelled p.spelled

    -- ---- what goes back

    module _ (b : Return P 1 o) (d : Return P 1 q) where
      value : AlikeResult R b.value d.value
      value = returned_like R b.value d.value (subst₂ (AlikeControl R) b.returned d.returned level.control)

      nodes : b.lists.nodes ≡ d.lists.nodes
      nodes =
          let other : Lists P r.graph d.lists.nodes = subst (λ (g : Graph). Lists P g d.lists.nodes) (sym graphs) d.lists.lists in
          one_rising b.lists.nodes d.lists.nodes b.lists.lists.rises other.rises
          (λ k h. (other.just k).1 ((b.lists.lists.just k).0 h)) (λ k h. (b.lists.lists.just k).1 ((other.just k).0 h))

      listed : AllLike R (map Ref b.listed) (map Ref d.listed)
      listed = picks_like R o.entered.names q.entered.names
          (λ i x y e f. start_pair (StartOf (zip o.entered.names q.entered.names) o.state q.state) o.state.heap q.state.heap x y
          (inl (along_listed o.entered.names q.entered.names x y i e f)))
          b.lists.picked (subst (λ (ns : List ℕ). Picked q.entered.names ns d.listed) (sym nodes) d.lists.picked)

      roots : AllLike R (roots_of b.sent b.value) (roots_of d.sent d.value)
      roots = both_like R (subst₂ (λ (xs ys : List ℕ). AllLike R (map Ref xs) (map Ref ys)) (sym b.sent_back) (sym d.sent_back) listed) (root_like R b.value d.value value)

      counts : length b.sent ≡ length d.sent
      counts = ap (λ (xs : List ℕ). length xs) b.sent_back ∙ picked_long o.entered.names b.lists.picked ∙ ap (λ (ns : List ℕ). length ns) nodes
          ∙ sym (picked_long q.entered.names d.lists.picked) ∙ sym (ap (λ (xs : List ℕ). length xs) d.sent_back)

      one_back : (s : Shipment P o.state.heap b.listed b.sent 1 b.value) (t : Shipment P q.state.heap d.listed d.sent 1 d.value) → back_text b s ≡ back_text d t
      one_back s t =
          let w = picture_too R P o.state.heap q.state.heap level.heap (roots_of b.sent b.value) (roots_of d.sent d.value) roots s.names s.graph s.picture in
          let same = (one_picture P q.state.heap (roots_of d.sent d.value) w.0 t.names s.graph t.graph w.1 t.picture).1 in
          let stream = alone s.graph s.stream t.stream s.spelled (subst (λ (g : Graph). IsCanonical P t.stream g) (sym same) t.spelled) in
          one_body (request_number body) o.state.printed q.state.printed (word_of b.value) (word_of d.value) (length b.sent) (length d.sent) s.stream t.stream
          level.printed (word_like R b.value d.value value) counts stream

      no_mix : (x : ℕ) → FirstUnsendable P o.state.heap (roots_of b.sent b.value) x → Shipment P q.state.heap d.listed d.sent 1 d.value → ⊥
      no_mix x first t =
          let y = unsendable_like R P o.state.heap q.state.heap level.heap (roots_of b.sent b.value) (roots_of d.sent d.value) x roots first in
          pictured_not_refused P q.state.heap (roots_of d.sent d.value) t.names t.graph y.0 t.picture t.spelled.spellable.sendable y.1

      one_unsendable : (x y c e : ℕ) → FirstUnsendable P o.state.heap (roots_of b.sent b.value) x → FirstUnsendable P q.state.heap (roots_of d.sent d.value) y
          → class_of o.state.heap x ≡ Some c → class_of q.state.heap y ≡ Some e → c ≡ e
      one_unsendable x y c e first second f g =
          let z = unsendable_like R P o.state.heap q.state.heap level.heap (roots_of b.sent b.value) (roots_of d.sent d.value) x roots first in
          let same : z.0 ≡ y = one_refused _ _ z.1 second in
          some_eq (sym f ∙ class_like R P o.state.heap q.state.heap level.heap x z.0 z.2 ∙ ap (λ (w : ℕ). class_of q.state.heap w) same ∙ g)

    one_thrown : (x y c e : ℕ) → o.state.control ≡ Thrown (Ref x) → q.state.control ≡ Thrown (Ref y) → class_of o.state.heap x ≡ Some c → class_of q.state.heap y ≡ Some e → c ≡ e
    one_thrown x y c e a b f g =
        let rel = ref_like R x y (thrown_like R (Ref x) (Ref y) (subst₂ (AlikeControl R) a b level.control)) in
        some_eq (sym f ∙ class_like R P o.state.heap q.state.heap level.heap x y rel ∙ g)

    now_ended : o.fate ≡ Ended → q.fate ≡ Ended
    now_ended e = sym outcomes.1 ∙ e

    was_ended : q.fate ≡ Ended → o.fate ≡ Ended
    was_ended e = outcomes.1 ∙ e

    no_throw_back : (x : ℕ) → o.state.control ≡ Thrown (Ref x) → Return P 1 q → ⊥
    no_throw_back x e d = thrown_returned R o.state.control q.state.control (Ref x) d.value level.control e d.returned

    no_back_throw : (y : ℕ) → Return P 1 o → q.state.control ≡ Thrown (Ref y) → ⊥
    no_back_throw y b e = returned_thrown R o.state.control q.state.control b.value (Ref y) level.control b.returned e

  swapped : (r p : Accepted P service body) (o : RequestOutcome P r) (q : RequestOutcome P p) (b : Return P 1 o) (d : Return P 1 q) (y : ℕ)
      → Shipment P o.state.heap b.listed b.sent 1 b.value → FirstUnsendable P q.state.heap (roots_of d.sent d.value) y → ⊥
  swapped r p o q b d y s first = no_mix p r q o d b y first s

  one_answer : (r p : Accepted P service body) (o : RequestOutcome P r) (q : RequestOutcome P p) (text other : List ℕ) → AnswersOutcome P 1 o text → AnswersOutcome P 1 q other → text ≡ other
  one_answer r p o q text other (stopped {f = f} e is) (stopped {f = g} d also) =
      let same : f ≡ g = some_eq (sym e ∙ ap stop_fault (outcomes r p o q).1 ∙ d) in
      is ∙ ap (λ (x : ServeFault). refusal_text body x) same ∙ sym also
  one_answer r p o q text other (stopped {f = f} e is) (thrown y c ended control found also) = absurd (no_stop o.fate f e (was_ended r p o q ended))
  one_answer r p o q text other (stopped {f = f} e is) (unsendable d y c first found also) = absurd (no_stop o.fate f e (was_ended r p o q d.ended))
  one_answer r p o q text other (stopped {f = f} e is) (too_long d t long also) = absurd (no_stop o.fate f e (was_ended r p o q d.ended))
  one_answer r p o q text other (stopped {f = f} e is) (returned d t fits also) = absurd (no_stop o.fate f e (was_ended r p o q d.ended))
  one_answer r p o q text other (thrown x c ended control found is) (stopped {f = f} e also) = absurd (no_stop q.fate f e (now_ended r p o q ended))
  one_answer r p o q text other (thrown x c ended control found is) (thrown y d ended' control' found' also) =
      is ∙ ap (λ (z : ℕ). refusal_text body (serve.Thrown (class_name P z))) (one_thrown r p o q x y c d control control' found found') ∙ sym also
  one_answer r p o q text other (thrown x c ended control found is) (unsendable d y e first found' also) = absurd (no_throw_back r p o q x control d)
  one_answer r p o q text other (thrown x c ended control found is) (too_long d t long also) = absurd (no_throw_back r p o q x control d)
  one_answer r p o q text other (thrown x c ended control found is) (returned d t fits also) = absurd (no_throw_back r p o q x control d)
  one_answer r p o q text other (unsendable b x c first found is) (stopped {f = f} e also) = absurd (no_stop q.fate f e (now_ended r p o q b.ended))
  one_answer r p o q text other (unsendable b x c first found is) (thrown y e ended control found' also) = absurd (no_back_throw r p o q y b control)
  one_answer r p o q text other (unsendable b x c first found is) (unsendable d y e second found' also) =
      is ∙ ap (λ (z : ℕ). refusal_text body (serve.NotSendable (class_name P z))) (one_unsendable r p o q b d x y c e first second found found') ∙ sym also
  one_answer r p o q text other (unsendable b x c first found is) (too_long d t long also) = absurd (no_mix r p o q b d x first t)
  one_answer r p o q text other (unsendable b x c first found is) (returned d t fits also) = absurd (no_mix r p o q b d x first t)
  one_answer r p o q text other (too_long b s long is) (stopped {f = f} e also) = absurd (no_stop q.fate f e (now_ended r p o q b.ended))
  one_answer r p o q text other (too_long b s long is) (thrown y e ended control found also) = absurd (no_back_throw r p o q y b control)
  one_answer r p o q text other (too_long b s long is) (unsendable d y e first found also) = absurd (swapped r p o q b d y s first)
  one_answer r p o q text other (too_long b s long is) (too_long d t long' also) = is ∙ sym also
  one_answer r p o q text other (too_long b s long is) (returned d t fits also) = absurd (too_much (back_text b s) (back_text d t) other (one_back r p o q b d s t) also long fits)
    where
      too_much : (x y z : List ℕ) → x ≡ y → z ≡ y → max_body < length x → length z ≤ max_body → ⊥
      too_much x y z e f l m = let n : length z ≡ length x = ap (λ (w : List ℕ). length w) (f ∙ sym e) in omega (arith, n, l, m)
  one_answer r p o q text other (returned b s fits is) (stopped {f = f} e also) = absurd (no_stop q.fate f e (now_ended r p o q b.ended))
  one_answer r p o q text other (returned b s fits is) (thrown y e ended control found also) = absurd (no_back_throw r p o q y b control)
  one_answer r p o q text other (returned b s fits is) (unsendable d y e first found also) = absurd (swapped r p o q b d y s first)
  one_answer r p o q text other (returned b s fits is) (too_long d t long also) = absurd (too_much (back_text b s) (back_text d t) text (one_back r p o q b d s t) is long fits)
    where
      too_much : (x y z : List ℕ) → x ≡ y → z ≡ x → max_body < length y → length z ≤ max_body → ⊥
      too_much x y z e f l m = let n : length z ≡ length y = ap (λ (w : List ℕ). length w) (f ∙ e) in omega (arith, n, l, m)
  one_answer r p o q text other (returned b s fits is) (returned d t fits' also) = is ∙ one_back r p o q b d s t ∙ sym also

  one_text : (n k : ℕ) (text other : List ℕ) → Replies P service 1 body n text → Replies P service 1 body k other → text ≡ other
  one_text n k text other (refused {f = f} a is) (refused {f = g} b also) = is ∙ ap (λ (x : ServeFault). refusal_text body x) (one_refusal P service body one short a b) ∙ sym also
  one_text n k text other (refused a is) (run p q e answer) = absurd (refused_accepted P service body one short a p)
  one_text n k text other (run r o e answer) (refused b also) = absurd (refused_accepted P service body one short b r)
  one_text n k text other (run r o e answer) (run p q d also) = one_answer r p o q text other answer also

  pub answered_once : IsAnsweredOnce P service 1 body
  answered_once =
      let lengths = one_length P facts one service 1 body short in
      record { one = λ n k text other a b. (lengths.one n k text other a b, one_text n k text other a b); more = lengths.more }
