-- Where a connection stands: as bytes are given and sent, received and fed, and where it ends.
use Rattle.std.proofs.Common.{◌≡◌, ◌++◌, ◌⊎◌, ◌-◌, ◌<◌, ℕ, List, [], ◌∷◌, take, drop, refl, arith, subst, sym, ap, ◌∙◌, append_assoc, None, Some, length, Option, inl, inr}
use Rattle.std.specs.Prelude.{All}
use Rattle.std.proofs.lemmas.Grind.{common_steps}
use Rattle.std.proofs.lemmas.List.{take-append-drop}
use Rattle.nr_linked.specs.declared.program.tables.ProgramTables.{ProgramTables}
use Rattle.nr_frame.specs.declared.fault.FrameFault.{FrameFault}
use Rattle.nr_frame.specs.declared.kind.Side.TheVariants.{Server}
use Rattle.nr_frame.specs.Headers.{frame_len}
use Rattle.nr_frame.specs.Splits.{IsFrame, texts_of}
use Rattle.nr_frame.proofs.Fronts.{frame_len_front}
use Rattle.nr_answers.specs.Batches.{Timed, reply_frames, in_rounds}
use Rattle.nr_answers.specs.Connections.{ConnectionText, Holding, Peer, SaysAll, max_frames, no_frame}
use Rattle.nr_answers.specs.Faithful.{IsFaithful}
use Rattle.nr_answers.specs.Hosts.{Held}
use Rattle.nr_answers.specs.Responders.{AllDue, CanSay, Feeds, FramesToCome, Goes, IsQuiet, MaySay, Responding, Stands}
use Rattle.nr_answers.proofs.Conversation.{nil_behind}
use Rattle.nr_answers.proofs.Starts.{no_answer}

-- bytes were given and sent
pub stands_on : (P : ProgramTables) (s : Peer) (r r' : Responding) (received sent bytes : List ℕ) → Goes r bytes r'
    → Stands P s r received sent → Stands P s r' received (sent ++ bytes)
stands_on P s r r' received sent bytes goes stands more text may =
    subst (λ (t : List ℕ). ConnectionText P s (received ++ more) t) (sym (append_assoc sent bytes text)) (stands more (bytes ++ text) (goes.goes more text may))

-- a piece came and was fed
pub stands_fed : (P : ProgramTables) (s : Peer) (r r' : Responding) (received sent piece : List ℕ) → Feeds r piece r'
    → Stands P s r received sent → Stands P s r' (received ++ piece) sent
stands_fed P s r r' received sent piece feeds stands more text may =
    subst (λ (g : List ℕ). ConnectionText P s g (sent ++ text)) (sym (append_assoc received piece more)) (stands (piece ++ more) text (feeds.fed more text may))

-- what was sent is the front of a text, also of one for more bytes
pub part_unfed : (P : ProgramTables) (s : Peer) (r : Responding) (received sent piece : List ℕ) → CanSay r → Stands P s r received sent
    → IsFaithful P s (received ++ piece) sent
part_unfed P s r received sent piece can stands =
    let may = can piece in
    record { rest = may.0; text = stands piece may.0 may.1 }

pub part_said : (P : ProgramTables) (s : Peer) (r : Responding) (received sent : List ℕ) → CanSay r → Stands P s r received sent
    → IsFaithful P s received sent
part_said P s r received sent can stands =
    subst (λ (g : List ℕ). IsFaithful P s g sent) (nil_behind received) (part_unfed P s r received sent [] can stands)

-- the same where bytes were given, and only some of them were sent
pub part_sent : (P : ProgramTables) (s : Peer) (r r' : Responding) (received sent bytes : List ℕ) (n : ℕ) → Goes r bytes r' → CanSay r'
    → Stands P s r received sent → IsFaithful P s received (sent ++ take n bytes)
part_sent P s r r' received sent bytes n goes can stands =
    let all = part_said P s r' received (sent ++ bytes) can (stands_on P s r r' received sent bytes goes stands) in
    let split : (sent ++ bytes) ++ all.rest ≡ (sent ++ take n bytes) ++ (drop n bytes ++ all.rest) =
    ap (λ (xs : List ℕ). (sent ++ xs) ++ all.rest) (sym (take-append-drop n bytes)) ∙ ap (λ (xs : List ℕ). xs ++ all.rest) (sym (append_assoc sent (take n bytes) (drop n bytes)))
    ∙ append_assoc (sent ++ take n bytes) (drop n bytes) all.rest in
    record { rest = drop n bytes ++ all.rest; text = subst (λ (t : List ℕ). ConnectionText P s received t) split all.text }

-- ---- nothing is due, and no frame is held

nothing_said : {P : ProgramTables} {s : Peer} {h h' : Holding} {text : List ℕ} → SaysAll P s h [] text h' → text ≡ []
nothing_said no_frame = refl

-- bytes without a whole frame in front have none among them
first_whole : (t : List ℕ) (ts : List (List ℕ)) (rest xs : List ℕ) → All (IsFrame Server) (t ∷ ts) → xs ≡ texts_of (t ∷ ts) ++ rest
    → frame_len xs ≡ None → [] ≡ t ∷ ts
first_whole t ts rest xs each whole none =
    let lt : 0 < length (t ∷ ts) = omega arith in
    let is : IsFrame Server t = each 0 t lt in
    let at : xs ≡ t ++ (texts_of ts ++ rest) = whole ∙ append_assoc t (texts_of ts) rest in
    let len : frame_len (t ++ (texts_of ts ++ rest)) ≡ Some (length t) = frame_len_front t (texts_of ts ++ rest) (length t) is.whole in
    let no : frame_len (t ++ (texts_of ts ++ rest)) ≡ None = subst (λ (ys : List ℕ). frame_len ys ≡ None) at none in
    absurd (cc)

no_whole : (texts : List (List ℕ)) (rest xs : List ℕ) → All (IsFrame Server) texts → xs ≡ texts_of texts ++ rest → frame_len xs ≡ None → texts ≡ []
no_whole [] rest xs each whole none = refl
no_whole (t ∷ ts) rest xs each whole none = sym (first_whole t ts rest xs each whole none)

none_to_come : (fault : Option FrameFault) (unread : List ℕ) (texts : List (List ℕ)) → FramesToCome fault unread [] texts
    → frame_len unread ≡ None → texts ≡ []
none_to_come None unread texts frames none =
    no_whole texts frames.rest (unread ++ []) frames.each frames.whole (subst (λ (xs : List ℕ). frame_len xs ≡ None) (sym (nil_behind unread)) none)
none_to_come (Some f) unread texts frames none = no_whole texts [] unread frames.0 (sym (nil_behind (texts_of texts) ∙ frames.1)) none

take_nil : (n : ℕ) → take {A = List ℕ} n [] ≡ []
take_nil n = grind (arith, common_steps)

take_none : (n : ℕ) (texts : List (List ℕ)) → texts ≡ [] → take n texts ≡ []
take_none n texts is = subst (λ (ts : List (List ℕ)). take n ts ≡ []) (sym is) (take_nil n)

past_last : (frames : ℕ) (texts : List (List ℕ)) → max_frames < frames → take (max_frames - frames) texts ≡ []
past_last frames texts past = let zero : max_frames - frames ≡ 0 = omega arith in rw zero refl

none_taken : (r : Responding) (texts : List (List ℕ)) → IsQuiet r → FramesToCome r.fault r.unread [] texts → take (max_frames - r.frames) texts ≡ []
none_taken r texts quiet frames = by_case quiet.no_frame
  where
    by_case : (frame_len r.unread ≡ None) ⊎ (max_frames < r.frames) → take (max_frames - r.frames) texts ≡ []
    by_case (inl none) = take_none _ texts (none_to_come r.fault r.unread texts frames none)
    by_case (inr past) = past_last r.frames texts past

says_nothing : (r : Responding) (text : List ℕ) → IsQuiet r → MaySay r [] text → text ≡ []
says_nothing r text quiet may =
    let none : may.answers ≡ [] = no_answer (subst (λ (hs : List Held). AllDue r.program r.peer.service r.rounds hs may.answers) quiet.none_due may.due) in
    let back : may.back ≡ [] = nothing_said (subst (λ (ts : List (List ℕ)). SaysAll r.program r.peer r.holding ts may.back may.after) (none_taken r may.texts quiet may.frames) may.said) in
    may.whole ∙ ap (λ (ts : List Timed). reply_frames (in_rounds ts) ++ may.back) none ∙ back

pub quiet_whole : (P : ProgramTables) (s : Peer) (r : Responding) (received sent : List ℕ) → CanSay r → IsQuiet r → Stands P s r received sent
    → ConnectionText P s received sent
quiet_whole P s r received sent can quiet stands =
    let may = can [] in
    let none : may.0 ≡ [] = says_nothing r may.0 quiet may.1 in
    let all : ConnectionText P s (received ++ []) (sent ++ []) = subst (λ (t : List ℕ). ConnectionText P s (received ++ []) (sent ++ t)) none (stands [] may.0 may.1) in
    subst (λ (t : List ℕ). ConnectionText P s received t) (nil_behind sent) (subst (λ (g : List ℕ). ConnectionText P s g (sent ++ [])) (nil_behind received) all)
