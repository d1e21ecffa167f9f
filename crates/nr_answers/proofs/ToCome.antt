-- Where each call was answered, nothing more is to come.
use Rattle.std.proofs.Common.{◌≡◌, ◌++◌, ℕ, suc, List, [], ◌∷◌, refl, sym, ap, ◌∙◌, arith, append_assoc, length, take, map, Some}
use Rattle.std.specs.Prelude.{All}
use Rattle.std.specs.List.{AllByRecursion, flat_map}
use Rattle.std.proofs.lemmas.List.{append_cancel_left, take_at, length-append}
use Rattle.std.proofs.lemmas.List.Elements.{All-cons, All-head, All-tail}
use Rattle.nr_linked.specs.declared.program.tables.ProgramTables.{ProgramTables}
use Rattle.nr_frame.specs.declared.kind.FrameKind.TheVariants as frame_kinds
use Rattle.nr_frame.specs.declared.kind.Side.{Side}
use Rattle.nr_frame.specs.declared.kind.Side.TheVariants.{Client}
use Rattle.nr_frame.specs.Headers.{frame_len}
use Rattle.nr_frame.specs.Splits.{IsFrame, texts_of}
use Rattle.nr_frame.proofs.Fronts.{frame_len_front}
use Rattle.nr_message.specs.Writing.{hello_text}
use Rattle.nr_answers.specs.Batches.{frame_text}
use Rattle.nr_answers.specs.Connections.{IsPeer, Peer, hello_frame, own_hello}
use Rattle.nr_answers.specs.Talks.{IsShort, IsTalk}
use Rattle.nr_answers.proofs.Conversation.{nil_behind}
use Rattle.nr_answers.proofs.Talking.{text_is_frame}

same_len : (t u r s : List ℕ) → frame_len t ≡ Some (length t) → frame_len u ≡ Some (length u) → t ++ r ≡ u ++ s → length t ≡ length u
same_len t u r s whole whole' e =
    let a = frame_len_front t r (length t) whole in
    let b = frame_len_front u s (length u) whole' in
    let c : Some (length t) ≡ Some (length u) = sym a ∙ ap (λ (xs : List ℕ). frame_len xs) e ∙ b in
    cc

same_front : (t u r s : List ℕ) → length t ≡ length u → t ++ r ≡ u ++ s → t ≡ u
same_front t u r s len e = sym (take_at t r (length t) refl) ∙ ap (λ (xs : List ℕ). take (length t) xs) e ∙ take_at u s (length t) (sym len)

-- equally many frames in front of one text are the same, and so is what follows
same_rest : (side : Side) (ts us : List (List ℕ)) (r s : List ℕ) → All (IsFrame side) ts → All (IsFrame side) us → length ts ≡ length us
    → texts_of ts ++ r ≡ texts_of us ++ s → r ≡ s
same_rest side [] [] r s all all' count e = e
same_rest side [] (u ∷ us) r s all all' count e = absurd (omega arith)
same_rest side (t ∷ ts) [] r s all all' count e = absurd (omega arith)
same_rest side (t ∷ ts) (u ∷ us) r s all all' count e =
    let f = All-head (IsFrame side) t ts all in
    let g = All-head (IsFrame side) u us all' in
    let e' : t ++ (texts_of ts ++ r) ≡ u ++ (texts_of us ++ s) = sym (append_assoc t (texts_of ts) r) ∙ e ∙ append_assoc u (texts_of us) s in
    let same : t ≡ u = same_front t u (texts_of ts ++ r) (texts_of us ++ s) (same_len t u (texts_of ts ++ r) (texts_of us ++ s) f.whole g.whole e') e' in
    let rest : texts_of ts ++ r ≡ texts_of us ++ s = append_cancel_left t (texts_of ts ++ r) (texts_of us ++ s) (e' ∙ ap (λ (xs : List ℕ). xs ++ (texts_of us ++ s)) (sym same)) in
    same_rest side ts us r s (All-tail (IsFrame side) t ts all) (All-tail (IsFrame side) u us all') (omega arith) rest

none_each : All (IsFrame Client) []
none_each k d lt = absurd (omega arith)

abbrev reply_texts : List (List ℕ) → List (List ℕ)
reply_texts bodies = map (frame_text frame_kinds.Reply) bodies

each_reply : (bodies : List (List ℕ)) → AllByRecursion IsShort bodies → All (IsFrame Client) (reply_texts bodies)
each_reply [] short = none_each
each_reply (b ∷ bs) short = All-cons (IsFrame Client) (frame_text frame_kinds.Reply b) (reply_texts bs) (text_is_frame Client frame_kinds.Reply b short.0 refl) (each_reply bs short.1)

flat_is : (bodies : List (List ℕ)) → flat_map (frame_text frame_kinds.Reply) bodies ≡ texts_of (reply_texts bodies)
flat_is [] = refl
flat_is (b ∷ bs) = ap (λ (xs : List ℕ). frame_text frame_kinds.Reply b ++ xs) (flat_is bs)

many_texts : (bodies : List (List ℕ)) → length (reply_texts bodies) ≡ length bodies
many_texts [] = refl
many_texts (b ∷ bs) = ap (λ (n : ℕ). suc n) (many_texts bs)

hello_short : (P : ProgramTables) (s : Peer) → IsPeer P s → (version : ℕ) → IsShort (hello_text (own_hello P s version))
hello_short P s is version =
    let digest : length s.digest ≡ 20 = is.hello.digest in
    let name = is.hello.service.1 in
    simp length-append (omega (arith, digest, name))

-- The server's whole text begins with a hello and so many replies as the client has taken: nothing follows.
pub nothing_to_come : (P : ProgramTables) (s : Peer) → IsPeer P s → (count : ℕ) (text greeting : List ℕ) (replies : List (List ℕ)) (rest : List ℕ)
    → IsShort greeting → AllByRecursion IsShort replies → length replies ≡ count
    → text ≡ frame_text frame_kinds.Hello greeting ++ (flat_map (frame_text frame_kinds.Reply) replies ++ rest)
    → IsTalk P s count text → rest ≡ []
nothing_to_come P s peer count text greeting replies rest short each many is talk =
    let ours : All (IsFrame Client) (frame_text frame_kinds.Hello greeting ∷ reply_texts replies) =
    All-cons (IsFrame Client) (frame_text frame_kinds.Hello greeting) (reply_texts replies) (text_is_frame Client frame_kinds.Hello greeting short refl) (each_reply replies each) in
    let theirs : All (IsFrame Client) (hello_frame P s talk.version ∷ reply_texts talk.replies.bodies) =
    All-cons (IsFrame Client) (hello_frame P s talk.version) (reply_texts talk.replies.bodies)
    (text_is_frame Client frame_kinds.Hello (hello_text (own_hello P s talk.version)) (hello_short P s peer talk.version) refl)
    (each_reply talk.replies.bodies talk.replies.short) in
    let a = many_texts replies in
    let b = many_texts talk.replies.bodies in
    let c = talk.replies.many in
    let front : text ≡ texts_of (frame_text frame_kinds.Hello greeting ∷ reply_texts replies) ++ rest =
    is ∙ ap (λ (xs : List ℕ). frame_text frame_kinds.Hello greeting ++ (xs ++ rest)) (flat_is replies)
    ∙ sym (append_assoc (frame_text frame_kinds.Hello greeting) (texts_of (reply_texts replies)) rest) in
    let back : text ≡ texts_of (hello_frame P s talk.version ∷ reply_texts talk.replies.bodies) ++ [] =
    talk.whole ∙ ap (λ (xs : List ℕ). hello_frame P s talk.version ++ xs) (talk.replies.whole ∙ flat_is talk.replies.bodies)
    ∙ sym (nil_behind (hello_frame P s talk.version ++ texts_of (reply_texts talk.replies.bodies))) in
    same_rest Client (frame_text frame_kinds.Hello greeting ∷ reply_texts replies) (hello_frame P s talk.version ∷ reply_texts talk.replies.bodies) rest [] ours theirs
    (ap (λ (n : ℕ). suc n) (a ∙ many ∙ sym c ∙ sym b)) (sym front ∙ back)
