-- What is written is a text of the message.
use Rattle.std.proofs.Common.{◌≡◌, ℕ, ◌<◌, List, [], ◌∷◌, ◌++◌, length, Result, Ok, Err, refl, sym, ap, subst, ◌∙◌, append_assoc, arith}
use Rattle.std.specs.Prelude.{IfOk, OnOk}
use Rattle.std.specs.List.{AllByRecursion, flat_map}
use Rattle.std.specs.Int.{w8, w16, w32, w64, to_be_bytes, cast_unsigned}
use Rattle.std.proofs.lemmas.Int.{to_z-of_z}
use Rattle.nr_base.specs.Grammar.{Then, Each}
use Rattle.nr_base.specs.declared.result_word.ResultWord.{ResultWord}
use Rattle.nr_base.specs.declared.result_word.ResultWord.TheVariants as words
use Rattle.nr_base.proofs.Lists.{made}
use Rattle.nr_message.specs.declared.message.Hello.{Hello}
use Rattle.nr_message.specs.declared.message.Arg.{Arg}
use Rattle.nr_message.specs.declared.message.Arg.TheVariants as args
use Rattle.nr_message.specs.declared.message.Call.{Call}
use Rattle.nr_message.specs.declared.message.Reply.{Reply}
use Rattle.nr_message.specs.declared.message.ReplyBody.{ReplyBody}
use Rattle.nr_message.specs.declared.message.ReplyBody.TheVariants.{Returned, Refused}
use Rattle.nr_message.specs.declared.serve_fault.ServeFault.{ServeFault}
use Rattle.nr_message.specs.declared.serve_fault.ServeFault.TheVariants.{NoSuchMethod, Thrown, BudgetSpent, TooDeep, HeapFull, NotSendable, ReplyTooLong, OutputTooLong, BadRequest, NoMemory}
use Rattle.nr_message.specs.ServeFaults.{number_of}
use Rattle.nr_message.specs.Text.{name, hello, arg, arg_list, call, result_word, fault, reply_body, reply}
use Rattle.nr_message.specs.Writing.{name_text, hello_text, arg_text, args_text, call_text, word_text, printed_text, told_text, body_text, reply_text}
use Rattle.nr_message.specs.Whole.{IsName, IsHello, IsArg, IsCall, IsWord, IsFault, IsBody, IsReply}

-- what holds of the text of a message holds of what was written
pub of_text : {X E Fits : Type 0} (items : X → List ℕ) (text : List ℕ) (G : List ℕ → Type 0) → (Fits → G text) → (r : Result X E) → IfOk r (λ b. items b ≡ text) → IfOk r (λ b. Fits) → IfOk r (λ b. G (items b))
of_text items text G to (Ok b) e fits = subst G (sym e) (to fits)
of_text items text G to (Err d) e fits = tt

-- two parts, and then what a call wrote behind them
pub behind_two : {X E : Type 0} (r : Result X E) (put p q new a b text : List ℕ) → p ≡ put ++ a → q ≡ p ++ b → OnOk r (new ≡ q ++ text) → OnOk r (new ≡ put ++ (a ++ (b ++ text)))
behind_two (Ok x) put p q new a b text e f g = g ∙ ap (λ z. z ++ text) (f ∙ ap (λ z. z ++ b) e) ∙ append_assoc (put ++ a) b text ∙ append_assoc put a (b ++ text)
behind_two (Err d) put p q new a b text e f g = tt

-- one text behind the other
joined : {A B : Type 0} {G : A → List ℕ → Type 0} {H : A → B → List ℕ → Type 0} {y : B} (x : A) (a b : List ℕ) → G x a → H x y b → Then G H y (a ++ b)
joined x a b g h = record { value = x; front = a; back = b; first = g; second = h; whole = refl }

name_spelled : (bytes : List ℕ) → IsName bytes → name bytes (name_text bytes)
name_spelled bytes h = (h.0, joined (length bytes) (to_be_bytes w16 (length bytes)) bytes (h.1, refl) (refl, refl))

pub hello_spelled : (m : Hello) → IsHello m → hello m (hello_text m)
hello_spelled m h =
    joined m.version (to_be_bytes w16 m.version) (m.digest ++ name_text m.service) (h.version, refl)
    (joined m.digest m.digest (name_text m.service) (h.digest, refl)
    (made m.service (name_text m.service) (name_spelled m.service h.service)))

-- ---- calls

arg_spelled : (x : Arg) → IsArg x → arg x (arg_text x)
arg_spelled (args.Int z) h = (cast_unsigned w32 z, sym (to_z-of_z w32 z h.0), (to_be_bytes w32 (cast_unsigned w32 z), refl, (h.1, refl)))
arg_spelled (args.Long z) h = (cast_unsigned w64 z, sym (to_z-of_z w64 z h.0), (to_be_bytes w64 (cast_unsigned w64 z), refl, (h.1, refl)))
arg_spelled args.Reference h = refl

each_spelled : (xs : List Arg) → AllByRecursion IsArg xs → Each arg xs (flat_map arg_text xs)
each_spelled [] h = refl
each_spelled (x ∷ xs) h = (arg_text x, flat_map arg_text xs, arg_spelled x h.0, each_spelled xs h.1, refl)

args_spelled : (xs : List Arg) → length xs < 256 → AllByRecursion IsArg xs → arg_list xs (args_text xs)
args_spelled xs few h = joined (length xs) (to_be_bytes w8 (length xs)) (flat_map arg_text xs) (few, refl) (refl, each_spelled xs h)

pub regrouped : (a b c d e : List ℕ) → (a ++ (b ++ (c ++ d))) ++ e ≡ a ++ (b ++ (c ++ (d ++ e)))
regrouped a b c d e = append_assoc a (b ++ (c ++ d)) e ∙ ap (λ z. a ++ z) (append_assoc b (c ++ d) e ∙ ap (λ z. b ++ z) (append_assoc c d e))

pub call_spelled : (m : Call) → IsCall m → call m (call_text m)
call_spelled m h = subst (λ z. call m z) (sym (regrouped (to_be_bytes w32 m.number) (to_be_bytes w64 m.budget) (name_text m.name) (name_text m.desc) (args_text m.args ++ m.stream)))
    (joined m.number (to_be_bytes w32 m.number) _ (h.number, refl)
    (joined m.budget (to_be_bytes w64 m.budget) _ (h.least, h.most, (omega (arith, h.most), refl))
    (joined m.name (name_text m.name) _ (name_spelled m.name h.name)
    (joined m.desc (name_text m.desc) _ (name_spelled m.desc h.desc)
    (joined m.args (args_text m.args) _ (args_spelled m.args (omega (arith, h.count)) h.args)
    (made m.stream m.stream refl))))))

-- ---- replies

word_spelled : (x : ResultWord) → IsWord x → result_word x (word_text x)
word_spelled words.Void h = refl
word_spelled (words.Int z) h = (cast_unsigned w32 z, sym (to_z-of_z w32 z h.0), (to_be_bytes w32 (cast_unsigned w32 z), refl, (h.1, refl)))
word_spelled (words.Long z) h = (cast_unsigned w64 z, sym (to_z-of_z w64 z h.0), (to_be_bytes w64 (cast_unsigned w64 z), refl, (h.1, refl)))
word_spelled words.Reference h = refl

fault_spelled : (f : ServeFault) → IsFault f → fault f (number_of f ∷ told_text f)
fault_spelled NoSuchMethod h = refl
fault_spelled (Thrown class) h = (name_text class, refl, name_spelled class h)
fault_spelled BudgetSpent h = refl
fault_spelled TooDeep h = refl
fault_spelled HeapFull h = refl
fault_spelled (NotSendable class) h = (name_text class, refl, name_spelled class h)
fault_spelled ReplyTooLong h = refl
fault_spelled OutputTooLong h = refl
fault_spelled (BadRequest code) h = (to_be_bytes w8 code, refl, (h, refl))
fault_spelled NoMemory h = refl

body_spelled : (b : ReplyBody) → IsBody b → reply_body b (body_text b)
body_spelled (Returned output result count bytes) h = (
  printed_text output ++ (word_text result ++ (to_be_bytes w32 count ++ bytes)),
  refl,
  joined output (printed_text output) _ (joined (length output) (to_be_bytes w32 (length output)) output (h.0, refl) (refl, refl))
      (joined result (word_text result) _ (word_spelled result h.1)
      (joined count (to_be_bytes w32 count) _ (h.2, refl)
      (made bytes bytes refl))),
)
body_spelled (Refused f) h = fault_spelled f h

pub reply_spelled : (m : Reply) → IsReply m → reply m (reply_text m)
reply_spelled m h = joined m.number (to_be_bytes w32 m.number) _ (h.number, refl) (made m.body (body_text m.body) (body_spelled m.body h.body))
