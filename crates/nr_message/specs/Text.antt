-- Messages as text: the bodies of the frames hello, call and reply. The project's own format.
use Rattle.std.specs.Prelude.{◌≡◌, ℕ, ◌≤◌, List, [], ◌∷◌, length}
use Rattle.std.specs.Int.{w8, w16, w32, w64, cast_signed}
use Rattle.nr_base.specs.Grammar.{Grammar, number, run, give, Then, Each, tagged}
use Rattle.nr_base.specs.ModifiedUtf8.{IsModifiedUtf8}
use Rattle.nr_base.specs.declared.result_word.ResultWord.{ResultWord}
use Rattle.nr_base.specs.declared.result_word.ResultWord.TheVariants as words
use Rattle.nr_message.specs.declared.message.Hello.{Hello}
use Rattle.nr_message.specs.declared.message.Arg.{Arg}
use Rattle.nr_message.specs.declared.message.Arg.TheVariants as args
use Rattle.nr_message.specs.declared.message.Call.{Call}
use Rattle.nr_message.specs.declared.message.Reply.{Reply}
use Rattle.nr_message.specs.declared.message.ReplyBody.{ReplyBody}
use Rattle.nr_message.specs.declared.message.ReplyBody.TheVariants.{Returned, Refused}
use Rattle.nr_message.specs.declared.serve_fault.ServeFault.{ServeFault}
use Rattle.nr_message.specs.declared.serve_fault.ServeFault.TheVariants.{Thrown, NotSendable, BadRequest}
use Rattle.nr_message.specs.ServeFaults.{number_of}

-- ---- numbers, the most significant byte first

abbrev pub u1 : Grammar ℕ
u1 = number w8

abbrev pub u2 : Grammar ℕ
u2 = number w16

abbrev pub u4 : Grammar ℕ
u4 = number w32

abbrev pub u8 : Grammar ℕ
u8 = number w64

-- ---- parts

-- a length and so many bytes, which are modified UTF-8 without U+0000
abbrev pub name : Grammar (List ℕ)
name bytes text = IsModifiedUtf8 bytes × Then u2 (λ len. run len) bytes text

-- all that is left
abbrev pub stream : Grammar (List ℕ)
stream bytes text = text ≡ bytes

-- ---- hello

-- version, digest, service
abbrev pub hello : Grammar Hello
hello =
    Then u2 (λ version. Then (run 20) (λ digest. Then name (λ service.
    give (record { version = version; digest = digest; service = service }))))

-- ---- call

-- at least 1 and at most 1,000,000,000
abbrev pub budget : Grammar ℕ
budget n text = (1 ≤ n) × (n ≤ 1000000000) × u8 n text

-- a kind, and a value behind 1 and 2
abbrev pub arg : Grammar Arg
arg (args.Int z) text = (bits : ℕ) × (z ≡ cast_signed w32 bits) × tagged 1 u4 bits text
arg (args.Long z) text = (bits : ℕ) × (z ≡ cast_signed w64 bits) × tagged 2 u8 bits text
arg args.Reference text = text ≡ 3 ∷ []

-- a count and so many arguments
abbrev pub arg_list : Grammar (List Arg)
arg_list = Then u1 (λ count xs text. (length xs ≡ count) × Each arg xs text)

-- number, budget, name, descriptor, arguments, stream
abbrev pub call : Grammar Call
call =
    Then u4 (λ number. Then budget (λ steps. Then name (λ method. Then name (λ desc.
    Then arg_list (λ xs. Then stream (λ bytes.
    give (record { number = number; budget = steps; name = method; desc = desc; args = xs; stream = bytes })))))))

-- ---- reply

-- a kind, and a value behind 1 and 2
abbrev pub result_word : Grammar ResultWord
result_word words.Void text = text ≡ 0 ∷ []
result_word (words.Int z) text = (bits : ℕ) × (z ≡ cast_signed w32 bits) × tagged 1 u4 bits text
result_word (words.Long z) text = (bits : ℕ) × (z ≡ cast_signed w64 bits) × tagged 2 u8 bits text
result_word words.Reference text = text ≡ 3 ∷ []

-- a length and so many bytes
abbrev pub printed : Grammar (List ℕ)
printed = Then u4 (λ len. run len)

-- printed bytes, result, count of objects, stream
abbrev pub returned : Grammar ReplyBody
returned =
    Then printed (λ output. Then result_word (λ result. Then u4 (λ count. Then stream (λ bytes.
    give (Returned output result count bytes)))))

-- the fault's number, and what it tells
abbrev pub fault : Grammar ServeFault
fault (Thrown class) text = tagged 2 name class text
fault (NotSendable class) text = tagged 6 name class text
fault (BadRequest code) text = tagged 9 u1 code text
fault f text = text ≡ number_of f ∷ []

-- 0 and what the method gave, or a fault
abbrev pub reply_body : Grammar ReplyBody
reply_body (Returned output result count bytes) text = tagged 0 returned (Returned output result count bytes) text
reply_body (Refused f) text = fault f text

-- number, body
abbrev pub reply : Grammar Reply
reply = Then u4 (λ number. Then reply_body (λ body. give (record { number = number; body = body })))
