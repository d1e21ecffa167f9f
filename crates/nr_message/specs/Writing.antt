-- The one text of each message. The project's own format.
use Rattle.std.specs.Prelude.{ℕ, List, [], ◌∷◌, ◌++◌, length}
use Rattle.std.specs.List.{flat_map}
use Rattle.std.specs.Int.{w8, w16, w32, w64, to_be_bytes, cast_unsigned}
use Rattle.nr_base.specs.declared.result_word.ResultWord.{ResultWord}
use Rattle.nr_base.specs.declared.result_word.ResultWord.TheVariants as words
use Rattle.nr_message.specs.declared.message.Hello.{Hello}
use Rattle.nr_message.specs.declared.message.Arg.{Arg}
use Rattle.nr_message.specs.declared.message.Arg.TheVariants as args
use Rattle.nr_message.specs.declared.message.Call.{Call}
use Rattle.nr_message.specs.declared.message.Reply.{Reply}
use Rattle.nr_message.specs.declared.message.ReplyBody.{ReplyBody}
use Rattle.nr_message.specs.declared.message.ReplyBody.TheVariants.{Returned, Refused}
use Rattle.nr_message.specs.declared.serve_fault.ServeFault.{ServeFault}
use Rattle.nr_message.specs.declared.serve_fault.ServeFault.TheVariants.{Thrown, NotSendable, BadRequest}
use Rattle.nr_message.specs.ServeFaults.{number_of}

abbrev pub name_text : List ℕ → List ℕ
name_text bytes = to_be_bytes w16 (length bytes) ++ bytes

abbrev pub hello_text : Hello → List ℕ
hello_text m = to_be_bytes w16 m.version ++ (m.digest ++ name_text m.service)

abbrev pub arg_text : Arg → List ℕ
arg_text (args.Int z) = 1 ∷ to_be_bytes w32 (cast_unsigned w32 z)
arg_text (args.Long z) = 2 ∷ to_be_bytes w64 (cast_unsigned w64 z)
arg_text args.Reference = 3 ∷ []

abbrev pub args_text : List Arg → List ℕ
args_text xs = to_be_bytes w8 (length xs) ++ flat_map arg_text xs

-- what stands before the arguments
abbrev pub head_text : Call → List ℕ
head_text m = to_be_bytes w32 m.number ++ (to_be_bytes w64 m.budget ++ (name_text m.name ++ name_text m.desc))

abbrev pub call_text : Call → List ℕ
call_text m = head_text m ++ (args_text m.args ++ m.stream)

abbrev pub word_text : ResultWord → List ℕ
word_text words.Void = 0 ∷ []
word_text (words.Int z) = 1 ∷ to_be_bytes w32 (cast_unsigned w32 z)
word_text (words.Long z) = 2 ∷ to_be_bytes w64 (cast_unsigned w64 z)
word_text words.Reference = 3 ∷ []

abbrev pub printed_text : List ℕ → List ℕ
printed_text bytes = to_be_bytes w32 (length bytes) ++ bytes

abbrev pub told_text : ServeFault → List ℕ
told_text (Thrown class) = name_text class
told_text (NotSendable class) = name_text class
told_text (BadRequest code) = to_be_bytes w8 code
told_text f = []

abbrev pub body_text : ReplyBody → List ℕ
body_text (Returned output result count bytes) =
    0 ∷ (printed_text output ++ (word_text result ++ (to_be_bytes w32 count ++ bytes)))
body_text (Refused f) = number_of f ∷ told_text f

abbrev pub reply_text : Reply → List ℕ
reply_text m = to_be_bytes w32 m.number ++ body_text m.body
