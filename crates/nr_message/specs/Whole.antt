-- Messages that have a text: each number fits its place, and each length its number. The project's own
-- format.
use Rattle.std.specs.Prelude.{◌≡◌, ℕ, ℤ, ◌≤◌, ◌<◌, ◌^◌, List, length}
use Rattle.std.specs.List.{AllByRecursion}
use Rattle.std.specs.Int.{Width, w32, w64, byte_len, cast_unsigned}
use Rattle.std.specs.Int.RustNames.{FitsSigned}
use Rattle.nr_base.specs.ModifiedUtf8.{IsModifiedUtf8}
use Rattle.nr_base.specs.declared.result_word.ResultWord.{ResultWord}
use Rattle.nr_base.specs.declared.result_word.ResultWord.TheVariants as words
use Rattle.nr_message.specs.declared.message.Hello.{Hello}
use Rattle.nr_message.specs.declared.message.Arg.{Arg}
use Rattle.nr_message.specs.declared.message.Arg.TheVariants as args
use Rattle.nr_message.specs.declared.message.Call.{Call}
use Rattle.nr_message.specs.declared.message.Reply.{Reply}
use Rattle.nr_message.specs.declared.message.ReplyBody.{ReplyBody}
use Rattle.nr_message.specs.declared.message.ReplyBody.TheVariants.{Returned, Refused}
use Rattle.nr_message.specs.declared.serve_fault.ServeFault.{ServeFault}
use Rattle.nr_message.specs.declared.serve_fault.ServeFault.TheVariants.{Thrown, NotSendable, BadRequest}

abbrev pub IsName : List ℕ → Type 0
IsName bytes = IsModifiedUtf8 bytes × (length bytes < 2 ^ 16)

pub record IsHello (m : Hello) : Type 0 where
  pub version : m.version < 2 ^ 16
  pub digest : length m.digest ≡ 20
  pub service : IsName m.service

-- a signed number of a width, and its bits
abbrev pub IsSigned : Width → ℤ → Type 0
IsSigned w z = FitsSigned w z × (cast_unsigned w z < 256 ^ byte_len w)

abbrev pub IsArg : Arg → Type 0
IsArg (args.Int z) = IsSigned w32 z
IsArg (args.Long z) = IsSigned w64 z
IsArg args.Reference = Unit {0}

pub record IsCall (m : Call) : Type 0 where
  pub number : m.number < 2 ^ 32
  pub least : 1 ≤ m.budget
  pub most : m.budget ≤ 1000000000
  pub name : IsName m.name
  pub desc : IsName m.desc
  pub count : length m.args ≤ 255
  pub args : AllByRecursion IsArg m.args

abbrev pub IsWord : ResultWord → Type 0
IsWord words.Void = Unit {0}
IsWord (words.Int z) = IsSigned w32 z
IsWord (words.Long z) = IsSigned w64 z
IsWord words.Reference = Unit {0}

abbrev pub IsFault : ServeFault → Type 0
IsFault (Thrown class) = IsName class
IsFault (NotSendable class) = IsName class
IsFault (BadRequest code) = code < 256
IsFault f = Unit {0}

-- the length of what was printed has 4 bytes
abbrev pub IsWritable : ReplyBody → Type 0
IsWritable (Returned output result count bytes) = length output < 2 ^ 32
IsWritable (Refused f) = Unit {0}

abbrev pub IsBody : ReplyBody → Type 0
IsBody (Returned output result count bytes) = (length output < 2 ^ 32) × IsWord result × (count < 2 ^ 32)
IsBody (Refused f) = IsFault f

pub record IsReply (m : Reply) : Type 0 where
  pub number : m.number < 2 ^ 32
  pub body : IsBody m.body
