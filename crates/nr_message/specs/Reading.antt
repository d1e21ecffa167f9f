-- Reading messages, with the first fault: the project's own rule.
use Rattle.std.specs.Prelude.{ℕ, List, [], length, Result, Ok, Err, ◌==◌, if◌then◌else◌}
use Rattle.std.specs.Int.{w8, w16, w32, w64, cast_signed}
use Rattle.nr_base.specs.Reader.{Reader, ◌>>=◌, pure, refuse, choose, from, with_fault, times, onto, whole}
use Rattle.nr_base.specs.Bytes.{number_at, run_at}
use Rattle.nr_base.specs.ModifiedUtf8.{within}
use Rattle.nr_base.specs.Names.{is_name}
use Rattle.nr_base.specs.declared.result_word.ResultWord.{ResultWord}
use Rattle.nr_base.specs.declared.result_word.ResultWord.TheVariants as words
use Rattle.nr_message.specs.declared.message.Hello.{Hello}
use Rattle.nr_message.specs.declared.message.Arg.{Arg}
use Rattle.nr_message.specs.declared.message.Arg.TheVariants as args
use Rattle.nr_message.specs.declared.message.Call.{Call}
use Rattle.nr_message.specs.declared.message.Reply.{Reply}
use Rattle.nr_message.specs.declared.message.ReplyBody.{ReplyBody}
use Rattle.nr_message.specs.declared.message.ReplyBody.TheVariants.{Returned, Refused}
use Rattle.nr_message.specs.declared.serve_fault.ServeFault.{ServeFault}
use Rattle.nr_message.specs.declared.serve_fault.ServeFault.TheVariants as serve
use Rattle.nr_message.specs.declared.fault.MessageFault.{MessageFault}
use Rattle.nr_message.specs.declared.fault.MessageFault.TheVariants as faults
use Rattle.nr_message.specs.Faults.{of_short}

abbrev pub Read : Type 0 → Type 0
Read A = Reader MessageFault A

-- ---- numbers, each with its own offset as its fault

abbrev pub u1_at : Read ℕ
u1_at = with_fault of_short (number_at w8)

abbrev pub u2_at : Read ℕ
u2_at = with_fault of_short (number_at w16)

abbrev pub u4_at : Read ℕ
u4_at = with_fault of_short (number_at w32)

abbrev pub u8_at : Read ℕ
u8_at = with_fault of_short (number_at w64)

-- ---- parts

abbrev pub bytes_at : ℕ → Read (List ℕ)
bytes_at n = with_fault of_short (run_at n)

-- a length and so many bytes, which are one item
unfoldable pub utf_at : Read (List ℕ)
utf_at = from (λ at. u2_at >>= λ len. with_fault (λ s. faults.Short at) (run_at len))

-- the name that these bytes are, which stand at `at`
abbrev pub named_as : ℕ → List ℕ → Result (List ℕ) MessageFault
named_as at bytes = if is_name bytes then Ok bytes else Err (faults.NameBad at)

-- such bytes that are a name
unfoldable pub name_at : Read (List ℕ)
name_at = from (λ at. utf_at >>= λ bytes. choose (is_name bytes) (pure bytes) (refuse (faults.NameBad at)))

-- as many bytes as are left
unfoldable pub stream_at : Read (List ℕ)
stream_at p = bytes_at (length p.rest) p

-- ---- hello

unfoldable pub hello_at : Read Hello
hello_at = do
  version ← u2_at
  digest ← bytes_at 20
  service ← name_at
  pure (record { version = version; digest = digest; service = service })

-- the hello of a text
abbrev pub hello_of : List ℕ → Result Hello MessageFault
hello_of = whole faults.Trailing hello_at

-- ---- call

unfoldable pub budget_at : Read ℕ
budget_at = u8_at >>= λ n. choose (within 1 1000000000 n) (pure n) (refuse (faults.BudgetBad n))

-- what stands behind a kind, which stands at `at`
unfoldable pub value_at : ℕ → ℕ → Read Arg
value_at at kind =
    choose (kind == 1) (u4_at >>= λ bits. pure (args.Int (cast_signed w32 bits)))
    (choose (kind == 2) (u8_at >>= λ bits. pure (args.Long (cast_signed w64 bits)))
    (choose (kind == 3) (pure args.Reference)
    (refuse (faults.ArgKind at))))

unfoldable pub arg_at : Read Arg
arg_at = from (λ at. u1_at >>= λ kind. value_at at kind)

unfoldable pub arg_list_at : Read (List Arg)
arg_list_at = u1_at >>= λ count. times (onto arg_at) count []

unfoldable pub call_at : Read Call
call_at = do
  number ← u4_at
  budget ← budget_at
  name ← name_at
  desc ← name_at
  xs ← arg_list_at
  stream ← stream_at
  pure (record { number = number; budget = budget; name = name; desc = desc; args = xs; stream = stream })

-- the call of a text; nothing can follow its stream
abbrev pub call_of : List ℕ → Result Call MessageFault
call_of = whole faults.Trailing call_at

-- ---- reply

-- what stands behind a result's kind, which stands at `at`
unfoldable pub word_at : ℕ → ℕ → Read ResultWord
word_at at kind =
    choose (kind == 0) (pure words.Void)
    (choose (kind == 1) (u4_at >>= λ bits. pure (words.Int (cast_signed w32 bits)))
    (choose (kind == 2) (u8_at >>= λ bits. pure (words.Long (cast_signed w64 bits)))
    (choose (kind == 3) (pure words.Reference)
    (refuse (faults.Outcome at)))))

unfoldable pub result_word_at : Read ResultWord
result_word_at = from (λ at. u1_at >>= λ kind. word_at at kind)

-- a length, and so many bytes as an item of their own
unfoldable pub printed_at : Read (List ℕ)
printed_at = u4_at >>= λ len. bytes_at len

unfoldable pub returned_at : Read ReplyBody
returned_at = do
  printed ← printed_at
  result ← result_word_at
  count ← u4_at
  stream ← stream_at
  pure (Returned printed result count stream)

-- what stands behind an outcome that is a fault's number and stands at `at`
unfoldable pub fault_at : ℕ → ℕ → Read ServeFault
fault_at at outcome =
    choose (outcome == 1) (pure serve.NoSuchMethod)
    (choose (outcome == 2) (name_at >>= λ class. pure (serve.Thrown class))
    (choose (outcome == 3) (pure serve.BudgetSpent)
    (choose (outcome == 4) (pure serve.TooDeep)
    (choose (outcome == 5) (pure serve.HeapFull)
    (choose (outcome == 6) (name_at >>= λ class. pure (serve.NotSendable class))
    (choose (outcome == 7) (pure serve.ReplyTooLong)
    (choose (outcome == 8) (pure serve.OutputTooLong)
    (choose (outcome == 9) (u1_at >>= λ code. pure (serve.BadRequest code))
    (choose (outcome == 10) (pure serve.NoMemory)
    (refuse (faults.Outcome at)))))))))))

-- what stands behind an outcome, which stands at `at`
unfoldable pub outcome_at : ℕ → ℕ → Read ReplyBody
outcome_at at outcome = choose (outcome == 0) returned_at (fault_at at outcome >>= λ f. pure (Refused f))

unfoldable pub reply_body_at : Read ReplyBody
reply_body_at = from (λ at. u1_at >>= λ outcome. outcome_at at outcome)

unfoldable pub reply_at : Read Reply
reply_at = do
  number ← u4_at
  body ← reply_body_at
  pure (record { number = number; body = body })

-- the reply of a text
abbrev pub reply_of : List ℕ → Result Reply MessageFault
reply_of = whole faults.Trailing reply_at
