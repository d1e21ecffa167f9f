-- The law of replies.
use Rattle.std.proofs.Common.{◌≡◌, ℕ, ◌<◌, eqb, List, [], ◌∷◌, ◌++◌, refl, sym, ap, subst, ◌∙◌, arith}
use Rattle.std.specs.Int.{w32, w64, cast_signed}
use Rattle.std.proofs.lemmas.Bool.{eqb-true}
use Rattle.nr_base.specs.Grammar.{Grammar, give, none, Then, pick}
use Rattle.nr_base.specs.declared.result_word.ResultWord.{ResultWord}
use Rattle.nr_base.specs.declared.result_word.ResultWord.TheVariants.{Void, Int, Long, Reference}
use Rattle.nr_base.proofs.Laws.{Reads, give_law, none_law, then_law, pick_law, from_law, same_law}
use Rattle.nr_base.proofs.Numbers.{byte_alone}
use Rattle.nr_base.proofs.Lists.{leaf, made, picked}
use Rattle.nr_message.specs.declared.message.ReplyBody.{ReplyBody}
use Rattle.nr_message.specs.declared.message.ReplyBody.TheVariants.{Returned, Refused}
use Rattle.nr_message.specs.declared.serve_fault.ServeFault.{ServeFault}
use Rattle.nr_message.specs.declared.serve_fault.ServeFault.TheVariants.{NoSuchMethod, Thrown, BudgetSpent, TooDeep, HeapFull, NotSendable, ReplyTooLong, OutputTooLong, BadRequest, NoMemory}
use Rattle.nr_message.specs.declared.fault.MessageFault.TheVariants as faults
use Rattle.nr_message.specs.Text.{u1, u4, u8, name, result_word, printed, returned, fault, reply_body, reply}
use Rattle.nr_message.specs.Reading.{word_at, result_word_at, printed_at, returned_at, fault_at, outcome_at, reply_body_at, reply_at}
use Rattle.nr_message.proofs.Lasts.{ReadsLast, last_of, then_last, made_last, pick_last, from_last, same_last}
use Rattle.nr_message.proofs.Parts.{one_law, four_law, eight_law, bytes_law, name_law, stream_last}

-- ---- result words

abbrev int : ℕ → ResultWord
int bits = Int (cast_signed w32 bits)

abbrev long : ℕ → ResultWord
long bits = Long (cast_signed w64 bits)

-- what stands behind a kind
word : ℕ → Grammar ResultWord
word kind =
    pick (eqb kind 0) (give Void)
    (pick (eqb kind 1) (Then u4 (λ bits. give (int bits)))
    (pick (eqb kind 2) (Then u8 (λ bits. give (long bits)))
    (pick (eqb kind 3) (give Reference) none)))

word_law : (at kind : ℕ) → Reads (word_at at kind) (word kind)
unfolding word_at word
word_law at kind =
    pick_law (eqb kind 0) (give_law Void)
    (pick_law (eqb kind 1) (then_law four_law (λ bits. give_law (int bits)))
    (pick_law (eqb kind 2) (then_law eight_law (λ bits. give_law (long bits)))
    (pick_law (eqb kind 3) (give_law Reference) (none_law (faults.Outcome at)))))

from_word : (kind : ℕ) (x : ResultWord) (t : List ℕ) → word kind x t → result_word x (kind ∷ t)
unfolding word
from_word kind x t g0 =
    picked (eqb kind 0) _ _ x t g0 (λ b g. let h = eqb-true kind 0 b in rw (g.0, g.1, h) refl) (λ b0 g1.
    picked (eqb kind 1) _ _ x t g1 (λ b g. let h = eqb-true kind 1 b in let l = leaf g in rw l.1 (l.0, refl, (t, rw h refl, l.2))) (λ b1 g2.
    picked (eqb kind 2) _ _ x t g2 (λ b g. let h = eqb-true kind 2 b in let l = leaf g in rw l.1 (l.0, refl, (t, rw h refl, l.2))) (λ b2 g3.
    picked (eqb kind 3) _ _ x t g3 (λ b g. let h = eqb-true kind 3 b in rw (g.0, g.1, h) refl) (λ b3 g4. absurd g4))))

to_word : (x : ResultWord) (text : List ℕ) → result_word x text → Then u1 word x text
unfolding word
to_word Void text g = record { value = 0; front = 0 ∷ []; back = []; first = (omega arith, refl); second = (refl, refl); whole = g }
to_word (Int z) text g = record { value = 1; front = 1 ∷ []; back = g.2.0; first = (omega arith, refl); second = rw g.1 (made g.0 g.2.0 g.2.2); whole = g.2.1 }
to_word (Long z) text g = record { value = 2; front = 2 ∷ []; back = g.2.0; first = (omega arith, refl); second = rw g.1 (made g.0 g.2.0 g.2.2); whole = g.2.1 }
to_word Reference text g = record { value = 3; front = 3 ∷ []; back = []; first = (omega arith, refl); second = (refl, refl); whole = g }

result_word_law : Reads result_word_at result_word
unfolding result_word_at
result_word_law = from_law (λ at. same_law (then_law one_law (λ kind. word_law at kind))
    (λ x t g. subst (λ z. result_word x z) (sym (g.whole ∙ ap (λ z. z ++ g.back) (g.first.1 ∙ byte_alone g.value g.first.0))) (from_word g.value x g.back g.second))
    to_word)

-- ---- what a method gave

printed_law : Reads printed_at printed
unfolding printed_at
printed_law = then_law four_law (λ len. bytes_law len)

returned_last : ReadsLast returned_at returned
unfolding returned_at
returned_last = then_last printed_law (λ output. then_last result_word_law (λ result. then_last four_law (λ count. made_last _ stream_last)))

-- ---- faults

-- what stands behind an outcome that is a fault's number
told : ℕ → Grammar ServeFault
told outcome =
    pick (eqb outcome 1) (give NoSuchMethod)
    (pick (eqb outcome 2) (Then name (λ class. give (Thrown class)))
    (pick (eqb outcome 3) (give BudgetSpent)
    (pick (eqb outcome 4) (give TooDeep)
    (pick (eqb outcome 5) (give HeapFull)
    (pick (eqb outcome 6) (Then name (λ class. give (NotSendable class)))
    (pick (eqb outcome 7) (give ReplyTooLong)
    (pick (eqb outcome 8) (give OutputTooLong)
    (pick (eqb outcome 9) (Then u1 (λ code. give (BadRequest code)))
    (pick (eqb outcome 10) (give NoMemory) none)))))))))

told_law : (at outcome : ℕ) → Reads (fault_at at outcome) (told outcome)
unfolding fault_at told
told_law at outcome =
    pick_law (eqb outcome 1) (give_law NoSuchMethod)
    (pick_law (eqb outcome 2) (then_law name_law (λ class. give_law (Thrown class)))
    (pick_law (eqb outcome 3) (give_law BudgetSpent)
    (pick_law (eqb outcome 4) (give_law TooDeep)
    (pick_law (eqb outcome 5) (give_law HeapFull)
    (pick_law (eqb outcome 6) (then_law name_law (λ class. give_law (NotSendable class)))
    (pick_law (eqb outcome 7) (give_law ReplyTooLong)
    (pick_law (eqb outcome 8) (give_law OutputTooLong)
    (pick_law (eqb outcome 9) (then_law one_law (λ code. give_law (BadRequest code)))
    (pick_law (eqb outcome 10) (give_law NoMemory) (none_law (faults.Outcome at)))))))))))

from_told : (n : ℕ) (f : ServeFault) (t : List ℕ) → told n f t → fault f (n ∷ t)
unfolding told
from_told n f t g0 =
    picked (eqb n 1) _ _ f t g0 (λ b g. let h = eqb-true n 1 b in rw (g.0, g.1, h) refl) (λ b0 g1.
    picked (eqb n 2) _ _ f t g1 (λ b g. let h = eqb-true n 2 b in let l = leaf g in rw l.1 (t, rw h refl, l.2)) (λ b1 g2.
    picked (eqb n 3) _ _ f t g2 (λ b g. let h = eqb-true n 3 b in rw (g.0, g.1, h) refl) (λ b2 g3.
    picked (eqb n 4) _ _ f t g3 (λ b g. let h = eqb-true n 4 b in rw (g.0, g.1, h) refl) (λ b3 g4.
    picked (eqb n 5) _ _ f t g4 (λ b g. let h = eqb-true n 5 b in rw (g.0, g.1, h) refl) (λ b4 g5.
    picked (eqb n 6) _ _ f t g5 (λ b g. let h = eqb-true n 6 b in let l = leaf g in rw l.1 (t, rw h refl, l.2)) (λ b5 g6.
    picked (eqb n 7) _ _ f t g6 (λ b g. let h = eqb-true n 7 b in rw (g.0, g.1, h) refl) (λ b6 g7.
    picked (eqb n 8) _ _ f t g7 (λ b g. let h = eqb-true n 8 b in rw (g.0, g.1, h) refl) (λ b7 g8.
    picked (eqb n 9) _ _ f t g8 (λ b g. let h = eqb-true n 9 b in let l = leaf g in rw l.1 (t, rw h refl, l.2)) (λ b8 g9.
    picked (eqb n 10) _ _ f t g9 (λ b g. let h = eqb-true n 10 b in rw (g.0, g.1, h) refl) (λ b9 g10. absurd g10))))))))))

-- ---- bodies

-- what stands behind an outcome
outcome : ℕ → Grammar ReplyBody
outcome n = pick (eqb n 0) returned (Then (told n) (λ f. give (Refused f)))

outcome_last : (at n : ℕ) → ReadsLast (outcome_at at n) (outcome n)
unfolding outcome_at outcome
outcome_last at n = pick_last (eqb n 0) returned_last (last_of (then_law (told_law at n) (λ f. give_law (Refused f))))

from_returned : (n : ℕ) (b : ReplyBody) (t : List ℕ) → n ≡ 0 → returned b t → reply_body b (n ∷ t)
from_returned n b t h g =
    let is = g.second.second.second.second.0 in
    rw is (t, rw h refl, subst (λ z. returned z t) is g)

from_outcome : (n : ℕ) (b : ReplyBody) (t : List ℕ) → outcome n b t → reply_body b (n ∷ t)
unfolding outcome
from_outcome n b t g0 =
    picked (eqb n 0) _ _ b t g0 (λ yes g. from_returned n b t (eqb-true n 0 yes) g)
    (λ no g. let l = leaf g in rw l.1 (from_told n l.0 t l.2))

-- a fault that tells nothing
alone : (n : ℕ) (f : ServeFault) (text : List ℕ) → n < 256 → outcome n (Refused f) [] → text ≡ n ∷ [] → Then u1 outcome (Refused f) text
alone n f text lt g e = record { value = n; front = n ∷ []; back = []; first = (lt, sym (byte_alone n lt)); second = g; whole = e }

to_outcome : (b : ReplyBody) (text : List ℕ) → reply_body b text → Then u1 outcome b text
unfolding outcome told
to_outcome (Returned output result count bytes) text g = record { value = 0; front = 0 ∷ []; back = g.0; first = (omega arith, refl); second = g.2; whole = g.1 }
to_outcome (Refused NoSuchMethod) text g = alone 1 NoSuchMethod text (omega arith) (made NoSuchMethod [] (refl, refl)) g
to_outcome (Refused (Thrown class)) text g = record { value = 2; front = 2 ∷ []; back = g.0; first = (omega arith, refl); second = made (Thrown class) g.0 (made class g.0 g.2); whole = g.1 }
to_outcome (Refused BudgetSpent) text g = alone 3 BudgetSpent text (omega arith) (made BudgetSpent [] (refl, refl)) g
to_outcome (Refused TooDeep) text g = alone 4 TooDeep text (omega arith) (made TooDeep [] (refl, refl)) g
to_outcome (Refused HeapFull) text g = alone 5 HeapFull text (omega arith) (made HeapFull [] (refl, refl)) g
to_outcome (Refused (NotSendable class)) text g = record { value = 6; front = 6 ∷ []; back = g.0; first = (omega arith, refl); second = made (NotSendable class) g.0 (made class g.0 g.2); whole = g.1 }
to_outcome (Refused ReplyTooLong) text g = alone 7 ReplyTooLong text (omega arith) (made ReplyTooLong [] (refl, refl)) g
to_outcome (Refused OutputTooLong) text g = alone 8 OutputTooLong text (omega arith) (made OutputTooLong [] (refl, refl)) g
to_outcome (Refused (BadRequest code)) text g = record { value = 9; front = 9 ∷ []; back = g.0; first = (omega arith, refl); second = made (BadRequest code) g.0 (made code g.0 g.2); whole = g.1 }
to_outcome (Refused NoMemory) text g = alone 10 NoMemory text (omega arith) (made NoMemory [] (refl, refl)) g

reply_body_last : ReadsLast reply_body_at reply_body
unfolding reply_body_at
reply_body_last = from_last (λ at. same_last (then_last one_law (λ n. outcome_last at n))
    (λ b t g. subst (λ z. reply_body b z) (sym (g.whole ∙ ap (λ z. z ++ g.back) (g.first.1 ∙ byte_alone g.value g.first.0))) (from_outcome g.value b g.back g.second))
    to_outcome)

pub reply_last : ReadsLast reply_at reply
unfolding reply_at
reply_last = then_last four_law (λ number. made_last _ reply_body_last)
