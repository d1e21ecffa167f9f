-- Exception handlers that pass are those that the code may have.
use Rattle.std.proofs.Common.{◌≡◌, ℕ, suc, ◌+◌, cond, List, [], ◌∷◌, Ok, Err, refl, ap}
use Rattle.std.specs.List.{All}
use Rattle.std.proofs.lemmas.List.Elements.{All-nil, All-cons, All-head, All-tail}
use Rattle.nr_base.proofs.Laws.{test_ok}
use Rattle.nr_prog.specs.declared.pool.PoolEntry.{PoolEntry}
use Rattle.nr_prog.specs.declared.member.Handler.{Handler}
use Rattle.nr_prog.specs.declared.body.instruction.Instr.{Instr}
use Rattle.nr_prog.specs.Pool.{IsText}
use Rattle.nr_prog.specs.BodyStarts.{is_start}
use Rattle.nr_prog.specs.BodyText.{IsHandler}
use Rattle.nr_instrs.specs.declared.fault.CodeFault.TheVariants as faults
use Rattle.nr_instrs.specs.Checks.{walk}
use Rattle.nr_code.specs.HandlerChecks.{is_handler, handler_step, handlers_checked}
use Rattle.nr_instrs.proofs.Facts.{Decides, both, either, equal, at_most, any_class}
use Rattle.nr_instrs.proofs.OperandLaws.{is_true}
use Rattle.nr_instrs.proofs.Settling.{then_ok, then_gives}

decides : (pool : List PoolEntry) (len : ℕ) (is : List Instr) (h : Handler) → All IsText pool → Decides (is_handler pool len is h) (IsHandler pool len is h)
unfolding is_handler
decides pool len is h all =
    let d = both (both (both (both (is_true (is_start is h.start)) (either (is_true (is_start is h.end)) (equal h.end len))) (at_most (suc h.start) h.end)) (is_true (is_start is h.handler))) (either (equal h.catch_type 0) (any_class pool h.catch_type all)) in
    record {
      is = λ e. let p = d.is e in record { start = p.0.0.0.0; end = p.0.0.0.1; order = p.0.0.1; handler = p.0.1; catches = p.1 };
      of = λ p. d.of ((((p.start, p.end), p.order), p.handler), p.catches);
    }

walked : (pool : List PoolEntry) (len : ℕ) (is : List Instr) (hs : List Handler) (n m : ℕ) → All IsText pool → walk (handler_step pool len is) n hs ≡ Ok m → All (IsHandler pool len is) hs
unfolding walk handler_step
walked pool len is [] n m all e = All-nil (IsHandler pool len is)
walked pool len is (h ∷ hs) n m all e =
    let a = then_ok (handler_step pool len is n h) (λ t. walk (handler_step pool len is) t hs) m e in
    let b = test_ok (is_handler pool len is h) (faults.HandlerRange n) (n + 1) a.value a.was in
    All-cons (IsHandler pool len is) h hs ((decides pool len is h all).is b.0) (walked pool len is hs a.value m all a.gave)

walks : (pool : List PoolEntry) (len : ℕ) (is : List Instr) (hs : List Handler) (n : ℕ) → All IsText pool → All (IsHandler pool len is) hs → (m : ℕ) × (walk (handler_step pool len is) n hs ≡ Ok m)
unfolding walk handler_step
walks pool len is [] n all each = (n, refl)
walks pool len is (h ∷ hs) n all each =
    let here = (decides pool len is h all).of (All-head (IsHandler pool len is) h hs each) in
    let more = walks pool len is hs (n + 1) all (All-tail (IsHandler pool len is) h hs each) in
    let one : handler_step pool len is n h ≡ Ok (n + 1) = ap (λ b. cond b (Ok (n + 1)) (Err (faults.HandlerRange n))) here in
    (more.0, then_gives (handler_step pool len is n h) (λ t. walk (handler_step pool len is) t hs) (n + 1) more.0 one more.1)

pub ranges_are : (pool : List PoolEntry) (len : ℕ) (is : List Instr) (hs : List Handler) (m : ℕ) → All IsText pool → handlers_checked pool len is hs ≡ Ok m → All (IsHandler pool len is) hs
unfolding handlers_checked
ranges_are pool len is hs m all e = walked pool len is hs 0 m all e

pub ranges_pass : (pool : List PoolEntry) (len : ℕ) (is : List Instr) (hs : List Handler) → All IsText pool → All (IsHandler pool len is) hs → (m : ℕ) × (handlers_checked pool len is hs ≡ Ok m)
unfolding handlers_checked
ranges_pass pool len is hs all each = walks pool len is hs 0 all each
