-- Rounds of a batch: the next answer, and one round more.
use Rattle.std.proofs.Common.{◌≡◌, ◌⊎◌, ◌-◌, ◌*◌, ◌<◌, ◌≤◌, ◌++◌, ℕ, suc, List, [], ◌∷◌, Bool, true, false, refl, sym, ap, ◌∙◌, subst, arith, inl, inr, nat_le}
use Rattle.std.specs.List.{AllByRecursion}
use Rattle.std.proofs.lemmas.Grind.{common_steps}
use Rattle.nr_linked.specs.declared.program.tables.ProgramTables.{ProgramTables}
use Rattle.nr_frame.specs.declared.kind.FrameKind.TheVariants as frame_kinds
use Rattle.nr_frame.proofs.Fronts.{true_le}
use Rattle.nr_graph.specs.Sorted.{put}
use Rattle.nr_answers.specs.Batches.{Timed, Times, in_time, gave_up, turn_steps, round_of, in_rounds, reply_frames, frame_text}
use Rattle.nr_answers.specs.Hosts.{Held, Runs, Gives, its_reply, gives_up, turned_once}
use Rattle.nr_answers.specs.Progress.{HasMore}
use Rattle.nr_answers.specs.Responders.{DueIn, ready, waits, call_of}

-- ---- the first answer

abbrev pub is_no_later : Timed → Timed → Bool
is_no_later s t = nat_le s.round t.round

not_le : (m n : ℕ) → n < m → nat_le m n ≡ false
not_le m n lt = grind (arith, common_steps)

-- one that is no later than all others comes first
put_first : (t : Timed) (ts : List Timed) → AllByRecursion (λ u. t.round ≤ u.round) ts → put is_no_later t ts ≡ t ∷ ts
put_first t [] all = refl
put_first t (u ∷ us) all = let le : nat_le t.round u.round ≡ true = true_le t.round u.round all.0 in rw le refl

-- one that is later comes behind it
put_behind : (t u : Timed) (us : List Timed) → u.round < t.round → put is_no_later t (u ∷ us) ≡ u ∷ put is_no_later t us
put_behind t u us lt = let no : nat_le t.round u.round ≡ false = not_le t.round u.round lt in rw no refl

pub all_put : (Q : Timed → Type 0) (t : Timed) (ts : List Timed) → Q t → AllByRecursion Q ts → AllByRecursion Q (put is_no_later t ts)
all_put Q t [] q all = (q, tt)
all_put Q t (u ∷ us) q all = by_test (nat_le t.round u.round) refl (all_put Q t us q all.1)
  where
    by_test : (b : Bool) → nat_le t.round u.round ≡ b → AllByRecursion Q (put is_no_later t us) → AllByRecursion Q (put is_no_later t (u ∷ us))
    by_test true is more = rw is (q, all)
    by_test false is more = rw is (all.0, more)

pub all_in_rounds : (Q : Timed → Type 0) (ts : List Timed) → AllByRecursion Q ts → AllByRecursion Q (in_rounds ts)
all_in_rounds Q [] all = tt
all_in_rounds Q (t ∷ ts) all = all_put Q t (in_rounds ts) all.0 (all_in_rounds Q ts all.1)

-- an answer that is there comes before later ones, and before others of its round that stand behind it
first_of : (t : Timed) (us vs : List Timed) → AllByRecursion (λ u. t.round < u.round) us → AllByRecursion (λ v. t.round ≤ v.round) vs
    → in_rounds (us ++ t ∷ vs) ≡ t ∷ in_rounds (us ++ vs)
first_of t [] vs later rest = put_first t (in_rounds vs) (all_in_rounds (λ u. t.round ≤ u.round) vs rest)
first_of t (u ∷ us) vs later rest =
    ap (λ (ts : List Timed). put is_no_later u ts) (first_of t us vs later.1 rest) ∙ put_behind u t (in_rounds (us ++ vs)) later.0

pub first_said : (t : Timed) (us vs : List Timed) → AllByRecursion (λ u. t.round < u.round) us → AllByRecursion (λ v. t.round ≤ v.round) vs
    → reply_frames (in_rounds (us ++ t ∷ vs)) ≡ frame_text frame_kinds.Reply t.text ++ reply_frames (in_rounds (us ++ vs))
first_said t us vs later rest = ap reply_frames (first_of t us vs later rest)

-- ---- one round more

round_is : (steps turns : ℕ) → steps ≤ turn_steps * turns → turns ≤ round_of steps → 1 ≤ turns → round_of steps ≡ turns
round_is steps turns made no_more some = omega arith

-- what a job that was turned in round n + 1 gives, is an answer of that round
pub given_in_time : (P : ProgramTables) (service n : ℕ) (h : Held) (text : List ℕ) → h.turns ≡ suc n → Gives P service h text
    → Times P service (call_of h) (record { round = suc n; text = text })
given_in_time P service n h text turns (its_reply steps well reply made no_more) =
    in_time reply (sym turns ∙ sym (round_is steps h.turns made no_more (omega arith)))
given_in_time P service n h text turns (gives_up failed late is) = gave_up n (by_turns late) refl is
  where
    by_turns : (h.turns ≡ 0) ⊎ HasMore P service h.body (turn_steps * (h.turns - 1)) → (n ≡ 0) ⊎ HasMore P service h.body (turn_steps * n)
    by_turns (inl none) = absurd (omega arith)
    by_turns (inr more) = inr (subst (λ (k : ℕ). HasMore P service h.body (turn_steps * k)) (omega arith) more)

-- and what one gives that wasn't turned, is an answer of the first round
pub given_at_once : (P : ProgramTables) (service : ℕ) (h : Held) (text : List ℕ) → h.turns ≡ 0 → Gives P service h text
    → Times P service (call_of h) (record { round = 1; text = text })
given_at_once P service h text turns (its_reply steps well reply made no_more) = in_time reply (round_none steps h.turns made turns)
  where
    round_none : (steps turns : ℕ) → steps ≤ turn_steps * turns → turns ≡ 0 → 1 ≡ round_of steps
    round_none steps turns made none = omega arith
given_at_once P service h text turns (gives_up failed late is) = gave_up 0 (inl refl) refl is

-- what may be said after a round, might be said before it
pub round_more : (P : ProgramTables) (service n : ℕ) (h : Held) (failed : Bool) (t : Timed) → Runs P service h
    → DueIn P service (suc n) (turned_once h failed) t → DueIn P service n h t
round_more P service n h failed t runs (ready done times is) = waits runs times (omega arith)
round_more P service n h failed t runs (waits more times later) = waits runs times (omega arith)
