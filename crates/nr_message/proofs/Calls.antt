-- The law of calls.
use Rattle.std.proofs.Common.{◌≡◌, ℕ, Bool, true, false, eqb, leb, List, [], ◌∷◌, ◌++◌, refl, sym, ap, subst, ◌∙◌, arith}
use Rattle.std.specs.Prelude.{◌&&◌}
use Rattle.std.specs.Int.{w32, w64, cast_signed}
use Rattle.std.proofs.lemmas.Bool.{eqb-true, leb-true, le-leb}
use Rattle.std.proofs.lemmas.List.{append-nil}
use Rattle.nr_base.specs.Grammar.{Grammar, give, none, Then, pick}
use Rattle.nr_base.specs.ModifiedUtf8.{within}
use Rattle.nr_base.proofs.Laws.{Reads, give_law, none_law, then_law, pick_law, from_law, same_law}
use Rattle.nr_base.proofs.Numbers.{byte_alone}
use Rattle.nr_base.proofs.Lists.{each_law, leaf, made, picked, picks_first}
use Rattle.nr_message.specs.declared.message.Arg.{Arg}
use Rattle.nr_message.specs.declared.message.Arg.TheVariants.{Int, Long, Reference}
use Rattle.nr_message.specs.declared.fault.MessageFault.TheVariants as faults
use Rattle.nr_message.specs.Text.{u1, u4, u8, budget, arg, arg_list, call}
use Rattle.nr_message.specs.Reading.{budget_at, value_at, arg_at, arg_list_at, call_at}
use Rattle.nr_message.proofs.Lasts.{ReadsLast, Exhausts, then_last, made_last, then_exhausts, made_exhausts}
use Rattle.nr_message.proofs.Parts.{one_law, four_law, eight_law, name_law, stream_last, stream_exhausts}

-- ---- budgets

both : (a b : Bool) → (a && b) ≡ true → (a ≡ true) × (b ≡ true)
both true true e = (refl, refl)
both true false e = absurd cc
both false b e = absurd cc

budget_law : Reads budget_at budget
unfolding budget_at
budget_law = same_law (then_law eight_law (λ n. pick_law (within 1 1000000000 n) (give_law n) (none_law (faults.BudgetBad n))))
    (λ x t g. picked (within 1 1000000000 g.value) _ _ x g.back g.second
    (λ yes last.
    let in_range = both (leb 1 g.value) (leb g.value 1000000000) yes in
    let whole : t ≡ g.front = g.whole ∙ ap (λ (z : List ℕ). g.front ++ z) last.1 ∙ append-nil g.front in
    rw last.0 (leb-true _ _ in_range.0, leb-true _ _ in_range.1, subst (λ (z : List ℕ). u8 g.value z) (sym whole) g.first))
    (λ no last. absurd last))
    (λ x t g. record {
      value = x;
      front = t;
      back = [];
      first = g.2;
      second = picks_first (within 1 1000000000 x) _ _ x [] (rw (le-leb 1 x g.0, le-leb x 1000000000 g.1) refl) (refl, refl);
      whole = sym (append-nil t);
    })

-- ---- arguments

abbrev int : ℕ → Arg
int bits = Int (cast_signed w32 bits)

abbrev long : ℕ → Arg
long bits = Long (cast_signed w64 bits)

-- what stands behind a kind
value : ℕ → Grammar Arg
value kind =
    pick (eqb kind 1) (Then u4 (λ bits. give (int bits)))
    (pick (eqb kind 2) (Then u8 (λ bits. give (long bits)))
    (pick (eqb kind 3) (give Reference) none))

value_law : (at kind : ℕ) → Reads (value_at at kind) (value kind)
unfolding value_at value
value_law at kind =
    pick_law (eqb kind 1) (then_law four_law (λ bits. give_law (int bits)))
    (pick_law (eqb kind 2) (then_law eight_law (λ bits. give_law (long bits)))
    (pick_law (eqb kind 3) (give_law Reference) (none_law (faults.ArgKind at))))

from_value : (kind : ℕ) (x : Arg) (t : List ℕ) → value kind x t → arg x (kind ∷ t)
unfolding value
from_value kind x t g0 =
    picked (eqb kind 1) _ _ x t g0 (λ b g. let h = eqb-true kind 1 b in let l = leaf g in rw l.1 (l.0, refl, (t, rw h refl, l.2))) (λ b0 g1.
    picked (eqb kind 2) _ _ x t g1 (λ b g. let h = eqb-true kind 2 b in let l = leaf g in rw l.1 (l.0, refl, (t, rw h refl, l.2))) (λ b1 g2.
    picked (eqb kind 3) _ _ x t g2 (λ b g. let h = eqb-true kind 3 b in rw (g.0, g.1, h) refl) (λ b2 g3. absurd g3)))

to_value : (x : Arg) (text : List ℕ) → arg x text → Then u1 value x text
unfolding value
to_value (Int z) text g = record { value = 1; front = 1 ∷ []; back = g.2.0; first = (omega arith, refl); second = rw g.1 (made g.0 g.2.0 g.2.2); whole = g.2.1 }
to_value (Long z) text g = record { value = 2; front = 2 ∷ []; back = g.2.0; first = (omega arith, refl); second = rw g.1 (made g.0 g.2.0 g.2.2); whole = g.2.1 }
to_value Reference text g = record { value = 3; front = 3 ∷ []; back = []; first = (omega arith, refl); second = (refl, refl); whole = g }

arg_law : Reads arg_at arg
unfolding arg_at
arg_law = from_law (λ at. same_law (then_law one_law (λ kind. value_law at kind))
    (λ x t g. subst (λ z. arg x z) (sym (g.whole ∙ ap (λ z. z ++ g.back) (g.first.1 ∙ byte_alone g.value g.first.0))) (from_value g.value x g.back g.second))
    to_value)

arg_list_law : Reads arg_list_at arg_list
unfolding arg_list_at
arg_list_law = then_law one_law (λ count. each_law arg_law count)

-- ---- calls

pub call_last : ReadsLast call_at call
unfolding call_at
call_last = then_last four_law (λ number. then_last budget_law (λ steps. then_last name_law (λ method. then_last name_law (λ desc.
    then_last arg_list_law (λ xs. made_last _ stream_last)))))

pub call_exhausts : Exhausts call_at
unfolding call_at
call_exhausts = then_exhausts _ _ (λ number. then_exhausts _ _ (λ steps. then_exhausts _ _ (λ method. then_exhausts _ _ (λ desc.
    then_exhausts _ _ (λ xs. made_exhausts _ _ stream_exhausts)))))
