-- A call has one text.
use Rattle.std.proofs.Common.{◌≡◌, ℕ, List, [], ◌∷◌, ◌++◌, length, sym, ap, ◌∙◌}
use Rattle.std.proofs.lemmas.List.{append-nil}
use Rattle.std.specs.List.{flat_map}
use Rattle.std.specs.Int.{w8, w16, w32, w64, to_be_bytes, cast_unsigned}
use Rattle.std.proofs.lemmas.Int.{of_z-to_z}
use Rattle.nr_base.specs.Grammar.{Each}
use Rattle.nr_message.specs.declared.message.Arg.{Arg}
use Rattle.nr_message.specs.declared.message.Arg.TheVariants.{Int, Long, Reference}
use Rattle.nr_message.specs.declared.message.Call.{Call}
use Rattle.nr_message.specs.Text.{name, arg, arg_list, call}
use Rattle.nr_message.specs.Writing.{name_text, arg_text, args_text, call_text}
use Rattle.nr_message.proofs.Written.{regrouped}

both : (a b c d : List ℕ) → a ≡ b → c ≡ d → a ++ c ≡ b ++ d
both a b c d e f = ap (λ z. z ++ c) e ∙ ap (λ z. b ++ z) f

name_is : (x t : List ℕ) → name x t → t ≡ name_text x
name_is x t g =
    let u = g.1 in
    u.whole ∙ both u.front (to_be_bytes w16 (length x)) u.back x (u.first.1 ∙ ap (to_be_bytes w16) (sym u.second.0)) u.second.1

arg_is : (x : Arg) (t : List ℕ) → arg x t → t ≡ arg_text x
arg_is (Int z) t g = g.2.1 ∙ ap (λ (a : List ℕ). 1 ∷ a) (g.2.2.1 ∙ ap (to_be_bytes w32) (sym (ap (cast_unsigned w32) g.1 ∙ of_z-to_z w32 g.0 g.2.2.0)))
arg_is (Long z) t g = g.2.1 ∙ ap (λ (a : List ℕ). 2 ∷ a) (g.2.2.1 ∙ ap (to_be_bytes w64) (sym (ap (cast_unsigned w64) g.1 ∙ of_z-to_z w64 g.0 g.2.2.0)))
arg_is Reference t g = g

each_is : (xs : List Arg) (t : List ℕ) → Each arg xs t → t ≡ flat_map arg_text xs
each_is [] t g = g
each_is (x ∷ xs) t g = g.4 ∙ both g.0 (arg_text x) g.1 (flat_map arg_text xs) (arg_is x g.0 g.2) (each_is xs g.1 g.3)

args_is : (xs : List Arg) (t : List ℕ) → arg_list xs t → t ≡ args_text xs
args_is xs t g = g.whole ∙ both g.front (to_be_bytes w8 (length xs)) g.back (flat_map arg_text xs) (g.first.1 ∙ ap (to_be_bytes w8) (sym g.second.0)) (each_is xs g.back g.second.1)

pub call_is : (m : Call) (t : List ℕ) → call m t → t ≡ call_text m
call_is m t g =
    let b = g.second in
    let n = b.second in
    let d = n.second in
    let x = d.second in
    let s = x.second in
    let is = s.second.0 in
    g.whole ∙ both g.front (to_be_bytes w32 g.value) g.back _ g.first.1
    (b.whole ∙ both b.front (to_be_bytes w64 b.value) b.back _ b.first.2.1
    (n.whole ∙ both n.front (name_text n.value) n.back _ (name_is n.value n.front n.first)
    (d.whole ∙ both d.front (name_text d.value) d.back _ (name_is d.value d.front d.first)
    (x.whole ∙ both x.front (args_text x.value) x.back _ (args_is x.value x.front x.first)
    (s.whole ∙ both s.front s.value s.back [] s.first s.second.1 ∙ append-nil s.value)))))
    ∙ sym (regrouped (to_be_bytes w32 g.value) (to_be_bytes w64 b.value) (name_text n.value) (name_text d.value) (args_text x.value ++ s.value))
    ∙ ap call_text (sym is)
