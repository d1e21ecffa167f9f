-- Classes laid out one after the other.
use Rattle.std.proofs.Common.{◌≡◌, ℕ, ◌+◌, Bool, true, false, not, cond, List, [], ◌∷◌, ◌++◌, length, map, refl, sym, ap, ◌∙◌}
use Rattle.std.specs.Prelude.{Option, Some, None, reverse, is_some, if◌then◌else◌}
use Rattle.std.specs.List.{filter, flat_map, range_with_len, zip}
use Rattle.std.specs.Option.{option_map_or, option_to_list}
use Rattle.std.proofs.lemmas.Grind.{flat_map-append}
use Rattle.std.proofs.lemmas.List.{reverse-append}
use Rattle.nr_link.proofs.Loops.{append_nil}
use Rattle.nr_prog.specs.declared.member.Field.{Field}
use Rattle.nr_prog.specs.declared.parts.ClassParts.{ClassParts}
use Rattle.nr_linked.specs.declared.program.tables.ClassInfo.{ClassInfo}
use Rattle.nr_linked.specs.declared.program.tables.ProgramTables.{ProgramTables}
use Rattle.nr_prog.specs.Members.{is_static}
use Rattle.nr_linked.specs.Programs.{class_at}
use Rattle.nr_linkrules.specs.Layout.{laid_class, laid_out, numbered, slot_of, slots_declared, slots_in, slots_read, supers_in}
use Rattle.nr_link.specs.Entries.{slot_or_none}
use Rattle.nr_link.specs.Laid.{above_in, laid_by}
use Rattle.nr_link.specs.declared.layout.Laid.{Laid}

-- ---- slots

pub slots_by_fields : (P : ProgramTables) (c : ℕ) (parts : ClassParts) → flat_map (λ f. option_to_list (slot_or_none P c parts.pool f)) parts.fields ≡ slots_read P c parts
unfolding slots_read
slots_by_fields P c parts = each parts.fields
  where
    by_test : (b : Bool) (f : Field) (fs : List Field) → option_to_list (if b then None else slot_of P c parts.pool f) ++ flat_map (λ f. option_to_list (slot_of P c parts.pool f)) fs
        ≡ flat_map (λ f. option_to_list (slot_of P c parts.pool f)) (cond (not b) (f ∷ fs) fs)
    by_test true f fs = refl
    by_test false f fs = refl

    each : (fs : List Field) → flat_map (λ f. option_to_list (slot_or_none P c parts.pool f)) fs
        ≡ flat_map (λ f. option_to_list (slot_of P c parts.pool f)) (filter (λ f. not (is_static f.flags)) fs)
    each [] = refl
    each (f ∷ fs) = ap (λ ss. option_to_list (slot_or_none P c parts.pool f) ++ ss) (each fs)
        ∙ by_test (is_static f.flags) f (filter (λ (f : Field). not (is_static f.flags)) fs)

pub declared_by : (P : ProgramTables) (c : ℕ) (e : ClassInfo) (parts : ClassParts) (fs : List Field) → class_at P c ≡ Some e → e.read ≡ Some parts → fs ≡ parts.fields
    → flat_map (λ f. option_to_list (slot_or_none P c parts.pool f)) fs ≡ slots_declared P c
declared_by P c e parts fs at read is =
    ap (flat_map (λ f. option_to_list (slot_or_none P c parts.pool f))) is ∙ slots_by_fields P c parts
    ∙ sym (ap (λ o. option_map_or (λ (e : ClassInfo). option_map_or (slots_read P c) e.read []) o []) at ∙ ap (λ o. option_map_or (slots_read P c) o []) read)

-- those of the classes behind come first
pub from_top : {X Y : Type 0} (f : X → List Y) (x : X) (xs : List X) → flat_map f (reverse (x ∷ xs)) ≡ flat_map f (reverse xs) ++ f x
from_top f x xs =
    ap (flat_map f) (reverse-append (x ∷ []) xs) ∙ flat_map-append f (reverse xs) (x ∷ []) ∙ ap (λ ys. flat_map f (reverse xs) ++ ys) (append_nil (f x))

-- ---- the table

by_read : {X : Type 0} (r : Option X) (a b : ClassInfo) → (if is_some r then a else b) ≡ option_map_or (λ _. a) r b
by_read None a b = refl
by_read (Some x) a b = refl

one_laid : (P : ProgramTables) (k : ℕ) (e : ClassInfo) → laid_by e (above_in P k) ≡ laid_class P k e
one_laid P k e = by_read e.read (record e { supers = supers_in P k; slots = slots_in P k }) e

each_laid : (P : ProgramTables) (k : ℕ) (es : List ClassInfo)
    → map (λ (p : ClassInfo × Laid). laid_by p.0 p.1) (zip es (map (above_in P) (range_with_len k (length es)))) ≡ numbered (laid_class P) k es
unfolding numbered
each_laid P k [] = refl
each_laid P k (e ∷ es) = ap (λ l. l ∷ map (λ (p : ClassInfo × Laid). laid_by p.0 p.1) (zip es (map (above_in P) (range_with_len (k + 1) (length es))))) (one_laid P k e)
    ∙ ap (λ ls. laid_class P k e ∷ ls) (each_laid P (k + 1) es)

pub laid_by_parts : (P : ProgramTables) (parts : List Laid) (laid : List ClassInfo) → parts ≡ map (above_in P) (range_with_len 0 (length P.classes))
    → laid ≡ map (λ (p : ClassInfo × Laid). laid_by p.0 p.1) (zip P.classes parts) → record P { classes = laid } ≡ laid_out P
unfolding laid_out
laid_by_parts P parts laid e f =
    ap (λ ls. record P { classes = ls }) (f ∙ ap (λ ps. map (λ (p : ClassInfo × Laid). laid_by p.0 p.1) (zip P.classes ps)) e ∙ each_laid P 0 P.classes)
