-- Lists of classes in which each stands once.
use Rattle.std.proofs.Common.{◌≡◌, ℕ, zero, suc, ◌+◌, ◌<◌, ◌≤◌, ◌⊎◌, inl, inr, Bool, true, false, List, [], ◌∷◌, ◌++◌, length, get_or, drop, replicate, find, refl, sym, ap, subst, ◌∙◌, arith, append_assoc, add-one, drop-cons}
use Rattle.std.specs.Prelude.{Option, Some, None, ◌==◌, not, if◌then◌else◌, slice_get, slice_set}
use Rattle.std.specs.List.{flat_map}
use Rattle.std.specs.Option.{option_map_or, option_or}
use Rattle.std.proofs.lemmas.Bool.{cases_Bool, eqb-false, eqb-true}
use Rattle.std.proofs.lemmas.Grind.{flat_map-append}
use Rattle.std.proofs.lemmas.List.{drop_all, get_or-replicate, get_or-set_other, get_or_past, length-replicate}
use Rattle.nr_linked.specs.declared.program.tables.ClassInfo.{ClassInfo}
use Rattle.nr_linked.specs.declared.program.tables.ProgramTables.{ProgramTables}
use Rattle.nr_links.specs.Resolution.{interfaces_of}
use Rattle.nr_link.specs.Leading.{LeadAlike, LeadAsInterfaces, list_at}
use Rattle.nr_link.proofs.Loops.{append_nil}
use Rattle.nr_link.proofs.Resolving.{find_both}

-- ---- searches

-- where nothing is found by way of the classes, nothing is found by way of class s
abbrev pub Covers : List ℕ → ℕ → Type 0
Covers cs s = (above : ℕ → List ℕ) (test : ℕ → Bool) → find test (flat_map above cs) ≡ None → find test (above s) ≡ None

-- the search through one list and then through another
parted : (above : ℕ → List ℕ) (test : ℕ → Bool) (cs ds : List ℕ) → find test (flat_map above (cs ++ ds)) ≡ option_or (find test (flat_map above cs)) (find test (flat_map above ds))
parted above test cs ds = ap (find test) (flat_map-append above cs ds) ∙ find_both test (flat_map above cs) (flat_map above ds)

first_none : (o p : Option ℕ) → option_or o p ≡ None → o ≡ None
first_none None p e = refl
first_none (Some d) p e = absurd cc

second_none : (o p : Option ℕ) → option_or o p ≡ None → p ≡ None
second_none None p e = e
second_none (Some d) p e = absurd cc

covers_more : (cs : List ℕ) (t s : ℕ) → Covers cs s → Covers (cs ++ t ∷ []) s
covers_more cs t s h above test none =
    h above test (first_none (find test (flat_map above cs)) (find test (flat_map above (t ∷ []))) (sym (parted above test cs (t ∷ [])) ∙ none))

covers_last : (cs : List ℕ) (s : ℕ) → Covers (cs ++ s ∷ []) s
covers_last cs s above test none =
    sym (ap (find test) (append_nil (above s)))
    ∙ second_none (find test (flat_map above cs)) (find test (flat_map above (s ∷ []))) (sym (parted above test cs (s ∷ [])) ∙ none)

-- a class that is covered may be left out
left_out : (cs ds : List ℕ) (s : ℕ) → Covers cs s → LeadAlike (cs ++ ds) (cs ++ s ∷ ds)
left_out cs ds s h above test =
    parted above test cs ds ∙ by_first (find test (flat_map above cs)) refl ∙ sym (parted above test cs (s ∷ ds))
  where
    by_first : (o : Option ℕ) → find test (flat_map above cs) ≡ o → option_or o (find test (flat_map above ds)) ≡ option_or o (find test (flat_map above (s ∷ ds)))
    by_first (Some d) e = refl
    by_first None e = sym (find_both test (above s) (flat_map above ds) ∙ ap (λ o. option_or o (find test (flat_map above ds))) (h above test e))

-- ---- the loop

-- the classes that were kept lead, with those from place i on, to the same as all; what was seen is covered
pub record Kept (once : List ℕ) (seen : List Bool) (classes : List ℕ) (i : ℕ) : Type 0 where
  pub alike : LeadAlike (once ++ drop i classes) classes
  pub covered : (s : ℕ) → get_or seen s false ≡ true → Covers once s

unseen : (n s : ℕ) → get_or (replicate n false) s false ≡ false
unseen zero s = refl
unseen (suc n) zero = refl
unseen (suc n) (suc s) = unseen n s

pub begins : (n : ℕ) (classes : List ℕ) → Kept [] (replicate n false) classes 0
begins n classes = record {
  alike = λ above test. refl;
  covered = λ s e. absurd (differ (get_or (replicate n false) s false) (unseen n s) e);
}
  where
    differ : (b : Bool) → b ≡ false → b ≡ true → ⊥
    differ true e f = absurd cc
    differ false e f = absurd cc

one : (i : ℕ) (classes : List ℕ) (s : ℕ) → i < length classes → s ≡ get_or classes i s → drop i classes ≡ s ∷ drop (i + 1) classes
one i classes s lt here = rw (drop-cons classes i s lt, add-one i) (ap (λ x. x ∷ drop (suc i) classes) (sym here))

-- a bit that is set was set before, or is set now
set_at : (seen : List Bool) (s t : ℕ) (Holds : ℕ → Type 0) → Holds s → (get_or seen t false ≡ true → Holds t) → get_or (slice_set seen s true) t false ≡ true → Holds t
set_at seen s t Holds at_once before e = elim (cases_Bool (s == t)) [
  | inl same ↦ subst Holds (eqb-true s t same) at_once
  | inr ne ↦ before (sym (get_or-set_other seen s t true false (λ h. eqb-false s t ne (sym h))) ∙ e)
]

-- the class at place i is put at the end, where it was not seen
pub steps : (once more : List ℕ) (seen after : List Bool) (classes : List ℕ) (i s : ℕ) (marked : Bool) → i < length classes → s ≡ get_or classes i s → marked ≡ get_or seen s false
    → more ≡ once ++ (if not marked then s ∷ [] else []) → after ≡ slice_set seen s true → Kept once seen classes i → Kept more after classes (i + 1)
steps once more seen after classes i s true lt here marked grown set k = record {
  alike = λ above test.
      ap (λ cs. find test (flat_map above (cs ++ drop (i + 1) classes))) (grown ∙ append_nil once)
      ∙ left_out once (drop (i + 1) classes) s (k.covered s (sym marked)) above test
      ∙ ap (λ cs. find test (flat_map above (once ++ cs))) (sym (one i classes s lt here)) ∙ k.alike above test;
  covered = λ t e. subst (λ cs. Covers cs t) (sym (grown ∙ append_nil once)) (set_at seen s t (Covers once) (k.covered s (sym marked)) (k.covered t) (ap (λ bits. get_or bits t false) (sym set) ∙ e));
}
steps once more seen after classes i s false lt here marked grown set k = record {
  alike = λ above test.
      ap (λ cs. find test (flat_map above (cs ++ drop (i + 1) classes))) grown
      ∙ ap (λ cs. find test (flat_map above cs)) (append_assoc once (s ∷ []) (drop (i + 1) classes) ∙ ap (λ cs. once ++ cs) (sym (one i classes s lt here)))
      ∙ k.alike above test;
  covered = λ t e. subst (λ cs. Covers cs t) (sym grown) (set_at seen s t (Covers (once ++ s ∷ [])) (covers_last once s) (λ was. covers_more once s t (k.covered t was)) (ap (λ bits. get_or bits t false) (sym set) ∙ e));
}

pub kept_all : (once : List ℕ) (seen : List Bool) (classes : List ℕ) (i : ℕ) → length classes ≤ i → Kept once seen classes i → LeadAlike once classes
kept_all once seen classes i le k above test =
    ap (λ cs. find test (flat_map above cs)) (sym (append_nil once) ∙ ap (λ cs. once ++ cs) (sym (drop_all i classes le))) ∙ k.alike above test

-- ---- the lists of all classes

-- those of the first n classes stand there
pub record Built (P : ProgramTables) (lists : List (List ℕ)) (n : ℕ) : Type 0 where
  pub len : length lists ≡ n
  pub alike : (c : ℕ) → c < n → LeadAlike (list_at lists c) (interfaces_of P c)

pub none_built : (P : ProgramTables) → Built P [] 0
none_built P = record {
  len = refl;
  alike = λ c lt. absurd (omega (arith, lt));
}

at_end : (lists : List (List ℕ)) (last : List ℕ) → list_at (lists ++ last ∷ []) (length lists) ≡ last
at_end [] last = refl
at_end (cs ∷ lists) last = at_end lists last

before : (lists : List (List ℕ)) (last : List ℕ) (c : ℕ) → c < length lists → list_at (lists ++ last ∷ []) c ≡ list_at lists c
before [] last c lt = absurd (omega (arith, lt))
before (cs ∷ lists) last zero lt = refl
before (cs ∷ lists) last (suc c) lt = before lists last c (omega (arith, lt))

pub builds : (P : ProgramTables) (lists : List (List ℕ)) (last : List ℕ) (n : ℕ) → LeadAlike last (interfaces_of P n) → Built P lists n → Built P (lists ++ last ∷ []) (n + 1)
builds P lists last n alike b = record {
  len = Rattle.std.proofs.lemmas.List.length_push lists last ∙ ap (λ m. m + 1) b.len;
  alike = λ c lt. elim (last_or c lt) [
    | inl e ↦ subst (λ c. LeadAlike (list_at (lists ++ last ∷ []) c) (interfaces_of P c)) (sym e)
        (λ above test. ap (λ cs. find test (flat_map above cs)) (ap (list_at (lists ++ last ∷ [])) (sym b.len) ∙ at_end lists last) ∙ alike above test)
    | inr less ↦ λ above test. ap (λ cs. find test (flat_map above cs)) (before lists last c (omega (arith, less, b.len))) ∙ b.alike c less above test
  ];
}
  where
    last_or : (c : ℕ) → c < n + 1 → (c ≡ n) ⊎ (c < n)
    last_or c lt = grind arith

past_end : (lists : List (List ℕ)) (c : ℕ) → length lists ≤ c → list_at lists c ≡ []
past_end [] c le = refl
past_end (cs ∷ lists) zero le = absurd (omega (arith, le))
past_end (cs ∷ lists) (suc c) le = past_end lists c (omega (arith, le))

none_past : (P : ProgramTables) (c : ℕ) → length P.classes ≤ c → interfaces_of P c ≡ []
none_past P c le = of_list P.classes c le
  where
    of_list : (es : List ClassInfo) (c : ℕ) → length es ≤ c → option_map_or (λ (e : ClassInfo). e.interfaces) (slice_get es c) [] ≡ []
    of_list [] c le = refl
    of_list (e ∷ es) zero le = absurd (omega (arith, le))
    of_list (e ∷ es) (suc c) le = of_list es c (omega (arith, le))

which : (c n : ℕ) → (c < n) ⊎ (n ≤ c)
which c n = grind arith

pub all_built : (P : ProgramTables) (lists : List (List ℕ)) (n : ℕ) → length P.classes ≤ n → Built P lists n → LeadAsInterfaces lists P
all_built P lists n le b c = elim (which c n) [
  | inl less ↦ b.alike c less
  | inr past ↦ λ above test. ap (λ cs. find test (flat_map above cs)) (past_end lists c (omega (arith, past, b.len)) ∙ sym (none_past P c (omega (arith, past, le))))
]
