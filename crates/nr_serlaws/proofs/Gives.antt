-- What readers give of a text, whatever follows it.
use Rattle.std.proofs.Common.{◌≡◌, ℕ, ◌<◌, Bool, true, false, List, [], ◌∷◌, ◌++◌, Result, Ok, refl, sym, ap, subst, ◌∙◌, append_assoc}
use Rattle.std.specs.Int.{w8, to_be_bytes}
use Rattle.nr_base.specs.Place.{Place, at_of}
use Rattle.nr_base.specs.Reader.{Reader, after, bind, pure, choose, from}
use Rattle.nr_base.proofs.Laws.{Reads, place}
use Rattle.nr_base.proofs.Numbers.{byte_alone}
use Rattle.nr_serread.specs.declared.fault.StreamFault.{StreamFault}
use Rattle.nr_serread.specs.Items.{Read, u1_at, given_by}
use Rattle.nr_serlaws.proofs.Items.{one_law}

pub record Gives {A F : Type 0} (r : Place → Result (A × Place) F) (x : A) (text : List ℕ) : Type 0 where
  pub gives : (rest : List ℕ) (total : ℕ) → r (place total (text ++ rest)) ≡ Ok (x, place total rest)

pub gives_reads : {A F : Type 0} {r : Reader F A} {G : A → List ℕ → Type 0} {x : A} {text : List ℕ} → Reads r G → G x text → Gives r x text
gives_reads {x = x} {text = text} rs g = record { gives = λ rest total. rs.only x text rest total g }

pub gives_text : {A F : Type 0} {r : Reader F A} {x : A} {text other : List ℕ} → text ≡ other → Gives r x text → Gives r x other
gives_text {r = r} {x = x} e g = subst (Gives r x) e g

pub gives_value : {A F : Type 0} {r : Reader F A} {x y : A} {text : List ℕ} → x ≡ y → Gives r x text → Gives r y text
gives_value {r = r} {text = text} e g = subst (λ z. Gives r z text) e g

pub gives_pure : {A F : Type 0} (x : A) → Gives {F = F} (pure x) x []
unfolding pure
gives_pure x = record { gives = λ rest total. refl }

pub gives_bind : {A B F : Type 0} {r : Reader F A} {x : A} {y : B} {front back : List ℕ} (f : A → Reader F B) → Gives r x front → Gives (f x) y back → Gives (bind r f) y (front ++ back)
unfolding bind
gives_bind {r = r} {x = x} {y = y} {front = front} {back = back} f g h = record {
  gives = λ rest total.
      let whole : (front ++ back) ++ rest ≡ front ++ (back ++ rest) = append_assoc front back rest in
      ap (λ z. after (r (place total z)) f) whole ∙ ap (λ z. after z f) (g.gives (back ++ rest) total) ∙ h.gives rest total;
}

pub gives_from : {A F : Type 0} {f : ℕ → Reader F A} {x : A} {text : List ℕ} → ((at : ℕ) → Gives (f at) x text) → Gives (from f) x text
unfolding from
gives_from {text = text} g = record { gives = λ rest total. (g (at_of (place total (text ++ rest)))).gives rest total }

pub gives_true : {A F : Type 0} {r : Reader F A} {x : A} {text : List ℕ} {b : Bool} (s : Reader F A) → b ≡ true → Gives r x text → Gives (choose b r s) x text
unfolding choose
gives_true {r = r} {x = x} {text = text} s e g = subst (λ b. Gives (choose b r s) x text) (sym e) (record { gives = g.gives })

pub gives_false : {A F : Type 0} {s : Reader F A} {x : A} {text : List ℕ} {b : Bool} (r : Reader F A) → b ≡ false → Gives s x text → Gives (choose b r s) x text
unfolding choose
gives_false {s = s} {x = x} {text = text} r e g = subst (λ b. Gives (choose b r s) x text) (sym e) (record { gives = g.gives })

pub gives_given : {A : Type 0} {r : Result A StreamFault} {x : A} → r ≡ Ok x → Gives (given_by r) x []
unfolding given_by
gives_given {x = x} e = subst (λ r. Gives (given_by r) x []) (sym e) (record { gives = λ rest total. refl })

-- a tag and what is chosen by it
pub gives_tag : {B : Type 0} {y : B} {back : List ℕ} (f : ℕ → Read B) (tag : ℕ) → tag < 256 → Gives (f tag) y back → Gives (bind u1_at f) y (tag ∷ back)
gives_tag {back = back} f tag l g = gives_text (ap (λ z. z ++ back) (byte_alone tag l)) (gives_bind {front = to_be_bytes w8 tag} f (gives_reads one_law (l, refl)) g)
