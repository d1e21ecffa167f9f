-- The law of the bytes that a reader uses up.
use Rattle.std.proofs.Common.{◌≡◌, ℕ, ◌-◌, List, ◌++◌, length, take, Result, Ok, Err, sym, ap, ◌∙◌, arith}
use Rattle.std.proofs.lemmas.List.{length-append, take_at}
use Rattle.nr_base.specs.Place.{Place}
use Rattle.nr_base.specs.Reader.{Reader, span_from, spanned}
use Rattle.nr_base.specs.Grammar.{Spanned}
use Rattle.nr_base.proofs.Laws.{Reads, place, ok_is}

pub record SpanOk {A F : Type 0} (before : List ℕ) (r : Result (A × Place) F) (bytes : List ℕ) (q : Place) : Type 0 where
  pub value : A
  pub was : r ≡ Ok (value, q)
  pub bytes_are : take (length before - length q.rest) before ≡ bytes

pub span_ok : {A F : Type 0} (before : List ℕ) (r : Result (A × Place) F) (bytes : List ℕ) (q : Place) → span_from before r ≡ Ok (bytes, q) → SpanOk before r bytes q
span_ok before (Ok x) bytes q e =
    let is = ok_is _ _ e in
    let at : x.1 ≡ q = ap (λ (a : List ℕ × Place). a.1) is in
    record { value = x.0; was = ap (λ z. Ok (x.0, z)) at; bytes_are = rw (← at) (ap (λ (a : List ℕ × Place). a.0) is) }
span_ok before (Err d) bytes q e = absurd cc

front_of : (text rest : List ℕ) → take (length (text ++ rest) - length rest) (text ++ rest) ≡ text
front_of text rest = take_at text rest (length (text ++ rest) - length rest) (omega (arith, length-append text rest))

pub spanned_law : {A F : Type 0} {r : Reader F A} {G : A → List ℕ → Type 0} → Reads r G → Reads (spanned r) (Spanned G)
unfolding spanned
spanned_law {r = r} rs = record {
  found = λ p q bytes fits e.
      let s = span_ok p.rest (r p) bytes q e in
      let a = rs.found p q s.value fits s.was in
      record { text = a.text; spelled = (s.value, a.spelled, sym s.bytes_are ∙ ap (λ z. take (length z - length q.rest) z) a.rest ∙ front_of a.text q.rest); total = a.total; rest = a.rest; fits = a.fits };
  only = λ bytes text rest total g.
      ap (span_from (text ++ rest)) (rs.only g.0 text rest total g.1) ∙ ap (λ z. Ok (z, place total rest)) (front_of text rest ∙ sym g.2);
}
