-- Grammars: which texts a value has. They know nothing of reading. The project's own rule.
use Rattle.std.specs.Prelude.{◌≡◌, ℕ, zero, suc, ◌<◌, ◌^◌, List, [], ◌∷◌, ◌++◌, length, slice_index, Bool, true, false}
use Rattle.std.specs.Int.{Width, byte_len, to_be_bytes}

abbrev pub Grammar : Type 0 → Type 1
Grammar A = A → List ℕ → Type 0

abbrev pub IsBytes : List ℕ → Type 0
IsBytes bytes = (i : ℕ) → slice_index bytes i < 256

-- a number of a width, the most significant byte first
abbrev pub number : Width → Grammar ℕ
number w n text = (n < 256 ^ byte_len w) × (text ≡ to_be_bytes w n)

-- a run of so many bytes
abbrev pub run : ℕ → Grammar (List ℕ)
run n bytes text = (length bytes ≡ n) × (text ≡ bytes)

-- the value x alone, with no text
abbrev pub give : {A : Type 0} → A → Grammar A
give x y text = (y ≡ x) × (text ≡ [])

-- no value
abbrev pub none : {A : Type 0} → Grammar A
none x text = ⊥

-- one text behind the other, the second by the value of the first
pub record Then {A B : Type 0} (G : A → List ℕ → Type 0) (H : A → B → List ℕ → Type 0) (y : B) (text : List ℕ) : Type 0 where
  pub value : A
  pub front : List ℕ
  pub back : List ℕ
  pub first : G value front
  pub second : H value y back
  pub whole : text ≡ front ++ back

-- one of two grammars, by a test
abbrev pub pick : {A : Type 0} → Bool → Grammar A → Grammar A → Grammar A
pick true G H = G
pick false G H = H

-- a step from state to state, so many times
abbrev pub Times : {S : Type 0} → (S → Grammar S) → ℕ → S → Grammar S
Times step zero s = give s
Times step (suc k) s = Then (step s) (λ t. Times step k t)

-- a step that says whether another one follows, with k more of them behind the first
abbrev pub Repeat : {S : Type 0} → (S → Grammar (Bool × S)) → ℕ → S → Grammar S
Repeat step zero s t text = step s (false, t) text
Repeat step (suc k) s t text = Then (λ u front. step s (true, u) front) (λ u. Repeat step k u) t text

-- a step until it says that none follows
abbrev pub While : {S : Type 0} → (S → Grammar (Bool × S)) → S → Grammar S
While step s t text = (k : ℕ) × Repeat step k s t text

-- the text itself, in place of its value
abbrev pub Spanned : {A : Type 0} → Grammar A → Grammar (List ℕ)
Spanned {A = A} G bytes text = (x : A) × G x text × (bytes ≡ text)

-- a text of each value, one behind the other
abbrev pub Each : {A : Type 0} → Grammar A → Grammar (List A)
Each G [] text = text ≡ []
Each G (x ∷ xs) text =
    (front back : List ℕ) × G x front × Each G xs back × (text ≡ front ++ back)

-- a tag of one byte before a text
abbrev pub tagged : {A : Type 0} → ℕ → Grammar A → Grammar A
tagged tag G x text = (rest : List ℕ) × (text ≡ tag ∷ rest) × G x rest

-- a text of so many bytes
abbrev pub Sized : {A : Type 0} → ℕ → Grammar A → Grammar A
Sized len G x text = G x text × (length text ≡ len)
