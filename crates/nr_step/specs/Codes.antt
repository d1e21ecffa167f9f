-- The codes of instructions, in two parts, for the two functions that tell them apart (the project's own). In each list the
-- last that its function tells apart stands first.
use Rattle.std.specs.Prelude.{◌≡◌, ℕ, List, [], ◌∷◌}

-- the number is none of them
abbrev pub IsNoneOf : List ℕ → ℕ → Type 0
IsNoneOf [] n = Unit {0}
IsNoneOf (c ∷ cs) n = IsNoneOf cs n × (n ≡ c → ⊥)

-- of constants, variables, sums and products, branches, returns, fields and calls, as most steps have them
abbrev pub frequent : List ℕ
frequent = 199 ∷ 198 ∷ 184 ∷ 182 ∷ 181 ∷ 180 ∷ 177 ∷ 176 ∷ 173 ∷ 172 ∷ 167 ∷ 166 ∷ 165 ∷ 164 ∷ 163 ∷ 162 ∷ 161 ∷ 160 ∷ 159 ∷ 158 ∷ 157 ∷ 156 ∷ 155 ∷ 154 ∷ 153 ∷ 148 ∷ 136 ∷ 133 ∷ 132 ∷ 130 ∷ 128 ∷ 126 ∷ 124 ∷ 122 ∷ 120 ∷ 105 ∷ 104 ∷ 101 ∷ 100 ∷ 97 ∷ 96 ∷ 89 ∷ 87 ∷ 78 ∷ 77 ∷ 76 ∷ 75 ∷ 66 ∷ 65 ∷ 64 ∷ 63 ∷ 62 ∷ 61 ∷ 60 ∷ 59 ∷ 58 ∷ 55 ∷ 54 ∷ 45 ∷ 44 ∷ 43 ∷ 42 ∷ 33 ∷ 32 ∷ 31 ∷ 30 ∷ 29 ∷ 28 ∷ 27 ∷ 26 ∷ 25 ∷ 22 ∷ 21 ∷ 18 ∷ 17 ∷ 16 ∷ 10 ∷ 9 ∷ 8 ∷ 7 ∷ 6 ∷ 5 ∷ 4 ∷ 3 ∷ 2 ∷ 1 ∷ []

-- the others
abbrev pub rare : List ℕ
rare = 200 ∷ 197 ∷ 196 ∷ 193 ∷ 192 ∷ 191 ∷ 190 ∷ 189 ∷ 188 ∷ 187 ∷ 185 ∷ 183 ∷ 171 ∷ 170 ∷ 147 ∷ 146 ∷ 145 ∷ 131 ∷ 129 ∷ 127 ∷ 125 ∷ 123 ∷ 121 ∷ 117 ∷ 116 ∷ 113 ∷ 112 ∷ 109 ∷ 108 ∷ 95 ∷ 94 ∷ 93 ∷ 92 ∷ 91 ∷ 90 ∷ 88 ∷ 86 ∷ 85 ∷ 84 ∷ 83 ∷ 80 ∷ 79 ∷ 53 ∷ 52 ∷ 51 ∷ 50 ∷ 47 ∷ 46 ∷ 20 ∷ 19 ∷ 0 ∷ []
