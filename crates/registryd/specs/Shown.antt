-- How a text is shown within a line.
use Rattle.std.specs.Prelude.{◌≡◌, ℕ, ◌+◌, ◌-◌, ◌/◌, ◌%◌, ◌||◌, ◌==◌, List, [], ◌∷◌, flat_map, nat_lt, if◌then◌else◌}

-- the code of a hexadecimal digit
abbrev pub hex_digit : ℕ → ℕ
hex_digit n = if nat_lt n 10 then 48 + n else 97 + (n - 10)

-- a byte as it is, but a control character of ASCII by its number, as `\x0a`
abbrev pub shown_byte : ℕ → List ℕ
shown_byte b = if nat_lt b 32 || b == 127 then 92 ∷ 120 ∷ hex_digit (b / 16) ∷ hex_digit (b % 16) ∷ [] else b ∷ []

-- each byte of a text is shown
abbrev pub shown_text : List ℕ → List ℕ
shown_text bytes = flat_map shown_byte bytes

-- The bytes show some text.
abbrev pub IsShown : List ℕ → Type 0
IsShown bytes = (text : List ℕ) × (bytes ≡ shown_text text)
