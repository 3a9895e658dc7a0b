-- The first of those that are left, and those behind it.
use Rattle.std.proofs.Common.{◌≡◌, ◌∙◌, ◌<◌, ◌≤◌, ◌-◌, List, [], ◌∷◌, ap, arith, drop, get_or, length, sym, take}
use Rattle.std.proofs.lemmas.List.{nil_from_length, take_all}

pub behind_first : {A : Type 0} (left : List A) (x : A) → 1 ≤ length left → x ≡ get_or left 0 x → left ≡ x ∷ take (length left - 1) (drop 1 left)
behind_first [] x some is = absurd (omega (arith, some))
behind_first {A} (y ∷ rest) x some is = ap (λ (first : A). first ∷ rest) (sym is) ∙ ap (λ (all : List A). x ∷ all) (sym (take_all (length (y ∷ rest) - 1) rest (omega arith)))

pub none_behind : {A : Type 0} (left : List A) → length left < 1 → left ≡ []
none_behind left few = nil_from_length left (omega (arith, few))
