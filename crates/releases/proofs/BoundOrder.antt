-- The bounds of a requirement beside the order of versions.
use Rattle.std.proofs.Common.{◌≡◌, ◌∙◌, ℕ, List, Option, Some, None, arith, refl, ap, true, false}
use Rattle.std.specs.declared.cmp.Ordering.TheVariants.{Less}
use Rattle.std.proofs.lemmas.Bool.Decides.{nat_tests}
use Rattle.versions.specs.Bounds.{has, is_before, is_within, numbers_in, IsBounded, IsPlain, Reach}
use Rattle.versions.specs.Words.{Text, meets, parts_of_text, parts_or_zero, parts_precedence, precedence}
use Rattle.versions.specs.declared.bounds.Numbers.{Numbers}

before-rises : (p q : ℕ × ℕ × ℕ × List ℕ × List ℕ) (n : Numbers) → parts_precedence p q ≡ Less
    → is_before (record { major = q.0; minor = q.1; patch = q.2 }) n ≡ true → is_before (record { major = p.0; minor = p.1; patch = p.2 }) n ≡ true
before-rises p q n less before = grind (arith, nat_tests)

-- the numbers of a lower version come before those that the numbers of a higher one come before
pub numbers-rise : (a b : Text) (n : Numbers) → precedence a b ≡ Less → is_before (numbers_in b) n ≡ true → is_before (numbers_in a) n ≡ true
unfolding precedence
numbers-rise a b n less before = before-rises (parts_of_text a) (parts_of_text b) n less before

pub end-rises : (a b : Text) (end : Option Numbers) → precedence a b ≡ Less → is_within (numbers_in b) end ≡ true → is_within (numbers_in a) end ≡ true
end-rises a b None less within = refl
end-rises a b (Some n) less within = numbers-rise a b n less within

-- a version without a pre-release meets the requirement where its numbers are in the range
pub meets-plain : (need version : Text) (reach : Reach) → IsBounded need reach → reach.is_vague ≡ false → IsPlain version → has reach.range (numbers_in version) ≡ meets need version
unfolding parts_of_text
meets-plain need version reach bounded known plain =
    ap (λ r. has reach.range (let p = parts_or_zero r in record { major = p.0; minor = p.1; patch = p.2 })) plain.1
    ∙ bounded.range known version plain.0 plain.1 plain.2
