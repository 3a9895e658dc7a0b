-- The laws of precedence.
use Rattle.std.specs.Prelude.{◌≡◌}
use Rattle.std.specs.Cmp.{IsEquivalence, IsTotalOrder}
use Rattle.std.specs.Ordering.{is_eq}
use Rattle.versions.specs.Words.{Text, precedence, same_precedence}

-- any two versions compare, the other way round reversed; lower is transitive; and what ties with a version compares as it does
abbrev pub PrecedenceIsATotalPreorder : Type 0
PrecedenceIsATotalPreorder = IsTotalOrder precedence

-- a version has equal precedence with itself, and versions that share this with a third share it with one another
abbrev pub EqualPrecedenceIsAnEquivalence : Type 0
EqualPrecedenceIsAnEquivalence = IsEquivalence same_precedence

-- two versions have equal precedence exactly where their order is a tie
abbrev pub EqualPrecedenceIsATie : Type 0
EqualPrecedenceIsATie = (a b : Text) → same_precedence a b ≡ is_eq (precedence a b)
