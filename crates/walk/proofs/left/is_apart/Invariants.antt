use Rattle.std.proofs.Common.{◌≡◌, ◌<◌, ◌≤◌, ◌+◌, ℕ, true}
use Rattle.std.specs.Prelude.{Some}
use Rattle.releases.specs.Matching.{ordinals_of}
use Rattle.terms.specs.Sets.{has}
use Rattle.terms.specs.Terms.{true_of}
use Rattle.walk.specs.Left.{term_of}
use Rattle.walk.proofs.left.is_apart.Given as goal

abbrev pub invariant-loop-at : goal.invariant-loop-at
invariant-loop-at l = (k : ℕ) → k < l.count → l.count ≤ k + l.at → true_of (term_of l.left) (Some k) ≡ true → has (ordinals_of l.matching) k ≡ true → ⊥
