-- What the lines of a search say is so of each selection that meets the request.
use Rattle.std.proofs.Common.{◌≡◌, ◌<◌, ℕ, zero, suc, List, arith}
use Rattle.std.specs.Prelude.{Some, slice_get}
use Rattle.registry.specs.Laws.{MatchingIsWhatMeets}
use Rattle.registry.specs.Registry.{Packages}
use Rattle.registry.specs.Requests.{Wanted}
use Rattle.registry.specs.Selections.{Choices, Meets}
use Rattle.derivations.specs.CausedIncompatibilities.{AreLawful, AreOrdered, IsBefore, StandsBy}
use Rattle.derivations.specs.declared.known.CausedIncompatibility.{CausedIncompatibility}
use Rattle.derivations.specs.declared.known.Reason.{Reason}
use Rattle.derivations.specs.declared.known.Reason.TheVariants.{Fact, Resolved}
use Rattle.derivations.proofs.Soundness.{Refutes, Refutes-Follows, Refutes-fact}

module _ (matched : MatchingIsWhatMeets) (packages : Packages) (wanted : Wanted) (known : List CausedIncompatibility) (lawful : AreLawful packages wanted known) (ordered : AreOrdered known)
    (s : Choices) (m : Meets packages wanted s) where
  below : (n k : ℕ) (line : CausedIncompatibility) → k < n → slice_get known k ≡ Some line → Refutes s line.conclusion
  below zero k line lt at = absurd (omega arith)
  below (suc n) k line lt at = by (below n) line.reason (lawful k line at) (ordered k line at)
    where
      by : ((j : ℕ) (other : CausedIncompatibility) → j < n → slice_get known j ≡ Some other → Refutes s other.conclusion) → (r : Reason) → StandsBy packages wanted known line.conclusion r → IsBefore k r → Refutes s line.conclusion
      by before (Fact c) f b = Refutes-fact matched packages wanted s m c line.conclusion f
      by before (Resolved i j pivot) f b =
          Refutes-Follows s line.conclusion f.one.conclusion f.two.conclusion pivot (before i f.one (omega (arith, b.0, lt)) f.one_at) (before j f.two (omega (arith, b.1, lt)) f.two_at) f.follows

pub kept-hold : MatchingIsWhatMeets → (packages : Packages) (wanted : Wanted) (known : List CausedIncompatibility) → AreLawful packages wanted known → AreOrdered known
    → (s : Choices) → Meets packages wanted s → (k : ℕ) (line : CausedIncompatibility) → slice_get known k ≡ Some line → Refutes s line.conclusion
kept-hold matched packages wanted known lawful ordered s m k line at = below matched packages wanted known lawful ordered s m (suc k) k line (omega arith) at
