-- The root's line alone.
use Rattle.std.proofs.Common.{◌≡◌, ℕ, zero, suc, [], ◌∷◌, refl, subst}
use Rattle.std.proofs.lemmas.Option.{none-some, same_Some}
use Rattle.std.specs.Prelude.{Some, slice_get}
use Rattle.registry.specs.Registry.{Packages}
use Rattle.registry.specs.Requests.{Wanted}
use Rattle.derivations.specs.CausedIncompatibilities.{IsBefore, StandsBy}
use Rattle.derivations.specs.declared.known.CausedIncompatibility.{CausedIncompatibility}
use Rattle.facts.specs.Lines.{AreLines, root_known}

pub root_lines : (packages : Packages) (wanted : Wanted) → AreLines packages wanted (root_known ∷ [])
root_lines packages wanted = record {
  lawful = λ k line at. lawful k line at;
  ordered = λ k line at. ordered k line at;
  root = (root_known, refl, refl);
}
  where
    lawful : (k : ℕ) (line : CausedIncompatibility) → slice_get (root_known ∷ []) k ≡ Some line → StandsBy packages wanted (root_known ∷ []) line.conclusion line.reason
    lawful zero line at = subst (λ (l : CausedIncompatibility). StandsBy packages wanted (root_known ∷ []) l.conclusion l.reason) (same_Some root_known line at) refl
    lawful (suc k) line at = absurd (none-some line at)

    ordered : (k : ℕ) (line : CausedIncompatibility) → slice_get (root_known ∷ []) k ≡ Some line → IsBefore k line.reason
    ordered zero line at = subst (λ (l : CausedIncompatibility). IsBefore 0 l.reason) (same_Some root_known line at) tt
    ordered (suc k) line at = absurd (none-some line at)
