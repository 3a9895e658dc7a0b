-- What may be told of a registry.
use Rattle.std.proofs.Common.{◌≡◌, ◌⊎◌, ℕ, true, List, Option, None, Some, inl, inr, ap}
use Rattle.versions.specs.Words.{Text}
use Rattle.versions.specs.declared.refusal.Refusal.{Refusal}
use Rattle.versions.specs.declared.refusal.Refusal.TheVariants.{NoMemory}
use Rattle.registry.specs.Registry.{Packages}
use Rattle.registry.specs.Requests.{Wanted}
use Rattle.derivations.specs.Laws.{DerivationsRefute}
use Rattle.derivations.specs.Derivations.{IsDerivation}
use Rattle.derivations.specs.Lines.{Line}
use Rattle.explain.specs.Explanations.{explanation}
use Rattle.solver.specs.Outcomes.{MayStop}
use Rattle.by_name.specs.Named.{IsNumbered}
use Rattle.replies.specs.Replies.{explained, refused}
use Rattle.by_name.specs.NamedLines.{NamedLine}
use Rattle.answers.specs.Outcomes.{IsRefuted, TellsNone, TellsSpent}

-- ---- what is told where there is none

-- a derivation that there is none
refuted_by : DerivationsRefute → (packages : Packages) (wanted : Wanted) (lines : List Line) → IsDerivation packages wanted lines → IsRefuted packages wanted
refuted_by refute packages wanted lines derivation = record { lines = lines; derivation = derivation; none = refute packages wanted lines derivation }

-- told by names, with the lines that explain it
pub told_explained : DerivationsRefute → (packages : Packages) (wanted : Wanted) (lines : List Line) (named : List NamedLine) (texts : List Text) → IsDerivation packages wanted lines
    → IsNumbered packages named lines → texts ≡ explanation packages wanted lines → TellsNone packages wanted true (explained named texts)
unfolding refuted_by
told_explained refute packages wanted lines named texts derivation same told = record {
  refuted = refuted_by refute packages wanted lines derivation;
  named = named;
  same = same;
  told = ap (λ (l : List Text). explained named l) told;
}

-- ---- what is told where nothing is

-- why there is no answer is lack of memory, or may be told
pub stopped_told : (packages : Packages) (wanted : Wanted) (budget : Option ℕ) (e : Refusal) → MayStop packages wanted budget e
    → (e ≡ NoMemory) ⊎ TellsSpent packages wanted budget (refused e)
stopped_told packages wanted None e memory = inl memory
stopped_told packages wanted (Some budget) e (inl memory) = inl memory
stopped_told packages wanted (Some budget) e (inr (spent, none)) = inr (none, ap (λ (r : Refusal). refused r) spent)
