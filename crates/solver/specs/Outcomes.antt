-- Outcomes: the answer of a request, with what may be learnt of it.
use Rattle.std.specs.Prelude.{◌≡◌, ◌⊎◌, ℕ, All, Bool, false, true, MatchResult, Option, None, Result, Some}
use Rattle.versions.specs.declared.refusal.Refusal.{Refusal}
use Rattle.versions.specs.declared.refusal.Refusal.TheVariants.{BudgetSpent, NoMemory}
use Rattle.registry.specs.Registry.{Packages}
use Rattle.registry.specs.Requests.{Wanted}
use Rattle.derivations.specs.Derivations.{IsDerivation, IsRefuted, NoSelection}
use Rattle.derivations.specs.Learning.{AllStand}
use Rattle.walk.specs.Answer as answer
pub use Rattle.walk.specs.Answer.{Answer, IsAnswer, Tells, TellsNewest, told}
pub use Rattle.walk.specs.Preferring.{IfPreferredServes}
use Rattle.oracle.specs.declared.options.Options.{Options}
use Rattle.solver.specs.declared.outcome.Outcome.{Outcome}
use Rattle.solver.specs.declared.outcome.Outcome.TheVariants as outcome

-- the newest selection, or that none meets the request: by a derivation where it is asked why, and else without one, though there is one; what is offered to be learnt stands
abbrev pub IsLawful : Packages → Wanted → Bool → Outcome → Type 0
IsLawful packages wanted explain (outcome.Selection list offered) = TellsNewest packages wanted list.items × All (AllStand packages) offered.items
IsLawful packages wanted explain (outcome.NoSelection offered) = (explain ≡ false) × IsRefuted packages wanted × All (AllStand packages) offered.items
IsLawful packages wanted explain (outcome.Refused derivation offered) = (explain ≡ true) × IsDerivation packages wanted derivation × All (AllStand packages) offered.items

-- what an outcome answers, whatever shows it and may be learnt
abbrev pub answer_of : Outcome → Answer
answer_of (outcome.Selection list offered) = answer.Selected list.items
answer_of (outcome.NoSelection offered) = answer.NoSelection
answer_of (outcome.Refused derivation offered) = answer.NoSelection

-- a refusal comes only where no selection meets the request
abbrev pub OnlyWhereNone : Packages → Wanted → Outcome → Type 0
OnlyWhereNone packages wanted (outcome.Selection list offered) = Unit {0}
OnlyWhereNone packages wanted (outcome.NoSelection offered) = NoSelection packages wanted
OnlyWhereNone packages wanted (outcome.Refused derivation offered) = NoSelection packages wanted

-- there is no preferred selection, or it does not meet the request
abbrev pub NonePreferred : Packages → Wanted → Type 0
NonePreferred packages wanted = IfPreferredServes packages wanted (λ s. ⊥)

-- why a request may be left without an answer: for lack of memory, or, under a budget, since that is spent; but no budget is spent on a preferred selection that meets it
abbrev pub MayStop : Packages → Wanted → Option ℕ → Refusal → Type 0
MayStop packages wanted None e = e ≡ NoMemory
MayStop packages wanted (Some budget) e = (e ≡ NoMemory) ⊎ ((e ≡ BudgetSpent) × NonePreferred packages wanted)

-- what a request comes to: its answer, or why it is left without one
abbrev pub Solves : Packages → Wanted → Options → Result Outcome Refusal → Type 0
Solves packages wanted options result = MatchResult result (IsLawful packages wanted options.explain) (MayStop packages wanted options.budget)
