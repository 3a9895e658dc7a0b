-- What is cut from the lines of a search stands where the search is lawful, and is learnt where it rests on premises.
use Rattle.std.proofs.Common.{◌≡◌, ◌+◌, ◌<◌, ◌≤◌, ℕ, List, [], ◌∷◌, ◌++◌, length, get_or, ap, subst, sym, arith}
use Rattle.std.proofs.lemmas.List.Elements.{All-push, Contains-get_or}
use Rattle.std.proofs.lemmas.List.Sums.{sum_by_push}
use Rattle.std.proofs.lemmas.Option.{none-some}
use Rattle.std.specs.Prelude.{All, IfNone, IfSome, None, Option, Some, sum_by}
use Rattle.registry.specs.Registry.{Packages}
use Rattle.registry.specs.Requests.{Wanted}
use Rattle.derivations.specs.Facts.{Terms}
use Rattle.derivations.specs.Derivations.{AreDerived, AreDerivedBy, Yields, last_conclusion}
use Rattle.checker.specs.Cutting.{ShowsLine}
use Rattle.derivations.specs.Learning.{IsLearnt, Offers}
use Rattle.checker.specs.Offering.{AreLawfulSomewhere, MayRestOn, RestOnPremises, ShowsOne, StandWhereLawful}
use Rattle.derivations.specs.Laws.{DerivedLinesStand}
use Rattle.derivations.specs.declared.known.CausedIncompatibility.{CausedIncompatibility}
use Rattle.derivations.specs.Lines.{Cause, Line}
use Rattle.derivations.specs.declared.facts.Cause.TheVariants as cause
use Rattle.derivations.specs.declared.learnt.TheConstants.{DERIVATION_LINE_LIMIT}

pub all_stand : DerivedLinesStand → (known : List CausedIncompatibility) (places : List ℕ) (offered : List (List Line)) → All (ShowsOne known places) offered → StandWhereLawful known offered
all_stand stand known places offered each packages wanted lawful k d lt = stand packages wanted (get_or offered k d) ((each k d lt).shows.derived packages wanted lawful)

pub all_pushed : (known : List CausedIncompatibility) (places : List ℕ) (at d : ℕ) (offered : List (List Line)) (lines : List Line) (pushed : List (List Line)) → All (ShowsOne known places) offered → at < length places
    → ShowsLine known (get_or places at d) lines → pushed ≡ offered ++ lines ∷ [] → All (ShowsOne known places) pushed
all_pushed known places at d offered lines pushed each lt shows is =
    subst (λ all. All (ShowsOne known places) all) (sym is)
    (All-push (ShowsOne known places) offered lines each (record { place = get_or places at d; asked = Contains-get_or places at d lt; shows = shows }))

-- ---- what rests on premises is learnt

-- what a line or a premise yields it gives whatever the registry holds
offers_by : (packages : Packages) (wanted : Wanted) (earlier : List Terms) (c : Cause) (terms : Terms) → MayRestOn c → Yields packages wanted earlier c terms → Offers earlier c terms
offers_by packages wanted earlier (cause.Line n) terms may g = g
offers_by packages wanted earlier (cause.Premise premise) terms may g = (g.0.depends.different, g.0.depends.some, g.1)
offers_by packages wanted earlier (cause.Need i) terms may g = absurd may
offers_by packages wanted earlier (cause.NotAllowed p versions) terms may g = absurd may
offers_by packages wanted earlier cause.Root terms may g = absurd may

derived_by_premises : (packages : Packages) (wanted : Wanted) (earlier : List Terms) (lines : List Line) → AreDerived packages wanted earlier lines → RestOnPremises lines → AreDerivedBy Offers earlier lines
derived_by_premises packages wanted earlier [] derived rest = tt
derived_by_premises packages wanted earlier (line ∷ lines) derived rest = (
  record {
    one = derived.0.one;
    two = derived.0.two;
    gives_one = offers_by packages wanted earlier line.causes.0 derived.0.one rest.0 derived.0.gives_one;
    gives_two = offers_by packages wanted earlier line.causes.1 derived.0.two rest.1 derived.0.gives_two;
    follows = derived.0.follows;
  },
  derived_by_premises packages wanted (earlier ++ line.conclusion ∷ []) lines derived.1 rest.2,
)

some_lines : (lines : List Line) (terms : Terms) → last_conclusion lines ≡ Some terms → 0 < length lines
some_lines [] terms last = absurd (none-some terms last)
some_lines (line ∷ rest) terms last = omega arith

pub learnt_by : (known : List CausedIncompatibility) (place : ℕ) (lines : List Line) → AreLawfulSomewhere known → ShowsLine known place lines → RestOnPremises lines → length lines ≤ DERIVATION_LINE_LIMIT → IsLearnt lines
learnt_by known place lines somewhere shows rest few = record {
  some = some_lines lines shows.own.conclusion shows.last;
  few = few;
  derived = derived_by_premises somewhere.packages somewhere.wanted [] lines (shows.derived somewhere.packages somewhere.wanted somewhere.lawful) rest;
}

-- ---- how many lines are offered

-- no more were counted than there was room for
pub counted_few : (found : Option (List Line)) (count room : ℕ) → IfNone found (count ≡ 0) → IfSome found (λ lines. count ≡ length lines) → IfSome found (λ lines. length lines ≤ room) → count ≤ room
counted_few None count room none some few = omega (arith, none)
counted_few (Some lines) count room none some few = omega (arith, some, few)

pub counted_some : (found : Option (List Line)) (lines : List Line) (offered pushed : List (List Line)) (taken count now : ℕ) → found ≡ Some lines → IfSome found (λ lines. count ≡ length lines)
    → pushed ≡ offered ++ lines ∷ [] → taken ≡ sum_by length offered → now ≡ taken + count → now ≡ sum_by length pushed
counted_some found lines offered pushed taken count now some counts is before more =
    let own : count ≡ length lines = subst (λ (o : Option (List Line)). IfSome o (λ lines. count ≡ length lines)) some counts in
    let all : sum_by length pushed ≡ sum_by length (offered ++ lines ∷ []) = ap (λ (l : List (List Line)). sum_by length l) is in
    let last : sum_by length (offered ++ lines ∷ []) ≡ sum_by length offered + length lines = sum_by_push length offered lines in
    omega arith

pub counted_none : (found : Option (List Line)) (offered pushed : List (List Line)) (taken count now : ℕ) → found ≡ None → IfNone found (count ≡ 0)
    → pushed ≡ offered → taken ≡ sum_by length offered → now ≡ taken + count → now ≡ sum_by length pushed
counted_none found offered pushed taken count now none counts is before more =
    let own : count ≡ 0 = subst (λ (o : Option (List Line)). IfNone o (count ≡ 0)) none counts in
    let all : sum_by length pushed ≡ sum_by length offered = ap (λ (l : List (List Line)). sum_by length l) is in
    omega arith
