-- Facts as lines.
use Rattle.std.proofs.Common.{◌≡◌, ◌≢◌, ◌↔◌, ◌∙◌, ℕ, List, [], ◌∷◌, ◌++◌, length, refl, sym, ap, true≢false}
use Rattle.std.specs.Prelude.{Contains, IsTrue, Some}
use Rattle.versions.specs.Words.{Text}
use Rattle.terms.specs.Sets.{has}
use Rattle.registry.specs.Registry.{Packages, meets_at, needs_of, number_of}
use Rattle.derivations.specs.Derivations.{IsFact}
use Rattle.derivations.specs.Facts.{Stands, Terms}
use Rattle.derivations.specs.Lines.{Cause, Premise}
use Rattle.derivations.specs.declared.known.CausedIncompatibility.{CausedIncompatibility}
use Rattle.derivations.specs.declared.known.Reason.TheVariants.{Fact}
use Rattle.oracle.specs.declared.task.Task.{Task}
use Rattle.facts.specs.Pushing.{AreDependents, Extends, SaysAt}
use Rattle.facts.proofs.Lists.{get-last}
use Rattle.facts.proofs.Extending.{line_extends}

-- a fact behind the lines
pub fact_extends : (task : Task) (old new : List CausedIncompatibility) (cause : Cause) (terms : Terms) → IsFact task.registry.now.packages task.request.now cause terms
    → new ≡ old ++ record { conclusion = terms; reason = Fact cause } ∷ [] → Extends task old new
fact_extends task old new cause terms fact is = rw is (line_extends task old (record { conclusion = terms; reason = Fact cause }) fact)

pub fact_place : (old new : List CausedIncompatibility) (cause : Cause) (terms : Terms) (at : ℕ) → new ≡ old ++ record { conclusion = terms; reason = Fact cause } ∷ [] → at ≡ length old → SaysAt new terms at
fact_place old new cause terms at is place =
    rw (is, place) (record { conclusion = terms; reason = Fact cause }, get-last old (record { conclusion = terms; reason = Fact cause }), refl)

-- where a set has exactly the versions that have a dependency, and one has it
pub exactly_dependents : (packages : Packages) (p k : ℕ) (entry : Text × Text) (versions : List ℕ) → ((j : ℕ) → IsTrue (has versions j) ↔ Contains (needs_of packages p j) entry)
    → Contains (needs_of packages p k) entry → AreDependents packages p entry versions
exactly_dependents packages p k entry versions exactly used = record {
  some = λ none. true≢false (sym ((exactly k).1 used) ∙ ap (λ set. has set k) none);
  each = λ j h. (exactly j).0 h;
}

-- the premise of a dependency
pub premise_stands : (packages : Packages) (premise : Premise) (name : Text) → premise.package ≢ premise.target → number_of packages name ≡ Some premise.target
    → AreDependents packages premise.package (name, premise.need) premise.versions
    → ((k : ℕ) → has premise.within k ≡ meets_at packages premise.target k premise.need) → Stands packages premise
premise_stands packages premise name apart numbered having meeting = record {
  depends = record {
    different = apart;
    some = having.some;
    each = λ j h. (name, numbered, having.each j h);
  };
  covers = λ j h. meeting j ∙ h;
}
