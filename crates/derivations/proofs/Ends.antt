-- What a search needs to show before its list is cut.
use Rattle.std.proofs.Common.{◌≡◌, ◌∙◌, ℕ, List, [], ◌∷◌, sym, ap, nat_lt, inl, inr, if◌then◌else◌}
use Rattle.std.proofs.lemmas.Bool.{cases_Bool}
use Rattle.std.specs.Prelude.{Option, None, Some, slice_get}
use Rattle.versions.specs.Words.{Text}
use Rattle.terms.specs.declared.term.Term.{Term}
use Rattle.terms.specs.declared.term.Term.TheVariants.{In, NotIn}
use Rattle.registry.specs.Registry.{Packages, matching, number_of}
use Rattle.registry.specs.Requests.{Wanted}
use Rattle.derivations.specs.Facts.{Terms, dependency, need_terms_at}
use Rattle.derivations.proofs.Soundness.{dependency-nil}
use Rattle.derivations.specs.Derivations.{IsFact}
use Rattle.derivations.specs.CausedIncompatibilities.{AreLawful, EndsAt, IsResolved, StandsBy}
use Rattle.derivations.specs.Lines.{Cause}
use Rattle.derivations.specs.declared.facts.Cause.TheVariants as cause
use Rattle.derivations.specs.declared.known.CausedIncompatibility.{CausedIncompatibility}
use Rattle.derivations.specs.declared.known.Reason.{Reason}
use Rattle.derivations.specs.declared.known.Reason.TheVariants.{Fact, Resolved}

cons_not_nil : (t : ℕ × Term) (rest : Terms) → t ∷ rest ≡ [] → ⊥
cons_not_nil t rest e = cc

dependency_not_nil : (p : ℕ) (versions : List ℕ) (target : ℕ) (within : List ℕ) → dependency p versions target within ≡ [] → ⊥
dependency_not_nil p versions target [] h = cons_not_nil (p, In versions) [] (sym (dependency-nil p versions target) ∙ h)
dependency_not_nil p versions target (k ∷ rest) h = elim (cases_Bool (nat_lt p target)) [
  | inl e ↦ cons_not_nil (p, In versions) ((target, NotIn (k ∷ rest)) ∷ []) (ap (λ b. if b then (p, In versions) ∷ (target, NotIn (k ∷ rest)) ∷ [] else (target, NotIn (k ∷ rest)) ∷ (p, In versions) ∷ []) (sym e) ∙ h)
  | inr e ↦ cons_not_nil (target, NotIn (k ∷ rest)) ((p, In versions) ∷ []) (ap (λ b. if b then (p, In versions) ∷ (target, NotIn (k ∷ rest)) ∷ [] else (target, NotIn (k ∷ rest)) ∷ (p, In versions) ∷ []) (sym e) ∙ h)
]

need_not_nil : (packages : Packages) (o : Option ℕ) (need : Text) → need_terms_at packages o need ≡ [] → ⊥
need_not_nil packages None need h = cons_not_nil _ _ h
need_not_nil packages (Some q) need h = dependency_not_nil 0 (0 ∷ []) q (matching packages q need) h

-- no fact is without terms
pub no_fact_is_empty : (packages : Packages) (wanted : Wanted) (c : Cause) (terms : Terms) → IsFact packages wanted c terms → terms ≡ [] → ⊥
no_fact_is_empty packages wanted (cause.Line n) terms h e = absurd h
no_fact_is_empty packages wanted (cause.Premise p) terms h e = dependency_not_nil p.package p.versions p.target p.within (sym h.1 ∙ e)
no_fact_is_empty packages wanted (cause.Need i) terms h e = need_not_nil packages (number_of packages h.0.0) h.0.1 (sym h.2 ∙ e)
no_fact_is_empty packages wanted (cause.NotAllowed p versions) terms h e = cons_not_nil _ _ (sym h.2 ∙ e)
no_fact_is_empty packages wanted cause.Root terms h e = cons_not_nil _ _ (sym h ∙ e)

resolved_by : (packages : Packages) (wanted : Wanted) (known : List CausedIncompatibility) (terms : Terms) (reason : Reason) → StandsBy packages wanted known terms reason → terms ≡ [] → IsResolved reason
resolved_by packages wanted known terms (Fact c) h e = no_fact_is_empty packages wanted c terms h e
resolved_by packages wanted known terms (Resolved i j pivot) h e = tt

-- a line without terms in a lawful list is no fact
pub ends_at : (packages : Packages) (wanted : Wanted) (known : List CausedIncompatibility) (end : ℕ) (line : CausedIncompatibility) → AreLawful packages wanted known → slice_get known end ≡ Some line → line.conclusion ≡ [] → EndsAt known end
ends_at packages wanted known end line lawful at empty = record {
  line = line;
  at = at;
  resolved = resolved_by packages wanted known line.conclusion line.reason (lawful end line at) empty;
  empty = empty;
}
