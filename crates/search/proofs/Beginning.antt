-- The start of a search.
use Rattle.std.proofs.Common.{◌≡◌, ◌∙◌, ℕ, zero, suc, [], ◌∷◌, refl, sym, subst, arith, true, true≢false, ◌&&◌, take}
use Rattle.std.proofs.lemmas.Bool.{and_parts, ne_eqb}
use Rattle.std.proofs.lemmas.Option.{none-some, same_Some}
use Rattle.std.specs.Prelude.{Option, None, Some, slice_get}
use Rattle.terms.specs.Terms.{true_of}
use Rattle.terms.specs.declared.term.Term.TheVariants.{In}
use Rattle.search.specs.declared.assignment.Assignment.{Assignment}
use Rattle.search.specs.declared.assignment.Why.TheVariants.{Decided, Derived}
use Rattle.search.specs.Assignments.{says}
use Rattle.registry.specs.Registry.{Packages}
use Rattle.registry.specs.Requests.{Wanted}
use Rattle.facts.specs.Lines.{AreLines, root_known}
use Rattle.search.specs.Searching.{IsCausedBy, IsSearch}

abbrev root_derived : Assignment
root_derived = record { pkg = 0; term = In (0 ∷ []); level = 0; why = Derived 0 }

abbrev root_decided : Assignment
root_decided = record { pkg = 0; term = In (0 ∷ []); level = 1; why = Decided 0 }

only_zero : (c : Option ℕ) → true_of (In (0 ∷ [])) c ≡ true → c ≡ Some 0
only_zero None h = absurd (true≢false (sym h))
only_zero (Some zero) h = refl
only_zero (Some (suc n)) h = absurd (true≢false (sym h ∙ rw (ne_eqb 0 (suc n) (λ e. omega (arith, e))) refl))

pub start_search : (packages : Packages) (wanted : Wanted) → AreLines packages wanted (root_known ∷ []) → IsSearch packages wanted (root_derived ∷ root_decided ∷ []) (root_known ∷ [])
start_search packages wanted lines = record {
  lines = lines;
  begins = record {
    two = omega arith;
    opened = refl;
    chosen = refl;
    only = λ c h. only_zero c (both c h);
    alone = λ p c apart. rw (ne_eqb 0 p (λ e. apart (sym e))) refl;
  };
  caused = λ i a at. caused i a at;
}
  where
    both : (c : Option ℕ) → says (root_derived ∷ root_decided ∷ []) 0 c ≡ true → true_of (In (0 ∷ [])) c ≡ true
    both c h = (and_parts (true_of (In (0 ∷ [])) c) (true_of (In (0 ∷ [])) c && true) h).0

    caused : (i : ℕ) (a : Assignment) → slice_get (root_derived ∷ root_decided ∷ []) i ≡ Some a → IsCausedBy packages wanted (root_known ∷ []) (take i (root_derived ∷ root_decided ∷ [])) a a.why
    caused zero a at =
        subst (λ (x : Assignment). IsCausedBy packages wanted (root_known ∷ []) [] x x.why) (same_Some root_derived a at)
        (record { line = root_known; at = refl; on_package = refl; negation = λ c. refl; others = λ p c apart said. rw (ne_eqb 0 p (λ e. apart (sym e))) refl })
    caused (suc zero) a at = subst (λ (x : Assignment). IsCausedBy packages wanted (root_known ∷ []) (root_derived ∷ []) x x.why) (same_Some root_decided a at) refl
    caused (suc (suc i)) a at = absurd (none-some a at)
