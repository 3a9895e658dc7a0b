-- Decisions, and what comes of lines that speak against a package.
use Rattle.std.proofs.Common.{◌≡◌, ◌<◌, ◌∙◌, ℕ, List, [], ◌∷◌, ◌++◌, refl, sym, ap, subst, true, false, true≢false, ◌&&◌, inl, inr, length}
use Rattle.std.proofs.lemmas.Bool.{cases_eq, cases_lt, and_parts, eq-eqb, ne_eqb}
use Rattle.std.proofs.lemmas.Option.{none-some, same_Some}
use Rattle.std.specs.Prelude.{Option, None, Some, IfNone}
use Rattle.terms.specs.Terms.{is_in, true_of}
use Rattle.terms.specs.Incompats.{true_at}
use Rattle.terms.specs.declared.term.Term.{Term}
use Rattle.terms.specs.declared.term.Term.TheVariants.{In}
use Rattle.search.specs.declared.assignment.Assignment.{Assignment}
use Rattle.search.specs.declared.assignment.Why.TheVariants.{Decided}
use Rattle.search.specs.Assignments.{says}
use Rattle.search.specs.Satisfying.{IsNeither}
use Rattle.search.specs.Rank.{rank}
use Rattle.registry.specs.Highest.{IsHighest}
use Rattle.registry.specs.Laws.{UnpublishedFrom}
use Rattle.registry.specs.Registry.{Package, Packages, Publication, package_at, publication_at, versions_or_none}
use Rattle.registry.specs.Requests.{Wanted, allows_some, is_allowed}
use Rattle.derivations.specs.Facts.{Terms}
use Rattle.derivations.specs.declared.known.CausedIncompatibility.{CausedIncompatibility}
use Rattle.oracle.specs.declared.task.Task.{Task}
use Rattle.search.specs.declared.search.Search.{Search}
use Rattle.search.specs.declared.acting.Acted.{Acted}
use Rattle.search.specs.declared.acting.Acted.TheVariants as acted
use Rattle.search.specs.Picking.{is_choosable, AreBarred, IsWithin}
use Rattle.facts.specs.Pushing.{SaysAt}
use Rattle.search.specs.Deciding.{IsPlaced}
use Rattle.search.specs.Searching.{ActsBy, IsSearch, IsUnused}
use Rattle.search.proofs.Kept.{IsSearch-push}
use Rattle.facts.proofs.Publishing.{count}

pub IfNone-then : {X P Q : Type 0} (o : Option X) → IfNone o P → (P → Q) → IfNone o Q
IfNone-then None h f = f h
IfNone-then (Some x) h f = tt

-- the highest of the versions to choose from is one
pub highest_is_within : (task : Task) (p : ℕ) (said : Term) (k : ℕ) → IsHighest (λ j b. is_choosable task p said j ≡ b) (versions_or_none (package_at task.registry.now.packages p)) k → IsWithin task p said k
highest_is_within task p said k h =
    let both = and_parts (true_of said (Some k)) (is_allowed task.registry.now.packages task.request.now p k) h.passes in
    record { allowed = both.1; within = both.0 }

-- an ordinal that is not published is not allowed
unpublished_barred : (task : Task) (p k : ℕ) → publication_at task.registry.now.packages p k ≡ None → is_allowed task.registry.now.packages task.request.now p k ≡ false
unfolding is_allowed
unpublished_barred task p k gone = by (package_at task.registry.now.packages p) (publication_at task.registry.now.packages p k) gone
  where
    by : (o : Option Package) (v : Option Publication) → v ≡ None → allows_some task.request.now o v ≡ false
    by None v e = refl
    by (Some pack) None e = refl
    by (Some pack) (Some v) e = absurd (none-some v (sym e))

-- where there is no version to choose from, none within the term is allowed
pub none_barred : UnpublishedFrom → (task : Task) (p : ℕ) (said : Term) → ((k : ℕ) → k < length (versions_or_none (package_at task.registry.now.packages p)) → is_choosable task p said k ≡ false) → AreBarred task p said
none_barred unpublished task p said h k within = elim (cases_lt k (count task.registry.now.packages p)) [
  | inl lt ↦ sym (ap (λ b. b && is_allowed task.registry.now.packages task.request.now p k) within) ∙ h k lt
  | inr from ↦ unpublished_barred task p k (unpublished task.registry.now.packages p k from)
]

-- what an attempt did after lines were added, seen from before
pub acts_as : (task : Task) (old mid new : Search) (N M : Type 0) (a : Acted) → mid.partial ≡ old.partial → (N → M) → ActsBy task mid new N a → ActsBy task old new M a
acts_as task old mid new N M (acted.Derived pkg) same f h = (h.0, subst (λ p. rank new.partial < rank p) same h.1)
acts_as task old mid new N M (acted.Backjumped at pkg) same f h = (h.0, subst (λ p. rank new.partial < rank p) same h.1)
acts_as task old mid new N M (acted.Refused end) same f h = h
acts_as task old mid new N M acted.Neither same f h = f h

-- the line that was not used is the one that says this
pub unused_says : (old new : Search) (terms : Terms) (at : ℕ) → SaysAt old.known.items terms at → IsUnused old new at → IsNeither old.partial terms
unused_says old new terms at place unused =
    let same : unused.1.0 ≡ place.0 = same_Some unused.1.0 place.0 (sym unused.1.1 ∙ place.1) in
    subst (λ t. IsNeither old.partial t) (ap (λ l. l.conclusion) same ∙ place.2) unused.1.2

-- a line of one term that each choice which is left makes true is satisfied
pub not_neither_alone : (made : List Assignment) (p : ℕ) (versions : List ℕ) → ((c : Option ℕ) → says made p c ≡ true → is_in versions c ≡ true) → IsNeither made ((p, In versions) ∷ []) → ⊥
not_neither_alone made p versions left n = elim (cases_eq p n.pkg) [
  | inl same ↦
      let here : is_in versions n.choice ≡ true = left n.choice (ap (λ q. says made q n.choice) same ∙ n.said) in
      let there : true_at ((p, In versions) ∷ []) n.pkg n.choice ≡ true = rw (eq-eqb p n.pkg same) here in
      true≢false (sym there ∙ n.false_there)
  | inr apart ↦
      let there : true_at ((p, In versions) ∷ []) n.pkg n.choice ≡ true = rw (ne_eqb p n.pkg apart) refl in
      true≢false (sym there ∙ n.false_there)
]

-- a decision goes on
pub decided_search : (packages : Packages) (wanted : Wanted) (made new : List Assignment) (known : List CausedIncompatibility) (p k level : ℕ) → IsPlaced packages wanted made p k → IsSearch packages wanted made known
    → new ≡ made ++ record { pkg = p; term = In (k ∷ []); level = level; why = Decided k } ∷ [] → IsSearch packages wanted new known
decided_search packages wanted made new known p k level placed h is =
    rw is (IsSearch-push packages wanted made known (record { pkg = p; term = In (k ∷ []); level = level; why = Decided k }) h placed)

-- a decision after lines were added and none could be used
pub decided_goes : (packages : Packages) (wanted : Wanted) (made mid new : List Assignment) (known after : List CausedIncompatibility) (p k level : ℕ) → IsPlaced packages wanted made p k → mid ≡ made → after ≡ known → IsSearch packages wanted made known
    → new ≡ mid ++ record { pkg = p; term = In (k ∷ []); level = level; why = Decided k } ∷ [] → rank new < rank mid → IsSearch packages wanted new after × (rank new < rank made)
decided_goes packages wanted made mid new known after p k level placed same kept h is falls = (
  rw kept (decided_search packages wanted made new known p k level placed h (is ∙ ap (λ xs. xs ++ record { pkg = p; term = In (k ∷ []); level = level; why = Decided k } ∷ []) same)),
  subst (λ xs. rank new < rank xs) same falls,
)
