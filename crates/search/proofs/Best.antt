-- The best version that is left of a package: the lock's, else the highest.
use Rattle.std.proofs.Common.{◌≡◌, ◌∙◌, ℕ, refl, sym, ap, inl, inr, true≢false}
use Rattle.std.proofs.lemmas.Option.{none-some, same_Some}
use Rattle.std.specs.Prelude.{None, Option, Some, slice_get}
use Rattle.std.specs.Option.{option_and_then}
use Rattle.std.specs.Ordering.{ordering_reverse}
use Rattle.std.specs.declared.cmp.Ordering.TheVariants.{Less}
use Rattle.terms.specs.declared.term.Term.{Term}
use Rattle.versions.specs.Precedence.{PrecedenceIsATotalPreorder}
use Rattle.versions.specs.Words.{Text, precedence}
use Rattle.registry.specs.Registry.{Package, Packages, Publication, package_at, publication_at, versions_or_none}
use Rattle.walk.specs.PlainlyNewest.{AheadIsLockedOrHigher}
use Rattle.oracle.specs.declared.task.Task.{Task}
use Rattle.search.specs.Picking.{IsBestOf, IsHighestChoosable, IsLockedWithin, NoneLockedWithin}
use Rattle.search.proofs.Decisions.{highest_is_within}

listed_at : (packages : Packages) (p k : ℕ) (v : Publication) → publication_at packages p k ≡ Some v → slice_get (versions_or_none (package_at packages p)) k ≡ Some v
unfolding publication_at
listed_at packages p k v e = by (package_at packages p) refl
  where
    by : (o : Option Package) → package_at packages p ≡ o → slice_get (versions_or_none (package_at packages p)) k ≡ Some v
    by None at = absurd (none-some v (sym (ap (λ (o : Option Package). option_and_then (λ (pack : Package). slice_get pack.versions k) o) at) ∙ e))
    by (Some pack) at =
        ap (λ (o : Option Package). slice_get (versions_or_none o) k) at
        ∙ sym (ap (λ (o : Option Package). option_and_then (λ (q : Package). slice_get q.versions k) o) at) ∙ e

not_lower_itself : PrecedenceIsATotalPreorder → (a : Text) → precedence a a ≡ Less → ⊥
not_lower_itself total a e = cc (sym e ∙ total.antisymm a a ∙ ap ordering_reverse e)

-- ---- the best

module _ (law : AheadIsLockedOrHigher) (task : Task) (p : ℕ) (said : Term) (k : ℕ) where
  pub best_locked : PrecedenceIsATotalPreorder → IsLockedWithin task p said k → IsBestOf task p said k
  best_locked total l = record {
    within = l.within;
    best = λ j a. elim (law task.registry.now.packages task.request.now p k j a) [
      | inl alone ↦ absurd (true≢false (sym l.locked.locked ∙ alone.1))
      | inr above ↦ elim above.0 [
        | inl locked ↦
            let place : j ≡ k = l.locked.only j locked in
            let same : a.one ≡ a.other = same_Some a.one a.other (sym a.first ∙ ap (publication_at task.registry.now.packages p) place ∙ a.second) in
            absurd (not_lower_itself total a.other.version (ap (λ (v : Publication). precedence a.other.version v.version) (sym same) ∙ above.1))
        | inr unlocked ↦ absurd (true≢false (sym l.locked.locked ∙ unlocked))
      ]
    ];
  }

  pub best_unlocked : NoneLockedWithin task p said → IsHighestChoosable task p said k → IsBestOf task p said k
  best_unlocked none h = record {
    within = highest_is_within task p said k h;
    best = λ j a. elim (law task.registry.now.packages task.request.now p k j a) [
      | inl alone ↦ none j alone.0
      | inr above ↦ h.fails j a.other a.one (listed_at task.registry.now.packages p k a.other a.second) (listed_at task.registry.now.packages p j a.one a.first) above.1
    ];
  }
