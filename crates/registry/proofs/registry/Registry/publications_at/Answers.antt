use Rattle.std.proofs.Common.{◌∙◌, ◌≡◌, ◌<◌, ◌≤◌, ◌+◌, ℕ, List, subst, sym, ap, arith, get_or, length, nat_lt, rules, true, false}
use Rattle.std.specs.Prelude.{IfSome, None, Option, Some, is_some, slice_get}
use Rattle.std.specs.Option.{option_copied}
use Rattle.std.specs.Borrow.{Bor}
use Rattle.std.proofs.lemmas.Option.{slice_get_past}
use Rattle.versions.specs.Words.{Text}
use Rattle.registry.specs.Registry.{package_at, versions_or_none}
use Rattle.registry.specs.Lawful.{IsRegistry}
use Rattle.registry.specs.Places.{AreAllPlaced, AreTold, named_of, named_on}
use Rattle.registry.specs.Publications.{PublicationList, packages_in, publications_in}
use Rattle.registry.specs.Rooms.{State}
use Rattle.registry.proofs.PackageLemmas.{length-packages_in, package_at-next, package_at-zero, versions-placed}
use Rattle.registry.proofs.PlaceLemmas.{all-at}
use Rattle.registry.proofs.PlacedNeeds.{named_on-list, place-told}
use Rattle.registry.proofs.registry.Registry.publications_at.Goals as goal

within : (m n : ℕ) → true ≡ nat_lt m n → m < n
within m n e = let t : nat_lt m n ≡ true = sym e in search rules

past : (m n : ℕ) → false ≡ nat_lt m n → n ≤ m
past m n e = let f : nat_lt m n ≡ false = sym e in search rules

-- what the look at a place found has the publications of the package there
found : (names : List Text) (lists : List PublicationList) (i : ℕ) (result : Option (Bor PublicationList)) → length names ≡ length lists → is_some result ≡ nat_lt i (length lists)
    → IfSome result (λ x. x.now ≡ get_or lists i x.now) → publications_in (option_copied result) ≡ versions_or_none (slice_get (packages_in names lists) i)
found names lists i None paired e at =
    let above = past i (length lists) e in
    let len = length-packages_in names lists paired in
    sym (ap versions_or_none (slice_get_past (packages_in names lists) i (omega (arith, above, len, paired))))
found names lists i (Some x) paired e at = sym (versions-placed names lists i x.now paired (within i (length lists) e) at)

-- and has its named requirements
listed : (lists : List PublicationList) (n i : ℕ) (result : Option (Bor PublicationList)) → n ≡ i + 1 → is_some result ≡ nat_lt i (length lists)
    → IfSome result (λ x. x.now ≡ get_or lists i x.now) → IfSome result (λ x. x.now.named ≡ named_on (named_of lists) n)
listed lists n i None e there at = tt
listed lists n i (Some x) e there at = named_on-list lists n i x.now e (within i (length lists) there) at

-- and the places beside them tell what they depend on
told : (names : List Text) (lists : List PublicationList) (n i : ℕ) (result : Option (Bor PublicationList)) → length names ≡ length lists → IsRegistry (packages_in names lists)
    → AreAllPlaced names lists → n ≡ i + 1 → is_some result ≡ nat_lt i (length lists) → IfSome result (λ x. x.now ≡ get_or lists i x.now)
    → IfSome result (λ x. AreTold (packages_in names lists) (named_of lists) n x.now)
told names lists n i None paired lawful placed e there at = tt
told names lists n i (Some x) paired lawful placed e there at = λ k j place past stands.
    let lt = within i (length lists) there in
    place-told names lists paired lawful n i k j x.now place e lt at (all-at names lists i x.now lt at placed) past stands

pub returns-in_err-index-clause-publications : goal.returns-in_err-index-clause-publications
returns-in_err-index-clause-publications c =
    ap (λ o. publications_in (option_copied o)) c.from_residual.ensures
    ∙ sym (ap versions_or_none (package_at-zero c.args.self.now.packages c.args.pkg c.in_err-index.ensures))

pub returns-clause-publications : goal.returns-clause-publications
returns-clause-publications c =
    found c.self.inside.names.keys c.self.inside.lists.items c.in_ok-index.index c.get.result c.self.invariant.0
    (rw c.deref.ensures.value at c.get.ensures.lookup.0) (rw c.deref.ensures.value at c.get.ensures.lookup.1)
    ∙ ap (λ i. versions_or_none (slice_get (packages_in c.self.inside.names.keys c.self.inside.lists.items) i)) c.in_ok-index.ensures.1
    ∙ sym (ap versions_or_none (package_at-next _ c.args.pkg c.in_ok-index.ensures.0))
    ∙ ap (λ (s : State). versions_or_none (package_at s.packages c.args.pkg)) c.self.view_is

pub returns-clause-named : goal.returns-clause-named
returns-clause-named c =
    subst (λ (s : State). IfSome c.get.result (λ x. x.now.named ≡ named_on s.named c.args.pkg)) c.self.view_is
    (listed c.self.inside.lists.items c.args.pkg c.in_ok-index.index c.get.result (omega (arith, c.in_ok-index.ensures.0, c.in_ok-index.ensures.1))
    (rw c.deref.ensures.value at c.get.ensures.lookup.0) (rw c.deref.ensures.value at c.get.ensures.lookup.1))

pub returns-clause-placed : goal.returns-clause-placed
returns-clause-placed c =
    subst (λ (s : State). IfSome c.get.result (λ x. AreTold s.packages s.named c.args.pkg x.now)) c.self.view_is
    (told c.self.inside.names.keys c.self.inside.lists.items c.args.pkg c.in_ok-index.index c.get.result c.self.invariant.0 c.self.invariant.1 c.self.invariant.3
    (omega (arith, c.in_ok-index.ensures.0, c.in_ok-index.ensures.1))
    (rw c.deref.ensures.value at c.get.ensures.lookup.0) (rw c.deref.ensures.value at c.get.ensures.lookup.1))
