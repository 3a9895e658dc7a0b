-- What a publication's place says: its package, whether it is allowed, and that no two of a package have equal precedence.
use Rattle.std.proofs.Common.{◌≡◌, ◌∙◌, ◌||◌, ℕ, refl, sym, ap, nat_eq, Bool, true, false}
use Rattle.std.proofs.lemmas.Bool.{eq-eqb, eqb-true, false_from_ne_true}
use Rattle.std.proofs.lemmas.Option.{none-some, same_Some, slice_get_within}
use Rattle.std.specs.Prelude.{None, Option, Some, slice_get}
use Rattle.std.specs.Option.{option_and_then}
use Rattle.std.specs.Cmp.{tied_itself}
use Rattle.std.specs.Ordering.{ordering_reverse}
use Rattle.std.specs.declared.cmp.Ordering.TheVariants.{Less, Equal}
use Rattle.versions.specs.Precedence.{PrecedenceIsATotalPreorder}
use Rattle.versions.specs.Words.{Text, precedence}
use Rattle.registry.specs.Highest.{IsHighest}
use Rattle.registry.specs.Laws.{HighestIsOne}
use Rattle.registry.specs.Lawful.{IsRegistry}
use Rattle.registry.specs.Registry.{Package, Packages, Publication, package_at, publication_at, versions_or_none}
use Rattle.registry.specs.Requests.{Wanted, allows, allows_some, is_allowed}

-- a publication stands in the list of its package
pub publication_at-package : (packages : Packages) (p k : ℕ) (v : Publication) → publication_at packages p k ≡ Some v → (pack : Package) × (package_at packages p ≡ Some pack) × (slice_get pack.versions k ≡ Some v)
unfolding publication_at
publication_at-package packages p k v e = by (package_at packages p) refl
  where
    by : (o : Option Package) → package_at packages p ≡ o → (pack : Package) × (package_at packages p ≡ Some pack) × (slice_get pack.versions k ≡ Some v)
    by None at = absurd (none-some v (sym (ap (λ (o : Option Package). option_and_then (λ (pack : Package). slice_get pack.versions k) o) at) ∙ e))
    by (Some pack) at = (pack, at, sym (ap (λ (o : Option Package). option_and_then (λ (q : Package). slice_get q.versions k) o) at) ∙ e)

-- as what the package's number says
pub publication_in : (packages : Packages) (p k : ℕ) (pack : Package) (v : Publication) → package_at packages p ≡ Some pack → publication_at packages p k ≡ Some v → slice_get pack.versions k ≡ Some v
publication_in packages p k pack v at e =
    let found = publication_at-package packages p k v e in
    ap (λ (q : Package). slice_get q.versions k) (same_Some pack found.0 (sym at ∙ found.1)) ∙ found.2

-- as what the package lists
pub listed_at : (packages : Packages) (p k : ℕ) (v : Publication) → publication_at packages p k ≡ Some v → slice_get (versions_or_none (package_at packages p)) k ≡ Some v
listed_at packages p k v e = let found = publication_at-package packages p k v e in ap (λ (o : Option Package). slice_get (versions_or_none o) k) found.1 ∙ found.2

-- a published version is allowed as its publication is
pub is_allowed-published : (packages : Packages) (wanted : Wanted) (p k : ℕ) (pack : Package) (publication : Publication) → publication_at packages p k ≡ Some publication
    → package_at packages p ≡ Some pack → is_allowed packages wanted p k ≡ allows wanted pack.name publication
unfolding is_allowed
is_allowed-published packages wanted p k pack publication e at =
    ap (λ o. allows_some wanted o (publication_at packages p k)) at ∙ ap (λ o. allows_some wanted (Some pack) o) e

-- ---- equal precedence

pub own : (total : PrecedenceIsATotalPreorder) (a : Text) → precedence a a ≡ Less → ⊥
own total a e = cc (sym e ∙ tied_itself total a)

-- versions of a package between which the order is a tie are one
pub tied_once : HighestIsOne → PrecedenceIsATotalPreorder → (packages : Packages) (p i j : ℕ) (u v : Publication) → IsRegistry packages → publication_at packages p i ≡ Some u → publication_at packages p j ≡ Some v
    → precedence u.version v.version ≡ Equal → i ≡ j
tied_once once total packages p i j u v lawful at_i at_j tie =
    once packages p test i j lawful (top i u at_i (ap (λ b. b || nat_eq i j) (eq-eqb i i refl)) (own total u.version) back) (top j v at_j (by_second j) forth (own total v.version))
  where
    test : ℕ → Bool
    test k = nat_eq k i || nat_eq k j

    by_second : (k : ℕ) → (nat_eq k i || nat_eq k k) ≡ true
    by_second k = ap (λ b. nat_eq k i || b) (eq-eqb k k refl) ∙ any (nat_eq k i)
      where
        any : (b : Bool) → (b || true) ≡ true
        any true = refl
        any false = refl

    back : precedence u.version v.version ≡ Less → ⊥
    back e = cc (sym tie ∙ e)

    forth : precedence v.version u.version ≡ Less → ⊥
    forth e = cc (sym e ∙ total.antisymm v.version u.version ∙ ap ordering_reverse tie)

    top : (k : ℕ) (w : Publication) → publication_at packages p k ≡ Some w → test k ≡ true → (precedence w.version u.version ≡ Less → ⊥) → (precedence w.version v.version ≡ Less → ⊥)
        → IsHighest (λ l b. test l ≡ b) (versions_or_none (package_at packages p)) k
    top k w at passes not_u not_v = record {
      published = slice_get_within (versions_or_none (package_at packages p)) k w (listed_at packages p k w at);
      passes = passes;
      fails = λ l version other at_k at_l less.
          let one : version ≡ w = same_Some version w (sym at_k ∙ listed_at packages p k w at) in
          let below : precedence w.version other.version ≡ Less = ap (λ (x : Publication). precedence x.version other.version) (sym one) ∙ less in
          ap (λ b. b || nat_eq l j) (apart l i other u at_l at_i below not_u) ∙ apart l j other v at_l at_j below not_v;
    }
      where
        -- a version above this one is none that is not
        apart : (l m : ℕ) (other x : Publication) → slice_get (versions_or_none (package_at packages p)) l ≡ Some other → publication_at packages p m ≡ Some x → precedence w.version other.version ≡ Less
            → (precedence w.version x.version ≡ Less → ⊥) → nat_eq l m ≡ false
        apart l m other x at_l at_m less not_x = false_from_ne_true (nat_eq l m) (λ t.
            let same : other ≡ x = same_Some other x (sym at_l ∙ ap (slice_get (versions_or_none (package_at packages p))) (eqb-true l m t) ∙ listed_at packages p m x at_m) in
            not_x (ap (λ (y : Publication). precedence w.version y.version) (sym same) ∙ less))
