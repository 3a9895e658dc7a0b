-- The registry's clause says that the name is the one of the package at this number; the law turns that round.
use Rattle.std.proofs.Common.{◌≡◌, ◌∙◌, ℕ, ap, refl, subst, sym}
use Rattle.std.specs.Prelude.{Option, Some, None, IsSome, option_map}
use Rattle.std.specs.Option.{option_copied}
use Rattle.versions.specs.Words.{Text}
use Rattle.registry.specs.Laws.{NamesHaveTheirNumbers}
use Rattle.registry.specs.Lawful.{IsRegistry}
use Rattle.registry.specs.Registry.{Package, Packages, number_of, package_at}
use Rattle.by_name.proofs.naming.package_name.Goals as goal

-- a package that is there has a name
unnamed : (o : Option Package) → None ≡ option_map (λ (pack : Package). pack.name) o → IsSome o → ⊥
unnamed None none there = absurd (cc)
unnamed (Some pack) none there = absurd (cc)

named_at : NamesHaveTheirNumbers → (packages : Packages) (p : ℕ) (name : Text) → IsRegistry packages → Some name ≡ option_map (λ (pack : Package). pack.name) (package_at packages p)
    → number_of packages name ≡ Some p
named_at numbers packages p name lawful is = by (package_at packages p) refl is
  where
    by : (o : Option Package) → package_at packages p ≡ o → Some name ≡ option_map (λ (pack : Package). pack.name) o → number_of packages name ≡ Some p
    by None at e = absurd (cc)
    by (Some pack) at e = let same : pack.name ≡ name = cc in subst (λ (n : Text). number_of packages n ≡ Some p) same (numbers packages p pack lawful at)

pub unreachable-requires : goal.unreachable-requires
unreachable-requires c = unnamed (package_at c.args.registry.now.packages c.args.pkg) (sym (ap option_copied c.in_default.is) ∙ c.name_at.ensures.name) c.requires

pub returns : goal.returns
returns c = subst (λ (n : Text). number_of c.args.registry.now.packages n ≡ Some c.args.pkg) (sym c.in_ok-clone.ensures.cases)
    (named_at c.names_have_their_numbers.ensures c.args.registry.now.packages c.args.pkg c.in-Some.name.now c.name_at.ensures.reachable (sym (ap option_copied c.in-Some.is) ∙ c.name_at.ensures.name))
