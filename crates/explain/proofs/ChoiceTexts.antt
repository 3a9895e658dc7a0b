-- A package with versions of it, with or without its set.
use Rattle.std.proofs.Common.{◌≡◌, ◌++◌, ℕ, List, Bool, true, false, ◌&&◌, nat_eq, codes, refl}
use Rattle.registry.specs.Registry.{Packages}
use Rattle.std.specs.Str.{bytes_eq}
use Rattle.explain.specs.Choices.{choice_text, is_request, package_text, set_text}

first-true : (a b : Bool) → (a && b) ≡ true → a ≡ true
first-true true b h = refl
first-true false b h = h

-- the request alone is its name
pub name-alone : (packages : Packages) (p : ℕ) (set : List ℕ) → is_request p set ≡ true → choice_text packages p set ≡ package_text packages p
unfolding choice_text
name-alone packages p set alone =
    let root : nat_eq p 0 ≡ true = first-true (nat_eq p 0) (bytes_eq set _) alone in
    rw (alone, root) refl

-- anything else is the name and the set
pub name-and-set : (packages : Packages) (p : ℕ) (set : List ℕ) → is_request p set ≡ false
    → choice_text packages p set ≡ package_text packages p ++ (codes " " ++ set_text packages p set)
unfolding choice_text
name-and-set packages p set other = rw other refl
