-- What holds of each package that is reached, and of preferred selections.
use Rattle.std.proofs.Common.{◌≡◌, ◌∙◌, ℕ, List, refl, sym}
use Rattle.std.specs.Prelude.{Contains, Option, Some, None}
use Rattle.versions.specs.Words.{Text}
use Rattle.registry.specs.Registry.{Packages, needs_of, number_of}
use Rattle.registry.specs.Requests.{Wanted}
use Rattle.registry.specs.Selections.{Choices, IsReached, along, needed}
use Rattle.registry.specs.Preference.{IsPreferredSelection}

-- what holds of the packages of the needs, and with a package of those that its chosen version depends on, holds of each that is reached
pub holds-reached : (packages : Packages) (needs : List (Text × Text)) (s : Choices) (P : ℕ → Type 0)
    → ((p : ℕ) (name need : Text) → Contains needs (name, need) → number_of packages name ≡ Some p → P p)
    → ((from k to : ℕ) (name need : Text) → P from → s from ≡ Some k → Contains (needs_of packages from k) (name, need) → number_of packages name ≡ Some to → P to)
    → (p : ℕ) → IsReached packages needs s p → P p
holds-reached packages needs s P first next _ (needed p name need among at) = first p name need among at
holds-reached packages needs s P first next _ (along from k to name need reached chosen among at) =
    next from k to name need (holds-reached packages needs s P first next from reached) chosen among at

-- there is one preferred selection at most
pub preferred-once : (packages : Packages) (wanted : Wanted) (s t : Choices) → IsPreferredSelection packages wanted s → IsPreferredSelection packages wanted t → (p : ℕ) → s p ≡ t p
preferred-once packages wanted s t one two p = by (s p) (t p) refl refl
  where
    by : (a b : Option ℕ) → s p ≡ a → t p ≡ b → a ≡ b
    by None None ea eb = refl
    by None (Some k) ea eb = let here = one.reached p (two.others p k eb) in cc (sym ea ∙ here.2)
    by (Some k) None ea eb = let here = two.reached p (one.others p k ea) in cc (sym here.2 ∙ eb)
    by (Some k) (Some j) ea eb =
        let left = one.reached p (one.others p k ea) in
        let right = two.reached p (one.others p k ea) in
        sym ea ∙ left.2 ∙ sym left.1 ∙ right.1 ∙ sym right.2 ∙ eb
