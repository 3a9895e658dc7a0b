-- Selections as they are told.
use Rattle.std.proofs.Common.{◌≡◌, ◌+◌, ◌∙◌, ℕ, List, [], ◌∷◌, ◌++◌, take, map, ap, true, nat_eq}
use Rattle.std.proofs.lemmas.Cmp.{nat_eq_equiv}
use Rattle.std.proofs.lemmas.List.{map-append, take_more}
use Rattle.std.proofs.lemmas.Map.Entries.{lookup_from_place}
use Rattle.std.proofs.lemmas.Option.{get_or_from_slice_get, slice_get_within}
use Rattle.std.specs.List.{IsDistinct}
use Rattle.std.specs.Map.{keys_of}
use Rattle.std.specs.Prelude.{Some, slice_get}
use Rattle.registry.specs.Registry.{Packages, is_published}
use Rattle.registry.specs.Selections.{IsSelection}
use Rattle.walk.specs.Choosing.{choice_of}
use Rattle.solver.specs.Outcomes.{told}

-- one entry more
pub told_next : (packages : Packages) (chosen : List (ℕ × ℕ)) (i : ℕ) (e : ℕ × ℕ) → slice_get chosen i ≡ Some e
    → map (told packages) (take (i + 1) chosen) ≡ map (told packages) (take i chosen) ++ told packages e ∷ []
told_next packages chosen i e at =
    ap (map (told packages)) (take_more chosen i e (slice_get_within chosen i e at) ∙ ap (λ y. take i chosen ++ y ∷ []) (get_or_from_slice_get chosen i e e at))
    ∙ map-append (told packages) (take i chosen) (e ∷ [])

-- what stands in a selection's list is published
pub listed_published : (packages : Packages) (chosen : List (ℕ × ℕ)) (i : ℕ) (e : ℕ × ℕ) → IsDistinct nat_eq (keys_of chosen) → IsSelection packages (choice_of chosen) → slice_get chosen i ≡ Some e
    → is_published packages e.0 e.1 ≡ true
listed_published packages chosen i e once selection at = selection e.0 e.1 (lookup_from_place nat_eq_equiv chosen i e.0 e.1 once at)
