-- What a version depends on, where a word has room for the versions that meet it.
use Rattle.std.proofs.Common.{◌≡◌, ◌∙◌, ℕ, List, sym, ap}
use Rattle.std.specs.Prelude.{Some, slice_get}
use Rattle.std.proofs.lemmas.Option.{same_Some}
use Rattle.versions.specs.Words.{Text}
use Rattle.terms.specs.Sets.{has}
use Rattle.registry.specs.Dependencies.{IsDependency}
use Rattle.registry.specs.Places.{IsPlace, named_on}
use Rattle.registry.specs.Registry.{Packages, meets_at}
use Rattle.registry.specs.declared.place.Place.{Place}
use Rattle.walk.specs.Best.{NamesAt}

pub low_is_dependency : (packages : Packages) (named : List (List Text)) (place : Place) (set : List ℕ) (need : Text) → slice_get (named_on named place.target) place.need ≡ Some need
    → ((k : ℕ) → has set k ≡ meets_at packages place.target k need) → (p k index : ℕ) → IsPlace packages named p k index place → IsDependency packages p k index place.target set
low_is_dependency packages named place set need here members p k index at =
    let same : at.need ≡ need = same_Some at.need need (sym at.stands ∙ here) in
    record {
      name = at.name;
      need = at.need;
      at = at.at;
      number = at.number;
      members = λ j. members j ∙ ap (λ n. meets_at packages place.target j n) (sym same);
    }

pub place_names : (packages : Packages) (named : List (List Text)) (p k index : ℕ) (place : Place) → IsPlace packages named p k index place → NamesAt packages p k index place.target
place_names packages named p k index place at = ((at.name, at.need), at.at, at.number)
