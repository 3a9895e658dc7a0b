-- Values that are made one after another, by what they are.
use Rattle.std.proofs.Common.{◌≡◌, ◌∙◌, ℕ, ◌+◌, List, [], ◌∷◌, ◌++◌, take, map, length, Some, ap, sym, ◌≤◌}
use Rattle.std.specs.List.{slice_get}
use Rattle.std.proofs.lemmas.List.{map-append, take_all, take_more}
use Rattle.std.proofs.lemmas.Option.{get_or_from_slice_get, slice_get_within}
use Rattle.serde_json.specs.Data.{Data, array}
use Rattle.serde_json.specs.View.{items_of, view}
use Rattle.serde_json.specs.declared.value.Value.{Value}

-- one more of a list
take_one : {A : Type 0} (xs : List A) (i : ℕ) (x : A) → slice_get xs i ≡ Some x → take (i + 1) xs ≡ take i xs ++ x ∷ []
take_one {A = A} xs i x here = take_more xs i x (slice_get_within xs i x here) ∙ ap (λ (y : A). take i xs ++ y ∷ []) (get_or_from_slice_get xs i x x here)

-- one value more
pub values_more : {A : Type 0} (json : A → Data) (xs : List A) (i : ℕ) (x : A) (values : List Value) (v : Value) → slice_get xs i ≡ Some x → map view values ≡ map json (take i xs)
    → view v ≡ json x → map view (values ++ v ∷ []) ≡ map json (take (i + 1) xs)
values_more json xs i x values v here before is =
    map-append view values (v ∷ []) ∙ ap (λ (ds : List Data). ds ++ view v ∷ []) before ∙ ap (λ (d : Data). map json (take i xs) ++ d ∷ []) is
    ∙ sym (ap (map json) (take_one xs i x here) ∙ map-append json (take i xs) (x ∷ []))

-- all values, as an array
pub array_of : {A : Type 0} (json : A → Data) (xs : List A) (i : ℕ) (values : List Value) (d : Data) → length xs ≤ i → map view values ≡ map json (take i xs)
    → d ≡ array (items_of (map view values)) → d ≡ array (items_of (map json xs))
array_of json xs i values d all made is = is ∙ ap (λ (ds : List Data). array (items_of ds)) (made ∙ ap (map json) (take_all i xs all))
