-- Arrays of which each item is read, place by place.
use Rattle.std.proofs.Common.{◌≡◌, ℕ, zero, suc, ◌+◌, ◌<◌, ◌≤◌, List, [], ◌∷◌, ◌++◌, length, get_or, take, drop, true, false, true≢false, Option, Some, None, IsSome, is_some, unwrap_or, option_map, refl, sym, ap, ◌∙◌, arith}
use Rattle.std.specs.Option.{option_and_then}
use Rattle.std.specs.List.{slice_get}
use Rattle.std.proofs.lemmas.List.{at_drop_all, at_drop_more, take_more}
use Rattle.std.proofs.lemmas.Option.{slice_get_within, get_or_from_slice_get}
use Rattle.serde_json.specs.Data.{Data}
use Rattle.serde_json.specs.View.{items_view, view}
use Rattle.serde_json.specs.declared.value.Value.{Value}
use Rattle.wire.specs.Members.{each_of}

-- one more of a list
pub take_one_more : {A : Type 0} (xs : List A) (i : ℕ) (x : A) → slice_get xs i ≡ Some x → take (i + 1) xs ≡ take i xs ++ x ∷ []
take_one_more xs i x here = take_more xs i x (slice_get_within xs i x here) ∙ ap (λ y. take i xs ++ y ∷ []) (get_or_from_slice_get xs i x x here)

-- the list that a view is of
pub list_of_view : {A : Type 0} (o : Option (List A)) (seen : List A) → is_some o ≡ true → unwrap_or o [] ≡ seen → o ≡ Some seen
list_of_view None seen there is = absurd (true≢false (sym there))
list_of_view (Some found) seen there is = ap Some is

-- what was found at a place of a list is there
pub some_found : {A B : Type 0} (said : A → B) (found : Option A) (all : List B) (i : ℕ) → i < length all → slice_get all i ≡ option_map said found → IsSome found
some_found said found [] i h e = absurd (omega arith)
some_found said None (x ∷ all) zero h e = absurd (cc)
some_found said (Some y) (x ∷ all) zero h e = refl
some_found said found (x ∷ all) (suc i) h e = some_found said found all i (omega arith) e

first_and_rest : {A : Type 0} (o : Option A) (r : Option (List A)) (all : List A) → option_and_then (λ x. option_map (λ xs. x ∷ xs) r) o ≡ Some all
    → (x : A) × (xs : List A) × (o ≡ Some x) × (r ≡ Some xs) × (all ≡ x ∷ xs)
first_and_rest None r all e = absurd (cc)
first_and_rest (Some x) None all e = absurd (cc)
first_and_rest (Some x) (Some xs) all e = (x, xs, refl, refl, cc)

after : {A B : Type 0} (f : A → Option B) (o : Option A) (x : A) → o ≡ Some x → option_and_then f o ≡ f x
after f None x e = absurd (cc)
after f (Some y) x e = let same : y ≡ x = cc in ap f same

stands : {A : Type 0} (x : A) (o : Option (List A)) → is_some (option_map (λ xs. x ∷ xs) o) ≡ is_some o
stands x None = refl
stands x (Some xs) = refl

module _ {A : Type 0} (read : Data → Option A) where
  -- as many are read as there are values
  pub length-each : (vs : List Value) (all : List A) → each_of read (items_view vs) ≡ Some all → length vs ≡ length all
  length-each [] all e = let none : all ≡ [] = cc in ap length (sym none)
  length-each (v ∷ vs) all e =
      let split = first_and_rest (read (view v)) (each_of read (items_view vs)) all e in
      ap suc (length-each vs split.1 split.3) ∙ ap length (sym split.4)

  each_at_or : (vs : List Value) (all : List A) (i : ℕ) (d : Value) → each_of read (items_view vs) ≡ Some all → i < length vs → slice_get all i ≡ read (view (get_or vs i d))
  each_at_or [] all i d e h = absurd (omega arith)
  each_at_or (v ∷ vs) all zero d e h =
      let split = first_and_rest (read (view v)) (each_of read (items_view vs)) all e in
      ap (λ l. slice_get l 0) split.4 ∙ sym split.2
  each_at_or (v ∷ vs) all (suc i) d e h =
      let split = first_and_rest (read (view v)) (each_of read (items_view vs)) all e in
      ap (λ l. slice_get l (suc i)) split.4 ∙ each_at_or vs split.1 i d split.3 (omega arith)

  -- each value is what is read at its place
  pub each_at : (vs : List Value) (all : List A) (i : ℕ) (v : Value) → each_of read (items_view vs) ≡ Some all → i < length vs → v ≡ get_or vs i v → slice_get all i ≡ read (view v)
  each_at vs all i v e h is = each_at_or vs all i v e h ∙ ap (λ (w : Value). read (view w)) (sym is)

  -- one value that is read is passed
  pub each_passes : {B : Type 0} (said : B → A) (found : Option B) (vs : List Value) (i : ℕ) (v : Value) → i < length vs → v ≡ get_or vs i v → option_map said found ≡ read (view v)
      → is_some found ≡ true → is_some (each_of read (items_view (drop (i + 1) vs))) ≡ is_some (each_of read (items_view (drop i vs)))
  each_passes said None vs i v h is same there = absurd (true≢false (sym there))
  each_passes said (Some x) vs i v h is same there =
      let rest = each_of read (items_view (drop (i + 1) vs)) in
      let here : read (view (get_or vs i v)) ≡ Some (said x) = ap (λ (w : Value). read (view w)) (sym is) ∙ sym same in
      let step = at_drop_more (λ l. each_of read (items_view l)) vs i v h ∙ after (λ y. option_map (λ ys. y ∷ ys) rest) (read (view (get_or vs i v))) (said x) here in
      sym (ap is_some step ∙ stands (said x) rest)

  -- one value that isn't read stops the reading
  pub each_stops : {B : Type 0} (said : B → A) (found : Option B) (vs : List Value) (i : ℕ) (v : Value) → i < length vs → v ≡ get_or vs i v → option_map said found ≡ read (view v)
      → is_some found ≡ false → is_some (each_of read (items_view (drop i vs))) ≡ false
  each_stops said (Some x) vs i v h is same missing = absurd (true≢false missing)
  each_stops said None vs i v h is same missing =
      let rest = each_of read (items_view (drop (i + 1) vs)) in
      let here : read (view (get_or vs i v)) ≡ None = ap (λ (w : Value). read (view w)) (sym is) ∙ sym same in
      ap is_some (at_drop_more (λ l. each_of read (items_view l)) vs i v h ∙ ap (option_and_then (λ y. option_map (λ ys. y ∷ ys) rest)) here)

  -- all values are read
  pub each_read : (vs : List Value) (i : ℕ) → length vs ≤ i → is_some (each_of read (items_view (drop i vs))) ≡ true
  each_read vs i past = at_drop_all (λ l. is_some (each_of read (items_view l))) vs i past
