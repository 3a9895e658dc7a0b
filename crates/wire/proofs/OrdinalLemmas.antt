-- Arrays of ordinals that ascend, place by place.
use Rattle.std.proofs.Common.{◌≡◌, ℕ, zero, suc, ◌<◌, ◌≤◌, Bool, true, false, List, [], ◌∷◌, length, get_or, nat_le, Option, Some, None, IsSome, option_map, if◌then◌else◌, refl, sym, ap, subst, ◌∙◌, arith}
use Rattle.std.specs.Option.{option_and_then}
use Rattle.std.specs.List.{slice_get}
use Rattle.std.proofs.lemmas.Bool.{leb-true}
use Rattle.terms.specs.Sets.{AscendingFrom}
use Rattle.serde_json.specs.View.{items_view, view}
use Rattle.serde_json.specs.declared.value.Value.{Value}
use Rattle.wire.specs.Members.{whole_of}
use Rattle.wire.specs.NamedShapes.{at_least, ordinals_from}

-- what is read of a first value and of the rest
record First (found : Option ℕ) (rest : ℕ → Option (List ℕ)) (all : List ℕ) : Type 0 where
  k : ℕ
  ks : List ℕ
  here : found ≡ Some k
  later : rest k ≡ Some ks
  both : all ≡ k ∷ ks

first_by : (k : ℕ) (rest : ℕ → Option (List ℕ)) (r : Option (List ℕ)) (all : List ℕ) → rest k ≡ r → option_map (λ ks. k ∷ ks) r ≡ Some all → First (Some k) rest all
first_by k rest None all is e = absurd (cc)
first_by k rest (Some ks) all is e = record { k = k; ks = ks; here = refl; later = is; both = cc }

first_of : (found : Option ℕ) (rest : ℕ → Option (List ℕ)) (all : List ℕ) → option_and_then (λ k. option_map (λ ks. k ∷ ks) (rest k)) found ≡ Some all → First found rest all
first_of None rest all e = absurd (cc)
first_of (Some k) rest all e = first_by k rest _ all refl e

kept_by : (low j k : ℕ) (b : Bool) → nat_le low j ≡ b → ◌≡◌ {A = Option ℕ} (if b then Some j else None) (Some k) → (◌≡◌ {A = Option ℕ} (Some j) (Some k)) × (low ≤ k)
kept_by low j k false test e = absurd (cc)
kept_by low j k true test e = let same : j ≡ k = cc in (e, subst (λ n. low ≤ n) same (leb-true low j test))

-- what is at least low was found, and is
kept : (low : ℕ) (found : Option ℕ) (k : ℕ) → option_and_then (at_least low) found ≡ Some k → (found ≡ Some k) × (low ≤ k)
kept low None k e = absurd (cc)
kept low (Some j) k e = kept_by low j k _ refl e

-- an array that is read from low on
first_ordinal : (low : ℕ) (v : Value) (vs : List Value) (all : List ℕ) → ordinals_from low (items_view (v ∷ vs)) ≡ Some all
    → First (option_and_then (at_least low) (whole_of (view v))) (λ k. ordinals_from (suc k) (items_view vs)) all
first_ordinal low v vs all e = first_of (option_and_then (at_least low) (whole_of (view v))) (λ k. ordinals_from (suc k) (items_view vs)) all e

-- as many are read as there are values
pub length-ordinals : (low : ℕ) (vs : List Value) (all : List ℕ) → ordinals_from low (items_view vs) ≡ Some all → length vs ≡ length all
length-ordinals low [] all e = let none : all ≡ [] = cc in ap length (sym none)
length-ordinals low (v ∷ vs) all e =
    let first = first_ordinal low v vs all e in
    ap suc (length-ordinals (suc first.k) vs first.ks first.later) ∙ ap length (sym first.both)

ordinal_at_or : (low : ℕ) (vs : List Value) (all : List ℕ) (i : ℕ) (d : Value) → ordinals_from low (items_view vs) ≡ Some all → i < length vs → slice_get all i ≡ whole_of (view (get_or vs i d))
ordinal_at_or low [] all i d e h = absurd (omega arith)
ordinal_at_or low (v ∷ vs) all zero d e h =
    let first = first_ordinal low v vs all e in
    ap (λ l. slice_get l 0) first.both ∙ sym (kept low (whole_of (view v)) first.k first.here).0
ordinal_at_or low (v ∷ vs) all (suc i) d e h =
    let first = first_ordinal low v vs all e in
    ap (λ l. slice_get l (suc i)) first.both ∙ ordinal_at_or (suc first.k) vs first.ks i d first.later (omega arith)

-- each value is the ordinal at its place
pub ordinal_at : (vs : List Value) (all : List ℕ) (i : ℕ) (v : Value) → ordinals_from 0 (items_view vs) ≡ Some all → i < length vs → v ≡ get_or vs i v → slice_get all i ≡ whole_of (view v)
ordinal_at vs all i v e h is = ordinal_at_or 0 vs all i v e h ∙ ap (λ (w : Value). whole_of (view w)) (sym is)

-- they ascend
pub ascending : (low : ℕ) (vs : List Value) (all : List ℕ) → ordinals_from low (items_view vs) ≡ Some all → AscendingFrom low all
ascending low [] all e = let none : [] ≡ all = cc in subst (λ l. AscendingFrom low l) none tt
ascending low (v ∷ vs) all e =
    let first = first_ordinal low v vs all e in
    subst (λ l. AscendingFrom low l) (sym first.both) ((kept low (whole_of (view v)) first.k first.here).1, ascending (suc first.k) vs first.ks first.later)

-- what was found at a place of a list is there
pub found_at : (found : Option ℕ) (all : List ℕ) (i : ℕ) → i < length all → slice_get all i ≡ found → IsSome found
found_at found [] i h e = absurd (omega arith)
found_at found (x ∷ all) zero h e = subst (λ (o : Option ℕ). IsSome o) e refl
found_at found (x ∷ all) (suc i) h e = found_at found all i (omega arith) e
