-- Names in order, compared by their fronts first.
use Rattle.std.proofs.Common.{nat_eq, ◌≡◌, ◌<◌, ◌+◌, ◌∙◌, ℕ, zero, suc, List, [], ◌∷◌, inl, inr, ap, sym, refl, arith, length, get_or, map, false, true≢false}
use Rattle.std.proofs.lemmas.Bool.{cases_eq, cases_lt}
use Rattle.std.proofs.lemmas.Bool.Decides.{nat_tests}
use Rattle.std.proofs.lemmas.List.{get_or-map, length-map}
use Rattle.std.proofs.lemmas.Cmp.{nat_eq_equiv}
use Rattle.std.proofs.lemmas.List.Elements.{All-get_or}
use Rattle.std.proofs.lemmas.List.Sorted.{IsPermutation-map}
use Rattle.std.proofs.lemmas.Map.Keys.{IsDistinct-IsPermutation}
use Rattle.std.specs.List.{IsDistinct}
use Rattle.std.specs.Map.{keys_of}
use Rattle.indexmap.proofs.MapLemmas.{lookup_permutation}
use Rattle.walk.specs.Choosing.{choice_of}
use Rattle.std.specs.Cmp.Lexicographic.{slice_cmp}
use Rattle.std.specs.List.Sorted.{IsPermutation, IsSorted}
use Rattle.std.specs.Ordering.{is_lt, nat_cmp, ordering_then}
use Rattle.std.specs.Prelude.{All, slice_index}
use Rattle.std.specs.declared.cmp.Ordering.TheVariants.{Greater, Less, Equal}
use Rattle.versions.specs.Words.{Text}
use Rattle.registry.specs.Registry.{Packages}
use Rattle.walk.specs.Names.{by_front, by_name, front_to, name_of, AreBytes, IsFronted}

-- where fronts are the same, so are the first bytes
front_same : (k : ℕ) (x y : Text) → AreBytes x → AreBytes y → front_to k x ≡ front_to k y → (j : ℕ) → j < k → slice_index x j ≡ slice_index y j
front_same zero x y bx by e j lt = absurd (omega arith)
front_same (suc k) x y bx by e j lt =
    let small_x = bx k in
    let small_y = by k in
    let before : front_to k x ≡ front_to k y = omega (arith, e) in
    elim (cases_eq j k) [
      | inl is ↦ let last : slice_index x k ≡ slice_index y k = omega (arith, e, before) in ap (slice_index x) is ∙ last ∙ sym (ap (slice_index y) is)
      | inr apart ↦ front_same k x y bx by before j (omega arith)
    ]

-- of two texts with other fronts, the first bytes that differ
front_less : (k : ℕ) (x y : Text) → AreBytes x → AreBytes y → front_to k x < front_to k y → (i : ℕ) × ((j : ℕ) → j < i → slice_index x j ≡ slice_index y j) × (slice_index x i < slice_index y i)
front_less zero x y bx by lt = absurd (omega (arith, lt))
front_less (suc k) x y bx by lt =
    let small_x = bx k in
    let small_y = by k in
    elim (cases_lt (front_to k x) (front_to k y)) [
      | inl less ↦ front_less k x y bx by less
      | inr not_less ↦
          let before : front_to k x ≡ front_to k y = omega (arith, lt, not_less) in
          (k, front_same k x y bx by before, omega (arith, lt, before))
    ]

nat_cmp-greater : (a b : ℕ) → b < a → nat_cmp a b ≡ Greater
nat_cmp-greater a b lt = grind (arith, nat_tests)

nat_cmp-less : (a b : ℕ) → a < b → nat_cmp a b ≡ Less
nat_cmp-less a b lt = grind (arith, nat_tests)

nat_cmp-same : (a b : ℕ) → a ≡ b → nat_cmp a b ≡ Equal
nat_cmp-same a b e = grind (arith, nat_tests)

-- the first bytes that differ decide
after : (i : ℕ) (x y : Text) → ((j : ℕ) → j < i → slice_index x j ≡ slice_index y j) → slice_index y i < slice_index x i → slice_cmp nat_cmp x y ≡ Greater
after zero [] [] same lt = absurd (omega (arith, lt))
after zero [] (b ∷ y) same lt = absurd (omega (arith, lt))
after zero (a ∷ x) [] same lt = refl
after zero (a ∷ x) (b ∷ y) same lt = ap (λ o. ordering_then o (slice_cmp nat_cmp x y)) (nat_cmp-greater a b lt)
after (suc i) [] [] same lt = absurd (omega (arith, lt))
after (suc i) [] (b ∷ y) same lt = absurd (omega (arith, lt))
after (suc i) (a ∷ x) [] same lt = refl
after (suc i) (a ∷ x) (b ∷ y) same lt =
    ap (λ o. ordering_then o (slice_cmp nat_cmp x y)) (nat_cmp-same a b (same 0 (omega arith))) ∙ after i x y (λ j less. same (suc j) (omega arith)) lt

-- what comes no earlier by the fronts comes no earlier by the names
front_name : (packages : Packages) (f g : ℕ × (ℕ × ℕ)) → IsFronted packages f → IsFronted packages g → is_lt (by_front packages f g) ≡ false → is_lt (by_name packages f.1 g.1) ≡ false
front_name packages f g ff gg h = elim (cases_lt g.0 f.0) [
  | inl less ↦
      let lt : front_to 8 (name_of packages g.1.0) < front_to 8 (name_of packages f.1.0) = omega (arith, less, ff.front, gg.front) in
      let d = front_less 8 (name_of packages g.1.0) (name_of packages f.1.0) gg.bytes ff.bytes lt in
      ap is_lt (after d.0 (name_of packages f.1.0) (name_of packages g.1.0) (λ j l. sym (d.1 j l)) d.2)
  | inr not_less ↦ elim (cases_eq f.0 g.0) [
    | inl same ↦ sym (ap (λ o. is_lt (ordering_then o (slice_cmp nat_cmp (name_of packages f.1.0) (name_of packages g.1.0)))) (nat_cmp-same f.0 g.0 same)) ∙ h
    | inr apart ↦ absurd (true≢false (sym (ap (λ o. is_lt (ordering_then o (slice_cmp nat_cmp (name_of packages f.1.0) (name_of packages g.1.0)))) (nat_cmp-less f.0 g.0 (omega arith))) ∙ h))
  ]
]

-- so what is in order by the fronts is in order by the names
pub sorted_names : (packages : Packages) (fronted : List (ℕ × (ℕ × ℕ))) → All (IsFronted packages) fronted → IsSorted (by_front packages) fronted → IsSorted (by_name packages) (map (λ (f : ℕ × (ℕ × ℕ)). f.1) fronted)
sorted_names packages fronted right sorted k d from below =
    let second : ℕ × (ℕ × ℕ) → ℕ × ℕ = λ f. f.1 in
    let e : ℕ × (ℕ × ℕ) = (0, d) in
    let within : k + 1 < length fronted = omega (arith, below, length-map fronted second) in
    let here : k < length fronted = omega (arith, within) in
    let h = front_name packages (get_or fronted (k + 1) e) (get_or fronted k e) (All-get_or (IsFronted packages) fronted (k + 1) e within right) (All-get_or (IsFronted packages) fronted k e here right) (sorted k e from within) in
    ap (λ a. is_lt (by_name packages a (get_or (map second fronted) k d))) (get_or-map second fronted (k + 1) e d within)
    ∙ ap (λ b. is_lt (by_name packages (get_or fronted (k + 1) e).1 b)) (get_or-map second fronted k e d here)
    ∙ h

-- ---- what is put into another order

pub once_moved : (old new : List (ℕ × ℕ)) → IsPermutation old new → IsDistinct nat_eq (keys_of old) → IsDistinct nat_eq (keys_of new)
once_moved old new moves once = IsDistinct-IsPermutation nat_eq nat_eq_equiv.symm (keys_of old) (keys_of new) (IsPermutation-map (λ (e : ℕ × ℕ). e.0) old new moves) once

pub same_moved : (old new : List (ℕ × ℕ)) → IsPermutation old new → IsDistinct nat_eq (keys_of old) → choice_of new ≡ choice_of old
same_moved old new moves once = λ i p. lookup_permutation nat_eq_equiv old new moves (once_moved old new moves once) (nat_eq p) (nat_eq_equiv.congr p) i
