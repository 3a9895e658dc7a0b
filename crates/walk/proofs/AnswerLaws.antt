-- That a request has one answer, and has one: the newest selection is told by one list, in the order of the names, or there is none.
use Rattle.std.proofs.Common.{◌≡◌, ◌<◌, ◌+◌, ◌∙◌, ℕ, zero, suc, List, [], ◌∷◌, get_or, inl, inr, length, map, refl, sym, ap, arith, true, false, true≢false}
use Rattle.std.proofs.lemmas.Bool.{cases_Bool}
use Rattle.std.proofs.lemmas.List.Sorted.{IsPermutation-cons, IsPermutation-middle, IsPermutation-refl, IsPermutation-trans}
use Rattle.std.specs.Cmp.{IsTotalOrder, on_total}
use Rattle.std.specs.Cmp.Lexicographic.{nat_list_cmp_total}
use Rattle.std.specs.List.Sorted.{IsPermutation, IsSorted}
use Rattle.std.specs.Ordering.{is_lt, ordering_reverse}
use Rattle.std.specs.declared.cmp.Ordering.{Ordering}
use Rattle.std.specs.declared.cmp.Ordering.TheVariants.{Less, Equal, Greater}
use Rattle.versions.specs.Precedence.{PrecedenceIsATotalPreorder}
use Rattle.versions.specs.Words.{Text}
use Rattle.registry.specs.Laws.{AllowedIsPublished, HighestIsOne, NamesHaveTheirNumbers, PublishedBelow, PublishedIsNumbered}
use Rattle.registry.specs.Registry.{Packages}
use Rattle.registry.specs.Requests.{Wanted}
use Rattle.registry.specs.Selections.{Choices}
use Rattle.walk.specs.Answer.{NoSelection, OneAnswer, Selected, SomeAnswer, Tells, told}
use Rattle.walk.specs.Names.{by_name, name_of}
use Rattle.walk.specs.Newest.{IsNewest}
use Rattle.walk.proofs.Bests.{best_walked}
use Rattle.walk.proofs.Fronts.{once_moved, same_moved}
use Rattle.walk.proofs.NewestExists.{newest_or_none}
use Rattle.walk.proofs.NewestLaws.{newest-once, walked_once}
use Rattle.walk.proofs.OneList.{one_told}

-- ---- one answer

pub one-answer : HighestIsOne → NamesHaveTheirNumbers → PrecedenceIsATotalPreorder → OneAnswer
one-answer highest named total packages wanted (Selected xs) (Selected ys) lawful one two =
    ap Selected (one_told named packages lawful one.selection two.selection xs ys one.newest.meets.selection two.newest.meets.selection
    (newest-once highest total packages wanted one.selection two.selection lawful one.newest two.newest) one.tells two.tells)
one-answer highest named total packages wanted (Selected xs) NoSelection lawful one none = absurd (none one.selection one.newest.meets)
one-answer highest named total packages wanted NoSelection (Selected ys) lawful none two = absurd (none two.selection two.newest.meets)
one-answer highest named total packages wanted NoSelection NoSelection lawful none none_too = refl

-- ---- a list can be put in order

module _ {X : Type 0} (cmp : X → X → Ordering) (o : IsTotalOrder cmp) where
  not_both : (a b : X) → is_lt (cmp b a) ≡ true → is_lt (cmp a b) ≡ false
  not_both a b = by (cmp a b) (cmp b a) (o.antisymm a b)
    where
      by : (m n : Ordering) → m ≡ ordering_reverse n → is_lt n ≡ true → is_lt m ≡ false
      by m Less turned lt = ap is_lt turned
      by m Equal turned lt = absurd (true≢false (sym lt))
      by m Greater turned lt = absurd (true≢false (sym lt))

  -- the first of the list is not less than it
  abbrev NoneLess : X → List X → Type 0
  NoneLess x ys = (d : X) → 0 < length ys → is_lt (cmp (get_or ys 0 d) x) ≡ false

  put_first : (x : X) (ys : List X) → NoneLess x ys → IsSorted cmp ys → IsSorted cmp (x ∷ ys)
  put_first x ys first sorted zero d low high = first d (omega (arith, high))
  put_first x ys first sorted (suc k) d low high = let next : suc k + 1 ≡ suc (k + 1) = omega arith in rw next (sorted k d (omega arith) (omega (arith, high)))

  behind : (x : X) (ys : List X) → IsSorted cmp (x ∷ ys) → IsSorted cmp ys
  behind x ys sorted k d low high = let next : suc k + 1 ≡ suc (k + 1) = omega arith in rw next at (sorted (suc k) d (omega arith) (omega (arith, high)))

  put_in : (x : X) (ys : List X) → IsSorted cmp ys → (zs : List X) × IsPermutation (x ∷ ys) zs × IsSorted cmp zs × ((y : X) → is_lt (cmp x y) ≡ false → NoneLess y ys → NoneLess y zs)
  put_in x [] sorted = (x ∷ [], IsPermutation-refl (x ∷ []), put_first x [] (λ d lt. absurd (omega (arith, lt))) sorted, λ y less first d lt. less)
  put_in x (y ∷ ys) sorted = elim (cases_Bool (is_lt (cmp y x))) [
    | inl t ↦
        let rest = put_in x ys (behind y ys sorted) in
        let first : NoneLess y rest.0 = rest.3 y (not_both x y t) (λ d lt. sorted 0 d (omega arith) (omega (arith, lt))) in (
          y ∷ rest.0,
          IsPermutation-trans (x ∷ y ∷ ys) (y ∷ x ∷ ys) (y ∷ rest.0) (IsPermutation-middle (x ∷ []) y ys) (IsPermutation-cons y (x ∷ ys) rest.0 rest.1),
          put_first y rest.0 first rest.2,
          λ z less before d lt. before d (omega arith),
        )
    | inr f ↦ (x ∷ y ∷ ys, IsPermutation-refl (x ∷ y ∷ ys), put_first x (y ∷ ys) (λ d lt. f) sorted, λ z less before d lt. less)
  ]

  put_in_order : (xs : List X) → (ys : List X) × IsPermutation xs ys × IsSorted cmp ys
  put_in_order [] = ([], IsPermutation-refl [], λ k d low high. absurd (omega (arith, high)))
  put_in_order (x ∷ xs) =
      let rest = put_in_order xs in
      let more = put_in x rest.0 rest.2 in
      (more.0, IsPermutation-trans (x ∷ xs) (x ∷ rest.0) more.0 (IsPermutation-cons x xs rest.0 rest.1) more.1, more.2)

-- ---- some answer

-- the newest selection is told by a list
told_by : (packages : Packages) (wanted : Wanted) (s : Choices) → IsNewest packages wanted s → (list : List (Text × Text)) × Tells packages s list
told_by packages wanted s one =
    let sorted = put_in_order (by_name packages) (on_total (λ (e : ℕ × ℕ). name_of packages e.0) nat_list_cmp_total) one.found in
    let once = walked_once packages wanted.needs one.found (best_walked packages wanted one.found one.best) in (
      map (told packages) sorted.0,
      record {
        chosen = sorted.0;
        selects = same_moved one.found sorted.0 sorted.1 once ∙ one.selects;
        once = once_moved one.found sorted.0 sorted.1 once;
        sorted = sorted.2;
        told = refl;
      },
    )

pub some-answer : PublishedBelow → PublishedIsNumbered → AllowedIsPublished → PrecedenceIsATotalPreorder → SomeAnswer
some-answer published numbers allowed total packages wanted = elim (newest_or_none published numbers allowed total packages wanted) [
  | inl newest ↦ let list = told_by packages wanted newest.0 newest.1 in (Selected list.0, record { selection = newest.0; newest = newest.1; tells = list.1 })
  | inr none ↦ (NoSelection, none)
]
