-- Names in order: a name comes twice where two are the same side by side, and a line is found by halving.
use Rattle.std.proofs.Common.{◌≡◌, ◌<◌, ◌≤◌, ◌∙◌, inl, inr, ℕ, ◌+◌, List, [], ◌∷◌, length, refl, sym, ap, subst, arith, Bool, true, false, true≢false, map, get_or, nat_eq}
use Rattle.std.specs.Prelude.{IsPermutation, IsSorted, All, Option, Some, None, slice_get, slice_index}
use Rattle.std.specs.Cmp.{IsTotalOrder, on_total}
use Rattle.std.specs.Cmp.Lexicographic.{nat_list_cmp_total, nat_list_eq_equiv, slice_cmp, texts_ties}
use Rattle.std.specs.List.{AllByRecursion, IsDistinct, list_any, range_with_len}
use Rattle.std.specs.List.Sorted.{IsStrictlySortedBy}
use Rattle.std.specs.Map.{keys_of, lookup}
use Rattle.std.specs.Ordering.{is_eq, is_lt, nat_cmp, ordering_reverse}
use Rattle.std.specs.declared.cmp.Ordering.{Ordering}
use Rattle.std.specs.declared.cmp.Ordering.TheVariants.{Less, Equal, Greater}
use Rattle.std.specs.Str.{bytes_eq}
use Rattle.std.proofs.lemmas.Bool.{cases_Bool, cases_lt, eq-eqb, eqb-true}
use Rattle.std.proofs.lemmas.List.{get_or_default, length-map}
use Rattle.std.proofs.lemmas.List.Folds.{Any-from_list_any, list_any_at}
use Rattle.std.proofs.lemmas.List.FromFn.{fill_by_all, get_or-range_with_len, length-range_with_len}
use Rattle.std.proofs.lemmas.List.Sorted.{All-permutation, IsPermutation-map, IsPermutation-sym, list_any-IsPermutation}
use Rattle.std.proofs.lemmas.Map.Entries.{lookup_from_place, place_from_lookup}
use Rattle.std.proofs.lemmas.Map.Keys.{IsDistinct-IsPermutation, Less-from_sorted, apart_from_distinct, sorted_from_all_adjacent}
use Rattle.std.proofs.lemmas.Option.{get_or_from_slice_get, slice_get-get_or, slice_get_within}
use Rattle.std.proofs.Math.ListN.{get_or-map}
use Rattle.versions.specs.NameLaws.{same_name}
use Rattle.versions.specs.Words.{Text}
use Rattle.registry.specs.ByName.{IsByName, by_name, name_at}
use Rattle.registry.specs.Needs.{repeats}
use Rattle.registry.proofs.NeedLemmas.{distinct-once, once-distinct}

flips : (x y : Text) → bytes_eq x y ≡ bytes_eq y x
flips = nat_list_eq_equiv.symm

-- ---- how texts compare

pub text_total : IsTotalOrder (slice_cmp nat_cmp)
text_total = nat_list_cmp_total

-- two that are neither equal nor the wrong way round
less : (a b : Ordering) → a ≡ ordering_reverse b → is_lt b ≡ false → is_eq a ≡ false → a ≡ Less
less a Less e lt eq = absurd (true≢false lt)
less a Equal e lt eq = absurd (true≢false (sym (ap is_eq e) ∙ eq))
less a Greater e lt eq = e

-- what is above is what is below, the other way round
turned : (a b : Text) → slice_cmp nat_cmp a b ≡ Greater → slice_cmp nat_cmp b a ≡ Less
turned a b e = text_total.antisymm b a ∙ ap ordering_reverse e

tied : (a b : Text) → slice_cmp nat_cmp a b ≡ Equal → a ≡ b
tied a b e = same_name a b (texts_ties a b ∙ ap is_eq e)

-- texts of which one is lower are not the same
apart : (a b : Text) → slice_cmp nat_cmp a b ≡ Less → bytes_eq a b ≡ false
apart a b e = texts_ties a b ∙ ap is_eq e

-- ---- places in the order of the names

-- no name comes twice, and each place stands once, where the names rise
pub record IsRising (names : List Text) (places : List ℕ) : Type 0 where
  pub distinct : IsDistinct bytes_eq names
  pub within : (i : ℕ) → i < length places → slice_index places i < length names
  pub every : (place : ℕ) → place < length names → list_any (nat_eq place) places ≡ true
  pub rises : IsStrictlySortedBy (by_name names) places

module _ (names : List Text) where
  ranked-total : IsTotalOrder (by_name names)
  ranked-total = on_total (name_at names) nat_list_cmp_total

  abbrev all_places : List ℕ
  all_places = range_with_len 0 (length names)

  names-moved : (places : List ℕ) → IsPermutation all_places places → IsPermutation names (map (name_at names) places)
  names-moved places moved =
      let whole : names ≡ map (name_at names) all_places = fill_by_all (name_at names) names (length names) [] refl (λ k lt. refl) in
      subst (λ (l : List Text). IsPermutation l (map (name_at names) places)) (sym whole) (IsPermutation-map (name_at names) all_places places moved)

  -- names that do not fall and differ side by side rise
  neighbours-rise : (places : List ℕ) → IsSorted (by_name names) places
      → ((k : ℕ) → k + 1 < length places → bytes_eq (name_at names (slice_index places k)) (name_at names (slice_index places (k + 1))) ≡ false)
      → IsStrictlySortedBy (by_name names) places
  neighbours-rise places sorted differ = sorted_from_all_adjacent ranked-total places 0 next
    where
      next : (k : ℕ) → k + 1 < length places → by_name names (get_or places k 0) (get_or places (k + 1) 0) ≡ Less
      next k lt =
          less (by_name names (get_or places k 0) (get_or places (k + 1) 0)) (by_name names (get_or places (k + 1) 0) (get_or places k 0))
          (ranked-total.antisymm (get_or places k 0) (get_or places (k + 1) 0))
          (sorted k 0 (omega arith) lt)
          (sym (texts_ties (name_at names (get_or places k 0)) (name_at names (get_or places (k + 1) 0))) ∙ differ k lt)

  -- names that rise are distinct
  distinct-rising : (places : List ℕ) → IsStrictlySortedBy (by_name names) places → IsDistinct bytes_eq (map (name_at names) places)
  unfolding IsDistinct IsStrictlySortedBy
  distinct-rising [] h = tt
  distinct-rising (x ∷ xs) h = (by xs h.0, distinct-rising xs h.1)
    where
      by : (ys : List ℕ) → AllByRecursion (λ y. by_name names x y ≡ Less) ys → AllByRecursion (λ y. bytes_eq (name_at names x) y ≡ false) (map (name_at names) ys)
      by [] a = tt
      by (y ∷ ys) a = (apart (name_at names x) (name_at names y) a.0, by ys a.1)

  -- names side by side differ where no name comes twice
  neighbours-differ : (places : List ℕ) → IsPermutation all_places places → repeats names ≡ false
      → (k : ℕ) → k + 1 < length places → bytes_eq (name_at names (slice_index places k)) (name_at names (slice_index places (k + 1))) ≡ false
  neighbours-differ places moved once k lt =
      let distinct = IsDistinct-IsPermutation bytes_eq flips names (map (name_at names) places) (names-moved places moved) (distinct-once names once) in
      let here = apart_from_distinct bytes_eq (map (name_at names) places) k (k + 1) (name_at names 0) distinct (omega arith) (omega (arith, length-map places (name_at names))) in
      sym (ap (λ t. bytes_eq t (name_at names (get_or places (k + 1) 0))) (get_or-map (name_at names) places k 0))
      ∙ sym (ap (λ t. bytes_eq (get_or (map (name_at names) places) k (name_at names 0)) t) (get_or-map (name_at names) places (k + 1) 0)) ∙ here

  -- what a test of two names side by side has told
  pub side_by_side : (places : List ℕ) (k i : ℕ) (a b : Text) (told : Bool) → k + 1 ≡ i → a ≡ name_at names (slice_index places k) → b ≡ name_at names (slice_index places i) → bytes_eq a b ≡ told
      → bytes_eq (name_at names (slice_index places k)) (name_at names (slice_index places (k + 1))) ≡ told
  side_by_side places k i a b told next left right e =
      ap (λ j. bytes_eq (name_at names (slice_index places k)) (name_at names (slice_index places j))) next
      ∙ ap (λ t. bytes_eq t (name_at names (slice_index places i))) (sym left) ∙ ap (λ t. bytes_eq a t) (sym right) ∙ e

  -- two that are the same side by side: a name comes twice
  pub repeats-found : (places : List ℕ) (k : ℕ) → IsByName names places → k + 1 < length places
      → bytes_eq (name_at names (slice_index places k)) (name_at names (slice_index places (k + 1))) ≡ true → repeats names ≡ true
  repeats-found places k byname lt same = elim (cases_Bool (repeats names)) [
    | inl t ↦ t
    | inr f ↦ absurd (true≢false (sym same ∙ neighbours-differ places byname.moved f k lt))
  ]

  -- no two are the same side by side: no name comes twice
  pub repeats-none : (places : List ℕ) → IsByName names places
      → ((k : ℕ) → k + 1 < length places → bytes_eq (name_at names (slice_index places k)) (name_at names (slice_index places (k + 1))) ≡ false)
      → repeats names ≡ false
  repeats-none places byname differ =
      once-distinct names (IsDistinct-IsPermutation bytes_eq flips (map (name_at names) places) names
      (IsPermutation-sym names (map (name_at names) places) (names-moved places byname.moved)) (distinct-rising places (neighbours-rise places byname.sorted differ)))

  -- in the order of names that are distinct they rise
  pub in_order : (places : List ℕ) → IsByName names places → repeats names ≡ false → IsRising names places
  in_order places byname once = record {
    distinct = distinct-once names once;
    within = λ i lt. All-permutation (λ place. place < length names) all_places places byname.moved small i 0 lt;
    every = λ place lt. sym (list_any-IsPermutation (nat_eq place) all_places places byname.moved) ∙ list_any_at (nat_eq place) all_places place 0 (count place lt) (there place lt);
    rises = neighbours-rise places byname.sorted (neighbours-differ places byname.moved once);
  }
    where
      small : All (λ place. place < length names) all_places
      small k d lt =
          let less : k < length names = omega (arith, length-range_with_len 0 (length names)) in
          let value = get_or-range_with_len 0 (length names) k d less in
          omega (arith, value)

      count : (place : ℕ) → place < length names → place < length all_places
      count place lt = omega (arith, length-range_with_len 0 (length names))

      there : (place : ℕ) → place < length names → nat_eq place (get_or all_places place 0) ≡ true
      there place lt =
          let value = get_or-range_with_len 0 (length names) place 0 lt in
          eq-eqb place (get_or all_places place 0) (omega (arith, value))

-- ---- the search for a line

-- the name stands between low and high, if it stands there at all
pub record IsSearching (names : List Text) (places : List ℕ) (name : Text) (low high : ℕ) : Type 0 where
  pub ordered : low ≤ high
  pub within : high ≤ length places
  pub above : (i : ℕ) → i < low → slice_cmp nat_cmp (name_at names (slice_index places i)) name ≡ Less
  pub below : (i : ℕ) → high ≤ i → i < length places → slice_cmp nat_cmp name (name_at names (slice_index places i)) ≡ Less

-- the name of a line that is read
key-at : {V : Type 0} (lines : List (Text × V)) (place : ℕ) (line : Text × V) → place < length lines → line ≡ get_or lines place line → name_at (keys_of lines) place ≡ line.0
key-at {V} lines place line lt at =
    get_or_default (keys_of lines) place [] line.0 (omega (arith, lt, length-map lines (λ (l : Text × V). l.0)))
    ∙ get_or-map (λ (l : Text × V). l.0) lines place line ∙ sym (ap (λ (l : Text × V). l.0) at)

module _ {V : Type 0} (lines : List (Text × V)) (places : List ℕ) (name : Text) (byname : IsByName (keys_of lines) places) (once : repeats (keys_of lines) ≡ false) where
  abbrev names : List Text
  names = keys_of lines

  order : IsRising names places
  order = in_order names places byname once

  -- how the name at a place of the order compares with the one that is looked for
  abbrev compared : ℕ → Ordering
  compared i = slice_cmp nat_cmp (name_at names (slice_index places i)) name

  rising : (i j : ℕ) → i < j → j < length places → slice_cmp nat_cmp (name_at names (get_or places i 0)) (name_at names (get_or places j 0)) ≡ Less
  rising i j lt h = Less-from_sorted (by_name names) places i j 0 order.rises lt h

  -- the place of the middle is that of a line
  pub middle-line : (low high middle : ℕ) → IsSearching names places name low high → middle < high → slice_index places middle < length lines
  middle-line low high middle m lt = omega (arith, order.within middle (omega (arith, m.within)), length-map lines (λ (l : Text × V). l.0))

  -- how the name of the line that was read compares
  pub read-compared : (place : ℕ) (line : Text × V) (o : Ordering) → place < length lines → line ≡ get_or lines place line → o ≡ slice_cmp nat_cmp line.0 name
      → slice_cmp nat_cmp (name_at names place) name ≡ o
  read-compared place line o lt at e = ap (λ t. slice_cmp nat_cmp t name) (key-at lines place line lt at) ∙ sym e

  pub searching-begin : IsSearching names places name 0 (length places)
  searching-begin = record {
    ordered = omega arith;
    within = omega arith;
    above = λ i h. absurd (omega arith);
    below = λ i h g. absurd (omega arith);
  }

  pub searching-up : (low high middle low' : ℕ) → IsSearching names places name low high → low ≤ middle → middle < high → low' ≡ middle + 1
      → slice_cmp nat_cmp (name_at names (slice_index places middle)) name ≡ Less → IsSearching names places name low' high
  searching-up low high middle low' m le lt is e = record {
    ordered = omega arith;
    within = m.within;
    above = λ i h. elim (cases_lt i middle) [
      | inl under ↦ text_total.trans (name_at names (slice_index places i)) (name_at names (slice_index places middle)) name (rising i middle under (omega (arith, m.within))) e
      | inr from ↦ let same : i ≡ middle = omega arith in ap compared same ∙ e
    ];
    below = m.below;
  }

  pub searching-down : (low high middle : ℕ) → IsSearching names places name low high → low ≤ middle → middle < high
      → slice_cmp nat_cmp (name_at names (slice_index places middle)) name ≡ Greater → IsSearching names places name low middle
  searching-down low high middle m le lt e = record {
    ordered = le;
    within = omega (arith, m.within);
    above = m.above;
    below = λ i h g. elim (cases_lt middle i) [
      | inl over ↦ text_total.trans name (name_at names (slice_index places middle)) (name_at names (slice_index places i)) (turned (name_at names (slice_index places middle)) name e) (rising middle i over g)
      | inr from ↦ let same : i ≡ middle = omega arith in turned (name_at names (slice_index places i)) name (ap compared same ∙ e)
    ];
  }

  -- the line of the name was read
  pub line-found : (place : ℕ) (line : Text × V) → place < length lines → line ≡ get_or lines place line → Equal ≡ slice_cmp nat_cmp line.0 name
      → Some line.1 ≡ lookup (bytes_eq name) lines
  line-found place line lt at e =
      let read : slice_get lines place ≡ Some line = slice_get-get_or lines place line lt ∙ ap (λ (l : Text × V). Some l) (sym at) in
      sym (ap (λ n. lookup (bytes_eq n) lines) (sym (tied line.0 name (sym e))) ∙ lookup_from_place nat_list_eq_equiv lines place line.0 line.1 order.distinct read)

  -- no line has the name
  pub line-missing : (low high : ℕ) → IsSearching names places name low high → high ≤ low → None ≡ lookup (bytes_eq name) lines
  line-missing low high m le = by (lookup (bytes_eq name) lines) refl
    where
      differs : (place : ℕ) → place < length names → bytes_eq name (name_at names place) ≡ false
      differs place lt =
          let found = Any-from_list_any (nat_eq place) places (order.every place lt) in
          let i = found.0 in
          let here : place ≡ slice_index places i = at_place i found.1 found.2 found.3 found.4 in
          elim (cases_lt i low) [
            | inl under ↦
                ap (λ n. bytes_eq name (name_at names n)) here
                ∙ flips name (name_at names (slice_index places i)) ∙ apart (name_at names (slice_index places i)) name (m.above i under)
            | inr from ↦
                ap (λ n. bytes_eq name (name_at names n)) here
                ∙ apart name (name_at names (slice_index places i)) (m.below i (omega (arith, le, from)) found.2)
          ]
        where
          at_place : (i x : ℕ) → i < length places → get_or places i x ≡ x → nat_eq place x ≡ true → place ≡ slice_index places i
          at_place i x small at same = eqb-true place x same ∙ sym at ∙ get_or_default places i x 0 small

      by : (o : Option V) → o ≡ lookup (bytes_eq name) lines → None ≡ lookup (bytes_eq name) lines
      by None e = e
      by (Some v) e =
          let found = place_from_lookup (bytes_eq name) lines v (sym e) in
          absurd (true≢false (sym found.3 ∙ hit found.0 found.1 found.2))
        where
          hit : (i : ℕ) (key : Text) → slice_get lines i ≡ Some (key, v) → bytes_eq name key ≡ false
          hit i key read =
              let small = slice_get_within lines i (key, v) read in
              let at : (key, v) ≡ get_or lines i (key, v) = sym (get_or_from_slice_get lines i (key, v) (key, v) read) in
              ap (λ n. bytes_eq name n) (sym (key-at lines i (key, v) small at)) ∙ differs i (omega (arith, small, length-map lines (λ (l : Text × V). l.0)))
