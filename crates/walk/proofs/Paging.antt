-- What a table in pages says after a write, and after a page is made.
use Rattle.std.proofs.Common.{◌≡◌, ◌≢◌, ◌<◌, ◌≤◌, ◌+◌, ◌*◌, ◌/◌, ◌%◌, ◌∙◌, ℕ, zero, suc, List, [], ◌∷◌, ◌++◌, Result, Ok, Err, refl, take, inl, inr, ap, sym, arith, length, get_or, set, nat_eq, true≢false, if◌then◌else◌}
use Rattle.std.proofs.lemmas.Bool.{cases_Bool, cases_eq, eq-eqb, eqb-true}
use Rattle.std.proofs.lemmas.List.{get_or-set_same, get_or-set_other, get_or_past, length-set, take_all}
use Rattle.std.specs.Prelude.{is_ok, replicate, slice_index, Option, None}
use Rattle.walk.specs.Pages.{number_in, IsPaged}

-- where the number of a package stands
abbrev place : List ℕ → ℕ → ℕ
place pages p = 32 * slice_index pages (p / 32) + p % 32

-- two lists with the same numbers in them, 0 past their ends
abbrev pub AreSame : List ℕ → List ℕ → Type 0
AreSame old new = (i : ℕ) → slice_index new i ≡ slice_index old i

-- what is read past the end of a list stands behind it as well
behind_same : {A : Type 0} (xs : List A) (m i : ℕ) (d : A) → get_or (xs ++ replicate m d) i d ≡ get_or xs i d
behind_same [] zero i d = refl
behind_same [] (suc m) zero d = refl
behind_same [] (suc m) (suc i) d = behind_same [] m i d
behind_same (x ∷ xs) m zero d = refl
behind_same (x ∷ xs) m (suc i) d = behind_same xs m i d

pub resized_same : {A T E : Type 0} (r : Result T E) (old new : List A) (n m : ℕ) (d : A) → new ≡ (if is_ok r then take n old ++ replicate m d else old) → length old ≤ n → (i : ℕ) → get_or new i d ≡ get_or old i d
resized_same (Ok x) old new n m d e long i = ap (λ l. get_or l i d) (e ∙ ap (λ l. l ++ replicate m d) (take_all n old long)) ∙ behind_same old m i d
resized_same (Err x) old new n m d e long i = ap (λ l. get_or l i d) e

-- of a list that was empty nothing is read
pub resized_none : {A T E : Type 0} (r : Result T E) (old new : List (Option A)) (n m : ℕ) → new ≡ (if is_ok r then take n old ++ replicate m None else old) → old ≡ [] → (i : ℕ) → get_or new i None ≡ None
resized_none {A} r old new n m e empty i =
    resized_same r old new n m None e (omega (arith, ap length empty)) i ∙ ap (λ (l : List (Option A)). get_or l i None) empty ∙ get_or_past [] i None (omega arith)

pub number_same : (old new : List ℕ) (numbers : List (Option ℕ)) → AreSame old new → (p : ℕ) → number_in new numbers p ≡ number_in old numbers p
unfolding number_in
number_same old new numbers same p = ap (λ page. get_or numbers (32 * page + p % 32) None) (same (p / 32))

pub paged_same : (old new : List ℕ) (numbers : List (Option ℕ)) → AreSame old new → IsPaged old numbers → IsPaged new numbers
paged_same old new numbers same paged = record {
  whole = paged.whole;
  within = λ i. let s = same i in omega (arith, paged.within i);
  first = paged.first;
  apart = λ i j e. elim (paged.apart i j (sym (same i) ∙ e ∙ same j)) [
    | inl none ↦ inl (same i ∙ none)
    | inr is ↦ inr is
  ];
}

-- numbers that are the same, past the end too, are the same in pages
pub number_more : (pages : List ℕ) (old new : List (Option ℕ)) → ((i : ℕ) → get_or new i None ≡ get_or old i None) → (p : ℕ) → number_in pages new p ≡ number_in pages old p
unfolding number_in
number_more pages old new same p = same _

-- ---- a table of no page but the first

pub paged_first : (pages : List ℕ) (numbers : List (Option ℕ)) → pages ≡ [] → length numbers ≡ 32 → ((i : ℕ) → get_or numbers i None ≡ None) → IsPaged pages numbers
paged_first pages numbers none many nothing =
    let zero_at : (i : ℕ) → slice_index pages i ≡ 0 = λ i. ap (λ l. slice_index l i) none ∙ get_or_past [] i 0 (omega arith) in record {
      whole = (1, omega arith);
      within = λ i. omega (arith, zero_at i);
      first = λ i lt. nothing i;
      apart = λ i j e. inl (zero_at i);
    }

pub number_first : (pages : List ℕ) (numbers : List (Option ℕ)) → ((i : ℕ) → get_or numbers i None ≡ None) → (p : ℕ) → number_in pages numbers p ≡ None
unfolding number_in
number_first pages numbers nothing p = nothing _

-- ---- a write

module _ (pages : List ℕ) (numbers : List (Option ℕ)) (paged : IsPaged pages numbers) where
  pub within : (p : ℕ) → 32 * slice_index pages (p / 32) + p % 32 < length numbers
  within p = let w = paged.within (p / 32) in omega arith

  places_apart : (p q : ℕ) → 0 < slice_index pages (p / 32) → q ≢ p → place pages q ≢ place pages p
  places_apart p q own apart e =
      let pages_same : slice_index pages (q / 32) ≡ slice_index pages (p / 32) = omega arith in
      elim (paged.apart (q / 32) (p / 32) pages_same) [
        | inl none ↦ omega arith
        | inr is ↦ apart (omega arith)
      ]

  pub written : (p : ℕ) (v : Option ℕ) → 0 < slice_index pages (p / 32) → (q : ℕ) → number_in pages (set numbers (place pages p) v) q ≡ (if nat_eq q p then v else number_in pages numbers q)
  unfolding number_in
  written p v own q = elim (cases_Bool (nat_eq q p)) [
    | inl t ↦ rw t (ap (λ x. get_or (set numbers (place pages p) v) (place pages x) None) (eqb-true q p t) ∙ get_or-set_same numbers (place pages p) v None (within p))
    | inr f ↦ rw f (get_or-set_other numbers (place pages p) (place pages q) v None (places_apart p q own (λ e. true≢false (sym (eq-eqb q p e) ∙ f))))
  ]

  -- as above, where the page is known by another name
  pub written_at : (page p : ℕ) (v : Option ℕ) → page ≡ slice_index pages (p / 32) → 0 < page → (q : ℕ) → number_in pages (set numbers (32 * page + p % 32) v) q ≡ (if nat_eq q p then v else number_in pages numbers q)
  written_at page p v is own q = ap (λ n. number_in pages (set numbers (32 * n + p % 32) v) q) is ∙ written p v (omega arith) q

  pub paged_written : (at : ℕ) (v : Option ℕ) → 32 ≤ at → IsPaged pages (set numbers at v)
  paged_written at v far = let l = length-set numbers at v in record {
    whole = (paged.whole.0, l ∙ paged.whole.1);
    within = λ i. omega (arith, paged.within i, l);
    first = λ i lt. get_or-set_other numbers at i v None (λ e. omega arith) ∙ paged.first i lt;
    apart = paged.apart;
  }

  -- a package whose page isn't made has no number
  pub unmade : (p : ℕ) → slice_index pages (p / 32) ≡ 0 → number_in pages numbers p ≡ None
  unfolding number_in
  unmade p none = let at : place pages p ≡ p % 32 = omega arith in ap (λ i. get_or numbers i None) at ∙ paged.first (p % 32) (omega arith)

  pub unmade_same : (p : ℕ) → slice_index pages (p / 32) ≡ 0 → (q : ℕ) → number_in pages numbers q ≡ (if nat_eq q p then None else number_in pages numbers q)
  unmade_same p none q = elim (cases_Bool (nat_eq q p)) [
    | inl t ↦ rw t (ap (number_in pages numbers) (eqb-true q p t) ∙ unmade p none)
    | inr f ↦ rw f refl
  ]

  -- ---- a page is made behind the others

  module _ (index made : ℕ) (more : List (Option ℕ)) (none : slice_index pages index ≡ 0) (there : index < length pages) (behind : 32 * made ≡ length numbers) (longer : length more ≡ length numbers + 32) (same : (i : ℕ) → get_or more i None ≡ get_or numbers i None) where
    here : slice_index (set pages index made) index ≡ made
    here = get_or-set_same pages index made 0 there

    elsewhere : (i : ℕ) → i ≢ index → slice_index (set pages index made) i ≡ slice_index pages i
    elsewhere i apart = get_or-set_other pages index i made 0 apart

    alone : (i : ℕ) → i ≢ index → slice_index (set pages index made) i ≡ made → ⊥
    alone i apart e = let o = elsewhere i apart in omega (arith, paged.within i)

    pub paged_made : IsPaged (set pages index made) more
    paged_made = record {
      whole = (made + 1, omega (arith, behind, longer));
      within = λ i. elim (cases_eq i index) [
        | inl is ↦ let h : slice_index (set pages index made) i ≡ made = ap (slice_index (set pages index made)) is ∙ here in omega arith
        | inr apart ↦ let o = elsewhere i apart in omega (arith, paged.within i)
      ];
      first = λ i lt. same i ∙ paged.first i lt;
      apart = λ i j e. elim (cases_eq i index) [
        | inl is ↦ elim (cases_eq j index) [
          | inl also ↦ inr (is ∙ sym also)
          | inr other ↦ absurd (alone j other (sym e ∙ ap (slice_index (set pages index made)) is ∙ here))
        ]
        | inr other ↦ elim (cases_eq j index) [
          | inl is ↦ absurd (alone i other (e ∙ ap (slice_index (set pages index made)) is ∙ here))
          | inr another ↦ elim (paged.apart i j (sym (elsewhere i other) ∙ e ∙ elsewhere j another)) [
            | inl none ↦ inl (elsewhere i other ∙ none)
            | inr is ↦ inr is
          ]
        ]
      ];
    }

    pub number_made : (p : ℕ) → number_in (set pages index made) more p ≡ number_in pages numbers p
    unfolding number_in
    number_made p = elim (cases_eq (p / 32) index) [
      | inl is ↦
          let h : slice_index (set pages index made) (p / 32) ≡ made = ap (slice_index (set pages index made)) is ∙ here in
          let o : slice_index pages (p / 32) ≡ 0 = ap (slice_index pages) is ∙ none in
          same (place (set pages index made) p) ∙ get_or_past numbers (place (set pages index made) p) None (omega arith) ∙ sym (unmade p o)
      | inr apart ↦ same (place (set pages index made) p) ∙ ap (λ page. get_or numbers (32 * page + p % 32) None) (elsewhere (p / 32) apart)
    ]
