-- The walk: what it keeps, that it ends in a selection that meets the request, and that an obstacle stands in the way of each.
use Rattle.std.proofs.Common.{◌≡◌, ◌<◌, ◌≤◌, ◌+◌, ◌∙◌, ℕ, sym, ap, subst, arith, Bool, true, false, true≢false, List, [], ◌∷◌, ◌++◌, drop, length, Contains, ◌⊎◌, inl, inr, nat_eq}
use Rattle.std.proofs.Math.Seq.{drop-append_seam}
use Rattle.std.proofs.lemmas.Bool.{cases_eq, OnFalse_at, OnFalse_from, OnTrue_at, OnTrue_from}
use Rattle.std.proofs.lemmas.List.Elements.{Contains-append_cases, Contains-append_left, Contains-append_right, Contains-push, Contains-push_cases}
use Rattle.std.proofs.lemmas.Option.{none-some, same_Some, slice_get_within}
use Rattle.std.specs.Prelude.{Err, IfOk, None, Ok, Result, Some, slice_get}
use Rattle.std.specs.Bool.{OnFalse, OnTrue}
use Rattle.std.specs.List.{IsDistinct}
use Rattle.std.specs.Map.{keys_of}
use Rattle.versions.specs.Words.{Text}
use Rattle.registry.specs.Registry.{Packages, meets_at, needs_of, number_of}
use Rattle.registry.specs.Requests.{Wanted, is_allowed}
use Rattle.registry.specs.Selections.{Choices, IsMet, IsReached, Meets, along, needed}
use Rattle.registry.specs.Laws.{AllowedIsPublished}
use Rattle.walk.specs.Choosing.{Follows, IsUnmet, choice_of}
use Rattle.walk.specs.Walks.{AreMet, ComeFrom, ComesAs, Grows, IsChecked, IsChosen, IsMetAt, IsSelected, IsUnmetAt, IsWalk, NoneFollows}
use Rattle.walk.proofs.Lists.{choice-append_cases, choice-entry, choice-left, choice-push_cases, contains_at, get-contains}

-- ---- what stays as the list grows

pub met_grown : (packages : Packages) (old new : List (ℕ × ℕ)) (name need : Text) → Grows old new → IsMet packages (choice_of old) name need → IsMet packages (choice_of new) name need
met_grown packages old new name need g m = record {
  target = m.target;
  ordinal = m.ordinal;
  numbered = m.numbered;
  selected = rw g.1 (choice-left old g.0 m.target m.ordinal m.selected);
  meeting = m.meeting;
}

are_met_grown : (packages : Packages) (old new : List (ℕ × ℕ)) (needs : List (Text × Text)) → Grows old new → AreMet packages (choice_of old) needs → AreMet packages (choice_of new) needs
are_met_grown packages old new needs g met name need among = met_grown packages old new name need g (met name need among)

checked_grown : (packages : Packages) (wanted : Wanted) (old new : List (ℕ × ℕ)) (p k : ℕ) → Grows old new
    → IsChecked packages wanted (choice_of old) p k → IsChecked packages wanted (choice_of new) p k
checked_grown packages wanted old new p k g c = record { allowed = c.allowed; met = are_met_grown packages old new (needs_of packages p k) g c.met }

-- ---- a step

-- what is chosen is added
pub follows_push : (chooses : Choices) (found : List (ℕ × ℕ)) (q v : ℕ) → Follows chooses (choice_of found) → chooses q ≡ Some v → Follows chooses (choice_of (found ++ (q, v) ∷ []))
follows_push chooses found q v follows chosen p k h = elim (choice-push_cases found q v p k h) [
  | inl before ↦ follows p k before
  | inr same ↦ ap chooses (sym same.0) ∙ chosen ∙ ap Some same.1
]

-- ---- a need at a place

-- a need that is met has a version that meets it of the package that it names
pub met_at : (packages : Packages) (s : Choices) (name need : Text) (p : ℕ) → IsMet packages s name need → number_of packages name ≡ Some p → (k : ℕ) × (s p ≡ Some k) × (meets_at packages p k need ≡ true)
met_at packages s name need p m numbered =
    let same : m.target ≡ p = same_Some m.target p (sym m.numbered ∙ numbered) in
    (m.ordinal, ap s (sym same) ∙ m.selected, ap (λ q. meets_at packages q m.ordinal need) (sym same) ∙ m.meeting)

module _ (packages : Packages) (needs : List (Text × Text)) (index : ℕ) (name need : Text) (at : slice_get needs index ≡ Some (name, need)) where
  -- it is met where its package has a version that meets it
  pub line_met : (target k : ℕ) (s : Choices) → number_of packages name ≡ Some target → s target ≡ Some k → meets_at packages target k need ≡ true → IsMetAt packages s needs index
  line_met target k s numbered chosen meeting other another here =
      let is : (name, need) ≡ (other, another) = same_Some (name, need) (other, another) (sym at ∙ here) in
      let one : IsMet packages s name need = record { target = target; ordinal = k; numbered = numbered; selected = chosen; meeting = meeting } in
      subst (λ (d : Text × Text). IsMet packages s d.0 d.1) is one

  -- it is not where what is chosen does not meet it
  pub line_unmet : (target : ℕ) (chooses : Choices) → number_of packages name ≡ Some target
      → ((k : ℕ) → chooses target ≡ Some k → meets_at packages target k need ≡ false) → IsUnmetAt packages chooses needs index
  line_unmet target chooses numbered fails = record {
    name = name;
    need = need;
    at = at;
    unmet = λ other k numbered' chosen.
        let is : other ≡ target = same_Some other target (sym numbered' ∙ numbered) in
        ap (λ q. meets_at packages q k need) is ∙ fails k (sym (ap chooses is) ∙ chosen);
  }

  -- nor where its package has no number
  pub line_unnumbered : (chooses : Choices) → number_of packages name ≡ None → IsUnmetAt packages chooses needs index
  line_unnumbered chooses none = record {
    name = name;
    need = need;
    at = at;
    unmet = λ other k numbered chosen. absurd (none-some other (sym none ∙ numbered));
  }

-- ---- what is answered of a need whose package has this number

module _ (packages : Packages) (needs : List (Text × Text)) (index : ℕ) (name need : Text) (at : slice_get needs index ≡ Some (name, need)) (target : ℕ)
    (numbered : number_of packages name ≡ Some target) where
  -- what comes as the package comes from the needs
  pub line_comes : (old new : Choices) → ComesAs target old new → ComeFrom packages needs old new
  line_comes old new comes p k h = elim (comes p k h) [
    | inl before ↦ inl before
    | inr same ↦ inr (record { name = name; need = need; among = get-contains needs index (name, need) at; numbered = numbered ∙ ap Some same })
  ]

  -- where a version of it passed, the need is met
  pub line_passed : {E : Type 0} (new : Choices) (Passes : ℕ → Type 0) (r : Result Bool E) → IfOk r (λ met. OnTrue met ((k : ℕ) × (new target ≡ Some k) × Passes k))
      → ((k : ℕ) → Passes k → meets_at packages target k need ≡ true) → IfOk r (λ met. OnTrue met (IsMetAt packages new needs index))
  line_passed new Passes (Ok met) passed meeting = OnTrue_from met (IsMetAt packages new needs index) (λ t.
      let one = OnTrue_at t passed in
      line_met packages needs index name need at target one.0 new numbered one.1 (meeting one.0 one.2))
  line_passed new Passes (Err e) passed meeting = tt

  -- where what is chosen failed, it is not
  pub line_failed : {E : Type 0} (chooses : Choices) (Fails : ℕ → Type 0) (r : Result Bool E) → IfOk r (λ met. OnFalse met ((k : ℕ) → chooses target ≡ Some k → Fails k))
      → ((k : ℕ) → Fails k → meets_at packages target k need ≡ false) → IfOk r (λ met. OnFalse met (IsUnmetAt packages chooses needs index))
  line_failed chooses Fails (Ok met) failed lacking = OnFalse_from met (IsUnmetAt packages chooses needs index) (λ f.
      let each = OnFalse_at f failed in
      line_unmet packages needs index name need at target chooses numbered (λ k chosen. lacking k (each k chosen)))
  line_failed chooses Fails (Err e) failed lacking = tt

-- what one need adds after the others comes from the needs
pub come_more : (packages : Packages) (needs : List (Text × Text)) (old found new : Choices) → ComeFrom packages needs old found → ComeFrom packages needs found new → ComeFrom packages needs old new
come_more packages needs old found new come more p k h = elim (more p k h) [
  | inl before ↦ come p k before
  | inr named ↦ inr named
]

pub met_more : (packages : Packages) (old new : List (ℕ × ℕ)) (needs : List (Text × Text)) (i : ℕ) → Grows old new
    → ((j : ℕ) → j < i → IsMetAt packages (choice_of old) needs j) → IsMetAt packages (choice_of new) needs i
    → (j : ℕ) → j < i + 1 → IsMetAt packages (choice_of new) needs j
met_more packages old new needs i g before met j below = elim (cases_eq j i) [
  | inl same ↦ let P : ℕ → Type 0 = λ n. IsMetAt packages (choice_of new) needs n in subst P (sym same) met
  | inr apart ↦ λ name need at. met_grown packages old new name need g (before j (omega (arith, below, apart)) name need at)
]

-- each is met where the one at each place is
pub met_all : (packages : Packages) (s : Choices) (needs : List (Text × Text)) (i : ℕ) → length needs ≤ i
    → ((j : ℕ) → j < i → IsMetAt packages s needs j) → AreMet packages s needs
met_all packages s needs i all met name need among =
    let at = contains_at needs (name, need) among in
    met at.0 (let lt = slice_get_within needs at.0 (name, need) at.1 in omega (arith, lt, all)) name need at.1

-- ---- the start, and a turn

pub walk_start : (packages : Packages) (wanted : Wanted) (chooses : Choices) (old found left : List (ℕ × ℕ)) → old ≡ []
    → Follows chooses (choice_of found) → ComeFrom packages wanted.needs (choice_of old) (choice_of found) → AreMet packages (choice_of found) wanted.needs
    → left ≡ found → ((p k : ℕ) → Contains left (p, k) → choice_of found p ≡ Some k) → IsWalk packages wanted chooses found left
walk_start packages wanted chooses old found left empty follows come met all among = record {
  follows = follows;
  reached = λ p k h. elim (come p k h) [
    | inl before ↦ absurd (none-some k (rw empty at before))
    | inr d ↦ needed p d.name d.need d.among d.numbered
  ];
  needs = met;
  among = among;
  checked = λ p k h. let at = choice-entry found p k h in inl (subst (λ (l : List (ℕ × ℕ)). Contains l (p, k)) (sym all) (get-contains found at.0 (p, k) at.1));
}

pub walk_chosen : (packages : Packages) (wanted : Wanted) (chooses : Choices) (found rest : List (ℕ × ℕ)) (p v : ℕ) → IsWalk packages wanted chooses found (rest ++ (p, v) ∷ [])
    → IsChosen packages wanted chooses p v
walk_chosen packages wanted chooses found rest p v w =
    let here = w.among p v (Contains-push rest (p, v)) in
    record { reached = w.reached p v here; chosen = w.follows p v here }

module _ (packages : Packages) (wanted : Wanted) (chooses : Choices) (found new rest later : List (ℕ × ℕ)) (p v : ℕ) (w : IsWalk packages wanted chooses found (rest ++ (p, v) ∷ []))
    (grown : Grows found new) (later_is : later ≡ drop (length found) new) (among : (q k : ℕ) → Contains later (q, k) → choice_of new q ≡ Some k)
    (here : IsChecked packages wanted (choice_of new) p v) where
  more_is : later ≡ grown.0
  more_is = later_is ∙ ap (drop (length found)) grown.1 ∙ drop-append_seam found grown.0

  more_among : (q k : ℕ) → Contains (rest ++ later) (q, k) → choice_of new q ≡ Some k
  more_among q k h = elim (Contains-append_cases rest later (q, k) h) [
    | inl before ↦ rw grown.1 (choice-left found grown.0 q k (w.among q k (Contains-append_left rest ((p, v) ∷ []) (q, k) before)))
    | inr after ↦ among q k after
  ]

  -- what was found before is left, or was followed now, or is checked
  before_checked : (q k : ℕ) → choice_of found q ≡ Some k → Contains (rest ++ later) (q, k) ⊎ IsChecked packages wanted (choice_of new) q k
  before_checked q k h = elim (w.checked q k h) [
    | inl left ↦ elim (Contains-push_cases rest (p, v) (q, k) left) [
      | inl still ↦ inl (Contains-append_left rest later (q, k) still)
      | inr same ↦ inr (subst (λ (e : ℕ × ℕ). IsChecked packages wanted (choice_of new) e.0 e.1) same here)
    ]
    | inr done ↦ inr (checked_grown packages wanted found new q k grown done)
  ]

  more_checked : (q k : ℕ) → choice_of new q ≡ Some k → Contains (rest ++ later) (q, k) ⊎ IsChecked packages wanted (choice_of new) q k
  more_checked q k h = elim (choice-append_cases found grown.0 q k (subst (λ (l : List (ℕ × ℕ)). choice_of l q ≡ Some k) grown.1 h)) [
    | inl before ↦ before_checked q k before
    | inr after ↦ inl (Contains-append_right rest later (q, k) (subst (λ (l : List (ℕ × ℕ)). Contains l (q, k)) (sym more_is) after))
  ]

  pub walk_more : Follows chooses (choice_of new) → ComeFrom packages (needs_of packages p v) (choice_of found) (choice_of new) → IsWalk packages wanted chooses new (rest ++ later)
  walk_more follows come = record {
    follows = follows;
    reached = λ q k h. elim (come q k h) [
      | inl before ↦ w.reached q k before
      | inr d ↦ let chosen = walk_chosen packages wanted chooses found rest p v w in along p v q d.name d.need chosen.reached chosen.chosen d.among d.numbered
    ];
    needs = are_met_grown packages found new wanted.needs grown w.needs;
    among = more_among;
    checked = more_checked;
  }

-- ---- the end

module _ (packages : Packages) (wanted : Wanted) (chooses : Choices) (found left : List (ℕ × ℕ)) (w : IsWalk packages wanted chooses found left) (none : length left ≡ 0) where
  check : (p k : ℕ) → choice_of found p ≡ Some k → IsChecked packages wanted (choice_of found) p k
  check p k chosen = elim (w.checked p k chosen) [
    | inl among ↦ let within = among.1 in absurd (omega (arith, within, none))
    | inr done ↦ done
  ]

  -- what the choices reach is found, and reached by what is found
  walked : (p : ℕ) → IsReached packages wanted.needs chooses p → ((k : ℕ) × (choice_of found p ≡ Some k)) × IsReached packages wanted.needs (choice_of found) p
  walked _ (needed p name need among numbered) =
      let here = met_at packages (choice_of found) name need p (w.needs name need among) numbered in
      ((here.0, here.1), needed p name need among numbered)
  walked _ (along from k to name need r chosen among numbered) =
      let before = walked from r in
      let same : before.0.0 ≡ k = same_Some before.0.0 k (sym (w.follows from before.0.0 before.0.1) ∙ chosen) in
      let here : choice_of found from ≡ Some k = before.0.1 ∙ ap Some same in
      let there = met_at packages (choice_of found) name need to ((check from k here).met name need among) numbered in
      ((there.0, there.1), along from k to name need before.1 here among numbered)

  pub walk_meets : AllowedIsPublished → IsDistinct nat_eq (keys_of found) → IsSelected packages wanted chooses found
  walk_meets published once = record {
    meets = record {
      selection = λ p k chosen. published packages wanted p k (check p k chosen).allowed;
      closed = λ p k name need chosen among. (check p k chosen).met name need among;
      allowed = λ p k chosen. (check p k chosen).allowed;
      needs = w.needs;
      reached = λ p k chosen. (walked p (w.reached p k chosen)).1;
    };
    follows = w.follows;
    once = once;
  }

-- ---- what each selection has that follows the choices and meets the request

module _ (packages : Packages) (wanted : Wanted) (chooses s : Choices) (follows : Follows chooses s) (meets : Meets packages wanted s) where
  -- it selects each package that the choices reach
  pub selected : (p : ℕ) → IsReached packages wanted.needs chooses p → (k : ℕ) × (s p ≡ Some k)
  selected _ (needed p name need among numbered) = let here = met_at packages s name need p (meets.needs name need among) numbered in (here.0, here.1)
  selected _ (along from k to name need r chosen among numbered) =
      let before = selected from r in
      let same : before.0 ≡ k = same_Some before.0 k (sym (follows from before.0 before.1) ∙ chosen) in
      let there = met_at packages s name need to (meets.closed from k name need (before.1 ∙ ap Some same) among) numbered in
      (there.0, there.1)

  -- by the version that is chosen
  pub selected_as : (p k : ℕ) → IsReached packages wanted.needs chooses p → chooses p ≡ Some k → s p ≡ Some k
  selected_as p k r chosen = let x = selected p r in x.1 ∙ sym (follows p x.0 x.1) ∙ chosen

  -- and what it reaches, the choices reach
  pub reached_by_both : (p : ℕ) → IsReached packages wanted.needs s p → IsReached packages wanted.needs chooses p
  reached_by_both _ (needed p name need among numbered) = needed p name need among numbered
  reached_by_both _ (along from k to name need r chosen among numbered) = along from k to name need (reached_by_both from r) (follows from k chosen) among numbered

-- ---- obstacles

unmet_not : (packages : Packages) (chooses s : Choices) (name need : Text) → Follows chooses s → IsUnmet packages chooses name need → IsMet packages s name need → ⊥
unmet_not packages chooses s name need follows unmet m =
    true≢false (sym m.meeting ∙ unmet m.target m.ordinal m.numbered (follows m.target m.ordinal m.selected))

-- a need of the request that is not met stands in the way of each
pub need_stands : (packages : Packages) (wanted : Wanted) (chooses : Choices) (index : ℕ) → IsUnmetAt packages chooses wanted.needs index → NoneFollows packages wanted chooses
need_stands packages wanted chooses index u s follows meets =
    unmet_not packages chooses s u.name u.need follows u.unmet (meets.needs u.name u.need (get-contains wanted.needs index (u.name, u.need) u.at))

-- and so does a dependency of a chosen version
pub dependency_stands : (packages : Packages) (wanted : Wanted) (chooses : Choices) (p k index : ℕ) → IsChosen packages wanted chooses p k
    → IsUnmetAt packages chooses (needs_of packages p k) index → NoneFollows packages wanted chooses
dependency_stands packages wanted chooses p k index c u s follows meets =
    let here = selected_as packages wanted chooses s follows meets p k c.reached c.chosen in
    unmet_not packages chooses s u.name u.need follows u.unmet (meets.closed p k u.name u.need here (get-contains (needs_of packages p k) index (u.name, u.need) u.at))

-- and a chosen version that is not allowed
pub forbidden_stands : (packages : Packages) (wanted : Wanted) (chooses : Choices) (p k : ℕ) → IsChosen packages wanted chooses p k
    → is_allowed packages wanted p k ≡ false → NoneFollows packages wanted chooses
forbidden_stands packages wanted chooses p k c forbidden s follows meets =
    let here = selected_as packages wanted chooses s follows meets p k c.reached c.chosen in
    true≢false (sym (meets.allowed p k here) ∙ forbidden)
