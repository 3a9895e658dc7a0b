-- That there is one newest selection.
use Rattle.std.proofs.Common.{◌≡◌, ◌∙◌, ◌+◌, ◌⊎◌, inl, inr, ℕ, List, [], ◌∷◌, ◌++◌, length, take, refl, sym, ap, subst, arith, true, false, true≢false, ◌&&◌, ◌||◌, not, Bool, nat_eq}
use Rattle.std.proofs.lemmas.List.{append-nil, append_assoc}
use Rattle.std.proofs.lemmas.Option.{none-some, same_Some}
use Rattle.std.specs.Prelude.{None, Some, slice_get}
use Rattle.std.specs.List.{IsDistinct}
use Rattle.std.specs.Map.{keys_of}
use Rattle.std.specs.Ordering.{is_lt, ordering_reverse}
use Rattle.std.specs.declared.cmp.Ordering.{Ordering}
use Rattle.std.specs.declared.cmp.Ordering.TheVariants.{Less, Equal, Greater}
use Rattle.versions.specs.Precedence.{PrecedenceIsATotalPreorder}
use Rattle.versions.specs.Words.{Text, precedence}
use Rattle.registry.specs.Laws.{HighestIsOne}
use Rattle.registry.specs.Lawful.{IsRegistry}
use Rattle.registry.specs.Registry.{Package, Packages, Publication, meets_at, needs_of, number_of, package_at, publication_at}
use Rattle.registry.specs.Requests.{Wanted, is_locked}
use Rattle.registry.specs.Selections.{Choices, IsMet}
use Rattle.walk.specs.Listing.{IsPassed}
use Rattle.walk.specs.Newest.{AreWalked, Has, IsAhead, IsNewest, in_name_order, next_package}
use Rattle.walk.specs.Choosing.{choice_of}
use Rattle.walk.proofs.Choices.{entry_chosen, once_pushed}
use Rattle.walk.proofs.Listings.{need_in, next_named, next_none}
use Rattle.walk.proofs.Lists.{choice-entry, front-next, front-taken, get-contains, get-taken, some_value}
use Rattle.walk.proofs.Publications.{publication_at-package, tied_once}
use Rattle.walk.proofs.Steps.{met_at}

-- ---- lists

-- two lists are the same, where behind the same neither goes on alone, and the same comes next
module _ (one two : List (ℕ × ℕ)) (here : (n : ℕ) (e f : ℕ × ℕ) → take n one ≡ take n two → slice_get one n ≡ Some e → slice_get two n ≡ Some f → e ≡ f)
    (not_more : (n : ℕ) (e : ℕ × ℕ) → take n one ≡ two → slice_get one n ≡ Some e → ⊥) (not_less : (n : ℕ) (f : ℕ × ℕ) → one ≡ take n two → slice_get two n ≡ Some f → ⊥) where
  same_behind : (before xs ys : List (ℕ × ℕ)) → one ≡ before ++ xs → two ≡ before ++ ys → xs ≡ ys
  same_behind before [] [] a b = refl
  same_behind before [] (y ∷ ys) a b = absurd (not_less (length before) y (a ∙ append-nil before ∙ sym (front-taken two before (y ∷ ys) b)) (front-next two before ys y b))
  same_behind before (x ∷ xs) [] a b = absurd (not_more (length before) x (front-taken one before (x ∷ xs) a ∙ sym (append-nil before) ∙ sym b) (front-next one before xs x a))
  same_behind before (x ∷ xs) (y ∷ ys) a b =
      let same : x ≡ y = here (length before) x y (front-taken one before (x ∷ xs) a ∙ sym (front-taken two before (y ∷ ys) b)) (front-next one before xs x a) (front-next two before ys y b) in
      let next : two ≡ (before ++ x ∷ []) ++ ys = b ∙ ap (λ z. before ++ z ∷ ys) (sym same) ∙ sym (append_assoc before (x ∷ []) ys) in
      let rest = same_behind (before ++ x ∷ []) xs ys (a ∙ sym (append_assoc before (x ∷ []) xs)) next in
      λ i. same i ∷ rest i

  pub same_lists : one ≡ two
  same_lists = same_behind [] one two refl refl

-- ---- the walk

-- in the order of the walk each package stands once
pub walked_once : (packages : Packages) (needs : List (Text × Text)) (found : List (ℕ × ℕ)) → AreWalked packages needs found → IsDistinct nat_eq (keys_of found)
unfolding IsDistinct
walked_once packages needs found walked = once [] found refl tt
  where
    once : (before xs : List (ℕ × ℕ)) → found ≡ before ++ xs → IsDistinct nat_eq (keys_of before) → IsDistinct nat_eq (keys_of found)
    once before [] is d = subst (λ (l : List (ℕ × ℕ)). IsDistinct nat_eq (keys_of l)) (sym (is ∙ append-nil before)) d
    once before (e ∷ xs) is d =
        let next = ap (next_package packages needs) (sym (front-taken found before (e ∷ xs) is)) ∙ walked (length before) e (front-next found before xs e is) in
        once (before ++ e ∷ []) xs (is ∙ sym (append_assoc before (e ∷ []) xs)) (once_pushed before e.0 e.1 d (next_named packages needs before e.0 next).2)

-- with its version
pub own_choice : (packages : Packages) (needs : List (Text × Text)) (found : List (ℕ × ℕ)) → AreWalked packages needs found → (i : ℕ) (e : ℕ × ℕ) → slice_get found i ≡ Some e → choice_of found e.0 ≡ Some e.1
own_choice packages needs found walked i e at = entry_chosen found i e (walked_once packages needs found walked) at

-- ---- of two versions one is preferred

module _ (highest : HighestIsOne) (total : PrecedenceIsATotalPreorder) where
  preferred_one : (one_locked other_locked : Bool) (above below : Bool) → (above ≡ false → below ≡ true)
      → (((one_locked && not other_locked) || ((one_locked || not other_locked) && above)) ≡ true) ⊎ (((other_locked && not one_locked) || ((other_locked || not one_locked) && below)) ≡ true)
  preferred_one true true true below h = inl refl
  preferred_one true true false below h = inr (h refl)
  preferred_one true false above below h = inl refl
  preferred_one false true above below h = inr refl
  preferred_one false false true below h = inl refl
  preferred_one false false false below h = inr (h refl)

  pub ahead : (packages : Packages) (wanted : Wanted) (p j k : ℕ) (u v : Publication) → IsRegistry packages → publication_at packages p j ≡ Some u → publication_at packages p k ≡ Some v
      → (j ≡ k) ⊎ (IsAhead packages wanted p j k ⊎ IsAhead packages wanted p k j)
  ahead packages wanted p j k u v lawful at_j at_k = by (precedence v.version u.version) refl
    where
      pack : (pack : Package) × (package_at packages p ≡ Some pack) × (slice_get pack.versions j ≡ Some u)
      pack = publication_at-package packages p j u at_j

      one_of : (above below : Bool) → is_lt (precedence v.version u.version) ≡ above → is_lt (precedence u.version v.version) ≡ below → (above ≡ false → below ≡ true)
          → IsAhead packages wanted p j k ⊎ IsAhead packages wanted p k j
      one_of above below a b h = elim (preferred_one (is_locked wanted.lock pack.0.name u.version) (is_locked wanted.lock pack.0.name v.version) above below h) [
        | inl t ↦ inl (record { pack = pack.0; one = u; other = v; of = pack.1; first = at_j; second = at_k; preferred = rw a t })
        | inr t ↦ inr (record { pack = pack.0; one = v; other = u; of = pack.1; first = at_k; second = at_j; preferred = rw b t })
      ]

      by : (o : Ordering) → precedence v.version u.version ≡ o → (j ≡ k) ⊎ (IsAhead packages wanted p j k ⊎ IsAhead packages wanted p k j)
      by Less e = inr (one_of true (is_lt (precedence u.version v.version)) (ap is_lt e) refl (λ f. absurd (true≢false f)))
      by Equal e = inl (sym (tied_once highest total packages p k j v u lawful at_k at_j e))
      by Greater e = inr (one_of false true (ap is_lt e) (ap is_lt (total.antisymm u.version v.version ∙ ap ordering_reverse e)) (λ f. refl))

-- ---- one newest selection

module _ (packages : Packages) (wanted : Wanted) (s : Choices) (one : IsNewest packages wanted s) where
  walked : AreWalked packages wanted.needs one.found
  walked i e at = (one.best.turns i e at).0

  selected_at : (i : ℕ) (e : ℕ × ℕ) → slice_get one.found i ≡ Some e → s e.0 ≡ Some e.1
  selected_at i e at = sym (ap (λ c. c e.0) one.selects) ∙ own_choice packages wanted.needs one.found walked i e at

  -- what is selected has those before each entry
  has_before : (n : ℕ) → Has s (take n one.found)
  has_before n p k chosen =
      let place = choice-entry (take n one.found) p k chosen in
      selected_at place.0 (p, k) (get-taken n one.found place.0 (p, k) place.1).1

  -- behind all of them nothing comes
  ended : next_package packages wanted.needs one.found ≡ None
  ended = next_none packages one.found wanted.needs (length one.found) (omega arith) (record {
    asked = λ i line at. passed line (one.meets.needs line.0 line.1 (need_in wanted.needs line (get-contains (in_name_order wanted.needs) i line at)));
    before = λ j e lt at_j i line at. passed line (one.meets.closed e.0 e.1 line.0 line.1 (selected_at j e at_j) (get-contains (needs_of packages e.0 e.1) i line at));
  })
    where
      passed : (line : Text × Text) → IsMet packages s line.0 line.1 → IsPassed packages one.found line
      passed line m p numbered = let there = met_at packages s line.0 line.1 p m numbered in (there.0, ap (λ c. c p) one.selects ∙ there.1)

  published : (p k : ℕ) → s p ≡ Some k → (v : Publication) × (publication_at packages p k ≡ Some v)
  published p k at = some_value (publication_at packages p k) (one.meets.selection p k at)

module _ (highest : HighestIsOne) (total : PrecedenceIsATotalPreorder) (packages : Packages) (wanted : Wanted) (s t : Choices) (lawful : IsRegistry packages) (one : IsNewest packages wanted s) (two : IsNewest packages wanted t) where
  -- what comes at a place behind the same is the same
  same_here : (n : ℕ) (e f : ℕ × ℕ) → take n one.found ≡ take n two.found → slice_get one.found n ≡ Some e → slice_get two.found n ≡ Some f → e ≡ f
  same_here n e f before at_e at_f =
      elim (ahead highest total packages wanted e.0 e.1 f.1 u.0 v.0 lawful u.1 v.1) [
        | inl same ↦ ap (λ p. (p, e.1)) same_package ∙ ap (λ k. (f.0, k)) same
        | inr other ↦ elim other [
          | inl first ↦ absurd ((two.best.turns n f at_f).1 e.1 (subst (λ p. IsAhead packages wanted p e.1 f.1) same_package first) s one.meets
              (subst (λ xs. Has s xs) before (has_before packages wanted s one n)) (ap s (sym same_package) ∙ mine))
          | inr second ↦ absurd ((one.best.turns n e at_e).1 f.1 second t two.meets (subst (λ xs. Has t xs) (sym before) (has_before packages wanted t two n)) (ap t same_package ∙ theirs))
        ]
      ]
    where
      same_package : e.0 ≡ f.0
      same_package = same_Some e.0 f.0 (sym (one.best.turns n e at_e).0 ∙ ap (next_package packages wanted.needs) before ∙ (two.best.turns n f at_f).0)

      mine : s e.0 ≡ Some e.1
      mine = selected_at packages wanted s one n e at_e

      theirs : t f.0 ≡ Some f.1
      theirs = selected_at packages wanted t two n f at_f

      u : (v : Publication) × (publication_at packages e.0 e.1 ≡ Some v)
      u = published packages wanted s one e.0 e.1 mine

      v : (v : Publication) × (publication_at packages e.0 f.1 ≡ Some v)
      v = published packages wanted t two e.0 f.1 (ap t same_package ∙ theirs)

  found_same : one.found ≡ two.found
  found_same = same_lists one.found two.found same_here
      (λ n e before at. none-some e.0 (sym (ended packages wanted t two) ∙ ap (next_package packages wanted.needs) (sym before) ∙ (one.best.turns n e at).0))
      (λ n f before at. none-some f.0 (sym (ended packages wanted s one) ∙ ap (next_package packages wanted.needs) before ∙ (two.best.turns n f at).0))

  -- there is one newest selection at most
  pub newest-once : (p : ℕ) → s p ≡ t p
  newest-once p = sym (ap (λ c. c p) one.selects) ∙ ap (λ xs. choice_of xs p) found_same ∙ ap (λ c. c p) two.selects

-- ---- a line that is met

-- where the package has this number and this version, a line on it that is met is met by this version
pub met_by : (packages : Packages) (t : Choices) (name need : Text) (p j : ℕ) → IsMet packages t name need → number_of packages name ≡ Some p → t p ≡ Some j → meets_at packages p j need ≡ true
met_by packages t name need p j m numbered chosen =
    let here = met_at packages t name need p m numbered in
    ap (λ k. meets_at packages p k need) (same_Some j here.0 (sym chosen ∙ here.1)) ∙ here.2
