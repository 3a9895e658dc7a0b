-- What a list of chosen versions selects, where each package stands once.
use Rattle.std.proofs.Common.{arith, drop, length, take, Contains, ◌≡◌, ◌<◌, ◌≤◌, true, ◌∙◌, ℕ, List, [], ◌∷◌, ◌++◌, inl, inr, ap, subst, sym, refl, nat_eq, false, true≢false, if◌then◌else◌}
use Rattle.std.proofs.lemmas.Bool.{cases_Bool, eq-eqb, eqb-true}
use Rattle.std.proofs.lemmas.Cmp.{nat_eq_equiv}
use Rattle.std.proofs.lemmas.List.{length-map, length_push, take-append-drop, take-take, take_at}
use Rattle.std.proofs.lemmas.List.Elements.{Contains-append_left, Contains-append_right}
use Rattle.std.proofs.lemmas.Map.Entries.{lookup_from_place}
use Rattle.std.proofs.lemmas.Map.Keys.{IsDistinct-push}
use Rattle.std.proofs.lemmas.Map.Steps.{length-le_from_distinct_below}
use Rattle.std.proofs.lemmas.Option.{none-some}
use Rattle.std.specs.List.{AllByRecursion, IsDistinct, list_any}
use Rattle.std.specs.Map.{keys_of}
use Rattle.std.specs.Prelude.{None, Some, slice_get}
use Rattle.walk.specs.Choosing.{choice_of}
use Rattle.walk.proofs.Lists.{contains_at}

-- a package of which nothing is chosen is none of the keys
unchosen_key : (xs : List (ℕ × ℕ)) (p : ℕ) → choice_of xs p ≡ None → list_any (nat_eq p) (keys_of xs) ≡ false
unchosen_key [] p none = refl
unchosen_key (x ∷ xs) p none = elim (cases_Bool (nat_eq p x.0)) [
  | inl t ↦ absurd (none-some x.1 (sym (rw t at none)))
  | inr f ↦ rw f (unchosen_key xs p (rw f at none))
]

pub keys-push : (xs : List (ℕ × ℕ)) (e : ℕ × ℕ) → keys_of (xs ++ e ∷ []) ≡ keys_of xs ++ e.0 ∷ []
keys-push [] e = refl
keys-push (x ∷ xs) e = ap (λ ks. x.0 ∷ ks) (keys-push xs e)

pub once_pushed : (xs : List (ℕ × ℕ)) (p k : ℕ) → IsDistinct nat_eq (keys_of xs) → choice_of xs p ≡ None → IsDistinct nat_eq (keys_of (xs ++ (p, k) ∷ []))
once_pushed xs p k once none = rw (keys-push xs (p, k)) (IsDistinct-push nat_eq_equiv (keys_of xs) p once (unchosen_key xs p none))

-- a key has a version
chosen_key : (xs : List (ℕ × ℕ)) (p : ℕ) → list_any (nat_eq p) (keys_of xs) ≡ true → (k : ℕ) × (choice_of xs p ≡ Some k)
chosen_key [] p e = absurd (true≢false (sym e))
chosen_key (x ∷ xs) p e = elim (cases_Bool (nat_eq p x.0)) [
  | inl t ↦ (x.1, rw t refl)
  | inr f ↦ let rest = chosen_key xs p (rw f at e) in (rest.0, rw f rest.1)
]

-- packages below a number, each once, are at most so many
pub once_short : (xs : List (ℕ × ℕ)) (n : ℕ) → IsDistinct nat_eq (keys_of xs) → ((p k : ℕ) → choice_of xs p ≡ Some k → p < n) → length xs ≤ n
once_short xs n once within =
    let l : length (keys_of xs) ≡ length xs = length-map xs (λ (x : ℕ × ℕ). x.0) in
    let few = length-le_from_distinct_below (keys_of xs) n once (λ p e. let here = chosen_key xs p e in within p here.0 here.1) in
    omega (arith, few, l)

-- what a list selects with one version more
pub choice_pushed : (xs : List (ℕ × ℕ)) (p k : ℕ) → choice_of xs p ≡ None → (q : ℕ) → choice_of (xs ++ (p, k) ∷ []) q ≡ (if nat_eq q p then Some k else choice_of xs q)
choice_pushed [] p k none q = refl
choice_pushed (x ∷ xs) p k none q = elim (cases_Bool (nat_eq p x.0)) [
  | inl t ↦ absurd (none-some x.1 (sym (rw t at none)))
  | inr f ↦ elim (cases_Bool (nat_eq q x.0)) [
    | inl here ↦ elim (cases_Bool (nat_eq q p)) [
      | inl same ↦ absurd (true≢false (sym (eq-eqb p x.0 (sym (eqb-true q p same) ∙ eqb-true q x.0 here)) ∙ f))
      | inr other ↦ rw (here, other) refl
    ]
    | inr not_here ↦ rw not_here (choice_pushed xs p k (rw f at none) q)
  ]
]

-- ---- the last one is taken away

-- what is so of each key but the last, and of the last
all_front : (P : ℕ → Type 0) (xs : List (ℕ × ℕ)) (e : ℕ × ℕ) → AllByRecursion P (keys_of (xs ++ e ∷ [])) → AllByRecursion P (keys_of xs)
all_front P [] e h = tt
all_front P (x ∷ xs) e h = (h.0, all_front P xs e h.1)

all_last : (P : ℕ → Type 0) (xs : List (ℕ × ℕ)) (e : ℕ × ℕ) → AllByRecursion P (keys_of (xs ++ e ∷ [])) → P e.0
all_last P [] e h = h.0
all_last P (x ∷ xs) e h = all_last P xs e h.1

pub once_popped : (xs : List (ℕ × ℕ)) (e : ℕ × ℕ) → IsDistinct nat_eq (keys_of (xs ++ e ∷ [])) → IsDistinct nat_eq (keys_of xs)
unfolding IsDistinct
once_popped [] e once = tt
once_popped (x ∷ xs) e once = (all_front (λ y. nat_eq x.0 y ≡ false) xs e once.0, once_popped xs e once.1)

pub last_unchosen : (xs : List (ℕ × ℕ)) (e : ℕ × ℕ) → IsDistinct nat_eq (keys_of (xs ++ e ∷ [])) → choice_of xs e.0 ≡ None
unfolding IsDistinct
last_unchosen [] e once = refl
last_unchosen (x ∷ xs) e once =
    let apart : nat_eq e.0 x.0 ≡ false = nat_eq_equiv.symm e.0 x.0 ∙ all_last (λ y. nat_eq x.0 y ≡ false) xs e once.0 in
    rw apart (last_unchosen xs e once.1)

pub choice_popped : (xs : List (ℕ × ℕ)) (e : ℕ × ℕ) → IsDistinct nat_eq (keys_of (xs ++ e ∷ [])) → (q : ℕ) → (if nat_eq q e.0 then None else choice_of (xs ++ e ∷ []) q) ≡ choice_of xs q
choice_popped xs e once q = elim (cases_Bool (nat_eq q e.0)) [
  | inl t ↦ rw t (sym (ap (choice_of xs) (eqb-true q e.0 t) ∙ last_unchosen xs e once))
  | inr f ↦ rw f (choice_pushed xs e.0 e.1 (last_unchosen xs e once) q ∙ rw f refl)
]

-- ---- what stands at a place

pub entry_chosen : (xs : List (ℕ × ℕ)) (i : ℕ) (e : ℕ × ℕ) → IsDistinct nat_eq (keys_of xs) → slice_get xs i ≡ Some e → choice_of xs e.0 ≡ Some e.1
entry_chosen xs i e once at = lookup_from_place nat_eq_equiv xs i e.0 e.1 once at

-- and so is what is among a part of the list
pub part_chosen : (part xs : List (ℕ × ℕ)) (a b p k : ℕ) → part ≡ xs → IsDistinct nat_eq (keys_of xs) → Contains (take a (drop b part)) (p, k) → choice_of xs p ≡ Some k
part_chosen part xs a b p k is once h =
    let behind : Contains (drop b part) (p, k) =
    subst (λ (l : List (ℕ × ℕ)). Contains l (p, k)) (take-append-drop a (drop b part)) (Contains-append_left (take a (drop b part)) (drop a (drop b part)) (p, k) h) in
    let among : Contains part (p, k) = subst (λ (l : List (ℕ × ℕ)). Contains l (p, k)) (take-append-drop b part) (Contains-append_right (take b part) (drop b part) (p, k) behind) in
    let at = contains_at xs (p, k) (subst (λ (l : List (ℕ × ℕ)). Contains l (p, k)) is among) in
    entry_chosen xs at.0 (p, k) once at.1

-- a front of a list that loses its last one is a front still
pub front_popped : (xs ys zs : List (ℕ × ℕ)) (e : ℕ × ℕ) → xs ≡ take (length xs) ys → xs ≡ zs ++ e ∷ [] → zs ≡ take (length zs) ys
front_popped xs ys zs e front is =
    let longer = ap length is ∙ length_push zs e in
    sym (take_at zs (e ∷ []) (length zs) refl) ∙ ap (take (length zs)) (sym is ∙ front) ∙ take-take (length zs) (length xs) ys (omega (arith, longer))

pub once_none : (xs : List (ℕ × ℕ)) → xs ≡ [] → IsDistinct nat_eq (keys_of xs)
unfolding IsDistinct
once_none xs none = subst (λ (l : List (ℕ × ℕ)). IsDistinct nat_eq (keys_of l)) (sym none) tt
