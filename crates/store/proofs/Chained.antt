-- A walk over a chain of links, from the newest to the oldest.
use Rattle.std.proofs.Common.{◌≡◌, ◌∙◌, ◌<◌, ◌≤◌, ◌-◌, ◌⊎◌, inl, inr, ℕ, zero, suc, List, [], ◌∷◌, ◌++◌, length, refl, sym, ap, subst, arith}
use Rattle.std.proofs.lemmas.Bool.{cases_lt}
use Rattle.std.proofs.lemmas.Option.{slice_get_within, none-some}
use Rattle.std.specs.Prelude.{Some, slice_get}
use Rattle.store.specs.Indexes.{HasNone, IsNewest, chain_of}
use Rattle.store.specs.declared.index.Link.{Link}

-- ---- lists

pub get-left : {A : Type 0} (xs ys : List A) (i : ℕ) (x : A) → slice_get xs i ≡ Some x → slice_get (xs ++ ys) i ≡ Some x
get-left [] ys i x h = absurd (none-some x h)
get-left (z ∷ xs) ys zero x h = h
get-left (z ∷ xs) ys (suc i) x h = get-left xs ys i x h

-- what is read of a list and one more
pub read_more : {A : Type 0} (xs : List A) (y : A) (n : ℕ) (x : A) → slice_get (xs ++ y ∷ []) n ≡ Some x → (slice_get xs n ≡ Some x) ⊎ ((n ≡ length xs) × (y ≡ x))
read_more [] y zero x e = inr (refl, cc e)
read_more [] y (suc n) x e = absurd (cc e)
read_more (a ∷ xs) y zero x e = inl e
read_more (a ∷ xs) y (suc n) x e = elim (read_more xs y n x e) [ inl left ↦ inl left | inr last ↦ (let p = last.0 in inr (omega arith, last.1)) ]

-- ---- a walk

-- from here on the links of the chain have been looked at, and each is so
pub record Walked (links : List Link) (chain at : ℕ) (P : Link → Type 0) : Type 0 where
  pub first : ℕ
  pub few : first ≤ length links
  pub newest : IsNewest links first chain at
  pub seen : (n : ℕ) (link : Link) → slice_get links n ≡ Some link → chain_of link.number ≡ chain → at ≤ n → P link

pub Walked-start : (links : List Link) (chain at : ℕ) (P : Link → Type 0) → IsNewest links (length links) chain at → Walked links chain at P
Walked-start links chain at P newest = record {
  first = length links;
  few = omega arith;
  newest = newest;
  seen = λ n link e own le. (let lt = newest.newest n link e own (slice_get_within links n link e) in absurd (omega (arith, le)));
}

Walked-chain : (links : List Link) (chain at : ℕ) (P : Link → Type 0) (link : Link) → Walked links chain at P → 0 < at → slice_get links (at - 1) ≡ Some link → chain_of link.number ≡ chain
Walked-chain links chain at P link walked some is = walked.newest.own (at - 1) link is (omega arith)

pub Walked-next : (links : List Link) (chain at : ℕ) (P : Link → Type 0) (link : Link) → Walked links chain at P → 0 < at → slice_get links (at - 1) ≡ Some link
    → IsNewest links (at - 1) (chain_of link.number) link.before → P link → Walked links chain link.before P
Walked-next links chain at P link walked some is before here =
    let own = Walked-chain links chain at P link walked some is in
    let lt = slice_get_within links (at - 1) link is in
    let mine : IsNewest links (at - 1) chain link.before = subst (λ k. IsNewest links (at - 1) k link.before) own before in
    record {
      first = at - 1;
      few = omega arith;
      newest = mine;
      seen = λ n other e chained le. elim (cases_lt n (at - 1)) [
        | inl below ↦ (let further = mine.newest n other e chained below in absurd (omega (arith, le)))
        | inr above ↦ elim (cases_lt (at - 1) n) [
          | inl older ↦ walked.seen n other e chained (omega arith)
          | inr same ↦
              let place : n ≡ at - 1 = omega arith in
              let both : Some other ≡ Some link = sym e ∙ ap (λ k. slice_get links k) place ∙ is in
              let equal : link ≡ other = cc both in
              subst P equal here
        ]
      ];
    }

-- at the end each link of the chain was looked at
pub Walked-end : (links : List Link) (chain at : ℕ) (P : Link → Type 0) → Walked links chain at P → HasNone links at → (n : ℕ) (link : Link) → slice_get links n ≡ Some link → chain_of link.number ≡ chain → P link
Walked-end links chain at P walked none n link e own =
    let w = walked.newest.within in
    let f = walked.few in
    elim none [
      | inl zero_at ↦ walked.seen n link e own (omega arith)
      | inr past ↦ absurd (omega arith)
    ]

pub Walked-weaker : (links : List Link) (chain at : ℕ) (P Q : Link → Type 0) → ((link : Link) → P link → Q link) → Walked links chain at P → Walked links chain at Q
Walked-weaker links chain at P Q weaker walked = record { first = walked.first; few = walked.few; newest = walked.newest; seen = λ n link e own le. weaker link (walked.seen n link e own le) }
