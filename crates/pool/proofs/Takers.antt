-- What the takers took, put together.
use Rattle.std.proofs.Common.{All, ◌≡◌, ℕ, zero, suc, ◌+◌, ◌<◌, ◌≤◌, ◌||◌, Bool, true, false, List, [], ◌∷◌, ◌++◌, length, Option, get_or, replicate, sym, refl, ap, subst, ◌∙◌, append_assoc, arith}
use Rattle.std.proofs.lemmas.Bool.Decides.{nat_tests}
use Rattle.std.proofs.lemmas.List.{append-nil, nil_from_length}
use Rattle.std.proofs.lemmas.List.Elements.{All-cons, All-head, All-nil, All-replicate, All-tail}
use Rattle.std.proofs.lemmas.Bool.{or_right}
use Rattle.pool.specs.declared.rule.Hand.{Hand}
use Rattle.pool.specs.Sharing.{times, once, indexes, IsAll}
use Rattle.pool.proofs.Orders.{times_append}
use Rattle.pool.specs.Taking.{Dealt, IsTakerOf, Took, fresh, taken_by, WereShared}

-- whether some taker was answered none
abbrev pub is_any_told : List Took → Bool
is_any_told [] = false
is_any_told (taker ∷ takers) = taker.told || is_any_told takers

pub all_last : {A : Type 0} (P : A → Type 0) (x : A) (xs : List A) → All P (xs ++ x ∷ []) → P x
all_last P x [] h = h 0 x (omega arith)
all_last P x (y ∷ xs) h = all_last P x xs (λ k d l. h (suc k) d (omega arith))

or_false : (b : Bool) → (b || false) ≡ b
or_false true = refl
or_false false = refl

pub or_assoc : (a b c : Bool) → (a || (b || c)) ≡ ((a || b) || c)
or_assoc true b c = refl
or_assoc false b c = refl

pub all_there : {A : Type 0} (xs ys zs : List A) → xs ++ ys ≡ zs → length ys ≡ 0 → xs ≡ zs
all_there xs ys zs e none = sym (append-nil xs) ∙ ap (λ l. xs ++ l) (sym (nil_from_length ys none)) ∙ e

pub taken_by-push : (ts : List Took) (t : Took) → taken_by (ts ++ t ∷ []) ≡ taken_by ts ++ t.taken
taken_by-push [] t = append-nil t.taken
taken_by-push (x ∷ ts) t = ap (λ l. x.taken ++ l) (taken_by-push ts t) ∙ sym (append_assoc x.taken (taken_by ts) t.taken)

pub is_any_told-push : (ts : List Took) (t : Took) → is_any_told (ts ++ t ∷ []) ≡ (is_any_told ts || t.told)
is_any_told-push [] t = or_false t.told
is_any_told-push (x ∷ ts) t = ap (λ b. x.told || b) (is_any_told-push ts t) ∙ or_assoc x.told (is_any_told ts) t.told

told_somewhere : (takers : List Took) (k : ℕ) (d : Took) → k < length takers → (get_or takers k d).told ≡ true → is_any_told takers ≡ true
told_somewhere [] k d short t = absurd (omega arith)
told_somewhere (x ∷ ts) zero d short t = ap (λ b. b || is_any_told ts) t
told_somewhere (x ∷ ts) (suc k) d short t = ap (λ b. x.told || b) (told_somewhere ts k d (omega arith) t) ∙ or_right x.told true refl

once_below : (n i : ℕ) → i < n → once n i ≡ 1
once_below n i h = grind (arith, nat_tests)

once_above : (n i : ℕ) → n ≤ i → once n i ≡ 0
once_above n i h = grind (arith, nat_tests)

or_comm : (a b : Bool) → (a || b) ≡ (b || a)
or_comm true true = refl
or_comm true false = refl
or_comm false true = refl
or_comm false false = refl

-- what the last taker and then the others took
pub shared : (takers : List Took) (last : Took) (v : Hand) (items : List (Option ℕ)) → v.taken ≡ last.taken ++ taken_by takers → v.told ≡ (last.told || is_any_told takers) → IsAll v items → WereShared v.count (takers ++ last ∷ [])
shared takers last v items taken told h =
    let same : (i : ℕ) → times i (taken_by (takers ++ last ∷ [])) ≡ times i v.taken = λ i.
    let a : times i (taken_by (takers ++ last ∷ [])) ≡ times i (taken_by takers ++ last.taken) = ap (times i) (taken_by-push takers last) in
    let b = times_append i (taken_by takers) last.taken in let d = times_append i last.taken (taken_by takers) in
    let e : times i v.taken ≡ times i (last.taken ++ taken_by takers) = ap (times i) taken in omega arith in
    record {
      left = indexes items;
      each = λ i below. ap (λ n. n + times i (indexes items)) (same i) ∙ sym (h.0 i) ∙ once_below v.count i below;
      no_other = λ i above. ap (λ n. n + times i (indexes items)) (same i) ∙ sym (h.0 i) ∙ once_above v.count i above;
      none_left = λ k d short t. h.1 (told ∙ or_comm last.told (is_any_told takers) ∙ sym (is_any_told-push takers last) ∙ told_somewhere (takers ++ last ∷ []) k d short t);
    }

-- ---- takers that are set to their queue

-- all but the last
pub all_but_last : {A : Type 0} (P : A → Type 0) (x : A) (xs ys : List A) → ys ≡ xs ++ x ∷ [] → All P ys → All P xs
all_but_last P x xs ys e h = go xs (subst (λ (l : List _). All P l) e h) where
  go : (xs : List _) → All P (xs ++ x ∷ []) → All P xs
  go [] h = All-nil P
  go (y ∷ xs) h = All-cons P y xs (All-head P y (xs ++ x ∷ []) h) (go xs (All-tail P y (xs ++ x ∷ []) h))

-- those that are just made
pub are_takers : (jobs : Dealt) (n : ℕ) (takers : List Took) → takers ≡ replicate n (fresh jobs) → All (IsTakerOf jobs) takers
are_takers jobs n takers e = subst (λ (l : List Took). All (IsTakerOf jobs) l) (sym e) (All-replicate (IsTakerOf jobs) n (fresh jobs) refl)
