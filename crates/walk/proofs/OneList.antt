-- A selection is told by one list.
use Rattle.std.proofs.Common.{◌≡◌, ◌<◌, ◌+◌, ◌∙◌, ℕ, true, false, true≢false, inl, inr, List, [], ◌∷◌, length, map, get_or, refl, sym, ap, subst, arith, nat_eq}
use Rattle.std.proofs.lemmas.Bool.{cases_Bool, eq-eqb, eqb-true}
use Rattle.std.proofs.lemmas.List.{length-map}
use Rattle.std.proofs.lemmas.Map.Entries.{lookup_head, lookup_tail}
use Rattle.std.proofs.lemmas.Map.Keys.{apart_from_distinct, sorted_from_all_adjacent}
use Rattle.std.proofs.lemmas.Map.Lookups.{exact_bytes}
use Rattle.std.proofs.lemmas.Option.{none-some, same_Some, slice_get-get_or}
use Rattle.std.proofs.Math.ListN.{get_or-map}
use Rattle.std.specs.Cmp.{IsTotalOrder, on_total, tied_itself}
use Rattle.std.specs.Cmp.Lexicographic.{nat_list_cmp_total, slice_cmp}
use Rattle.std.specs.List.{AllByRecursion, IsDistinct}
use Rattle.std.specs.List.Sorted.{IsStrictlySortedBy}
use Rattle.std.specs.Map.{keys_of}
use Rattle.std.specs.Option.{option_and_then}
use Rattle.std.specs.Ordering.{is_lt, nat_cmp, ordering_reverse}
use Rattle.std.specs.Prelude.{IsSorted, Option, None, Some, is_some, slice_get}
use Rattle.std.specs.declared.cmp.Ordering.{Ordering}
use Rattle.std.specs.declared.cmp.Ordering.TheVariants.{Less, Equal, Greater}
use Rattle.versions.specs.Words.{Text}
use Rattle.registry.specs.Lawful.{IsRegistry}
use Rattle.registry.specs.Laws.{NamesHaveTheirNumbers}
use Rattle.registry.specs.Registry.{Package, Packages, Publication, is_published, number_of, package_at, publication_at}
use Rattle.registry.specs.Selections.{Choices, IsSelection}
use Rattle.walk.specs.Answer.{Tells, told}
use Rattle.walk.specs.Choosing.{choice_of}
use Rattle.walk.specs.Names.{by_name, name_of, name_or_none}
use Rattle.walk.proofs.Choices.{entry_chosen}

-- ---- keys that rise

module _ {R : ℕ → ℕ → Ordering} (o : IsTotalOrder R) where
  not_itself : (p : ℕ) → R p p ≡ Less → ⊥
  not_itself p e = absurd (true≢false (sym (ap is_lt e) ∙ ap is_lt (tied_itself o p)))

  -- a key that is found is above one that is below all
  above : (x : ℕ) (es : List (ℕ × ℕ)) (p k : ℕ) → AllByRecursion (λ y. R x y ≡ Less) (keys_of es) → choice_of es p ≡ Some k → R x p ≡ Less
  above x [] p k all found = absurd (none-some k found)
  above x (e ∷ es) p k all found = elim (cases_Bool (nat_eq p e.0)) [
    | inl same ↦ subst (λ (n : ℕ). R x n ≡ Less) (sym (eqb-true p e.0 same)) all.0
    | inr other ↦ above x es p k all.1 (sym (lookup_tail (nat_eq p) e es other) ∙ found)
  ]

  not_found : (x : ℕ) (es : List (ℕ × ℕ)) (c : Option ℕ) → AllByRecursion (λ y. R x y ≡ Less) (keys_of es) → choice_of es x ≡ c → c ≡ None
  not_found x es None all is = refl
  not_found x es (Some k) all is = absurd (not_itself x (above x es x k all is))

  at_head : (e : ℕ × ℕ) (es : List (ℕ × ℕ)) → choice_of (e ∷ es) e.0 ≡ Some e.1
  at_head e es = lookup_head (nat_eq e.0) e es (eq-eqb e.0 e.0 refl)

  both_less : (p q : ℕ) → R p q ≡ Less → R q p ≡ Less → ⊥
  both_less p q a b = not_itself p (o.trans p q p a b)

  -- lists that rise and select the same are one
  pub same_list : (xs ys : List (ℕ × ℕ)) → IsStrictlySortedBy R (keys_of xs) → IsStrictlySortedBy R (keys_of ys) → ((p : ℕ) → choice_of xs p ≡ choice_of ys p) → xs ≡ ys
  unfolding IsStrictlySortedBy
  same_list [] [] s t same = refl
  same_list [] (y ∷ ys) s t same = absurd (none-some y.1 (same y.0 ∙ at_head y ys))
  same_list (x ∷ xs) [] s t same = absurd (none-some x.1 (sym (same x.0) ∙ at_head x xs))
  same_list (x ∷ xs) (y ∷ ys) s t same =
      let key : x.0 ≡ y.0 = elim (cases_Bool (nat_eq x.0 y.0)) [
        | inl is ↦ eqb-true x.0 y.0 is
        | inr apart ↦
            let other : nat_eq y.0 x.0 ≡ false = apart_back x.0 y.0 apart in
            let down : R y.0 x.0 ≡ Less = above y.0 ys x.0 x.1 t.0 (sym (lookup_tail (nat_eq x.0) y ys apart) ∙ (sym (same x.0) ∙ at_head x xs)) in
            let up : R x.0 y.0 ≡ Less = above x.0 xs y.0 y.1 s.0 (sym (lookup_tail (nat_eq y.0) x xs other) ∙ (same y.0 ∙ at_head y ys)) in
            absurd (both_less x.0 y.0 up down)
      ] in
      let value : x.1 ≡ y.1 = same_Some x.1 y.1 (sym (at_head x xs) ∙ (same x.0 ∙ (ap (choice_of (y ∷ ys)) key ∙ at_head y ys))) in
      let rest : xs ≡ ys = same_list xs ys s.1 t.1 (tails x y xs ys s.0 t.0 key same) in
      λ i. (key i, value i) ∷ rest i
    where
      apart_back : (p q : ℕ) → nat_eq p q ≡ false → nat_eq q p ≡ false
      apart_back p q apart = elim (cases_Bool (nat_eq q p)) [
        | inl is ↦ absurd (true≢false (sym (eq-eqb p q (sym (eqb-true q p is))) ∙ apart))
        | inr is ↦ is
      ]

      tails : (x y : ℕ × ℕ) (xs ys : List (ℕ × ℕ)) → AllByRecursion (λ z. R x.0 z ≡ Less) (keys_of xs) → AllByRecursion (λ z. R y.0 z ≡ Less) (keys_of ys) → x.0 ≡ y.0
          → ((p : ℕ) → choice_of (x ∷ xs) p ≡ choice_of (y ∷ ys) p) → (p : ℕ) → choice_of xs p ≡ choice_of ys p
      tails x y xs ys a b key same p = elim (cases_Bool (nat_eq p x.0)) [
        | inl is ↦
            let at : x.0 ≡ p = sym (eqb-true p x.0 is) in
            let left : choice_of xs p ≡ None = subst (λ (n : ℕ). choice_of xs n ≡ None) at (not_found x.0 xs (choice_of xs x.0) a refl) in
            let right : choice_of ys p ≡ None = subst (λ (n : ℕ). choice_of ys n ≡ None) (sym key ∙ at) (not_found y.0 ys (choice_of ys y.0) b refl) in
            left ∙ sym right
        | inr other ↦
            sym (lookup_tail (nat_eq p) x xs other) ∙ (same p ∙ lookup_tail (nat_eq p) y ys (ap (nat_eq p) (sym key) ∙ other))
      ]

-- ---- names that rise

-- two that are neither equal nor the wrong way round
less : (a b : Ordering) → a ≡ ordering_reverse b → is_lt b ≡ false → (a ≡ Equal → ⊥) → a ≡ Less
less a Less turned lt apart = absurd (true≢false lt)
less a Equal turned lt apart = absurd (apart turned)
less a Greater turned lt apart = turned

pack_of : (f : Package → Option Publication) (at : Option Package) → is_some (option_and_then f at) ≡ true → (pack : Package) × (at ≡ Some pack)
pack_of f None there = absurd (true≢false (sym there))
pack_of f (Some pack) there = (pack, refl)

module _ (named : NamesHaveTheirNumbers) (packages : Packages) (lawful : IsRegistry packages) where
  -- how two packages compare by their names
  abbrev ranked : ℕ → ℕ → Ordering
  ranked p q = slice_cmp nat_cmp (name_of packages p) (name_of packages q)

  ranked-total : IsTotalOrder ranked
  ranked-total = on_total (name_of packages) nat_list_cmp_total

  of_package : (p k : ℕ) → is_published packages p k ≡ true → (pack : Package) × (package_at packages p ≡ Some pack)
  unfolding publication_at
  of_package p k there = pack_of (λ (pack : Package). slice_get pack.versions k) (package_at packages p) there

  -- published packages of one name are one
  one_named : (p q j k : ℕ) → is_published packages p j ≡ true → is_published packages q k ≡ true → ranked p q ≡ Equal → p ≡ q
  one_named p q j k left right tie =
      let a = of_package p j left in
      let b = of_package q k right in
      let names : a.0.name ≡ b.0.name = sym (ap name_or_none a.1) ∙ (exact_bytes (name_of packages p) (name_of packages q) tie ∙ ap name_or_none b.1) in
      same_Some p q (sym (named packages p a.0 lawful a.1) ∙ (ap (number_of packages) names ∙ named packages q b.0 lawful b.1))

  -- the list of a selection rises
  rising : (xs : List (ℕ × ℕ)) → IsDistinct nat_eq (keys_of xs) → IsSelection packages (choice_of xs) → IsSorted (by_name packages) xs → IsStrictlySortedBy ranked (keys_of xs)
  rising xs once selection sorted = sorted_from_all_adjacent ranked-total (keys_of xs) 0 next
    where
      next : (i : ℕ) → i + 1 < length (keys_of xs) → ranked (get_or (keys_of xs) i 0) (get_or (keys_of xs) (i + 1) 0) ≡ Less
      next i lt =
          let count = length-map xs (λ (e : ℕ × ℕ). e.0) in
          let e = get_or xs i (0, 0) in
          let f = get_or xs (i + 1) (0, 0) in
          let at_e : get_or (keys_of xs) i 0 ≡ e.0 = get_or-map (λ (x : ℕ × ℕ). x.0) xs i (0, 0) in
          let at_f : get_or (keys_of xs) (i + 1) 0 ≡ f.0 = get_or-map (λ (x : ℕ × ℕ). x.0) xs (i + 1) (0, 0) in
          let one = selection e.0 e.1 (entry_chosen xs i e once (slice_get-get_or xs i (0, 0) (omega (arith, lt, count)))) in
          let two = selection f.0 f.1 (entry_chosen xs (i + 1) f once (slice_get-get_or xs (i + 1) (0, 0) (omega (arith, lt, count)))) in
          let apart : nat_eq (get_or (keys_of xs) i 0) (get_or (keys_of xs) (i + 1) 0) ≡ false = apart_from_distinct nat_eq (keys_of xs) i (i + 1) 0 once (omega arith) lt in
          let differ : e.0 ≡ f.0 → ⊥ = λ same. absurd (true≢false (sym (eq-eqb (get_or (keys_of xs) i 0) (get_or (keys_of xs) (i + 1) 0) (at_e ∙ (same ∙ sym at_f))) ∙ apart)) in
          let below : ranked e.0 f.0 ≡ Less =
          less (ranked e.0 f.0) (ranked f.0 e.0) (ranked-total.antisymm e.0 f.0) (sorted i (0, 0) (omega arith) (omega (arith, lt, count)))
          (λ tie. differ (one_named e.0 f.0 e.1 f.1 one two tie))
          in
          subst (λ (n : ℕ). ranked n (get_or (keys_of xs) (i + 1) 0) ≡ Less) (sym at_e) (subst (λ (n : ℕ). ranked e.0 n ≡ Less) (sym at_f) below)

  -- selections that are the same are told by one list
  pub one_told : (s t : Choices) (xs ys : List (Text × Text)) → IsSelection packages s → IsSelection packages t → ((p : ℕ) → s p ≡ t p) → Tells packages s xs → Tells packages t ys → xs ≡ ys
  one_told s t xs ys selects also same left right =
      let first = rising left.chosen left.once (subst (IsSelection packages) (sym left.selects) selects) left.sorted in
      let second = rising right.chosen right.once (subst (IsSelection packages) (sym right.selects) also) right.sorted in
      let chosen : left.chosen ≡ right.chosen =
      same_list ranked-total left.chosen right.chosen first second
      (λ p. ap (λ (c : Choices). c p) left.selects ∙ (same p ∙ sym (ap (λ (c : Choices). c p) right.selects)))
      in
      left.told ∙ (ap (map (told packages)) chosen ∙ sym right.told)
