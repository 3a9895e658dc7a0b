-- Ranges of numbers, and what they have to do with comparators.
use Rattle.std.proofs.Common.{◌≡◌, ◌∙◌, ◌<◌, ◌≤◌, ◌+◌, ℕ, zero, suc, [], ◌∷◌, List, Option, Some, None, Bool, inl, inr, arith, refl, sym, ap, true, false, true≢false, get_or, length, take}
use Rattle.std.proofs.lemmas.Bool.{cases_lt}
use Rattle.std.proofs.lemmas.List.{take_all, take_more}
use Rattle.std.proofs.lemmas.List.Folds.{list_all-append}
use Rattle.std.proofs.Math.Bool.{and-false, and-true}
use Rattle.std.proofs.lemmas.Grind.{common_steps}
use Rattle.std.specs.Prelude.{if◌then◌else◌, ◌&&◌, ◌||◌, ◌==◌, not, nat_lt, Ok, map}
use Rattle.std.specs.List.{list_all, list_any}
use Rattle.semver.proofs.CargoRules as cargo
use Rattle.semver.proofs.Lists.{any-more}
use Rattle.semver.specs.Eval.{matches_caret, matches_exact, matches_greater, matches_less, matches_op, matches_tilde, pre_is_compatible}
use Rattle.semver.specs.Identifiers.{comparator_view, pre_text}
use Rattle.semver.specs.Parse.{req_of}
use Rattle.semver.specs.declared.Comparator.{Comparator}
use Rattle.semver.specs.declared.Op.{Op}
use Rattle.semver.specs.declared.Op.TheVariants as op
use Rattle.semver.specs.declared.Version.{Version}
use Rattle.versions.proofs.ReadingLemmas.{meets-read}
use Rattle.semver.specs.Rules.{in_range}
use Rattle.semver.specs.Rules as rules
use Rattle.versions.specs.Bounds.{beyond, beyond_numbers, caret_end, first_of, has, is_before, is_cut_short, is_in_order, is_within, next_minor, next_patch, numbers_of, range_of, zero_beyond, IsBounded, Reach}
use Rattle.versions.specs.Bounds as spec
use Rattle.versions.specs.Words.{Text}
use Rattle.versions.specs.declared.bounds.Numbers.{Numbers}
use Rattle.versions.specs.declared.bounds.Range.{Range}

-- the parts of a test in both ranges
regroup : (x y e f : Bool) → (not (x || y) && (e && f)) ≡ ((not x && e) && (not y && f))
regroup true y e f = refl
regroup false true e f = sym (and-false e)
regroup false false e f = refl

-- what is in both ranges
pub both : (r a b : Range) → ((n : Numbers) → is_before n r.lowest ≡ (is_before n a.lowest || is_before n b.lowest))
    → ((n : Numbers) → is_within n r.end ≡ (is_within n a.end && is_within n b.end))
    → (n : Numbers) → has r n ≡ (has a n && has b n)
both r a b low end n =
    ap (λ x. not x && is_within n r.end) (low n)
    ∙ ap (λ x. not (is_before n a.lowest || is_before n b.lowest) && x) (end n)
    ∙ regroup (is_before n a.lowest) (is_before n b.lowest) (is_within n a.end) (is_within n b.end)

-- ---- the ranges of comparators

none_before : (n : Numbers) → is_before n spec.zero ≡ false
none_before n = grind arith

-- a range from the first numbers on
from_zero : (n : Numbers) (end : Option Numbers) → has (record { lowest = spec.zero; end = end }) n ≡ is_within n end
from_zero n end = ap (λ b. not b && is_within n end) (none_before n)

-- a range without an end
endless : (n lowest : Numbers) → has (record { lowest = lowest; end = None }) n ≡ not (is_before n lowest)
endless n lowest = and-true (not (is_before n lowest))

nowhere : (b : Bool) → (not b && b) ≡ false
nowhere true = refl
nowhere false = refl

filled : (n : ℕ) → (suc n == 0) ≡ false
filled n = grind arith

above_zero : (n : ℕ) → 0 < n → nat_lt 0 n ≡ true
above_zero n h = grind arith

-- the test holds of one place more where it did of those before and does of it
all-next : {X : Type 0} (f : X → Bool) (xs : List X) (i : ℕ) (x : X) → i < length xs → x ≡ get_or xs i x → list_all f (take (i + 1) xs) ≡ (list_all f (take i xs) && f x)
all-next f xs i x lt at = rw (take_more xs i x lt, list_all-append, ← at) (ap (λ b. list_all f (take i xs) && b) (and-true (f x)))

-- a release is beyond its pre-releases
beyond_opened : (c : Comparator) (b : ℕ) (rest : List ℕ) → pre_text c.pre ≡ b ∷ rest → beyond c ≡ first_of c
beyond_opened c b rest hc =
    ap (λ e. if e then beyond_numbers c.major c.minor c.patch else first_of c) (ap (λ (pre : List ℕ). length pre == 0) hc ∙ filled (length rest))

zero_minor : (m p : ℕ) → zero_beyond (Some (suc m)) (Some p) ≡ next_minor 0 (suc m)
zero_minor m p = ap (λ e. if e then next_patch 0 0 p else next_minor 0 (suc m)) (filled m)

-- how many numbers a comparator that is in order has, and whether a pre-release
data Shape : Comparator → Type 0 where
  three : {c : Comparator} (m p : ℕ) → c.minor ≡ Some m → c.patch ≡ Some p → pre_text c.pre ≡ [] → Shape c
  opened : {c : Comparator} (m p b : ℕ) (rest : List ℕ) → c.minor ≡ Some m → c.patch ≡ Some p → pre_text c.pre ≡ b ∷ rest → Shape c
  two : {c : Comparator} (m : ℕ) → c.minor ≡ Some m → c.patch ≡ None → pre_text c.pre ≡ [] → Shape c
  one : {c : Comparator} → c.minor ≡ None → c.patch ≡ None → pre_text c.pre ≡ [] → Shape c

shape_of : (c : Comparator) (minor patch : Option ℕ) (pre : List ℕ) → c.minor ≡ minor → c.patch ≡ patch → pre_text c.pre ≡ pre
    → is_cut_short minor patch (length pre == 0) ≡ true → Shape c
shape_of c (Some m) (Some p) [] hm hp hc o = three m p hm hp hc
shape_of c (Some m) (Some p) (b ∷ rest) hm hp hc o = opened m p b rest hm hp hc
shape_of c (Some m) None [] hm hp hc o = two m hm hp hc
shape_of c (Some m) None (b ∷ rest) hm hp hc o = absurd (true≢false (sym o ∙ filled (length rest)))
shape_of c None None [] hm hp hc o = one hm hp hc
shape_of c None None (b ∷ rest) hm hp hc o = absurd (true≢false (sym o ∙ filled (length rest)))
shape_of c None (Some p) pre hm hp hc o = absurd (true≢false (sym o))

module _ (c : Comparator) (v : Version) (plain : pre_text v.pre ≡ []) where
  not_same : (b : ℕ) (rest : List ℕ) → pre_text c.pre ≡ b ∷ rest → matches_exact c v ≡ false
  not_same b rest hc = rw (plain, hc) (grind (arith, common_steps))

  exact-range : Shape c → has (range_of op.Exact c) (numbers_of v) ≡ matches_exact c v
  exact-range (three m p hm hp hc) =
      let is : has (range_of op.Exact c) (numbers_of v) ≡ in_range c.major m p c.major m (p + 1) v = rw (hm, hp, hc) refl in
      is ∙ sym (cargo.exact-three_numbers c v m p hm hp hc plain)
  exact-range (opened m p b rest hm hp hc) =
      ap (λ e. not (is_before (numbers_of v) (first_of c)) && is_before (numbers_of v) e) (beyond_opened c b rest hc)
      ∙ nowhere (is_before (numbers_of v) (first_of c)) ∙ sym (not_same b rest hc)
  exact-range (two m hm hp hc) =
      let is : has (range_of op.Exact c) (numbers_of v) ≡ in_range c.major m 0 c.major (m + 1) 0 v = rw (hm, hp, hc) refl in
      is ∙ sym (cargo.wildcard-two_numbers c v m hm hp hc plain)
  exact-range (one hm hp hc) =
      let is : has (range_of op.Exact c) (numbers_of v) ≡ in_range c.major 0 0 (c.major + 1) 0 0 v = rw (hm, hp, hc) refl in
      is ∙ sym (cargo.wildcard-one_number c v hm hp hc plain)

  greater_opened : (m p b : ℕ) (rest : List ℕ) → c.minor ≡ Some m → c.patch ≡ Some p → pre_text c.pre ≡ b ∷ rest → matches_greater c v ≡ not (rules.is_before c.major m p v)
  greater_opened m p b rest hm hp hc = rw (hm, hp, hc, plain) (grind (arith, common_steps))

  greater-range : Shape c → has (range_of op.Greater c) (numbers_of v) ≡ matches_greater c v
  greater-range (three m p hm hp hc) =
      let is : not (is_before (numbers_of v) (beyond c)) ≡ not (rules.is_before c.major m (p + 1) v) = rw (hm, hp, hc) refl in
      endless (numbers_of v) (beyond c) ∙ is ∙ sym (cargo.greater-three_numbers c v m p hm hp hc plain)
  greater-range (opened m p b rest hm hp hc) =
      let is : not (is_before (numbers_of v) (first_of c)) ≡ not (rules.is_before c.major m p v) = rw (hm, hp) refl in
      endless (numbers_of v) (beyond c) ∙ ap (λ e. not (is_before (numbers_of v) e)) (beyond_opened c b rest hc) ∙ is ∙ sym (greater_opened m p b rest hm hp hc)
  greater-range (two m hm hp hc) =
      let is : not (is_before (numbers_of v) (beyond c)) ≡ not (rules.is_before c.major (m + 1) 0 v) = rw (hm, hp, hc) refl in
      endless (numbers_of v) (beyond c) ∙ is ∙ sym (cargo.greater-two_numbers c v m hm hp)
  greater-range (one hm hp hc) =
      let is : not (is_before (numbers_of v) (beyond c)) ≡ not (rules.is_before (c.major + 1) 0 0 v) = rw (hm, hp, hc) refl in
      endless (numbers_of v) (beyond c) ∙ is ∙ sym (cargo.greater-one_number c v hm)

  from-range : Shape c → has (range_of op.GreaterEq c) (numbers_of v) ≡ (matches_exact c v || matches_greater c v)
  from-range (three m p hm hp hc) =
      let is : not (is_before (numbers_of v) (first_of c)) ≡ not (rules.is_before c.major m p v) = rw (hm, hp) refl in
      endless (numbers_of v) (first_of c) ∙ is ∙ sym (cargo.greater_eq-three_numbers c v m p hm hp hc plain)
  from-range (opened m p b rest hm hp hc) =
      let is : not (is_before (numbers_of v) (first_of c)) ≡ not (rules.is_before c.major m p v) = rw (hm, hp) refl in
      endless (numbers_of v) (first_of c) ∙ is ∙ sym (ap (λ x. x || matches_greater c v) (not_same b rest hc) ∙ greater_opened m p b rest hm hp hc)
  from-range (two m hm hp hc) =
      let is : not (is_before (numbers_of v) (first_of c)) ≡ not (rules.is_before c.major m 0 v) = rw (hm, hp) refl in
      endless (numbers_of v) (first_of c) ∙ is ∙ sym (cargo.greater_eq-two_numbers c v m hm hp hc plain)
  from-range (one hm hp hc) =
      let is : not (is_before (numbers_of v) (first_of c)) ≡ not (rules.is_before c.major 0 0 v) = rw (hm, hp) refl in
      endless (numbers_of v) (first_of c) ∙ is ∙ sym (cargo.greater_eq-one_number c v hm hp hc plain)

  less_opened : (m p b : ℕ) (rest : List ℕ) → c.minor ≡ Some m → c.patch ≡ Some p → pre_text c.pre ≡ b ∷ rest → matches_less c v ≡ rules.is_before c.major m p v
  less_opened m p b rest hm hp hc = rw (hm, hp, hc, plain) (grind (arith, common_steps))

  less-range : Shape c → has (range_of op.Less c) (numbers_of v) ≡ matches_less c v
  less-range (three m p hm hp hc) =
      let is : is_before (numbers_of v) (first_of c) ≡ rules.is_before c.major m p v = rw (hm, hp) refl in
      from_zero (numbers_of v) (Some (first_of c)) ∙ is ∙ sym (cargo.less-three_numbers c v m p hm hp hc plain)
  less-range (opened m p b rest hm hp hc) =
      let is : is_before (numbers_of v) (first_of c) ≡ rules.is_before c.major m p v = rw (hm, hp) refl in
      from_zero (numbers_of v) (Some (first_of c)) ∙ is ∙ sym (less_opened m p b rest hm hp hc)
  less-range (two m hm hp hc) =
      let is : is_before (numbers_of v) (first_of c) ≡ rules.is_before c.major m 0 v = rw (hm, hp) refl in
      from_zero (numbers_of v) (Some (first_of c)) ∙ is ∙ sym (cargo.less-two_numbers c v m hm hp)
  less-range (one hm hp hc) =
      let is : is_before (numbers_of v) (first_of c) ≡ rules.is_before c.major 0 0 v = rw (hm, hp) refl in
      from_zero (numbers_of v) (Some (first_of c)) ∙ is ∙ sym (cargo.less-one_number c v hm)

  to-range : Shape c → has (range_of op.LessEq c) (numbers_of v) ≡ (matches_exact c v || matches_less c v)
  to-range (three m p hm hp hc) =
      let is : is_before (numbers_of v) (beyond c) ≡ rules.is_before c.major m (p + 1) v = rw (hm, hp, hc) refl in
      from_zero (numbers_of v) (Some (beyond c)) ∙ is ∙ sym (cargo.less_eq-three_numbers c v m p hm hp hc plain)
  to-range (opened m p b rest hm hp hc) =
      let is : is_before (numbers_of v) (first_of c) ≡ rules.is_before c.major m p v = rw (hm, hp) refl in
      from_zero (numbers_of v) (Some (beyond c)) ∙ ap (is_before (numbers_of v)) (beyond_opened c b rest hc) ∙ is ∙ sym (ap (λ x. x || matches_less c v) (not_same b rest hc) ∙ less_opened m p b rest hm hp hc)
  to-range (two m hm hp hc) =
      let is : is_before (numbers_of v) (beyond c) ≡ rules.is_before c.major (m + 1) 0 v = rw (hm, hp, hc) refl in
      from_zero (numbers_of v) (Some (beyond c)) ∙ is ∙ sym (cargo.less_eq-two_numbers c v m hm hp hc plain)
  to-range (one hm hp hc) =
      let is : is_before (numbers_of v) (beyond c) ≡ rules.is_before (c.major + 1) 0 0 v = rw (hm, hp, hc) refl in
      from_zero (numbers_of v) (Some (beyond c)) ∙ is ∙ sym (cargo.less_eq-one_number c v hm hp hc plain)

  tilde_opened : (m p b : ℕ) (rest : List ℕ) → c.minor ≡ Some m → c.patch ≡ Some p → pre_text c.pre ≡ b ∷ rest → matches_tilde c v ≡ in_range c.major m p c.major (m + 1) 0 v
  tilde_opened m p b rest hm hp hc = rw (hm, hp, hc, plain) (grind (arith, common_steps))

  tilde-range : Shape c → has (range_of op.Tilde c) (numbers_of v) ≡ matches_tilde c v
  tilde-range (three m p hm hp hc) =
      let is : has (range_of op.Tilde c) (numbers_of v) ≡ in_range c.major m p c.major (m + 1) 0 v = rw (hm, hp) refl in
      is ∙ sym (cargo.tilde-three_numbers c v m p hm hp hc plain)
  tilde-range (opened m p b rest hm hp hc) =
      let is : has (range_of op.Tilde c) (numbers_of v) ≡ in_range c.major m p c.major (m + 1) 0 v = rw (hm, hp) refl in
      is ∙ sym (tilde_opened m p b rest hm hp hc)
  tilde-range (two m hm hp hc) =
      let is : has (range_of op.Tilde c) (numbers_of v) ≡ in_range c.major m 0 c.major (m + 1) 0 v = rw (hm, hp) refl in
      is ∙ sym (cargo.tilde-two_numbers c v m hm hp hc plain)
  tilde-range (one hm hp hc) =
      let is : has (range_of op.Tilde c) (numbers_of v) ≡ in_range c.major 0 0 (c.major + 1) 0 0 v = rw (hm, hp) refl in
      is ∙ sym (cargo.tilde-one_number c v hm hp hc plain)

  caret_major : (m p b : ℕ) (rest : List ℕ) → c.minor ≡ Some m → c.patch ≡ Some p → pre_text c.pre ≡ b ∷ rest → 0 < c.major
      → matches_caret c v ≡ in_range c.major m p (c.major + 1) 0 0 v
  caret_major m p b rest hm hp hc big = rw (hm, hp, hc, plain) (grind (arith, common_steps))

  caret_minor : (m p b : ℕ) (rest : List ℕ) → c.major ≡ 0 → c.minor ≡ Some m → c.patch ≡ Some p → pre_text c.pre ≡ b ∷ rest → 0 < m
      → matches_caret c v ≡ in_range 0 m p 0 (m + 1) 0 v
  caret_minor m p b rest h0 hm hp hc big = rw (h0, hm, hp, hc, plain) (grind (arith, common_steps))

  caret_patch : (p b : ℕ) (rest : List ℕ) → c.major ≡ 0 → c.minor ≡ Some 0 → c.patch ≡ Some p → pre_text c.pre ≡ b ∷ rest
      → matches_caret c v ≡ in_range 0 0 p 0 0 (p + 1) v
  caret_patch p b rest h0 hm hp hc = rw (h0, hm, hp, hc, plain) (grind (arith, common_steps))

  caret-big : 0 < c.major → Shape c → has (range_of op.Caret c) (numbers_of v) ≡ matches_caret c v
  caret-big big (three m p hm hp hc) =
      let is : has (range_of op.Caret c) (numbers_of v) ≡ in_range c.major m p (c.major + 1) 0 0 v = rw (above_zero c.major big, hm, hp) refl in
      is ∙ sym (cargo.caret-major c v m p hm hp big hc plain)
  caret-big big (opened m p b rest hm hp hc) =
      let is : has (range_of op.Caret c) (numbers_of v) ≡ in_range c.major m p (c.major + 1) 0 0 v = rw (above_zero c.major big, hm, hp) refl in
      is ∙ sym (caret_major m p b rest hm hp hc big)
  caret-big big (two m hm hp hc) =
      let is : has (range_of op.Caret c) (numbers_of v) ≡ in_range c.major m 0 (c.major + 1) 0 0 v = rw (above_zero c.major big, hm, hp) refl in
      is ∙ sym (cargo.caret-two_numbers c v m hm hp big)
  caret-big big (one hm hp hc) =
      let is : has (range_of op.Caret c) (numbers_of v) ≡ in_range c.major 0 0 (c.major + 1) 0 0 v = rw (above_zero c.major big, hm, hp) refl in
      is ∙ sym (cargo.caret-one_number c v hm)

  to_minor : (m p : ℕ) → c.major ≡ 0 → c.minor ≡ Some (suc m) → c.patch ≡ Some p → has (range_of op.Caret c) (numbers_of v) ≡ in_range 0 (suc m) p 0 (suc m + 1) 0 v
  to_minor m p h0 hm hp =
      let end : caret_end c ≡ zero_beyond (Some (suc m)) (Some p) = rw (h0, hm, hp) refl in
      let is : has (record { lowest = first_of c; end = Some (next_minor 0 (suc m)) }) (numbers_of v) ≡ in_range 0 (suc m) p 0 (suc m + 1) 0 v = rw (h0, hm, hp) refl in
      ap (λ (e : Numbers). has (record { lowest = first_of c; end = Some e }) (numbers_of v)) (end ∙ zero_minor m p) ∙ is

  caret-zero : c.major ≡ 0 → Shape c → has (range_of op.Caret c) (numbers_of v) ≡ matches_caret c v
  caret-zero h0 (three zero p hm hp hc) =
      let is : has (range_of op.Caret c) (numbers_of v) ≡ in_range 0 0 p 0 0 (p + 1) v = rw (h0, hm, hp) refl in
      is ∙ sym (cargo.caret-patch c v 0 p h0 hm hp hc plain)
  caret-zero h0 (three (suc m) p hm hp hc) =
      to_minor m p h0 hm hp ∙ sym (cargo.caret-minor c v (suc m) p h0 hm hp (omega arith) hc plain)
  caret-zero h0 (opened zero p b rest hm hp hc) =
      let is : has (range_of op.Caret c) (numbers_of v) ≡ in_range 0 0 p 0 0 (p + 1) v = rw (h0, hm, hp) refl in
      is ∙ sym (caret_patch p b rest h0 hm hp hc)
  caret-zero h0 (opened (suc m) p b rest hm hp hc) =
      to_minor m p h0 hm hp ∙ sym (caret_minor (suc m) p b rest h0 hm hp hc (omega arith))
  caret-zero h0 (two m hm hp hc) =
      let is : has (range_of op.Caret c) (numbers_of v) ≡ in_range 0 m 0 0 (m + 1) 0 v = rw (h0, hm, hp) refl in
      is ∙ sym (cargo.caret-zero_two_numbers c v m h0 hm hp)
  caret-zero h0 (one hm hp hc) =
      let is : has (range_of op.Caret c) (numbers_of v) ≡ in_range c.major 0 0 (c.major + 1) 0 0 v = rw (h0, hm, hp) refl in
      is ∙ sym (cargo.caret-one_number c v hm)

  caret-range : Shape c → has (range_of op.Caret c) (numbers_of v) ≡ matches_caret c v
  caret-range s = elim (cases_lt 0 c.major) [
    | inl big ↦ caret-big big s
    | inr none ↦ caret-zero (omega arith) s
  ]

  op-range : (o : Op) → Shape c → has (range_of o c) (numbers_of v) ≡ matches_op o c v
  op-range op.Exact s = exact-range s
  op-range op.Wildcard s = exact-range s
  op-range op.Greater s = greater-range s
  op-range op.GreaterEq s = from-range s
  op-range op.Less s = less-range s
  op-range op.LessEq s = to-range s
  op-range op.Tilde s = tilde-range s
  op-range op.Caret s = caret-range s

-- the numbers in a comparator's range are those of the versions that match it
pub range-matches : (c : Comparator) → is_in_order c ≡ true → (v : Version) → pre_text v.pre ≡ []
    → has (range_of c.op c) (numbers_of v) ≡ matches_op c.op c v
range-matches c o v plain = op-range c v plain c.op (shape_of c c.minor c.patch (pre_text c.pre) refl refl refl o)

-- ---- the bounds of a requirement

-- what is known of the comparators so far
pub record IsBoundedBy (cs : List Comparator) (bounds : Reach) : Type 0 where
  pub range : bounds.is_vague ≡ false → (v : Version) → pre_text v.pre ≡ [] → has bounds.range (numbers_of v) ≡ list_all (λ c. matches_op c.op c v) cs
  pub closed : bounds.opens ≡ false → (v : Version) → list_any (λ c. pre_is_compatible c v) cs ≡ false

-- without a pre-release no comparator admits one
closed_one : (c : Comparator) (v : Version) → length (pre_text c.pre) ≡ 0 → pre_is_compatible c v ≡ false
closed_one c v none = grind (arith, common_steps)

-- one comparator more
pub bounded-more : (cs : List Comparator) (i : ℕ) (c : Comparator) (old new : Reach) → i < length cs → c ≡ get_or cs i c
    → (new.is_vague ≡ false → (old.is_vague ≡ false) × ((v : Version) → pre_text v.pre ≡ [] → has new.range (numbers_of v) ≡ (has old.range (numbers_of v) && matches_op c.op c v)))
    → (new.opens ≡ false → (old.opens ≡ false) × (length (pre_text c.pre) ≡ 0))
    → IsBoundedBy (take i cs) old → IsBoundedBy (take (i + 1) cs) new
bounded-more cs i c old new lt at range opens so_far = record {
  range = λ h v plain.
      (range h).1 v plain
      ∙ ap (λ b. b && matches_op c.op c v) (so_far.range (range h).0 v plain)
      ∙ sym (all-next (λ k. matches_op k.op k v) cs i c lt at);
  closed = λ h v. any-more (λ k. pre_is_compatible k v) cs i c lt at (closed_one c v (opens h).1) (so_far.closed (opens h).0 v);
}

-- all of them
pub bounded : (need : Text) (cs : List Comparator) (i : ℕ) (bounds : Reach) → req_of need ≡ Ok (map comparator_view cs) → length cs ≤ i
    → IsBoundedBy (take i cs) bounds → IsBounded need bounds
bounded need cs i bounds read all so_far =
    let whole = rw (take_all i cs all) at so_far in
    record {
      range = λ h version v parts plain.
          whole.range h v plain
          ∙ sym (ap (λ (pre : List ℕ). list_all (λ c. matches_op c.op c v) cs && ((length pre == 0) || list_any (λ c. pre_is_compatible c v) cs)) plain ∙ and-true (list_all (λ c. matches_op c.op c v) cs))
          ∙ meets-read need version cs v read parts;
      closed = λ h version v parts some.
          sym (
          ap (λ b. list_all (λ c. matches_op c.op c v) cs && (b || list_any (λ c. pre_is_compatible c v) cs)) some
          ∙ ap (λ b. list_all (λ c. matches_op c.op c v) cs && b) (whole.closed h v)
          ∙ and-false (list_all (λ c. matches_op c.op c v) cs)
          )
          ∙ meets-read need version cs v read parts;
    }
