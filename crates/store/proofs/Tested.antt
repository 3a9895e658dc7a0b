-- The test of premises is true exactly where they stand.
use Rattle.std.proofs.Common.{◌≡◌, ◌∙◌, ◌<◌, ◌≢◌, inl, inr, ℕ, zero, suc, ◌&&◌, Bool, true, false, true≢false, List, [], ◌∷◌, length, get_or, refl, sym, ap, subst, arith, nat_eq}
use Rattle.std.proofs.lemmas.Bool.{and_from, and_parts, eq-eqb, eqb-true, eqb-false, false_from_ne_true, ne_eqb, not-true, not_from_false, or_cases, or_left, or_right}
use Rattle.std.proofs.lemmas.Slice.Eq.{bytes_eq-Decides}
use Rattle.std.specs.Prelude.{None, Option, Some}
use Rattle.std.specs.List.{list_all}
use Rattle.std.specs.Str.{bytes_eq}
use Rattle.versions.specs.Words.{Text}
use Rattle.terms.specs.Sets.{has}
use Rattle.registry.specs.Registry.{Packages, matching, needs_of, number_of}
use Rattle.derivations.specs.Facts.{HasNeed, Stands}
use Rattle.derivations.specs.Learning.{AllStand, CauseStands}
use Rattle.store.specs.Stored.{all_stand, cause_stands, has_need, is_number, stands}
use Rattle.derivations.specs.Lines.{Cause, Line, Premise}
use Rattle.derivations.specs.declared.facts.Cause.TheVariants as cause
use Rattle.registry.specs.Laws.{MatchingIsWhatMeets}

number_is : (o : Option ℕ) (n : ℕ) → is_number o n ≡ true → o ≡ Some n
number_is None n e = absurd (true≢false (sym e))
number_is (Some m) n e = ap (λ k. Some k) (eqb-true m n e)

need_found : (packages : Packages) (needs : List (Text × Text)) (target : ℕ) (need : Text) → has_need packages needs target need ≡ true → HasNeed packages needs target need
need_found packages [] target need e = absurd (true≢false (sym e))
need_found packages (d ∷ rest) target need e =
    elim (or_cases (is_number (number_of packages d.0) target && bytes_eq d.1 need) (has_need packages rest target need) e) [
      | inl here ↦
          let parts = and_parts (is_number (number_of packages d.0) target) (bytes_eq d.1 need) here in
          (d.0, number_is (number_of packages d.0) target parts.0, (0, omega arith, ap (λ (t : Text). (d.0, t)) ((bytes_eq-Decides d.1 need).0 parts.1)))
      | inr later ↦ let h = need_found packages rest target need later in (h.0, h.1, (suc h.2.0, omega (arith, h.2.1), h.2.2))
    ]

need_at : (packages : Packages) (needs : List (Text × Text)) (target : ℕ) (need name : Text) (k : ℕ) → number_of packages name ≡ Some target → k < length needs
    → get_or needs k (name, need) ≡ (name, need) → has_need packages needs target need ≡ true
need_at packages [] target need name k number lt at = absurd (omega arith)
need_at packages (d ∷ rest) target need name zero number lt at =
    or_left (is_number (number_of packages d.0) target && bytes_eq d.1 need) (has_need packages rest target need)
    (and_from (is_number (number_of packages d.0) target) (bytes_eq d.1 need)
    (ap (λ (x : Text × Text). is_number (number_of packages x.0) target) at ∙ ap (λ o. is_number o target) number ∙ eq-eqb target target refl)
    ((bytes_eq-Decides d.1 need).1 (ap (λ (x : Text × Text). x.1) at)))
need_at packages (d ∷ rest) target need name (suc k) number lt at =
    or_right (is_number (number_of packages d.0) target && bytes_eq d.1 need) (has_need packages rest target need)
    (need_at packages rest target need name k number (omega arith) at)

-- ---- each of a set

all_has : (f : ℕ → Bool) (xs : List ℕ) → list_all f xs ≡ true → (k : ℕ) → has xs k ≡ true → f k ≡ true
all_has f [] all k h = absurd (true≢false (sym h))
all_has f (x ∷ xs) all k h = let parts = and_parts (f x) (list_all f xs) all in elim (or_cases (nat_eq x k) (has xs k) h) [
  | inl here ↦ subst (λ j. f j ≡ true) (eqb-true x k here) parts.0
  | inr later ↦ all_has f xs parts.1 k later
]

has_all : (f : ℕ → Bool) (xs : List ℕ) → ((k : ℕ) → has xs k ≡ true → f k ≡ true) → list_all f xs ≡ true
has_all f [] each = refl
has_all f (x ∷ xs) each =
    and_from (f x) (list_all f xs) (each x (or_left (nat_eq x x) (has xs x) (eq-eqb x x refl)))
    (has_all f xs (λ k h. each k (or_right (nat_eq x k) (has xs k) h)))

some_length : (xs : List ℕ) → nat_eq (length xs) 0 ≡ false → xs ≢ []
some_length [] e = λ none. true≢false e
some_length (x ∷ xs) e = λ none. absurd (cc none)

length_some : (xs : List ℕ) → xs ≢ [] → nat_eq (length xs) 0 ≡ false
length_some [] some = absurd (some refl)
length_some (x ∷ xs) some = ne_eqb (length (x ∷ xs)) 0 (λ e. omega (arith, e))

-- ---- premises

stands_from : MatchingIsWhatMeets → (packages : Packages) (premise : Premise) → stands packages premise ≡ true → Stands packages premise
unfolding stands
stands_from matched packages premise t =
    let first = and_parts _ _ t in let second = and_parts _ _ first.1 in let third = and_parts _ _ second.1 in
    record {
      depends = record {
        different = λ same. eqb-false premise.package premise.target (not-true _ first.0) same;
        some = some_length premise.versions (not-true _ second.0);
        each = λ k h. need_found packages (needs_of packages premise.package k) premise.target premise.need
            (all_has (λ j. has_need packages (needs_of packages premise.package j) premise.target premise.need) premise.versions third.0 k h);
      };
      covers = λ k m. all_has (λ j. has premise.within j) (matching packages premise.target premise.need) third.1 k (matched packages premise.target premise.need k ∙ m);
    }

stands_to : MatchingIsWhatMeets → (packages : Packages) (premise : Premise) → Stands packages premise → stands packages premise ≡ true
unfolding stands
stands_to matched packages premise s =
    and_from _ _ (not_from_false _ (false_from_ne_true (nat_eq premise.package premise.target) (λ e. s.depends.different (eqb-true premise.package premise.target e))))
    (and_from _ _ (not_from_false _ (length_some premise.versions s.depends.some))
    (and_from _ _
    (has_all (λ j. has_need packages (needs_of packages premise.package j) premise.target premise.need) premise.versions
    (λ k h. let d = s.depends.each k h in need_at packages (needs_of packages premise.package k) premise.target premise.need d.0 d.2.0 d.1 d.2.1 d.2.2))
    (has_all (λ j. has premise.within j) (matching packages premise.target premise.need)
    (λ k h. s.covers k (sym (matched packages premise.target premise.need k) ∙ h)))))

cause_from : MatchingIsWhatMeets → (packages : Packages) (c : Cause) → cause_stands packages c ≡ true → CauseStands packages c
cause_from matched packages (cause.Line n) t = tt
cause_from matched packages (cause.Premise premise) t = stands_from matched packages premise t
cause_from matched packages (cause.Need i) t = tt
cause_from matched packages (cause.NotAllowed p versions) t = tt
cause_from matched packages cause.Root t = tt

cause_to : MatchingIsWhatMeets → (packages : Packages) (c : Cause) → CauseStands packages c → cause_stands packages c ≡ true
cause_to matched packages (cause.Line n) s = refl
cause_to matched packages (cause.Premise premise) s = stands_to matched packages premise s
cause_to matched packages (cause.Need i) s = refl
cause_to matched packages (cause.NotAllowed p versions) s = refl
cause_to matched packages cause.Root s = refl

pub all_from : MatchingIsWhatMeets → (packages : Packages) (lines : List Line) → all_stand packages lines ≡ true → AllStand packages lines
all_from matched packages [] t = tt
all_from matched packages (line ∷ rest) t =
    let parts = and_parts (cause_stands packages line.causes.0 && cause_stands packages line.causes.1) (all_stand packages rest) t in
    let both = and_parts (cause_stands packages line.causes.0) (cause_stands packages line.causes.1) parts.0 in
    (cause_from matched packages line.causes.0 both.0, cause_from matched packages line.causes.1 both.1, all_from matched packages rest parts.1)

pub all_to : MatchingIsWhatMeets → (packages : Packages) (lines : List Line) → AllStand packages lines → all_stand packages lines ≡ true
all_to matched packages [] s = refl
all_to matched packages (line ∷ rest) s =
    and_from (cause_stands packages line.causes.0 && cause_stands packages line.causes.1) (all_stand packages rest)
    (and_from (cause_stands packages line.causes.0) (cause_stands packages line.causes.1) (cause_to matched packages line.causes.0 s.0) (cause_to matched packages line.causes.1 s.1))
    (all_to matched packages rest s.2)
