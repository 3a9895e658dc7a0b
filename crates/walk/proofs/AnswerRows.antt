-- A worked request: its answer, computed from the definitions, with a lock and a version that can't be had; and a request that has no selection.
use Rattle.std.proofs.Common.{◌≡◌, ◌<◌, ◌≤◌, ◌+◌, ◌∙◌, ℕ, zero, suc, List, [], ◌∷◌, Contains, get_or, refl, sym, ap, subst, arith, codes, true, false, true≢false}
use Rattle.std.proofs.lemmas.List.Sorted.{IsPermutation-append_comm}
use Rattle.std.proofs.lemmas.Option.{none-some, same_Some}
use Rattle.std.specs.List.{IsDistinct}
use Rattle.std.specs.Ordering.{is_lt}
use Rattle.std.specs.Prelude.{Some, slice_get}
use Rattle.versions.specs.OnLiterals.{semver_on_literals}
use Rattle.versions.specs.Words.{Text, meets, parts_of_text, precedence, same_precedence}
use Rattle.registry.specs.Laws.{AllowedIsPublished}
use Rattle.registry.specs.Registry.{Packages, Publication, meets_at, number_of, package_at, publication_at}
use Rattle.registry.specs.Requests.{Wanted, is_allowed}
use Rattle.registry.specs.Selections.{Choices, IsMet, Meets}
use Rattle.walk.specs.Answer.{IsAnswer, NoSelection, Selected, Tells}
use Rattle.walk.specs.Choosing.{choice_of}
use Rattle.walk.specs.Names.{by_name}
use Rattle.walk.specs.Newest.{AreBest, IsBest}
use Rattle.walk.specs.Walks.{AreAllChecked}
use Rattle.walk.proofs.Bests.{best_none, best_push}
use Rattle.walk.proofs.Checked.{checked_newest}
use Rattle.walk.proofs.Fronts.{same_moved}
use Rattle.walk.proofs.Lists.{choice-entry, contains_at}
use Rattle.walk.proofs.NewestExists.{not_preferred}

abbrev version : Text → List (Text × Text) → Publication
version text needs = record { version = text; needs = needs; yanked = false }

-- package 1 is b: 1.0.0 depends on any a, and 2.0.0 on an a that is not published; package 2 is a
unfoldable pub packages : Packages
packages =
    (record { name = codes "b"; versions = version (codes "1.0.0") ((codes "a", codes "*") ∷ []) ∷ version (codes "2.0.0") ((codes "a", codes "^2") ∷ []) ∷ [] })
    ∷ (record { name = codes "a"; versions = version (codes "1.0.0") [] ∷ version (codes "1.1.0") [] ∷ [] })
    ∷ []

-- b is asked for, and the lock names the lower a
abbrev wanted : Text → Wanted
wanted need = record { needs = (codes "b", need) ∷ []; lock = (codes "a", codes "1.0.0") ∷ [] }

abbrev any : Wanted
any = wanted (codes "*")

abbrev found : List (ℕ × ℕ)
found = (1, 0) ∷ (2, 0) ∷ []

-- ---- what is among a list

of_line : (line : Text × Text) (P : Text × Text → Type 0) → P line → (name need : Text) → Contains (line ∷ []) (name, need) → P (name, need)
of_line line P here name need among = let at = contains_at (line ∷ []) (name, need) among in by at.0 at.1
  where
    by : (i : ℕ) → slice_get (line ∷ []) i ≡ Some (name, need) → P (name, need)
    by zero at = subst P (same_Some line (name, need) at) here
    by (suc i) at = absurd (none-some (name, need) at)

of_found : (P : ℕ → ℕ → Type 0) → P 1 0 → P 2 0 → (p k : ℕ) → choice_of found p ≡ Some k → P p k
of_found P one two p k chosen = let at = choice-entry found p k chosen in by at.0 at.1
  where
    by : (i : ℕ) → slice_get found i ≡ Some (p, k) → P p k
    by zero at = subst (λ (e : ℕ × ℕ). P e.0 e.1) (same_Some (1, 0) (p, k) at) one
    by (suc zero) at = subst (λ (e : ℕ × ℕ). P e.0 e.1) (same_Some (2, 0) (p, k) at) two
    by (suc (suc i)) at = absurd (none-some (p, k) at)

-- ---- b 2.0.0 can't be had

unmet : (k : ℕ) → meets_at packages 2 k (codes "^2") ≡ true → ⊥
unfolding semver_on_literals packages package_at publication_at meets
unmet zero e = true≢false (sym e)
unmet (suc zero) e = true≢false (sym e)
unmet (suc (suc k)) e = true≢false (sym e)

out : (t : Choices) → IsMet packages t (codes "a") (codes "^2") → ⊥
unfolding packages number_of
out t m = unmet m.ordinal (subst (λ q. meets_at packages q m.ordinal (codes "^2") ≡ true) (same_Some m.target 2 (sym m.numbered)) m.meeting)

no_second : (need : Text) (t : Choices) → Meets packages (wanted need) t → t 1 ≡ Some 1 → ⊥
unfolding packages package_at publication_at
no_second need t meets chosen = out t (meets.closed 1 1 (codes "a") (codes "^2") chosen (0, omega arith, refl))

-- ---- the answer

b_best : IsBest packages any [] 1 0
unfolding semver_on_literals packages package_at publication_at same_precedence precedence parts_of_text
b_best zero a = absurd (not_preferred packages any 1 0 0 _ _ _ refl refl refl refl a)
b_best (suc zero) a = λ t meets has. no_second (codes "*") t meets
b_best (suc (suc j)) a = absurd (none-some a.one a.first)

a_best : IsBest packages any ((1, 0) ∷ []) 2 0
unfolding semver_on_literals packages package_at publication_at same_precedence precedence parts_of_text
a_best zero a = absurd (not_preferred packages any 2 0 0 _ _ _ refl refl refl refl a)
a_best (suc zero) a = absurd (not_preferred packages any 2 1 0 _ _ _ refl refl refl refl a)
a_best (suc (suc j)) a = absurd (none-some a.one a.first)

both_best : AreBest packages any found
unfolding packages number_of package_at publication_at
both_best = best_push packages any ((1, 0) ∷ []) 2 0 (best_push packages any [] 1 0 (best_none packages any [] refl) refl b_best) refl a_best

checked : AreAllChecked packages any (choice_of found)
unfolding semver_on_literals packages number_of package_at publication_at meets is_allowed
checked = record {
  needs = of_line (codes "b", codes "*") (λ line. IsMet packages (choice_of found) line.0 line.1) (record { target = 1; ordinal = 0; numbered = refl; selected = refl; meeting = refl });
  checked =
      of_found _
      (record {
        allowed = refl;
        met = of_line (codes "a", codes "*") (λ line. IsMet packages (choice_of found) line.0 line.1) (record { target = 2; ordinal = 0; numbered = refl; selected = refl; meeting = refl });
      })
      (record { allowed = refl; met = λ name need among. absurd (omega (arith, among.1)) });
}

tells : Tells packages (choice_of found) ((codes "a", codes "1.0.0") ∷ (codes "b", codes "1.0.0") ∷ [])
unfolding IsDistinct packages package_at publication_at
tells = record {
  chosen = (2, 0) ∷ (1, 0) ∷ [];
  selects = same_moved found ((2, 0) ∷ (1, 0) ∷ []) (IsPermutation-append_comm ((1, 0) ∷ []) ((2, 0) ∷ [])) ((refl, tt), (tt, tt));
  once = ((refl, tt), (tt, tt));
  sorted = in_order;
  told = refl;
}
  where
    in_order : (k : ℕ) (d : ℕ × ℕ) → 0 ≤ k → k + 1 < 2 → is_lt (by_name packages (get_or ((2, 0) ∷ (1, 0) ∷ []) (k + 1) d) (get_or ((2, 0) ∷ (1, 0) ∷ []) k d)) ≡ false
    in_order zero d low high = refl
    in_order (suc k) d low high = absurd (omega (arith, high))

answer : AllowedIsPublished → IsAnswer packages any (Selected ((codes "a", codes "1.0.0") ∷ (codes "b", codes "1.0.0") ∷ []))
answer published = record { selection = choice_of found; newest = checked_newest packages any found both_best published checked; tells = tells }

-- ---- b from 2.0.0 on is asked for

second_only : (k : ℕ) → meets_at packages 1 k (codes "^2") ≡ true → k ≡ 1
unfolding semver_on_literals packages package_at publication_at meets
second_only zero e = absurd (true≢false (sym e))
second_only (suc zero) e = refl
second_only (suc (suc k)) e = absurd (true≢false (sym e))

none : IsAnswer packages (wanted (codes "^2")) NoSelection
unfolding packages number_of
none s meets =
    let m = meets.needs (codes "b") (codes "^2") (0, omega arith, refl) in
    let first : m.target ≡ 1 = same_Some m.target 1 (sym m.numbered) in
    let second : m.ordinal ≡ 1 = second_only m.ordinal (subst (λ q. meets_at packages q m.ordinal (codes "^2") ≡ true) first m.meeting) in
    no_second (codes "^2") s meets (ap s (sym first) ∙ m.selected ∙ ap Some second)
