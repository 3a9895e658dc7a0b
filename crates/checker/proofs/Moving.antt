-- Lines that grow by what follows from them, and lines that are moved to other places.
use Rattle.std.proofs.Common.{◌≡◌, ◌<◌, ◌≤◌, ◌∙◌, inl, inr, ℕ, zero, suc, List, [], ◌∷◌, ◌++◌, ◌||◌, true, drop, length, get_or, refl, sym, ap, subst, arith, length-append}
use Rattle.std.proofs.lemmas.Bool.{cases_eq}
use Rattle.std.proofs.lemmas.List.{get_or_append_left, get_or_push, length-drop}
use Rattle.std.proofs.lemmas.Option.{none-some, same_Some, slice_get_read, slice_get_within}
use Rattle.std.specs.Prelude.{Some, slice_get}
use Rattle.terms.specs.Incompats.{Follows, has_term}
use Rattle.derivations.specs.Facts.{Terms}
use Rattle.derivations.specs.Derivations.{IsEnd}
use Rattle.derivations.specs.CausedIncompatibilities.{AreOrdered, FollowsFrom, IsBefore, IsResolved, StandsBy}
use Rattle.checker.specs.Cutting.{IsEndLine, IsResolvedAt}
use Rattle.checker.specs.Pairing.{AreMoved, FollowsAs, Grows, IsMovedTo, IsReasonFor, IsSameSearch}
use Rattle.checker.specs.Taking.{said_at, said_by}
use Rattle.derivations.specs.Lines.{Cause}
use Rattle.derivations.specs.declared.known.CausedIncompatibility.{CausedIncompatibility}
use Rattle.derivations.specs.declared.known.Reason.TheVariants.{Fact, Resolved}
use Rattle.facts.specs.Lines.{Keeps}
use Rattle.checker.proofs.Growing.{AreLawful-push, AreOrdered-push, Keeps-push, before_end}
use Rattle.checker.proofs.Lists.{get-last, some_at}

-- ---- lists

-- the first of those that are left
pub first_left : {A : Type 0} (xs : List A) (n : ℕ) (x : A) (rest : List A) → drop n xs ≡ x ∷ rest → (slice_get xs n ≡ Some x) × (drop (suc n) xs ≡ rest)
first_left [] zero x rest e = absurd (omega (arith, ap length e))
first_left [] (suc n) x rest e = absurd (omega (arith, ap length e))
first_left (y ∷ xs) zero x rest e = (ap (λ ls. slice_get ls 0) e, ap (λ ls. drop 1 ls) e)
first_left (y ∷ xs) (suc n) x rest e = first_left xs n x rest e

-- where nothing is left
pub nothing_left : {A : Type 0} (xs left : List A) (n : ℕ) → left ≡ drop n xs → length left ≡ 0 → length xs ≤ n
nothing_left xs left n is none = omega (arith, none, ap length is, length-drop n xs)

-- ---- lines that grow

pub Grows-none : (lines : List CausedIncompatibility) → Grows lines lines
Grows-none lines = record { keeps = λ k line at. at; ordered = λ ordered. ordered; lawful = λ packages wanted lawful. lawful }

pub Grows-more : (old half new : List CausedIncompatibility) → Grows old half → Grows half new → Grows old new
Grows-more old half new one two = record {
  keeps = λ k line at. two.keeps k line (one.keeps k line at);
  ordered = λ ordered. two.ordered (one.ordered ordered);
  lawful = λ packages wanted lawful. two.lawful packages wanted (one.lawful packages wanted lawful);
}

-- what follows from two lines, behind them
pub Grows-one : (lines : List CausedIncompatibility) (terms : Terms) (i j pivot : ℕ) (lines' : List CausedIncompatibility) → FollowsFrom lines terms i j pivot
    → lines' ≡ lines ++ record { conclusion = terms; reason = Resolved i j pivot } ∷ [] → Grows lines lines'
Grows-one lines terms i j pivot lines' f is =
    let own : CausedIncompatibility = record { conclusion = terms; reason = Resolved i j pivot } in
    subst (λ (all : List CausedIncompatibility). Grows lines all) (sym is) (record {
      keeps = Keeps-push lines own;
      ordered = λ ordered. AreOrdered-push lines own ordered (before_end lines terms i j pivot f);
      lawful = λ packages wanted lawful. AreLawful-push packages wanted lines own lawful f;
    })

-- ---- the two that a line follows from

-- the same two, where the lines have grown
pub ends_stay : (old new : List CausedIncompatibility) (terms : Terms) (pivot : ℕ) (ends : ℕ × ℕ) → Grows old new → FollowsAs old new terms pivot ends ends
ends_stay old new terms pivot ends grows = record {
  within = λ one two. (still ends.0 one, still ends.1 two);
  follows = λ f. stands_in f;
}
  where
    still : (k : ℕ) → k < length old → k < length new
    still k lt = let there = some_at old k lt in slice_get_within new k there.0 (grows.keeps k there.0 there.1)

    stands_in : FollowsFrom old terms ends.0 ends.1 pivot → FollowsFrom new terms ends.0 ends.1 pivot
    stands_in f = record {
      one = f.one;
      two = f.two;
      one_at = grows.keeps ends.0 f.one f.one_at;
      two_at = grows.keeps ends.1 f.two f.two_at;
      on_pivot = f.on_pivot;
      follows = f.follows;
    }

-- two others, from which it follows in any case
pub ends_new : (old new : List CausedIncompatibility) (terms : Terms) (pivot : ℕ) (ends two : ℕ × ℕ) → FollowsFrom new terms two.0 two.1 pivot → FollowsAs old new terms pivot ends two
ends_new old new terms pivot ends two f = record { within = λ one other. before_end new terms two.0 two.1 pivot f; follows = λ before. f }

-- what two lines say on a pivot on which one of them has a term
pub both_say : (lines : List CausedIncompatibility) (i j pivot : ℕ) (one two : CausedIncompatibility) (terms : Terms) → i < length lines → j < length lines → one ≡ get_or lines i one → two ≡ get_or lines j two
    → (has_term one.conclusion pivot || has_term two.conclusion pivot) ≡ true → Follows terms one.conclusion two.conclusion pivot → FollowsFrom lines terms i j pivot
both_say lines i j pivot one two terms within_one within_two one_is two_is on follows = record {
  one = one;
  two = two;
  one_at = slice_get_read lines (length lines) i one refl within_one one_is;
  two_at = slice_get_read lines (length lines) j two refl within_two two_is;
  on_pivot = on;
  follows = follows;
}

-- ---- moved lines

moved_later : (old new : List CausedIncompatibility) (line : CausedIncompatibility) (place : ℕ) → Keeps old new → IsMovedTo old line place → IsMovedTo new line place
moved_later old new line place keeps m = record { other = m.other; there = keeps place m.other m.there; same = m.same; resolved = m.resolved }

pub AreMoved-none : (known lines : List CausedIncompatibility) (places : List ℕ) → lines ≡ [] → places ≡ [] → AreMoved known lines places
AreMoved-none known lines places no_lines no_places = subst (λ (all : List CausedIncompatibility). AreMoved known all places) (sym no_lines) (record {
  ordered = λ k line at. absurd (none-some line at);
  lawful = λ packages wanted lawful k line at. absurd (none-some line at);
  each = λ k line at lt. absurd (omega (arith, lt, ap length no_places));
})

pub AreMoved-grown : (known old new : List CausedIncompatibility) (places : List ℕ) → Grows old new → AreMoved known old places → AreMoved known new places
AreMoved-grown known old new places grows m = record {
  ordered = grows.ordered m.ordered;
  lawful = λ packages wanted lawful. grows.lawful packages wanted (m.lawful packages wanted lawful);
  each = λ k line at lt. moved_later old new line (get_or places k 0) grows.keeps (m.each k line at lt);
}

-- one more
pub AreMoved-one : (known lines : List CausedIncompatibility) (places : List ℕ) (line own : CausedIncompatibility) (lines' : List CausedIncompatibility) (places' : List ℕ) → AreMoved known lines places → slice_get known (length places) ≡ Some line
    → own.conclusion ≡ line.conclusion → IsReasonFor known lines line own.reason → lines' ≡ lines ++ own ∷ [] → places' ≡ places ++ length lines ∷ [] → AreMoved known lines' places'
AreMoved-one known lines places line own lines' places' m line_at same reason lines_are places_are =
    subst (λ (all : List CausedIncompatibility). AreMoved known all places') (sym lines_are) (subst (λ (ps : List ℕ). AreMoved known (lines ++ own ∷ []) ps) (sym places_are) (record {
      ordered = AreOrdered-push lines own m.ordered reason.before;
      lawful = λ packages wanted lawful. AreLawful-push packages wanted lines own (m.lawful packages wanted lawful)
          (subst (λ t. StandsBy packages wanted lines t own.reason) (sym same) (reason.stands packages wanted lawful));
      each = λ k x at lt. elim (cases_eq k (length places)) [
        | inl here ↦
            let line_same : line ≡ x = same_Some line x (sym line_at ∙ ap (λ n. slice_get known n) (sym here) ∙ at) in
            subst (λ n. IsMovedTo (lines ++ own ∷ []) x n) (sym (get_or_push places (length lines) 0 k (sym here)))
            (subst (λ (l : CausedIncompatibility). IsMovedTo (lines ++ own ∷ []) l (length lines)) line_same
            (record { other = own; there = get-last lines own; same = same; resolved = reason.resolved }))
        | inr apart ↦
            let within : k < length places = omega (arith, lt, apart, length-append places (length lines ∷ [])) in
            subst (λ n. IsMovedTo (lines ++ own ∷ []) x n) (sym (get_or_append_left places (length lines ∷ []) 0 k within))
            (moved_later lines (lines ++ own ∷ []) x (get_or places k 0) (Keeps-push lines own) (m.each k x at within))
      ];
    }))

-- ---- why a moved line stands

pub reason_fact : (known lines : List CausedIncompatibility) (places : List ℕ) (line : CausedIncompatibility) (c : Cause) → slice_get known (length places) ≡ Some line → line.reason ≡ Fact c → IsReasonFor known lines line (Fact c)
reason_fact known lines places line c line_at reason = record {
  resolved = λ resolved. subst (λ r. IsResolved r) reason resolved;
  before = tt;
  stands = λ packages wanted lawful. subst (λ r. StandsBy packages wanted known line.conclusion r) reason (lawful (length places) line line_at);
}

-- by where the two lines are that it cites
module _ (known lines : List CausedIncompatibility) (places : List ℕ) (line : CausedIncompatibility) (i j pivot : ℕ) (m : AreMoved known lines places) (line_at : slice_get known (length places) ≡ Some line)
    (reason : line.reason ≡ Resolved i j pivot) (before : IsBefore (length places) line.reason) where
  both_before : (i < length places) × (j < length places)
  both_before = subst (λ r. IsBefore (length places) r) reason before

  moved_within : (k : ℕ) → k < length places → get_or places k 0 < length lines
  moved_within k lt =
      let there = some_at known k (omega (arith, lt, slice_get_within known (length places) line line_at)) in
      let moved = m.each k there.0 there.1 lt in
      slice_get_within lines (get_or places k 0) moved.other moved.there

  follows_there : FollowsFrom known line.conclusion i j pivot → FollowsFrom lines line.conclusion (get_or places i 0) (get_or places j 0) pivot
  follows_there f =
      let a = m.each i f.one f.one_at both_before.0 in
      let b = m.each j f.two f.two_at both_before.1 in
      record {
        one = a.other;
        two = b.other;
        one_at = a.there;
        two_at = b.there;
        on_pivot = subst (λ t. (has_term a.other.conclusion pivot || has_term t pivot) ≡ true) (sym b.same)
            (subst (λ t. (has_term t pivot || has_term f.two.conclusion pivot) ≡ true) (sym a.same) f.on_pivot);
        follows = subst (λ t. Follows line.conclusion a.other.conclusion t pivot) (sym b.same)
            (subst (λ t. Follows line.conclusion t f.two.conclusion pivot) (sym a.same) f.follows);
      }

  pub reason_resolved : (lines' : List CausedIncompatibility) (terms : Terms) (two : ℕ × ℕ) → terms ≡ line.conclusion → FollowsAs lines lines' terms pivot (get_or places i 0, get_or places j 0) two
      → IsReasonFor known lines' line (Resolved two.0 two.1 pivot)
  reason_resolved lines' terms two said f =
      let g = subst (λ t. FollowsAs lines lines' t pivot (get_or places i 0, get_or places j 0) two) said f in
      record {
        resolved = λ resolved. tt;
        before = g.within (moved_within i both_before.0) (moved_within j both_before.1);
        stands = λ packages wanted lawful. g.follows (follows_there (subst (λ r. StandsBy packages wanted known line.conclusion r) reason (lawful (length places) line line_at)));
      }

-- ---- the search, and what it has become

pub same_search : (known : List CausedIncompatibility) (place : ℕ) → AreOrdered known → IsSameSearch known place known place
same_search known place ordered = record {
  ordered = ordered;
  lawful = λ packages wanted lawful. lawful;
  own = λ line at. record { other = line; there = at; same = refl; resolved = λ resolved. resolved };
}

-- where all lines have moved
pub moved_search : (known lines : List CausedIncompatibility) (places : List ℕ) (place : ℕ) → AreMoved known lines places → length known ≤ length places → IsSameSearch known place lines (get_or places place 0)
moved_search known lines places place m all = record {
  ordered = m.ordered;
  lawful = m.lawful;
  own = λ line line_at. m.each place line line_at (omega (arith, slice_get_within known place line line_at, all));
}

-- a place among the lines is one among those that have moved
pub all_moved : (known : List CausedIncompatibility) (places : List ℕ) (place : ℕ) → IsResolvedAt known place → length known ≤ length places → place < length places
all_moved known places place r all = omega (arith, slice_get_within known place r.line r.at, all)

-- ---- the end of a search

pub end_moved : (known : List CausedIncompatibility) (place : ℕ) (lines : List CausedIncompatibility) (at : ℕ) → IsSameSearch known place lines at → IsEndLine known place → IsEndLine lines at
end_moved known place lines at s e =
    let m = s.own e.line e.at in
    record { line = m.other; at = m.there; resolved = m.resolved e.resolved; ended = subst (λ t. IsEnd t) (sym m.same) e.ended }

pub resolved_there : (known : List CausedIncompatibility) (place : ℕ) → IsEndLine known place → IsResolvedAt known place
resolved_there known place e = record { line = e.line; at = e.at; resolved = e.resolved }

pub said_moved : (known : List CausedIncompatibility) (place : ℕ) (lines : List CausedIncompatibility) (at : ℕ) → IsSameSearch known place lines at → IsEndLine known place → said_at lines at ≡ said_at known place
said_moved known place lines at s e = let m = s.own e.line e.at in ap said_by m.there ∙ m.same ∙ sym (ap said_by e.at)
