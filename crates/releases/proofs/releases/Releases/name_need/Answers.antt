use Rattle.std.proofs.Common.{◌≡◌, ◌∙◌, ◌++◌, ◌∷◌, [], ℕ, List, if◌then◌else◌, ap, arith, false, get_or, length, length-append, sym, true, true≢false}
use Rattle.std.specs.Prelude.{Some, position, slice_get}
use Rattle.std.specs.List.{list_any}
use Rattle.std.specs.Str.{bytes_eq}
use Rattle.std.proofs.lemmas.List.Quantifiers.{position-Some}
use Rattle.std.proofs.lemmas.Option.{slice_get-get_or}
use Rattle.std.proofs.Math.Seq.{get_or-append_seam}
use Rattle.versions.specs.NameLaws.{same_name}
use Rattle.versions.specs.Words.{Text}
use Rattle.versions.specs.Bounds.{Reach}
use Rattle.releases.specs.Kept.{Listing}
use Rattle.releases.specs.Releases.{is_named, with_need}
use Rattle.releases.proofs.MatchingLemmas.{IsKept-named}
use Rattle.releases.proofs.releases.Releases.name_need.Goals as goal

-- the requirement stands at the place that a look-up tells
known : (needs : List Text) (need : Text) (i : ℕ) → position (bytes_eq need) needs ≡ Some i → slice_get needs i ≡ Some need
known needs need i at =
    let p = position-Some (bytes_eq need) needs i [] at in
    slice_get-get_or needs i [] p.0 ∙ ap (λ (t : Text). Some t) (sym (same_name need (get_or needs i []) p.1))

-- one that is new is added
grown : (needs after : List Text) (need copy : Text) → copy ≡ need → list_any (bytes_eq need) needs ≡ false
    → after ≡ (if list_any (bytes_eq copy) needs then needs else needs ++ copy ∷ []) → after ≡ needs ++ need ∷ []
grown needs after need copy same new is =
    is ∙ ap (λ (t : Text). if list_any (bytes_eq t) needs then needs else needs ++ t ∷ []) same ∙ ap (λ b. if b then needs else needs ++ need ∷ []) new

-- as the last
last : (needs after : List Text) (need copy : Text) (n : ℕ) → copy ≡ need → n ≡ length needs → list_any (bytes_eq need) needs ≡ false
    → after ≡ (if list_any (bytes_eq copy) needs then needs else needs ++ copy ∷ []) → slice_get after n ≡ Some need
last needs after need copy n same end new is =
    ap (λ (l : List Text). slice_get l n)
    (grown needs after need copy same new is)
    ∙ slice_get-get_or (needs ++ need ∷ []) n [] (omega (arith, length-append needs (need ∷ []), end))
    ∙ ap (λ (t : Text). Some t) (ap (λ i. get_or (needs ++ need ∷ []) i []) end ∙ get_or-append_seam needs need [] [])

-- a requirement that is named stays where it is
kept : (needs : List Text) (need : Text) → true ≡ is_named needs need → needs ≡ with_need needs need
kept needs need named = sym (ap (λ b. if b then needs else needs ++ need ∷ []) (sym named))

-- one that is not found among those that are stored is not named
unnamed : (stored seen : Listing) (need : Text) → stored ≡ seen → false ≡ is_named stored.needs need → is_named seen.needs need ≡ true → ⊥
unnamed stored seen need same missed named = true≢false (sym (missed ∙ ap (λ (l : Listing). is_named l.needs need) same ∙ named))

pub returns-in-Some-clause-ok : goal.returns-in-Some-clause-ok
returns-in-Some-clause-ok c = rw (← c.self.view_is) (kept c.self.inside.needs.keys c.args.need.now c.in-Some.ensures.found)

pub returns-in_err-reserve-clause-succeeds : goal.returns-in_err-reserve-clause-succeeds
returns-in_err-reserve-clause-succeeds c = λ named. absurd (unnamed _ _ c.args.need.now c.self.view_is c.in_default.ensures.found named)

pub returns-in_err-reserve-2-clause-succeeds : goal.returns-in_err-reserve-2-clause-succeeds
returns-in_err-reserve-2-clause-succeeds c = λ named. absurd (unnamed _ _ c.args.need.now c.self.view_is c.in_default.ensures.found named)

pub returns-in_err-named-clause-succeeds : goal.returns-in_err-named-clause-succeeds
returns-in_err-named-clause-succeeds c = λ named. absurd (unnamed _ _ c.args.need.now c.self.view_is c.in_default.ensures.found named)

pub returns-in_err-keep_set-clause-succeeds : goal.returns-in_err-keep_set-clause-succeeds
returns-in_err-keep_set-clause-succeeds c = λ named. absurd (unnamed _ _ c.args.need.now c.self.view_is c.in_default.ensures.found named)

pub returns-clause-ok : goal.returns-clause-ok
returns-clause-ok c =
    let keys = rw c.unwrap.ensures at c.insert.ensures.keys in
    let same : c.reserve.new.self.keys ≡ c.self.inside.needs.keys = c.in_ok-reserve.ensures.keys in
    rw (← c.self.view_is) (grown c.self.inside.needs.keys _ c.args.need.now c.in_ok-named.named c.in_ok-named.ensures.cases (sym c.in_default.ensures.found) (rw same at keys)
    ∙ sym (ap (λ b. if b then c.self.inside.needs.keys else c.self.inside.needs.keys ++ c.args.need.now ∷ []) (sym c.in_default.ensures.found)))

pub returns-in-Some-clause-place : goal.returns-in-Some-clause-place
returns-in-Some-clause-place c = rw (← c.self.view_is) (known c.self.inside.needs.keys c.args.need.now c.in-Some.place (sym c.in-Some.ensures.index))

pub returns-clause-place : goal.returns-clause-place
returns-clause-place c =
    let keys = rw c.unwrap.ensures at c.insert.ensures.keys in
    let same : c.reserve.new.self.keys ≡ c.self.inside.needs.keys = c.in_ok-reserve.ensures.keys in
    last c.self.inside.needs.keys _ c.args.need.now c.in_ok-named.named c.len-place.result c.in_ok-named.ensures.cases (c.len-place.ensures.len ∙ ap length same) (sym c.in_default.ensures.found)
    (rw same at keys)

pub invariant_of-self-2 : goal.invariant_of-self-2
invariant_of-self-2 c =
    let bounds_in = rw c.unwrap-2.ensures at c.push.ensures.items in
    let bounds : c.push.new.self.items ≡ c.self.inside.bounds.items ++ c.of-bounds.result ∷ [] = bounds_in ∙ ap (λ (l : List Reach). l ++ c.of-bounds.result ∷ []) c.in_ok-reserve-2.ensures.items in
    let keys = rw c.unwrap.ensures at c.insert.ensures.keys in
    let same : c.reserve.new.self.keys ≡ c.self.inside.needs.keys = c.in_ok-reserve.ensures.keys in
    let placed : c.len-place.result ≡ length c.self.inside.needs.keys = c.len-place.ensures.len ∙ ap length same in
    let kept = rw (c.new-ranked.ensures, c.deref.ensures.value, placed) at c.in_ok-keep_set.ensures.kept in
    let needs = grown c.self.inside.needs.keys _ c.args.need.now c.in_ok-named.named c.in_ok-named.ensures.cases (sym c.in_default.ensures.found) (rw same at keys) in
    IsKept-named c.self.inside.releases.items c.self.inside.rising.items c.self.inside.needs.keys _ c.self.inside.sets.items _ c.self.inside.bounds.items _ c.self.inside.is_plain c.args.need.now c.of-bounds.result
    c.self.invariant kept c.of-bounds.ensures needs bounds

pub new-ranked-requires-clause-plain : goal.new-ranked-requires-clause-plain
new-ranked-requires-clause-plain c = rw c.deref.ensures.value c.self.invariant.plain
