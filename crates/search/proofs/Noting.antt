-- An assignment is added to what is noted, or taken away.
use Rattle.std.proofs.Common.{get_or, add-one, ◌≡◌, ◌<◌, ◌+◌, ◌∙◌, ℕ, zero, suc, refl, sym, ap, subst, arith, true, false, true≢false, List, [], ◌∷◌, ◌++◌, length, take, inl, inr, nat_eq, length-append}
use Rattle.std.proofs.lemmas.Bool.{cases_Bool, eqb-true, eq-eqb}
use Rattle.std.proofs.lemmas.List.{take_more}
use Rattle.std.proofs.lemmas.Option.{none-some, same_Some, slice_get_within, slice_get_read, get_or_from_slice_get}
use Rattle.std.specs.Prelude.{Option, None, Some, is_some, slice_get}
use Rattle.std.specs.Option.{option_flatten, option_or, option_to_list}
use Rattle.search.specs.declared.assignment.Assignment.{Assignment}
use Rattle.search.specs.declared.trail.Note.{Note}
use Rattle.search.specs.declared.assignment.Why.{Why}
use Rattle.search.specs.declared.assignment.Why.TheVariants.{Decided, Derived}
use Rattle.terms.specs.Terms.{true_of}
use Rattle.search.specs.Assignments.{says, is_decided, decided, decided_by}
use Rattle.search.specs.Trail.{last_place, through, IsNote, IsNoted, IsPlaceOn}
use Rattle.search.proofs.Beginnings.{get-cases, get-front, get-last, take-front, take-whole}
use Rattle.search.proofs.Decided.{decided-push}
use Rattle.search.proofs.Places.{last_place-push, last_on_package, decided-last}

module _ (made : List Assignment) (notes : List Note) (a : Assignment) (note : Note) (heads heads' : ℕ → Option (Option ℕ))
    (other : (p : ℕ) → nat_eq a.pkg p ≡ false → heads' p ≡ heads p) where
  pub noted-add : IsNoted made notes heads → IsNote made a note → heads' a.pkg ≡ Some (Some (length made)) → IsNoted (made ++ a ∷ []) (notes ++ note ∷ []) heads'
  noted-add m new own = record {
    lengths = length-append notes (note ∷ []) ∙ ap (λ n. n + 1) m.lengths ∙ sym (length-append made (a ∷ []));
    each = λ i b n at_made at_notes. elim (get-cases made a b i at_made) [
      | inl here ↦
          let within : i < length notes = omega (arith, m.lengths, here.0) in
          subst (λ before. IsNote before b n) (sym (take-front made a i (omega (arith, here.0)))) (m.each i b n here.1 (sym (get-front notes note i within) ∙ at_notes))
      | inr end ↦
          let is_note : note ≡ n = same_Some note n (sym (get-last notes note i (end.0 ∙ sym m.lengths)) ∙ at_notes) in
          let of_a : IsNote made a n = subst (λ x. IsNote made a x) is_note new in
          subst (λ before. IsNote before b n) (sym (take-whole made a i end.0)) (subst (λ x. IsNote made x n) (same_Some a b end.1) of_a)
    ];
    last = λ p. elim (cases_Bool (nat_eq a.pkg p)) [
      | inl e ↦ ap option_flatten (ap heads' (sym (eqb-true a.pkg p e)) ∙ own) ∙ sym (last_place-push made a p ∙ rw e refl)
      | inr f ↦ ap option_flatten (other p f) ∙ m.last p ∙ sym (last_place-push made a p ∙ rw f refl)
    ];
  }

  pub noted-undo : IsNoted (made ++ a ∷ []) (notes ++ note ∷ []) heads → heads' a.pkg ≡ Some note.earlier → IsNoted made notes heads'
  noted-undo m own =
      let n : length notes ≡ length made = omega (arith, m.lengths, length-append notes (note ∷ []), length-append made (a ∷ [])) in
      let here : IsNote (take (length made) (made ++ a ∷ [])) a note = m.each (length made) a note (get-last made a (length made) refl) (get-last notes note (length made) (sym n)) in
      let was : note.earlier ≡ last_place made a.pkg = here.earlier ∙ ap (λ before. last_place before a.pkg) (take-whole made a (length made) refl) in
      record {
        lengths = n;
        each = λ i b x at_made at_notes.
            let lt = slice_get_within made i b at_made in
            let lt' = slice_get_within notes i x at_notes in
            subst (λ before. IsNote before b x) (take-front made a i (omega (arith, lt)))
            (m.each i b x (get-front made a i lt ∙ at_made) (get-front notes note i lt' ∙ at_notes));
        last = λ p. elim (cases_Bool (nat_eq a.pkg p)) [
          | inl e ↦
              let same = eqb-true a.pkg p e in
              ap option_flatten (ap heads' (sym same) ∙ own) ∙ was ∙ ap (last_place made) same
          | inr f ↦ ap option_flatten (other p f) ∙ m.last p ∙ last_place-push made a p ∙ rw f refl
        ];
      }

  -- the package of the last assignment has an entry
  pub undo-there : IsNoted (made ++ a ∷ []) (notes ++ note ∷ []) heads → option_flatten (heads a.pkg) ≡ Some (length made)
  undo-there m = m.last a.pkg ∙ last_place-push made a a.pkg ∙ rw (eq-eqb a.pkg a.pkg refl) refl

-- what gives the same last places is noted alike
pub noted-same : (made made' : List Assignment) (notes notes' : List Note) (heads heads' : ℕ → Option (Option ℕ)) → made' ≡ made → notes' ≡ notes
    → ((p : ℕ) → option_flatten (heads' p) ≡ option_flatten (heads p)) → IsNoted made notes heads → IsNoted made' notes' heads'
noted-same made made' notes notes' heads heads' e f same m = rw (e, f) (record { lengths = m.lengths; each = m.each; last = λ p. same p ∙ m.last p })

-- ---- what a look at a note tells

module _ (made : List Assignment) (notes : List Note) (heads : ℕ → Option (Option ℕ)) (m : IsNoted made notes heads)
    (i : ℕ) (note : Note) (read : note ≡ get_or notes i note) (p : ℕ) (on : IsPlaceOn made p (Some i)) where
  lt : i < length made
  lt = slice_get_within made i on.0 on.1

  here : IsNote (take i made) on.0 note
  here = m.each i on.0 note on.1 (slice_get_read notes (length notes) i note refl (omega (arith, lt, m.lengths)) read)

  next : take (suc i) made ≡ take i made ++ on.0 ∷ []
  next = sym (rw add-one refl) ∙ take_more made i on.0 lt ∙ ap (λ x. take i made ++ x ∷ []) (get_or_from_slice_get made i on.0 on.0 on.1)

  pub note-said : (c : Option ℕ) → true_of note.said c ≡ says (take (suc i) made) p c
  note-said c = here.said c ∙ ap (λ q. says (take i made ++ on.0 ∷ []) q c) on.2 ∙ ap (λ xs. says xs p c) (sym next)

  pub note-decided : note.decided ≡ decided (take (suc i) made) p
  note-decided = here.decided ∙ ap (decided (take i made ++ on.0 ∷ [])) on.2 ∙ ap (λ xs. decided xs p) (sym next)

  pub note-earlier : note.earlier ≡ last_place (take i made) p
  note-earlier = here.earlier ∙ ap (last_place (take i made)) on.2

-- the note of a new assignment
pub new-note : (made : List Assignment) (a : Assignment) (note : Note) → ((c : Option ℕ) → true_of note.said c ≡ says (made ++ a ∷ []) a.pkg c)
    → note.decided ≡ option_or (decided made a.pkg) (decided_by a.why) → note.earlier ≡ last_place made a.pkg → IsNote made a note
new-note made a note said is_decided earlier = record {
  said = said;
  decided = is_decided ∙ sym (decided-push made a a.pkg ∙ rw (eq-eqb a.pkg a.pkg refl) refl);
  earlier = earlier;
}

-- what it decides, for a decision and for a derivation
pub decided-new : (made : List Assignment) (p k : ℕ) (why : Why) (d : Option ℕ) → why ≡ Decided k → d ≡ Some k → (is_some (decided_by why) ≡ true → is_decided made p ≡ false) → d ≡ option_or (decided made p) (decided_by why)
decided-new made p k why d is e once = e ∙ sym (rw (none_of (decided made p) (once (ap (λ w. is_some (decided_by w)) is)), is) refl)
  where
    none_of : (o : Option ℕ) → is_some o ≡ false → o ≡ None
    none_of None h = refl
    none_of (Some x) h = absurd (true≢false h)

pub decided-kept : (made : List Assignment) (p k : ℕ) (why : Why) (last d : Option ℕ) → why ≡ Derived k → last ≡ last_place made p
    → ((q : ℕ) → IsPlaceOn made q last → d ≡ decided (take (through last) made) q) → d ≡ option_or (decided made p) (decided_by why)
decided-kept made p k why last d is is_last at =
    at p (subst (IsPlaceOn made p) (sym is_last) (last_on_package made p)) ∙ ap (λ o. decided (take (through o) made) p) is_last ∙ sym (decided-last made p)
    ∙ sym (rw is (or_none (decided made p)))
  where
    or_none : (x : Option ℕ) → option_or x None ≡ x
    or_none None = refl
    or_none (Some j) = refl

-- ---- the steps of the functions, over plain variables

pub added : (made made' : List Assignment) (notes notes' : List Note) (heads heads' : ℕ → Option (Option ℕ)) (a : Assignment) (note : Note) (place : ℕ)
    → made' ≡ made ++ a ∷ [] → notes' ≡ notes ++ note ∷ [] → IsNoted made notes heads → IsNote made a note
    → place ≡ length made → heads' a.pkg ≡ Some (Some place) → ((p : ℕ) → nat_eq a.pkg p ≡ false → heads' p ≡ heads p) → IsNoted made' notes' heads'
added made made' notes notes' heads heads' a note place is_made is_notes m new at own other =
    rw (is_made, is_notes) (noted-add made notes a note heads heads' other m new (own ∙ ap (λ n. Some (Some n)) at))

pub some-within : {X : Type 0} (xs : List X) (i : ℕ) → is_some (slice_get xs i) ≡ true → i < length xs
some-within [] i e = absurd (true≢false (sym e))
some-within (x ∷ xs) zero e = omega arith
some-within (x ∷ xs) (suc i) e = omega (arith, some-within xs i e)

has_entry : (x : Option (Option ℕ)) (i : ℕ) → option_flatten x ≡ Some i → is_some x ≡ true
has_entry None i e = absurd (none-some i e)
has_entry (Some o) i e = refl

module _ (made made' : List Assignment) (notes notes' : List Note) (heads : ℕ → Option (Option ℕ)) (o : Option Assignment) (q : Option Note) (a : Assignment) (note : Note)
    (is_made : made ≡ made' ++ option_to_list o) (is_a : o ≡ Some a) (is_notes : notes ≡ notes' ++ option_to_list q) (is_note : q ≡ Some note) (m : IsNoted made notes heads) where
  whole_made : made ≡ made' ++ a ∷ []
  whole_made = is_made ∙ ap (λ x. made' ++ option_to_list x) is_a

  whole_notes : notes ≡ notes' ++ note ∷ []
  whole_notes = is_notes ∙ ap (λ x. notes' ++ option_to_list x) is_note

  whole : IsNoted (made' ++ a ∷ []) (notes' ++ note ∷ []) heads
  whole = rw (← whole_made, ← whole_notes) m

  undone-there : option_flatten (heads a.pkg) ≡ Some (length made')
  undone-there = undo-there made' notes' a note heads heads (λ p f. refl) whole

  -- the package is among the heads
  pub undone-entry : is_some (heads a.pkg) ≡ true
  undone-entry = has_entry (heads a.pkg) (length made') undone-there

  pub undone : (heads' : ℕ → Option (Option ℕ)) → heads' a.pkg ≡ Some note.earlier → ((p : ℕ) → nat_eq a.pkg p ≡ false → heads' p ≡ heads p) → IsNoted made' notes' heads'
  undone heads' own other = noted-undo made' notes' a note heads heads' other whole own
